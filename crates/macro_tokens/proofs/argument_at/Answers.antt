use Rattle.std.proofs.Common.{◌≡◌, ◌+◌, ◌-◌, ℕ, List, get_or, sym, ap, ◌∙◌, arith}
use Rattle.record.specs.Bytes.{part}
use Rattle.macros.specs.Macros.{index_of}
use Rattle.macros.proofs.KnownLaws.{text_part}
use Rattle.macro_tokens.specs.Places.{parameters_in, number_at}
use Rattle.macro_tokens.proofs.PlacesLaws.{place_argument, place_past}
use Rattle.macro_tokens.proofs.argument_at.Goals as goal
use Rattle.macro_tokens.proofs.argument_at.Goals.{After-index_of}

number : (c : After-index_of) → number_at c.args.reading.now.list.now c.args.reading.now.body c.args.at
    ≡ index_of (part c.args.reading.now.list.now (c.args.at + 12) (c.next-next.result - (c.args.at + 12))) (parameters_in c.args.reading.now.list.now c.args.reading.now.body)
number c =
    let a = c.args in
    ap (λ (x : List ℕ). index_of x (parameters_in a.reading.now.list.now a.reading.now.body)) (sym (text_part a.reading.now.list.now a.at c.next-next.result c.next-next.ensures.0))

pub returns-in-Some : goal.returns-in-Some
returns-in-Some c =
    let a = c.args in
    let e = c.in-Some.ensures.0 ∙ sym (number (goal.at.returns-in-Some c).After-index_of) in
    ap (λ (j : ℕ). get_or a.reading.now.body.args j 0) e ∙ sym (place_argument a.reading.now.list.now a.reading.now.body a.at c.requires.2 (omega (arith, e, c.in-Some.ensures.1)))

pub returns-in-None : goal.returns-in-None
returns-in-None c =
    let a = c.args in
    let e = number (goal.at.returns-in-None c).After-index_of in
    sym (place_past a.reading.now.list.now a.reading.now.body a.at c.requires.2 (omega (arith, e, c.in-None.ensures)))
