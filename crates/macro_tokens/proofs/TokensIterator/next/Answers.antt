use Rattle.std.proofs.Common.{◌≡◌, ◌<◌, ℕ, List, ◌∷◌, None, sym, length, ap, ◌∙◌, arith, rules}
use Rattle.record.specs.Records.{places_from, first_bad}
use Rattle.record.proofs.RecordsLaws.{good_ok, good_next, places_step, places_end}
use Rattle.lexer.specs.Tokens.{TokenIs, token_ok}
use Rattle.lexer.proofs.TokensLaws.{token_is}
use Rattle.macro_tokens.proofs.TokensIterator.next.Goals as goal

-- A token stands where the walk is.
here : (s : List ℕ) (at : ℕ) → at < length s → first_bad (token_ok s) (places_from s at) ≡ None → TokenIs s at
here s at h g = token_is s at (good_ok (token_ok s) s at h g)

pub returns-then-at-self-clause-steps : goal.returns-then-at-self-clause-steps
returns-then-at-self-clause-steps c =
    let e = places_end c.args.self.now.list.now c.args.self.now.at (omega arith) in
    (e, e)

pub next-requires : goal.next-requires
next-requires c =
    let w = c.args.self.now in
    omega (arith, (here w.list.now w.at c.if-at-self.false w.good).head)

pub invariant_of-self : goal.invariant_of-self
invariant_of-self c =
    let w = c.args.self.now in
    let s = w.list.now in
    record { good = ap (λ (p : ℕ). first_bad (token_ok s) (places_from s p)) c.next.ensures.0 ∙ good_next (token_ok s) s w.at c.if-at-self.false (here s w.at c.if-at-self.false w.good).whole_at w.good }

pub returns-clause-steps : goal.returns-clause-steps
returns-clause-steps c =
    let w = c.args.self.now in
    let s = w.list.now in
    places_step s w.at c.if-at-self.false (here s w.at c.if-at-self.false w.good).whole_at ∙ ap (λ (p : ℕ). w.at ∷ places_from s p) (sym c.next.ensures.0)

pub returns-clause-goes : goal.returns-clause-goes
returns-clause-goes c =
    let e = ap length (returns-clause-steps c) in
    search rules
