use Rattle.std.proofs.Common.{length, arith, ◌≡◌, ℕ, List, ap, sym, ◌∙◌}
use Rattle.input.specs.Input.{list_of, behind_lists, word_or_zero, held}
use Rattle.input.proofs.InputLaws.{held_in}
use Rattle.indexed_outcome.specs.Make.{make_outcome}
use Rattle.index_text.specs.IndexText.{outcome_text, make_index_text}
use Rattle.index_text.proofs.IndexTextLaws.{held_text, made_most}
use Rattle.index_text.proofs.make_index.Goals as goal
use Rattle.index_text.proofs.make_index.Goals.{After-make_index}

-- what is printed, by what was read of the input
text_is : (input pending labels index : List ℕ) (fill : ℕ) → pending ≡ list_of 0 input → labels ≡ list_of 1 input → fill ≡ word_or_zero (behind_lists 3 input) 0 → index ≡ held (list_of 2 input)
    → outcome_text (make_outcome fill pending labels index) ≡ make_index_text input
unfolding make_index_text
text_is input pending labels index fill p l n i =
    ap (λ (d : List ℕ). outcome_text (make_outcome fill pending labels d)) i ∙ held_text fill pending labels (list_of 2 input) ∙ rw (n, p, l)

printed : (c : After-make_index) → outcome_text (make_outcome c.word_or_zero-fill.result c.list_of-pending.result.now c.list_of-labels.result.now c.hold_in-index.result.now) ≡ make_index_text c.args.input.now
printed c =
    let i : c.hold_in-index.result.now ≡ held (list_of 2 c.args.input.now) = (held_in c.list_of.result.now _ c.hold_in-index.ensures).bytes ∙ ap held c.list_of.ensures in
    text_is c.args.input.now _ _ _ _ c.list_of-pending.ensures c.list_of-labels.ensures (c.word_or_zero-fill.ensures ∙ ap (λ (x : List ℕ). word_or_zero x 0) c.behind_lists.ensures) i

pub put_made-requires : goal.put_made-requires
put_made-requires c =
    let h = held_in c.list_of.result.now _ c.hold_in-index.ensures in
    let m = made_most c.in-Ok.count c.make_index.new.index (omega (arith, c.make_index.auto.index, h.most)) in
    (omega arith, omega (arith, ap length c.clear.ensures, m))

pub returns-in-Ok : goal.returns-in-Ok
returns-in-Ok c = rw (c.put_made.ensures, c.clear.ensures) (sym (ap outcome_text c.in-Ok.ensures) ∙ printed (goal.at.returns-in-Ok c).After-make_index)

pub returns-in-Err : goal.returns-in-Err
returns-in-Err c = rw (c.push_refusal.ensures, c.clear.ensures) (sym (ap outcome_text c.in-Err.ensures) ∙ printed (goal.at.returns-in-Err c).After-make_index)
