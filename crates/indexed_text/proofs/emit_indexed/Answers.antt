-- The buffers are the input's. Of each, at most one byte more than the limit is held.
use Rattle.std.proofs.Common.{◌≡◌, ℕ, List, length, sym, ap, arith, ◌∙◌}
use Rattle.emit_outcome.specs.Call.{Lent, lent_of}
use Rattle.indexed_outcome.specs.Indexed.{indexed_outcome_of}
use Rattle.input.specs.Input.{held}
use Rattle.input.proofs.InputLaws.{held_in}
use Rattle.indexed_text.specs.IndexedText.{outcome_text, call_text, emit_indexed_text}
use Rattle.indexed_text.proofs.IndexedTextLaws.{outcome_most}
use Rattle.indexed_text.proofs.emit_indexed.Goals as goal

-- Calls with equal buffers have equal texts.
text_by : (text : Lent → List ℕ → List ℕ) (out d p b i d' p' b' i' : List ℕ) → d ≡ d' → p ≡ p' → b ≡ b' → i ≡ i'
    → out ≡ text (lent_of d p b) i → out ≡ text (lent_of d' p' b') i'
text_by text out d p b i d' p' b' i' hd hp hb hi h = rw (← hd, ← hp, ← hb, ← hi) h

pub put_emitted-requires : goal.put_emitted-requires
put_emitted-requires c =
    let m = c.make_call-emitted in
    let d = held_in c.list_of.result.now _ c.hold_in-data.ensures in
    let p = held_in c.list_of-2.result.now _ c.hold_in-pending.ensures in
    let b = held_in c.list_of-3.result.now _ c.hold_in-breakpoints.ensures in
    let u = held_in c.list_of-4.result.now _ c.hold_in-index.ensures in
    let o = indexed_outcome_of m.result.answer m.result.counts (lent_of m.new.data m.new.pending m.new.breakpoints) m.new.index in
    omega (
      arith,
      ap length c.clear.ensures,
      outcome_most o (omega (arith, m.auto.data, d.most)) (omega (arith, m.auto.pending, p.most)) (omega (arith, m.auto.breakpoints, b.most)) (omega (arith, m.auto.index, u.most)),
    )

pub returns : goal.returns
unfolding emit_indexed_text
returns c =
    text_by (call_text c.args.input.now) _ _ _ _ _ _ _ _ _
    ((held_in c.list_of.result.now _ c.hold_in-data.ensures).bytes ∙ ap held c.list_of.ensures)
    ((held_in c.list_of-2.result.now _ c.hold_in-pending.ensures).bytes ∙ ap held c.list_of-2.ensures)
    ((held_in c.list_of-3.result.now _ c.hold_in-breakpoints.ensures).bytes ∙ ap held c.list_of-3.ensures)
    ((held_in c.list_of-4.result.now _ c.hold_in-index.ensures).bytes ∙ ap held c.list_of-4.ensures)
    (rw c.clear.ensures at c.put_emitted.ensures ∙ ap outcome_text (sym c.make_call-emitted.ensures.outcome_is))
