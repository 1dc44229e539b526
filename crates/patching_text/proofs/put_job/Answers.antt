-- The buffers come from the input, held up to one byte over the limit.
use Rattle.std.proofs.Common.{◌≡◌, ℕ, List, sym, ap, ◌∙◌, arith}
use Rattle.input.specs.Input.{held}
use Rattle.input.proofs.InputLaws.{held_in}
use Rattle.patching_text.specs.Script.{lent_text, job_text}
use Rattle.patching_text.proofs.TurnsLaws.{end_most}
use Rattle.patching_text.proofs.put_job.Goals as goal

-- Equal buffers give the same text, whatever text it is.
text_by : (text : (regions pending breakpoints : List ℕ) → List ℕ) (out r p b r' p' b' : List ℕ) → r ≡ r' → p ≡ p' → b ≡ b' → out ≡ text r p b → out ≡ text r' p' b'
text_by text out r p b r' p' b' hr hp hb h = rw (← hr, ← hp, ← hb) h

pub put_end-requires : goal.put_end-requires
put_end-requires g c =
    let t = c.put_turns-counts in
    let r = held_in c.list_of.result.now _ c.hold_in-regions.ensures in
    let p = held_in c.list_of-2.result.now _ c.hold_in-pending.ensures in
    let b = held_in c.list_of-3.result.now _ c.hold_in-breakpoints.ensures in
    omega (arith, t.ensures.short, end_most t.result t.new.regions t.new.pending t.new.breakpoints (omega (arith, t.auto.regions, r.most)) (omega (arith, t.auto.pending, p.most)) (omega (arith, t.auto.breakpoints, b.most)), c.requires)

pub returns : goal.returns
unfolding job_text
returns g c =
    let n = c.behind_lists-numbers in
    text_by (lent_text c.args.job c.args.input.now) _ _ _ _ _ _ _
    ((held_in c.list_of.result.now _ c.hold_in-regions.ensures).bytes ∙ ap held c.list_of.ensures)
    ((held_in c.list_of-2.result.now _ c.hold_in-pending.ensures).bytes ∙ ap held c.list_of-2.ensures)
    ((held_in c.list_of-3.result.now _ c.hold_in-breakpoints.ensures).bytes ∙ ap held c.list_of-3.ensures)
    (rw (
      ← c.list_of-4.ensures,
      ← c.list_of-5.ensures,
      ← c.list_of-6.ensures,
      ← n.ensures,
      ← c.behind.ensures,
      ← c.counts_in.ensures,
    ) (c.put_end.ensures ∙ sym c.put_turns-counts.ensures.text))
