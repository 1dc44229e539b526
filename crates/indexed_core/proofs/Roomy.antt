-- If the index buffer is as long as the pending list that an accepted line leaves, the new index has room. Then no line is refused with 17.
-- Assumes nothing.
use Rattle.std.specs.Prelude.{ℕ, ◌+◌, ◌≤◌, List, ◌≡◌, length, take}
use Rattle.std.proofs.Common.{arith, sym, subst, length-take}
use Rattle.jobs.specs.declared.Job.{Job}
use Rattle.record.specs.Stores.{append}
use Rattle.loading.specs.declared.LoadForm.{LoadForm}
use Rattle.emit_outcome.specs.Call.{EmitOutcome, filled_pending}
use Rattle.emit_outcome.specs.Emit.{emit_outcome}
use Rattle.emit_outcome.specs.Room.{new_pending}
use Rattle.emit_outcome.specs.Answer.{done_at}
use Rattle.descriptors.specs.Mnemonics.{mnemonic_location}
use Rattle.finished_words.specs.Listed.{Bytes}
use Rattle.routine.proofs.AcceptedLaws.{accepted}
use Rattle.routine.proofs.LineFitsLaws.{pending_after}
use Rattle.label_uses.specs.UseBytes.{index_of}
use Rattle.label_uses.proofs.IndexFits.{index_fits}
use Rattle.indexed_outcome.specs.Indexed.{IndexedCall}
use Rattle.indexed_outcome.proofs.MakeLaws.{filled_layout}

pub line_roomy : (job : Job) (x : IndexedCall) (position : ℕ) (loaded : LoadForm) → Bytes x.call.token_list → Bytes x.call.mnemonic
    → (emit_outcome job x.call).answer ≡ done_at position loaded → (emit_outcome job x.call).counts.pending ≤ length x.index
    → length (index_of x.labels (filled_pending (emit_outcome job x.call).lent (emit_outcome job x.call).counts)) ≤ length x.index
line_roomy job x position loaded tb mb e =
    let c = x.call in
    let a = accepted job c position loaded tb e in
    let old = c.numbers.counts.pending in
    let new : List ℕ = new_pending c.token_list (mnemonic_location c.mnemonic) c.numbers a.made.pairs in
    let buffer : List ℕ = append c.lent.pending old new in
    let k = index_fits x.labels (take (old + length new) buffer) (filled_layout (old + length new) buffer x.labels x.index (pending_after job c a mb)) in
    subst (λ (o : EmitOutcome). o.counts.pending ≤ length x.index → length (index_of x.labels (filled_pending o.lent o.counts)) ≤ length x.index) (sym a.outcome_is)
    (λ h. omega (arith, h, k, length-take (old + length new) buffer))
