-- If labels and index are right, no label repeats a name and the new index has room, a call with an index answers and writes what the same call
-- without one does. What that call refuses of its six buffers is refused first here too. Assumes nothing.
use Rattle.std.specs.Prelude.{◌≤◌, ◌≡◌, refl, length, Err, None}
use Rattle.std.proofs.Common.{ap, le-leb}
use Rattle.jobs.specs.declared.Job.{Job}
use Rattle.refusal.specs.Verdicts.{layout_verdict, name_verdict}
use Rattle.refusal.specs.declared.Refusal.{Refusal}
use Rattle.labels.specs.Labels.{label_layout, label_repeat}
use Rattle.emit_outcome.specs.Checks.{layout_stop}
use Rattle.emit_outcome.specs.Emit.{emit_outcome}
use Rattle.emit_outcome.specs.Call.{filled_pending}
use Rattle.label_uses.specs.UseBytes.{index_of, index_layout}
use Rattle.indexed_outcome.specs.Indexed.{IndexedCall}
use Rattle.indexed_outcome.specs.Beside.{SameCall}
use Rattle.indexed_outcome.proofs.BesideLaws.{lists, names_once, lists_stop, well_same}

pub same_call : (job : Job) (x : IndexedCall) → label_layout x.labels ≡ None
    → index_layout x.labels (filled_pending x.call.lent x.call.numbers.counts) x.fill x.index ≡ None → label_repeat x.labels ≡ None
    → length (index_of x.labels (filled_pending (emit_outcome job x.call).lent (emit_outcome job x.call).counts)) ≤ length x.index → SameCall job x
same_call job x g h r n =
    well_same job x (lists job x) (names_once job x) refl refl (ap (layout_verdict 6) g) (ap (layout_verdict 7) h) (ap (name_verdict 6) r) (le-leb _ _ n)

pub lists_first : (job : Job) (x : IndexedCall) (r : Refusal)
    → layout_stop x.call.token_list x.call.mnemonic x.call.descriptors x.call.lent x.call.numbers.place.region x.call.numbers.counts ≡ Err r → SameCall job x
lists_first job x r e = lists_stop job x r e
