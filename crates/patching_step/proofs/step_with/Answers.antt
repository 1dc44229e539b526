use Rattle.std.specs.Prelude.{Err, Ok}
use Rattle.std.proofs.Common.{ℕ, ◌≤◌, List, [], sym, ap, arith, length-take}
use Rattle.std.proofs.lemmas.List.{length-replicate}
use Rattle.std.proofs.lemmas.Result.{err_from_is_err_and}
use Rattle.record.specs.Records.{places}
use Rattle.refusal.specs.Verdicts.{name_verdict}
use Rattle.labels.specs.Labels.{table_of}
use Rattle.regions.specs.Regions.{region_count}
use Rattle.regions.proofs.RegionsLaws.{region_good}
use Rattle.address_label.specs.Entries.{entry_of}
use Rattle.build_outcome.specs.Build.{patch_order}
use Rattle.binary_builder.specs.Steps.{most_pendings, Ordered, InPatchOrder}
use Rattle.binary_builder.proofs.OrderLaws.{order_count, pendings_few}
use Rattle.binary_builder.proofs.ContractLaws.{entry_passes, entry_stops}
use Rattle.patching_outcome.specs.declared.PatchCounts.{PatchCounts}
use Rattle.patching_outcome.specs.Patching.{filled_regions, filled_pendings}
use Rattle.patching_step.specs.Steps.{ListsGood}
use Rattle.patching_step.proofs.StepLaws.{lists_pass, checks_are, step_refuses, step_runs, step_stopped}
use Rattle.patching_step.proofs.step_with.Goals as goal

-- the first `n` of an array are the pendings' places, in patch order
module _ {regions pending : List ℕ} {counts : PatchCounts} (l : ListsGood regions pending counts) (n : ℕ) (order : List ℕ) (o : InPatchOrder (filled_pendings pending counts) n order) where
  ordered : Ordered (patch_order (filled_regions regions counts) (filled_pendings pending counts)) n order
  ordered = o _ (region_good _ l.regions_filled.good).3 l.pending_good

  few : n ≤ most_pendings
  few =
      let r = filled_regions regions counts in
      let p = filled_pendings pending counts in
      omega (arith, ordered.count, order_count (region_count r) (region_good r l.regions_filled.good).3 p l.pending_good, pendings_few (region_count r) p l.pending_good)

pub slice_bounds-order-end : goal.slice_bounds-order-end
slice_bounds-order-end c =
    omega (arith, few (lists_pass _ _ _ _ _ _ [] (c.requires.layouts_are [])).step_lists.lists c.order_patches-n.result c.order_patches-n.new.order c.order_patches-n.ensures, length-replicate {A = ℕ} most_pendings 0)

pub slice_bounds-running_step-end : goal.slice_bounds-running_step-end
slice_bounds-running_step-end c =
    omega (arith, few (lists_pass _ _ _ _ _ _ [] (c.requires.layouts_are [])).step_lists.lists c.order_patches-n.result c.order_patches-n.new.order c.order_patches-n.ensures, length-replicate {A = ℕ} most_pendings 0, length-take {A = ℕ})

pub running_step-requires : goal.running_step-requires
running_step-requires c =
    ((lists_pass _ _ _ _ _ _ [] (c.requires.layouts_are [])).step_lists, (ordered (lists_pass _ _ _ _ _ _ [] (c.requires.layouts_are [])).step_lists.lists c.order_patches-n.result c.order_patches-n.new.order c.order_patches-n.ensures).places_are)

pub slice_bounds-order_patches-end : goal.slice_bounds-order_patches-end
slice_bounds-order_patches-end c =
    let l = (lists_pass _ _ _ _ _ _ [] (c.requires.layouts_are [])).step_lists.lists in
    omega (arith, l.pending_within, length-take {A = ℕ})

pub order_patches-n-requires-clause-pending_list : goal.order_patches-n-requires-clause-pending_list
order_patches-n-requires-clause-pending_list c =
    record { regions = _; kept = (lists_pass _ _ _ _ _ _ [] (c.requires.layouts_are [])).step_lists.lists.pending_good }

pub find_entry-requires : goal.find_entry-requires
find_entry-requires c = (lists_pass _ _ _ _ _ _ [] (c.requires.layouts_are [])).entry_good

pub stopped_step-answer-requires-clause-lists : goal.stopped_step-answer-requires-clause-lists
stopped_step-answer-requires-clause-lists c = (lists_pass _ _ _ _ _ _ [] (c.requires.layouts_are [])).step_lists.lists

pub returns-in_err-address : goal.returns-in_err-address
returns-in_err-address c =
    let a = c.args in
    let t = table_of a.labels.now.list in
    let e = entry_stops t a.entry.now (entry_of a.entry.now (places a.entry.now)) _ (sym c.in_err-address.ensures) in
    let p = err_from_is_err_and c.from_residual.result c.from_residual.ensures.1 in
    rw (p.1, p.2)
    (step_refuses t a.entry.now a.regions.now a.pending.now a.kept.now a.counts a.job _
    (checks_are t a.entry.now a.regions.now a.pending.now a.kept.now a.counts (Ok tt) (Ok tt) (Err _) c.requires.layouts_are (ap (name_verdict 0) c.bytes.ensures.indexed.distinct) e))

pub returns-then-counts-eq-RUNNING : goal.returns-then-counts-eq-RUNNING
returns-then-counts-eq-RUNNING c =
    let a = c.args in
    let t = table_of a.labels.now.list in
    let e = entry_passes t a.entry.now (entry_of a.entry.now (places a.entry.now)) _ (sym c.in_ok-address.ensures) in
    step_runs t a.entry.now a.regions.now a.pending.now a.kept.now a.counts a.job
    (checks_are t a.entry.now a.regions.now a.pending.now a.kept.now a.counts (Ok tt) (Ok tt) (Ok tt) c.requires.layouts_are (ap (name_verdict 0) c.bytes.ensures.indexed.distinct) e.0)
    _ e.1 c.if-counts-eq-RUNNING.true _ _ _ _ c.running_step.ensures

pub returns : goal.returns
returns c =
    let a = c.args in
    let t = table_of a.labels.now.list in
    let e = entry_passes t a.entry.now (entry_of a.entry.now (places a.entry.now)) _ (sym c.in_ok-address.ensures) in
    step_stopped t a.entry.now a.regions.now a.pending.now a.kept.now a.counts a.job
    (checks_are t a.entry.now a.regions.now a.pending.now a.kept.now a.counts (Ok tt) (Ok tt) (Ok tt) c.requires.layouts_are (ap (name_verdict 0) c.bytes.ensures.indexed.distinct) e.0)
    _ e.1 c.if-counts-eq-RUNNING.false _ c.stopped_step-answer.ensures
