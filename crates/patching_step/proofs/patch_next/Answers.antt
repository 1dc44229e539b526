use Rattle.std.specs.Prelude.{Ok, Option}
use Rattle.std.proofs.Common.{◌≡◌, ℕ, ◌+◌, ◌-◌, ◌*◌, ◌<◌, ◌≤◌, List, length, get_or, take, drop, ap, ◌∙◌, arith, rules, length-take}
use Rattle.std.proofs.Math.Seq.{length-take-le}
use Rattle.jobs.specs.declared.Job.{Job}
use Rattle.record.specs.Stores.{append}
use Rattle.labels.specs.Labels.{Table, table_of}
use Rattle.regions.specs.declared.Region.{Region}
use Rattle.pending.specs.Pendings.{pending_at}
use Rattle.pending.specs.declared.Pending.{Pending}
use Rattle.patch.specs.Patches.{destination, region_for, patch_stop}
use Rattle.binary_builder.specs.Steps.{most_pendings}
use Rattle.binary_builder.proofs.OrderLaws.{pending_name}
use Rattle.patching_outcome.specs.declared.PatchCounts.{PatchCounts}
use Rattle.patching_outcome.specs.Patching.{filled_regions, filled_pendings}
use Rattle.patching_step.specs.Steps.{StepLists, InOrder}
use Rattle.patching_step.proofs.NextLaws.{order_short, patch_at, patches_at, next_inside, next_stops, next_passes}
use Rattle.patching_step.proofs.patch_next.Goals as goal
use Rattle.refusal.specs.Verdicts.{Verdict}

four : (m : ℕ) → m + 4 - m ≡ 4
four m = omega arith

-- A patch that passes ends within the list, and there is room to keep its word.
passed : (job : Job) (labels : Table) {regions pending kept order : List ℕ} {counts : PatchCounts} {at : ℕ} {q : Pending} {g : Region} {address : Option ℕ} {v : Verdict}
    → StepLists regions pending kept counts → InOrder regions pending counts order → counts.patches < length order → at ≡ get_or order counts.patches 0
    → q ≡ pending_at (filled_pendings pending counts) at → g ≡ region_for (filled_regions regions counts) q → address ≡ destination labels (filled_pendings pending counts) q.label
    → v ≡ patch_stop job g q address → v ≡ Ok tt
    → (g.start + q.offset + 4 ≤ counts.regions) × (counts.regions ≤ length regions) × (4 * counts.patches + 4 ≤ length kept) × (counts.patches < most_pendings)
passed job labels {regions} {pending} {kept} {order} {counts} {at} {q} {g} {address} {v} lists in_order h at_is q-is g-is a-is v-is pass =
    let s = order_short regions pending kept counts lists order in_order in
    let f = lists.lists.regions_filled in
    let w = next_inside job labels regions pending kept counts (get_or order counts.patches 0) q g address (q-is ∙ ap (pending_at (filled_pendings pending counts)) at_is) g-is a-is
    (patch_at regions pending kept counts lists order in_order counts.patches h) f.good v v-is pass in
    (omega (arith, w, length-take-le counts.regions regions f.within), f.within, omega (arith, s), omega (arith, s))

pub read_pending-patch-requires : goal.read_pending-patch-requires
read_pending-patch-requires c = rw c.from.ensures (patch_at _ _ _ _ c.requires.lists _ c.requires.in_order.0 _ c.requires.in_order.1).pending_is

pub region-region-requires : goal.region-region-requires
region-region-requires c =
    rw (c.new.ensures, c.read_pending-patch.ensures, c.from.ensures) (patch_at _ _ _ _ c.requires.lists _ c.requires.in_order.0 _ c.requires.in_order.1).region_is

pub get_address-address-requires : goal.get_address-address-requires
get_address-address-requires c =
    rw (c.read_pending-patch.ensures, c.from.ensures) (pending_name _ _ (patch_at _ _ _ _ c.requires.lists _ c.requires.in_order.0 _ c.requires.in_order.1).pending_is)

pub put_back-requires : goal.put_back-requires
put_back-requires c =
    (c.requires.lists.lists.regions_filled, patches_at _ _ _ _ c.requires.lists _ c.requires.in_order.0 c.args.counts.patches (omega (arith, c.requires.in_order.1)))

pub overflow_add-slot : goal.overflow_add-slot
overflow_add-slot c =
    omega (
      arith,
      passed c.args.setup.job (table_of c.args.setup.labels.now.list) c.requires.lists c.requires.in_order.0 c.requires.in_order.1 c.from.ensures c.read_pending-patch.ensures (rw c.new.ensures at c.region-region.ensures)
          c.get_address-address.ensures c.check_pending.ensures c.in-Ok.is,
    )

pub overflow_add-slot-in-Ok : goal.overflow_add-slot-in-Ok
overflow_add-slot-in-Ok c =
    omega (
      arith,
      passed c.args.setup.job (table_of c.args.setup.labels.now.list) c.requires.lists c.requires.in_order.0 c.requires.in_order.1 c.from.ensures c.read_pending-patch.ensures (rw c.new.ensures at c.region-region.ensures)
          c.get_address-address.ensures c.check_pending.ensures c.in-Ok.is,
    )

pub slice_bounds-put_all-end : goal.slice_bounds-put_all-end
slice_bounds-put_all-end c =
    let p = passed c.args.setup.job (table_of c.args.setup.labels.now.list) c.requires.lists c.requires.in_order.0 c.requires.in_order.1 c.from.ensures c.read_pending-patch.ensures (rw c.new.ensures at c.region-region.ensures)
    c.get_address-address.ensures c.check_pending.ensures c.in-Ok.is in
    search rules

pub put_all-requires : goal.put_all-requires
put_all-requires c =
    omega (
      arith,
      passed c.args.setup.job (table_of c.args.setup.labels.now.list) c.requires.lists c.requires.in_order.0 c.requires.in_order.1 c.from.ensures c.read_pending-patch.ensures (rw c.new.ensures at c.region-region.ensures)
          c.get_address-address.ensures c.check_pending.ensures c.in-Ok.is,
      length-take {A = ℕ},
    )

pub write_pending-requires : goal.write_pending-requires
write_pending-requires c =
    omega (
      arith,
      passed c.args.setup.job (table_of c.args.setup.labels.now.list) c.requires.lists c.requires.in_order.0 c.requires.in_order.1 c.from.ensures c.read_pending-patch.ensures (rw c.new.ensures at c.region-region.ensures)
          c.get_address-address.ensures c.check_pending.ensures c.in-Ok.is,
    )

pub overflow_add-result : goal.overflow_add-result
overflow_add-result c =
    omega (
      arith,
      passed c.args.setup.job (table_of c.args.setup.labels.now.list) c.requires.lists c.requires.in_order.0 c.requires.in_order.1 c.from.ensures c.read_pending-patch.ensures (rw c.new.ensures at c.region-region.ensures)
          c.get_address-address.ensures c.check_pending.ensures c.in-Ok.is,
    )

pub overflow_add-counts : goal.overflow_add-counts
overflow_add-counts c =
    omega (
      arith,
      passed c.args.setup.job (table_of c.args.setup.labels.now.list) c.requires.lists c.requires.in_order.0 c.requires.in_order.1 c.from.ensures c.read_pending-patch.ensures (rw c.new.ensures at c.region-region.ensures)
          c.get_address-address.ensures c.check_pending.ensures c.in-Ok.is,
    )

pub returns-in-Err : goal.returns-in-Err
returns-in-Err c =
    let a = c.args in
    let read = c.read_pending-patch.ensures ∙ ap (pending_at (filled_pendings a.pending.now a.counts)) c.from.ensures in
    next_stops a.setup.job (table_of a.setup.labels.now.list) a.regions.now a.pending.now a.kept.now a.counts (get_or a.order.now a.counts.patches 0) c.read_pending-patch.result
    c.region-region.result c.get_address-address.result read (rw c.new.ensures at c.region-region.ensures) c.get_address-address.ensures a.order.now c.requires.in_order.0 _
    c.check_pending.result c.check_pending.ensures c.in-Err.is _ c.put_back.ensures _ c.now_at.ensures

pub returns-in-Ok : goal.returns-in-Ok
returns-in-Ok c =
    let a = c.args in
    let read = c.read_pending-patch.ensures ∙ ap (pending_at (filled_pendings a.pending.now a.counts)) c.from.ensures in
    let i = c.region-region.result.start + c.read_pending-patch.result.offset in
    next_passes a.setup.job (table_of a.setup.labels.now.list) a.regions.now a.pending.now a.kept.now a.counts (get_or a.order.now a.counts.patches 0) c.read_pending-patch.result
    c.region-region.result c.get_address-address.result read (rw c.new.ensures at c.region-region.ensures) c.get_address-address.ensures c.check_pending.result c.check_pending.ensures
    c.in-Ok.is _ c.write_pending.ensures _ (c.put_all.ensures ∙ ap (λ (m : ℕ). append a.kept.now (4 * a.counts.patches) (take m (drop i a.regions.now))) (four i)) _ c.now_at-in-Ok.ensures
