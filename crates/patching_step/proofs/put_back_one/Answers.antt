use Rattle.std.proofs.Common.{◌≡◌, ℕ, ◌+◌, ◌≤◌, List, [], take, arith}
use Rattle.std.proofs.Math.Seq.{length-take-le}
use Rattle.regions.specs.Regions.{region_at, region_place}
use Rattle.regions.specs.declared.Region.{Region}
use Rattle.pending.specs.Pendings.{pending_at}
use Rattle.pending.specs.declared.Pending.{Pending}
use Rattle.patching_step.specs.Undo.{PatchAt, FilledRegions}
use Rattle.patching_step.proofs.UndoLaws.{back_room}
use Rattle.patching_step.proofs.put_back_one.Goals as goal

-- The patch ends within the list.
inside : (regions pending : List ℕ) (fill at : ℕ) (p : Pending) (g : Region) → FilledRegions fill regions → PatchAt (take fill regions) pending at → p ≡ pending_at pending at
    → g ≡ region_at (take fill regions) (region_place (take fill regions) p.region) → p.offset + 4 ≤ g.size → g.start + p.offset + 4 ≤ fill
inside regions pending fill at p g f a p-is g-is h =
    omega (arith, back_room (take fill regions) pending [] at regions p g p-is g-is a f.good h, length-take-le fill regions f.within)

pub overflow_add-region : goal.overflow_add-region
overflow_add-region c =
    omega (arith, inside _ _ c.args.fill _ _ _ c.requires.0 c.requires.1 c.read_pending-patch.ensures (rw c.new.ensures at c.region-region.ensures) c.if-end-region.false, c.requires.0.within)

pub put_all-requires : goal.put_all-requires
put_all-requires c =
    omega (arith, inside _ _ c.args.fill _ _ _ c.requires.0 c.requires.1 c.read_pending-patch.ensures (rw c.new.ensures at c.region-region.ensures) c.if-end-region.false, c.requires.0.within, c.requires.2)
