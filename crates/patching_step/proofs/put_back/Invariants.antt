use Rattle.std.proofs.Common.{◌≡◌, ◌*◌, length, take}
use Rattle.std.specs.Slice.Iter.{rchunks_rest, rchunks_size}
use Rattle.patching_outcome.specs.Step.{put_back}
use Rattle.patching_step.proofs.UndoLaws.{Undoing}
use Rattle.patching_step.proofs.put_back.Given as goal

-- The places and the kept bytes that are left are the first ones.
abbrev pub invariant-loop-at : goal.invariant-loop-at
invariant-loop-at l =
    let regions = take l.fill l.initial.regions in
    let places = l.at-iterator.a.iter.rest.now in
    record {
      four : rchunks_size l.at-iterator.b ≡ 4;
      places_left : places ≡ take (length places) l.order;
      words_left : rchunks_rest l.at-iterator.b ≡ take (4 * length places) l.kept;
      undoing : Undoing regions l.pending l.kept l.order (put_back regions l.pending l.kept 0 l.order l.initial.regions) l.fill (length places) l.regions;
      long : length l.regions ≡ length l.initial.regions;
    }
