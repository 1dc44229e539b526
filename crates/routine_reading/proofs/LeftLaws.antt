-- What a routine of accepted lines leaves, if it began on empty buffers: the pending list is tidy, the patches lie inside their data, and the labels
-- stand at multiples of four. Assumes nothing.
use Rattle.std.specs.Prelude.{ℕ, ◌+◌, ◌%◌, ◌≤◌, ◌≡◌, List, ◌∷◌}
use Rattle.std.proofs.Common.{arith, subst}
use Rattle.pending.specs.Pendings.{pending_at}
use Rattle.finished_words.specs.Listed.{In}
use Rattle.routine.specs.PatchValues.{Patch, patch_at}
use Rattle.routine.specs.Run.{Buffers, RoutineLine, call_on, after_line, run, AllAccepted, next, Each, OfBytes, AllEmpty, routine_patches, Inside}
use Rattle.routine.proofs.LineFits.{line_fits}
use Rattle.routine.proofs.RoutineFits.{RoutineFits, routine_fits}
use Rattle.routine.proofs.RunChainLaws.{job_call, lengths_of, line_appends, run_chain, calls_patches, run_chained}
use Rattle.routine_reading.proofs.ListedLaws.{Fourfold, Listed, stays_fourfold, chain_listed}
use Rattle.routine_reading.specs.Tidy.{Tidy}
use Rattle.routine_reading.proofs.TidyLaws.{Left, of_each, left_tidy}
use Rattle.routine_reading.specs.Lines.{left_pending, LineMark, before, behind}

-- A label's place, and the end of its region's data.
pub record Marked (n end : ℕ) : Type 0 where
  pub on_word_lem : n % 4 ≡ 0
  pub within : n ≤ end

pub mark_is : (region : ℕ) (lines : List RoutineLine) (b : Buffers) (n : ℕ) → Each OfBytes lines → AllAccepted lines b → Fourfold (lengths_of b) → LineMark region lines b n
    → Marked n ((run lines b).region_data region).fill
unfolding run
mark_is region lines b n bytes a four before = record { on_word_lem = omega (arith, four region); within = omega (arith, (run_chained lines b bytes a).grown region) }
mark_is region (l ∷ ls) b n bytes (next position loaded e a) four (behind m) =
    mark_is region ls (after_line l b) n bytes.1 a
    (stays_fourfold (job_call l b) (line_appends l b (line_fits l.job (call_on l b) position loaded bytes.0.0 bytes.0.1 e)) four) m

module _ (lines : List RoutineLine) (start : Buffers) (empty : AllEmpty start) (bytes : Each OfBytes lines) (accepted : AllAccepted lines start) where
  abbrev pending : List ℕ
  pending = left_pending lines start

  fits : RoutineFits lines start
  fits = routine_fits lines start empty bytes accepted

  fourfold : Fourfold (lengths_of start)
  fourfold r = omega (arith, (empty.data_empty r).none_filled)

  left : Left pending (routine_patches lines start)
  left = record {
    regions = 16;
    takes = fits.sixteen_take;
    patches_are = fits.patches_are;
    listed = subst Listed (calls_patches lines start) (chain_listed (run_chain lines start bytes accepted) fourfold);
  }

  pub routine_tidy : Tidy pending
  routine_tidy = left_tidy pending (routine_patches lines start) left

  -- A claim on each of the lines' patches holds for each record.
  pub of_patches : (P : Patch → Type 0) → Each P (routine_patches lines start) → (p : ℕ) → In pending p → P (patch_at pending p)
  of_patches P h = of_each pending (routine_patches lines start) left P h

  pub inside : (p : ℕ) → In pending p → (pending_at pending p).offset + 4 ≤ ((run lines start).region_data (pending_at pending p).region).fill
  inside = of_patches (Inside (run lines start)) fits.patches_inside

  pub marked : (region n : ℕ) → LineMark region lines start n → Marked n ((run lines start).region_data region).fill
  marked region n m = mark_is region lines start n bytes accepted fourfold m
