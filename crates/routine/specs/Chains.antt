-- Emit calls one after the other, each starting where the data of its region ended: any lines, jobs and regions in any order, with any other buffers
-- (document 01, 'Pending 36, breakpoint 37': "as lines may go back to an earlier region", "The data's fill count is the data length").
-- Assumes nothing.
use Rattle.std.specs.Prelude.{ℕ, ◌+◌, ◌*◌, ◌≡◌, List, [], ◌∷◌, ◌++◌, length}
use Rattle.jobs.specs.declared.Job.{Job}
use Rattle.emit_outcome.specs.Call.{Call}
use Rattle.routine.specs.PatchValues.{Patch}
use Rattle.routine.specs.CallValues.{call_pairs, call_patches}

-- a call and the job that it is made for
pub record JobCall : Type 0 where
  pub job : Job
  pub call : Call

abbrev pub selected_by : JobCall → ℕ
selected_by e = e.call.numbers.place.region

-- the data length of each region, by its number
abbrev pub DataLengths : Type 0
DataLengths = ℕ → ℕ

-- the call starts where its region's data ended, and makes that longer by its words
pub record Appends (before after : DataLengths) (e : JobCall) : Type 0 where
  pub begins : e.call.numbers.counts.data_len ≡ before (selected_by e)
  pub ends : after (selected_by e) ≡ before (selected_by e) + 4 * length (call_pairs e.job e.call)
  pub others : (r : ℕ) → (r ≡ selected_by e → ⊥) → after r ≡ before r

pub data Chain : DataLengths → List JobCall → DataLengths → Type 0 where
  none : {before : DataLengths} → Chain before [] before
  next : {before mid last : DataLengths} {e : JobCall} {es : List JobCall} → Appends before mid e → Chain mid es last → Chain before (e ∷ es) last

-- the patches of all the calls, in order
unfoldable pub chain_patches : List JobCall → List Patch
chain_patches [] = []
chain_patches (e ∷ es) = call_patches e.job e.call ++ chain_patches es
