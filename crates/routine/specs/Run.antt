-- A routine: lines run one after the other over the same lent buffers, each with the fill counts that the one before it left
-- (document 01, 'Pending 36, breakpoint 37': "The caller keeps three fill counts"). Assumes nothing.
use Rattle.std.specs.Prelude.{ℕ, ◌+◌, ◌≤◌, ◌≡◌, List, [], ◌∷◌, ◌++◌, cond, length, take, eqb}
use Rattle.jobs.specs.declared.Job.{Job}
use Rattle.record.specs.Records.{limit}
use Rattle.emit_bytes.specs.Appended.{word_bytes}
use Rattle.loading.specs.declared.LoadForm.{LoadForm}
use Rattle.emit_outcome.specs.Call.{Call, call_of, lent_of}
use Rattle.emit_outcome.specs.Emit.{emit_outcome}
use Rattle.emit_outcome.specs.Answer.{done_at}
use Rattle.emit_outcome.specs.declared.LinePlace.{LinePlace}
use Rattle.finished_words.specs.Listed.{Bytes}
use Rattle.routine.specs.PatchValues.{Patch}
use Rattle.routine.specs.BreakpointValues.{Breakpoint}
use Rattle.routine.specs.CallValues.{call_pairs, call_patches, call_breakpoint}

-- a lent buffer and its fill count
pub record Buffer : Type 0 where
  pub bytes : List ℕ
  pub fill : ℕ

abbrev pub filled : Buffer → List ℕ
filled b = take b.fill b.bytes

-- the buffers that are lent to each line in turn. A region's data is found by its number, "as lines may go back to an earlier region".
pub record Buffers : Type 0 where
  pub region_data : ℕ → Buffer
  pub pending : Buffer
  pub breakpoints : Buffer

-- the rest of what a line's call is given, and its job
pub record RoutineLine : Type 0 where
  pub job : Job
  pub token_list : List ℕ
  pub mnemonic : List ℕ
  pub descriptors : List ℕ
  pub place : LinePlace

-- the line's call on these buffers
abbrev pub call_on : RoutineLine → Buffers → Call
call_on l b =
    let selected = b.region_data l.place.region in
    call_of l.token_list l.mnemonic l.descriptors (lent_of selected.bytes b.pending.bytes b.breakpoints.bytes)
    (record { data_len = selected.fill; pending = b.pending.fill; breakpoints = b.breakpoints.fill }) l.place

-- the regions' data, with one region's data replaced
abbrev pub replaced : (ℕ → Buffer) → ℕ → Buffer → ℕ → Buffer
replaced all selected new region = cond (eqb region selected) new (all region)

-- the selected region's data after the call
abbrev pub selected_after : RoutineLine → Buffers → Buffer
selected_after l b = record { bytes = (emit_outcome l.job (call_on l b)).lent.region_data; fill = (emit_outcome l.job (call_on l b)).counts.data_len }

-- all the buffers after the call
abbrev pub after_line : RoutineLine → Buffers → Buffers
after_line l b =
    let o = emit_outcome l.job (call_on l b) in
    record {
      region_data = replaced b.region_data l.place.region (selected_after l b);
      pending = record { bytes = o.lent.pending; fill = o.counts.pending };
      breakpoints = record { bytes = o.lent.breakpoints; fill = o.counts.breakpoints };
    }

unfoldable pub run : List RoutineLine → Buffers → Buffers
run [] b = b
run (l ∷ ls) b = run ls (after_line l b)

-- each line is accepted
pub data AllAccepted : List RoutineLine → Buffers → Type 0 where
  none : {b : Buffers} → AllAccepted [] b
  next : {l : RoutineLine} {ls : List RoutineLine} {b : Buffers} (position : ℕ) (loaded : LoadForm)
      → (emit_outcome l.job (call_on l b)).answer ≡ done_at position loaded → AllAccepted ls (after_line l b) → AllAccepted (l ∷ ls) b

-- P holds for each element of a list
abbrev pub Each : {A : Type 0} → (A → Type 0) → List A → Type 0
Each P [] = Unit {0}
Each P (x ∷ xs) = P x × Each P xs

-- a line's lists have bytes as elements, like any lent slice
abbrev pub OfBytes : RoutineLine → Type 0
OfBytes l = Bytes l.token_list × Bytes l.mnemonic

-- nothing is filled yet: "A lent buffer is at most 65,536 bytes."
pub record Empty (b : Buffer) : Type 0 where
  pub none_filled : b.fill ≡ 0
  pub within : length b.bytes ≤ limit

pub record AllEmpty (b : Buffers) : Type 0 where
  pub data_empty : (region : ℕ) → Empty (b.region_data region)
  pub pending_empty : Empty b.pending
  pub breakpoints_empty : Empty b.breakpoints

-- ---- what the lines add, in order

-- a line's words, as bytes, if it selects the region; else none
abbrev pub words_in : (region : ℕ) → RoutineLine → Buffers → List ℕ
words_in region l b = cond (eqb region l.place.region) (word_bytes (call_pairs l.job (call_on l b))) []

unfoldable pub routine_words : (region : ℕ) → List RoutineLine → Buffers → List ℕ
unfolding word_bytes call_pairs
routine_words region [] b = []
routine_words region (l ∷ ls) b = words_in region l b ++ routine_words region ls (after_line l b)

unfoldable pub routine_patches : List RoutineLine → Buffers → List Patch
routine_patches [] b = []
routine_patches (l ∷ ls) b = call_patches l.job (call_on l b) ++ routine_patches ls (after_line l b)

unfoldable pub routine_breakpoints : List RoutineLine → Buffers → List Breakpoint
routine_breakpoints [] b = []
routine_breakpoints (l ∷ ls) b = call_breakpoint l.job (call_on l b) ∷ routine_breakpoints ls (after_line l b)

-- the patch lies inside its region's data
abbrev pub Inside : Buffers → Patch → Type 0
Inside b p = p.offset + 4 ≤ (b.region_data p.region).fill
