-- What `patch_steps` prints (document 02, P12), as docs/DECISIONS.md says. Assumes nothing.
use Rattle.std.specs.Prelude.{ℕ, zero, suc, List, ◌++◌, true, false, leb, eqb, drop, get_or, replicate, None, Option, Some, Err, Ok}
use Rattle.io.specs.Digits.{last_digits}
use Rattle.jobs.specs.declared.Job.{Job}
use Rattle.record.specs.Bytes.{byte_at}
use Rattle.record.specs.Texts.{bytes_of}
use Rattle.refusal.specs.Numbers.{numbered}
use Rattle.labels.specs.Labels.{table_of}
use Rattle.emit_outcome.specs.Answer.{EmitAnswer}
use Rattle.emit_outcome.specs.declared.FillCounts.{FillCounts}
use Rattle.patching_outcome.specs.declared.PatchCounts.{PatchCounts}
use Rattle.patching_outcome.specs.declared.Progress.TheVariants.{Patched, Ended}
use Rattle.patching_outcome.specs.Patching.{Patching, patching_of}
use Rattle.patching_outcome.specs.Step.{StepAnswer, step_outcome}
use Rattle.patching_outcome.specs.Line.{LineGiven, line_outcome}
use Rattle.patching_line.specs.Contract.{given_of}
use Rattle.input.specs.Input.{word_or_zero, half_or_zero, behind_lists, list_of, held}
use Rattle.text.specs.Text.{last_field, refused_line}
use Rattle.bytes_line.specs.BytesLine.{bytes_line}
use Rattle.line_text.specs.Line.{position_line, fills_line, job_numbered}

-- ---- the lines of one call

-- `patched` and how many so far, `ended` and the entry in eight digits, or the refusal
abbrev pub step_text : StepAnswer → List ℕ
step_text (Ok (Patched n)) = bytes_of "patched" ++ last_field n
step_text (Ok (Ended address)) = bytes_of "ended " ++ last_digits 16 8 address ++ bytes_of "\n"
step_text (Err r) = refused_line (numbered r)

-- `accepted` or the refusal, and the position
abbrev pub line_text : EmitAnswer → List ℕ
line_text (Ok done) = bytes_of "accepted\n" ++ position_line done.position
line_text (Err refused) = refused_line (numbered refused.refusal) ++ position_line refused.position

-- ---- the lines of the end

abbrev pub state_text : ℕ → List ℕ
state_text state = elim (eqb state 0) [ true ↦ bytes_of "state running\n" | false ↦ elim (eqb state 1) [ true ↦ bytes_of "state ended\n" | false ↦ bytes_of "state refused\n" ] ]

-- the three fill counts, as `emit_line` prints them
abbrev pub fills_of : PatchCounts → FillCounts
fills_of c = record { data_len = c.regions; pending = c.pending; breakpoints = c.breakpoints }

unfoldable pub counts_text : PatchCounts → List ℕ
counts_text c = state_text c.state ++ fills_line (fills_of c) ++ (bytes_of "patches" ++ last_field c.patches)

unfoldable pub end_text : PatchCounts → (regions pending breakpoints : List ℕ) → List ℕ
end_text c regions pending breakpoints =
    counts_text c ++ bytes_line (bytes_of "regions ") regions ++ bytes_line (bytes_of "pending ") pending ++ bytes_line (bytes_of "breakpoints ") breakpoints

-- ---- the script

-- what every turn uses: the job, the labels, the entry record and the descriptors
pub record Given : Type 0 where
  pub job : Job
  pub labels : List ℕ
  pub entry : List ℕ
  pub descriptors : List ℕ

abbrev pub script_given : Job → (labels entry descriptors : List ℕ) → Given
script_given job labels entry descriptors = record { job = job; labels = labels; entry = entry; descriptors = descriptors }

-- "byte 0 is a step; byte 1 a line .. any other byte ends it", and so does the end of the input
abbrev pub turn_byte : List ℕ → ℕ
turn_byte s = get_or s 0 2

-- a line is its tokens and its mnemonic, each after its count, then its position and its region
abbrev pub line_in : (descriptors : List ℕ) → List ℕ → LineGiven
line_in descriptors s =
    let numbers = behind_lists 2 s in
    given_of (list_of 0 s) (list_of 1 s) descriptors (word_or_zero numbers 0) (half_or_zero numbers 4)

-- what a turn prints, and what it leaves
pub record Turned : Type 0 where
  pub text : List ℕ
  pub after : Patching

abbrev pub turned_by : List ℕ → Patching → Turned
turned_by text after = record { text = text; after = after }

unfoldable pub step_turn : Job → (labels entry : List ℕ) → Patching → Turned
step_turn job labels entry p = let o = step_outcome job (table_of labels) entry p in turned_by (step_text o.answer) o.after

unfoldable pub line_turn : Job → LineGiven → Patching → Turned
line_turn job line p = let o = line_outcome job line p in turned_by (line_text o.answer) o.after

unfoldable pub turn_of : Given → Patching → List ℕ → Turned
unfolding step_turn line_turn
turn_of g p s = elim (eqb (turn_byte s) 0) [ true ↦ step_turn g.job g.labels g.entry p | false ↦ line_turn g.job (line_in g.descriptors (drop 1 s)) p ]

unfoldable pub behind_turn : List ℕ → List ℕ
behind_turn s = elim (eqb (turn_byte s) 0) [ true ↦ drop 1 s | false ↦ drop 6 (behind_lists 2 (drop 1 s)) ]

-- the lines of all turns, at most `most` of them, each starting with what the last one left; then the lines of the end
unfoldable pub script_text : (most : ℕ) → Given → Patching → List ℕ → List ℕ
unfolding turn_of behind_turn end_text
script_text zero g p s = end_text p.counts p.regions p.pending p.breakpoints
script_text (suc most) g p s =
    elim (leb (turn_byte s) 1) [
      | true ↦ (turn_of g p s).text ++ script_text most g (turn_of g p s).after (behind_turn s)
      | false ↦ end_text p.counts p.regions p.pending p.breakpoints
    ]

-- ---- the input: labels, entry, descriptors; regions, pending and breakpoints as they are held; three fill counts; the job; the script

abbrev pub most_turns : ℕ
most_turns = 4096

-- "7,280 bytes always suffice"
abbrev pub kept_bytes : ℕ
kept_bytes = 7280

abbrev pub counts_in : List ℕ → PatchCounts
counts_in s = record { regions = word_or_zero s 0; pending = word_or_zero s 4; breakpoints = word_or_zero s 8; patches = 0; state = 0 }

abbrev pub lent_text : Job → List ℕ → (regions pending breakpoints : List ℕ) → List ℕ
lent_text job s regions pending breakpoints =
    let rest = behind_lists 6 s in
    script_text most_turns (script_given job (list_of 0 s) (list_of 1 s) (list_of 2 s)) (patching_of regions pending breakpoints (replicate kept_bytes 0) (counts_in rest)) (drop 13 rest)

unfoldable pub job_text : Job → List ℕ → List ℕ
unfolding script_text
job_text job s = lent_text job s (held (list_of 3 s)) (held (list_of 4 s)) (held (list_of 5 s))

-- a byte that no job has is answered before anything else
abbrev pub asked_text : List ℕ → Option Job → List ℕ
asked_text s (Some job) = job_text job s
asked_text s None = bytes_of "no such job\n"

unfoldable pub steps_text : List ℕ → List ℕ
steps_text s = asked_text s (job_numbered (byte_at (behind_lists 6 s) 12))
