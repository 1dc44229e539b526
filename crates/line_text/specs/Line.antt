-- What `emit_line` prints for an emit call: the refusal if there is one, the position, the fill counts, an accepted line's form, and the three
-- buffers after the call; or that there is no such job. Assumes nothing.
use Rattle.std.specs.Prelude.{Ok, Err, ℕ, List, [], ◌++◌, None, Option, Some}
use Rattle.jobs.specs.declared.Job.{Job}
use Rattle.jobs.specs.Jobs.{job_numbered as numbered_job}
use Rattle.record.specs.Bytes.{byte_at}
use Rattle.record.specs.Texts.{bytes_of}
use Rattle.refusal.specs.Numbers.{numbered}
use Rattle.loading.specs.declared.LoadForm.{LoadForm}
use Rattle.loading.specs.declared.LoadForm.TheVariants.{Nothing, Addiu, Ori, Lui, BothHalves}
use Rattle.emit_outcome.specs.declared.FillCounts.{FillCounts}
use Rattle.emit_outcome.specs.declared.LinePlace.{LinePlace}
use Rattle.emit_outcome.specs.declared.LineNumbers.{LineNumbers}
use Rattle.emit_outcome.specs.Answer.{EmitAnswer}
use Rattle.emit_outcome.specs.Call.{Call, Lent, EmitOutcome, lent_of, call_of}
use Rattle.emit_outcome.specs.Emit.{emit_outcome}
use Rattle.input.specs.Input.{word_or_zero, half_or_zero, behind_lists, list_of, held}
use Rattle.text.specs.Text.{field, last_field, refused_line}
use Rattle.bytes_line.specs.BytesLine.{bytes_line}

-- ---- the text of an outcome
abbrev pub position_line : ℕ → List ℕ
position_line position = bytes_of "position" ++ last_field position

abbrev pub answer_text : EmitAnswer → List ℕ
answer_text (Ok done) = position_line done.position
answer_text (Err refused) = refused_line (numbered refused.refusal) ++ position_line refused.position

-- the counts of data, pending and breakpoints
unfoldable pub fills_line : FillCounts → List ℕ
fills_line c = bytes_of "fills" ++ field c.data_len ++ field c.pending ++ last_field c.breakpoints

-- how the line's constant is loaded (document 02, P2)
abbrev pub loaded_line : LoadForm → List ℕ
loaded_line Nothing = bytes_of "loaded none\n"
loaded_line Addiu = bytes_of "loaded addiu\n"
loaded_line Ori = bytes_of "loaded ori\n"
loaded_line Lui = bytes_of "loaded lui\n"
loaded_line BothHalves = bytes_of "loaded both\n"

abbrev pub loaded_text : EmitAnswer → List ℕ
loaded_text (Ok done) = loaded_line done.loaded
loaded_text (Err refused) = []

unfoldable pub head_text : EmitAnswer → FillCounts → List ℕ
head_text a c = answer_text a ++ fills_line c ++ loaded_text a

unfoldable pub outcome_text : EmitOutcome → List ℕ
outcome_text o =
    head_text o.answer o.counts
    ++ bytes_line (bytes_of "data ") o.lent.region_data
    ++ bytes_line (bytes_of "pending ") o.lent.pending
    ++ bytes_line (bytes_of "breakpoints ") o.lent.breakpoints

-- ---- the call of an input: the six buffers in argument order, then the fill counts, the position, the region and its address
abbrev pub counts_in : List ℕ → FillCounts
counts_in s = record { data_len = word_or_zero s 0; pending = word_or_zero s 4; breakpoints = word_or_zero s 8 }

abbrev pub place_in : List ℕ → LinePlace
place_in s = record { position = word_or_zero s 12; region = half_or_zero s 16; address = word_or_zero s 18 }

-- the same numbers at the start of a list
abbrev pub place_of : List ℕ → LinePlace
place_of s = record { position = word_or_zero s 0; region = half_or_zero s 4; address = word_or_zero s 6 }

abbrev pub numbers_in : List ℕ → LineNumbers
numbers_in s = record { counts = counts_in s; place = place_in s }

abbrev pub call_in : List ℕ → Lent → Call
call_in s lent =
    let rest = behind_lists 6 s in
    call_of (list_of 0 s) (list_of 1 s) (list_of 2 s) lent (counts_in rest) (place_in rest)

abbrev pub call_text : Job → List ℕ → Lent → List ℕ
call_text job s lent = outcome_text (emit_outcome job (call_in s lent))

-- the call gets copies of the three buffers that it may change, cut as `held` says
unfoldable pub job_text : Job → List ℕ → List ℕ
job_text job s = call_text job s (lent_of (held (list_of 3 s)) (held (list_of 4 s)) (held (list_of 5 s)))

-- ---- the job of an input (document 02, P5 and P9)
-- the job that a byte names
abbrev pub job_numbered : ℕ → Option Job
job_numbered n = numbered_job n

-- the job's byte comes after the address; a missing one is 0
abbrev pub job_in : List ℕ → Option Job
job_in s = job_numbered (byte_at (behind_lists 6 s) 22)

-- a byte that names no job is reported before anything else
abbrev pub asked_text : List ℕ → Option Job → List ℕ
asked_text s (Some job) = job_text job s
asked_text s None = bytes_of "no such job\n"

unfoldable pub line_text : List ℕ → List ℕ
line_text s = asked_text s (job_in s)
