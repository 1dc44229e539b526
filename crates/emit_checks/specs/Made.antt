-- What the steps of an emit call know about lists that passed their checks, and about the line that was read. Assumes nothing.
use Rattle.std.specs.Prelude.{ℕ, ◌+◌, ◌*◌, ◌^◌, ◌≤◌, ◌<◌, ◌≡◌, List, [], length, None, Result, Ok, Err}
use Rattle.lexer.specs.Tokens.{token_layout}
use Rattle.descriptors.specs.Mnemonics.{mnemonic_layout}
use Rattle.descriptors.specs.Descriptors.{descriptor_layout}
use Rattle.emit_pairs.specs.declared.emit_instruction.EmitInstruction.{EmitInstruction}
use Rattle.emit_pairs.specs.Pairs.{pairs_of}
use Rattle.emit_dispatch.specs.declared.Unmade.{Unmade}
use Rattle.emit_dispatch.specs.LineAnswers.{Made, unmade_answer}
use Rattle.emit_dispatch.specs.Lines.{Line}
use Rattle.loading.specs.declared.LoadForm.TheVariants.{Nothing as Unloaded}
use Rattle.refusal.specs.declared.Refusal.{Refusal}
use Rattle.refusal.specs.Verdicts.{Verdict}
use Rattle.emit_checks.specs.declared.LineRead.{LineRead}
use Rattle.emit_outcome.specs.declared.Appended.{Appended}
use Rattle.emit_outcome.specs.declared.Emitted.{Emitted}
use Rattle.emit_outcome.specs.declared.RefusedLine.{RefusedLine}
use Rattle.emit_outcome.specs.declared.FillCounts.{FillCounts}
use Rattle.emit_outcome.specs.declared.LineNumbers.{LineNumbers}
use Rattle.emit_outcome.specs.Call.{Lent, EmitOutcome, outcome_of}

-- lengths and fill counts of buffers that keep their layouts
pub record Filled (token_list : List ℕ) (lent : Lent) (counts : FillCounts) : Type 0 where
  pub tokens_length : length token_list ≤ 65536
  pub data_length : length lent.region_data ≤ 65536
  pub pending_length : length lent.pending ≤ 65536
  pub breakpoints_length : length lent.breakpoints ≤ 65536
  pub data_filled : counts.data_len ≤ length lent.region_data
  pub pending_filled : counts.pending ≤ length lent.pending
  pub breakpoints_filled : counts.breakpoints ≤ length lent.breakpoints

-- the lists' layouts, and the lengths and fill counts
pub record ListsGood (token_list mnemonic descriptors : List ℕ) (lent : Lent) (counts : FillCounts) : Type 0 where
  pub tokens_good : token_layout token_list ≡ None
  pub mnemonic_good : mnemonic_layout mnemonic ≡ None
  pub descriptors_good : descriptor_layout descriptors ≡ None
  pub filled : Filled token_list lent counts

-- the line with these words; `index` is the token position after it
abbrev pub words_line : EmitInstruction → (index : ℕ) → Line
words_line words index = record { answer = Made; pairs = pairs_of words; form = words.loaded; index = index }

abbrev pub answer_line : Result EmitInstruction Unmade → (index : ℕ) → Line
answer_line (Ok words) index = words_line words index
answer_line (Err unmade) index = record { answer = unmade_answer unmade; pairs = []; form = Unloaded; index = index }

-- the line that the code has read: its answer, its words, its form and the token position after it
abbrev pub made_line : LineRead → Line
made_line read = answer_line read.answer read.position

-- the checks of a line give its words, or the refusal that stops them
abbrev pub PassedBy : Verdict → LineRead → Result EmitInstruction Refusal → Type 0
PassedBy stop read (Ok words) = (stop ≡ Ok tt) × (read.answer ≡ Ok words)
PassedBy stop read (Err refusal) = stop ≡ Err refusal

-- adds to a refusal the token position that reading has reached
abbrev pub stopped_at : {A : Type 0} → (position : ℕ) → Result A Refusal → Result A RefusedLine
stopped_at position (Ok x) = Ok x
stopped_at position (Err r) = Err (record { refusal = r; position = position })

-- the answer of a call and its counts: a refusal leaves the counts as they were
abbrev pub emitted_by : FillCounts → Result Appended RefusedLine → Emitted
emitted_by counts (Ok appended) = record { answer = Ok appended.done; counts = appended.counts }
emitted_by counts (Err refused) = record { answer = Err refused; counts = counts }

abbrev pub left_by : FillCounts → Result Appended RefusedLine → Lent → EmitOutcome
left_by counts given lent = let e = emitted_by counts given in outcome_of e.answer e.counts lent

-- there is room for n words and for `size` bytes of pending records
pub record RoomFor (numbers : LineNumbers) (lent : Lent) (n size : ℕ) : Type 0 where
  pub last_pc : 0 < n → numbers.place.address + numbers.counts.data_len + 4 * n ≤ 2 ^ 32 + 3
  pub data_fits : numbers.counts.data_len + 4 * n ≤ length lent.region_data
  pub pending_fits : numbers.counts.pending + size ≤ length lent.pending
  pub breakpoint_fits : numbers.counts.breakpoints + (12 + 4 * n) ≤ length lent.breakpoints
