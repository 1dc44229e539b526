-- A whole emit call: its answer, position, counts and every lent byte, from its inputs (document 01, 'Where the work stops'). Assumes nothing.
use Rattle.std.specs.Prelude.{ℕ, ◌+◌, ◌*◌, List, length, Err, None, Ok, Option, Some}
use Rattle.jobs.specs.declared.Job.{Job}
use Rattle.record.specs.declared.Location.{Location}
use Rattle.record.specs.Stores.{append}
use Rattle.refusal.specs.declared.Refusal.{Refusal}
use Rattle.refusal.specs.declared.Refusal.TheVariants.{UnknownInstruction, ConstantOutOfRange, ShiftOutOfRange, CodeOutOfRange, DroppedInstruction}
use Rattle.lexer.specs.Tokens.{tokens}
use Rattle.cursor.specs.Cursors.{start_index}
use Rattle.descriptors.specs.Mnemonics.{mnemonic_name, mnemonic_location}
use Rattle.emit_dispatch.specs.LineAnswers.{LineAnswer, Made, Missed, OutOfRange}
use Rattle.emit_dispatch.specs.Lines.{Line, pseudo_line}
use Rattle.emit_pairs.specs.declared.Fault.{Fault}
use Rattle.emit_pairs.specs.declared.Fault.TheVariants.{Immediate, ShiftAmount, ConditionCode, Dropped}
use Rattle.emit_pairs.specs.declared.InstructionPair.{InstructionPair}
use Rattle.emit_bytes.specs.Appended.{word_bytes}
use Rattle.emit_outcome.specs.Dispatch.{meaning, table_line, named_line}
use Rattle.emit_outcome.specs.declared.FillCounts.{FillCounts}
use Rattle.emit_outcome.specs.declared.LineNumbers.{LineNumbers}
use Rattle.emit_outcome.specs.Answer.{done_at, refused_at}
use Rattle.emit_outcome.specs.Call.{Lent, Call, EmitOutcome}
use Rattle.emit_outcome.specs.Checks.{list_stop, miss_refusal}
use Rattle.emit_outcome.specs.Room.{new_pending, new_breakpoint, room_stop}
use Rattle.refusal.specs.Verdicts.{Verdict}

-- "Lent bytes and fill counts then remain as at entry"
abbrev pub refuse : FillCounts → Lent → ℕ → Refusal → EmitOutcome
refuse counts lent position r = record { answer = refused_at r position; counts = counts; lent = lent }

-- a line's words, pending records and breakpoint record are appended, and the counts grow by them
abbrev pub accept : (token_list : List ℕ) → Location → LineNumbers → Lent → Line → EmitOutcome
accept token_list line numbers lent made =
    let counts = numbers.counts in
    let waits = new_pending token_list line numbers made.pairs in
    let pcs = new_breakpoint line numbers made.pairs in
    record {
      answer = done_at made.index made.form;
      counts = record {
        data_len = counts.data_len + 4 * length made.pairs;
        pending = counts.pending + length waits;
        breakpoints = counts.breakpoints + length pcs;
      };
      lent = record {
        region_data = append lent.region_data counts.data_len (word_bytes made.pairs);
        pending = append lent.pending counts.pending waits;
        breakpoints = append lent.breakpoints counts.breakpoints pcs;
      };
    }

-- ---- 4 to 12, 19, 20 and 27: a line that was made, whose mnemonic is at `line`

-- 9; "19, a shift amount outside 0 to 31; 20, a condition code outside 0 to 7" (document 02, P5); "27, an Inputs line with a third operand or a
-- Func 18 line" (P9)
abbrev pub fault_refusal : Location → Fault → Refusal
fault_refusal line Immediate = ConstantOutOfRange line
fault_refusal line ShiftAmount = ShiftOutOfRange line
fault_refusal line ConditionCode = CodeOutOfRange line
fault_refusal line Dropped = DroppedInstruction line

abbrev pub answer_stop : (token_list : List ℕ) → Location → LineNumbers → Lent → List InstructionPair → LineAnswer → Verdict
answer_stop token_list line numbers lent pairs Made = room_stop token_list line numbers lent pairs
answer_stop token_list line numbers lent pairs (Missed m) = Err (miss_refusal line m)
answer_stop token_list line numbers lent pairs (OutOfRange fault) = Err (fault_refusal line fault)

abbrev pub line_stop : (token_list : List ℕ) → Location → LineNumbers → Lent → Line → Verdict
line_stop token_list line numbers lent made = answer_stop token_list line numbers lent made.pairs made.answer

abbrev pub accept_or : (token_list : List ℕ) → Location → LineNumbers → Lent → Line → Verdict → EmitOutcome
accept_or token_list line numbers lent made (Ok tt) = accept token_list line numbers lent made
accept_or token_list line numbers lent made (Err r) = refuse numbers.counts lent made.index r

unfoldable pub line_outcome : (token_list : List ℕ) → Location → LineNumbers → Lent → Line → EmitOutcome
unfolding room_stop append
line_outcome token_list line numbers lent made = accept_or token_list line numbers lent made (line_stop token_list line numbers lent made)

-- ---- 3, and the line of a call

-- where reading starts
abbrev pub start_of : Call → ℕ
start_of c = start_index (tokens c.token_list) c.numbers.place.position

-- its line, if the mnemonic has one
abbrev pub call_made : Job → Call → Option Line
call_made job c = named_line job c.token_list c.mnemonic c.descriptors c.numbers.place.position

abbrev pub call_line : Call → Line → EmitOutcome
call_line c made = line_outcome c.token_list (mnemonic_location c.mnemonic) c.numbers c.lent made

-- "1 to 3 return the starting one as given"
abbrev pub call_refused : Call → Refusal → EmitOutcome
call_refused c r = refuse c.numbers.counts c.lent c.numbers.place.position r

-- "3. Neither descriptor nor pseudo-instruction has the mnemonic."
abbrev pub line_or_unknown : Call → Option Line → EmitOutcome
line_or_unknown c (Some made) = call_line c made
line_or_unknown c None = call_refused c (UnknownInstruction (mnemonic_location c.mnemonic))

abbrev pub list_outcome : Job → Call → Verdict → EmitOutcome
list_outcome job c (Err r) = call_refused c r
list_outcome job c (Ok tt) = line_or_unknown c (call_made job c)

unfoldable pub emit_outcome : Job → Call → EmitOutcome
unfolding list_stop meaning mnemonic_name table_line pseudo_line tokens line_outcome
emit_outcome job c = list_outcome job c (list_stop c.token_list c.mnemonic c.descriptors c.lent c.numbers.place.region c.numbers.counts)
