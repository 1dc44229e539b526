-- What the linked call for a dry run gives back and leaves in its lent buffers. Assumes nothing.
use Rattle.std.specs.Prelude.{ℕ, List, true, false, ◌&&◌, pos, length, leb, Err, Ok}
use Rattle.record.specs.Stores.{append}
use Rattle.refusal.specs.Numbers.{zero_location, numbered}
use Rattle.machine.specs.declared.Machine.{Machine}
use Rattle.machine.specs.declared.Reason.{Reason}
use Rattle.machine.specs.declared.Reason.TheVariants.{Allowance, Pc, Word, Overflow}
use Rattle.dry_run_outcome.specs.declared.DryRun.{DryRun}
use Rattle.dry_run_outcome.specs.DryRun.{RunAnswer, dry_run_outcome}
use Rattle.input.specs.RegisterBytes.{registers_in}
use Rattle.linked_answer.specs.Words.{answer_bytes, too_short, answer_words, number_of, words_as_bytes}

-- the bytes of 32 registers
abbrev pub register_bytes : ℕ
register_bytes = 128

-- the reasons in the order in which they are looked at
abbrev pub reason_number : Reason → ℕ
reason_number Allowance = 0
reason_number Pc = 1
reason_number Word = 2
reason_number Overflow = 3

-- "It returns state, reason and the number of steps taken" (document 02, P10): number 0, the reason as a, the steps as b and the pc as the
-- last word; a refusal has "its number, a location and numbers a and b", like a refused build, and the pc that was given
abbrev pub run_words : RunAnswer → (pc : ℕ) → List ℕ
run_words (Ok s) pc = answer_words 0 zero_location (pos (reason_number s.reason)) s.steps pc
run_words (Err r) pc = let n = numbered r in answer_words n.number n.location n.a n.b pc

-- a refused run leaves the register bytes as they are
abbrev pub registers_after : RunAnswer → Machine → List ℕ → List ℕ
registers_after (Ok s) m registers = append registers 0 (words_as_bytes m.registers)
registers_after (Err r) m registers = registers

pub record LinkedDryRun : Type 0 where
  pub result : ℕ
  pub registers : List ℕ
  pub answer : List ℕ

abbrev pub run_answered : DryRun → (registers answer : List ℕ) → LinkedDryRun
run_answered run registers answer =
    let words = run_words run.answer run.machine.pc in
    record {
      result = number_of words;
      registers = registers_after run.answer run.machine registers;
      answer = append answer 0 (words_as_bytes words);
    }

abbrev pub machine_of : (registers : List ℕ) → (pc : ℕ) → Machine
machine_of registers pc = record { pc = pc; registers = registers_in registers }

-- if the answer buffer has fewer than 24 bytes or the registers fewer than 128, nothing is done
unfoldable pub linked_dry_run : (regions registers : List ℕ) → (pc allowance : ℕ) → (answer : List ℕ) → LinkedDryRun
linked_dry_run regions registers pc allowance answer =
    elim (leb answer_bytes (length answer) && leb register_bytes (length registers)) [
      | true ↦ run_answered (dry_run_outcome regions (machine_of registers pc) allowance) registers answer
      | false ↦ record { result = too_short; registers = registers; answer = answer }
    ]
