-- What `dry_run` prints (document 02, P10): the state, the reason and the number of steps of a run, in the lines that docs/DECISIONS.md gives.
-- Assumes nothing.
use Rattle.std.specs.Prelude.{ℕ, List, [], ◌∷◌, ◌++◌, Err, Ok}
use Rattle.io.specs.Digits.{last_digits}
use Rattle.record.specs.Texts.{bytes_of}
use Rattle.refusal.specs.Numbers.{numbered}
use Rattle.machine.specs.declared.Machine.{Machine}
use Rattle.machine.specs.declared.Reason.{Reason}
use Rattle.machine.specs.declared.Reason.TheVariants.{Allowance, Pc, Word, Overflow}
use Rattle.dry_run_outcome.specs.DryRun.{RunAnswer, dry_run_outcome}
use Rattle.input.specs.Input.{list_of, behind_lists, word_or_zero}
use Rattle.text.specs.Text.{last_field, refused_line}
use Rattle.input.specs.RegisterBytes.{registers_in}

-- the name after `reason`: `allowance`, `pc`, `word` or `overflow`
abbrev pub reason_name : Reason → List ℕ
reason_name Allowance = bytes_of "allowance"
reason_name Pc = bytes_of "pc"
reason_name Word = bytes_of "word"
reason_name Overflow = bytes_of "overflow"

unfoldable pub reason_line : Reason → List ℕ
reason_line reason = bytes_of "reason " ++ reason_name reason ++ bytes_of "\n"

-- `steps` and their number
abbrev pub steps_line : ℕ → List ℕ
steps_line n = bytes_of "steps" ++ last_field n

-- a blank and eight hexadecimal digits
abbrev pub hex_field : ℕ → List ℕ
hex_field n = bytes_of " " ++ last_digits 16 8 n

unfoldable pub hex_fields : List ℕ → List ℕ
hex_fields [] = []
hex_fields (n ∷ ns) = hex_field n ++ hex_fields ns

-- `pc` and eight digits
unfoldable pub pc_line : ℕ → List ℕ
pc_line n = bytes_of "pc" ++ hex_field n ++ bytes_of "\n"

-- `registers` and the 32 registers, eight digits each
unfoldable pub registers_line : List ℕ → List ℕ
registers_line registers = bytes_of "registers" ++ hex_fields registers ++ bytes_of "\n"

abbrev pub run_text : Reason → (steps : ℕ) → Machine → List ℕ
run_text reason steps m = reason_line reason ++ steps_line steps ++ pc_line m.pc ++ registers_line m.registers

-- a refusal is printed alone
abbrev pub outcome_text : RunAnswer → Machine → List ℕ
outcome_text (Ok s) m = run_text s.reason s.steps m
outcome_text (Err r) m = refused_line (numbered r)

-- an input is the region list, then the 32 registers, the pc and the allowance, four bytes each
abbrev pub machine_in : List ℕ → Machine
machine_in numbers = record { pc = word_or_zero numbers 128; registers = registers_in numbers }

abbrev pub call_text : (regions numbers : List ℕ) → List ℕ
call_text regions numbers = let o = dry_run_outcome regions (machine_in numbers) (word_or_zero numbers 132) in outcome_text o.answer o.machine

unfoldable pub dry_run_text : List ℕ → List ℕ
dry_run_text s = call_text (list_of 0 s) (behind_lists 1 s)
