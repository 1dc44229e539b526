-- One word run on a machine. Assumes nothing.
use Rattle.std.specs.Prelude.{ℕ, ◌≡◌, slice_index}
use Rattle.loading.specs.Run.{Registers, read_register, write_register}
use Rattle.machine.specs.Instructions.{rs, rt, rd, instruction_of}
use Rattle.machine.specs.Effects.{next_pc, effect_of}
use Rattle.machine.specs.declared.Effect.{Effect}
use Rattle.machine.specs.declared.Effect.TheVariants.{SetRt, SetRd, Go, Overflows, Unknown}
use Rattle.machine.specs.declared.Machine.{Machine}
use Rattle.machine.specs.declared.Reason.{Reason}
use Rattle.machine.specs.declared.Reason.TheVariants.{Word, Overflow}

-- A step leads to a machine, or the run stops: "the stopping word changes nothing".
pub data Step : Type 0 where
  goes : Machine → Step
  stops : Reason → Step

-- a machine with this pc and these registers
abbrev pub at : ℕ → Registers → Machine
at pc registers = record { pc = pc; registers = registers }

abbrev pub apply : Effect → ℕ → Machine → Step
apply (SetRt v) w m = goes (at (next_pc m.pc) (write_register m.registers (rt w) v))
apply (SetRd v) w m = goes (at (next_pc m.pc) (write_register m.registers (rd w) v))
apply (Go pc) w m = goes (at pc m.registers)
apply Overflows w m = stops Overflow
apply Unknown w m = stops Word

-- what the word w does on m
abbrev pub effect_on : ℕ → Machine → Effect
effect_on w m = effect_of (instruction_of w) w m.pc (read_register m.registers (rs w)) (read_register m.registers (rt w))

-- "with $zero always 0 and no delay slots, one word a step"
unfoldable pub step_word : ℕ → Machine → Step
unfolding read_register write_register instruction_of effect_of
step_word w m = apply (effect_on w m) w m

-- $zero holds 0
abbrev pub Zero : Registers → Type 0
Zero g = slice_index g 0 ≡ 0
