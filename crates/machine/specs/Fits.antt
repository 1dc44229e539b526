-- A machine of "32 registers of 32 bits" (document 01, 'Words') and a pc of 32 bits, and one whose pc is a multiple of four. Assumes nothing.
use Rattle.std.specs.Prelude.{◌≡◌, ℕ, ◌%◌, ◌^◌, ◌<◌, length, slice_index}
use Rattle.machine.specs.declared.Machine.{Machine}

pub record Fits (m : Machine) : Type 0 where
  pub count : length m.registers ≡ 32
  pub held : (r : ℕ) → slice_index m.registers r < 2 ^ 32
  pub pc_held : m.pc < 2 ^ 32

abbrev pub Aligned : Machine → Type 0
Aligned m = m.pc % 4 ≡ 0
