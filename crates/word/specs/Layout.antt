-- The field layouts of MIPS32 words (MIPS32 Architecture For Programmers, Volume II). Assumes nothing.
use Rattle.std.specs.Prelude.{ℕ, ◌+◌, ◌*◌, ◌/◌, ◌%◌, ◌^◌}
use Rattle.instructions.specs.declared.Opcode.{Opcode}
use Rattle.instructions.specs.declared.Opcode.TheVariants.{Op, Func, Special, Algebra, Cop1, Cop1I}

-- The six fields of a register-format word, from bits 31..26 down to bits 5..0. In the float formats the places of rs, rt, rd and sa
-- are fmt, ft, fs and fd.
pub record Fields : Type 0 where
  pub opcode : ℕ
  pub rs : ℕ
  pub rt : ℕ
  pub rd : ℕ
  pub sa : ℕ
  pub function : ℕ

-- register format: opcode 31..26, rs 25..21, rt 20..16, rd 15..11, sa 10..6, function 5..0
abbrev pub layout : Fields → ℕ
layout f = f.opcode * 2 ^ 26 + f.rs * 2 ^ 21 + f.rt * 2 ^ 16 + f.rd * 2 ^ 11 + f.sa * 2 ^ 6 + f.function

-- immediate format: opcode 31..26, rs 25..21, rt 20..16, immediate 15..0
abbrev pub immediate_layout : ℕ → ℕ → ℕ → ℕ → ℕ
immediate_layout opcode rs rt immediate = opcode * 2 ^ 26 + rs * 2 ^ 21 + rt * 2 ^ 16 + immediate

-- jump format: opcode 31..26, target 25..0
abbrev pub jump_layout : ℕ → ℕ → ℕ
jump_layout opcode target = opcode * 2 ^ 26 + target

-- The fields that an opcode class and key fill, all others zero. A Special key over 31 reaches one bit into rs.
abbrev pub base_fields : Opcode → Fields
base_fields (Op key) = record { opcode = key % 64; rs = 0; rt = 0; rd = 0; sa = 0; function = 0 }
base_fields (Func key) = record { opcode = 0; rs = 0; rt = 0; rd = 0; sa = 0; function = key % 64 }
base_fields (Special key) = record { opcode = 1; rs = key % 64 / 32; rt = key % 32; rd = 0; sa = 0; function = 0 }
base_fields (Algebra key) = record { opcode = 28; rs = 0; rt = 0; rd = 0; sa = 0; function = key % 64 }
base_fields (Cop1 key) = record { opcode = 17; rs = 0; rt = 0; rd = 0; sa = 0; function = key % 64 }
base_fields (Cop1I key) = record { opcode = 17; rs = key % 32; rt = 0; rd = 0; sa = 0; function = 0 }

-- the same word with one field replaced
abbrev pub with_rs : Fields → ℕ → Fields
with_rs f v = record { opcode = f.opcode; rs = v; rt = f.rt; rd = f.rd; sa = f.sa; function = f.function }

abbrev pub with_rt : Fields → ℕ → Fields
with_rt f v = record { opcode = f.opcode; rs = f.rs; rt = v; rd = f.rd; sa = f.sa; function = f.function }

abbrev pub with_rd : Fields → ℕ → Fields
with_rd f v = record { opcode = f.opcode; rs = f.rs; rt = f.rt; rd = v; sa = f.sa; function = f.function }

abbrev pub with_sa : Fields → ℕ → Fields
with_sa f v = record { opcode = f.opcode; rs = f.rs; rt = f.rt; rd = f.rd; sa = v; function = f.function }
