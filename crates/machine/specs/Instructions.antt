-- The words of the eighteen instructions of a dry run (MIPS32 Architecture For Programmers, Volume II). Assumes nothing.
use Rattle.std.specs.Prelude.{ℕ, cond, ◌&&◌, ◌==◌}
use Rattle.field.specs.Field.{get_field}
use Rattle.machine.specs.declared.Instruction.{Instruction}
use Rattle.machine.specs.declared.Instruction.TheVariants.{Nop, Addiu, Addi, Add, Addu, Sub, Subu, Slt, Sltu, Ori, Xori, Xor, Nor, Lui, Sra, Beq, Bne, J, Other}

-- "nop, addiu, addi, add, addu, sub, subu, slt, sltu, ori, xori, xor, nor, lui, sra, beq, bne and j", by the word and its fields; "another word
-- (also one with a nonzero field that the manual wants zero)". nop is the word 0 and no other sll. The first row whose test a word passes gives
-- its instruction.
unfoldable pub table : (w opcode rs sa function : ℕ) → Instruction
table w opcode rs sa function =
    cond (w == 0) Nop
    (cond (opcode == 0 && function == 3 && rs == 0) Sra
    (cond (opcode == 0 && function == 32 && sa == 0) Add
    (cond (opcode == 0 && function == 33 && sa == 0) Addu
    (cond (opcode == 0 && function == 34 && sa == 0) Sub
    (cond (opcode == 0 && function == 35 && sa == 0) Subu
    (cond (opcode == 0 && function == 38 && sa == 0) Xor
    (cond (opcode == 0 && function == 39 && sa == 0) Nor
    (cond (opcode == 0 && function == 42 && sa == 0) Slt
    (cond (opcode == 0 && function == 43 && sa == 0) Sltu
    (cond (opcode == 2) J
    (cond (opcode == 4) Beq
    (cond (opcode == 5) Bne
    (cond (opcode == 8) Addi
    (cond (opcode == 9) Addiu
    (cond (opcode == 13) Ori
    (cond (opcode == 14) Xori
    (cond (opcode == 15 && rs == 0) Lui
    Other)))))))))))))))))

-- ---- the fields of a word: opcode 31..26, rs 25..21, rt 20..16, rd 15..11, sa 10..6, function 5..0; immediate 15..0; target 25..0

abbrev pub opcode : ℕ → ℕ
opcode w = get_field w 26 6

abbrev pub rs : ℕ → ℕ
rs w = get_field w 21 5

abbrev pub rt : ℕ → ℕ
rt w = get_field w 16 5

abbrev pub rd : ℕ → ℕ
rd w = get_field w 11 5

abbrev pub sa : ℕ → ℕ
sa w = get_field w 6 5

abbrev pub function : ℕ → ℕ
function w = get_field w 0 6

abbrev pub immediate : ℕ → ℕ
immediate w = get_field w 0 16

abbrev pub target : ℕ → ℕ
target w = get_field w 0 26

unfoldable pub instruction_of : ℕ → Instruction
unfolding table
instruction_of w = table w (opcode w) (rs w) (sa w) (function w)

-- the instruction if the field that the manual wants zero is zero, else Other
abbrev pub with_zero : ℕ → Instruction → Instruction
with_zero field i = cond (field == 0) i Other
