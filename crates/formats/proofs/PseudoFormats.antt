-- The formats of a pseudo-instruction's words, from the operands of its line in order. The words that load its constant are not among them
-- (LineLoads.antt). Above each stand the manual's instructions. Assumes nothing.
use Rattle.std.specs.Prelude.{ℕ, Bool, true, false, List, [], ◌∷◌, ◌++◌, Some}
use Rattle.jobs.specs.declared.Job.{Job}
use Rattle.jobs.specs.Jobs.{by_manual}
use Rattle.registers.specs.Numbers.{register_number as number}
use Rattle.instructions.specs.declared.Opcode.TheVariants.{Op, Func}
use Rattle.pseudo_names.specs.declared.Pseudo.{Pseudo}
use Rattle.pseudo_names.specs.declared.Pseudo.TheVariants.{Nop, Abs, BranchCustom, SetCustom, Beqz, Bnez, Seq, Sne, Neg, Negu, Not, Li, La, Move, B, Subi, Subiu}
use Rattle.address_label.specs.declared.AddressLabel.{AddressLabel}
use Rattle.address_label.specs.declared.AddressLabel.TheVariants.{Constant, Label}
use Rattle.operands.specs.Operands.{with_sign}
use Rattle.operand_list.specs.OperandLists.{AskedAll}
use Rattle.emit_dispatch.specs.Wants.{pseudo_wants}
use Rattle.formats.proofs.Formats.{Format, register, immediate}
use Rattle.formats.proofs.EncodingFormats.{$at, value_in, name_formats, immediate_formats}

-- SLT rd, rs, rt has function 42; an unsigned comparison has 41, where the manual's SLTU has 43
abbrev pub less_than : (unsigned : Bool) → (rd rs rt : ℕ) → Format
less_than unsigned rd rs rt = register 0 rs rt rd 0 (elim unsigned [ true ↦ 41 | false ↦ 42 ])

-- a is greater than b if b is less than a.
abbrev pub compared : (greater unsigned : Bool) → (rd a b : ℕ) → Format
compared true unsigned rd a b = less_than unsigned rd b a
compared false unsigned rd a b = less_than unsigned rd a b

-- If the result is to be false, XORI rt, rt, 1 turns it over.
abbrev pub turned_formats : (result : Bool) → (rt : ℕ) → List Format
turned_formats true rt = []
turned_formats false rt = immediate 14 rt rt 1 ∷ []

-- SUBU rd, rs, rt, and then: is $zero less than the difference, unsigned?
abbrev pub different_formats : (rd rs rt : ℕ) → List Format
different_formats rd rs rt = register 0 rs rt rd 0 35 ∷ less_than true rd 0 rd ∷ []

-- If the address is a constant, all words load it, so none is left.
abbrev pub address_formats : (rt : ℕ) → AddressLabel → List Format
address_formats rt (Constant c) = []
address_formats rt (Label name) = name_formats rt

-- SRA $at, rt, 31. In the commit's word, 31 overwrote rd, sa and function (a difference).
abbrev pub abs_format : Job → (rt : ℕ) → Format
abs_format job rt = elim (by_manual job) [ true ↦ register 0 0 rt $at 31 3 | false ↦ immediate 0 0 rt 31 ]

-- ---- all pseudo-instructions: x.0, x.1 and x.2 are the operands, left to right

abbrev pub pseudo_formats : Job → (p : Pseudo) → AskedAll (pseudo_wants p) → List Format
-- SLL $zero, $zero, 0
pseudo_formats job Nop x = register 0 0 0 0 0 0 ∷ []
-- SRA $at, rt, 31, XOR rd, rs, $at, SUBU rd, rd, $at
pseudo_formats job Abs x =
    abs_format job (number x.1) ∷ register 0 (number x.1) $at (number x.0) 0 38 ∷ register 0 (number x.0) $at (number x.0) 0 35 ∷ []
-- A comparison into $at. Then BNE $at, $zero, offset if the result is to be true, or BEQ if it is to be false.
pseudo_formats job (BranchCustom greater result unsigned) x =
    compared greater unsigned $at (number x.0) (value_in x.1) ∷ immediate (elim result [ true ↦ 5 | false ↦ 4 ]) $at 0 0 ∷ []
pseudo_formats job (SetCustom greater result unsigned) x =
    compared greater unsigned (number x.0) (number x.1) (value_in x.2) ∷ turned_formats result (number x.0)
-- BEQ rs, $zero, offset
pseudo_formats job Beqz x = immediate 4 (number x.0) 0 0 ∷ []
-- BNE rs, $zero, offset
pseudo_formats job Bnez x = immediate 5 (number x.0) 0 0 ∷ []
pseudo_formats job Seq x = different_formats (number x.0) (number x.1) (value_in x.2) ++ turned_formats false (number x.0)
pseudo_formats job Sne x = different_formats (number x.0) (number x.1) (value_in x.2)
-- SUB rd, $zero, rt
pseudo_formats job Neg x = register 0 0 (number x.1) (number x.0) 0 34 ∷ []
-- SUBU rd, $zero, rt
pseudo_formats job Negu x = register 0 0 (number x.1) (number x.0) 0 35 ∷ []
-- NOR rd, rs, $zero
pseudo_formats job Not x = register 0 (number x.1) 0 (number x.0) 0 39 ∷ []
-- All its words load the constant.
pseudo_formats job Li x = []
pseudo_formats job La x = address_formats (number x.0) x.1
-- ADDU rd, rs, $zero
pseudo_formats job Move x = register 0 (number x.1) 0 (number x.0) 0 33 ∷ []
-- BEQ $zero, $zero, offset
pseudo_formats job B x = immediate 4 0 0 0 ∷ []
-- ADDI rt, rs, immediate or ADD rd, rs, $at; ADDIU or ADDU: "subi and subiu negate theirs first, wrapping"
pseudo_formats job Subi x = immediate_formats (Op 8) (Some (Func 32)) (number x.0) (number x.1) (with_sign true x.2)
pseudo_formats job Subiu x = immediate_formats (Op 9) (Some (Func 33)) (number x.0) (number x.1) (with_sign true x.2)
