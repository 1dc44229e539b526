-- The numbers of the registers: the general register names of MIPS32 and the float registers $f0 to $f31. Assumes nothing.
use Rattle.std.specs.Prelude.{ℕ}
use Rattle.registers.specs.declared.RegisterSlot.{RegisterSlot}
use Rattle.registers.specs.declared.RegisterSlot.TheVariants.{Zero, AssemblerTemporary, Value0, Value1, Parameter0, Parameter1, Parameter2, Parameter3, Temporary0, Temporary1, Temporary2, Temporary3, Temporary4, Temporary5, Temporary6, Temporary7, Saved0, Saved1, Saved2, Saved3, Saved4, Saved5, Saved6, Saved7, Temporary8, Temporary9, Kernel0, Kernel1, GeneralPointer, StackPointer, FramePointer, ReturnAddress}
use Rattle.registers.specs.declared.FPRegisterSlot.{FPRegisterSlot}
use Rattle.registers.specs.declared.FPRegisterSlot.TheVariants.{F0, F1, F2, F3, F4, F5, F6, F7, F8, F9, F10, F11, F12, F13, F14, F15, F16, F17, F18, F19, F20, F21, F22, F23, F24, F25, F26, F27, F28, F29, F30, F31}

-- $zero, $at, $v0, $v1, $a0 to $a3, $t0 to $t7, $s0 to $s7, $t8, $t9, $k0, $k1, $gp, $sp, $fp, $ra, in the order of their numbers
abbrev pub register_number : RegisterSlot → ℕ
register_number Zero = 0
register_number AssemblerTemporary = 1
register_number Value0 = 2
register_number Value1 = 3
register_number Parameter0 = 4
register_number Parameter1 = 5
register_number Parameter2 = 6
register_number Parameter3 = 7
register_number Temporary0 = 8
register_number Temporary1 = 9
register_number Temporary2 = 10
register_number Temporary3 = 11
register_number Temporary4 = 12
register_number Temporary5 = 13
register_number Temporary6 = 14
register_number Temporary7 = 15
register_number Saved0 = 16
register_number Saved1 = 17
register_number Saved2 = 18
register_number Saved3 = 19
register_number Saved4 = 20
register_number Saved5 = 21
register_number Saved6 = 22
register_number Saved7 = 23
register_number Temporary8 = 24
register_number Temporary9 = 25
register_number Kernel0 = 26
register_number Kernel1 = 27
register_number GeneralPointer = 28
register_number StackPointer = 29
register_number FramePointer = 30
register_number ReturnAddress = 31

abbrev pub fp_register_number : FPRegisterSlot → ℕ
fp_register_number F0 = 0
fp_register_number F1 = 1
fp_register_number F2 = 2
fp_register_number F3 = 3
fp_register_number F4 = 4
fp_register_number F5 = 5
fp_register_number F6 = 6
fp_register_number F7 = 7
fp_register_number F8 = 8
fp_register_number F9 = 9
fp_register_number F10 = 10
fp_register_number F11 = 11
fp_register_number F12 = 12
fp_register_number F13 = 13
fp_register_number F14 = 14
fp_register_number F15 = 15
fp_register_number F16 = 16
fp_register_number F17 = 17
fp_register_number F18 = 18
fp_register_number F19 = 19
fp_register_number F20 = 20
fp_register_number F21 = 21
fp_register_number F22 = 22
fp_register_number F23 = 23
fp_register_number F24 = 24
fp_register_number F25 = 25
fp_register_number F26 = 26
fp_register_number F27 = 27
fp_register_number F28 = 28
fp_register_number F29 = 29
fp_register_number F30 = 30
fp_register_number F31 = 31
