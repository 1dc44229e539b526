-- A register's number is below 32: it fits a field of five bits. Assumes nothing.
use Rattle.std.specs.Prelude.{◌<◌}
use Rattle.std.proofs.Common.{lit<}
use Rattle.registers.specs.declared.RegisterSlot.{RegisterSlot}
use Rattle.registers.specs.declared.RegisterSlot.TheVariants.{Zero, AssemblerTemporary, Value0, Value1, Parameter0, Parameter1, Parameter2, Parameter3, Temporary0, Temporary1, Temporary2, Temporary3, Temporary4, Temporary5, Temporary6, Temporary7, Saved0, Saved1, Saved2, Saved3, Saved4, Saved5, Saved6, Saved7, Temporary8, Temporary9, Kernel0, Kernel1, GeneralPointer, StackPointer, FramePointer, ReturnAddress}
use Rattle.registers.specs.declared.FPRegisterSlot.{FPRegisterSlot}
use Rattle.registers.specs.declared.FPRegisterSlot.TheVariants.{F0, F1, F2, F3, F4, F5, F6, F7, F8, F9, F10, F11, F12, F13, F14, F15, F16, F17, F18, F19, F20, F21, F22, F23, F24, F25, F26, F27, F28, F29, F30, F31}
use Rattle.registers.specs.Numbers.{register_number, fp_register_number}

pub register_lt : (slot : RegisterSlot) → register_number slot < 32
register_lt Zero = lit< tt
register_lt AssemblerTemporary = lit< tt
register_lt Value0 = lit< tt
register_lt Value1 = lit< tt
register_lt Parameter0 = lit< tt
register_lt Parameter1 = lit< tt
register_lt Parameter2 = lit< tt
register_lt Parameter3 = lit< tt
register_lt Temporary0 = lit< tt
register_lt Temporary1 = lit< tt
register_lt Temporary2 = lit< tt
register_lt Temporary3 = lit< tt
register_lt Temporary4 = lit< tt
register_lt Temporary5 = lit< tt
register_lt Temporary6 = lit< tt
register_lt Temporary7 = lit< tt
register_lt Saved0 = lit< tt
register_lt Saved1 = lit< tt
register_lt Saved2 = lit< tt
register_lt Saved3 = lit< tt
register_lt Saved4 = lit< tt
register_lt Saved5 = lit< tt
register_lt Saved6 = lit< tt
register_lt Saved7 = lit< tt
register_lt Temporary8 = lit< tt
register_lt Temporary9 = lit< tt
register_lt Kernel0 = lit< tt
register_lt Kernel1 = lit< tt
register_lt GeneralPointer = lit< tt
register_lt StackPointer = lit< tt
register_lt FramePointer = lit< tt
register_lt ReturnAddress = lit< tt

pub fp_register_lt : (slot : FPRegisterSlot) → fp_register_number slot < 32
fp_register_lt F0 = lit< tt
fp_register_lt F1 = lit< tt
fp_register_lt F2 = lit< tt
fp_register_lt F3 = lit< tt
fp_register_lt F4 = lit< tt
fp_register_lt F5 = lit< tt
fp_register_lt F6 = lit< tt
fp_register_lt F7 = lit< tt
fp_register_lt F8 = lit< tt
fp_register_lt F9 = lit< tt
fp_register_lt F10 = lit< tt
fp_register_lt F11 = lit< tt
fp_register_lt F12 = lit< tt
fp_register_lt F13 = lit< tt
fp_register_lt F14 = lit< tt
fp_register_lt F15 = lit< tt
fp_register_lt F16 = lit< tt
fp_register_lt F17 = lit< tt
fp_register_lt F18 = lit< tt
fp_register_lt F19 = lit< tt
fp_register_lt F20 = lit< tt
fp_register_lt F21 = lit< tt
fp_register_lt F22 = lit< tt
fp_register_lt F23 = lit< tt
fp_register_lt F24 = lit< tt
fp_register_lt F25 = lit< tt
fp_register_lt F26 = lit< tt
fp_register_lt F27 = lit< tt
fp_register_lt F28 = lit< tt
fp_register_lt F29 = lit< tt
fp_register_lt F30 = lit< tt
fp_register_lt F31 = lit< tt
