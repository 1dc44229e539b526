-- A register's number gives the register back. Assumes nothing.
use Rattle.std.specs.Prelude.{◌≡◌, refl}
use Rattle.registers.specs.Numbers.{register_number, fp_register_number}
use Rattle.registers.specs.Slots.{register_of, fp_register_of}
use Rattle.registers.specs.declared.RegisterSlot.{RegisterSlot}
use Rattle.registers.specs.declared.RegisterSlot.TheVariants.{Zero, AssemblerTemporary, Value0, Value1, Parameter0, Parameter1, Parameter2, Parameter3, Temporary0, Temporary1, Temporary2, Temporary3, Temporary4, Temporary5, Temporary6, Temporary7, Saved0, Saved1, Saved2, Saved3, Saved4, Saved5, Saved6, Saved7, Temporary8, Temporary9, Kernel0, Kernel1, GeneralPointer, StackPointer, FramePointer, ReturnAddress}
use Rattle.registers.specs.declared.FPRegisterSlot.{FPRegisterSlot}
use Rattle.registers.specs.declared.FPRegisterSlot.TheVariants.{F0, F1, F2, F3, F4, F5, F6, F7, F8, F9, F10, F11, F12, F13, F14, F15, F16, F17, F18, F19, F20, F21, F22, F23, F24, F25, F26, F27, F28, F29, F30, F31}

pub register_read : (slot : RegisterSlot) → register_of (register_number slot) ≡ slot
register_read Zero = refl
register_read AssemblerTemporary = refl
register_read Value0 = refl
register_read Value1 = refl
register_read Parameter0 = refl
register_read Parameter1 = refl
register_read Parameter2 = refl
register_read Parameter3 = refl
register_read Temporary0 = refl
register_read Temporary1 = refl
register_read Temporary2 = refl
register_read Temporary3 = refl
register_read Temporary4 = refl
register_read Temporary5 = refl
register_read Temporary6 = refl
register_read Temporary7 = refl
register_read Saved0 = refl
register_read Saved1 = refl
register_read Saved2 = refl
register_read Saved3 = refl
register_read Saved4 = refl
register_read Saved5 = refl
register_read Saved6 = refl
register_read Saved7 = refl
register_read Temporary8 = refl
register_read Temporary9 = refl
register_read Kernel0 = refl
register_read Kernel1 = refl
register_read GeneralPointer = refl
register_read StackPointer = refl
register_read FramePointer = refl
register_read ReturnAddress = refl

pub fp_register_read : (slot : FPRegisterSlot) → fp_register_of (fp_register_number slot) ≡ slot
fp_register_read F0 = refl
fp_register_read F1 = refl
fp_register_read F2 = refl
fp_register_read F3 = refl
fp_register_read F4 = refl
fp_register_read F5 = refl
fp_register_read F6 = refl
fp_register_read F7 = refl
fp_register_read F8 = refl
fp_register_read F9 = refl
fp_register_read F10 = refl
fp_register_read F11 = refl
fp_register_read F12 = refl
fp_register_read F13 = refl
fp_register_read F14 = refl
fp_register_read F15 = refl
fp_register_read F16 = refl
fp_register_read F17 = refl
fp_register_read F18 = refl
fp_register_read F19 = refl
fp_register_read F20 = refl
fp_register_read F21 = refl
fp_register_read F22 = refl
fp_register_read F23 = refl
fp_register_read F24 = refl
fp_register_read F25 = refl
fp_register_read F26 = refl
fp_register_read F27 = refl
fp_register_read F28 = refl
fp_register_read F29 = refl
fp_register_read F30 = refl
fp_register_read F31 = refl
