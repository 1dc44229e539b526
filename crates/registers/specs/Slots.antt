-- The register with a given number: the inverse of `register_number`, for 0 to 31. Assumes nothing.
use Rattle.std.specs.Prelude.{ℕ, List, [], ◌∷◌, get_or}
use Rattle.registers.specs.declared.RegisterSlot.{RegisterSlot}
use Rattle.registers.specs.declared.RegisterSlot.TheVariants.{Zero, AssemblerTemporary, Value0, Value1, Parameter0, Parameter1, Parameter2, Parameter3, Temporary0, Temporary1, Temporary2, Temporary3, Temporary4, Temporary5, Temporary6, Temporary7, Saved0, Saved1, Saved2, Saved3, Saved4, Saved5, Saved6, Saved7, Temporary8, Temporary9, Kernel0, Kernel1, GeneralPointer, StackPointer, FramePointer, ReturnAddress}
use Rattle.registers.specs.declared.FPRegisterSlot.{FPRegisterSlot}
use Rattle.registers.specs.declared.FPRegisterSlot.TheVariants.{F0, F1, F2, F3, F4, F5, F6, F7, F8, F9, F10, F11, F12, F13, F14, F15, F16, F17, F18, F19, F20, F21, F22, F23, F24, F25, F26, F27, F28, F29, F30, F31}

-- the registers in order; a number past them gives the last
abbrev pub slots : List RegisterSlot
slots = Zero ∷ AssemblerTemporary ∷ Value0 ∷ Value1 ∷ Parameter0 ∷ Parameter1 ∷ Parameter2 ∷ Parameter3 ∷ Temporary0 ∷ Temporary1 ∷ Temporary2 ∷ Temporary3 ∷ Temporary4 ∷ Temporary5 ∷ Temporary6 ∷ Temporary7 ∷ Saved0 ∷ Saved1 ∷ Saved2 ∷ Saved3 ∷ Saved4 ∷ Saved5 ∷ Saved6 ∷ Saved7 ∷ Temporary8 ∷ Temporary9 ∷ Kernel0 ∷ Kernel1 ∷ GeneralPointer ∷ StackPointer ∷ FramePointer ∷ ReturnAddress ∷ []

abbrev pub register_of : ℕ → RegisterSlot
register_of n = get_or slots n ReturnAddress

abbrev pub fp_slots : List FPRegisterSlot
fp_slots = F0 ∷ F1 ∷ F2 ∷ F3 ∷ F4 ∷ F5 ∷ F6 ∷ F7 ∷ F8 ∷ F9 ∷ F10 ∷ F11 ∷ F12 ∷ F13 ∷ F14 ∷ F15 ∷ F16 ∷ F17 ∷ F18 ∷ F19 ∷ F20 ∷ F21 ∷ F22 ∷ F23 ∷ F24 ∷ F25 ∷ F26 ∷ F27 ∷ F28 ∷ F29 ∷ F30 ∷ F31 ∷ []

abbrev pub fp_register_of : ℕ → FPRegisterSlot
fp_register_of n = get_or fp_slots n F31
