-- The definition, computed: `$t0`, `$31` and `$f31` are registers, `$f32`, `$01`, `$T0` and `$` none. Assumes nothing.
use Rattle.std.specs.Prelude.{◌≡◌, refl, Some, None}
use Rattle.registers.specs.declared.RegisterSlot.TheVariants.{Temporary0, ReturnAddress}
use Rattle.registers.specs.declared.FPRegisterSlot.TheVariants.{F31}
use Rattle.record.specs.Texts.{bytes_of}
use Rattle.register_names.specs.RegisterNames.{register_named}
use Rattle.register_names.specs.declared.NamedRegister.TheVariants.{General, Float}

pub known : (register_named (bytes_of "t0") ≡ Some (General Temporary0)) × (register_named (bytes_of "31") ≡ Some (General ReturnAddress)) × (register_named (bytes_of "f31") ≡ Some (Float F31))
unfolding register_named
known = (refl, refl, refl)

pub unknown : (register_named (bytes_of "f32") ≡ None) × (register_named (bytes_of "01") ≡ None) × (register_named (bytes_of "T0") ≡ None) × (register_named (bytes_of "") ≡ None)
unfolding register_named
unknown = (refl, refl, refl, refl)
