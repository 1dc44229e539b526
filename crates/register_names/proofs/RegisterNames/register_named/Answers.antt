use Rattle.std.proofs.Common.{refl, ap, ◌∙◌, arith}
use Rattle.register_names.proofs.RegisterNamesLaws.{general_is, number_is, float_is, unknown_is}
use Rattle.std.specs.Prelude.{Some}
use Rattle.registers.specs.declared.RegisterSlot.{RegisterSlot}
use Rattle.registers.specs.declared.FPRegisterSlot.{FPRegisterSlot}
use Rattle.register_names.specs.declared.NamedRegister.TheVariants.{General, Float}
use Rattle.register_names.proofs.RegisterNames.register_named.Goals as goal

pub returns-in_err-place : goal.returns-in_err-place
returns-in_err-place c = c.from_residual.ensures ∙ unknown_is c.args.name.now _ refl c.in_err-place.ensures

pub returns-in-0-to-31 : goal.returns-in-0-to-31
returns-in-0-to-31 c =
    let p = c.in_ok-place.ensures in
    ap (λ (r : RegisterSlot). Some (General r)) c.from.ensures ∙ general_is c.args.name.now c.in_ok-place.place p.0 (omega (arith, c.in-0-to-31))

pub returns-in-32-to-63 : goal.returns-in-32-to-63
returns-in-32-to-63 c =
    let p = c.in_ok-place.ensures in
    ap (λ (r : RegisterSlot). Some (General r)) c.from-in-32-to-63.ensures ∙ number_is c.args.name.now c.in_ok-place.place p.0 (omega (arith, c.in-32-to-63)) (omega (arith, c.in-32-to-63))

pub returns-in_default : goal.returns-in_default
returns-in_default c =
    let p = c.in_ok-place.ensures in
    ap (λ (r : FPRegisterSlot). Some (Float r)) c.from-in_default.ensures ∙ float_is c.args.name.now c.in_ok-place.place p.0 (omega (arith, c.in_default)) p.1
