-- The mask clears the field (Masks), and the shift of the value loses nothing.
use Rattle.std.proofs.Common.{◌^◌, ◌<◌, ap₂, arith}
use Rattle.std.proofs.Math.Nat.{mod-eq_of_lt}
use Rattle.std.specs.Int.Bits.{bit_or}
use Rattle.field.specs.Field.{or_field}
use Rattle.word.proofs.Masks.{clears}
use Rattle.word.proofs.InstructionBuilder.with_field.Goals as goal

pub returns : goal.returns
unfolding or_field
returns c =
    let a = c.args in
    let hw : a.self.0 < 2 ^ 32 = omega arith in
    ap₂ bit_or (clears a.self.0 a.field.offset a.field.width hw c.requires.1 c.requires.0) (mod-eq_of_lt c.requires.3)
