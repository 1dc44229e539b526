-- A number below 32 fits the field of five bits.
use Rattle.std.proofs.Common.{◌+◌, ◌*◌, ◌^◌, ◌<◌, ◌∙◌, arith}
use Rattle.std.proofs.Math.Nat.{lt_of_lt_of_le}
use Rattle.std.proofs.Math.Pow.{shl_lt, pow_mono}
use Rattle.field.proofs.FieldLaws.{or_is_set}
use Rattle.word.proofs.InstructionBuilder.with_number_offset.Goals as goal

pub with_field-requires : goal.with_field-requires
with_field-requires c =
    let above : c.args.number * 2 ^ c.args.offset < 2 ^ 32 =
    lt_of_lt_of_le (shl_lt 5 c.args.offset c.requires.1) (pow_mono {i = 5 + c.args.offset} {j = 32} (omega arith)) in
    (omega arith, omega arith, omega arith, rw c.five_bits.ensures.0 above)

pub returns : goal.returns
returns c = c.with_field.ensures ∙ rw (c.five_bits.ensures.0, c.five_bits.ensures.1) (or_is_set _ _ 5 _ c.requires.1)
