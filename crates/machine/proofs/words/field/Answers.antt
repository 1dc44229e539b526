use Rattle.std.proofs.Common.{◌≡◌, ◌*◌, ◌%◌, ◌^◌, refl, mod-lt, mod-eq_of_lt, one-mul, pow_pos}
use lib.Pow.{pow-lt}
use Rattle.field.specs.Field.{get_field}
use Rattle.machine.proofs.words.field.Goals as goal

pub returns : goal.returns
unfolding get_field
returns c =
    let power : (1 * 2 ^ c.args.width) % 2 ^ 32 ≡ 2 ^ c.args.width = rw one-mul (mod-eq_of_lt (pow-lt c.requires.1)) in
    rw power (refl, mod-lt _ (pow_pos c.args.width))
