-- There is only one NaN; its bits are written out here.
use Rattle.std.proofs.Common.{◌≡◌, true, refl, sym, ap, ◌∙◌}
use Rattle.std.specs.Float.Ieee.{Float, nan, inf, fin, binary64, is_nan, to_bits}
use Rattle.token_bytes.proofs.bits_of.Goals as goal

quiet : 0x7FF8_0000_0000_0000 ≡ to_bits binary64 nan
unfolding to_bits
quiet = refl

nan_of : (x : Float) → is_nan x ≡ true → x ≡ nan
unfolding is_nan
nan_of nan e = refl
nan_of (inf s) e = cc
nan_of (fin s m k) e = cc

pub returns-then-is_nan : goal.returns-then-is_nan
returns-then-is_nan c = quiet ∙ sym (ap (to_bits binary64) (nan_of c.args.x (sym c.is_nan.ensures.value ∙ c.if-is_nan.true)))
