-- A digit's value is that of std's `to_digit`, for a base up to 16. Assumes nothing.
use Rattle.std.proofs.Common.{ℕ, ◌≤◌, ◌<◌, ◌≡◌, arith}
use Rattle.std.specs.Char.{IsDigitOf, digit_value as std_value}
use Rattle.std.proofs.lemmas.Grind.{common_steps}
use Rattle.text_pieces.specs.Numbers.{digit_value}

module _ (b base : ℕ) (h : base ≤ 16) where
  pub digit_is : (d : ℕ) → IsDigitOf b d → d < base → digit_value b ≡ d
  unfolding digit_value
  digit_is d i l = grind (arith, common_steps)

  pub no_digit : (std_value b < base → ⊥) → base ≤ digit_value b
  unfolding digit_value
  no_digit n = grind (arith, common_steps)
