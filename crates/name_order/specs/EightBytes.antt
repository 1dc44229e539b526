-- Eight bytes at once, as a number whose first byte is the highest. Assumes nothing.
use Rattle.std.specs.Prelude.{ℕ, ◌+◌, ◌*◌, ◌<◌, List, get_or}

-- ---- eight bytes at once
pub record Bytes (s : List ℕ) (i : ℕ) : Type 0 where
  pub second : get_or s (i + 1) 0 < 256
  pub third : get_or s (i + 2) 0 < 256
  pub fourth : get_or s (i + 3) 0 < 256
  pub fifth : get_or s (i + 4) 0 < 256
  pub sixth : get_or s (i + 5) 0 < 256
  pub seventh : get_or s (i + 6) 0 < 256
  pub eighth : get_or s (i + 7) 0 < 256

-- as a number, the first byte highest
abbrev pub more : List ℕ → ℕ → ℕ → ℕ
more s x j = x * 256 + get_or s j 0

abbrev pub four : List ℕ → ℕ → ℕ
four s i = more s (more s (more s (get_or s i 0) (i + 1)) (i + 2)) (i + 3)

abbrev pub high_first : List ℕ → ℕ → ℕ
high_first s i = more s (more s (more s (more s (four s i) (i + 4)) (i + 5)) (i + 6)) (i + 7)
