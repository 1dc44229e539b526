-- A field of a number: `width` binary digits from the digit `off` on. Assumes nothing.
use Rattle.std.specs.Prelude.{ℕ, ◌+◌, ◌*◌, ◌/◌, ◌%◌, ◌^◌}
use Rattle.std.specs.Int.Bits.{bit_or}

-- the field's value
unfoldable pub get_field : ℕ → ℕ → ℕ → ℕ
get_field w off width = w / 2 ^ off % 2 ^ width

-- w with zeros in the field
unfoldable pub clear_field : ℕ → ℕ → ℕ → ℕ
clear_field w off width = w / 2 ^ (off + width) * 2 ^ (off + width) + w % 2 ^ off

-- w with v in the field, for a v of at most `width` digits
unfoldable pub set_field : ℕ → ℕ → ℕ → ℕ → ℕ
set_field w off width v = w / 2 ^ (off + width) * 2 ^ (off + width) + v * 2 ^ off + w % 2 ^ off

-- w with zeros in the field, and any v OR-ed in at its place: digits of v past the field go into the digits above
unfoldable pub or_field : ℕ → ℕ → ℕ → ℕ → ℕ
or_field w off width v = bit_or (clear_field w off width) (v * 2 ^ off)
