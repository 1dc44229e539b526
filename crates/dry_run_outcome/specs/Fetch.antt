-- The word at a pc of an image (document 02, P10). Assumes nothing.
use Rattle.std.specs.Prelude.{ℕ, ◌+◌, ◌-◌, ◌%◌, ◌^◌, [], ◌∷◌, true, false, leb, length, None, Option, Some}
use Rattle.record.specs.Bytes.{le32}
use Rattle.reading.specs.Reading.{Image}

-- "pc, which is region address plus offset", wrapping: the offset of a pc in a region
abbrev pub offset_in : (address pc : ℕ) → ℕ
offset_in address pc = (pc + 2 ^ 32 - address) % 2 ^ 32

-- "A whole word is any four bytes of one region; where regions overlap, the lowest number having that word is read."
unfoldable pub fetch : Image → ℕ → Option ℕ
fetch [] pc = None
fetch (region ∷ regions) pc =
    elim (leb (offset_in region.address pc + 4) (length region.bytes)) [
      | true ↦ Some (le32 region.bytes (offset_in region.address pc))
      | false ↦ fetch regions pc
    ]
