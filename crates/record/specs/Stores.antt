-- Numbers, locations and records as bytes (document 01, 'Common record head'), and a buffer with bytes written into it. Assumes nothing.
use Rattle.std.specs.Prelude.{ℕ, ◌+◌, ◌/◌, ◌%◌, ◌^◌, ◌<◌, List, [], ◌∷◌, ◌++◌, length, take, drop}
use Rattle.record.specs.declared.Location.{Location}

abbrev pub le16_bytes : ℕ → List ℕ
le16_bytes n = n % 256 ∷ n / 256 % 256 ∷ []

abbrev pub le32_bytes : ℕ → List ℕ
le32_bytes n = n % 256 ∷ n / 256 % 256 ∷ n / 65536 % 256 ∷ n / 16777216 % 256 ∷ []

abbrev pub le64_bytes : ℕ → List ℕ
le64_bytes n = le32_bytes (n % 2 ^ 32) ++ le32_bytes (n / 2 ^ 32)

-- "A location is a 4-byte source and a 4-byte index."
abbrev pub location_bytes : Location → List ℕ
location_bytes l = le32_bytes l.source ++ le32_bytes l.index

-- a location whose two numbers fit four bytes each
pub record LocationFits (l : Location) : Type 0 where
  pub source_fits : l.source < 2 ^ 32
  pub index_fits : l.index < 2 ^ 32

-- "Every record begins with a 2-byte length (of the bytes after the head) and a 2-byte kind."
abbrev pub record_bytes : ℕ → List ℕ → List ℕ
record_bytes kind body = le16_bytes (length body) ++ le16_bytes kind ++ body

-- a buffer after bytes are written from its fill count on
unfoldable pub append : List ℕ → ℕ → List ℕ → List ℕ
append buffer fill bytes = take fill buffer ++ bytes ++ drop (fill + length bytes) buffer

-- the filled part of that buffer
abbrev pub filled_with : (buffer : List ℕ) (fill : ℕ) (bytes : List ℕ) → List ℕ
filled_with buffer fill bytes = take (fill + length bytes) (append buffer fill bytes)
