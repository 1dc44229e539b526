-- An index, computed: what its order and its groups are (document 02, P1 and P6). Assumes nothing.
use Rattle.std.specs.Prelude.{ℕ, ◌≡◌, refl, List, [], ◌∷◌, ◌++◌}
use Rattle.record.specs.Bytes.{same_bytes}
use Rattle.record.specs.Records.{places_f, places_from, places}
use Rattle.record.specs.Stores.{le16_bytes, le32_bytes, le64_bytes, record_bytes}
use Rattle.names.specs.Names.{first_where}
use Rattle.name_order.specs.Order.{order}
use Rattle.label_uses.specs.Uses.{key_for, insert_use, uses_from, uses_of}
use Rattle.label_uses.specs.UseBytes.{numbers_bytes, uses_bytes, index_of}

abbrev a : List ℕ
a = 97 ∷ []

abbrev ab : List ℕ
ab = 97 ∷ 98 ∷ []

abbrev b : List ℕ
b = 98 ∷ []

abbrev c : List ℕ
c = 99 ∷ []

-- a for all files and a of source 1, but c of source 7 only
abbrev labels : List ℕ
labels = record_bytes 34 (le32_bytes 8 ++ a) ++ record_bytes 41 (le32_bytes 4 ++ le32_bytes 1 ++ a) ++ record_bytes 41 (le32_bytes 0 ++ le32_bytes 7 ++ c)

-- a pending with this form byte, and with a name that this source uses
abbrev waits : (form source : ℕ) → List ℕ → List ℕ
waits form source name = record_bytes 36 (le16_bytes 0 ++ le32_bytes 0 ++ le64_bytes 0 ++ (4 ∷ form ∷ []) ++ le64_bytes 0 ++ le32_bytes source ++ le32_bytes 0 ++ name)

-- Pending number 0 is a constant.
abbrev pending : List ℕ
pending = waits 0 0 [] ++ waits 1 1 a ++ waits 1 3 a ++ waits 1 2 b ++ waits 1 2 a ++ waits 1 256 b ++ waits 1 3 c ++ waits 1 7 c ++ waits 1 1 ab

abbrev row : (known count : ℕ) → (numbers : List ℕ) → (owner : ℕ) → List ℕ → List ℕ
row known count numbers owner name = record_bytes 39 ((known ∷ []) ++ le16_bytes count ++ numbers ++ le32_bytes owner ++ name)

-- Two owners of a give two groups. Two sources that use the a for all give one. a is before ab, source 2 before 256, c known before c unknown.
computed : index_of labels pending
    ≡ row 1 1 (le16_bytes 1) 1 a ++ row 1 2 (le16_bytes 2 ++ le16_bytes 4) 0xFFFFFFFF a ++ row 0 1 (le16_bytes 8) 1 ab ++ row 0 1 (le16_bytes 3) 2 b ++ row 0 1 (le16_bytes 5) 256 b
    ++ row 1 1 (le16_bytes 7) 7 c ++ row 0 1 (le16_bytes 6) 3 c
unfolding index_of uses_bytes numbers_bytes uses_of uses_from insert_use key_for order first_where same_bytes places places_from places_f
computed = refl
