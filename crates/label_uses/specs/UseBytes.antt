-- The index as bytes, records of kind 39 (document 02, P1). Assumes nothing.
use Rattle.std.specs.Prelude.{ℕ, List, [], ◌∷◌, ◌++◌, Bool, true, false, length, take, None, Option, Some}
use Rattle.record.specs.Bytes.{same_bytes}
use Rattle.record.specs.Stores.{le16_bytes, le32_bytes, record_bytes}
use Rattle.breakpoints.specs.Breakpoints.{filled_layout}
use Rattle.label_uses.specs.Uses.{is_known, kept_of, Use, uses_of}

abbrev pub flag_of : Bool → ℕ
flag_of true = 1
flag_of false = 0

unfoldable pub numbers_bytes : List ℕ → List ℕ
numbers_bytes [] = []
numbers_bytes (n ∷ ns) = le16_bytes n ++ numbers_bytes ns

-- "known flag (1 byte), count (2), list numbers (2 each), name"; "the owner .. or source is kept as 4 bytes before the name"
abbrev pub use_body : Use → List ℕ
use_body u =
    flag_of (is_known u.key.standing) ∷ le16_bytes (length u.numbers) ++ numbers_bytes u.numbers ++ le32_bytes (kept_of u.key.standing) ++ u.key.name

-- "Its record, kind 39"
abbrev pub use_bytes : Use → List ℕ
use_bytes u = record_bytes 39 (use_body u)

unfoldable pub uses_bytes : List Use → List ℕ
unfolding numbers_bytes
uses_bytes [] = []
uses_bytes (u ∷ us) = use_bytes u ++ uses_bytes us

-- "an index made afresh from the whole list and the call's labels", as bytes
unfoldable pub index_of : (labels pending : List ℕ) → List ℕ
unfolding uses_bytes uses_of
index_of labels pending = uses_bytes (uses_of labels pending)

-- "One handed in that is not the earlier list's by these labels gets refusal 1 (b 0)."
unfoldable pub index_layout : (labels pending : List ℕ) (fill : ℕ) (index : List ℕ) → Option ℕ
unfolding filled_layout index_of
index_layout labels pending fill index =
    filled_layout fill index (elim (same_bytes (take fill index) (index_of labels pending)) [ true ↦ None | false ↦ Some 0 ])
