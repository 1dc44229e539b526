-- The mnemonic record, kind 32 (document 01, 'Mnemonic 32, descriptor 33'). Assumes nothing.
use Rattle.std.specs.Prelude.{ℕ, ◌+◌, ◌-◌, ◌≤◌, List, [], ◌∷◌, map, Bool, true, false, ◌&&◌, ◌≡◌, length, leb, eqb, Option, Some}
use Rattle.record.specs.Bytes.{byte_at, location_at, part, is_text, all}
use Rattle.record.specs.Records.{body_len, kind_at, whole, places, first_bad_of, within_limit}
use Rattle.record.specs.declared.Location.{Location}

-- "Mnemonic (exactly one in its list): location, then 0 to 16 bytes"
abbrev pub mnemonic_bytes : List ℕ → ℕ → List ℕ
mnemonic_bytes s at = part s (at + 12) (body_len s at - 8)

unfoldable pub mnemonic_ok : List ℕ → ℕ → Bool
unfolding all
mnemonic_ok s at = whole s at && (eqb (kind_at s at) 32 && leb 8 (body_len s at) && leb (body_len s at) 24 && all is_text (mnemonic_bytes s at))

unfoldable pub one_mnemonic : List ℕ → List ℕ → Option ℕ
unfolding mnemonic_ok first_bad_of
one_mnemonic s [] = Some (length s)
one_mnemonic s (p ∷ ps) = first_bad_of 1 (mnemonic_ok s) (p ∷ ps)

unfoldable pub mnemonic_layout : List ℕ → Option ℕ
unfolding one_mnemonic places within_limit
mnemonic_layout s = within_limit s (one_mnemonic s (places s))

-- "lowered by ASCII rules"
abbrev pub lower : ℕ → ℕ
lower b = elim (leb 65 b && leb b 90) [ true ↦ b + 32 | false ↦ b ]

-- the name and the location of the one record, at place 0
unfoldable pub mnemonic_name : List ℕ → List ℕ
mnemonic_name s = map lower (mnemonic_bytes s 0)

abbrev pub mnemonic_location : List ℕ → Location
mnemonic_location s = location_at s 4

-- from `len` on the bytes are zeros
abbrev pub ZeroFrom : ℕ → List ℕ → Type 0
ZeroFrom len bytes = (i : ℕ) → len ≤ i → byte_at bytes i ≡ 0
