-- A constant or a name with an offset, as a pending and an entry record hold it: form (1 byte), value or added offset (8), the name's
-- location, the name (document 01, 'Pending 36'). Assumes nothing.
use Rattle.std.specs.Prelude.{ℕ, ◌+◌, ◌-◌, List, Bool, true, false, ◌&&◌, leb, eqb}
use Rattle.record.specs.Bytes.{byte_at, le32, le64, location_at, part, is_text, all}
use Rattle.address_label.specs.declared.AddressLabel.{AddressLabel}
use Rattle.address_label.specs.declared.AddressLabel.TheVariants.{Constant, Label}

-- from the form at i to the record's end at e: "Form 0 has zero location and no name."
abbrev pub constant_ok : List ℕ → ℕ → ℕ → Bool
constant_ok s i e = eqb e (i + 17) && eqb (le32 s (i + 9)) 0 && eqb (le32 s (i + 13)) 0

-- "name of 1 to 64 bytes"
abbrev pub named_ok : List ℕ → ℕ → ℕ → Bool
named_ok s i e = leb (i + 18) e && leb e (i + 81) && all is_text (part s (i + 17) (e - (i + 17)))

-- "form (1 byte: 0 constant, 1 name)"
unfoldable pub address_label_ok : List ℕ → ℕ → ℕ → Bool
unfolding all
address_label_ok s i e = elim (eqb (byte_at s i) 0) [ true ↦ constant_ok s i e | false ↦ eqb (byte_at s i) 1 && named_ok s i e ]

-- what stands there: the constant, or the name's place and length, its location and the offset
abbrev pub address_label_at : List ℕ → ℕ → ℕ → AddressLabel
address_label_at s i e =
    elim (eqb (byte_at s i) 0) [
      | true ↦ Constant (le64 s (i + 1))
      | false ↦ Label (record { name_at = i + 17; name_len = e - (i + 17); location = location_at s (i + 9); offset = le64 s (i + 1) })
    ]
