-- The entry record, kind 38 (document 01, 'Label 34, region 35, entry 38'). Assumes nothing.
use Rattle.std.specs.Prelude.{ℕ, ◌+◌, List, [], ◌∷◌, Bool, ◌&&◌, leb, eqb, None, Option, Some}
use Rattle.record.specs.Records.{body_len, kind_at, next, whole, places, first_bad_of, within_limit}
use Rattle.address_label.specs.AddressLabels.{address_label_ok, address_label_at}
use Rattle.address_label.specs.declared.AddressLabel.{AddressLabel}

-- "Entry: form, value, location, name, as in pending"
unfoldable pub entry_ok : List ℕ → ℕ → Bool
unfolding address_label_ok
entry_ok s at = whole s at && (eqb (kind_at s at) 38 && leb 17 (body_len s at) && address_label_ok s (at + 4) (next s at))

-- "at most one"
unfoldable pub entry_layout : List ℕ → Option ℕ
unfolding entry_ok first_bad_of places within_limit
entry_layout s = within_limit s (first_bad_of 1 (entry_ok s) (places s))

abbrev pub entry_of : List ℕ → List ℕ → Option AddressLabel
entry_of s [] = None
entry_of s (p ∷ ps) = Some (address_label_at s (p + 4) (next s p))
