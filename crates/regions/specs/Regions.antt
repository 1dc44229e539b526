-- Region records, kind 35 (document 01, 'Label 34, region 35, entry 38'). Assumes nothing.
use Rattle.std.specs.Prelude.{ℕ, ◌+◌, ◌-◌, List, [], ◌∷◌, Bool, ◌&&◌, length, get_or, leb, eqb, Option, Some}
use Rattle.record.specs.Bytes.{le32}
use Rattle.record.specs.Records.{body_len, kind_at, whole, places, first_bad_of, within_limit}
use Rattle.regions.specs.declared.Region.{Region}

-- "Region: address (4), data"
unfoldable pub region_ok : List ℕ → ℕ → Bool
region_ok s at = whole s at && (eqb (kind_at s at) 35 && leb 4 (body_len s at))

-- "1 to 16 regions": an empty list is bad at its end, and a seventeenth region breaks the layout.
unfoldable pub region_records : List ℕ → List ℕ → Option ℕ
unfolding region_ok first_bad_of
region_records s [] = Some (length s)
region_records s (p ∷ ps) = first_bad_of 16 (region_ok s) (p ∷ ps)

unfoldable pub region_layout : List ℕ → Option ℕ
unfolding region_records places within_limit
region_layout s = within_limit s (region_records s (places s))

-- "numbered from 0"
abbrev pub region_count : List ℕ → ℕ
region_count s = length (places s)

abbrev pub region_place : List ℕ → ℕ → ℕ
region_place s n = get_or (places s) n 0

-- the region of the record at p: its address, and where its data stands in the list
abbrev pub region_at : List ℕ → ℕ → Region
region_at s p = record { address = le32 s (p + 4); start = p + 8; size = body_len s p - 4 }
