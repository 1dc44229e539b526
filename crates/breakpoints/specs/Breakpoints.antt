-- Breakpoint records, kind 37, and the filled part of a buffer (document 01, 'Pending 36, breakpoint 37'). Assumes nothing.
use Rattle.std.specs.Prelude.{ℕ, zero, suc, ◌+◌, ◌-◌, ◌/◌, ◌%◌, List, [], ◌∷◌, Bool, true, false, ◌&&◌, length, take, leb, eqb, None, Option, Some}
use Rattle.record.specs.Bytes.{le32, location_at}
use Rattle.record.specs.declared.Location.{Location}
use Rattle.record.specs.Records.{body_len, kind_at, whole, places, first_bad, within_limit}
use Rattle.pending.specs.Pendings.{pending_ok}

-- "Breakpoint: location, then one 4-byte pc a word": a line has one to five words
unfoldable pub breakpoint_ok : List ℕ → ℕ → Bool
breakpoint_ok s at = whole s at && (eqb (kind_at s at) 37 && leb 12 (body_len s at) && leb (body_len s at) 28 && eqb (body_len s at % 4) 0)

-- n words from i on
unfoldable pub words_at : (n : ℕ) → List ℕ → (i : ℕ) → List ℕ
words_at zero s i = []
words_at (suc n) s i = le32 s i ∷ words_at n s (i + 4)

-- what the breakpoint at `at` holds
abbrev pub breakpoint_location : List ℕ → ℕ → Location
breakpoint_location s at = location_at s (at + 4)

abbrev pub breakpoint_pcs : List ℕ → ℕ → List ℕ
breakpoint_pcs s at = words_at ((body_len s at - 8) / 4) s (at + 12)

-- "a buffer is over 65,536 bytes, or a fill count over its buffer's length": the bad place is then the limit or that length, and no record is read
unfoldable pub filled_layout : ℕ → List ℕ → Option ℕ → Option ℕ
unfolding within_limit
filled_layout fill s l = within_limit s (elim (leb fill (length s)) [ true ↦ l | false ↦ Some (length s) ])

-- "the filled parts of the last two are checked as lists"; "in an emit call a pending needs 0 to 15"
unfoldable pub pending_buffer_layout : ℕ → List ℕ → Option ℕ
unfolding filled_layout pending_ok first_bad places
pending_buffer_layout fill s = filled_layout fill s (first_bad (pending_ok 16 (take fill s)) (places (take fill s)))

unfoldable pub breakpoint_buffer_layout : ℕ → List ℕ → Option ℕ
unfolding filled_layout breakpoint_ok first_bad places
breakpoint_buffer_layout fill s = filled_layout fill s (first_bad (breakpoint_ok (take fill s)) (places (take fill s)))

-- "The selected number is 0 to 15, or 65535 for none; another is refusal 1 for the data buffer, b 0."
abbrev pub region_number_ok : ℕ → Bool
region_number_ok n = elim (leb n 15) [ true ↦ true | false ↦ eqb n 65535 ]

unfoldable pub data_buffer_layout : ℕ → ℕ → List ℕ → Option ℕ
unfolding filled_layout
data_buffer_layout region fill s = elim (region_number_ok region) [ true ↦ filled_layout fill s None | false ↦ Some 0 ]
