-- What a build asks of its label list by document 01, before document 02's P6: labels of kind 34 alone, for all files. Assumes nothing.
use Rattle.std.specs.Prelude.{ℕ, List, Bool, ◌&&◌, leb, eqb, Option}
use Rattle.record.specs.Bytes.{is_text, all}
use Rattle.record.specs.Records.{body_len, kind_at, whole, places, first_bad, within_limit}
use Rattle.names.specs.Names.{name_of, first_where, first_named, first_repeat}
use Rattle.labels.specs.Labels.{address_of, Table}

-- "Label: address (4), name of 1 to 64."
abbrev pub straight_ok : List ℕ → ℕ → Bool
straight_ok s at = whole s at && (eqb (kind_at s at) 34 && leb 5 (body_len s at) && leb (body_len s at) 68 && all is_text (name_of 4 s at))

unfoldable pub straight_layout : List ℕ → Option ℕ
unfolding first_bad places within_limit all
straight_layout s = within_limit s (first_bad (straight_ok s) (places s))

-- the address of the label of that name, whatever the source
unfoldable pub straight_address : List ℕ → (name : List ℕ) → Option ℕ
unfolding first_where places
straight_address s name = address_of s (first_named 4 s name)

-- refusal 2: "two labels share a name"
abbrev pub straight_table : List ℕ → Table
straight_table s = record { layout = straight_layout s; repeat = first_repeat 4 s; address = λ (source : ℕ) (name : List ℕ). straight_address s name }
