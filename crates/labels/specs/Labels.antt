-- Label records, kinds 34 and 41 (document 01, 'Label 34, region 35, entry 38'; document 02, P6). Assumes nothing.
use Rattle.std.specs.Prelude.{ℕ, ◌+◌, List, Bool, ◌&&◌, ◌||◌, ltb, leb, eqb, None, Option, Some}
use Rattle.record.specs.Bytes.{le32, is_text, all}
use Rattle.record.specs.Records.{body_len, kind_at, whole, places, first_bad, within_limit}
use Rattle.names.specs.Names.{first_where}
use Rattle.names.specs.Owners.{has_owner, for_all, owner_of, before_name, owned_name, first_owned, owned_repeat}

-- "a new kind 41 has a 4-byte owner after its address, a source number below 0xFFFFFFFF"
abbrev pub label_kind : List ℕ → ℕ → Bool
label_kind s at = eqb (kind_at s at) 34 || (has_owner s at && ltb (owner_of 4 s at) for_all)

-- "Label: address (4), name of 1 to 64."
abbrev pub label_body : List ℕ → ℕ → Bool
label_body s at =
    label_kind s at && leb (before_name 4 s at + 1) (body_len s at) && leb (body_len s at) (before_name 4 s at + 64) && all is_text (owned_name 4 s at)

unfoldable pub label_ok : List ℕ → ℕ → Bool
label_ok s at = whole s at && label_body s at

-- the layout of a list of labels
unfoldable pub label_layout : List ℕ → Option ℕ
unfolding label_ok first_bad places within_limit
label_layout s = within_limit s (first_bad (label_ok s) (places s))

-- refusal 2: "Two labels of one name get refusal 2 only with the same owner or none."
abbrev pub label_repeat : List ℕ → Option ℕ
label_repeat s = owned_repeat 4 s

-- "A name resolves first to the label whose owner equals the source in the name's location, then to the one for all."
abbrev pub or_else : Option ℕ → Option ℕ → Option ℕ
or_else (Some p) other = Some p
or_else None other = other

abbrev pub labelled : List ℕ → (source : ℕ) → (name : List ℕ) → Option ℕ
labelled s source name = or_else (first_owned 4 s source name) (first_owned 4 s for_all name)

abbrev pub address_of : List ℕ → Option ℕ → Option ℕ
address_of s (Some p) = Some (le32 s (p + 4))
address_of s None = None

unfoldable pub resolve : List ℕ → (source : ℕ) → (name : List ℕ) → Option ℕ
unfolding first_where places
resolve s source name = address_of s (labelled s source name)

-- ---- what a build asks of its label list

pub record Table : Type 0 where
  pub layout : Option ℕ
  pub repeat : Option ℕ
  pub address : (source : ℕ) → (name : List ℕ) → Option ℕ

abbrev pub table_of : List ℕ → Table
table_of s = record { layout = label_layout s; repeat = label_repeat s; address = resolve s }
