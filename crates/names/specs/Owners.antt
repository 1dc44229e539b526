-- Names of records, some of which have an owner (document 02, P6). Assumes nothing.
use Rattle.std.specs.Prelude.{ℕ, ◌+◌, List, Bool, true, false, ◌&&◌, not, ◌≡◌, eqb, None, Option}
use Rattle.record.specs.Bytes.{le32, same_bytes}
use Rattle.record.specs.Records.{kind_at, places, first_bad}
use Rattle.names.specs.Names.{name_of, has_name, first_where, first_later}

-- "a new kind 41 has a 4-byte owner after its address": after the record's fixed fields, before its name
abbrev pub has_owner : List ℕ → ℕ → Bool
has_owner s at = eqb (kind_at s at) 41

-- no record of the list has an owner
abbrev pub WithoutOwners : List ℕ → Type 0
WithoutOwners s = first_bad (λ (p : ℕ). not (has_owner s p)) (places s) ≡ None

-- "Kind 34 stays the label for all files"; "the owner (0xFFFFFFFF for all)"
abbrev pub for_all : ℕ
for_all = 0xFFFFFFFF

abbrev pub owner_of : ℕ → List ℕ → ℕ → ℕ
owner_of skip s at = elim (has_owner s at) [ true ↦ le32 s (at + 4 + skip) | false ↦ for_all ]

-- how many bytes of the body come before the name
abbrev pub before_name : ℕ → List ℕ → ℕ → ℕ
before_name skip s at = elim (has_owner s at) [ true ↦ skip + 4 | false ↦ skip ]

abbrev pub owned_name : ℕ → List ℕ → ℕ → List ℕ
owned_name skip s at = name_of (before_name skip s at) s at

-- the record at `at` is whole and has room for the bytes before its name
abbrev pub has_owned_name : ℕ → List ℕ → ℕ → Bool
has_owned_name skip s at = has_name (before_name skip s at) s at

-- the record at `at` has the owner and the name
abbrev pub is_owned : ℕ → List ℕ → (owner : ℕ) → (name : List ℕ) → (at : ℕ) → Bool
is_owned skip s owner name at = eqb (owner_of skip s at) owner && same_bytes (owned_name skip s at) name

abbrev pub first_owned : ℕ → List ℕ → (owner : ℕ) → (name : List ℕ) → Option ℕ
first_owned skip s owner name = first_where (is_owned skip s owner name) (places s)

-- "Two labels of one name get refusal 2 only with the same owner or none."
abbrev pub same_owned : ℕ → List ℕ → (p q : ℕ) → Bool
same_owned skip s p = is_owned skip s (owner_of skip s p) (owned_name skip s p)

abbrev pub owned_repeat : ℕ → List ℕ → Option ℕ
owned_repeat skip s = first_later (same_owned skip s) (places s) (places s)
