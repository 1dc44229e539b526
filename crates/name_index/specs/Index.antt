-- An ordered index of a list of records, and a search in it (document 02, P13). Assumes nothing.
use Rattle.std.specs.Prelude.{ℕ, zero, suc, ◌+◌, ◌-◌, ◌/◌, List, Bool, true, false, length, get_or, ltb, eqb, None, Some}
use Rattle.record.specs.Bytes.{same_bytes}
use Rattle.record.specs.Records.{places}
use Rattle.names.specs.Owners.{owner_of, owned_name, same_owned}
use Rattle.name_order.specs.Order.{key_order}
use Rattle.name_sort.specs.Sorting.{SortOf, in_order}
use Rattle.name_sort.specs.Before.{key_of, before}
use Rattle.name_index.specs.declared.Looked.{Looked}
use Rattle.name_index.specs.Told.{Told}
use Rattle.names.specs.Names.{is_first}
use Rattle.std.specs.declared.cmp.Ordering.TheVariants.{Less, Equal, Greater}
use Rattle.std.specs.declared.cmp.Ordering.{Ordering}

-- "an ordered index": the places of the list's records, sorted by name, then by owner, then by place
abbrev pub IndexOf : ℕ → List ℕ → List ℕ → Type 0
IndexOf skip s l = SortOf (before skip s) (places s) l

abbrev pub is_less : Ordering → Bool
is_less Less = true
is_less Equal = false
is_less Greater = false

-- the record at p goes before the record at q by name, then by owner
abbrev pub below : ℕ → List ℕ → ℕ → ℕ → Bool
below skip s p q = is_less (key_order (key_of skip s p) (key_of skip s q))

-- document 02, P13: each record's name and owner go before the next one's
abbrev pub names_rise : ℕ → List ℕ → Bool
names_rise skip s = in_order (below skip s) (places s)

abbrev pub middle : ℕ → ℕ → ℕ
middle lo hi = lo + (hi - lo) / 2

-- A binary search of the index from lo to before hi, after c comparisons of names: it compares the middle one, then searches before it or
-- after it. At most `fuel` comparisons are made.
unfoldable pub search_f : (fuel : ℕ) → (stands : ℕ → Ordering) → (index : List ℕ) → (lo hi c : ℕ) → Looked
search_f zero stands index lo hi c = record { named = None; compared = c; end = lo }
search_f (suc f) stands index lo hi c =
    elim (ltb lo hi) [
      | false ↦ record { named = None; compared = c; end = lo }
      | true ↦
          elim (stands (get_or index (middle lo hi) 0)) [
            | Less ↦ search_f f stands index (middle lo hi + 1) hi (c + 1)
            | Equal ↦ record { named = Some (get_or index (middle lo hi) 0); compared = c + 1; end = middle lo hi }
            | Greater ↦ search_f f stands index lo (middle lo hi) (c + 1)
          ]
    ]

unfoldable pub search_from : (stands : ℕ → Ordering) → (index : List ℕ) → (lo hi c : ℕ) → Looked
unfolding search_f
search_from stands index lo hi c = search_f (hi - lo) stands index lo hi c

-- compares the record at p with a name and an owner
abbrev pub standing : ℕ → List ℕ → (owner : ℕ) → (name : List ℕ) → ℕ → Ordering
standing skip s owner name p = key_order (key_of skip s p) (name, owner)

-- "a lookup through an ordered index, returning its count of name comparisons"; c have been made before
unfoldable pub lookup_from : ℕ → List ℕ → (index : List ℕ) → (owner : ℕ) → (name : List ℕ) → (c : ℕ) → Looked
unfolding search_from
lookup_from skip s index owner name c = search_from (standing skip s owner name) index 0 (length index) c

unfoldable pub lookup : ℕ → List ℕ → (index : List ℕ) → (owner : ℕ) → (name : List ℕ) → Looked
unfolding lookup_from
lookup skip s index owner name = lookup_from skip s index owner name 0

-- whether the record at p has the owner and the name, after c comparisons of names; if the owner differs, the name is not compared
abbrev pub told : ℕ → List ℕ → (owner : ℕ) → (name : List ℕ) → (p c : ℕ) → Told
told skip s owner name p c =
    elim (eqb (owner_of skip s p) owner) [
      | true ↦ record { same = same_bytes (owned_name skip s p) name; compared = c + 1 }
      | false ↦ record { same = false; compared = c }
    ]

-- the record at p is the first with its owner and name
abbrev pub owned_first : ℕ → List ℕ → ℕ → Bool
owned_first skip s p = is_first (same_owned skip s) (places s) p
