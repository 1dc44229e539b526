-- Two files, one `loop` (document 02, P6): if no label repeats, a name resolves to the label of its own file. Assumes nothing.
use Rattle.std.specs.Prelude.{ℕ, ◌+◌, List, ◌≡◌, refl, None, Option, Some}
use Rattle.std.proofs.Common.{arith, ◌∙◌}
use Rattle.std.proofs.Math.Path.{ap}
use Rattle.record.specs.Bytes.{le32, same_bytes}
use Rattle.record.specs.Records.{places_f, places_from, places}
use Rattle.names.specs.Names.{first_where, first_later}
use Rattle.names.specs.Owners.{for_all, owner_of, owned_name, same_owned, first_owned}
use Rattle.name_sort.specs.Sorting.{count, In}
use Rattle.name_index.proofs.PlacesLaws.{all_first}
use Rattle.name_index.proofs.IndexLaws.{is_at_lem}
use Rattle.labels.specs.Labels.{label_repeat, or_else, address_of, resolve}
use Rattle.finished_words.specs.InstanceTables.{loop, labels₁}

module _ (s : List ℕ) (distinct : label_repeat s ≡ None) where
  -- "A name resolves first to the label whose owner equals the source in the name's location"
  pub own_label : (p : ℕ) → In p (places s) → resolve s (owner_of 4 s p) (owned_name 4 s p) ≡ Some (le32 s (p + 4))
  unfolding resolve
  own_label p m =
      let f : first_owned 4 s (owner_of 4 s p) (owned_name 4 s p) ≡ Some p = is_at_lem (first_where (same_owned 4 s p) (places s)) p (all_first (same_owned 4 s) (places s) (places s) distinct p m) in
      ap (λ (n : Option ℕ). address_of s (or_else n (first_owned 4 s for_all (owned_name 4 s p)))) f

  -- Two labels share a name: in each of the two files, it resolves to that file's label.
  pub two_owners : (p q : ℕ) → In p (places s) → In q (places s) → owned_name 4 s p ≡ owned_name 4 s q
      → (resolve s (owner_of 4 s p) (owned_name 4 s p) ≡ Some (le32 s (p + 4))) × (resolve s (owner_of 4 s q) (owned_name 4 s p) ≡ Some (le32 s (q + 4)))
  two_owners p q m n e = (own_label p m, ap (resolve s (owner_of 4 s q)) e ∙ own_label q n)

-- a `loop` of file 1 and one of file 2
pub met_two : (resolve labels₁ 1 loop ≡ Some 0x00400008) × (resolve labels₁ 2 loop ≡ Some 0x00400010)
unfolding labels₁ first_where first_later places places_from places_f same_bytes count
met_two = two_owners labels₁ refl 12 28 (omega arith) (omega arith) refl
