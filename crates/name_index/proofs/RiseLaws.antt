-- Laws of a list whose names rise: no name repeats another, and one pass can tell. Assumes nothing.
use Rattle.std.specs.Prelude.{ℕ, ◌≤◌, ◌<◌, Bool, true, false, ◌&&◌, ◌≡◌, refl, length, None}
use Rattle.std.proofs.Common.{arith, ◌∙◌}
use mathlib.Core.List.{List, [], ◌∷◌}
use Rattle.std.proofs.Math.Path.{ap}
use Rattle.record.specs.Records.{next, places, places_from, first_bad}
use Rattle.record.proofs.RecordsLaws.{places_all, places_end, places_step, good_ok, good_next}
use Rattle.names.specs.Owners.{has_owned_name, same_owned, owned_repeat}
use Rattle.names.proofs.OwnersLaws.{good_owned}
use Rattle.name_order.specs.Order.{key_order}
use Rattle.name_order.proofs.OrderLaws.{never, key_trans}
use Rattle.name_sort.specs.Sorting.{Sorted, none, more, in_order}
use Rattle.name_sort.proofs.SortingLaws.{at_in, sorted_at, sorted_already}
use Rattle.name_sort.specs.Before.{key_of, decided, before}
use Rattle.name_index.specs.Index.{IndexOf, is_less, below, names_rise}
use Rattle.name_index.proofs.PlacesLaws.{none_later}
use Rattle.name_index.proofs.IndexLaws.{first_is}
use Rattle.std.specs.declared.cmp.Ordering.TheVariants.{Less, Equal, Greater}
use Rattle.std.specs.declared.cmp.Ordering.{Ordering}

is_less_lem : (o : Ordering) → is_less o ≡ true → o ≡ Less
is_less_lem Less e = refl
is_less_lem Equal e = never (cc)
is_less_lem Greater e = never (cc)

sorted_too : (f g : ℕ → ℕ → Bool) → ((x y : ℕ) → f x y ≡ true → g x y ≡ true) → (l : List ℕ) → Sorted f l → Sorted g l
sorted_too f g h [] none = none
sorted_too f g h (x ∷ l) (more a s) = more (λ y k. h x y (a y k)) (sorted_too f g h l s)

module _ (skip : ℕ) (s : List ℕ) where
  below_key : (p q : ℕ) → below skip s p q ≡ true → key_order (key_of skip s p) (key_of skip s q) ≡ Less
  below_key p q e = is_less_lem (key_order (key_of skip s p) (key_of skip s q)) e

  below_trans : (p q r : ℕ) → below skip s p q ≡ true → below skip s q r ≡ true → below skip s p r ≡ true
  below_trans p q r e f =
      ap is_less (key_trans (key_of skip s p) (key_of skip s q) (key_of skip s r) (below_key p q e) (below_key q r f))

  below_before : (p q : ℕ) → below skip s p q ≡ true → before skip s p q ≡ true
  unfolding before
  below_before p q e = ap (λ (o : Ordering). decided o p q) (below_key p q e)

  -- If the names rise, the places are already the index, and each record is the first with its owner and name.
  pub rise_none : names_rise skip s ≡ true → owned_repeat skip s ≡ None
  rise_none e = none_later (same_owned skip s) (places s) (places s) λ q m.
      let i = at_in (places s) q m in
      rw i.2 at (first_is skip s (places s) index i.0 i.1 (λ k h. below_key _ _ (sorted_at (below skip s) (places s) sorted k i.0 h i.1)))
    where
      sorted : Sorted (below skip s) (places s)
      sorted = (sorted_already (below skip s) below_trans (places s) e).sorted

      index : IndexOf skip s (places s)
      index = record { sorted = sorted_too (below skip s) (before skip s) below_before (places s) sorted; counts = λ v. refl }

-- ---- the pass: the names rise up to the record at `last`, and the list's records go on at `at`
pub record Passed (skip : ℕ) (s : List ℕ) (last at : ℕ) : Type 0 where
  pub in_s : at ≤ length s
  pub last_named : has_owned_name skip s last ≡ true
  pub named : first_bad (has_owned_name skip s) (places_from s at) ≡ None
  pub rest : names_rise skip s ≡ in_order (below skip s) (last ∷ places_from s at)

module _ (skip : ℕ) (s : List ℕ) where
  pub rise_empty : length s ≤ 0 → names_rise skip s ≡ true
  unfolding in_order
  rise_empty h = ap (in_order (below skip s)) (places_all s ∙ places_end s 0 h)

  passed_from : (at : ℕ) → at < length s → first_bad (has_owned_name skip s) (places_from s at) ≡ None → names_rise skip s ≡ in_order (below skip s) (places_from s at) → Passed skip s at (next s at)
  passed_from at h g e =
      let r = good_owned skip s at h g in
      record {
        in_s = r.body;
        last_named = good_ok (has_owned_name skip s) s at h g;
        named = good_next (has_owned_name skip s) s at h r.whole_at g;
        rest = e ∙ ap (in_order (below skip s)) (places_step s at h r.whole_at);
      }

  pub passed_start : 0 < length s → first_bad (has_owned_name skip s) (places s) ≡ None → Passed skip s 0 (next s 0)
  passed_start h g = passed_from 0 h (rw places_all at g) (ap (in_order (below skip s)) (places_all s))

  module _ (last at : ℕ) (p : Passed skip s last at) where
    pub passed_end : length s ≤ at → names_rise skip s ≡ true
    unfolding in_order
    passed_end h = p.rest ∙ ap (λ (l : List ℕ). in_order (below skip s) (last ∷ l)) (places_end s at h)

    module _ (h : at < length s) where
      here : names_rise skip s ≡ (below skip s last at && in_order (below skip s) (places_from s at))
      unfolding in_order
      here =
          let e = places_step s at h (good_owned skip s at h p.named).whole_at in
          rw e (p.rest ∙ ap (λ (l : List ℕ). in_order (below skip s) (last ∷ l)) e)

      pub passed_next : below skip s last at ≡ true → Passed skip s at (next s at)
      passed_next e = passed_from at h p.named (here ∙ ap (λ (b : Bool). b && in_order (below skip s) (places_from s at)) e)

      pub passed_stop : below skip s last at ≡ false → names_rise skip s ≡ false
      passed_stop e = here ∙ ap (λ (b : Bool). b && in_order (below skip s) (places_from s at)) e
