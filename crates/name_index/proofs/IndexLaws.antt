-- Laws of an index: what it says of repeated names. Assumes nothing.
use Rattle.std.specs.Prelude.{ℕ, ◌+◌, ◌-◌, ◌≤◌, ◌<◌, List, ◌⊎◌, Bool, true, false, not, ◌≡◌, refl, length, get_or, ltb, eqb, None, Option, Some}
use Rattle.std.proofs.Common.{arith, inl, inr, ⊎_elim, sym, ap, ap₂, ◌∙◌, below_more, ltb-true, ltb-false, eq-eqb, eqb-true}
use Rattle.std.proofs.Math.Bool.{and-eq-true_iff}
use Rattle.std.proofs.lemmas.Bool.{false≢true}
use Rattle.record.specs.Bytes.{same_bytes}
use Rattle.record.proofs.BytesLaws.{same_eq, eq_same}
use Rattle.record.specs.Records.{places, first_bad}
use Rattle.names.specs.Names.{is_at, first_where}
use Rattle.names.specs.Owners.{owner_of, owned_name, has_owned_name, is_owned, same_owned, owned_repeat}
use Rattle.name_order.specs.Order.{Key, key_order}
use Rattle.name_order.proofs.OrderLaws.{never, key_same, key_trans}
use Rattle.name_sort.specs.Sorting.{In}
use Rattle.name_sort.proofs.SortingLaws.{in_at, at_in, sorted_at}
use Rattle.name_sort.specs.Before.{key_of, before}
use Rattle.name_sort.proofs.BeforeLaws.{before_is}
use Rattle.name_index.specs.Index.{IndexOf, owned_first}
use Rattle.name_index.proofs.PlacesLaws.{all_ok, rising, once, apart, within, none_later, least_later, least_where, where_least}
use Rattle.std.specs.declared.cmp.Ordering.TheVariants.{Less}

-- ---- testing owner and name is testing the key
module _ (skip : ℕ) (s : List ℕ) (owner : ℕ) (name : List ℕ) (p : ℕ) where
  pub owned_key : is_owned skip s owner name p ≡ true → key_of skip s p ≡ (name, owner)
  owned_key e =
      let h = (and-eq-true_iff (eqb (owner_of skip s p) owner) (same_bytes (owned_name skip s p) name)).0 e in
      ap₂ (λ (n : List ℕ) (o : ℕ). (n, o)) (same_eq (owned_name skip s p) name h.1) (eqb-true (owner_of skip s p) owner h.0)

  pub key_owned : key_of skip s p ≡ (name, owner) → is_owned skip s owner name p ≡ true
  key_owned e =
      let n : owned_name skip s p ≡ name = ap (λ (k : Key). k.0) e in
      let o : owner_of skip s p ≡ owner = ap (λ (k : Key). k.1) e in
      (and-eq-true_iff (eqb (owner_of skip s p) owner) (same_bytes (owned_name skip s p) name)).1 (eq-eqb (owner_of skip s p) owner o, rw n (eq_same name))

pub is_at_lem : (x : Option ℕ) (p : ℕ) → is_at x p ≡ true → x ≡ Some p
is_at_lem (Some q) p e = ap Some (eqb-true q p e)
is_at_lem None p e = never (cc)

-- Among the first i of the index, `best` is the least place that repeats a name, or the list's end when none does.
pub record LeastRepeat (skip : ℕ) (s l : List ℕ) (i best : ℕ) : Type 0 where
  pub least : (k : ℕ) → k < i → k < length l → owned_first skip s (get_or l k 0) ≡ false → best ≤ get_or l k 0
  pub is : (best ≡ length s) ⊎ (In best l × (owned_first skip s best ≡ false))

module _ (skip : ℕ) (s l : List ℕ) (ix : IndexOf skip s l) where
  -- an index has the list's places
  in_list : (p : ℕ) → In p l → In p (places s)
  in_list p k = omega (arith, ix.counts p)

  pub in_index : (p : ℕ) → In p (places s) → In p l
  in_index p k = omega (arith, ix.counts p)

  pub at_list : (i : ℕ) → i < length l → In (get_or l i 0) (places s)
  at_list i h = in_list (get_or l i 0) (in_at l i h)

  -- Every place in the index has a record with a name.
  pub named_at : first_bad (has_owned_name skip s) (places s) ≡ None → (i : ℕ) → i < length l → has_owned_name skip s (get_or l i 0) ≡ true
  named_at n i h = all_ok (has_owned_name skip s) (places s) n (get_or l i 0) (at_list i h)

  abbrev pub key_at : ℕ → Key
  key_at i = key_of skip s (get_or l i 0)

  -- An earlier record of the index has a smaller key, or the same key and no greater place.
  pub goes : (i j : ℕ) → i < j → j < length l → (key_order (key_at i) (key_at j) ≡ Less) ⊎ ((key_at i ≡ key_at j) × (get_or l i 0 ≤ get_or l j 0))
  goes i j h k = before_is skip s (get_or l i 0) (get_or l j 0) (sorted_at (before skip s) l ix.sorted i j h k)

  pub below_before : (key : Key) (i j : ℕ) → i < j → j < length l → key_order (key_at j) key ≡ Less → key_order (key_at i) key ≡ Less
  below_before key i j h k b =
      ⊎_elim
      (λ o. key_trans (key_at i) (key_at j) key o b)
      (λ e. ap (λ (x : Key). key_order x key) e.0 ∙ b)
      (goes i j h k)

  -- ---- a record is the first of its name when all keys before it in the index are smaller
  pub first_is : (i : ℕ) → i < length l → ((k : ℕ) → k < i → key_order (key_at k) (key_at i) ≡ Less) → owned_first skip s (get_or l i 0) ≡ true
  first_is i h b =
      let p = get_or l i 0 in
      ap (λ (x : Option ℕ). is_at x p) (least_where (same_owned skip s p) (places s) (rising s) p (at_list i h) (key_owned skip s (owner_of skip s p) (owned_name skip s p) p refl) least)
      ∙ eq-eqb p p refl
    where
      least : (q : ℕ) → In q (places s) → same_owned skip s (get_or l i 0) q ≡ true → get_or l i 0 ≤ q
      least q m t = let r = at_in l q (in_index q m) in go r.0 r.1 r.2 (ltb r.0 i) refl (ltb i r.0) refl
        where
          f : key_of skip s q ≡ key_at i
          f = owned_key skip s (owner_of skip s (get_or l i 0)) (owned_name skip s (get_or l i 0)) q t

          go : (k : ℕ) → k < length l → get_or l k 0 ≡ q → (x : Bool) → ltb k i ≡ x → (y : Bool) → ltb i k ≡ y → get_or l i 0 ≤ q
          go k n g true x y yy =
              let o : key_order (key_at i) (key_at i) ≡ Less = ap (λ (x : Key). key_order x (key_at i)) (sym (ap (key_of skip s) g ∙ f)) ∙ b k (ltb-true k i x) in
              let w = key_same (key_at i) in
              never (cc)
          go k n g false x true y =
              ⊎_elim
              (λ o.
              let z : key_order (key_at i) (key_at i) ≡ Less = ap (key_order (key_at i)) (sym (ap (key_of skip s) g ∙ f)) ∙ o in
              let w = key_same (key_at i) in
              never (cc))
              (λ t. omega (arith, t.1))
              (goes i k (ltb-true i k y) n)
          go k n g false x false y =
              let u : k ≡ i = let v = ltb-false k i x in let w = ltb-false i k y in omega arith in
              let v : get_or l i 0 ≡ q = ap (λ (k : ℕ). get_or l k 0) (sym u) ∙ g in
              omega arith

  first_next : (j : ℕ) → j + 1 < length l → (key_at j ≡ key_at (j + 1) → ⊥) → owned_first skip s (get_or l (j + 1) 0) ≡ true
  first_next j h d = first_is (j + 1) h below
    where
      last : key_order (key_at j) (key_at (j + 1)) ≡ Less
      last = ⊎_elim (λ o. o) (λ e. absurd (d e.0)) (goes j (j + 1) (omega arith) h)

      below : (k : ℕ) → k < j + 1 → key_order (key_at k) (key_at (j + 1)) ≡ Less
      below = below_more _ _ (λ k m. below_before (key_at (j + 1)) k j m (omega arith) last) last

  repeat_next : (j : ℕ) → j + 1 < length l → key_at j ≡ key_at (j + 1) → owned_first skip s (get_or l (j + 1) 0) ≡ false
  repeat_next j h e = go (owned_first skip s (get_or l (j + 1) 0)) refl
    where
      go : (b : Bool) → owned_first skip s (get_or l (j + 1) 0) ≡ b → owned_first skip s (get_or l (j + 1) 0) ≡ false
      go false f = f
      go true f =
          let p = get_or l (j + 1) 0 in
          let a = is_at_lem (first_where (same_owned skip s p) (places s)) p f in
          let m = where_least (same_owned skip s p) (places s) (rising s) p a (get_or l j 0) (at_list j (omega arith)) (key_owned skip s (owner_of skip s p) (owned_name skip s p) (get_or l j 0) e) in
          ⊎_elim
          (λ o.
          let z : key_order (key_at (j + 1)) (key_at (j + 1)) ≡ Less = ap (λ (x : Key). key_order x (key_at (j + 1))) (sym e) ∙ o in
          let w = key_same (key_at (j + 1)) in
          never (cc))
          (λ t. absurd (apart l (λ v. omega (arith, ix.counts v, once (places s) (rising s) v)) j (j + 1) (omega arith) h (omega (arith, t.1))))
          (goes j (j + 1) (omega arith) h)

  -- Compares two neighbours of the index.
  repeat_test : (j : ℕ) → j + 1 < length l → (r : Bool) → r ≡ same_owned skip s (get_or l (j + 1) 0) (get_or l j 0) → owned_first skip s (get_or l (j + 1) 0) ≡ not r
  repeat_test j h true e = repeat_next j h (owned_key skip s _ _ (get_or l j 0) (sym e))
  repeat_test j h false e = first_next j h (λ q. false≢true (e ∙ key_owned skip s _ _ (get_or l j 0) q))

  pub repeat_at : (i : ℕ) → 0 < i → i < length l → (r : Bool) → r ≡ same_owned skip s (get_or l i 0) (get_or l (i - 1) 0) → owned_first skip s (get_or l i 0) ≡ not r
  repeat_at i h k r e =
      let n : i - 1 + 1 ≡ i = omega arith in
      rw n at (repeat_test (i - 1) (omega arith) r (rw n e))

  -- ---- the least that repeats a name
  pub least_start : LeastRepeat skip s l 1 (length s)
  least_start = record { least = below_more _ _ (λ k h. absurd (omega arith)) (λ h e. absurd (false≢true (sym e ∙ first_is 0 h (λ k n. absurd (omega arith))))); is = inl refl }

  module _ (i best : ℕ) (b : LeastRepeat skip s l i best) where
    pub least_keep : (owned_first skip s (get_or l i 0) ≡ false → best ≤ get_or l i 0) → LeastRepeat skip s l (i + 1) best
    least_keep k = record { least = below_more _ _ b.least (λ h. k); is = b.is }

    pub least_new : i < length l → get_or l i 0 < best → owned_first skip s (get_or l i 0) ≡ false → LeastRepeat skip s l (i + 1) (get_or l i 0)
    least_new h n e =
        record {
          least = below_more _ _ (λ k m o f. let t = b.least k m o f in omega arith) (λ o f. omega arith);
          is = inr (in_at l i h, e);
        }

    module _ (h : length l ≤ i) where
      all : (q : ℕ) → In q (places s) → owned_first skip s q ≡ false → best ≤ q
      all q m e =
          let r = at_in l q (in_index q m) in
          rw r.2 at (b.least r.0 (omega (arith, r.1)) r.1 (ap (owned_first skip s) r.2 ∙ e))

      pub repeat_found : best < length s → owned_repeat skip s ≡ Some best
      repeat_found k =
          ⊎_elim (λ e. absurd (omega arith))
          (λ t. least_later (same_owned skip s) (places s) (places s) (rising s) best (in_list best t.0) t.1 all) b.is

      pub repeat_none : length s ≤ best → owned_repeat skip s ≡ None
      repeat_none k = none_later (same_owned skip s) (places s) (places s) λ q m. go q m (owned_first skip s q) refl
        where
          go : (q : ℕ) → In q (places s) → (x : Bool) → owned_first skip s q ≡ x → owned_first skip s q ≡ true
          go q m true e = e
          go q m false e = let a = all q m e in let w = within s q m in absurd (omega arith)
