-- A list has only one ordered index: every index of it is the one that the function gives. Assumes nothing.
use Rattle.std.specs.Prelude.{ℕ, ◌+◌, ◌⊎◌, Bool, ◌≡◌, eqb}
use Rattle.std.proofs.Common.{arith, ◌∙◌}
use mathlib.Core.List.{List, [], ◌∷◌}
use Rattle.std.proofs.Math.Logic.{⊎_elim}
use Rattle.std.proofs.Math.Bool.{true, false}
use Rattle.std.proofs.Math.Path.{refl, sym, ap, ap₂}
use Rattle.record.specs.Records.{places}
use Rattle.name_order.specs.Order.{key_order}
use Rattle.name_order.proofs.OrderLaws.{key_same, key_turned}
use Rattle.name_sort.specs.Sorting.{one, count, In, Sorted, none, more, SortOf}
use Rattle.name_sort.proofs.SortingLaws.{in_head, in_cons, not_in}
use Rattle.name_sort.specs.Before.{key_of, before}
use Rattle.name_sort.proofs.BeforeLaws.{before_is, before_trans, before_total}
use Rattle.name_index.specs.Index.{IndexOf}
use Rattle.label_finder.specs.Ordered.{put_in, ordered, ordered_index}

module _ (le : ℕ → ℕ → Bool) where
  put_count : (v p : ℕ) (l : List ℕ) → count v (put_in le p l) ≡ one (eqb p v) + count v l
  unfolding put_in count
  put_count v p [] = refl
  put_count v p (q ∷ l) = go (le p q) refl (put_count v p l)
    where
      go : (b : Bool) → le p q ≡ b → count v (put_in le p l) ≡ one (eqb p v) + count v l → count v (put_in le p (q ∷ l)) ≡ one (eqb p v) + count v (q ∷ l)
      go true e ih = rw (e, put_in, count)
      go false e ih = rw (e, put_in, count) (omega (arith, ih))

  ordered_count : (v : ℕ) (l : List ℕ) → count v (ordered le l) ≡ count v l
  unfolding ordered count
  ordered_count v [] = refl
  ordered_count v (p ∷ l) = omega (arith, put_count v p (ordered le l), ordered_count v l)

  -- What stands in the list after an insertion is the new element, or was there before.
  put_in_lem : (v p : ℕ) (l : List ℕ) → In v (put_in le p l) → (v ≡ p) ⊎ In v l
  unfolding count
  put_in_lem v p l h = in_cons v p l (omega (arith, h, put_count v p l))

  module _ (trans : (x y z : ℕ) → le x y ≡ true → le y z ≡ true → le x z ≡ true) (total : (x y : ℕ) → le x y ≡ false → le y x ≡ true)
      (same : (x y : ℕ) → le x y ≡ true → le y x ≡ true → x ≡ y) where
    put_sorted : (p : ℕ) (l : List ℕ) → Sorted le l → Sorted le (put_in le p l)
    unfolding put_in
    put_sorted p [] none = more (λ y k. absurd (not_in y k)) none
    put_sorted p (q ∷ l) (more a s) = go (le p q) refl (put_sorted p l s)
      where
        go : (b : Bool) → le p q ≡ b → Sorted le (put_in le p l) → Sorted le (put_in le p (q ∷ l))
        go true e ih = rw (e, put_in) (more (λ y k. ⊎_elim (λ f. ap (le p) f ∙ e) (λ i. trans p q y e (a y i)) (in_cons y q l k)) (more a s))
        go false e ih = rw (e, put_in) (more (λ y k. ⊎_elim (λ f. ap (le q) f ∙ total p q e) (λ i. a y i) (put_in_lem y p l k)) ih)

    ordered_sorted : (l : List ℕ) → Sorted le (ordered le l)
    unfolding ordered
    ordered_sorted [] = none
    ordered_sorted (p ∷ l) = put_sorted p (ordered le l) (ordered_sorted l)

    -- Two sorted lists that have each number equally often are the same.
    one_order : (a b : List ℕ) → Sorted le a → Sorted le b → ((v : ℕ) → count v a ≡ count v b) → a ≡ b
    unfolding count
    one_order [] [] sa sb e = refl
    one_order [] (y ∷ b) sa sb e = absurd (omega (arith, in_head y b, e y))
    one_order (x ∷ a) [] sa sb e = absurd (omega (arith, in_head x a, e x))
    one_order (x ∷ a) (y ∷ b) (more f sa) (more g sb) e =
        let h : x ≡ y =
        ⊎_elim (λ q. q)
        (λ i. ⊎_elim (λ q. sym q) (λ j. same x y (f y j) (g x i)) (in_cons y x a (let k : count y (x ∷ a) ≡ count y (y ∷ b) = e y in rw k (in_head y b))))
        (in_cons x y b (let k : count x (y ∷ b) ≡ count x (x ∷ a) = sym (e x) in rw k (in_head x a))) in
        let t : (v : ℕ) → count v a ≡ count v b = λ v. let k : one (eqb x v) ≡ one (eqb y v) = ap (λ (u : ℕ). one (eqb u v)) h in omega (arith, k, e v) in
        ap₂ (λ (u : ℕ) (l : List ℕ). u ∷ l) h (one_order a b sa sb t)

    pub only_order : (l r : List ℕ) → SortOf le l r → r ≡ ordered le l
    only_order l r s = one_order r (ordered le l) s.sorted (ordered_sorted l) (λ v. s.counts v ∙ sym (ordered_count v l))

-- If each of two records goes before the other, both stand at one place.
before_same : (skip : ℕ) (s : List ℕ) (p q : ℕ) → before skip s p q ≡ true → before skip s q p ≡ true → p ≡ q
before_same skip s p q e f =
    ⊎_elim
    (λ h.
    let t = key_turned (key_of skip s p) (key_of skip s q) in
    ⊎_elim
    (λ k. let z : ◌≡◌ {A = ℕ} 0 1 = cc in absurd (omega arith))
    (λ k.
    let w : key_order (key_of skip s p) (key_of skip s q) ≡ key_order (key_of skip s p) (key_of skip s p) = ap (key_order (key_of skip s p)) k.0 in
    let u = key_same (key_of skip s p) in
    let z : ◌≡◌ {A = ℕ} 0 1 = cc in
    absurd (omega arith))
    (before_is skip s q p f))
    (λ h.
    ⊎_elim
    (λ k.
    let w : key_order (key_of skip s q) (key_of skip s p) ≡ key_order (key_of skip s q) (key_of skip s q) = ap (key_order (key_of skip s q)) h.0 in
    let u = key_same (key_of skip s q) in
    let z : ◌≡◌ {A = ℕ} 0 1 = cc in
    absurd (omega arith))
    (λ k. omega (arith, h.1, k.1))
    (before_is skip s q p f))
    (before_is skip s p q e)

pub one_index : (s index : List ℕ) → IndexOf 4 s index → index ≡ ordered_index s
one_index s index ix = only_order (before 4 s) (before_trans 4 s) (before_total 4 s) (before_same 4 s) (places s) index ix
