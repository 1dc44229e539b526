-- No other list of uses says what the index says. Assumes nothing.
use Rattle.std.specs.Prelude.{ℕ, ◌<◌, ◌≡◌, refl, length, Option}
use Rattle.std.proofs.Common.{arith, ⊎_elim, sym, ap, ap₂, ◌∙◌, subst}
use mathlib.Core.List.Memᴰ
use mathlib.Core.List.{List, [], ◌∷◌, Memᴰ}
use Rattle.name_order.proofs.OrderLaws.{never, turned}
use Rattle.label_uses.specs.Uses.{UseKey, Use, use_order}
use Rattle.label_uses.proofs.UseOrderLaws.{use_same, use_turned}
use Rattle.label_uses.proofs.InsertLaws.{Rises, one_left}
use Rattle.label_uses.proofs.SaysLaws.{SaysTo}
use Rattle.label_uses.specs.Says.{NumbersRise, then}
use Rattle.std.specs.declared.cmp.Ordering.TheVariants.{Less, Greater}

-- ---- rising lists, for any relation that never holds both ways
data Rising {A : Type 0} (Lt : A → A → Type 0) : List A → Type 0 where
  stop : Rising Lt []
  rise : {x : A} {xs : List A} → ((y : A) → Memᴰ y xs → Lt x y) → Rising Lt xs → Rising Lt (x ∷ xs)

module _ {A : Type 0} (Lt : A → A → Type 0) (one_way : (x y : A) → Lt x y → Lt y x → ⊥) where
  front : (x y : A) (xs ys : List A) → ((z : A) → Memᴰ z xs → Lt x z) → ((z : A) → Memᴰ z ys → Lt y z)
      → Memᴰ x (y ∷ ys) → Memᴰ y (x ∷ xs) → x ≡ y
  front x y xs ys f g m k =
      ⊎_elim
      (λ (e : x ≡ y). e)
      (λ (i : Memᴰ x ys).
      ⊎_elim
      (λ (e : y ≡ x). sym e)
      (λ (j : Memᴰ y xs). absurd (one_way x y (f y j) (g x i)))
      (Memᴰ.cases_cons k))
      (Memᴰ.cases_cons m)

  -- What stands behind the front of one list stands behind the front of the other.
  behind : (x y : A) (xs ys : List A) → x ≡ y → ((z : A) → Memᴰ z xs → Lt x z) → ((z : A) → Memᴰ z (x ∷ xs) → Memᴰ z (y ∷ ys))
      → (z : A) → Memᴰ z xs → Memᴰ z ys
  behind x y xs ys e f h z m =
      ⊎_elim
      (λ (i : z ≡ y).
      let l : Lt z z = subst (λ (w : A). Lt w z) (e ∙ sym i) (f z m) in
      absurd (one_way z z l l))
      (λ (k : Memᴰ z ys). k)
      (Memᴰ.cases_cons (h z (Memᴰ.tail m)))

  same_members : (xs ys : List A) → Rising Lt xs → Rising Lt ys → ((z : A) → Memᴰ z xs → Memᴰ z ys) → ((z : A) → Memᴰ z ys → Memᴰ z xs) → xs ≡ ys
  same_members [] [] r s h k = refl
  same_members [] (y ∷ ys) r s h k = absurd (Memᴰ.not-nil (k y (Memᴰ.head refl)))
  same_members (x ∷ xs) [] r s h k = absurd (Memᴰ.not-nil (h x (Memᴰ.head refl)))
  same_members (x ∷ xs) (y ∷ ys) (rise f r) (rise g s) h k =
      let e = front x y xs ys f g (h x (Memᴰ.head refl)) (k y (Memᴰ.head refl)) in
      ap₂ (λ (a : A) (l : List A). a ∷ l) e (same_members xs ys r s (behind x y xs ys e f h) (behind y x ys xs (sym e) g k))

-- ---- numbers
numbers_all : (ns : List ℕ) → NumbersRise ns → Rising (λ (n m : ℕ). n < m) ns
numbers_all [] r = stop
numbers_all (n ∷ []) r = rise (λ y m. absurd (Memᴰ.not-nil m)) stop
numbers_all (n ∷ (m ∷ ns)) (then e r) = go (numbers_all (m ∷ ns) r)
  where
    go : Rising (λ (a b : ℕ). a < b) (m ∷ ns) → Rising (λ (a b : ℕ). a < b) (n ∷ (m ∷ ns))
    go (rise f s) = rise above (rise f s)
      where
        above : (y : ℕ) → Memᴰ y (m ∷ ns) → n < y
        above y k = ⊎_elim (λ (i : y ≡ m). omega arith) (λ (t : Memᴰ y ns). omega (arith, f y t)) (Memᴰ.cases_cons k)

pub same_numbers : (ns ms : List ℕ) → NumbersRise ns → NumbersRise ms → ((n : ℕ) → Memᴰ n ns → Memᴰ n ms) → ((n : ℕ) → Memᴰ n ms → Memᴰ n ns) → ns ≡ ms
same_numbers ns ms r s = same_members (λ (n m : ℕ). n < m) (λ n m h k. omega arith) ns ms (numbers_all ns r) (numbers_all ms s)

-- ---- uses
abbrev Before : Use → Use → Type 0
Before u v = use_order u.key v.key ≡ Less

before_once : (u v : Use) → Before u v → Before v u → ⊥
before_once u v e f =
    let g : use_order v.key u.key ≡ Greater = use_turned u.key v.key ∙ ap turned e in
    never (cc)

rises_so : (us : List Use) → Rises us → Rising Before us
rises_so [] r = stop
rises_so (u ∷ us) (one_left h r) = rise h (rises_so us r)

-- A key has only one use.
pub one_of_key : (us : List Use) → Rises us → (u v : Use) → Memᴰ u us → Memᴰ v us → u.key ≡ v.key → u ≡ v
one_of_key [] r u v m k e = absurd (Memᴰ.not-nil m)
one_of_key (w ∷ us) (one_left h r) u v m k e =
    ⊎_elim
    (λ (i : u ≡ w).
    ⊎_elim (λ (j : v ≡ w). i ∙ sym j) (λ (t : Memᴰ v us). absurd (apart u v (subst (λ (x : Use). Before x v) (sym i) (h v t)) e)) (Memᴰ.cases_cons k))
    (λ (s : Memᴰ u us).
    ⊎_elim
    (λ (j : v ≡ w). absurd (apart v u (subst (λ (x : Use). Before x u) (sym j) (h u s)) (sym e)))
    (λ (t : Memᴰ v us). one_of_key us r u v s t e)
    (Memᴰ.cases_cons k))
    (Memᴰ.cases_cons m)
  where
    apart : (x y : Use) → Before x y → x.key ≡ y.key → ⊥
    apart x y b i =
        let s = use_same y.key in
        let t : use_order y.key y.key ≡ Less = ap (λ (k : UseKey). use_order k y.key) (sym i) ∙ b in
        never (cc)

abbrev use_from : UseKey → List ℕ → Use
use_from key numbers = record { key = key; numbers = numbers }

-- ---- two lists that say the same
module _ (key_at_lem : ℕ → Option UseKey) (count : ℕ) where
  -- A number under a key in one list stands under that key in the other.
  moves : (us vs : List Use) → SaysTo key_at_lem count us → SaysTo key_at_lem count vs → (u v : Use) → Memᴰ u us → Memᴰ v vs → u.key ≡ v.key
      → (n : ℕ) → Memᴰ n u.numbers → Memᴰ n v.numbers
  moves us vs s t u v m k e n i =
      let h = s.sound u m n i in
      let c = t.complete n h.0 u.key h.1 in
      subst (λ (x : Use). Memᴰ n x.numbers) (one_of_key vs t.rises c.0 v c.1 k (c.2 ∙ e)) c.3

  first_in : (ns : List ℕ) → 0 < length ns → (n : ℕ) × Memᴰ n ns
  first_in [] h = absurd (omega arith)
  first_in (n ∷ ns) h = (n, Memᴰ.head refl)

  use_in : (us vs : List Use) → SaysTo key_at_lem count us → SaysTo key_at_lem count vs → (u : Use) → Memᴰ u us → Memᴰ u vs
  use_in us vs s t u m =
      let o = s.in_order u m in
      let f = first_in u.numbers o.1 in
      let h = s.sound u m f.0 f.1 in
      let c = t.complete f.0 h.0 u.key h.1 in
      let v = c.0 in
      let same : v.numbers ≡ u.numbers =
      same_numbers v.numbers u.numbers (t.in_order v c.1).0 o.0 (moves vs us t s v u c.1 m c.2) (moves us vs s t u v m c.1 (sym c.2)) in
      subst (λ (x : Use). Memᴰ x vs) (ap₂ use_from c.2 same) c.1

  pub says_once : (us vs : List Use) → SaysTo key_at_lem count us → SaysTo key_at_lem count vs → us ≡ vs
  says_once us vs s t =
      same_members Before before_once us vs (rises_so us s.rises) (rises_so vs t.rises) (use_in us vs s t) (use_in vs us t s)
