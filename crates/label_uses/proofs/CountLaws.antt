-- The count: if keys rise, numbers rise and stand under the right key, and there are as many numbers as names, then none is missing.
-- Assumes nothing.
use Rattle.std.specs.Prelude.{ℕ, zero, suc, ◌+◌, ◌<◌, ◌≤◌, Bool, ◌≡◌, length, eqb, Option, None, Some}
use native.Mathlib.Omega.{arith}
use mathlib.Core.List.Memᴰ
use mathlib.Core.List.{List, [], ◌∷◌, Memᴰ}
use Rattle.std.proofs.Common.{⊎_elim, sym, ◌∙◌, subst}
use Rattle.std.proofs.Math.Bool.{true, false}
use Rattle.std.proofs.Math.Path.{refl, ap}
use Rattle.std.proofs.Math.Dec.{ltb}
use borrow.Author.Tests.{ltb-true, ltb-false, eq-eqb, ne_eqb, eqb-true}
use Rattle.name_sort.specs.Sorting.{one, count, In}
use Rattle.name_sort.proofs.SortingLaws.{in_cons, not_in}
use Rattle.label_uses.specs.Uses.{UseKey, Use, use_order}
use Rattle.label_uses.proofs.UseOrderLaws.{use_same}
use Rattle.label_uses.proofs.InsertLaws.{Rises, one_left}
use Rattle.label_uses.proofs.SaysLaws.{SaysTo}
use Rattle.label_uses.specs.Says.{NumbersRise, end, then}
use Rattle.std.specs.declared.cmp.Ordering.TheVariants.{Less}
use Rattle.name_order.proofs.OrderLaws.{never}

-- ---- sums
unfoldable pub sum_to : (ℕ → ℕ) → ℕ → ℕ
sum_to f zero = 0
sum_to f (suc n) = sum_to f n + f n

sum_le : (f g : ℕ → ℕ) (n : ℕ) → ((i : ℕ) → i < n → f i ≤ g i) → sum_to f n ≤ sum_to g n
unfolding sum_to
sum_le f g zero h = omega arith
sum_le f g (suc n) h = omega (arith, sum_le f g n (λ i k. h i (omega arith)), h n (omega arith))

-- If f is nowhere above g and their sums are equal, f and g agree.
pub sum_agree : (f g : ℕ → ℕ) (n : ℕ) → ((i : ℕ) → i < n → f i ≤ g i) → sum_to f n ≡ sum_to g n → (i : ℕ) → i < n → f i ≡ g i
unfolding sum_to
sum_agree f g zero h e i k = absurd (omega arith)
sum_agree f g (suc n) h e i k =
    let l = sum_le f g n (λ j m. h j (omega arith)) in
    let t = h n (omega arith) in
    go (ltb i n) refl (sum_agree f g n (λ j m. h j (omega arith)) (omega arith)) (omega arith)
  where
    go : (b : Bool) → ltb i n ≡ b → ((i : ℕ) → i < n → f i ≡ g i) → f n ≡ g n → f i ≡ g i
    go true b ih z = ih i (ltb-true i n b)
    go false b ih z =
        let m = ltb-false i n b in
        let q : i ≡ n = omega arith in
        ap f q ∙ z ∙ sym (ap g q)

sum_add : (f g : ℕ → ℕ) (n : ℕ) → sum_to (λ (i : ℕ). f i + g i) n ≡ sum_to f n + sum_to g n
unfolding sum_to
sum_add f g zero = omega arith
sum_add f g (suc n) = omega (arith, sum_add f g n)

sum_zero : (n : ℕ) → sum_to (λ (i : ℕ). 0) n ≡ 0
unfolding sum_to
sum_zero zero = refl
sum_zero (suc n) = omega (arith, sum_zero n)

-- Counted below a bound, a number occurs once if it is below the bound, and otherwise never.
sum_past : (x n : ℕ) → n ≤ x → sum_to (λ (i : ℕ). one (eqb x i)) n ≡ 0
unfolding sum_to
sum_past x zero h = refl
sum_past x (suc n) h =
    let e : one (eqb x n) ≡ 0 = ap one (ne_eqb x n (λ q. absurd (omega arith))) in
    omega (arith, sum_past x n (omega arith))

sum_once : (x n : ℕ) → x < n → sum_to (λ (i : ℕ). one (eqb x i)) n ≡ 1
unfolding sum_to
sum_once x zero h = absurd (omega arith)
sum_once x (suc n) h = go (ltb x n) refl (sum_once x n)
  where
    go : (b : Bool) → ltb x n ≡ b → (x < n → sum_to (λ (i : ℕ). one (eqb x i)) n ≡ 1) → sum_to (λ (i : ℕ). one (eqb x i)) n + one (eqb x n) ≡ 1
    go true b ih =
        let k = ltb-true x n b in
        let e : one (eqb x n) ≡ 0 = ap one (ne_eqb x n (λ q. absurd (omega arith))) in
        omega (arith, ih k)
    go false b ih =
        let k = ltb-false x n b in
        let e : one (eqb x n) ≡ 1 = ap one (eq-eqb x n (omega arith)) in
        omega (arith, sum_past x n (omega arith))

-- The counts of all numbers in a list add up to its length.
sum_count : (l : List ℕ) (n : ℕ) → ((x : ℕ) → Memᴰ x l → x < n) → sum_to (λ (i : ℕ). count i l) n ≡ length l
unfolding count
sum_count [] n h = sum_zero n
sum_count (x ∷ l) n h =
    omega (arith, sum_add (λ (i : ℕ). one (eqb x i)) (λ (i : ℕ). count i l) n, sum_once x n (h x (Memᴰ.head refl)), sum_count l n (λ y m. h y (Memᴰ.tail m)))

-- ---- a number is counted exactly if it stands there
in_mem : (l : List ℕ) (v : ℕ) → In v l → Memᴰ v l
in_mem [] v h = absurd (not_in v h)
in_mem (x ∷ l) v h = ⊎_elim (λ (e : v ≡ x). Memᴰ.head e) (λ k. Memᴰ.tail (in_mem l v k)) (in_cons v x l h)

mem_count : (l : List ℕ) (v : ℕ) → Memᴰ v l → 0 < count v l
unfolding count
mem_count [] v m = absurd (Memᴰ.not-nil m)
mem_count (x ∷ l) v m =
    ⊎_elim
    (λ (e : v ≡ x). let z : one (eqb x v) ≡ 1 = ap one (eq-eqb x v (sym e)) in omega arith)
    (λ (t : Memᴰ v l). omega (arith, mem_count l v t))
    (Memᴰ.cases_cons m)

-- Numbers rise, so nothing up to the first one occurs among the later ones.
all_above : (n : ℕ) (ns : List ℕ) → NumbersRise (n ∷ ns) → (m : ℕ) → m ≤ n → count m ns ≡ 0
unfolding count
all_above n [] r m h = refl
all_above n (k ∷ ns) (then e r) m h =
    let z : one (eqb k m) ≡ 0 = ap one (ne_eqb k m (λ q. absurd (omega arith))) in
    omega (arith, all_above k ns r m (omega arith))

rise_tail : (n : ℕ) (ns : List ℕ) → NumbersRise (n ∷ ns) → NumbersRise ns
rise_tail n [] r = end
rise_tail n (m ∷ ns) (then e r) = r

numbers_once : (ns : List ℕ) → NumbersRise ns → (v : ℕ) → count v ns ≤ 1
unfolding count
numbers_once [] r v = omega arith
numbers_once (n ∷ ns) r v = go (eqb n v) refl (numbers_once ns (rise_tail n ns r) v)
  where
    go : (b : Bool) → eqb n v ≡ b → count v ns ≤ 1 → one (eqb n v) + count v ns ≤ 1
    go true e ih = let q = eqb-true n v e in omega (arith, ap one e, all_above n ns r v (omega arith))
    go false e ih = omega (arith, ap one e)

-- ---- of uses
unfoldable pub times_in : ℕ → List Use → ℕ
times_in v [] = 0
times_in v (u ∷ us) = count v u.numbers + times_in v us

-- how many numbers the uses have
unfoldable pub numbers_in : List Use → ℕ
numbers_in [] = 0
numbers_in (u ∷ us) = length u.numbers + numbers_in us

sum_times : (us : List Use) (n : ℕ) → ((u : Use) → Memᴰ u us → (x : ℕ) → Memᴰ x u.numbers → x < n) → sum_to (λ (i : ℕ). times_in i us) n ≡ numbers_in us
unfolding times_in numbers_in
sum_times [] n h = sum_zero n
sum_times (u ∷ us) n h =
    omega (
      arith,
      sum_add (λ (i : ℕ). count i u.numbers) (λ (i : ℕ). times_in i us) n,
      sum_count u.numbers n (h u (Memᴰ.head refl)),
      sum_times us n (λ v m. h v (Memᴰ.tail m)),
    )

times_in_lem : (us : List Use) (v : ℕ) → 0 < times_in v us → (u : Use) × Memᴰ u us × Memᴰ v u.numbers
unfolding times_in
times_in_lem [] v h = absurd (omega arith)
times_in_lem (u ∷ us) v h = go (ltb 0 (count v u.numbers)) refl (times_in_lem us v)
  where
    go : (b : Bool) → ltb 0 (count v u.numbers) ≡ b → (0 < times_in v us → (w : Use) × Memᴰ w us × Memᴰ v w.numbers)
        → (w : Use) × Memᴰ w (u ∷ us) × Memᴰ v w.numbers
    go true b ih = (u, Memᴰ.head refl, in_mem u.numbers v (ltb-true 0 (count v u.numbers) b))
    go false b ih =
        let k = ltb-false 0 (count v u.numbers) b in
        let r = ih (omega arith) in
        (r.0, Memᴰ.tail r.1, r.2)

use_times : (us : List Use) (u : Use) (v : ℕ) → Memᴰ u us → Memᴰ v u.numbers → 0 < times_in v us
unfolding times_in
use_times [] u v m k = absurd (Memᴰ.not-nil m)
use_times (w ∷ us) u v m k =
    ⊎_elim
    (λ (e : u ≡ w). omega (arith, mem_count w.numbers v (subst (λ (x : Use). Memᴰ v x.numbers) e k)))
    (λ (t : Memᴰ u us). omega (arith, use_times us u v t k))
    (Memᴰ.cases_cons m)

-- 1 for a name, 0 for a constant
abbrev pub name_count : Option UseKey → ℕ
name_count None = 0
name_count (Some key) = 1

-- how many of the first n pendings name a label
abbrev pub names_to : (ℕ → Option UseKey) → ℕ → ℕ
names_to key_at_lem n = sum_to (λ (i : ℕ). name_count (key_at_lem i)) n

pub names_start : (key_at_lem : ℕ → Option UseKey) → names_to key_at_lem 0 ≡ 0
unfolding sum_to
names_start key_at_lem = refl

pub names_next : (key_at_lem : ℕ → Option UseKey) (n : ℕ) → names_to key_at_lem (suc n) ≡ names_to key_at_lem n + name_count (key_at_lem n)
unfolding sum_to
names_next key_at_lem n = refl

-- what a check sees of the uses
pub record Seen (key_at_lem : ℕ → Option UseKey) (total : ℕ) (us : List Use) : Type 0 where
  pub rises : Rises us
  pub in_order : (u : Use) → Memᴰ u us → NumbersRise u.numbers × (0 < length u.numbers)
  pub sound : (u : Use) → Memᴰ u us → (n : ℕ) → Memᴰ n u.numbers → (n < total) × (key_at_lem n ≡ Some u.key)

module _ (key_at_lem : ℕ → Option UseKey) (total : ℕ) where
  no_times : (us : List Use) (v : ℕ) → ((u : Use) → Memᴰ u us → Memᴰ v u.numbers → ⊥) → times_in v us ≡ 0
  no_times us v h = go (ltb 0 (times_in v us)) refl
    where
      go : (b : Bool) → ltb 0 (times_in v us) ≡ b → times_in v us ≡ 0
      go true b = let r = times_in_lem us v (ltb-true 0 (times_in v us) b) in absurd (h r.0 r.1 r.2)
      go false b = let k = ltb-false 0 (times_in v us) b in omega arith

  -- each number stands in the uses at most once
  times_once : (us : List Use) (v : ℕ) → Seen key_at_lem total us → times_in v us ≤ 1
  unfolding times_in
  times_once [] v s = omega arith
  times_once (u ∷ us) v s = go s.rises (ltb 0 (count v u.numbers)) refl (times_once us v)
    where
      go : Rises (u ∷ us) → (b : Bool) → ltb 0 (count v u.numbers) ≡ b → (Seen key_at_lem total us → times_in v us ≤ 1) → count v u.numbers + times_in v us ≤ 1
      go (one_left h r) true b ih =
          let m = in_mem u.numbers v (ltb-true 0 (count v u.numbers) b) in
          let e = (s.sound u (Memᴰ.head refl) v m).1 in
          omega (arith, numbers_once u.numbers (s.in_order u (Memᴰ.head refl)).0 v, no_times us v (λ w t k. other w t (s.sound w (Memᴰ.tail t) v k).1 e (h w t)))
        where
          other : (w : Use) → Memᴰ w us → key_at_lem v ≡ Some w.key → key_at_lem v ≡ Some u.key → use_order u.key w.key ≡ Less → ⊥
          other w t e f l =
              let q : w.key ≡ u.key = cc in
              let x = use_same u.key in
              let y : use_order u.key u.key ≡ Less = ap (use_order u.key) (sym q) ∙ l in
              never (cc)
      go (one_left h r) false b ih =
          let k = ltb-false 0 (count v u.numbers) b in
          let t : times_in v us ≤ 1 = ih (record { rises = r; in_order = λ w m. s.in_order w (Memᴰ.tail m); sound = λ w m. s.sound w (Memᴰ.tail m) }) in
          omega arith

  -- A constant's number does not stand in the uses.
  times_most : (us : List Use) → Seen key_at_lem total us → (v : ℕ) → times_in v us ≤ name_count (key_at_lem v)
  times_most us s v = go (key_at_lem v) refl
    where
      go : (x : Option UseKey) → key_at_lem v ≡ x → times_in v us ≤ name_count (key_at_lem v)
      go None e =
          let z = no_times us v (λ u m k. let f = (s.sound u m v k).1 in never (cc)) in
          omega arith
      go (Some key) e =
          let z : name_count (key_at_lem v) ≡ 1 = ap name_count e in
          omega (arith, times_once us v s)

  -- If there are as many numbers as names, none is missing.
  pub counted_says : (us : List Use) → Seen key_at_lem total us → numbers_in us ≡ names_to key_at_lem total → SaysTo key_at_lem total us
  counted_says us s e = record { rises = s.rises; in_order = s.in_order; sound = s.sound; complete = whole }
    where
      agree : (n : ℕ) → n < total → times_in n us ≡ name_count (key_at_lem n)
      agree =
          sum_agree (λ (n : ℕ). times_in n us) (λ (n : ℕ). name_count (key_at_lem n)) total (λ n h. times_most us s n)
          (sum_times us total (λ u m n k. (s.sound u m n k).0) ∙ e)

      whole : (n : ℕ) → n < total → (key : UseKey) → key_at_lem n ≡ Some key → (u : Use) × Memᴰ u us × (u.key ≡ key) × Memᴰ n u.numbers
      whole n h key f =
          let one_there : times_in n us ≡ 1 = agree n h ∙ ap name_count f in
          let r = times_in_lem us n (omega arith) in
          let g = (s.sound r.0 r.1 n r.2).1 in
          (r.0, r.1, cc, r.2)

  -- The other way round: the index has as many numbers as there are names.
  pub says_counted : (us : List Use) → SaysTo key_at_lem total us → numbers_in us ≡ names_to key_at_lem total
  says_counted us s =
      sym (sum_times us total (λ u m n k. (s.sound u m n k).0)) ∙ agree_sum
    where
      seen : Seen key_at_lem total us
      seen = record { rises = s.rises; in_order = s.in_order; sound = s.sound }

      least : (n : ℕ) → n < total → name_count (key_at_lem n) ≤ times_in n us
      least n h = go (key_at_lem n) refl
        where
          go : (x : Option UseKey) → key_at_lem n ≡ x → name_count (key_at_lem n) ≤ times_in n us
          go None e = let z : name_count (key_at_lem n) ≡ 0 = ap name_count e in omega arith
          go (Some key) e =
              let z : name_count (key_at_lem n) ≡ 1 = ap name_count e in
              let c = s.complete n h key e in
              omega (arith, use_times us c.0 n c.1 c.3)

      agree_sum : sum_to (λ (i : ℕ). times_in i us) total ≡ names_to key_at_lem total
      agree_sum =
          let a = sum_le (λ (i : ℕ). times_in i us) (λ (i : ℕ). name_count (key_at_lem i)) total (λ n h. times_most us seen n) in
          let b = sum_le (λ (i : ℕ). name_count (key_at_lem i)) (λ (i : ℕ). times_in i us) total least in
          omega arith
