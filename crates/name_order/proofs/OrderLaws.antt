-- Laws of the order of names with owners: it is irreflexive, transitive and total. Assumes nothing.
use Rattle.std.specs.Prelude.{ℕ, ◌+◌, ◌*◌, ◌<◌, ◌≤◌, List, [], ◌∷◌, ◌⊎◌, Bool, true, false, ◌≡◌, refl, length, get_or, take, drop, ltb}
use Rattle.std.proofs.Common.{arith, add-one, inl, inr, ⊎_elim, sym, subst, ap, ap₂, ◌∙◌, lt-ltb, le-ltb, ltb-true, ltb-false}
use Rattle.std.proofs.lemmas.Bool.Decides.{nat_tests}
use Rattle.std.proofs.lemmas.List.{get_or-take}
use Rattle.std.proofs.Math.Seq.{drop-cons}
use Rattle.std.specs.Cmp.Lexicographic.{slice_cmp}
use Rattle.std.specs.Ordering.{nat_cmp, ordering_then, is_ne}
use Rattle.name_order.specs.Order.{then_by, numbers, order, Key, key_order}
use Rattle.name_order.specs.EightBytes.{Bytes, more, four, high_first}
use Rattle.std.specs.declared.cmp.Ordering.TheVariants.{Less, Equal, Greater}
use Rattle.std.specs.declared.cmp.Ordering.{Ordering}

pub never : {A : Type 0} → ◌≡◌ {A = ℕ} 0 1 → A
never z = absurd (omega arith)

abbrev pub turned : Ordering → Ordering
turned Less = Greater
turned Equal = Equal
turned Greater = Less

-- ---- numbers
pub numbers_less : (x y : ℕ) → x < y → numbers x y ≡ Less
numbers_less x y h = rw (lt-ltb x y h, numbers)

pub numbers_more : (x y : ℕ) → y < x → numbers x y ≡ Greater
numbers_more x y h = let k : y ≤ x = omega arith in rw (le-ltb x y k, numbers) (rw (lt-ltb y x h))

pub numbers_same : (x y : ℕ) → x ≡ y → numbers x y ≡ Equal
numbers_same x y h =
    let k : y ≤ x = omega arith in
    let l : x ≤ y = omega arith in
    rw (le-ltb x y k, numbers) (rw (le-ltb y x l))

-- Two numbers: less, greater or equal.
ways : (x y : ℕ) → (x < y) ⊎ ((y < x) ⊎ (x ≡ y))
ways x y = go (ltb x y) refl (ltb y x) refl
  where
    go : (b : Bool) → ltb x y ≡ b → (d : Bool) → ltb y x ≡ d → (x < y) ⊎ ((y < x) ⊎ (x ≡ y))
    go true e d f = inl (ltb-true x y e)
    go false e true f = inr (inl (ltb-true y x f))
    go false e false f = let h = ltb-false x y e in let k = ltb-false y x f in inr (inr (omega arith))

numbers_is : (x y : ℕ) → numbers x y ≡ Equal → x ≡ y
numbers_is x y e =
    ⊎_elim (λ h. let m = numbers_less x y h in never (cc)) (⊎_elim (λ h. let m = numbers_more x y h in never (cc)) (λ h. h)) (ways x y)

less_numbers : (x y : ℕ) → numbers x y ≡ Less → x < y
less_numbers x y e =
    ⊎_elim (λ h. h) (⊎_elim (λ h. let m = numbers_more x y h in never (cc)) (λ h. let m = numbers_same x y h in never (cc))) (ways x y)

numbers_turned : (x y : ℕ) → numbers y x ≡ turned (numbers x y)
numbers_turned x y =
    ⊎_elim
    (λ h. numbers_more y x h ∙ sym (ap turned (numbers_less x y h)))
    (⊎_elim
    (λ h. numbers_less y x h ∙ sym (ap turned (numbers_more x y h)))
    (λ h. numbers_same y x (sym h) ∙ sym (ap turned (numbers_same x y h))))
    (ways x y)

-- ---- one after the other
pub then_same : (o p : Ordering) → then_by o p ≡ Equal → (o ≡ Equal) × (p ≡ Equal)
then_same Less p e = never (cc)
then_same Equal p e = (refl, e)
then_same Greater p e = never (cc)

pub then_less : (o p : Ordering) → then_by o p ≡ Less → (o ≡ Less) ⊎ ((o ≡ Equal) × (p ≡ Less))
then_less Less p e = inl refl
then_less Equal p e = inr (refl, e)
then_less Greater p e = never (cc)

pub then_turned : (o p : Ordering) → then_by (turned o) (turned p) ≡ turned (then_by o p)
then_turned Less p = refl
then_turned Equal p = refl
then_turned Greater p = refl

-- ---- names
pub order_same : (a : List ℕ) → order a a ≡ Equal
unfolding order
order_same [] = refl
order_same (x ∷ xs) = ap₂ then_by (numbers_same x x refl) (order_same xs)

pub same_is : (a b : List ℕ) → order a b ≡ Equal → a ≡ b
unfolding order
same_is [] [] e = refl
same_is [] (y ∷ ys) e = never (cc)
same_is (x ∷ xs) [] e = never (cc)
same_is (x ∷ xs) (y ∷ ys) e =
    let h = then_same (numbers x y) (order xs ys) e in
    ap₂ (λ (u : ℕ) (v : List ℕ). u ∷ v) (numbers_is x y h.0) (same_is xs ys h.1)

order_turned : (a b : List ℕ) → order b a ≡ turned (order a b)
unfolding order
order_turned [] [] = refl
order_turned [] (y ∷ ys) = refl
order_turned (x ∷ xs) [] = refl
order_turned (x ∷ xs) (y ∷ ys) = ap₂ then_by (numbers_turned x y) (order_turned xs ys) ∙ then_turned (numbers x y) (order xs ys)

less_trans : (a b c : List ℕ) → order a b ≡ Less → order b c ≡ Less → order a c ≡ Less
unfolding order
less_trans a [] [] e f = never (cc)
less_trans [] [] (z ∷ zs) e f = refl
less_trans (x ∷ xs) [] (z ∷ zs) e f = never (cc)
less_trans a (y ∷ ys) [] e f = never (cc)
less_trans [] (y ∷ ys) (z ∷ zs) e f = refl
less_trans (x ∷ xs) (y ∷ ys) (z ∷ zs) e f =
    ⊎_elim
    (λ h.
    let i = less_numbers x y h in
    ⊎_elim
    (λ k. let j = less_numbers y z k in rw (numbers_less x z (omega arith)))
    (λ k. let j = numbers_is y z k.0 in rw (numbers_less x z (omega arith)))
    (then_less (numbers y z) (order ys zs) f))
    (λ h.
    let i = numbers_is x y h.0 in
    ⊎_elim
    (λ k. let j = less_numbers y z k in rw (numbers_less x z (omega arith)))
    (λ k. let j = numbers_is y z k.0 in rw (numbers_same x z (omega arith)) (less_trans xs ys zs h.1 k.1))
    (then_less (numbers y z) (order ys zs) f))
    (then_less (numbers x y) (order xs ys) e)

-- ---- names with owners
pub key_same : (a : Key) → key_order a a ≡ Equal
key_same a = ap₂ then_by (order_same a.0) (numbers_same a.1 a.1 refl)

pub key_is : (a b : Key) → key_order a b ≡ Equal → a ≡ b
key_is a b e =
    let h = then_same (order a.0 b.0) (numbers a.1 b.1) e in
    ap₂ (λ (n : List ℕ) (o : ℕ). (n, o)) (same_is a.0 b.0 h.0) (numbers_is a.1 b.1 h.1)

pub key_turned : (a b : Key) → key_order b a ≡ turned (key_order a b)
key_turned a b =
    ap₂ then_by (order_turned a.0 b.0) (numbers_turned a.1 b.1) ∙ then_turned (order a.0 b.0) (numbers a.1 b.1)

pub key_trans : (a b c : Key) → key_order a b ≡ Less → key_order b c ≡ Less → key_order a c ≡ Less
key_trans a b c e f =
    ⊎_elim
    (λ h.
    ⊎_elim
    (λ k. rw (less_trans a.0 b.0 c.0 h k))
    (λ k. let j = same_is b.0 c.0 k.0 in let l : order a.0 c.0 ≡ Less = rw j at h in rw l)
    (then_less (order b.0 c.0) (numbers b.1 c.1) f))
    (λ h.
    let i = same_is a.0 b.0 h.0 in
    ⊎_elim
    (λ k. let l : order a.0 c.0 ≡ Less = rw i k in rw l)
    (λ k.
    let l : order a.0 c.0 ≡ Equal = rw i k.0 in
    let m = less_numbers a.1 b.1 h.1 in
    let n = less_numbers b.1 c.1 k.1 in
    rw l (numbers_less a.1 c.1 (omega arith)))
    (then_less (order b.0 c.0) (numbers b.1 c.1) f))
    (then_less (order a.0 b.0) (numbers a.1 b.1) e)

-- ---- the same by `cmp`
pub numbers_cmp : (x y : ℕ) → nat_cmp x y ≡ numbers x y
numbers_cmp x y = grind (arith, nat_tests)

pub order_cmp : (a b : List ℕ) → slice_cmp nat_cmp a b ≡ order a b
unfolding order
order_cmp [] [] = refl
order_cmp [] (y ∷ ys) = refl
order_cmp (x ∷ xs) [] = refl
order_cmp (x ∷ xs) (y ∷ ys) = ap₂ ordering_then (numbers_cmp x y) (order_cmp xs ys) ∙ then_by_lem (numbers x y) (order xs ys)
  where
    then_by_lem : (o p : Ordering) → ordering_then o p ≡ then_by o p
    then_by_lem Less p = refl
    then_by_lem Equal p = refl
    then_by_lem Greater p = refl

pub then_then : (o p q : Ordering) → then_by o (then_by p q) ≡ then_by (then_by o p) q
then_then Less p q = refl
then_then Equal p q = refl
then_then Greater p q = refl

-- If `cmp` finds a difference, that decides; otherwise the rest does.
pub decides : (o p : Ordering) → is_ne o ≡ true → o ≡ then_by o p
decides Less p f = refl
decides Equal p f = cc
decides Greater p f = refl

pub passes : (o p : Ordering) → is_ne o ≡ false → then_by o p ≡ p
passes Less p f = cc
passes Equal p f = refl
passes Greater p f = cc

-- One more byte of each number.
pub joined : (x y u v : ℕ) → u < 256 → v < 256 → numbers (x * 256 + u) (y * 256 + v) ≡ then_by (numbers x y) (numbers u v)
joined x y u v a b =
    ⊎_elim
    (λ h. numbers_less (x * 256 + u) (y * 256 + v) (omega arith) ∙ sym (ap (λ (o : Ordering). then_by o (numbers u v)) (numbers_less x y h)))
    (⊎_elim
    (λ h. numbers_more (x * 256 + u) (y * 256 + v) (omega arith) ∙ sym (ap (λ (o : Ordering). then_by o (numbers u v)) (numbers_more x y h)))
    (λ h. same h ∙ sym (ap (λ (o : Ordering). then_by o (numbers u v)) (numbers_same x y h))))
    (ways x y)
  where
    same : x ≡ y → numbers (x * 256 + u) (y * 256 + v) ≡ numbers u v
    same h =
        ⊎_elim
        (λ k. numbers_less (x * 256 + u) (y * 256 + v) (omega arith) ∙ sym (numbers_less u v k))
        (⊎_elim
        (λ k. numbers_more (x * 256 + u) (y * 256 + v) (omega arith) ∙ sym (numbers_more u v k))
        (λ k. numbers_same (x * 256 + u) (y * 256 + v) (omega arith) ∙ sym (numbers_same u v k)))
        (ways u v)

-- ---- names of eight bytes at least
module _ (a b : List ℕ) (h : 8 ≤ length a) (k : 8 ≤ length b) (ba : Bytes (take 8 a) 0) (bb : Bytes (take 8 b) 0) where
  abbrev x : List ℕ
  x = take 8 a

  abbrev y : List ℕ
  y = take 8 b

  abbrev rest : ℕ → Ordering
  rest j = order (drop j a) (drop j b)

  here : (j : ℕ) → j < 8 → rest j ≡ then_by (numbers (get_or x j 0) (get_or y j 0)) (rest (j + 1))
  unfolding order
  here j l =
      let u : j < length a = omega arith in
      let v : j < length b = omega arith in
      rw (get_or-take 8 a j 0 l, get_or-take 8 b j 0 l, add-one, drop-cons a j 0 u, drop-cons b j 0 v)

  -- Reads one more byte.
  step : (m n j : ℕ) → get_or x j 0 < 256 → get_or y j 0 < 256 → j < 8 → then_by (numbers m n) (rest j) ≡ then_by (numbers (more x m j) (more y n j)) (rest (j + 1))
  step m n j u v l =
      ap (then_by (numbers m n)) (here j l)
      ∙ then_then (numbers m n) (numbers (get_or x j 0) (get_or y j 0)) (rest (j + 1))
      ∙ ap (λ (o : Ordering). then_by o (rest (j + 1))) (sym (joined m n (get_or x j 0) (get_or y j 0) u v))

  eight : order a b ≡ then_by (numbers (high_first x 0) (high_first y 0)) (rest 8)
  eight =
      here 0 (omega arith)
      ∙ step _ _ 1 ba.second bb.second (omega arith)
      ∙ step _ _ 2 ba.third bb.third (omega arith)
      ∙ step _ _ 3 ba.fourth bb.fourth (omega arith)
      ∙ step (four x 0) (four y 0) 4 ba.fifth bb.fifth (omega arith)
      ∙ step _ _ 5 ba.sixth bb.sixth (omega arith)
      ∙ step _ _ 6 ba.seventh bb.seventh (omega arith)
      ∙ step _ _ 7 ba.eighth bb.eighth (omega arith)

-- A name split into its first eight bytes and the rest.
abbrev pub IsSplit : (a x r : List ℕ) → Type 0
IsSplit a x r = (x ≡ take 8 a) × (r ≡ drop 8 a) × (length r + 8 ≡ length a)

module _ (a b x y r s : List ℕ) (p : IsSplit a x r) (q : IsSplit b y s) (bx : Bytes x 0) (by : Bytes y 0) where
  split : order a b ≡ then_by (numbers (high_first x 0) (high_first y 0)) (order r s)
  split =
      rw (p.0, p.1, q.0, q.1)
      (eight a b (omega (arith, p.2)) (omega (arith, q.2)) (subst (λ (l : List ℕ). Bytes l 0) p.0 bx) (subst (λ (l : List ℕ). Bytes l 0) q.0 by))

  -- If `cmp` of eight bytes finds a difference, that decides; otherwise the rest does.
  pub eight_differ : (o : Ordering) → o ≡ nat_cmp (high_first x 0) (high_first y 0) → is_ne o ≡ true → o ≡ order a b
  eight_differ o e f = decides o (order r s) f ∙ sym (split ∙ ap (λ (o : Ordering). then_by o (order r s)) (sym (e ∙ numbers_cmp (high_first x 0) (high_first y 0))))

  pub eight_same : (o : Ordering) → o ≡ nat_cmp (high_first x 0) (high_first y 0) → is_ne o ≡ false → order a b ≡ order r s
  eight_same o e f = split ∙ ap (λ (o : Ordering). then_by o (order r s)) (sym (e ∙ numbers_cmp (high_first x 0) (high_first y 0))) ∙ passes o (order r s) f
