-- A macro's bytes begin with its name's length and then its name, so sorting by bytes puts macros of one name together. Assumes nothing.
use Rattle.std.specs.Prelude.{ℕ, zero, suc, ◌+◌, ◌-◌, ◌≤◌, ◌<◌, List, [], ◌∷◌, ◌⊎◌, Bool, true, false, ◌&&◌, ◌≡◌, refl, length, get_or, take, drop, ltb, None}
use Rattle.std.proofs.Common.{arith, inl, inr, ⊎_elim, sym, ap, ap₂, ◌∙◌, length-take, ltb-true, ltb-false, ne_eqb, eqb-true}
use Rattle.std.proofs.Math.Bool.{and-eq-true_iff}
use Rattle.std.proofs.Math.Dec.{eqb}
use Rattle.record.specs.Bytes.{part}
use Rattle.record.specs.Records.{body_len, kind_at, whole, places, first_bad}
use Rattle.record.proofs.RecordsLaws.{limit_good}
use Rattle.names.proofs.NamesLaws.{has_name_lem, all_named}
use Rattle.names.specs.Owners.{has_owner, owned_name, has_owned_name}
use Rattle.names.proofs.OwnersLaws.{without_owner}
use Rattle.name_order.specs.Order.{order}
use Rattle.name_order.proofs.OrderLaws.{never, numbers_more, numbers_same, order_same}
use Rattle.macros.specs.Macros.{name_at, name_ok, macro_ok, body_at, macro_at_ok, macro_layout}
use Rattle.macros.proofs.NamesLaws.{name_is}
use Rattle.std.specs.declared.cmp.Ordering.TheVariants.{Equal, Greater}

abbrev pub AtMost : List ℕ → List ℕ → Type 0
AtMost a b = order a b ≡ Greater → ⊥

pub same_at_most : (a b : List ℕ) → a ≡ b → AtMost a b
same_at_most a b e f = let g : order a b ≡ Equal = ap (order a) (sym e) ∙ order_same a in never (cc)

at_most_cons : (x y : ℕ) (xs ys : List ℕ) → AtMost (x ∷ xs) (y ∷ ys) → (x < y) ⊎ ((x ≡ y) × AtMost xs ys)
unfolding order
at_most_cons x y xs ys h = go (ltb x y) refl (ltb y x) refl
  where
    go : (b : Bool) → ltb x y ≡ b → (d : Bool) → ltb y x ≡ d → (x < y) ⊎ ((x ≡ y) × AtMost xs ys)
    go true e d f = inl (ltb-true x y e)
    go false e true f = absurd (h (rw (numbers_more x y (ltb-true y x f))))
    go false e false f =
        let k = ltb-false x y e in
        let m = ltb-false y x f in
        let q : x ≡ y = omega arith in
        inr (q, λ (o : order xs ys ≡ Greater). h (rw (numbers_same x y q) o))

-- Two lists begin alike: whatever is ordered between them begins so too.
between : (m : ℕ) (a b c : List ℕ) → m ≤ length a → take m a ≡ take m c → AtMost a b → AtMost b c → take m b ≡ take m a
unfolding order
between zero a b c h e f g = refl
between (suc m) [] b c h e f g = absurd (omega arith)
between (suc m) (x ∷ xs) [] c h e f g = absurd (f refl)
between (suc m) (x ∷ xs) (y ∷ ys) [] h e f g = never (cc)
between (suc m) (x ∷ xs) (y ∷ ys) (z ∷ zs) h e f g =
    let q : x ≡ z = ap (λ (l : List ℕ). get_or l 0 0) e in
    let t : take m xs ≡ take m zs = ap (λ (l : List ℕ). drop 1 l) e in
    ⊎_elim
    (λ (k : x < y). ⊎_elim (λ (n : y < z). absurd (omega arith)) (λ n. absurd (omega (arith, n.0))) (at_most_cons y z ys zs g))
    (λ k.
    ⊎_elim
    (λ (n : y < z). absurd (omega (arith, k.0)))
    (λ n. ap₂ (λ (u : ℕ) (v : List ℕ). u ∷ v) (sym k.0) (between m xs ys zs (omega arith) t k.1 n.1))
    (at_most_cons y z ys zs g))
    (at_most_cons x y xs ys f)

-- So a macro that is ordered between two macros of one name has that name.
pub name_between : (a b c : List ℕ) → name_ok a 0 ≡ true → name_ok c 0 ≡ true → name_at a 0 ≡ name_at c 0 → AtMost a b → AtMost b c → name_at b 0 ≡ name_at a 0
unfolding order
name_between [] b c oa oc e f g = absurd (omega (arith, (name_is [] 0 oa).start))
name_between (x ∷ xs) [] c oa oc e f g = absurd (f refl)
name_between (x ∷ xs) (y ∷ ys) [] oa oc e f g = absurd (omega (arith, (name_is [] 0 oc).start))
name_between (x ∷ xs) (y ∷ ys) (z ∷ zs) oa oc e f g =
    let u : x ≤ length xs = omega (arith, (name_is (x ∷ xs) 0 oa).within) in
    let v : z ≤ length zs = omega (arith, (name_is (z ∷ zs) 0 oc).within) in
    let l : length (take x xs) ≡ length (take z zs) = ap (λ (l : List ℕ). length l) e in
    let q : x ≡ z = omega (arith, l, length-take x xs, length-take z zs) in
    let t : take x xs ≡ take x zs = e ∙ ap (λ (n : ℕ). take n zs) (sym q) in
    ⊎_elim
    (λ (k : x < y). ⊎_elim (λ (n : y < z). absurd (omega arith)) (λ n. absurd (omega (arith, n.0))) (at_most_cons y z ys zs g))
    (λ k.
    ⊎_elim
    (λ (n : y < z). absurd (omega (arith, k.0)))
    (λ n. ap (λ (n : ℕ). take n ys) (sym k.0) ∙ between x xs ys zs u t k.1 n.1)
    (at_most_cons y z ys zs g))
    (at_most_cons x y xs ys f)

-- ---- a macro has no owner, and the sort takes its bytes as its name
module _ (s : List ℕ) (p : ℕ) (ok : macro_at_ok s p ≡ true) where
  tested : ((whole s p ≡ true) × (eqb (kind_at s p) 40 ≡ true)) × (macro_ok (body_at s p) ≡ true)
  unfolding macro_at_ok
  tested =
      let h = (and-eq-true_iff (whole s p && eqb (kind_at s p) 40) (macro_ok (body_at s p))).0 ok in
      ((and-eq-true_iff (whole s p) (eqb (kind_at s p) 40)).0 h.0, h.1)

  unowned : has_owner s p ≡ false
  unowned = let k = eqb-true (kind_at s p) 40 tested.0.1 in ne_eqb (kind_at s p) 41 (λ e. omega arith)

  pub body_name : owned_name 0 s p ≡ body_at s p
  body_name =
      let b = (without_owner 0 s p unowned).before in
      let i : p + 4 + 0 ≡ p + 4 = omega arith in
      let n : body_len s p - 0 ≡ body_len s p = omega arith in
      rw b (ap₂ (part s) i n)

  pub body_named : has_owned_name 0 s p ≡ true
  body_named = let b = (without_owner 0 s p unowned).before in rw b (has_name_lem 0 s p tested.0.0 (omega arith))

pub macros_named : (s : List ℕ) → macro_layout s ≡ None → first_bad (has_owned_name 0 s) (places s) ≡ None
unfolding macro_layout
macros_named s g = all_named (macro_at_ok s) (has_owned_name 0 s) (body_named s) (places s) (limit_good s (first_bad (macro_at_ok s) (places s)) g).1
