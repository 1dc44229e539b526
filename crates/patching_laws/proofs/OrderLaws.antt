-- Patch order when pendings of one region are added behind the list: first the pendings of the regions up to it, then the new ones, then the rest.
-- So what is patched stays first, if that region is not below the region patched last (document 02, P12). Assumes nothing.
use Prim.Native.Nat.{ℕ, zero, suc, ◌+◌, ◌-◌, ◌≤◌, ◌<◌}
use native.Mathlib.Omega.{arith}
use mathlib.Core.List.Memᴰ
use mathlib.Core.List.{List, [], ◌∷◌, ◌++◌, append_assoc, append-nil, Memᴰ}
use Rattle.std.specs.Prelude.{◌⊎◌, Bool, true, false, ◌≡◌, length, get_or, take, eqb, leb}
use Rattle.std.proofs.Common.{inl, inr, ⊎_elim, sym, ap, ◌∙◌, length-append, get_or-append-add, eqb-true, leb-true, leb-false}
use Rattle.std.proofs.Math.Path.{refl, ap₂}
use Rattle.std.proofs.lemmas.List.{take-append-le}
use Rattle.std.proofs.lemmas.Bool.{eqb-false}
use Rattle.record.specs.Records.{places}
use Rattle.pending.specs.Pendings.{region_of}
use Rattle.build_outcome.specs.Build.{keep, order_from}
use Rattle.build_outcome.proofs.BuildLaws.{keep_here, keep_other}

-- ---- pendings that are kept

keep_append : (pending : List ℕ) (r : ℕ) (ps qs : List ℕ) → keep pending r (ps ++ qs) ≡ keep pending r ps ++ keep pending r qs
unfolding keep
keep_append pending r [] qs = refl
keep_append pending r (p ∷ ps) qs = go (eqb (region_of pending p) r) refl (keep_append pending r ps qs)
  where
    go : (b : Bool) → eqb (region_of pending p) r ≡ b → keep pending r (ps ++ qs) ≡ keep pending r ps ++ keep pending r qs
        → keep pending r (p ∷ (ps ++ qs)) ≡ keep pending r (p ∷ ps) ++ keep pending r qs
    go true e ih = rw (e, keep) (ap (λ (l : List ℕ). p ∷ l) ih)
    go false e ih = rw (e, keep) ih

-- lists whose pendings have the same regions
keep_same : (old new : List ℕ) (r : ℕ) (ps : List ℕ) → ((p : ℕ) → Memᴰ p ps → region_of new p ≡ region_of old p) → keep new r ps ≡ keep old r ps
unfolding keep
keep_same old new r [] h = refl
keep_same old new r (p ∷ ps) h = go (eqb (region_of old p) r) refl (keep_same old new r ps (λ q m. h q (Memᴰ.tail m)))
  where
    e : region_of new p ≡ region_of old p
    e = h p (Memᴰ.head refl)

    go : (b : Bool) → eqb (region_of old p) r ≡ b → keep new r ps ≡ keep old r ps → keep new r (p ∷ ps) ≡ keep old r (p ∷ ps)
    go true b ih =
        let o : region_of old p ≡ r = eqb-true (region_of old p) r b in
        keep_here new r p ps (e ∙ o) ∙ ap (λ (l : List ℕ). p ∷ l) ih ∙ sym (keep_here old r p ps o)
    go false b ih =
        let o : region_of old p ≡ r → ⊥ = eqb-false (region_of old p) r b in
        keep_other new r p ps (λ x. o (sym e ∙ x)) ∙ ih ∙ sym (keep_other old r p ps o)

keep_all : (pending : List ℕ) (r : ℕ) (ps : List ℕ) → ((p : ℕ) → Memᴰ p ps → region_of pending p ≡ r) → keep pending r ps ≡ ps
unfolding keep
keep_all pending r [] h = refl
keep_all pending r (p ∷ ps) h =
    keep_here pending r p ps (h p (Memᴰ.head refl)) ∙ ap (λ (l : List ℕ). p ∷ l) (keep_all pending r ps (λ q m. h q (Memᴰ.tail m)))

keep_none : (pending : List ℕ) (r : ℕ) (ps : List ℕ) → ((p : ℕ) → Memᴰ p ps → region_of pending p ≡ r → ⊥) → keep pending r ps ≡ []
unfolding keep
keep_none pending r [] h = refl
keep_none pending r (p ∷ ps) h =
    keep_other pending r p ps (h p (Memᴰ.head refl)) ∙ keep_none pending r ps (λ q m. h q (Memᴰ.tail m))

keep_region : (pending : List ℕ) (r : ℕ) (ps : List ℕ) (p : ℕ) → Memᴰ p (keep pending r ps) → region_of pending p ≡ r
unfolding keep
keep_region pending r [] p m = elim m [ ]
keep_region pending r (q ∷ ps) p m = go (eqb (region_of pending q) r) refl (keep_region pending r ps p)
  where
    go : (b : Bool) → eqb (region_of pending q) r ≡ b → (Memᴰ p (keep pending r ps) → region_of pending p ≡ r) → region_of pending p ≡ r
    go true b ih =
        let o : region_of pending q ≡ r = eqb-true (region_of pending q) r b in
        ⊎_elim (λ (h : p ≡ q). ap (region_of pending) h ∙ o) ih (Memᴰ.cases_cons (rw (keep_here pending r q ps o) at m))
    go false b ih = ih (rw (keep_other pending r q ps (eqb-false (region_of pending q) r b)) at m)

-- ---- patch order, region by region

pub order_region : (n : ℕ) (pending : List ℕ) (r p : ℕ) → Memᴰ p (order_from n pending r) → (r ≤ region_of pending p) × (region_of pending p < r + n)
unfolding order_from
order_region zero pending r p m = elim m [ ]
order_region (suc n) pending r p m = go (Memᴰ.append_cases (keep pending r (places pending)) m) (order_region n pending (r + 1) p)
  where
    go : Memᴰ p (keep pending r (places pending)) ⊎ Memᴰ p (order_from n pending (r + 1))
        → (Memᴰ p (order_from n pending (r + 1)) → (r + 1 ≤ region_of pending p) × (region_of pending p < r + 1 + n)) → (r ≤ region_of pending p) × (region_of pending p < r + suc n)
    go (inl k) ih = let e = keep_region pending r (places pending) p k in (omega arith, omega arith)
    go (inr o) ih = let h = ih o in (omega arith, omega arith)

order_split : (m n : ℕ) (pending : List ℕ) (r : ℕ) → order_from (m + n) pending r ≡ order_from m pending r ++ order_from n pending (r + m)
unfolding order_from
order_split zero n pending r =
    let e : r + 0 ≡ r = omega arith in
    let f : 0 + n ≡ n = omega arith in
    ap₂ (λ (k q : ℕ). order_from k pending q) f (sym e)
order_split (suc m) n pending r =
    let e : suc m + n ≡ suc (m + n) = omega arith in
    let f : r + 1 + m ≡ r + suc m = omega arith in
    ap (λ (k : ℕ). order_from k pending r) e
    ∙ ap (λ (l : List ℕ). keep pending r (places pending) ++ l) (order_split m n pending (r + 1) ∙ ap (λ (q : ℕ). order_from m pending (r + 1) ++ order_from n pending q) f)
    ∙ sym (append_assoc (keep pending r (places pending)) (order_from m pending (r + 1)) (order_from n pending (r + suc m)))

-- `new` is `old` with pendings of region r behind it, at the places `added`.
pub record Added (old new : List ℕ) (r : ℕ) (added : List ℕ) : Type 0 where
  pub places_are : places new ≡ places old ++ added
  pub regions_same : (p : ℕ) → Memᴰ p (places old) → region_of new p ≡ region_of old p
  pub regions_new : (p : ℕ) → Memᴰ p added → region_of new p ≡ r

module _ (old new : List ℕ) (r : ℕ) (added : List ℕ) (a : Added old new r added) where
  keep_both : (j : ℕ) → keep new j (places new) ≡ keep old j (places old) ++ keep new j added
  keep_both j =
      ap (keep new j) a.places_are ∙ keep_append new j (places old) added
      ∙ ap (λ (l : List ℕ). l ++ keep new j added) (keep_same old new j (places old) a.regions_same)

  keep_at : keep new r (places new) ≡ keep old r (places old) ++ added
  keep_at = keep_both r ∙ ap (λ (l : List ℕ). keep old r (places old) ++ l) (keep_all new r added a.regions_new)

  keep_not : (j : ℕ) → (r ≡ j → ⊥) → keep new j (places new) ≡ keep old j (places old)
  keep_not j n =
      keep_both j ∙ ap (λ (l : List ℕ). keep old j (places old) ++ l) (keep_none new j added (λ p m e. n (sym (a.regions_new p m) ∙ e)))
      ∙ append-nil (keep old j (places old))

  -- Every region but r keeps its order.
  order_not : (n j : ℕ) → (r < j) ⊎ (j + n ≤ r) → order_from n new j ≡ order_from n old j
  unfolding order_from
  order_not zero j h = refl
  order_not (suc n) j h = ap₂ (λ (x y : List ℕ). x ++ y) (keep_not j (not h)) (order_not n (j + 1) (on h))
    where
      not : (r < j) ⊎ (j + suc n ≤ r) → r ≡ j → ⊥
      not (inl x) e = omega arith
      not (inr x) e = omega arith

      on : (r < j) ⊎ (j + suc n ≤ r) → (r < j + 1) ⊎ (j + 1 + n ≤ r)
      on (inl x) = inl (omega arith)
      on (inr x) = inr (omega arith)

  one_order : (pending : List ℕ) (j : ℕ) → order_from 1 pending j ≡ keep pending j (places pending)
  unfolding order_from
  one_order pending j = append-nil (keep pending j (places pending))

  -- the pendings of the regions up to r, in order
  abbrev pub up_to : List ℕ → List ℕ
  up_to pending = order_from (r + 1) pending 0

  one : (pending : List ℕ) → up_to pending ≡ order_from r pending 0 ++ keep pending r (places pending)
  one pending =
      let z : 0 + r ≡ r = omega arith in
      order_split r 1 pending 0 ∙ ap (λ (l : List ℕ). order_from r pending 0 ++ l) (ap (order_from 1 pending) z ∙ one_order pending r)

  up_to_new : up_to new ≡ up_to old ++ added
  up_to_new =
      one new ∙ ap₂ (λ (x y : List ℕ). x ++ y) (order_not r 0 (inr (omega arith))) keep_at
      ∙ sym (append_assoc (order_from r old 0) (keep old r (places old)) added)
      ∙ ap (λ (l : List ℕ). l ++ added) (sym (one old))

  -- the law
  pub order_old : (n : ℕ) → r < n → order_from n old 0 ≡ up_to old ++ order_from (n - (r + 1)) old (r + 1)
  order_old n h =
      let e : n ≡ r + 1 + (n - (r + 1)) = omega arith in
      let z : 0 + (r + 1) ≡ r + 1 = omega arith in
      ap (λ (k : ℕ). order_from k old 0) e ∙ order_split (r + 1) (n - (r + 1)) old 0 ∙ ap (λ (q : ℕ). up_to old ++ order_from (n - (r + 1)) old q) z

  pub order_grown : (n : ℕ) → r < n → order_from n new 0 ≡ up_to old ++ added ++ order_from (n - (r + 1)) old (r + 1)
  order_grown n h =
      let e : n ≡ r + 1 + (n - (r + 1)) = omega arith in
      let z : 0 + (r + 1) ≡ r + 1 = omega arith in
      ap (λ (k : ℕ). order_from k new 0) e ∙ order_split (r + 1) (n - (r + 1)) new 0
      ∙ ap₂ (λ (x : List ℕ) (q : ℕ). x ++ order_from (n - (r + 1)) new q) up_to_new z
      ∙ ap (λ (l : List ℕ). up_to old ++ added ++ l) (order_not (n - (r + 1)) (r + 1) (inl (omega arith)))

  -- A patched pending belongs to a region up to r.
  in_list : (ps : List ℕ) (i : ℕ) → i < length ps → Memᴰ (get_or ps i 0) ps
  in_list [] i h = absurd (omega arith)
  in_list (p ∷ ps) zero h = Memᴰ.head refl
  in_list (p ∷ ps) (suc i) h = Memᴰ.tail (in_list ps i (omega arith))

  pub done_within : (n i : ℕ) → r < n → i < length (order_from n old 0) → region_of old (get_or (order_from n old 0) i 0) ≤ r → i < length (up_to old)
  done_within n i h l b = go (leb (length (up_to old)) i) refl
    where
      rest : List ℕ
      rest = order_from (n - (r + 1)) old (r + 1)

      go : (t : Bool) → leb (length (up_to old)) i ≡ t → i < length (up_to old)
      go false e = leb-false (length (up_to old)) i e
      go true e =
          let m = leb-true (length (up_to old)) i e in
          let k = i - length (up_to old) in
          let s : i ≡ length (up_to old) + k = omega arith in
          let o = order_old n h in
          let len : length (order_from n old 0) ≡ length (up_to old) + length rest = ap length o ∙ length-append (up_to old) rest in
          let at : get_or (order_from n old 0) i 0 ≡ get_or rest k 0 = ap₂ (λ (x : List ℕ) (q : ℕ). get_or x q 0) o s ∙ get_or-append-add (up_to old) rest k 0 in
          let above = order_region (n - (r + 1)) old (r + 1) (get_or rest k 0) (in_list rest k (omega arith)) in
          absurd (omega (arith, ap (region_of old) at))

  -- so it stays first
  pub done_stays : (n i : ℕ) → r < n → i ≤ length (up_to old) → take i (order_from n new 0) ≡ take i (order_from n old 0)
  done_stays n i h l =
      let rest = order_from (n - (r + 1)) old (r + 1) in
      ap (take i) (order_grown n h ∙ append_assoc (up_to old) added rest) ∙ take-append-le i (up_to old) (added ++ rest) l
      ∙ sym (ap (take i) (order_old n h) ∙ take-append-le i (up_to old) rest l)

-- ---- patch order is no longer than the list
order_over : ℕ → List ℕ → List ℕ → ℕ → List ℕ
order_over zero pending ps r = []
order_over (suc n) pending ps r = keep pending r ps ++ order_over n pending ps (r + 1)

over_all : (n : ℕ) (pending : List ℕ) (r : ℕ) → order_from n pending r ≡ order_over n pending (places pending) r
unfolding order_from order_over
over_all zero pending r = refl
over_all (suc n) pending r = ap (λ (l : List ℕ). keep pending r (places pending) ++ l) (over_all n pending (r + 1))

over_below : (n : ℕ) (pending : List ℕ) (p : ℕ) (ps : List ℕ) (r : ℕ) → region_of pending p < r → order_over n pending (p ∷ ps) r ≡ order_over n pending ps r
unfolding order_over
over_below zero pending p ps r h = refl
over_below (suc n) pending p ps r h = ap₂ (λ (x y : List ℕ). x ++ y) (keep_other pending r p ps (λ e. omega arith)) (over_below n pending p ps (r + 1) (omega arith))

over_one : (n : ℕ) (pending : List ℕ) (p : ℕ) (ps : List ℕ) (r : ℕ) → length (order_over n pending (p ∷ ps) r) ≤ suc (length (order_over n pending ps r))
unfolding order_over
over_one zero pending p ps r = omega arith
over_one (suc n) pending p ps r = go (eqb (region_of pending p) r) refl (over_one n pending p ps (r + 1))
  where
    go : (b : Bool) → eqb (region_of pending p) r ≡ b → length (order_over n pending (p ∷ ps) (r + 1)) ≤ suc (length (order_over n pending ps (r + 1)))
        → length (keep pending r (p ∷ ps) ++ order_over n pending (p ∷ ps) (r + 1)) ≤ suc (length (keep pending r ps ++ order_over n pending ps (r + 1)))
    go true b ih =
        let e : region_of pending p ≡ r = eqb-true (region_of pending p) r b in
        rw (keep_here pending r p ps e, over_below n pending p ps (r + 1) (omega arith)) (omega arith)
    go false b ih =
        rw (keep_other pending r p ps (eqb-false (region_of pending p) r b))
        (omega (arith, ih, length-append (keep pending r ps) (order_over n pending (p ∷ ps) (r + 1)), length-append (keep pending r ps) (order_over n pending ps (r + 1))))

over_none : (n : ℕ) (pending : List ℕ) (r : ℕ) → order_over n pending [] r ≡ []
unfolding order_over keep
over_none zero pending r = refl
over_none (suc n) pending r = over_none n pending (r + 1)

over_few : (n : ℕ) (pending ps : List ℕ) (r : ℕ) → length (order_over n pending ps r) ≤ length ps
over_few n pending [] r = rw (over_none n pending r) (omega arith)
over_few n pending (p ∷ ps) r = omega (arith, over_one n pending p ps r, over_few n pending ps r)

pub order_few : (n : ℕ) (pending : List ℕ) → length (order_from n pending 0) ≤ length (places pending)
order_few n pending = rw (over_all n pending 0) (over_few n pending (places pending) 0)
