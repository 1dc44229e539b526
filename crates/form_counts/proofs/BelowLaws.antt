-- The closed form grows with each constant as the count does. Assumes nothing.
use Rattle.std.specs.Prelude.{ℕ, zero, suc, ◌+◌, ◌-◌, ◌^◌, ◌<◌, ◌≤◌, ◌≡◌, refl, Bool, true, false, eqb, ltb, leb}
use native.Mathlib.Omega.{arith}
use Rattle.std.proofs.Common.{sym, ap, ◌∙◌, ltb-true, ltb-false, leb-true, leb-false, eqb-true}
use Rattle.std.proofs.lemmas.Bool.{eqb-false}
use Rattle.loading.specs.declared.LoadForm.{LoadForm}
use Rattle.loading.specs.declared.LoadForm.TheVariants.{Nothing, Addiu, Ori, Lui, BothHalves}
use Rattle.loading.specs.Load.{lower_half, form_of}
use Rattle.loading.proofs.LoadLaws.{form_small, form_ori, form_lui, form_both, small_low, small_high, not_small}
use Rattle.form_counts.specs.declared.FormCounts.{FormCounts}
use Rattle.form_counts.specs.FormCounts.{with_one, counted}
use Rattle.form_counts.specs.Below.{addiu_below, ori_below, lui_below, below}

-- counts are equal part by part
pub same : {a b c d a' b' c' d' : ℕ} → a ≡ a' → b ≡ b' → c ≡ c' → d ≡ d'
    → ◌≡◌ {A = FormCounts} (record { addiu = a; ori = b; lui = c; both = d }) (record { addiu = a'; ori = b'; lui = c'; both = d' })
same p q r s = rw (p, q, r, s)

-- ---- one constant more
module _ (c : ℕ) (h : c < 2 ^ 32) where
  abbrev taken : ℕ
  taken = addiu_below c + ori_below c + lui_below c

  abbrev taken_next : ℕ
  taken_next = addiu_below (c + 1) + ori_below (c + 1) + lui_below (c + 1)

  within : taken ≤ c
  unfolding addiu_below ori_below lui_below
  within = omega arith

  -- The count of the rest stays if the constant has one of the other three forms. Otherwise it grows by one.
  rest_kept : taken_next ≡ taken + 1 → c + 1 - taken_next ≡ c - taken
  rest_kept e = omega (arith, within)

  rest_grown : taken_next ≡ taken → c + 1 - taken_next ≡ c - taken + 1
  rest_grown e = omega (arith, within)

  addiu_low : c < 32768 → addiu_below (c + 1) ≡ addiu_below c + 1
  unfolding addiu_below
  addiu_low k = omega arith

  addiu_high : 2 ^ 32 - 32768 ≤ c → addiu_below (c + 1) ≡ addiu_below c + 1
  unfolding addiu_below
  addiu_high k = omega arith

  addiu_kept : 32768 ≤ c → c < 2 ^ 32 - 32768 → addiu_below (c + 1) ≡ addiu_below c
  unfolding addiu_below
  addiu_kept k l = omega arith

  ori_grown : 32768 ≤ c → c < 65536 → ori_below (c + 1) ≡ ori_below c + 1
  unfolding ori_below
  ori_grown k l = omega arith

  ori_before : c < 32768 → ori_below (c + 1) ≡ ori_below c
  unfolding ori_below
  ori_before k = omega arith

  ori_behind : 65536 ≤ c → ori_below (c + 1) ≡ ori_below c
  unfolding ori_below
  ori_behind k = omega arith

  lui_grown : 65536 ≤ c → lower_half c ≡ 0 → lui_below (c + 1) ≡ lui_below c + 1
  unfolding lui_below
  lui_grown k z = omega arith

  lui_before : c < 65536 → lui_below (c + 1) ≡ lui_below c
  unfolding lui_below
  lui_before k = omega arith

  lui_kept : 65536 ≤ c → (lower_half c ≡ 0 → ⊥) → lui_below (c + 1) ≡ lui_below c
  unfolding lui_below
  lui_kept k z = omega arith

  lower_small : c < 32768 → below (c + 1) ≡ with_one Addiu (below c)
  unfolding below
  lower_small k =
      let a = addiu_low k in
      let o = ori_before k in
      let l = lui_before (omega arith) in
      same a o l (rest_kept (omega arith))

  upper_small : 2 ^ 32 - 32768 ≤ c → below (c + 1) ≡ with_one Addiu (below c)
  unfolding below
  upper_small k =
      let a = addiu_high k in
      let o = ori_behind (omega arith) in
      let l = lui_kept (omega arith) (λ z. omega arith) in
      same a o l (rest_kept (omega arith))

  ori_one : 32768 ≤ c → c < 65536 → below (c + 1) ≡ with_one Ori (below c)
  unfolding below
  ori_one k m =
      let a = addiu_kept k (omega arith) in
      let o = ori_grown k m in
      let l = lui_before m in
      same a o l (rest_kept (omega arith))

  module _ (k : 65536 ≤ c) (m : c < 2 ^ 32 - 32768) where
    lui_one : lower_half c ≡ 0 → below (c + 1) ≡ with_one Lui (below c)
    unfolding below
    lui_one z =
        let a = addiu_kept (omega arith) m in
        let o = ori_behind k in
        let l = lui_grown k z in
        same a o l (rest_kept (omega arith))

    both_one : (lower_half c ≡ 0 → ⊥) → below (c + 1) ≡ with_one BothHalves (below c)
    unfolding below
    both_one z =
        let a = addiu_kept (omega arith) m in
        let o = ori_behind k in
        let l = lui_kept k z in
        same a o l (rest_grown (omega arith))

  pub one_more : below (c + 1) ≡ with_one (form_of c) (below c)
  one_more = go (ltb c 32768) refl (leb (2 ^ 32 - 32768) c) refl (ltb c 65536) refl (eqb (lower_half c) 0) refl
    where
      by : {f : LoadForm} → form_of c ≡ f → below (c + 1) ≡ with_one f (below c) → below (c + 1) ≡ with_one (form_of c) (below c)
      by e p = p ∙ sym (ap (λ (x : LoadForm). with_one x (below c)) e)

      go : (a : Bool) → ltb c 32768 ≡ a → (b : Bool) → leb (2 ^ 32 - 32768) c ≡ b → (u : Bool) → ltb c 65536 ≡ u → (l : Bool) → eqb (lower_half c) 0 ≡ l
          → below (c + 1) ≡ with_one (form_of c) (below c)
      go true ea b eb u eu l el = let k = ltb-true c 32768 ea in by (form_small c (small_low c (omega arith))) (lower_small k)
      go false ea true eb u eu l el = let k = leb-true (2 ^ 32 - 32768) c eb in by (form_small c (small_high c (omega arith))) (upper_small k)
      go false ea false eb true eu l el =
          let k = ltb-false c 32768 ea in
          let m = leb-false (2 ^ 32 - 32768) c eb in
          let t = ltb-true c 65536 eu in
          by (form_ori c (not_small c (omega arith) (omega arith)) (omega arith)) (ori_one (omega arith) t)
      go false ea false eb false eu true el =
          let k = ltb-false c 65536 eu in
          let m = leb-false (2 ^ 32 - 32768) c eb in
          let z = eqb-true (lower_half c) 0 el in
          by (form_lui c (not_small c (omega arith) (omega arith)) (λ u. omega arith) z) (lui_one (omega arith) (omega arith) z)
      go false ea false eb false eu false el =
          let k = ltb-false c 65536 eu in
          let m = leb-false (2 ^ 32 - 32768) c eb in
          let z = eqb-false (lower_half c) 0 el in
          by (form_both c (not_small c (omega arith) (omega arith)) (λ u. omega arith) z) (both_one (omega arith) (omega arith) z)

-- ---- n constants more

-- the counts of two ranges, one behind the other
abbrev pub plus : FormCounts → FormCounts → FormCounts
plus a b = record { addiu = a.addiu + b.addiu; ori = a.ori + b.ori; lui = a.lui + b.lui; both = a.both + b.both }

-- A constant on the border of two ranges may be counted in either.
moved : (f : LoadForm) (a b : FormCounts) → plus (with_one f a) b ≡ plus a (with_one f b)
moved Nothing a b = refl
moved Addiu a b = same (omega arith) refl refl refl
moved Ori a b = same refl (omega arith) refl refl
moved Lui a b = same refl refl (omega arith) refl
moved BothHalves a b = same refl refl refl (omega arith)

pub grown : (n s : ℕ) → s + n ≤ 2 ^ 32 → below (s + n) ≡ plus (below s) (counted s n)
unfolding counted below
grown zero s h =
    let e : s + 0 ≡ s = omega arith in
    ap below e ∙ same (omega arith) (omega arith) (omega arith) (omega arith)
grown (suc n) s h =
    let e : s + suc n ≡ s + 1 + n = omega arith in
    ap below e ∙ grown n (s + 1) (omega arith) ∙ ap (λ (b : FormCounts). plus b (counted (s + 1) n)) (one_more s (omega arith))
    ∙ moved (form_of s) (below s) (counted (s + 1) n)

-- The counts of a range are the counts below its end minus the counts below its start.
pub less_is : (a b : FormCounts) {d : FormCounts} → d ≡ plus a b → (d.addiu - a.addiu ≡ b.addiu) × (d.ori - a.ori ≡ b.ori) × (d.lui - a.lui ≡ b.lui) × (d.both - a.both ≡ b.both)
less_is a b e =
    (omega (arith, ap (λ (x : FormCounts). x.addiu) e), omega (arith, ap (λ (x : FormCounts). x.ori) e), omega (arith, ap (λ (x : FormCounts). x.lui) e), omega (arith, ap (λ (x : FormCounts). x.both) e))
