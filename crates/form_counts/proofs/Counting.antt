-- The closed form is the count, for every range. And what follows for counts. Assumes nothing.
use Rattle.std.specs.Prelude.{ℕ, zero, suc, ◌+◌, ◌-◌, ◌^◌, ◌<◌, ◌≤◌, ◌≡◌, refl, length, Err, Ok}
use native.Mathlib.Omega.{arith}
use Rattle.std.proofs.Common.{sym, ◌∙◌, le-leb}
use Rattle.std.proofs.Math.Path.{ap}
use Rattle.std.proofs.lemmas.Bool.{lt-leb}
use Rattle.refusal.specs.declared.Refusal.TheVariants.{StartPastEnd}
use Rattle.loading.specs.declared.LoadForm.{LoadForm}
use Rattle.loading.specs.declared.LoadForm.TheVariants.{Nothing, Addiu, Ori, Lui, BothHalves}
use Rattle.loading.specs.Load.{form_of}
use Rattle.loading.proofs.LoadLaws.{words_by, load_length}
use Rattle.form_counts.specs.declared.FormCounts.{FormCounts}
use Rattle.form_counts.specs.FormCounts.{with_one, counted, count_forms}
use Rattle.form_counts.specs.Below.{addiu_below, ori_below, lui_below, below, between}
use Rattle.form_counts.proofs.BelowLaws.{same, plus, grown, less_is}

-- "computed without walking the range and proved equal to a count over it"
pub closed_form : (start n : ℕ) → start + n ≤ 2 ^ 32 → counted start n ≡ between (below start) (below (start + n))
closed_form start n h = let e = less_is (below start) (counted start n) (grown n start h) in sym (same e.0 e.1 e.2 e.3)

module _ (start end : ℕ) where
  pub count_is : start ≤ end → end < 2 ^ 32 → count_forms start end ≡ Ok (between (below start) (below (end + 1)))
  unfolding count_forms
  count_is h k =
      let e : start + (end + 1 - start) ≡ end + 1 = omega arith in
      rw (le-leb start end h, count_forms) (ap Ok (closed_form start (end + 1 - start) (omega arith) ∙ ap (λ (n : ℕ). between (below start) (below n)) e))

  pub count_refused : end < start → count_forms start end ≡ Err StartPastEnd
  unfolding count_forms
  count_refused h = rw (lt-leb start end h, count_forms)

-- "The full range gives addiu 65,536, ori 32,768, lui 65,535, both halves 4,294,803,457."
pub full_range : count_forms 0 0xffffffff ≡ Ok (record { addiu = 65536; ori = 32768; lui = 65535; both = 4294803457 })
unfolding below addiu_below ori_below lui_below
full_range = count_is 0 0xffffffff (omega arith) (omega arith)

-- ---- counts add up

-- every constant has one of the four forms, so that a range's counts add up to its length
abbrev pub sum : FormCounts → ℕ
sum c = c.addiu + c.ori + c.lui + c.both

one_counted : (c : ℕ) (k : FormCounts) → sum (with_one (form_of c) k) ≡ sum k + 1
one_counted c k = go (form_of c) refl
  where
    go : (f : LoadForm) → form_of c ≡ f → sum (with_one f k) ≡ sum k + 1
    go Nothing e = absurd (omega (arith, (load_length c 0).0, ap length (words_by c 0 e)))
    go Addiu e = omega arith
    go Ori e = omega arith
    go Lui e = omega arith
    go BothHalves e = omega arith

pub counts_add_up : (n start : ℕ) → sum (counted start n) ≡ n
unfolding counted
counts_add_up zero start = refl
counts_add_up (suc n) start = one_counted start (counted (start + 1) n) ∙ omega (arith, counts_add_up n (start + 1))

in_front : (f : LoadForm) (a b : FormCounts) → with_one f (plus a b) ≡ plus (with_one f a) b
in_front Nothing a b = refl
in_front Addiu a b = same (omega arith) refl refl refl
in_front Ori a b = same refl (omega arith) refl refl
in_front Lui a b = same refl refl (omega arith) refl
in_front BothHalves a b = same refl refl refl (omega arith)

-- a range split at any point
pub split_adds : (m n start : ℕ) → counted start (m + n) ≡ plus (counted start m) (counted (start + m) n)
unfolding counted
split_adds zero n start =
    let e : 0 + n ≡ n = omega arith in
    let s : start ≡ start + 0 = omega arith in
    ap (counted start) e ∙ ap (λ (x : ℕ). counted x n) s ∙ same (omega arith) (omega arith) (omega arith) (omega arith)
split_adds (suc m) n start =
    let e : suc m + n ≡ suc (m + n) = omega arith in
    let s : start + 1 + m ≡ start + suc m = omega arith in
    ap (counted start) e ∙ ap (with_one (form_of start)) (split_adds m n (start + 1)) ∙ in_front (form_of start) (counted (start + 1) m) (counted (start + 1 + m) n)
    ∙ ap (λ (x : ℕ). plus (counted start (suc m)) (counted x n)) s
