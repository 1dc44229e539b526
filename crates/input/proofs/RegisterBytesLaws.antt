-- Registers read one after the other. Assumes nothing.
use Rattle.std.specs.Prelude.{ℕ, zero, suc, ◌+◌, ◌-◌, ◌*◌, ◌≤◌, ◌<◌, ◌≡◌, refl, length, set, drop}
use Rattle.std.proofs.Common.{add-one, arith, ap, ap₂, subst, ◌∙◌, length-set, take-suc-set, drop-cons}
use mathlib.Core.List.{List, [], ◌∷◌, ◌++◌, append-nil}
use Rattle.std.proofs.Math.Path.{sym}
use Rattle.std.proofs.Math.ListN.{take}
use Rattle.std.proofs.Math.Seq.{take_all, append_snoc, drop-length}
use Rattle.std.specs.Fn.{Mut, Called}
use Rattle.std.specs.Array.{IsFromFnResultFrom}
use Rattle.input.specs.Input.{word_or_zero}
use Rattle.input.specs.RegisterBytes.{words_in, registers_in}

module _ {F : Type 0} (g : Mut F (ℕ × Unit {0}) ℕ) (f : F) (s : List ℕ) (reads : (i y : ℕ) (q : F) → Called g f (i, tt) y q → (q ≡ f) × (y ≡ word_or_zero s (4 * i))) where
  -- If each call reads the number at its index, the calls from index i on read the numbers in a row.
  pub all_read : (n i : ℕ) (ys : List ℕ) → length ys ≡ i + n → IsFromFnResultFrom g f ys i n → drop i ys ≡ words_in n s (4 * i)
  unfolding words_in
  all_read zero i ys l r = let e : i ≡ length ys = omega arith in ap (λ (m : ℕ). drop m ys) e ∙ drop-length ys
  all_read (suc n) i ys l r =
      let h : i < length ys = omega arith in
      let t = reads i r.1 r.0 r.3 in
      let p : 4 * (i + 1) ≡ 4 * i + 4 = omega arith in
      drop-cons ys i 0 h
      ∙ ap₂ (λ (x : ℕ) (xs : List ℕ). x ∷ xs) (r.2.1 0 ∙ t.1)
      (ap (λ (m : ℕ). drop m ys) (sym (add-one i)) ∙ all_read n (i + 1) ys (omega arith) (subst (λ (q : F). IsFromFnResultFrom g q ys (i + 1) n) t.0 r.4) ∙ ap (words_in n s) p)

-- The first i registers are read. With those that are left to read, they are all the registers.
pub record ReadSoFar (s registers : List ℕ) (i : ℕ) : Type 0 where
  pub within : i ≤ 32
  pub slots : length registers ≡ 32
  pub all_of : take i registers ++ words_in (32 - i) s (4 * i) ≡ registers_in s

pub read_none : (s registers : List ℕ) → length registers ≡ 32 → ReadSoFar s registers 0
read_none s registers l = record { within = omega arith; slots = l; all_of = refl }

words_next : (s : List ℕ) (i : ℕ) → i < 32 → words_in (32 - i) s (4 * i) ≡ word_or_zero s (4 * i) ∷ words_in (32 - (i + 1)) s (4 * (i + 1))
unfolding words_in
words_next s i h =
    let n : 32 - i ≡ suc (32 - (i + 1)) = omega arith in
    let p : 4 * i + 4 ≡ 4 * (i + 1) = omega arith in
    ap (λ (k : ℕ). words_in k s (4 * i)) n ∙ ap (λ (k : ℕ). word_or_zero s (4 * i) ∷ words_in (32 - (i + 1)) s k) p

module _ (s registers : List ℕ) (i : ℕ) (r : ReadSoFar s registers i) where
  pub read_next : i < 32 → (v : ℕ) → v ≡ word_or_zero s (4 * i) → ReadSoFar s (set registers i v) (i + 1)
  read_next h v e =
      let j : i < length registers = omega (arith, r.slots) in
      let rest = words_in (32 - (i + 1)) s (4 * (i + 1)) in
      let t : take (i + 1) (set registers i v) ≡ take i registers ++ (v ∷ []) = rw (add-one, take-suc-set registers i v j) in
      let n : v ∷ rest ≡ words_in (32 - i) s (4 * i) = sym (words_next s i h ∙ ap (λ (w : ℕ). w ∷ rest) (sym e)) in
      record {
        within = omega arith;
        slots = length-set registers i v ∙ r.slots;
        all_of = ap (λ (l : List ℕ). l ++ rest) t ∙ append_snoc (take i registers) v rest ∙ ap (λ (l : List ℕ). take i registers ++ l) n ∙ r.all_of;
      }

  pub read_all : 32 ≤ i → registers ≡ registers_in s
  unfolding words_in
  read_all h =
      let n : i ≡ 32 = omega (arith, r.within) in
      let a : take 32 registers ++ [] ≡ registers_in s = rw n at r.all_of in
      sym (append-nil (take 32 registers) ∙ take_all 32 registers (omega (arith, r.slots))) ∙ a
