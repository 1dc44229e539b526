-- Laws of a loop over the places of a list's records, `for at in record::places(list)`, and of one that numbers them, by `enumerate`.
-- proofs/first_bad is such a loop. Its invariant says that the answer is the answer from here on:
--     first_bad ok (places l.list) ≡ first_bad ok (places_left l.at-iterator)
-- A turn finds `c.in-Some.ensures.steps`: what was left is the place `at`, and then what is left now. The end finds
-- `c.in-None.ensures.steps.0`: nothing was left. `turn` and `numbered_turn` give the rest, and need no invariant. Assumes nothing.
use Rattle.std.specs.Prelude.{ℕ, ◌+◌, ◌<◌, Bool, true, ◌≡◌, refl, length, drop, None, Option}
use Rattle.std.proofs.Common.{arith, sym, ap, subst, ◌∙◌, length-append}
use Rattle.std.proofs.lemmas.List.{drop_at, length-map}
use mathlib.Core.List.{List, [], ◌∷◌, ◌++◌, map, Memᴰ}
use Rattle.std.specs.Iterator.{Yields, YieldsFirst}
use Rattle.std.specs.Iterator.Adapters.{enumerate_steps}
use Rattle.std.specs.declared.iter.Enumerate.{Enumerate}
use Rattle.record.specs.Records.{places, first_bad}
use Rattle.record.specs.Left.{places_left}
use Rattle.record.specs.declared.Iter.{Iter}
use Rattle.record.proofs.RecordsLaws.{places_all, below, first_append, first_good, both_good}

in_middle : (xs : List ℕ) (p : ℕ) (ps : List ℕ) → Memᴰ p (xs ++ p ∷ ps)
in_middle [] p ps = let e : p ≡ p = refl in Memᴰ.head e
in_middle (x ∷ xs) p ps = Memᴰ.tail (in_middle xs p ps)

-- The turn of a loop over the places of s: it takes p, the n-th place from 0, and leaves ps.
pub record Turn (s : List ℕ) (n p : ℕ) (ps : List ℕ) : Type 0 where
  -- the place is within the list
  pub within : p < length s
  -- in a list that keeps its layout the record there passes
  pub passes : (ok : ℕ → Bool) → first_bad ok (places s) ≡ None → ok p ≡ true
  pub numbered : n < length (places s)
  pub left_are : drop n (places s) ≡ p ∷ ps

between : (s xs : List ℕ) (n p : ℕ) (ps : List ℕ) → length xs ≡ n → places s ≡ xs ++ p ∷ ps → Turn s n p ps
between s xs n p ps h e =
    record {
      within = below s 0 (places s) (sym (places_all s)) p (subst (λ (qs : List ℕ). Memᴰ p qs) (sym e) (in_middle xs p ps));
      passes = λ ok g. (first_good ok p ps (both_good _ _ (sym (first_append ok xs (p ∷ ps)) ∙ ap (first_bad ok) (sym e) ∙ g)).1).0;
      numbered = omega (arith, ap length e, length-append xs (p ∷ ps));
      left_are = ap (drop n) e ∙ drop_at xs (p ∷ ps) n h;
    }

-- the places that a loop has taken so far, and then those that are left
pub so_far : (start : Iter) (xs : List ℕ) (it : Iter) → Yields (YieldsFirst places_left) start xs it → places_left start ≡ xs ++ places_left it
so_far start [] it y = ap places_left y
so_far start (x ∷ xs) it y = y.1 ∙ ap (λ (ps : List ℕ). x ∷ ps) (so_far y.0 xs it y.2)

-- `turn list _ _ _ (cc) c.loop-at.yielded_by c.in-Some.ensures.steps`
pub turn : (s : List ℕ) (start it : Iter) (xs : List ℕ) {p : ℕ} {ps : List ℕ}
    → places_left start ≡ places s → Yields (YieldsFirst places_left) start xs it → places_left it ≡ p ∷ ps → Turn s (length xs) p ps
turn s start it xs {p} {ps} b y e =
    between s xs (length xs) p ps refl (sym b ∙ so_far start xs it y ∙ ap (λ (qs : List ℕ). xs ++ qs) e)

-- the same where the places are numbered
abbrev pub NumberedSteps : Enumerate Iter → Option (ℕ × ℕ) → Enumerate Iter → Type 0
NumberedSteps = enumerate_steps (YieldsFirst places_left)

pub numbered_so_far : (start : Enumerate Iter) (xs : List (ℕ × ℕ)) (it : Enumerate Iter) → Yields NumberedSteps start xs it
    → (places_left start.iter ≡ map (λ (z : ℕ × ℕ). z.1) xs ++ places_left it.iter) × (start.count + length xs ≡ it.count)
numbered_so_far start [] it y = (ap (λ (e : Enumerate Iter). places_left e.iter) y, omega (arith, ap (λ (e : Enumerate Iter). e.count) y))
numbered_so_far start (x ∷ xs) it y =
    let h = numbered_so_far y.0 xs it y.2 in
    (y.1.0 ∙ ap (λ (ps : List ℕ). x.1 ∷ ps) h.0, omega (arith, y.1.2, h.1))

-- `numbered_turn list _ _ _ (cc) (cc) c.loop-i.yielded_by c.in-Some.ensures.steps.0 c.in-Some.ensures.steps.1`
pub numbered_turn : (s : List ℕ) (start it : Enumerate Iter) (xs : List (ℕ × ℕ)) {n p : ℕ} {ps : List ℕ}
    → places_left start.iter ≡ places s → start.count ≡ 0 → Yields NumberedSteps start xs it → places_left it.iter ≡ p ∷ ps → n ≡ it.count → Turn s n p ps
numbered_turn s start it xs {n} {p} {ps} b z y e c =
    let place : ℕ × ℕ → ℕ = λ z. z.1 in
    let h = numbered_so_far start xs it y in
    between s (map place xs) n p ps (omega (arith, length-map xs place, h.1)) (sym b ∙ h.0 ∙ ap (λ (qs : List ℕ). map place xs ++ qs) e)
