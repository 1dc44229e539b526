-- The default of a list read: within the list it does not matter, past the list it is the answer. Assumes nothing.
use Rattle.std.specs.Prelude.{ℕ, zero, suc, ◌+◌, ◌≤◌, ◌<◌, List, [], ◌∷◌, ◌≡◌, refl, length, get_or, min, Bool, true, false, leb}
use Rattle.std.proofs.Common.{arith, sym, ◌∙◌, ap, leb-true, leb-false}
use Rattle.std.proofs.Math.ListN.{get_or-eq_default}

pub within : {A : Type 0} (l : List A) (d e : A) (n : ℕ) → n < length l → get_or l n d ≡ get_or l n e
within [] d e n h = absurd (omega arith)
within (x ∷ xs) d e zero h = refl
within (x ∷ xs) d e (suc n) h = within xs d e n (omega arith)

-- A number that is none of 0 to k - 1, as the last arm of a `match` sees it.
abbrev pub NoneBelow : ℕ → ℕ → Type 0
NoneBelow zero n = Unit {0}
NoneBelow (suc k) n = NoneBelow k n × (n ≡ k → ⊥)

none_below : (k n : ℕ) → NoneBelow k n → k ≤ n
none_below zero n h = omega arith
none_below (suc k) n h = omega (arith, none_below k n h.0, h.1)

pub past_end : {A : Type 0} (l : List A) (d : A) (n : ℕ) → NoneBelow (length l) n → get_or l n d ≡ d
past_end l d n h = get_or-eq_default l d (none_below (length l) n h)

-- A place past the end reads the last one.
pub up_to_last : {A : Type 0} (l : List A) (d e : A) (n i last : ℕ) → length l ≡ last + 1 → get_or l last d ≡ e → i ≡ min n last → get_or l i d ≡ get_or l n e
up_to_last l d e n i last k r m = go (leb n last) refl
  where
    go : (b : Bool) → leb n last ≡ b → get_or l i d ≡ get_or l n e
    go true t =
        let h : n ≤ last = leb-true n last t in
        let s : i ≡ n = omega arith in
        ap (λ (x : ℕ). get_or l x d) s ∙ within l d e n (omega arith)
    go false t =
        let h : last < n = leb-false n last t in
        let s : i ≡ last = omega arith in
        ap (λ (x : ℕ). get_or l x d) s ∙ r ∙ sym (get_or-eq_default l e (omega arith))
