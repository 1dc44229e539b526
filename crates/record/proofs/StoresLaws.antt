-- Laws of appended bytes: one append after the other, and what stores leave. Assumes nothing.
use Rattle.std.specs.Prelude.{ℕ, suc, ◌+◌, ◌≤◌, ◌≡◌, List, [], ◌∷◌, ◌++◌, length, take, drop, set}
use Rattle.std.proofs.Common.{add-one, add-zero, arith, sym, ap, ap₂, ◌∙◌, append_assoc, append-nil, take-append-drop, length-append, length-take, drop-drop, take_at}
use Rattle.std.proofs.lemmas.List.Edits.{sets-eq}
use Rattle.std.proofs.Math.Seq.{drop-append-add}
use borrow.Rule.Slice.PartMut.{put_mid}
use Rattle.record.specs.Stores.{append, filled_with}

-- ---- appends

pub append_none : (d : List ℕ) (at : ℕ) → d ≡ append d at []
unfolding append
append_none d at = sym (simp (append-nil, add-zero, take-append-drop))

-- an append right after an append is one append
pub append_append : (d : List ℕ) (at : ℕ) (bs cs : List ℕ) (k : ℕ) → at + length bs ≡ k → k + length cs ≤ length d
    → append (append d at bs) k cs ≡ append d at (bs ++ cs)
unfolding append
append_append d at bs cs k e h =
    let p : List ℕ = take at d ++ bs in
    let q : List ℕ = drop (at + length bs) d in
    let lp : length p ≡ k = simp (length-append, length-take) (omega arith) in
    let n : at + length bs + length cs ≡ at + length (bs ++ cs) = simp length-append (omega arith) in
    ap₂ (λ (a b : List ℕ). a ++ cs ++ b) (take_at p q k lp)
    (ap (λ (n : ℕ). drop (n + length cs) (p ++ q)) (sym lp) ∙ drop-append-add p q (length cs) ∙ drop-drop (length cs) (at + length bs) d)
    ∙ ap₂ (λ (a : List ℕ) (n : ℕ). a ++ drop n d) (append_assoc (take at d) bs cs) n

-- The same for buffers known by equations.
pub append_then : {e f : List ℕ} (d : List ℕ) (at : ℕ) (bs : List ℕ) (k : ℕ) (cs : List ℕ) → e ≡ append d at bs → f ≡ append e k cs
    → at + length bs ≡ k → k + length cs ≤ length d → f ≡ append d at (bs ++ cs)
append_then d at bs k cs p q h l = q ∙ ap (λ (x : List ℕ). append x k cs) p ∙ append_append d at bs cs k h l

-- the filled part of a buffer, once bytes are appended to it
pub filled_append : (d : List ℕ) (fill : ℕ) (bs : List ℕ) → fill ≤ length d → filled_with d fill bs ≡ take fill d ++ bs
unfolding append
filled_append d fill bs h = take_at (take fill d ++ bs) (drop (fill + length bs) d) (fill + length bs) (simp (length-append, length-take) (omega arith))

-- ---- stores, one after the other

pub one_store : (d : List ℕ) (at b : ℕ) → at + 1 ≤ length d → set d at b ≡ append d at (b ∷ [])
unfolding append
one_store d at b h = sets-eq (b ∷ []) d at h

pub two_stores : (d : List ℕ) (at b₀ b₁ : ℕ) → at + 2 ≤ length d → set (set d at b₀) (at + 1) b₁ ≡ append d at (b₀ ∷ b₁ ∷ [])
unfolding append
two_stores d at b₀ b₁ h = rw add-one (sets-eq (b₀ ∷ b₁ ∷ []) d at h)

pub four_stores : (d : List ℕ) (at b₀ b₁ b₂ b₃ : ℕ) → at + 4 ≤ length d
    → set (set (set (set d at b₀) (at + 1) b₁) (at + 2) b₂) (at + 3) b₃ ≡ append d at (b₀ ∷ b₁ ∷ b₂ ∷ b₃ ∷ [])
unfolding append
four_stores d at b₀ b₁ b₂ b₃ h =
    let e1 : at + 1 ≡ suc at = omega arith in
    let e2 : at + 2 ≡ suc (suc at) = omega arith in
    let e3 : at + 3 ≡ suc (suc (suc at)) = omega arith in
    rw (e1, e2, e3) (sets-eq (b₀ ∷ b₁ ∷ b₂ ∷ b₃ ∷ []) d at h)

-- ---- a part that is written whole, as `d[at..at + n].copy_from_slice(bs)` does
pub append_put : (d : List ℕ) (at n : ℕ) (bs : List ℕ) {new : List ℕ} → new ≡ bs → n ≡ length bs → put_mid at n d new ≡ append d at bs
unfolding append
append_put d at n bs {new} e h =
    rw (e, h) (ap (λ (rest : List ℕ). take at d ++ (bs ++ rest)) (drop-drop (length bs) at d) ∙ sym (append_assoc (take at d) bs (drop (at + length bs) d)))
