-- Laws of a text that is read up to the first byte that ends it, or that no text may have. Assumes nothing.
use Prim.Native.Nat.{ℕ, suc, ◌≤◌, ◌<◌}
use Rattle.std.proofs.Common.{not-suc-le-zero, arith, ⊎_elim, ap₂, ◌∙◌, le-leb}
use mathlib.Core.List.{List, [], ◌∷◌}
use Rattle.std.specs.Prelude.{Bool, true, ◌&&◌, ◌⊎◌, ◌≡◌, leb}
use Rattle.std.proofs.Math.Bool.{false, not, and-eq-true_iff, false≢true}
use Rattle.std.proofs.Math.Logic.{inl, inr}
use Rattle.std.proofs.Math.Path.{refl, sym, ap}
use Rattle.std.proofs.Math.ListN.{length}
use Rattle.record.specs.Bytes.{byte_at, is_text, all}
use Rattle.byte_class.specs.Class.{word_byte}
use Rattle.byte_class.proofs.ClassLaws.{word_range}
use Rattle.text_pieces.specs.Leading.{leading}
use Rattle.text_pieces.proofs.LeadingLaws.{leading_on, leading_off, leading_all}

-- If a test passes everywhere, so does any weaker test.
all_weaker : (p q : ℕ → Bool) → ((b : ℕ) → p b ≡ true → q b ≡ true) → (s : List ℕ) → all p s ≡ true → all q s ≡ true
unfolding all
all_weaker p q h [] e = refl
all_weaker p q h (b ∷ s) e =
    let t = (and-eq-true_iff (p b) (all p s)).0 e in
    (and-eq-true_iff (q b) (all q s)).1 (h b t.0, all_weaker p q h s t.1)

pub word_text : (s : List ℕ) → all is_text (leading word_byte s) ≡ true
word_text s = all_weaker word_byte is_text is_text_lem (leading word_byte s) (leading_all word_byte s)
  where
    is_text_lem : (b : ℕ) → word_byte b ≡ true → is_text b ≡ true
    is_text_lem b w = let h = word_range b w in (and-eq-true_iff (leb 0x20 b) (leb b 0x7E)).1 (le-leb 0x20 b (omega arith), le-leb b 0x7E (omega arith))

-- Tests that agree give the same beginning.
pub leading_same : (p q : ℕ → Bool) → ((b : ℕ) → p b ≡ q b) → (s : List ℕ) → leading p s ≡ leading q s
unfolding leading
leading_same p q h [] = refl
leading_same p q h (b ∷ s) = go (q b) refl (leading_same p q h s)
  where
    go : (t : Bool) → q b ≡ t → leading p s ≡ leading q s → leading p (b ∷ s) ≡ leading q (b ∷ s)
    go true e ih = leading_on p b s (h b ∙ e) ∙ ap (λ (r : List ℕ). b ∷ r) ih ∙ sym (leading_on q b s e)
    go false e ih = leading_off p b s (h b ∙ e) ∙ sym (leading_off q b s e)

module _ (ends : ℕ → Bool) where
  -- The bytes that do not end the text, and those of them that a text may have.
  abbrev pub goes_on : ℕ → Bool
  goes_on b = not (ends b)

  abbrev pub plainly : ℕ → Bool
  plainly b = is_text b && not (ends b)

  pub plainly_text : (s : List ℕ) → all is_text (leading plainly s) ≡ true
  plainly_text s = all_weaker plainly is_text (λ b e. ((and-eq-true_iff (is_text b) (not (ends b))).0 e).0) (leading plainly s) (leading_all plainly s)

  data Kind (b : ℕ) : Type 0 where
    ending : ends b ≡ true → plainly b ≡ false → Kind b
    plain : ends b ≡ false → is_text b ≡ true → plainly b ≡ true → Kind b
    bad : ends b ≡ false → is_text b ≡ false → plainly b ≡ false → Kind b

  kind : (b : ℕ) → Kind b
  kind b = go (ends b) refl (is_text b) refl
    where
      go : (t : Bool) → ends b ≡ t → (u : Bool) → is_text b ≡ u → Kind b
      go true e true f = ending e (ap₂ (λ (x y : Bool). x && not y) f e)
      go true e false f = ending e (ap₂ (λ (x y : Bool). x && not y) f e)
      go false e true f = plain e f (ap₂ (λ (x y : Bool). x && not y) f e)
      go false e false f = bad e f (ap₂ (λ (x y : Bool). x && not y) f e)

  -- The read stopped at the end, or at a byte that ends the text: it has the whole text.
  pub stopped : (s : List ℕ) → (length s ≤ length (leading plainly s)) ⊎ (ends (byte_at s (length (leading plainly s))) ≡ true) → leading goes_on s ≡ leading plainly s
  unfolding leading
  stopped [] h = refl
  stopped (b ∷ s) h = go (kind b) (stopped s)
    where
      go : Kind b → ((length s ≤ length (leading plainly s)) ⊎ (ends (byte_at s (length (leading plainly s))) ≡ true) → leading goes_on s ≡ leading plainly s)
          → leading goes_on (b ∷ s) ≡ leading plainly (b ∷ s)
      go (ending e f) ih = leading_off goes_on b s (ap not e) ∙ sym (leading_off plainly b s f)
      go (plain e t f) ih =
          let n = ap length (leading_on plainly b s f) in
          leading_on goes_on b s (ap not e)
          ∙ ap (λ (r : List ℕ). b ∷ r) (ih (⊎_elim (λ (l : suc (length s) ≤ length (leading plainly (b ∷ s))). inl (omega arith)) (λ (l : ends (byte_at (b ∷ s) (length (leading plainly (b ∷ s)))) ≡ true). inr (sym (ap (λ (k : ℕ). ends (byte_at (b ∷ s) k)) n) ∙ l)) h))
          ∙ sym (leading_on plainly b s f)
      go (bad e t f) ih =
          let n = ap length (leading_off plainly b s f) in
          absurd (⊎_elim (λ (l : suc (length s) ≤ length (leading plainly (b ∷ s))). omega arith) (λ (l : ends (byte_at (b ∷ s) (length (leading plainly (b ∷ s)))) ≡ true). false≢true (sym e ∙ sym (ap (λ (k : ℕ). ends (byte_at (b ∷ s) k)) n) ∙ l)) h)

  -- The read stopped at any other byte: no text may have that byte.
  pub broken : (s : List ℕ) → length (leading plainly s) < length s → ends (byte_at s (length (leading plainly s))) ≡ false → all is_text (leading goes_on s) ≡ false
  unfolding leading all
  broken [] h e = absurd (not-suc-le-zero h)
  broken (b ∷ s) h e = go (kind b) (broken s)
    where
      go : Kind b → (length (leading plainly s) < length s → ends (byte_at s (length (leading plainly s))) ≡ false → all is_text (leading goes_on s) ≡ false)
          → all is_text (leading goes_on (b ∷ s)) ≡ false
      go (ending t f) ih = absurd (false≢true (sym e ∙ ap (λ (k : ℕ). ends (byte_at (b ∷ s) k)) (ap length (leading_off plainly b s f)) ∙ t))
      go (plain t u f) ih =
          let n = ap length (leading_on plainly b s f) in
          ap (all is_text) (leading_on goes_on b s (ap not t)) ∙ rw u (ih (omega arith) (sym (ap (λ (k : ℕ). ends (byte_at (b ∷ s) k)) n) ∙ e))
      go (bad t u f) ih = ap (all is_text) (leading_on goes_on b s (ap not t)) ∙ rw u
