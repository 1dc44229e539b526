-- Laws of reading a text from a place on: the end, and one piece and what follows it. Assumes nothing.
use Prim.Native.Nat.{ℕ, zero, suc, ◌+◌, ◌-◌, ◌≤◌, ◌<◌}
use native.Mathlib.Omega.{arith}
use Rattle.std.specs.Prelude.{List, Bool, true, false, ◌≡◌, ltb}
use Rattle.std.proofs.Math.Path.{refl, ap}
use Rattle.std.proofs.Common.{sym, ◌∙◌, lt-ltb, le-ltb, ltb-true, ltb-false}
use Rattle.std.proofs.Math.ListN.{length}
use Rattle.record.specs.declared.Location.{Location}
use Rattle.text_pieces.specs.Pieces.{piece_at}
use Rattle.text_pieces.specs.declared.Piece.{Piece}
use Rattle.text_pieces.specs.declared.Piece.TheVariants.{Blank, Token, BadByte, BadToken}
use Rattle.text_reader.specs.Reading.{Reading, End, Next, location_of, go_on, reading_f, reading_from}
use Rattle.text_reader.proofs.FitLaws.{Good, piece_good}

module _ (source : ℕ) (s : List ℕ) where
  end_f : (f at : ℕ) → length s ≤ at → reading_f f source s at ≡ End
  unfolding reading_f
  end_f zero at h = refl
  end_f (suc f) at h = rw (le-ltb at (length s) h, reading_f)

  step_f : (f at : ℕ) → at < length s → reading_f (suc f) source s at ≡ go_on (location_of source at) (piece_at s at) (λ size. reading_f f source s (at + size))
  unfolding reading_f
  step_f f at h = rw (lt-ltb at (length s) h, reading_f)

  -- What follows is read at least one byte further on.
  same_rest : (l : Location) (at : ℕ) (p : Piece) (f g : ℕ → Reading) → Good s at p → ((k : ℕ) → 1 ≤ k → f k ≡ g k) → go_on l p f ≡ go_on l p g
  same_rest l at Blank f g good h = h 1 (omega arith)
  same_rest l at (Token kind size) f g good h = ap (Next (record { location = l; kind = kind })) (h size good.least)
  same_rest l at BadByte f g good h = refl
  same_rest l at BadToken f g good h = refl

  -- Any fuel gives the same answer, if it is at least the length left.
  same : (f g at : ℕ) → length s ≤ at + f → length s ≤ at + g → reading_f f source s at ≡ reading_f g source s at
  same zero g at hf hg = end_f zero at (omega arith) ∙ sym (end_f g at (omega arith))
  same (suc f) zero at hf hg = end_f (suc f) at (omega arith) ∙ sym (end_f zero at (omega arith))
  same (suc f) (suc g) at hf hg = go (ltb at (length s)) refl (λ k l. same f g (at + k) (omega arith) (omega arith))
    where
      go : (b : Bool) → ltb at (length s) ≡ b → ((k : ℕ) → 1 ≤ k → reading_f f source s (at + k) ≡ reading_f g source s (at + k))
          → reading_f (suc f) source s at ≡ reading_f (suc g) source s at
      go false e ih = end_f (suc f) at (ltb-false at (length s) e) ∙ sym (end_f (suc g) at (ltb-false at (length s) e))
      go true e ih =
          let h = ltb-true at (length s) e in
          step_f f at h
          ∙ same_rest (location_of source at) at (piece_at s at) (λ k. reading_f f source s (at + k)) (λ k. reading_f g source s (at + k)) (piece_good s at h) ih
          ∙ sym (step_f g at h)

  pub reading_end : (at : ℕ) → length s ≤ at → reading_from source s at ≡ End
  unfolding reading_from
  reading_end at h = end_f (length s - at) at h

  pub reading_step : (at : ℕ) (p : Piece) → at < length s → p ≡ piece_at s at → reading_from source s at ≡ go_on (location_of source at) p (λ size. reading_from source s (at + size))
  unfolding reading_from
  reading_step at p h e =
      let fuel : length s - at ≡ suc (length s - at - 1) = omega arith in
      ap (λ (n : ℕ). reading_f n source s at) fuel
      ∙ step_f (length s - at - 1) at h
      ∙ same_rest (location_of source at) at (piece_at s at) (λ k. reading_f (length s - at - 1) source s (at + k)) (λ k. reading_f (length s - (at + k)) source s (at + k)) (piece_good s at h)
      (λ k l. same (length s - at - 1) (length s - (at + k)) (at + k) (omega arith) (omega arith))
      ∙ ap (λ (q : Piece). go_on (location_of source at) q (λ size. reading_f (length s - (at + size)) source s (at + size))) (sym e)
