-- A buffer over its limit is refused, however long it is. Assumes nothing.
use Rattle.std.specs.Prelude.{ℕ, ◌<◌, min, List, Bool, true, false, ◌≡◌, refl, leb, length, take, replicate, Err, Ok}
use Rattle.std.proofs.Common.{arith, sym, ap, ◌∙◌, length-take, leb-true, leb-false}
use Rattle.std.proofs.lemmas.List.{length-replicate}
use Rattle.record.specs.Records.{limit}
use Rattle.token_text.proofs.TokenTextLaws.{take_replicate}
use Rattle.written_out.specs.Outcome.{write_out_outcome}
use Rattle.write_out.specs.Entry.{stop_by}
use Rattle.write_out.proofs.EntryLaws.{passed, stopped_outcome, long_same}
use Rattle.macro_text.specs.MacroText.{outcome_text}
use Rattle.refusal.specs.Verdicts.{Verdict}

module _ (tokens macros : List ℕ) where
  abbrev shown : List ℕ → List ℕ
  shown out = outcome_text (write_out_outcome tokens macros out)

  long_text : (a b : List ℕ) → limit < length a → limit < length b → shown a ≡ shown b
  long_text a b h k = go (stop_by tokens macros (length a)) refl
    where
      go : (v : Verdict) → stop_by tokens macros (length a) ≡ v → shown a ≡ shown b
      go (Ok tt) e = absurd (omega (arith, (passed tokens macros a e).room))
      go (Err r) e =
          ap outcome_text (stopped_outcome tokens macros a r e)
          ∙ sym (ap outcome_text (stopped_outcome tokens macros b r (long_same tokens macros (length b) (length a) k h ∙ e)))

  -- A buffer cut at one byte over the limit prints the same as the whole buffer.
  pub held_text : (n room : ℕ) → room ≡ min n 65537 → shown (take room (replicate 65537 0)) ≡ shown (replicate n 0)
  held_text n room e = go (leb n 65537) refl
    where
      go : (b : Bool) → leb n 65537 ≡ b → shown (take room (replicate 65537 0)) ≡ shown (replicate n 0)
      go true t =
          let h = leb-true n 65537 t in
          let r : room ≡ n = omega arith in
          ap shown (take_replicate room 65537 (omega arith) ∙ ap (λ (k : ℕ). replicate k 0) r)
      go false t =
          let h = leb-false n 65537 t in
          long_text (take room (replicate 65537 0)) (replicate n 0)
          (omega (arith, length-take room (replicate {A = ℕ} 65537 0), length-replicate {A = ℕ} 65537 0)) (omega (arith, length-replicate {A = ℕ} n 0))
