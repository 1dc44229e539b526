-- A token buffer over its limit is refused, whatever its length; and the length of the tokens' line. Assumes nothing.
use Rattle.std.specs.Prelude.{ℕ, zero, suc, ◌+◌, ◌*◌, ◌≤◌, ◌<◌, min, List, ◌∷◌, ◌++◌, Bool, true, false, ◌≡◌, refl, leb, length, take, replicate, Err, Result}
use Rattle.std.proofs.Common.{arith, sym, ◌∙◌, length-append, length-take, leb-true, leb-false}
use Rattle.std.proofs.Math.Path.{ap}
use Rattle.std.proofs.lemmas.List.{length-replicate}
use Rattle.record.specs.Records.{limit}
use Rattle.record.specs.Texts.{bytes_of}
use Rattle.refusal.specs.declared.Refusal.{Refusal}
use Rattle.refusal.specs.Numbers.{numbered}
use Rattle.refusal.specs.Leaves.{leaves}
use Rattle.text_reader.specs.Reading.{reading}
use Rattle.text_reader.specs.Outcome.{answer_of, bytes_of as records_of, read_text}
use Rattle.text_reader.proofs.OutcomeLaws.{over_text, over_tokens}
use Rattle.text.specs.Text.{hex_bytes, refused_line}
use Rattle.text.proofs.TextLaws.{hex_length}
use Rattle.token_text.specs.TokenText.{tokens_line, answer_text, outcome_text}

pub line_length : (list : List ℕ) → length (tokens_line list) ≡ 8 + 2 * length list
line_length list = omega (arith, length-append (bytes_of "tokens " ++ hex_bytes list) (bytes_of "\n"), length-append (bytes_of "tokens ") (hex_bytes list), hex_length list)

pub take_replicate : (m n : ℕ) → m ≤ n → take m (replicate {A = ℕ} n 0) ≡ replicate m 0
take_replicate zero n h = refl
take_replicate (suc m) zero h = absurd (omega arith)
take_replicate (suc m) (suc n) h = ap (λ (l : List ℕ). 0 ∷ l) (take_replicate m n (omega arith))

-- The part of the space that is lent; the space has one byte more than the limit.
part_at : (space : List ℕ) (n room : ℕ) → length space ≡ 65537 → room ≡ min n 65537 → (room ≡ length (take room space)) × (length (take room space) ≤ 65537)
part_at space n room z e =
    let l = length-take room space in
    (omega arith, omega arith)

pub part_held : (n room : ℕ) → room ≡ min n 65537 → let part = take room (replicate {A = ℕ} 65537 0) in
    (room ≡ length part) × (length part ≤ 65537)
part_held n room e = part_at (replicate 65537 0) n room (length-replicate {A = ℕ} 65537 0) e

module _ (text : List ℕ) (source : ℕ) where
  refused_text : (d : List ℕ) (r : Refusal) → answer_of text source (length d) ≡ Err r → outcome_text (read_text text source d) ≡ refused_line (numbered r)
  unfolding read_text
  refused_text d r e = ap (λ (a : Result ℕ Refusal). answer_text a (leaves a (records_of text (reading source text)) d)) e

  long_text : (a b : List ℕ) → limit < length a → limit < length b → outcome_text (read_text text source a) ≡ outcome_text (read_text text source b)
  long_text a b h k = go (leb (length text) limit) refl
    where
      go : (t : Bool) → leb (length text) limit ≡ t → outcome_text (read_text text source a) ≡ outcome_text (read_text text source b)
      go true e =
          let l = leb-true (length text) limit e in
          refused_text a _ (over_tokens text source a l h) ∙ sym (refused_text b _ (over_tokens text source b l k))
      go false e =
          let l = leb-false (length text) limit e in
          refused_text a _ (over_text text source a l) ∙ sym (refused_text b _ (over_text text source b l))

  -- A buffer cut at one byte over the limit prints the same as the whole buffer.
  pub held_text : (n room : ℕ) → room ≡ min n 65537 → outcome_text (read_text text source (take room (replicate 65537 0))) ≡ outcome_text (read_text text source (replicate n 0))
  held_text n room e = go (leb n 65537) refl
    where
      go : (b : Bool) → leb n 65537 ≡ b → outcome_text (read_text text source (take room (replicate 65537 0))) ≡ outcome_text (read_text text source (replicate n 0))
      go true t =
          let h = leb-true n 65537 t in
          let r : room ≡ n = omega arith in
          ap (λ (d : List ℕ). outcome_text (read_text text source d)) (take_replicate room 65537 (omega arith) ∙ ap (λ (k : ℕ). replicate k 0) r)
      go false t =
          let h = leb-false n 65537 t in
          long_text (take room (replicate 65537 0)) (replicate n 0)
          (omega (arith, length-take room (replicate {A = ℕ} 65537 0), length-replicate {A = ℕ} 65537 0)) (omega (arith, length-replicate {A = ℕ} n 0))
