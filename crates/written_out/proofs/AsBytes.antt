-- Joining the records of a token list gives the list: so a list without calls is written out byte for byte. Assumes nothing.
use Rattle.std.specs.Prelude.{ℕ, zero, suc, ◌+◌, ◌≤◌, ◌<◌, Bool, true, false, ◌≡◌, refl, length, ltb, None}
use native.Mathlib.Omega.{arith}
use mathlib.Core.List.{List, ◌++◌, map, reverse}
use Rattle.std.proofs.Math.Path.{sym, ap}
use Rattle.std.proofs.Common.{◌∙◌, drop_of_length-le, drop-drop, ltb-true, ltb-false}
use Rattle.std.proofs.Math.ListN.{drop, take-append-drop}
use Rattle.record.specs.Records.{body_len, next, whole}
use Rattle.record.proofs.RecordsLaws.{layout_from, places_all, good_next}
use Rattle.lexer.specs.Tokens.{TokenIs, token_ok, token_layout}
use Rattle.line_heads.specs.Lines.{record_at, records_of, lines}
use Rattle.line_heads.proofs.RecordLaws.{records_from, records_end, records_step}
use Rattle.macros.proofs.KnownLaws.{good_first, token_here}
use Rattle.macros.specs.Macros.{macros_of}
use Rattle.written_out.specs.Written.{write, written_out}
use Rattle.written_out.specs.Outcome.{bytes_of}
use Rattle.written_out.proofs.AsItself.{no_calls, as_itself}

module _ (s : List ℕ) where
  abbrev bytes_from : ℕ → List ℕ
  bytes_from at = bytes_of (map write (records_from s at))

  ended : (at : ℕ) → length s ≤ at → bytes_from at ≡ drop at s
  unfolding bytes_of
  ended at h = ap (λ (ts : List (List ℕ)). bytes_of (map write ts)) (records_end s at h) ∙ sym (drop_of_length-le s h)

  stepped : (at : ℕ) → at < length s → TokenIs s at → bytes_from (next s at) ≡ drop (next s at) s → bytes_from at ≡ drop at s
  unfolding bytes_of
  stepped at h is e =
      let n = 4 + body_len s at in
      let f : at + n ≡ next s at = omega arith in
      ap (λ (ts : List (List ℕ)). bytes_of (map write ts)) (records_step s at h is)
      ∙ ap (λ (x : List ℕ). record_at s at ++ x) (e ∙ sym (drop-drop n at s ∙ ap (λ (k : ℕ). drop k s) f))
      ∙ take-append-drop n (drop at s)

  from : (n at : ℕ) → length s ≤ at + n → layout_from (token_ok s) s at ≡ None → bytes_from at ≡ drop at s
  from zero at b g = ended at (omega arith)
  from (suc n) at b g = go (ltb at (length s)) refl (λ h w. from n (next s at) (omega arith) (good_next (token_ok s) s at h w g))
    where
      go : (t : Bool) → ltb at (length s) ≡ t → (at < length s → whole s at ≡ true → bytes_from (next s at) ≡ drop (next s at) s) → bytes_from at ≡ drop at s
      go false e ih = ended at (ltb-false at (length s) e)
      go true e ih =
          let h = ltb-true at (length s) e in
          let is = token_here s at h g in
          stepped at h is (ih h is.whole_at)

  pub joined_records : token_layout s ≡ None → bytes_of (map write (records_of s)) ≡ s
  unfolding records_of
  joined_records g = ap (λ (ps : List ℕ). bytes_of (map write (map (record_at s) ps))) (places_all s) ∙ from (length s) 0 (omega arith) (good_first s g)

pub as_bytes : (tokens macros : List ℕ) → token_layout tokens ≡ None → no_calls (reverse (macros_of macros)) (lines (records_of tokens)) ≡ true
    → bytes_of (written_out tokens macros) ≡ tokens
as_bytes tokens macros g h = ap bytes_of (as_itself tokens macros h) ∙ joined_records tokens g
