-- "The words equal those of the written-out text", and 24 to 26 come "before any line is emitted": over whole texts, for every way of
-- emitting a line. Assumes nothing.
use Rattle.std.specs.Prelude.{ℕ, ◌≡◌, Err, None, Ok, Result}
use Rattle.std.proofs.Common.{arith, ◌∙◌}
use mathlib.Core.List.{List, [], ◌∷◌, reverse}
use Rattle.std.proofs.Math.Path.{refl, sym, ap, ap₂}
use Rattle.std.proofs.Math.ListN.{take}
use Rattle.record.specs.Records.{places, places_from, places_f, first_bad, within_limit}
use Rattle.names.specs.Names.{first_later}
use Rattle.refusal.specs.declared.Refusal.{Refusal}
use Rattle.line_heads.specs.Lines.{Line, lines, records_of}
use Rattle.macros.specs.Macros.{Macro, macro_layout, macros_of, macro_repeat}
use Rattle.written_out.specs.Outcome.{write_out_outcome}
use Rattle.written_out.proofs.AsItself.{no_calls, none_called}
use Rattle.written_out.proofs.KeepsLayout.{accepted, fill_within, filled_length, keeps_layout}
use Rattle.written_out.proofs.Again.{stays, stays_so}

-- S is what emit calls work on: lent buffers with their fill counts
module _ {S : Type 0} (emit : S → Line → S) where
  abbrev emit_all : S → List Line → S
  emit_all s [] = s
  emit_all s (l ∷ ls) = emit_all (emit s l) ls

  pub record Emitted : Type 0 where
    pub answer : Result ℕ Refusal
    pub state : S

  -- Writes a text out, and then emits its lines. If writing out is refused, nothing is emitted.
  abbrev afterwards : S → Result ℕ Refusal → (out : List ℕ) → Emitted
  afterwards s (Ok f) out = record { answer = Ok f; state = emit_all s (lines (records_of (take f out))) }
  afterwards s (Err r) out = record { answer = Err r; state = s }

  unfoldable pub emit_text : S → (tokens macros out : List ℕ) → Emitted
  unfolding write_out_outcome lines records_of
  emit_text s tokens macros out = let o = write_out_outcome tokens macros out in afterwards s o.answer o.out

  pub refused_emits_nothing : (s : S) (tokens macros out : List ℕ) (r : Refusal) → (write_out_outcome tokens macros out).answer ≡ Err r → (emit_text s tokens macros out).state ≡ s
  unfolding emit_text
  refused_emits_nothing s tokens macros out r e = ap (λ (a : Result ℕ Refusal). (afterwards s a (write_out_outcome tokens macros out).out).state) e

  no_macros : macros_of [] ≡ []
  unfolding macros_of places places_from places_f
  no_macros = refl

  good_none : macro_layout [] ≡ None
  unfolding macro_layout within_limit first_bad places places_from places_f
  good_none = refl

  differ_none : macro_repeat [] ≡ None
  unfolding macro_repeat first_later places places_from places_f
  differ_none = refl

  -- Emitting a text with macros is emitting its written-out list, as a text without macros.
  pub words_equal : (s : S) (tokens macros out : List ℕ) (f : ℕ) → (write_out_outcome tokens macros out).answer ≡ Ok f
      → emit_text s tokens macros out ≡ emit_text s (take f (write_out_outcome tokens macros out).out) [] out
  unfolding emit_text
  words_equal s tokens macros out f e =
      let filled = take f (write_out_outcome tokens macros out).out in
      let n = filled_length tokens macros out f e in
      let h = fill_within tokens macros out f e in
      let k = ap (λ (ms : List Macro). no_calls (reverse ms) (lines (records_of filled))) no_macros ∙ none_called (lines (records_of filled)) in
      let g = keeps_layout tokens macros out f e in
      let small = (accepted tokens macros out f e).room in
      let a = stays filled [] out g good_none differ_none k (omega (arith, n, h)) small in
      let b = stays_so filled [] out g good_none differ_none k (omega (arith, n, h)) small in
      ap (λ (x : Result ℕ Refusal). afterwards s x (write_out_outcome tokens macros out).out) e
      ∙ sym (ap (λ (x : Result ℕ Refusal). afterwards s x (write_out_outcome filled [] out).out) a
      ∙ ap₂ (λ (m : ℕ) (x : List ℕ). record { answer = Ok m; state = emit_all s (lines (records_of x)) }) n b)
