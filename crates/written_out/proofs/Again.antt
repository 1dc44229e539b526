-- Writing out what was written out: nothing changes if no line's head is the name of a macro. Assumes nothing.
use Rattle.std.specs.Prelude.{ℕ, ◌+◌, ◌≤◌, true, ◌≡◌, take, None, Ok, Option}
use native.Mathlib.Omega.{arith}
use mathlib.Core.List.{List, [], ◌∷◌, ◌++◌, map, reverse}
use Rattle.std.proofs.Math.Path.{ap, ap₂}
use Rattle.std.proofs.Common.{◌∙◌, length-append, le-leb}
use Rattle.std.proofs.Math.ListN.{length}
use Rattle.record.specs.Records.{limit, within_limit}
use Rattle.record.proofs.RecordsLaws.{limit_kept}
use Rattle.refusal.specs.Verdicts.{and_then, layout_verdict, name_verdict, Verdict}
use Rattle.lexer.specs.Tokens.{token_layout}
use Rattle.line_heads.specs.Lines.{lines, records_of}
use Rattle.macros.specs.Macros.{macro_layout, macros_of, macro_repeat}
use Rattle.written_out.specs.Written.{write, written_out}
use Rattle.written_out.specs.Outcome.{answer_from, bytes_of, write_out_stop, answer_after, write_out_outcome}
use Rattle.written_out.proofs.AsItself.{no_calls, as_itself}
use Rattle.written_out.proofs.AsBytes.{joined_records}
use Rattle.written_out.proofs.KeepsLayout.{filled_is}

-- If there is room for all records, all are written.
fits_all : (room fill : ℕ) (ts : List (List ℕ)) → fill + length (bytes_of (map write ts)) ≤ room → answer_from room fill (map write ts) ≡ Ok (fill + length (bytes_of (map write ts)))
unfolding answer_from bytes_of
fits_all room fill [] h = ap Ok (zero_more fill)
  where
    zero_more : (n : ℕ) → n ≡ n + 0
    zero_more n = omega arith
fits_all room fill (t ∷ ts) h =
    let l = length-append t (bytes_of (map write ts)) in
    let k : fill + length t ≤ room = omega arith in
    let s : fill + length t + length (bytes_of (map write ts)) ≡ fill + length (t ++ bytes_of (map write ts)) = omega arith in
    rw (le-leb (fill + length t) room k, answer_from) (fits_all room (fill + length t) ts (omega arith) ∙ ap Ok s)

module _ (tokens macros out : List ℕ) (good : token_layout tokens ≡ None) (macros_good : macro_layout macros ≡ None) (differ : macro_repeat macros ≡ None)
    (none : no_calls (reverse (macros_of macros)) (lines (records_of tokens)) ≡ true) (fits : length tokens ≤ length out) (small : length out ≤ limit) where
  steps_are : written_out tokens macros ≡ map write (records_of tokens)
  steps_are = as_itself tokens macros none

  bytes_are : bytes_of (map write (records_of tokens)) ≡ tokens
  bytes_are = joined_records tokens good

  passes : write_out_stop tokens macros out ≡ Ok tt
  unfolding write_out_stop
  passes =
      ap₂ (λ (x y : Option ℕ). and_then (layout_verdict 0 x) (and_then (layout_verdict 1 y) (and_then (layout_verdict 2 (within_limit out None)) (name_verdict 1 (macro_repeat macros))))) good macros_good
      ∙ ap₂ (λ (x : Option ℕ) (r : Option ℕ). and_then (layout_verdict 2 x) (name_verdict 1 r)) (limit_kept out None small) differ

  -- The answer to a list without calls is its own length.
  pub stays : (write_out_outcome tokens macros out).answer ≡ Ok (length tokens)
  unfolding write_out_outcome
  stays =
      ap (λ (v : Verdict). answer_after v (answer_from (length out) 0 (written_out tokens macros))) passes
      ∙ ap (answer_from (length out) 0) steps_are
      ∙ fits_all (length out) 0 (records_of tokens) (omega (arith, ap length bytes_are))
      ∙ ap (λ (s : List ℕ). Ok (0 + length s)) bytes_are
      ∙ ap Ok (from_zero (length tokens))
    where
      from_zero : (n : ℕ) → 0 + n ≡ n
      from_zero n = omega arith

  -- And the list is written as it is.
  pub stays_so : take (length tokens) (write_out_outcome tokens macros out).out ≡ tokens
  stays_so = filled_is tokens macros out (length tokens) stays ∙ ap bytes_of steps_are ∙ bytes_are
