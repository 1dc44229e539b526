-- Laws of the call's checks, and of its outcome from what its two passes answer and leave. Assumes nothing.
use Rattle.std.specs.Prelude.{ℕ, ◌≤◌, ◌<◌, List, true, false, ◌≡◌, length, Err, None, Ok, Option, Result, Some}
use Rattle.std.proofs.Common.{sym, ◌∙◌, le-leb}
use Rattle.std.proofs.lemmas.Bool.{lt-leb}
use Rattle.std.proofs.Math.Path.{refl, ap, ap₂}
use Rattle.record.specs.Records.{places, first_bad, limit, within_limit}
use Rattle.record.proofs.RecordsLaws.{limit_good, first_limit}
use Rattle.record.specs.Stores.{append}
use Rattle.record.proofs.StoresLaws.{append_none}
use Rattle.names.proofs.NamesLaws.{repeat_within}
use Rattle.refusal.specs.declared.Refusal.{Refusal}
use Rattle.refusal.specs.declared.Refusal.TheVariants.{BadLayout}
use Rattle.refusal.specs.Verdicts.{and_then, layout_verdict, name_verdict, Verdict}
use Rattle.refusal.proofs.VerdictsLaws.{both_pass, layout_pass}
use Rattle.lexer.specs.Tokens.{token_layout}
use Rattle.macros.specs.Macros.{macro_at_ok, macro_layout, same_macro, macro_repeat}
use Rattle.written_out.specs.Written.{Step, written_out}
use Rattle.written_out.specs.Outcome.{answer_from, bytes_of, write_out_stop, answer_after, outcome_of, write_out_outcome}
use Rattle.macro_tokens.specs.Places.{only}
use Rattle.write_out.specs.Body.{written_from}
use Rattle.write_out.proofs.FillLaws.{written_all}
use Rattle.write_out.specs.Entry.{room_layout, stop_by}

-- ---- places that a refusal names
pub macro_place : (s : List ℕ) (p : ℕ) → macro_layout s ≡ Some p → p ≤ limit
unfolding macro_layout
macro_place s p e = first_limit (macro_at_ok s) s p e

pub repeat_place : (s : List ℕ) (p : ℕ) → macro_layout s ≡ None → macro_repeat s ≡ Some p → p ≤ limit
unfolding macro_layout macro_repeat
repeat_place s p = repeat_within (same_macro s) s (first_bad (macro_at_ok s) (places s)) p

-- ---- the checks in order
module _ (tokens macros : List ℕ) (room : ℕ) where
  abbrev names : Verdict
  names = name_verdict 1 (macro_repeat macros)

  abbrev then_room : Verdict
  then_room = and_then (layout_verdict 2 (room_layout room)) names

  abbrev then_macros : Verdict
  then_macros = and_then (layout_verdict 1 (macro_layout macros)) then_room

  by_tokens : (l : Option ℕ) → token_layout tokens ≡ l → stop_by tokens macros room ≡ and_then (layout_verdict 0 l) then_macros
  unfolding stop_by
  by_tokens l e = ap (λ (x : Option ℕ). and_then (layout_verdict 0 x) then_macros) e

  pub stop_tokens : (p : ℕ) → token_layout tokens ≡ Some p → stop_by tokens macros room ≡ Err (BadLayout 0 p)
  stop_tokens p e = by_tokens (Some p) e

  pub first_stops : (r : Refusal) → layout_verdict 0 (token_layout tokens) ≡ Err r → stop_by tokens macros room ≡ Err r
  unfolding stop_by
  first_stops r e = ap (λ (x : Verdict). and_then x then_macros) e

  module _ (good : token_layout tokens ≡ None) where
    pub second_stops : (r : Refusal) → layout_verdict 1 (macro_layout macros) ≡ Err r → stop_by tokens macros room ≡ Err r
    second_stops r e = by_tokens None good ∙ ap (λ (x : Verdict). and_then x then_room) e

    by_macros : (l : Option ℕ) → macro_layout macros ≡ l → stop_by tokens macros room ≡ and_then (layout_verdict 1 l) then_room
    by_macros l e = by_tokens None good ∙ ap (λ (x : Option ℕ). and_then (layout_verdict 1 x) then_room) e

    pub stop_macros : (p : ℕ) → macro_layout macros ≡ Some p → stop_by tokens macros room ≡ Err (BadLayout 1 p)
    stop_macros p e = by_macros (Some p) e

    module _ (good' : macro_layout macros ≡ None) where
      by_room : (l : Option ℕ) → room_layout room ≡ l → stop_by tokens macros room ≡ and_then (layout_verdict 2 l) names
      by_room l e = by_macros None good' ∙ ap (λ (x : Option ℕ). and_then (layout_verdict 2 x) names) e

      pub third_stops : (r : Refusal) → layout_verdict 2 (room_layout room) ≡ Err r → stop_by tokens macros room ≡ Err r
      third_stops r e = by_macros None good' ∙ ap (λ (x : Verdict). and_then x names) e

      pub names_left : room_layout room ≡ None → (r : Option ℕ) → macro_repeat macros ≡ r → stop_by tokens macros room ≡ name_verdict 1 r
      names_left n r e = by_room None n ∙ ap (name_verdict 1) e

      pub stop_room : limit < room → stop_by tokens macros room ≡ Err (BadLayout 2 limit)
      stop_room h = by_room (Some limit) (rw (lt-leb room limit h, room_layout))

      pub stop_name : room ≤ limit → (r : Option ℕ) → macro_repeat macros ≡ r → stop_by tokens macros room ≡ name_verdict 1 r
      stop_name h r e = by_room None (rw (le-leb room limit h, room_layout)) ∙ ap (name_verdict 1) e

-- the limit of a buffer is that of its length
pub room_is : (out : List ℕ) → within_limit out None ≡ room_layout (length out)
unfolding within_limit
room_is out = refl

-- two buffers that are both over the limit are stopped alike
pub long_same : (tokens macros : List ℕ) (a b : ℕ) → limit < a → limit < b → stop_by tokens macros a ≡ stop_by tokens macros b
unfolding stop_by
long_same tokens macros a b h k =
    let e : room_layout a ≡ room_layout b = rw (lt-leb a limit h, room_layout) (sym (rw (lt-leb b limit k, room_layout))) in
    ap (λ (x : Option ℕ). and_then (layout_verdict 0 (token_layout tokens)) (and_then (layout_verdict 1 (macro_layout macros)) (and_then (layout_verdict 2 x) (name_verdict 1 (macro_repeat macros))))) e

-- ---- the outcome
module _ (tokens macros out : List ℕ) where
  abbrev steps : List Step
  steps = written_out tokens macros

  stop_is : write_out_stop tokens macros out ≡ stop_by tokens macros (length out)
  unfolding write_out_stop stop_by within_limit
  stop_is = refl

  outcome_is : (v : Verdict) → stop_by tokens macros (length out) ≡ v
      → write_out_outcome tokens macros out ≡ outcome_of (answer_after v (answer_from (length out) 0 steps)) (bytes_of steps) out
  unfolding write_out_outcome
  outcome_is v e = ap (λ (x : Verdict). outcome_of (answer_after x (answer_from (length out) 0 steps)) (bytes_of steps) out) (stop_is ∙ e)

  pub stopped_outcome : (r : Refusal) → stop_by tokens macros (length out) ≡ Err r → write_out_outcome tokens macros out ≡ (record { answer = Err r; out = out })
  stopped_outcome r e = outcome_is (Err r) e

  pub record Passed : Type 0 where
    pub tokens_good : token_layout tokens ≡ None
    pub macros_good : macro_layout macros ≡ None
    pub room : length out ≤ limit

  pub passed : stop_by tokens macros (length out) ≡ Ok tt → Passed
  unfolding stop_by within_limit
  passed e =
      let a = both_pass (layout_verdict 0 (token_layout tokens)) _ e in
      let b = both_pass (layout_verdict 1 (macro_layout macros)) _ a.1 in
      let c = both_pass (layout_verdict 2 (room_layout (length out))) (name_verdict 1 (macro_repeat macros)) b.1 in
      record {
        tokens_good = layout_pass 0 (token_layout tokens) a.0;
        macros_good = layout_pass 1 (macro_layout macros) b.0;
        room = (limit_good out None (layout_pass 2 (room_layout (length out)) c.0)).0;
      }

  -- What the first pass answers and leaves.
  module _ (e : stop_by tokens macros (length out) ≡ Ok tt) (r : Result ℕ Refusal) (a : r ≡ answer_from (length out) 0 steps) (kept : List ℕ)
      (k : kept ≡ append out 0 (only false (written_from (length out) 0 steps))) where
    pub first_keeps : kept ≡ out
    first_keeps = k ∙ sym (append_none out 0)

    first_is : write_out_outcome tokens macros out ≡ outcome_of r (bytes_of steps) out
    first_is = outcome_is (Ok tt) e ∙ ap (λ (x : Result ℕ Refusal). outcome_of x (bytes_of steps) out) (sym a)

    pub refused_outcome : (q : Refusal) → r ≡ Err q → write_out_outcome tokens macros out ≡ (record { answer = Err q; out = kept })
    refused_outcome q w =
        first_is ∙ ap (λ (x : Result ℕ Refusal). outcome_of x (bytes_of steps) out) w ∙ ap (λ (x : List ℕ). record { answer = Err q; out = x }) (sym first_keeps)

    -- What the second pass answers and leaves.
    pub written_outcome : (f : ℕ) → r ≡ Ok f → (s : Result ℕ Refusal) → s ≡ answer_from (length kept) 0 steps → (left : List ℕ)
        → left ≡ append kept 0 (only true (written_from (length kept) 0 steps)) → write_out_outcome tokens macros out ≡ (record { answer = s; out = left })
    written_outcome f w s b left l =
        first_is ∙ ap (λ (x : Result ℕ Refusal). outcome_of x (bytes_of steps) out) w
        ∙ ap₂ (λ (x : Result ℕ Refusal) (y : List ℕ). record { answer = x; out = y }) (sym answered)
        (ap (append out 0) (sym (written_all (length out) 0 f steps (sym a ∙ w))) ∙ sym same)
      where
        same : left ≡ append out 0 (written_from (length out) 0 steps)
        same = l ∙ ap (λ (x : List ℕ). append x 0 (written_from (length x) 0 steps)) first_keeps

        answered : s ≡ Ok f
        answered = b ∙ ap (λ (x : List ℕ). answer_from (length x) 0 steps) first_keeps ∙ sym a ∙ w
