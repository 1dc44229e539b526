-- What is written keeps the layout of a token list, so an emit call takes it. Assumes nothing.
use Rattle.std.specs.Prelude.{ℕ, ◌+◌, ◌≤◌, List, [], ◌∷◌, ◌++◌, map, Bool, true, false, ◌&&◌, ◌≡◌, refl, length, leb, eqb, Err, None, Ok, Result}
use Rattle.std.proofs.Common.{arith, sym, ◌∙◌, length-append, leb-true}
use Rattle.std.proofs.Math.Bool.{and-eq-true_iff}
use Rattle.std.proofs.Math.Path.{ap, ap₂}
use Rattle.std.proofs.Math.ListN.{take}
use Rattle.record.specs.Bytes.{location_at}
use Rattle.record.specs.Records.{kind_at, whole, places, first_bad, within_limit, limit}
use Rattle.record.proofs.RecordsLaws.{first_good, limit_good, limit_kept}
use Rattle.record.specs.Stores.{append}
use Rattle.record.proofs.StoresLaws.{filled_append}
use Rattle.refusal.specs.declared.Refusal.TheVariants.{NoWrittenSpace}
use Rattle.refusal.specs.Verdicts.{layout_verdict, name_verdict, Verdict}
use Rattle.refusal.proofs.VerdictsLaws.{both_pass, layout_pass}
use Rattle.refusal.specs.Leaves.{leaves}
use Rattle.lexer.specs.Tokens.{token_ok, token_layout}
use Rattle.lexer.proofs.TokensLaws.{token_good}
use Rattle.line_heads.specs.Lines.{record_at, records_of}
use Rattle.macros.specs.Macros.{body_tokens, macro_of, macro_ok, body_at, macro_at_ok, macro_layout, macros_of, macro_repeat}
use Rattle.macros.proofs.LayoutLaws.{parts_of}
use Rattle.written_out.specs.Written.{Step, write, stop, written_out}
use Rattle.written_out.specs.Outcome.{answer_from, bytes_of, write_out_stop, answer_after, write_out_outcome}
use Rattle.written_out.proofs.Every.{Every, EveryMacro, EveryStep, every_written}
use Rattle.written_out.proofs.AloneLaws.{Alone, alone_then, alone_at}
use Rattle.refusal.specs.declared.Refusal.{Refusal}

-- ---- the tokens of both lists
each_alone : (s ps : List ℕ) → first_bad (token_ok s) ps ≡ None → Every Alone (map (record_at s) ps)
each_alone s [] g = tt
each_alone s (p ∷ ps) g = let f = first_good (token_ok s) p ps g in (alone_at s p f.0, each_alone s ps f.1)

of_records : (s : List ℕ) → token_layout s ≡ None → Every Alone (records_of s)
unfolding records_of
of_records s g = each_alone s (places s) (token_good s g).1

of_macro : (b : List ℕ) → macro_ok b ≡ true → Every Alone (macro_of b).body
unfolding macro_of
of_macro b e = of_records (body_tokens b) (parts_of b e).tokens_good

each_macro : (s ps : List ℕ) → first_bad (macro_at_ok s) ps ≡ None → EveryMacro Alone (map (λ (p : ℕ). macro_of (body_at s p)) ps)
unfolding macro_at_ok
each_macro s [] g = tt
each_macro s (p ∷ ps) g =
    let f = first_good (macro_at_ok s) p ps g in
    (of_macro (body_at s p) ((and-eq-true_iff (whole s p && eqb (kind_at s p) 40) (macro_ok (body_at s p))).0 f.0).1, each_macro s ps f.1)

of_macros : (s : List ℕ) → macro_layout s ≡ None → EveryMacro Alone (macros_of s)
unfolding macro_layout macros_of
of_macros s g = each_macro s (places s) (limit_good s (first_bad (macro_at_ok s) (places s)) g).1

-- ---- what is written
steps_good : (steps : List Step) → EveryStep Alone steps → first_bad (token_ok (bytes_of steps)) (places (bytes_of steps)) ≡ None
unfolding bytes_of first_bad places
steps_good [] h = none
  where
    none : first_bad (token_ok []) (places []) ≡ None
    none = refl
steps_good (write t ∷ steps) h = alone_then t (bytes_of steps) h.0 (steps_good steps h.1)
steps_good (stop r ∷ steps) h = none
  where
    none : first_bad (token_ok []) (places []) ≡ None
    none = refl

-- The fill is where the records end, and that is within the room.
pub fill_is : (room fill f : ℕ) (steps : List Step) → fill ≤ room → answer_from room fill steps ≡ Ok f → (f ≡ fill + length (bytes_of steps)) × (f ≤ room)
unfolding answer_from bytes_of
fill_is room fill f [] h e = let k : fill ≡ f = cc in (omega arith, omega arith)
fill_is room fill f (stop r ∷ steps) h e = let z : ◌≡◌ {A = ℕ} 0 1 = cc in absurd (omega arith)
fill_is room fill f (write t ∷ steps) h e = go (leb (fill + length t) room) refl (fill_is room (fill + length t) f steps)
  where
    go : (b : Bool) → leb (fill + length t) room ≡ b
        → (fill + length t ≤ room → answer_from room (fill + length t) steps ≡ Ok f → (f ≡ fill + length t + length (bytes_of steps)) × (f ≤ room))
        → (f ≡ fill + length (t ++ bytes_of steps)) × (f ≤ room)
    go true b ih =
        let r = ih (leb-true (fill + length t) room b) (sym (rw (b, answer_from)) ∙ e) in
        (omega (arith, r.0, length-append t (bytes_of steps)), r.1)
    go false b ih =
        let n : answer_from room fill (write t ∷ steps) ≡ Err (NoWrittenSpace (location_at t 4)) = rw (b, answer_from) in
        let z : ◌≡◌ {A = ℕ} 0 1 = cc in
        absurd (omega arith)

layout_of : (s : List ℕ) → length s ≤ limit → first_bad (token_ok s) (places s) ≡ None → token_layout s ≡ None
unfolding token_layout
layout_of s h g = limit_kept s (first_bad (token_ok s) (places s)) h ∙ g

-- ---- the call
module _ (tokens macros out : List ℕ) (f : ℕ) where
  abbrev steps : List Step
  steps = written_out tokens macros

  abbrev answer : Result ℕ Refusal
  answer = answer_from (length out) 0 steps

  pub record Accepted : Type 0 where
    pub tokens_good : token_layout tokens ≡ None
    pub macros_good : macro_layout macros ≡ None
    pub room : length out ≤ limit
    pub answered : answer ≡ Ok f

  passed : (v : Verdict) → answer_after v answer ≡ Ok f → (v ≡ Ok tt) × (answer ≡ Ok f)
  passed (Ok tt) e = (refl, e)
  passed (Err r) e = (cc, cc)

  pub accepted : (write_out_outcome tokens macros out).answer ≡ Ok f → Accepted
  unfolding write_out_outcome write_out_stop
  accepted e =
      let p = passed (write_out_stop tokens macros out) e in
      let a = both_pass (layout_verdict 0 (token_layout tokens)) _ p.0 in
      let b = both_pass (layout_verdict 1 (macro_layout macros)) _ a.1 in
      let c = both_pass (layout_verdict 2 (within_limit out None)) (name_verdict 1 (macro_repeat macros)) b.1 in
      record {
        tokens_good = layout_pass 0 (token_layout tokens) a.0;
        macros_good = layout_pass 1 (macro_layout macros) b.0;
        room = (limit_good out None (layout_pass 2 (within_limit out None) c.0)).0;
        answered = p.1;
      }

  pub fill_within : (write_out_outcome tokens macros out).answer ≡ Ok f → f ≤ length out
  fill_within e = (fill_is (length out) 0 f steps (omega arith) (accepted e).answered).1

  -- The filled part is the records written.
  pub filled_is : (write_out_outcome tokens macros out).answer ≡ Ok f → take f (write_out_outcome tokens macros out).out ≡ bytes_of steps
  unfolding write_out_outcome
  filled_is e =
      let a = accepted e in
      let r = fill_is (length out) 0 f steps (omega arith) a.answered in
      let l : (write_out_outcome tokens macros out).out ≡ append out 0 (bytes_of steps) = ap (λ (x : Result ℕ Refusal). leaves x (bytes_of steps) out) e in
      ap₂ take r.0 l ∙ filled_append out 0 (bytes_of steps) (omega arith)

  pub filled_length : (write_out_outcome tokens macros out).answer ≡ Ok f → length (take f (write_out_outcome tokens macros out).out) ≡ f
  filled_length e = omega (arith, ap length (filled_is e), (fill_is (length out) 0 f steps (omega arith) (accepted e).answered).0)

  pub keeps_layout : (write_out_outcome tokens macros out).answer ≡ Ok f → token_layout (take f (write_out_outcome tokens macros out).out) ≡ None
  keeps_layout e =
      let a = accepted e in
      let r = fill_is (length out) 0 f steps (omega arith) a.answered in
      let g = steps_good steps (every_written Alone tokens macros (of_records tokens a.tokens_good) (of_macros macros a.macros_good)) in
      ap token_layout (filled_is e) ∙ layout_of (bytes_of steps) (omega (arith, r.0, r.1, a.room)) g
