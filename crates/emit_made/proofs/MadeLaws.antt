-- Laws of a made line: its index, its pcs, and how its checks decide the outcome. Assumes nothing.
use Rattle.std.specs.Prelude.{◌≡◌, ℕ, zero, suc, ◌+◌, ◌*◌, ◌^◌, ◌<◌, ◌≤◌, List, refl, Err, Ok, Result}
use Rattle.std.proofs.Common.{subst, ◌∙◌, arith}
use Rattle.std.proofs.Math.Path.{ap}
use Rattle.record.specs.declared.Location.{Location}
use Rattle.refusal.specs.declared.Refusal.{Refusal}
use Rattle.emit_dispatch.specs.Lines.{Line}
use Rattle.emit_dispatch.specs.declared.Unmade.{Unmade}
use Rattle.emit_pairs.specs.declared.emit_instruction.EmitInstruction.{EmitInstruction}
use Rattle.emit_outcome.specs.declared.RefusedLine.{RefusedLine}
use Rattle.emit_pairs.specs.Pairs.{pairs_of}
use Rattle.emit_checks.specs.Made.{words_line, answer_line, made_line, PassedBy, stopped_at}
use Rattle.emit_checks.specs.declared.LineRead.{LineRead}
use Rattle.refusal.specs.Verdicts.{Verdict}
use Rattle.emit_checks.proofs.RoomLaws.{line_room}
use Rattle.emit_outcome.specs.Room.{room_stop}
use Rattle.breakpoints.specs.BreakpointBytes.{pcs_bytes, breakpoint_bytes}
use Rattle.emit_outcome.specs.declared.LineNumbers.{LineNumbers}
use Rattle.loading.specs.declared.LoadForm.{LoadForm}
use Rattle.emit_outcome.specs.Answer.{done_at}
use Rattle.emit_outcome.specs.Call.{Lent, lent_of, outcome_of}
use Rattle.emit_outcome.specs.Emit.{refuse, accept, line_stop, accept_or, line_outcome}

-- A line without words has no pc in its record.
pub same_pcs : (line : Location) (pc at n : ℕ) → (0 < n → pc ≡ at) → breakpoint_bytes line pc n ≡ breakpoint_bytes line at n
unfolding pcs_bytes
same_pcs line pc at zero h = refl
same_pcs line pc at (suc n) h = rw (h (omega arith))

pub pcs_within : (pc at n : ℕ) → pc < 2 ^ 32 → (0 < n → pc ≡ at) → (0 < n → at + 4 * n ≤ 2 ^ 32 + 3) → pc + 4 * n ≤ 2 ^ 32 + 3
pcs_within pc at zero h e l = omega arith
pcs_within pc at (suc n) h e l = omega (arith, e (omega arith), l (omega arith))

-- an accepted line's outcome, part by part
pub outcome_same : (position : ℕ) (form : LoadForm) {l p b l' p' b' : ℕ} {d q k d' q' k' : List ℕ} → l ≡ l' → p ≡ p' → b ≡ b' → d ≡ d' → q ≡ q' → k ≡ k'
    → outcome_of (done_at position form) (record { data_len = l; pending = p; breakpoints = b }) (lent_of d q k)
    ≡ outcome_of (done_at position form) (record { data_len = l'; pending = p'; breakpoints = b' }) (lent_of d' q' k')
outcome_same position form hl hp hb hd hq hk = rw (hl, hp, hb, hd, hq, hk)

-- the outcome by the verdict
module _ (token_list : List ℕ) (line : Location) (numbers : LineNumbers) (lent : Lent) (made : Line) where
  pub line_stopped : {r : Refusal} → line_stop token_list line numbers lent made ≡ Err r → line_outcome token_list line numbers lent made ≡ refuse numbers.counts lent made.index r
  unfolding line_outcome
  line_stopped e = ap (accept_or token_list line numbers lent made) e

  pub line_passed : line_stop token_list line numbers lent made ≡ Ok tt → line_outcome token_list line numbers lent made ≡ accept token_list line numbers lent made
  unfolding line_outcome
  line_passed e = ap (accept_or token_list line numbers lent made) e

-- A verdict with a position added: what the verdict was.
pub stopped_ok : {A : Type 0} (p : ℕ) (v : Result A Refusal) {x : A} → stopped_at p v ≡ Ok x → v ≡ Ok x
stopped_ok p (Ok y) e = cc
stopped_ok p (Err r) e = cc

pub stopped_err : {A : Type 0} (p : ℕ) (v : Result A Refusal) {k : RefusedLine} → stopped_at p v ≡ Err k → (r : Refusal) × (v ≡ Err r) × (record { refusal = r; position = p } ≡ k)
stopped_err p (Ok y) e = let z : ◌≡◌ {A = ℕ} 0 1 = cc in absurd (omega arith)
stopped_err p (Err r) e = (r, refl, cc)

-- A line's index is the given one, whether the line is made or not.
pub answer_index : (a : Result EmitInstruction Unmade) (i : ℕ) → (answer_line a i).index ≡ i
answer_index (Ok words) i = refl
answer_index (Err unmade) i = refl

-- what the checks of a line give, and what is known of it
module _ (token_list : List ℕ) (numbers : LineNumbers) (lent : Lent) (read : LineRead) where
  abbrev stop : Line → Verdict
  stop = line_stop token_list read.line numbers lent

  pub record WordsPass (words : EmitInstruction) : Type 0 where
    pub stop_is : stop (words_line words read.position) ≡ Ok tt
    pub answer_is : read.answer ≡ Ok words
    pub room : room_stop token_list read.line numbers lent (pairs_of words) ≡ Ok tt
    pub outcome_is : line_outcome token_list read.line numbers lent (made_line read) ≡ accept token_list read.line numbers lent (words_line words read.position)

  pub words_pass : {given : Result EmitInstruction Refusal} → PassedBy (stop (made_line read)) read given → (words : EmitInstruction) → given ≡ Ok words → WordsPass words
  words_pass by words e =
      let b = subst (PassedBy (stop (made_line read)) read) e by in
      record {
        stop_is = subst (λ (a : Result EmitInstruction Unmade). stop (answer_line a read.position) ≡ Ok tt) b.1 b.0;
        answer_is = b.1;
        room = subst (λ (a : Result EmitInstruction Unmade). room_stop token_list read.line numbers lent (answer_line a read.position).pairs ≡ Ok tt) b.1 (line_room token_list read.line numbers lent (made_line read) b.0);
        outcome_is = line_passed token_list read.line numbers lent (made_line read) b.0 ∙ ap (λ (a : Result EmitInstruction Unmade). accept token_list read.line numbers lent (answer_line a read.position)) b.1;
      }

  pub words_refused : {given : Result EmitInstruction Refusal} → PassedBy (stop (made_line read)) read given → (r : Refusal) → given ≡ Err r → stop (made_line read) ≡ Err r
  words_refused by r e = subst (PassedBy (stop (made_line read)) read) e by

  pub refused_outcome : {given : Result EmitInstruction Refusal} → PassedBy (stop (made_line read)) read given → (r : Refusal) → given ≡ Err r
      → line_outcome token_list read.line numbers lent (made_line read) ≡ refuse numbers.counts lent read.position r
  refused_outcome by r e =
      line_stopped token_list read.line numbers lent (made_line read) (words_refused by r e) ∙ ap (λ (i : ℕ). refuse numbers.counts lent i r) (answer_index read.answer read.position)
