-- An accepted emit call, taken apart: its lists passed, its line was made and has room, and its outcome is the line's. Assumes nothing.
use Rattle.std.specs.Prelude.{ℕ, Err, None, Ok, Option, Some}
use Rattle.std.proofs.Common.{arith, ◌∙◌}
use Rattle.std.proofs.Math.Path.{◌≡◌, refl, sym, ap}
use Rattle.jobs.specs.declared.Job.{Job}
use Rattle.refusal.specs.Verdicts.{layout_verdict, name_verdict, Verdict}
use Rattle.refusal.proofs.VerdictsLaws.{both_pass, layout_pass}
use Rattle.lexer.specs.Tokens.{token_layout, tokens}
use Rattle.descriptors.specs.Mnemonics.{mnemonic_layout, mnemonic_name, mnemonic_location}
use Rattle.descriptors.specs.Descriptors.{descriptor_layout, descriptor_repeat, instruction_at}
use Rattle.breakpoints.specs.Breakpoints.{data_buffer_layout, pending_buffer_layout, breakpoint_buffer_layout}
use Rattle.emit_dispatch.specs.LineAnswers.{LineAnswer, Made, Missed, OutOfRange}
use Rattle.emit_dispatch.specs.Lines.{Line}
use Rattle.loading.specs.declared.LoadForm.{LoadForm}
use Rattle.emit_outcome.specs.Call.{Call, EmitOutcome}
use Rattle.emit_outcome.specs.Checks.{layout_stop, list_stop}
use Rattle.emit_outcome.specs.Dispatch.{meaning, table_line, meaning_line}
use Rattle.emit_outcome.specs.Emit.{accept, answer_stop, line_stop, accept_or, line_outcome, start_of, call_made, call_line, line_or_unknown, list_outcome, emit_outcome}
use Rattle.emit_outcome.specs.Answer.{done_at}
use Rattle.emit_outcome.specs.declared.Meaning.{Meaning}
use Rattle.emit_outcome.specs.declared.Meaning.TheVariants.{Table, Builtin, Neither}
use Rattle.finished_words.specs.Listed.{Bytes}
use Rattle.routine.proofs.TokenLaws.{tokens_fit}
use Rattle.routine.proofs.WordLaws.{Words, encoding_made, pseudo_made}
use Rattle.routine.specs.CallValues.{line_pairs, call_pairs}

abbrev pub call_stop : Call → Verdict
call_stop c = list_stop c.token_list c.mnemonic c.descriptors c.lent c.numbers.place.region c.numbers.counts

-- The lists of a call keep their layouts.
pub record ListsPass (c : Call) : Type 0 where
  pub tokens_good : token_layout c.token_list ≡ None
  pub data_good : data_buffer_layout c.numbers.place.region c.numbers.counts.data_len c.lent.region_data ≡ None
  pub pending_good : pending_buffer_layout c.numbers.counts.pending c.lent.pending ≡ None
  pub breakpoints_good : breakpoint_buffer_layout c.numbers.counts.breakpoints c.lent.breakpoints ≡ None

pub lists_pass : (c : Call) → call_stop c ≡ Ok tt → ListsPass c
unfolding list_stop layout_stop
lists_pass c e =
    let counts = c.numbers.counts in
    let data_layout = data_buffer_layout c.numbers.place.region counts.data_len c.lent.region_data in
    let pending_layout = pending_buffer_layout counts.pending c.lent.pending in
    let l = both_pass (layout_stop c.token_list c.mnemonic c.descriptors c.lent c.numbers.place.region counts) (name_verdict 2 (descriptor_repeat c.descriptors)) e in
    let t = both_pass (layout_verdict 0 (token_layout c.token_list)) _ l.0 in
    let m = both_pass (layout_verdict 1 (mnemonic_layout c.mnemonic)) _ t.1 in
    let d = both_pass (layout_verdict 2 (descriptor_layout c.descriptors)) _ m.1 in
    let r = both_pass (layout_verdict 3 data_layout) _ d.1 in
    let p = both_pass (layout_verdict 4 pending_layout) _ r.1 in
    record {
      tokens_good = layout_pass 0 (token_layout c.token_list) t.0;
      data_good = layout_pass 3 data_layout r.0;
      pending_good = layout_pass 4 pending_layout p.0;
      breakpoints_good = layout_pass 5 (breakpoint_buffer_layout counts.breakpoints c.lent.breakpoints) p.1;
    }

abbrev pub accept_line : Call → Line → EmitOutcome
accept_line c made = accept c.token_list (mnemonic_location c.mnemonic) c.numbers c.lent made

module _ (c : Call) where
  -- ---- its line

  abbrev stop_of : Line → Verdict
  stop_of made = line_stop c.token_list (mnemonic_location c.mnemonic) c.numbers c.lent made

  pub record LinePasses (made : Line) : Type 0 where
    pub made_is : made.answer ≡ Made
    pub passes : stop_of made ≡ Ok tt
    pub outcome_is : call_line c made ≡ accept_line c made

  answer_made : (made : Line) (a : LineAnswer) → answer_stop c.token_list (mnemonic_location c.mnemonic) c.numbers c.lent made.pairs a ≡ Ok tt → a ≡ Made
  answer_made made Made e = refl
  answer_made made (Missed m) e = cc
  answer_made made (OutOfRange fault) e = cc

  line_passes : (made : Line) (position : ℕ) (loaded : LoadForm) → (call_line c made).answer ≡ done_at position loaded → LinePasses made
  unfolding line_outcome
  line_passes made position loaded d = go (stop_of made) refl d
    where
      outcome : Verdict → EmitOutcome
      outcome = accept_or c.token_list (mnemonic_location c.mnemonic) c.numbers c.lent made

      go : (v : Verdict) → stop_of made ≡ v → (outcome v).answer ≡ done_at position loaded → LinePasses made
      go (Ok tt) p d = record { made_is = answer_made made made.answer p; passes = p; outcome_is = ap outcome p }
      go (Err r) p d = let z : ◌≡◌ {A = ℕ} 0 1 = cc in absurd (omega arith)

module _ (job : Job) (c : Call) where
  -- ---- the words of its line

  -- If a line is made, it has one to five words.
  abbrev pub WordsMade : Option Line → Type 0
  WordsMade (Some made) = made.answer ≡ Made → Words c.token_list 1 5 made.pairs
  WordsMade None = Unit {0}

  meaning_words : Bytes c.token_list → ListsPass c → (m : Meaning) → WordsMade (meaning_line job c.descriptors m (tokens c.token_list) (start_of c))
  unfolding table_line
  meaning_words bytes lists (Table p) =
      let i = instruction_at c.descriptors p in
      encoding_made c.token_list (tokens c.token_list) (tokens_fit c.token_list bytes lists.tokens_good) job i.encoding i.opcode (start_of c)
  meaning_words bytes lists (Builtin p) = pseudo_made c.token_list (tokens c.token_list) (tokens_fit c.token_list bytes lists.tokens_good) job p (start_of c)
  meaning_words bytes lists Neither = tt

  pub line_words : Bytes c.token_list → ListsPass c → WordsMade (call_made job c)
  line_words bytes lists = meaning_words bytes lists (meaning c.descriptors (mnemonic_name c.mnemonic))

  -- ---- the call

  pub record AcceptedCall : Type 0 where
    pub lists : ListsPass c
    pub made : Line
    pub pairs_are : made.pairs ≡ call_pairs job c
    pub line : LinePasses c made
    pub words : Words c.token_list 1 5 made.pairs
    pub outcome_is : emit_outcome job c ≡ accept_line c made

  module _ (position : ℕ) (loaded : LoadForm) (bytes : Bytes c.token_list) where
    accepted_as : call_stop c ≡ Ok tt → (o : Option Line) → call_made job c ≡ o → WordsMade o → (line_or_unknown c o).answer ≡ done_at position loaded → AcceptedCall
    unfolding emit_outcome call_pairs
    accepted_as s (Some made) e words d =
        let l = line_passes c made position loaded d in
        record {
          lists = lists_pass c s;
          made = made;
          pairs_are = sym (ap line_pairs e);
          line = l;
          words = words l.made_is;
          outcome_is = ap (list_outcome job c) s ∙ ap (line_or_unknown c) e ∙ l.outcome_is;
        }
    accepted_as s None e words d = let z : ◌≡◌ {A = ℕ} 0 1 = cc in absurd (omega arith)

    pub accepted : (emit_outcome job c).answer ≡ done_at position loaded → AcceptedCall
    unfolding emit_outcome
    accepted d = go (call_stop c) refl d
      where
        go : (v : Verdict) → call_stop c ≡ v → (list_outcome job c v).answer ≡ done_at position loaded → AcceptedCall
        go (Ok tt) s d = accepted_as s (call_made job c) refl (line_words bytes (lists_pass c s)) d
        go (Err r) s d = let z : ◌≡◌ {A = ℕ} 0 1 = cc in absurd (omega arith)
