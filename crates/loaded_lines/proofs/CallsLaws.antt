-- The outcome of an accepted call is its line's, and it appends the bytes of the line's words. Assumes nothing.
use Rattle.std.specs.Prelude.{ℕ, ◌+◌, ◌*◌, ◌≤◌, List, [], ◌∷◌, ◌++◌, length, take, Err, Ok, Some}
use Rattle.std.proofs.Common.{arith, sym, ap, ◌∙◌, subst}
use Rattle.std.proofs.Math.Path.{◌≡◌, refl}
use Rattle.std.proofs.lemmas.List.{length-map}
use Rattle.jobs.specs.declared.Job.{Job}
use Rattle.record.specs.declared.Location.{Location}
use Rattle.record.specs.Stores.{le32_bytes, append}
use Rattle.record.proofs.StoresLaws.{filled_append}
use Rattle.lexer.specs.Tokens.{tokens}
use Rattle.descriptors.specs.Mnemonics.{mnemonic_name, mnemonic_location}
use Rattle.descriptors.specs.Descriptors.{instruction_at}
use Rattle.emit_pairs.specs.declared.InstructionPair.{InstructionPair}
use Rattle.emit_dispatch.specs.LineAnswers.{LineAnswer, Made, Missed, OutOfRange}
use Rattle.emit_dispatch.specs.Lines.{Line, pseudo_line}
use Rattle.formats.specs.Operations.{Operation, encoded, pseudo, line_of, words_of}
use Rattle.emit_bytes.specs.Appended.{word_bytes}
use Rattle.emit_bytes.proofs.AppendedLaws.{words_length}
use Rattle.loading.specs.declared.LoadForm.{LoadForm}
use Rattle.emit_outcome.specs.declared.Meaning.{Meaning}
use Rattle.emit_outcome.specs.declared.Meaning.TheVariants.{Table, Builtin, Neither}
use Rattle.emit_outcome.specs.declared.LineNumbers.{LineNumbers}
use Rattle.emit_outcome.specs.Answer.{done_at}
use Rattle.emit_outcome.proofs.AnswerLaws.{done_parts}
use Rattle.emit_outcome.specs.Dispatch.{meaning, table_line, meaning_line}
use Rattle.emit_outcome.specs.Call.{Lent, Call, EmitOutcome}
use Rattle.emit_outcome.specs.Checks.{list_stop}
use Rattle.emit_outcome.specs.Emit.{accept, answer_stop, line_stop, accept_or, line_outcome, start_of, call_line, line_or_unknown, list_outcome, emit_outcome}
use Rattle.emit_checks.proofs.ListsLaws.{lists_pass}
use Rattle.loaded_lines.proofs.Loaded.{meant, bytes_of, Appended}
use Rattle.refusal.specs.Verdicts.{Verdict}

-- ---- bytes of words

words_bytes : (ps : List InstructionPair) → word_bytes ps ≡ bytes_of (words_of ps)
unfolding word_bytes bytes_of
words_bytes [] = refl
words_bytes (p ∷ ps) = ap (λ (bs : List ℕ). le32_bytes p.word ++ bs) (words_bytes ps)

pub bytes_append : (ws vs : List ℕ) → bytes_of (ws ++ vs) ≡ bytes_of ws ++ bytes_of vs
unfolding bytes_of
bytes_append [] vs = refl
bytes_append (w ∷ ws) vs = ap (λ (bs : List ℕ). le32_bytes w ++ bs) (bytes_append ws vs)

-- ---- a line that was accepted

module _ (token_list : List ℕ) (line : Location) (numbers : LineNumbers) (lent : Lent) (made : Line) (position : ℕ) (loaded : LoadForm) where
  answer_made : (a : LineAnswer) → answer_stop token_list line numbers lent made.pairs a ≡ Ok tt → a ≡ Made
  answer_made Made e = refl
  answer_made (Missed m) e = cc
  answer_made (OutOfRange fault) e = cc

  record AcceptedLine (o : EmitOutcome) : Type 0 where
    answer_is : made.answer ≡ Made
    form_is : made.form ≡ loaded
    outcome_is : o ≡ accept token_list line numbers lent made

  by_verdict : (v : Verdict) → line_stop token_list line numbers lent made ≡ v → (accept_or token_list line numbers lent made v).answer ≡ done_at position loaded
      → AcceptedLine (accept_or token_list line numbers lent made v)
  by_verdict (Ok tt) e h = record { answer_is = answer_made made.answer e; form_is = (done_parts h).1; outcome_is = refl }
  by_verdict (Err r) e h = let z : ◌≡◌ {A = ℕ} 0 1 = cc in absurd (omega arith)

  accepted_line : (line_outcome token_list line numbers lent made).answer ≡ done_at position loaded → AcceptedLine (line_outcome token_list line numbers lent made)
  unfolding line_outcome
  accepted_line h = by_verdict (line_stop token_list line numbers lent made) refl h

-- ---- what it appends

module _ (c : Call) (fits : c.numbers.counts.data_len ≤ length c.lent.region_data) where
  accept_appends : (made : Line) → Appended c (accept c.token_list (mnemonic_location c.mnemonic) c.numbers c.lent made) (words_of made.pairs)
  accept_appends made =
      let fill = c.numbers.counts.data_len in
      let bytes = word_bytes made.pairs in
      let n : length (words_of made.pairs) ≡ length made.pairs = simp length-map in
      record {
        count_is = ap (λ (k : ℕ). fill + 4 * k) (sym n);
        data_is =
            ap (λ (k : ℕ). take (fill + k) (append c.lent.region_data fill bytes)) (sym (words_length made.pairs))
            ∙ filled_append c.lent.region_data fill bytes fits ∙ ap (λ (bs : List ℕ). take fill c.lent.region_data ++ bs) (words_bytes made.pairs);
      }

-- the operation of a call, and its line
pub record AcceptedCall (job : Job) (c : Call) (loaded : LoadForm) (m : Meaning) (o : EmitOutcome) : Type 0 where
  pub operation : Operation
  pub means : meant c.descriptors m ≡ Some operation
  pub made : (line_of job operation (tokens c.token_list) (start_of c)).answer ≡ Made
  pub form_is : (line_of job operation (tokens c.token_list) (start_of c)).form ≡ loaded
  pub appended : Appended c o (words_of (line_of job operation (tokens c.token_list) (start_of c)).pairs)

module _ (job : Job) (c : Call) (position : ℕ) (loaded : LoadForm) (fits : c.numbers.counts.data_len ≤ length c.lent.region_data) where
  line_appends : (made : Line) → (call_line c made).answer ≡ done_at position loaded → (made.answer ≡ Made) × (made.form ≡ loaded) × Appended c (call_line c made) (words_of made.pairs)
  line_appends made h =
      let a = accepted_line c.token_list (mnemonic_location c.mnemonic) c.numbers c.lent made position loaded h in
      (a.answer_is, a.form_is, subst (λ (o : EmitOutcome). Appended c o (words_of made.pairs)) (sym a.outcome_is) (accept_appends c fits made))

  accepted_meaning : (m : Meaning) → let o = line_or_unknown c (meaning_line job c.descriptors m (tokens c.token_list) (start_of c)) in o.answer ≡ done_at position loaded → AcceptedCall job c loaded m o
  unfolding table_line
  accepted_meaning (Table p) h =
      let l = line_appends (table_line job c.descriptors p (tokens c.token_list) (start_of c)) h in
      record { operation = encoded (instruction_at c.descriptors p).encoding (instruction_at c.descriptors p).opcode; means = refl; made = l.0; form_is = l.1; appended = l.2 }
  accepted_meaning (Builtin p) h =
      let l = line_appends (pseudo_line job p (tokens c.token_list) (start_of c)) h in
      record { operation = pseudo p; means = refl; made = l.0; form_is = l.1; appended = l.2 }
  accepted_meaning Neither h = let z : ◌≡◌ {A = ℕ} 0 1 = cc in absurd (omega arith)

module _ (job : Job) (c : Call) (position : ℕ) (loaded : LoadForm) where
  abbrev stop : Verdict
  stop = list_stop c.token_list c.mnemonic c.descriptors c.lent c.numbers.place.region c.numbers.counts

  by_lists : (v : Verdict) → stop ≡ v → (list_outcome job c v).answer ≡ done_at position loaded → AcceptedCall job c loaded (meaning c.descriptors (mnemonic_name c.mnemonic)) (list_outcome job c v)
  by_lists (Err r) e h = let z : ◌≡◌ {A = ℕ} 0 1 = cc in absurd (omega arith)
  by_lists (Ok tt) e h =
      accepted_meaning job c position loaded (lists_pass c.token_list c.mnemonic c.descriptors c.lent c.numbers.place.region c.numbers.counts e).filled.data_filled
      (meaning c.descriptors (mnemonic_name c.mnemonic)) h

  pub accepted_call : (emit_outcome job c).answer ≡ done_at position loaded → AcceptedCall job c loaded (meaning c.descriptors (mnemonic_name c.mnemonic)) (emit_outcome job c)
  unfolding emit_outcome
  accepted_call h = by_lists stop refl h
