-- Laws of an emit call: how its lists and its mnemonic decide the outcome. Assumes nothing.
use Rattle.std.specs.Prelude.{ℕ, ◌+◌, ◌≤◌, ◌≡◌, refl, List, length, Bool, true, false, Err, None, Ok, Option, Result, Some}
use Rattle.std.proofs.Common.{arith, sym, subst, ◌∙◌}
use Rattle.std.proofs.Math.Path.{ap}
use Rattle.jobs.specs.declared.Job.{Job}
use Rattle.record.specs.declared.Location.{Location}
use Rattle.refusal.specs.declared.Refusal.{Refusal}
use Rattle.refusal.specs.declared.Refusal.TheVariants.{UnknownInstruction}
use Rattle.descriptors.specs.declared.Instruction.{Instruction}
use Rattle.lexer.specs.declared.Token.{Token}
use Rattle.lexer.specs.Tokens.{token_ok, token_layout, tokens}
use Rattle.record.specs.Records.{places, first_bad}
use Rattle.record.proofs.RecordsLaws.{limit_good}
use Rattle.cursor.specs.declared.Cursor.{Cursor}
use Rattle.cursor.specs.Reads.{Placed, CursorIn}
use Rattle.cursor.proofs.CursorsLaws.{place_least, place_end}
use Rattle.descriptors.specs.Mnemonics.{mnemonic_location}
use Rattle.descriptors.specs.Descriptors.{descriptor_layout, find_descriptor, instruction_at}
use Rattle.descriptors.proofs.DescriptorsLaws.{descriptor_found}
use Rattle.pseudo_names.specs.PseudoNames.{pseudo_of}
use Rattle.emit_pairs.specs.declared.emit_instruction.EmitInstruction.{EmitInstruction}
use Rattle.emit_dispatch.specs.declared.Unmade.{Unmade}
use Rattle.emit_dispatch.specs.declared.Unmade.TheVariants.{Missed as MissedOperand, OutOfRange as OutsideRange}
use Rattle.emit_dispatch.specs.LineAnswers.{unmade_answer}
use Rattle.emit_dispatch.specs.Lines.{Line, encoding_line}
use Rattle.emit_dispatch.specs.Contract.{MadeAs, LineAs}
use Rattle.emit_outcome.specs.declared.Meaning.TheVariants.{Table}
use Rattle.emit_outcome.specs.Dispatch.{meaning, or_neither, or_pseudo, table_line}
use Rattle.loading.specs.declared.LoadForm.{LoadForm}
use Rattle.emit_outcome.specs.Answer.{EmitAnswer, done_at}
use Rattle.emit_outcome.specs.declared.FillCounts.{FillCounts}
use Rattle.emit_outcome.specs.declared.LineNumbers.{LineNumbers}
use Rattle.emit_outcome.specs.Call.{Lent, Call, EmitOutcome, outcome_of}
use Rattle.emit_outcome.specs.Returned.{returned}
use Rattle.emit_outcome.specs.Contract.{EmittedBy}
use Rattle.emit_outcome.specs.Checks.{list_stop}
use Rattle.emit_outcome.specs.Emit.{call_made, call_line, call_refused, line_outcome, line_or_unknown, list_outcome, emit_outcome}
use Rattle.emit_checks.specs.Made.{words_line, answer_line, made_line}
use Rattle.emit_checks.specs.declared.LineRead.{LineRead}
use Rattle.emit_core.specs.Read.{LineMade, LineFor, ReadIs}
use Rattle.pseudo_names.specs.declared.Pseudo.{Pseudo}
use Rattle.refusal.specs.Verdicts.{Verdict}

-- What a name means: first the descriptor table decides, then the pseudo-instructions.
module _ (descriptors name : List ℕ) where
  pub by_table : {found : Option ℕ} → find_descriptor descriptors name ≡ found → meaning descriptors name ≡ or_pseudo found name
  unfolding meaning
  by_table e = ap (λ (n : Option ℕ). or_pseudo n name) e

  pub by_pseudo : {p : Option Pseudo} → find_descriptor descriptors name ≡ None → pseudo_of name ≡ p → meaning descriptors name ≡ or_neither p
  by_pseudo e f = by_table e ∙ ap or_neither f

  -- A descriptor that was found lies in the table as a whole.
  pub table_fits : (p : ℕ) → descriptor_layout descriptors ≡ None → meaning descriptors name ≡ Table p → p + 12 ≤ length descriptors
  table_fits p g e = go (find_descriptor descriptors name) refl
    where
      go : (n : Option ℕ) → find_descriptor descriptors name ≡ n → p + 12 ≤ length descriptors
      go (Some q) f =
          let k : q ≡ p = cc (by_table f) in
          let d = descriptor_found descriptors name q g f in
          omega (arith, k, d.body, d.least)
      go None f = none (pseudo_of name) refl
        where
          none : (m : Option Pseudo) → pseudo_of name ≡ m → p + 12 ≤ length descriptors
          none (Some x) h = let z : ◌≡◌ {A = ℕ} 0 1 = cc (by_pseudo f h) in absurd (omega arith)
          none None h = let z : ◌≡◌ {A = ℕ} 0 1 = cc (by_pseudo f h) in absurd (omega arith)

-- the line of a descriptor that was read
pub table_as : (job : Job) (descriptors : List ℕ) (p : ℕ) {x : Instruction} (ts : List Token) (i : ℕ) {before after : CursorIn} {answer : Result EmitInstruction Unmade}
    → x ≡ instruction_at descriptors p → LineAs before (encoding_line job x.encoding x.opcode ts i) answer after → LineAs before (table_line job descriptors p ts i) answer after
unfolding table_line
table_as job descriptors p ts i {before} {after} {answer} e a =
    subst (λ (y : Instruction). LineAs before (encoding_line job y.encoding y.opcode ts i) answer after) e a

-- ---- a line that was read

-- The line is the one that was made of what was read.
pub line_made : {before after : CursorIn} {line : Line} (read : LineRead) → LineAs before line read.answer after → read.position ≡ after.index → LineMade line read
line_made read a e = (a.made_as, sym (e ∙ ap (λ (c : CursorIn). c.index) a.after_is))

-- an index fits 32 bits
pub index_most : (s : List ℕ) (c : Cursor) → Placed s c → c.index ≤ 65536
unfolding token_layout
index_most s c p =
    let n = length (tokens s) in
    omega (arith, p.index_within, place_least s p.layout_good n (omega arith), place_end s n (omega arith), (limit_good s (first_bad (token_ok s) (places s)) p.layout_good).0)

-- The outcome is the line's. If the line is not made, its words do not matter.
module _ (token_list : List ℕ) (at : Location) (numbers : LineNumbers) (lent : Lent) where
  abbrev outcome : Line → EmitOutcome
  outcome = line_outcome token_list at numbers lent

  unmade_outcome : (line : Line) (unmade : Unmade) (index : ℕ) → line.answer ≡ unmade_answer unmade → line.index ≡ index
      → line_outcome token_list at numbers lent line ≡ line_outcome token_list at numbers lent (answer_line (Err unmade) index)
  unfolding line_outcome
  unmade_outcome line (MissedOperand miss) index e i = rw (e, i) refl
  unmade_outcome line (OutsideRange fault) index e i = rw (e, i) refl

  pub made_outcome : (line : Line) (answer : Result EmitInstruction Unmade) (index : ℕ) → MadeAs line answer → line.index ≡ index
      → line_outcome token_list at numbers lent line ≡ line_outcome token_list at numbers lent (answer_line answer index)
  made_outcome line (Ok e) index m i =
      let s : line ≡ words_line e index = rw (m.0, sym m.1.pairs_are, sym m.1.form_is, i) refl in
      ap outcome s
  made_outcome line (Err unmade) index m i = unmade_outcome line unmade index m i

  -- an accepted line has the words that were made of it
  pub made_pairs : (line : Line) (answer : Result EmitInstruction Unmade) (index : ℕ) {position : ℕ} {loaded : LoadForm} → MadeAs line answer
      → (line_outcome token_list at numbers lent (answer_line answer index)).answer ≡ done_at position loaded → line.pairs ≡ (answer_line answer index).pairs
  unfolding line_outcome
  made_pairs line (Ok e) index m d = sym m.1.pairs_are
  made_pairs line (Err (MissedOperand miss)) index m d = let z : ◌≡◌ {A = ℕ} 0 1 = cc in absurd (omega arith)
  made_pairs line (Err (OutsideRange fault)) index m d = let z : ◌≡◌ {A = ℕ} 0 1 = cc in absurd (omega arith)

-- ---- outcomes

module _ (job : Job) (c : Call) where
  abbrev stop : Verdict
  stop = list_stop c.token_list c.mnemonic c.descriptors c.lent c.numbers.place.region c.numbers.counts

  pub by_lists : {r : Refusal} → stop ≡ Err r → emit_outcome job c ≡ call_refused c r
  unfolding emit_outcome
  by_lists e = ap (list_outcome job c) e

  pub by_line : {o : Option Line} → stop ≡ Ok tt → call_made job c ≡ o → emit_outcome job c ≡ line_or_unknown c o
  unfolding emit_outcome
  by_line e f = ap (list_outcome job c) e ∙ ap (line_or_unknown c) f

  -- The call's outcome, from the line that was read.
  abbrev pub read_outcome : (known : Bool) → LineRead → EmitOutcome
  read_outcome true read = line_outcome c.token_list read.line c.numbers c.lent (made_line read)
  read_outcome false read = call_refused c (UnknownInstruction read.line)

  module _ (known : Bool) (read : LineRead) (is : ReadIs job c.token_list c.mnemonic c.descriptors c.numbers.place.position known read) (pass : stop ≡ Ok tt) where
    located : (l : Line) → LineMade l read → call_line c l ≡ line_outcome c.token_list read.line c.numbers c.lent (made_line read)
    located l e = made_outcome c.token_list (mnemonic_location c.mnemonic) c.numbers c.lent l read.answer read.position e.0 e.1 ∙ ap (λ (x : Location). line_outcome c.token_list x c.numbers c.lent (made_line read)) (sym is.location_is)

    by_read : (o : Option Line) → call_made job c ≡ o → LineFor o known read → emit_outcome job c ≡ read_outcome known read
    by_read (Some line) e l = by_line pass e ∙ located line l.1 ∙ sym (ap (λ (k : Bool). read_outcome k read) l.0)
    by_read None e l =
        by_line pass e ∙ ap (λ (x : Location). call_refused c (UnknownInstruction x)) (sym is.location_is) ∙ sym (ap (λ (k : Bool). read_outcome k read) l)

    pub read_outcome_lem : emit_outcome job c ≡ read_outcome known read
    read_outcome_lem = by_read (call_made job c) refl is.line_is

  pub unread_outcome : (r : Refusal) → stop ≡ Ok tt → (call_made job c ≡ None) × (r ≡ UnknownInstruction (mnemonic_location c.mnemonic)) → emit_outcome job c ≡ call_refused c r
  unread_outcome r pass m = by_line pass m.0 ∙ sym (ap (call_refused c) m.1)

-- If the outcome is the call's, everything that a call promises holds.
pub emitted : {job : Job} {call : Call} {answer : EmitAnswer} {counts : FillCounts} {lent : Lent} → emit_outcome job call ≡ outcome_of answer counts lent → EmittedBy job call answer counts lent
emitted e = record { outcome_is = e; returned_is = ap (λ (o : EmitOutcome). returned o.answer) (sym e) }
