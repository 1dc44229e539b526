-- Laws of the steps: how the checks, the line and the room for the index decide the outcome. Assumes nothing.
use Rattle.std.specs.Prelude.{ℕ, ◌≤◌, ◌<◌, List, Bool, true, false, ◌≡◌, refl, length, leb, Err, Ok}
use Rattle.std.proofs.Common.{sym, ap, ap₂, ◌∙◌, le-leb}
use Rattle.std.proofs.lemmas.Bool.{lt-leb}
use Rattle.jobs.specs.declared.Job.{Job}
use Rattle.record.specs.Stores.{append}
use Rattle.record.specs.declared.Location.{Location}
use Rattle.refusal.specs.declared.Refusal.TheVariants.{NoIndexSpace}
use Rattle.refusal.specs.declared.Refusal.{Refusal}
use Rattle.descriptors.specs.Mnemonics.{mnemonic_location}
use Rattle.emit_pairs.specs.declared.emit_instruction.EmitInstruction.{EmitInstruction}
use Rattle.emit_outcome.specs.Call.{Call, Lent, EmitOutcome, filled_pending}
use Rattle.emit_outcome.specs.Emit.{refuse, accept, line_stop, line_outcome, call_refused, emit_outcome}
use Rattle.emit_outcome.specs.Answer.{EmitAnswer, done_at}
use Rattle.emit_outcome.specs.declared.LineNumbers.{LineNumbers}
use Rattle.emit_pairs.specs.Pairs.{pairs_of}
use Rattle.emit_checks.specs.Made.{words_line}
use Rattle.emit_made.proofs.MadeLaws.{line_passed}
use Rattle.loading.specs.declared.LoadForm.{LoadForm}
use Rattle.label_uses.specs.UseBytes.{index_of}
use Rattle.indexed_outcome.specs.Indexed.{IndexedCall, IndexedOutcome, indexed_stop, indexed_by, indexed_unless, indexed_outcome, indexed_outcome_of}
use Rattle.emit_outcome.specs.Returned.{returned}
use Rattle.indexed_outcome.specs.Contract.{IndexedBy}
use Rattle.indexed_outcome.proofs.BesideLaws.{indexed_is, passes_is}
use Rattle.indexed_outcome.specs.declared.IndexedCounts.{IndexedCounts}
use Rattle.indexed_core.specs.Steps.{new_index, kept_outcome, room_outcome, with_index, Wrote}

-- ---- a line that was made

-- A line that is refused leaves the index as it is, whatever the new one would be.
pub with_stopped : (line : Location) (numbers : LineNumbers) (lent : Lent) (fill : ℕ) (index new : List ℕ) (o : EmitOutcome) (r : Refusal) (position : ℕ) → o ≡ refuse numbers.counts lent position r
    → with_index line numbers lent fill index new o o.answer ≡ kept_outcome numbers lent fill index r position
with_stopped line numbers lent fill index new o r position e = ap (λ (y : EmitOutcome). with_index line numbers lent fill index new y y.answer) e

module _ (token_list labels index : List ℕ) (line : Location) (numbers : LineNumbers) (lent : Lent) (fill : ℕ) (words : EmitInstruction) (position : ℕ) where
  abbrev o : EmitOutcome
  o = line_outcome token_list line numbers lent (words_line words position)

  abbrev new : List ℕ
  new = new_index labels token_list (filled_pending lent numbers.counts) (pairs_of words)

  abbrev outcome : EmitOutcome → IndexedOutcome
  outcome y = with_index line numbers lent fill index new y y.answer

  module _ (pass : line_stop token_list line numbers lent (words_line words position) ≡ Ok tt) where
    by_room : (b : Bool) → leb (length new) (length index) ≡ b
        → outcome o ≡ elim b [ true ↦ indexed_outcome_of (done_at position words.loaded) (record { counts = (accept token_list line numbers lent (words_line words position)).counts; index = length new }) (accept token_list line numbers lent (words_line words position)).lent (append index 0 new) | false ↦ kept_outcome numbers lent fill index (NoIndexSpace line) position ]
    by_room b e = ap outcome (line_passed token_list line numbers lent (words_line words position) pass) ∙ rw (e, room_outcome)

    pub with_short : length index < length new
        → with_index line numbers lent fill index (new_index labels token_list (filled_pending lent numbers.counts) (pairs_of words)) (line_outcome token_list line numbers lent (words_line words position)) (line_outcome token_list line numbers lent (words_line words position)).answer
        ≡ kept_outcome numbers lent fill index (NoIndexSpace line) position
    with_short h = by_room false (lt-leb (length new) (length index) h)

    pub with_room : (index' : List ℕ) (lent' : Lent) (answer : EmitAnswer) (counts : IndexedCounts) → length new ≤ length index → Wrote token_list labels index index' line numbers lent lent' words position answer counts
        → with_index line numbers lent fill index (new_index labels token_list (filled_pending lent numbers.counts) (pairs_of words)) (line_outcome token_list line numbers lent (words_line words position)) (line_outcome token_list line numbers lent (words_line words position)).answer
        ≡ indexed_outcome_of answer counts lent' index'
    with_room index' lent' answer counts h w =
        by_room true (le-leb (length new) (length index) h)
        ∙ ap₂ (λ (y : EmitOutcome) (n : ℕ). indexed_outcome_of y.answer (record { counts = y.counts; index = n }) y.lent (append index 0 new)) w.line_is (sym w.fill_is)
        ∙ ap (indexed_outcome_of answer counts lent') (sym w.index_is)

-- ---- the call
module _ (job : Job) (x : IndexedCall) where
  abbrev c : Call
  c = x.call

  pub call_stopped : (r : Refusal) → indexed_stop x ≡ Err r → indexed_outcome job x ≡ kept_outcome c.numbers c.lent x.fill x.index r c.numbers.place.position
  call_stopped r e = indexed_is job x ∙ ap (indexed_unless job x) e

  module _ (pass : indexed_stop x ≡ Ok tt) where
    pub call_unknown : (r : Refusal) → emit_outcome job c ≡ call_refused c r → indexed_outcome job x ≡ kept_outcome c.numbers c.lent x.fill x.index r c.numbers.place.position
    call_unknown r e = passes_is job x pass ∙ ap (λ (y : EmitOutcome). indexed_by x y y.answer) e

    -- The call's outcome is the line's. Its new index is the one with the line's uses.
    pub call_line : (line : Location) (y : EmitOutcome) (new : List ℕ) → line ≡ mnemonic_location c.mnemonic → emit_outcome job c ≡ y
        → ((position : ℕ) (loaded : LoadForm) → y.answer ≡ done_at position loaded → index_of x.labels (filled_pending y.lent y.counts) ≡ new)
        → indexed_outcome job x ≡ with_index line c.numbers c.lent x.fill x.index new y y.answer
    call_line line y new l e n = passes_is job x pass ∙ ap (λ (z : EmitOutcome). indexed_by x z z.answer) e ∙ go y.answer refl
      where
        go : (a : EmitAnswer) → y.answer ≡ a → indexed_by x y a ≡ with_index line c.numbers c.lent x.fill x.index new y a
        go (Err refused) f = refl
        go (Ok done) f =
            ap₂ (λ (m : Location) (z : List ℕ). room_outcome m c.numbers c.lent x.fill x.index z y (Ok done) done.position) (sym l) (n done.position done.loaded f)

-- If the outcome is the call's, everything that a call promises holds.
pub indexed_by_lem : {job : Job} {x : IndexedCall} {answer : EmitAnswer} {counts : IndexedCounts} {lent : Lent} {index : List ℕ} → indexed_outcome job x ≡ indexed_outcome_of answer counts lent index → IndexedBy job x answer counts lent index
indexed_by_lem e = record { outcome_is = e; returned_is = ap (λ (o : IndexedOutcome). returned o.answer) (sym e) }
