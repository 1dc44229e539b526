-- What each step of an emit call with an index is given, and what it leaves. Assumes nothing.
use Rattle.std.specs.Prelude.{Ok, Err, Result, ℕ, List, true, false, ◌≡◌, length, leb, None}
use Rattle.record.specs.Records.{places, first_bad}
use Rattle.record.specs.Stores.{append}
use Rattle.record.specs.declared.Location.{Location}
use Rattle.refusal.specs.declared.Refusal.TheVariants.{NoIndexSpace}
use Rattle.refusal.specs.declared.Refusal.{Refusal}
use Rattle.labels.specs.Labels.{label_layout}
use Rattle.pending.specs.Pendings.{pending_ok}
use Rattle.emit_pairs.specs.declared.InstructionPair.{InstructionPair}
use Rattle.emit_pairs.specs.declared.emit_instruction.EmitInstruction.{EmitInstruction}
use Rattle.emit_outcome.specs.declared.RefusedLine.{RefusedLine}
use Rattle.emit_outcome.specs.Call.{Lent, EmitOutcome, outcome_of, filled_pending}
use Rattle.emit_outcome.specs.Emit.{accept}
use Rattle.emit_outcome.specs.Answer.{EmitAnswer, refused_at}
use Rattle.emit_outcome.specs.declared.LineNumbers.{LineNumbers}
use Rattle.emit_pairs.specs.Pairs.{pairs_of}
use Rattle.emit_checks.specs.Made.{words_line, Filled}
use Rattle.label_uses.specs.Uses.{uses_of}
use Rattle.label_uses.specs.UseBytes.{uses_bytes, index_layout}
use Rattle.line_uses.specs.LineUses.{line_uses}
use Rattle.indexed_outcome.specs.Indexed.{IndexedOutcome, indexed_outcome_of}
use Rattle.indexed_outcome.specs.declared.IndexedCounts.{IndexedCounts}
use Rattle.indexed_outcome.specs.declared.IndexedAppended.{IndexedAppended}
use Rattle.indexed_outcome.specs.declared.IndexedEmitted.{IndexedEmitted}

-- the new index: the uses of the filled pending list, then the uses of the line's words
abbrev pub new_index : (labels token_list old : List ℕ) → List InstructionPair → List ℕ
new_index labels token_list old pairs = uses_bytes (line_uses labels token_list (length (places old)) pairs (uses_of labels old))

-- lists that have passed refusal 1
pub record Ready (token_list labels index : List ℕ) (lent : Lent) (numbers : LineNumbers) (fill : ℕ) : Type 0 where
  pub lists_filled : Filled token_list lent numbers.counts
  pub pending_kept : first_bad (pending_ok 16 (filled_pending lent numbers.counts)) (places (filled_pending lent numbers.counts)) ≡ None
  pub labels_good : label_layout labels ≡ None
  pub index_good : index_layout labels (filled_pending lent numbers.counts) fill index ≡ None

-- ---- what the call leaves

abbrev pub kept_outcome : LineNumbers → Lent → (fill : ℕ) (index : List ℕ) → Refusal → (position : ℕ) → IndexedOutcome
kept_outcome numbers lent fill index r position = indexed_outcome_of (refused_at r position) (record { counts = numbers.counts; index = fill }) lent index

-- the outcome of a line whose mnemonic is at `line`: refusal 17 if the index buffer is too short for the new index
abbrev pub room_outcome : Location → LineNumbers → Lent → (fill : ℕ) (index new : List ℕ) → EmitOutcome → EmitAnswer → (position : ℕ) → IndexedOutcome
room_outcome line numbers lent fill index new o answer position =
    elim (leb (length new) (length index)) [
      | true ↦ indexed_outcome_of answer (record { counts = o.counts; index = length new }) o.lent (append index 0 new)
      | false ↦ kept_outcome numbers lent fill index (NoIndexSpace line) position
    ]

abbrev pub with_index : Location → LineNumbers → Lent → (fill : ℕ) (index new : List ℕ) → EmitOutcome → EmitAnswer → IndexedOutcome
with_index line numbers lent fill index new o (Ok done) = room_outcome line numbers lent fill index new o (Ok done) done.position
with_index line numbers lent fill index new o (Err refused) = kept_outcome numbers lent fill index refused.refusal refused.position

-- a line and its uses are written
pub record Wrote (token_list labels index index' : List ℕ) (line : Location) (numbers : LineNumbers) (lent lent' : Lent) (words : EmitInstruction) (position : ℕ) (answer : EmitAnswer) (counts : IndexedCounts) : Type 0 where
  pub line_is : accept token_list line numbers lent (words_line words position) ≡ outcome_of answer counts.counts lent'
  pub index_is : index' ≡ append index 0 (new_index labels token_list (filled_pending lent numbers.counts) (pairs_of words))
  pub fill_is : counts.index ≡ length (new_index labels token_list (filled_pending lent numbers.counts) (pairs_of words))

-- the call's answer and counts, and below also what else it leaves; a refusal leaves the counts as they were
abbrev pub indexed_emitted_by : IndexedCounts → Result IndexedAppended RefusedLine → IndexedEmitted
indexed_emitted_by counts (Ok appended) = record { answer = Ok appended.done; counts = appended.counts }
indexed_emitted_by counts (Err refused) = record { answer = Err refused; counts = counts }

abbrev pub indexed_left_by : IndexedCounts → Result IndexedAppended RefusedLine → Lent → (index : List ℕ) → IndexedOutcome
indexed_left_by counts given lent index = let e = indexed_emitted_by counts given in indexed_outcome_of e.answer e.counts lent index
