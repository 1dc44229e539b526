-- A whole emit call with an index of label uses (document 02, P1). Assumes nothing.
use Rattle.std.specs.Prelude.{ℕ, List, true, false, length, leb, Err, Ok}
use Rattle.jobs.specs.declared.Job.{Job}
use Rattle.record.specs.Stores.{append}
use Rattle.refusal.specs.Verdicts.{and_then, layout_verdict, name_verdict, Verdict}
use Rattle.refusal.specs.declared.Refusal.TheVariants.{NoIndexSpace}
use Rattle.refusal.specs.declared.Refusal.{Refusal}
use Rattle.labels.specs.Labels.{label_layout, label_repeat}
use Rattle.descriptors.specs.Descriptors.{descriptor_repeat}
use Rattle.descriptors.specs.Mnemonics.{mnemonic_location}
use Rattle.emit_outcome.specs.Checks.{layout_stop}
use Rattle.emit_outcome.specs.Call.{Call, Lent, filled_pending, EmitOutcome}
use Rattle.emit_outcome.specs.Emit.{emit_outcome}
use Rattle.emit_outcome.specs.Answer.{EmitAnswer, refused_at}
use Rattle.indexed_outcome.specs.declared.IndexedCounts.{IndexedCounts}
use Rattle.label_uses.specs.UseBytes.{index_of, index_layout}

-- "Labels and index are the emit call's last two buffers, the index with a fourth fill count"
pub record IndexedCall : Type 0 where
  pub call : Call
  pub labels : List ℕ
  pub index : List ℕ
  pub fill : ℕ

pub record IndexedOutcome : Type 0 where
  pub answer : EmitAnswer
  pub counts : IndexedCounts
  pub lent : Lent
  pub index : List ℕ

-- refusals 1 and 2: "in refusal 2 the least a goes first"
unfoldable pub indexed_stop : IndexedCall → Verdict
unfolding layout_stop label_layout index_layout
indexed_stop x =
    let c = x.call in
    and_then (layout_stop c.token_list c.mnemonic c.descriptors c.lent c.numbers.place.region c.numbers.counts)
    (and_then (layout_verdict 6 (label_layout x.labels))
    (and_then (layout_verdict 7 (index_layout x.labels (filled_pending c.lent c.numbers.counts) x.fill x.index))
    (and_then (name_verdict 2 (descriptor_repeat c.descriptors))
    (name_verdict 6 (label_repeat x.labels)))))

-- a refusal: counts and lent bytes are as at entry
abbrev pub indexed_refuse : IndexedCall → Refusal → (position : ℕ) → IndexedOutcome
indexed_refuse x r position = record {
  answer = refused_at r position;
  counts = record { counts = x.call.numbers.counts; index = x.fill };
  lent = x.call.lent;
  index = x.index;
}

-- "17, the index buffer is too short, looked at straight after 12": it has the mnemonic's location and the position that a 12 would have;
-- "the outcome equals an index made afresh from the whole list and the call's labels"
abbrev pub indexed_accept : IndexedCall → EmitOutcome → (new : List ℕ) → EmitAnswer → (position : ℕ) → IndexedOutcome
indexed_accept x o new answer position =
    elim (leb (length new) (length x.index)) [
      | true ↦ record { answer = answer; counts = record { counts = o.counts; index = length new }; lent = o.lent; index = append x.index 0 new }
      | false ↦ indexed_refuse x (NoIndexSpace (mnemonic_location x.call.mnemonic)) position
    ]

abbrev pub indexed_by : IndexedCall → EmitOutcome → EmitAnswer → IndexedOutcome
indexed_by x o (Ok done) = indexed_accept x o (index_of x.labels (filled_pending o.lent o.counts)) (Ok done) done.position
indexed_by x o (Err refused) = indexed_refuse x refused.refusal refused.position

abbrev pub indexed_unless : Job → IndexedCall → Verdict → IndexedOutcome
indexed_unless job x (Err r) = indexed_refuse x r x.call.numbers.place.position
indexed_unless job x (Ok tt) = let o = emit_outcome job x.call in indexed_by x o o.answer

unfoldable pub indexed_outcome : Job → IndexedCall → IndexedOutcome
unfolding indexed_stop emit_outcome index_of append
indexed_outcome job x = indexed_unless job x (indexed_stop x)

-- ---- the two records, as the contracts write them
abbrev pub indexed_call_of : Call → (labels index : List ℕ) → (fill : ℕ) → IndexedCall
indexed_call_of call labels index fill = record { call = call; labels = labels; index = index; fill = fill }

abbrev pub indexed_outcome_of : EmitAnswer → IndexedCounts → Lent → (index : List ℕ) → IndexedOutcome
indexed_outcome_of answer counts lent index = record { answer = answer; counts = counts; lent = lent; index = index }
