-- Making an index from scratch: "A second entry makes one afresh from pending and labels, read as in emit calls" (document 02, P1). Assumes nothing.
use Rattle.std.specs.Prelude.{ℕ, List, true, false, length, take, leb, Err, None, Ok, Result}
use Rattle.record.specs.Records.{within_limit}
use Rattle.record.specs.Stores.{append}
use Rattle.refusal.specs.Numbers.{zero_location}
use Rattle.refusal.specs.Verdicts.{and_then, layout_verdict, name_verdict, Verdict}
use Rattle.refusal.specs.declared.Refusal.TheVariants.{NoIndexSpace}
use Rattle.labels.specs.Labels.{label_layout, label_repeat}
use Rattle.breakpoints.specs.Breakpoints.{pending_buffer_layout}
use Rattle.label_uses.specs.UseBytes.{index_of}
use Rattle.refusal.specs.declared.Refusal.{Refusal}

pub record MakeOutcome : Type 0 where
  pub answer : Result ℕ Refusal
  pub index : List ℕ

-- "17, the index buffer is too short": the location is zero, as in every call without a mnemonic
abbrev pub room_for : (new index : List ℕ) → Verdict
room_for new index = elim (leb (length new) (length index)) [ true ↦ Ok tt | false ↦ Err (NoIndexSpace zero_location) ]

-- refusal 1: "the least a"
unfoldable pub make_layouts : (fill : ℕ) (pending labels index : List ℕ) → Verdict
unfolding pending_buffer_layout label_layout within_limit
make_layouts fill pending labels index =
    and_then (layout_verdict 0 (pending_buffer_layout fill pending)) (and_then (layout_verdict 1 (label_layout labels)) (layout_verdict 2 (within_limit index None)))

-- refusals 1, 2 and 17
unfoldable pub make_stop : (fill : ℕ) (pending labels index : List ℕ) → Verdict
unfolding make_layouts index_of
make_stop fill pending labels index =
    and_then (make_layouts fill pending labels index) (and_then (name_verdict 1 (label_repeat labels)) (room_for (index_of labels (take fill pending)) index))

abbrev pub make_by : Verdict → (new index : List ℕ) → MakeOutcome
make_by (Err r) new index = record { answer = Err r; index = index }
make_by (Ok tt) new index = record { answer = Ok (length new); index = append index 0 new }

unfoldable pub make_outcome : (fill : ℕ) (pending labels index : List ℕ) → MakeOutcome
unfolding make_stop index_of append
make_outcome fill pending labels index = make_by (make_stop fill pending labels index) (index_of labels (take fill pending)) index

-- the record, as the contract writes it
abbrev pub made_of : Result ℕ Refusal → (index : List ℕ) → MakeOutcome
made_of answer index = record { answer = answer; index = index }
