-- What a lookup of a label answers (document 02, P13): refusals 1 and 2 for the list, else the address or none, and how many names were compared.
-- Assumes nothing.
use Rattle.std.specs.Prelude.{ℕ, ◌≤◌, List, ◌≡◌, Err, None, Ok, Result}
use Rattle.record.specs.Records.{within_limit}
use Rattle.refusal.specs.Verdicts.{and_then, layout_verdict, name_verdict, Verdict}
use Rattle.labels.specs.Labels.{label_layout, label_repeat, resolve}
use Rattle.labels.specs.Lookup.{looked_up}
use Rattle.labels.specs.declared.Found.{Found}
use Rattle.label_finder.specs.Ordered.{ordered_index}
use Rattle.refusal.specs.declared.Refusal.{Refusal}

-- refusal 1: the labels are buffer 0, the name is buffer 1; "A lent buffer is at most 65,536 bytes" holds for the name too
unfoldable pub layout_verdicts : (labels name : List ℕ) → Verdict
unfolding label_layout within_limit
layout_verdicts labels name = and_then (layout_verdict 0 (label_layout labels)) (layout_verdict 1 (within_limit name None))

-- "the straight scan" gives the address; the search in the one ordered index gives "its count of name comparisons"
abbrev pub found_in : (labels name : List ℕ) (source : ℕ) → Found
found_in labels name source = record { address = resolve labels source name; compared = (looked_up labels (ordered_index labels) source name).compared }

abbrev pub answer_by : Verdict → Found → Result Found Refusal
answer_by (Ok tt) found = Ok found
answer_by (Err refusal) found = Err refusal

unfoldable pub find_label : (labels name : List ℕ) (source : ℕ) → Result Found Refusal
unfolding layout_verdicts resolve looked_up
find_label labels name source = answer_by (and_then (layout_verdicts labels name) (name_verdict 0 (label_repeat labels))) (found_in labels name source)

-- "at most 32"
abbrev pub Few : Result Found Refusal → Type 0
Few (Ok found) = found.compared ≤ 32
Few (Err refusal) = Unit

pub record FindIs (labels name : List ℕ) (source : ℕ) (answer : Result Found Refusal) : Type 0 where
  pub answer_is : answer ≡ find_label labels name source
  pub few : Few answer
