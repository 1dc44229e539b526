-- A lookup of labels through an ordered index (document 02, P13). Assumes nothing.
use Rattle.std.specs.Prelude.{ℕ, ◌≤◌, List, ◌≡◌, true, false, length, get_or, ltb, None, Some, Err, Result, MatchResult}
use Rattle.names.specs.Owners.{for_all}
use Rattle.name_index.specs.Index.{IndexOf, lookup_from, lookup, told}
use Rattle.name_index.specs.Ordered.{Ordered}
use Rattle.name_index.specs.declared.Looked.{Looked}
use Rattle.name_index.specs.Told.{Told}
use Rattle.refusal.specs.Verdicts.{name_verdict}
use Rattle.refusal.specs.declared.Refusal.{Refusal}
use Rattle.labels.specs.Labels.{label_layout, label_repeat}

-- the most labels in a list: 65,536 bytes hold no more records of nine bytes
abbrev pub most_labels : ℕ
most_labels = 7281

-- a list of labels that passes its checks, and an index of it
pub record Indexed (s index : List ℕ) : Type 0 where
  pub layout : label_layout s ≡ None
  pub distinct : label_repeat s ≡ None
  pub ordered : IndexOf 4 s index
  pub few : length index ≤ most_labels

-- the table of a list that keeps its layout, or refusal 2: "Two .. labels share a name"
abbrev pub TableOf : (labels : List ℕ) → Result Ordered Refusal → Type 0
TableOf labels made = MatchResult made (λ table. (table.list ≡ labels) × Indexed table.list table.order) (λ refusal. name_verdict 0 (label_repeat labels) ≡ Err refusal)

-- a second lookup where the first finds nothing
abbrev pub or_looked : Looked → Looked → Looked
or_looked own other = elim own.named [ Some p ↦ own | None ↦ other ]

-- The name's label for all, when it has none for the source, after c comparisons of names. The search for the source's label ended before the
-- labels of the name with a greater owner, and 0xFFFFFFFF is the greatest: if no other owner has the name, the label for all stands there. If that
-- record has another owner, its name is not compared.
abbrev pub or_searched : Told → (place end : ℕ) → (ℕ → Looked) → Looked
or_searched t place end other = elim t.same [ true ↦ record { named = Some place; compared = t.compared; end = end } | false ↦ other t.compared ]

unfoldable pub looked_for_all : (s index : List ℕ) (end : ℕ) (name : List ℕ) (c : ℕ) → Looked
unfolding lookup_from
looked_for_all s index end name c =
    elim (ltb end (length index)) [
      | true ↦ or_searched (told 4 s for_all name (get_or index end 0) c) (get_or index end 0) end (lookup_from 4 s index for_all name)
      | false ↦ lookup_from 4 s index for_all name c
    ]

-- "A name resolves first to the label whose owner equals the source in the name's location, then to the one for all"; "returning its count of
-- name comparisons": the second lookup counts on from the first
unfoldable pub looked_up : (s index : List ℕ) (source : ℕ) (name : List ℕ) → Looked
unfolding lookup looked_for_all
looked_up s index source name = let own = lookup 4 s index source name in or_looked own (looked_for_all s index own.end name own.compared)
