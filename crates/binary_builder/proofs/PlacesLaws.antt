-- A layout names a place that is at most the limit. And the layouts of the four lists, one after the other. Assumes nothing.
use Rattle.std.specs.Prelude.{ℕ, ◌≤◌, List, ◌≡◌, Ok, Option, Some}
use Rattle.record.specs.Records.{places, first_bad_of, limit}
use Rattle.record.proofs.RecordsLaws.{of_place, limit_bad, first_limit}
use Rattle.refusal.specs.Verdicts.{and_then, layout_verdict}
use Rattle.refusal.proofs.VerdictsLaws.{both_pass, layout_pass}
use Rattle.labels.specs.Labels.{label_layout, table_of}
use Rattle.regions.specs.Regions.{region_layout, region_count}
use Rattle.address_label.specs.Entries.{entry_ok, entry_layout}
use Rattle.pending.specs.Pendings.{pending_ok, pending_layout}
use Rattle.build_outcome.specs.Build.{layout_verdicts}
use Rattle.binary_builder.specs.Layouts.{Layouts}

pub entry_place : (s : List ℕ) (p : ℕ) → entry_layout s ≡ Some p → p ≤ limit
unfolding entry_layout
entry_place s p e = limit_bad s (first_bad_of 1 (entry_ok s) (places s)) p e (of_place 1 (entry_ok s) s p)

pub pending_place : (count : ℕ) (s : List ℕ) (p : ℕ) → pending_layout count s ≡ Some p → p ≤ limit
unfolding pending_layout
pending_place count s p e = first_limit (pending_ok count s) s p e

-- ---- the layouts one after the other
module _ (labels entry regions pending : List ℕ) where
  pub layouts_are : (a b c d : Option ℕ) → label_layout labels ≡ a → entry_layout entry ≡ b → region_layout regions ≡ c → pending_layout (region_count regions) pending ≡ d
      → layout_verdicts (table_of labels) entry regions pending ≡ and_then (layout_verdict 0 a) (and_then (layout_verdict 1 b) (and_then (layout_verdict 2 c) (layout_verdict 3 d)))
  unfolding layout_verdicts
  layouts_are a b c d ha hb hc hd = rw (ha, hb, hc, hd)

  pub layouts_good : layout_verdicts (table_of labels) entry regions pending ≡ Ok tt → Layouts labels entry regions pending
  unfolding layout_verdicts
  layouts_good e =
      let l₁ = both_pass (layout_verdict 0 (label_layout labels)) _ e in
      let l₂ = both_pass (layout_verdict 1 (entry_layout entry)) _ l₁.1 in
      let l₃ = both_pass (layout_verdict 2 (region_layout regions)) _ l₂.1 in
      record {
        labels_good = layout_pass 0 (label_layout labels) l₁.0;
        entry_good = layout_pass 1 (entry_layout entry) l₂.0;
        regions_good = layout_pass 2 (region_layout regions) l₃.0;
        pending_good = layout_pass 3 (pending_layout (region_count regions) pending) l₃.1;
      }
