-- A whole call that lays out a page: its answer and every byte of the page buffer (document 02, P3). Assumes nothing.
use Rattle.std.specs.Prelude.{ℕ, List, true, false, leb, length, Err, None, Ok, Option, Result, Some}
use Rattle.record.specs.Stores.{append}
use Rattle.refusal.specs.Verdicts.{and_then, layout_verdict, name_verdict, Verdict}
use Rattle.refusal.specs.declared.Refusal.TheVariants.{NoPageSpace}
use Rattle.labels.specs.Labels.{label_layout, label_repeat}
use Rattle.regions.specs.Regions.{region_layout}
use Rattle.page_outcome.specs.Page.{page_of}
use Rattle.refusal.specs.declared.Refusal.{Refusal}

-- ---- the checks in order; of the page buffer only the length matters

-- "the page buffer, alone allowed up to 1,195,959 bytes"
abbrev pub page_limit : ℕ
page_limit = 1195959

unfoldable pub page_layout : (size : ℕ) → Option ℕ
page_layout size = elim (leb size page_limit) [ true ↦ None | false ↦ Some page_limit ]

-- refusal 1: labels are buffer 0, regions 1 and the page 2
unfoldable pub layout_verdicts : (labels regions : List ℕ) (size : ℕ) → Verdict
unfolding label_layout region_layout page_layout
layout_verdicts labels regions size =
    and_then (layout_verdict 0 (label_layout labels)) (and_then (layout_verdict 1 (region_layout regions)) (layout_verdict 2 (page_layout size)))

-- "18, the page buffer ... is too short"
abbrev pub room_verdict : (text : List ℕ) (size : ℕ) → Verdict
room_verdict text size = elim (leb (length text) size) [ true ↦ Ok tt | false ↦ Err NoPageSpace ]

-- "Checks go by rising number": 1, 2, 18
unfoldable pub page_verdict : (labels regions : List ℕ) (size : ℕ) → Verdict
unfolding layout_verdicts page_of
page_verdict labels regions size =
    and_then (layout_verdicts labels regions size) (and_then (name_verdict 0 (label_repeat labels)) (room_verdict (page_of labels regions) size))

-- ---- what the call leaves

pub record PageOutcome : Type 0 where
  pub answer : Result ℕ Refusal
  pub page : List ℕ

-- a refusal leaves every byte; a page leaves the bytes after it
abbrev pub outcome_by : Verdict → (text page : List ℕ) → PageOutcome
outcome_by (Ok tt) text page = record { answer = Ok (length text); page = append page 0 text }
outcome_by (Err refusal) text page = record { answer = Err refusal; page = page }

unfoldable pub page_outcome : (labels regions page : List ℕ) → PageOutcome
unfolding page_verdict page_of append
page_outcome labels regions page = outcome_by (page_verdict labels regions (length page)) (page_of labels regions) page
