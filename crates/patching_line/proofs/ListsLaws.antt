-- The layouts of a line's lists one after the other, and what they give where all are kept. Assumes nothing.
use Rattle.std.specs.Prelude.{ℕ, ◌<◌, false, List, [], ◌≡◌, refl, eqb, Ok}
use Rattle.std.proofs.Common.{◌∙◌}
use Rattle.refusal.specs.Verdicts.{and_then, layout_verdict, Verdict}
use Rattle.lexer.specs.Tokens.{token_layout}
use Rattle.descriptors.specs.Mnemonics.{mnemonic_layout}
use Rattle.descriptors.specs.Descriptors.{descriptor_layout}
use Rattle.regions.specs.Regions.{region_count}
use Rattle.pending.specs.Pendings.{pending_layout}
use Rattle.breakpoints.specs.Breakpoints.{filled_layout, breakpoint_buffer_layout}
use Rattle.emit_outcome.specs.Room.{no_region}
use Rattle.emit_checks.specs.LineLists.{line_lists_stop}
use Rattle.emit_checks.proofs.ListsLaws.{line_lists_then}
use Rattle.patching_outcome.specs.declared.PatchCounts.{PatchCounts}
use Rattle.patching_outcome.specs.Patching.{patching_of, has_patched, pendings_layout, filled_regions, filled_pendings}
use Rattle.patching_outcome.specs.Line.{listed_layout, line_layouts}
use Rattle.patching_outcome.proofs.LayoutLaws.{LineListsPass, line_lists, listed_below}
use Rattle.patching_line.specs.Contract.{given_of}
use Rattle.patching_line.specs.Lists.{listed_in, LayoutsAre, LineLists}

module _ (tokens mnemonic descriptors : List ℕ) (region : ℕ) (regions pending breakpoints : List ℕ) (counts : PatchCounts) where
  pub layouts_are : {t m d r p b : Verdict} → layout_verdict 0 (token_layout tokens) ≡ t → layout_verdict 1 (mnemonic_layout mnemonic) ≡ m
      → layout_verdict 2 (descriptor_layout descriptors) ≡ d → layout_verdict 3 (listed_in region counts.regions regions) ≡ r
      → layout_verdict 4 (filled_layout counts.pending pending (has_patched counts.patches (filled_pendings pending counts) (pending_layout (region_count (filled_regions regions counts)) (filled_pendings pending counts)))) ≡ p
      → layout_verdict 5 (breakpoint_buffer_layout counts.breakpoints breakpoints) ≡ b
      → LayoutsAre tokens mnemonic descriptors region regions pending breakpoints counts (and_then t (and_then m (and_then d (and_then r (and_then p b)))))
  unfolding line_layouts listed_layout pendings_layout
  layouts_are ht hm hd hr hp hb position kept = rw (ht, hm, hd, hr, hp, hb)

  -- the same, by the verdict on the lists that a line only reads
  pub stops_are : {v r p b : Verdict} → line_lists_stop tokens mnemonic descriptors ≡ v → layout_verdict 3 (listed_in region counts.regions regions) ≡ r
      → layout_verdict 4 (filled_layout counts.pending pending (has_patched counts.patches (filled_pendings pending counts) (pending_layout (region_count (filled_regions regions counts)) (filled_pendings pending counts)))) ≡ p
      → layout_verdict 5 (breakpoint_buffer_layout counts.breakpoints breakpoints) ≡ b
      → LayoutsAre tokens mnemonic descriptors region regions pending breakpoints counts (and_then v (and_then r (and_then p b)))
  stops_are hv hr hp hb position kept = layouts_are refl refl refl hr hp hb position kept ∙ line_lists_then tokens mnemonic descriptors hv _

  module _ (pass : LayoutsAre tokens mnemonic descriptors region regions pending breakpoints counts (Ok tt)) where
    all_pass : LineListsPass (given_of tokens mnemonic descriptors 0 region) (patching_of regions pending breakpoints [] counts)
    all_pass = line_lists (given_of tokens mnemonic descriptors 0 region) (patching_of regions pending breakpoints [] counts) (pass 0 [])

    pub lists_pass : LineLists regions pending counts
    lists_pass =
        let r = all_pass.regions_listed in
        let p = all_pass.pendings_good in
        record { regions_short = r.within.0; regions_within = r.within.1; regions_good = r.good; pending_within = p.within.1; pending_good = p.good; patched = p.patched }

    pub region_below : eqb region no_region ≡ false → region < region_count (filled_regions regions counts)
    region_below n = listed_below (filled_regions regions counts) region all_pass.regions_listed.listed n
