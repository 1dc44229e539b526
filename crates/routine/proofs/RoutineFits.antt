-- Lines and a build fit together: what a routine of accepted lines leaves, begun on empty buffers, is taken by a next line and by a build
-- (document 01: "1. A record breaks the layout"; "2. Two descriptors .. share a name"). Assumes nothing.
use Rattle.std.specs.Prelude.{ℕ, ◌<◌, ◌≡◌, List, ◌++◌, true, None, Ok}
use Rattle.std.proofs.Common.{ap, ◌∙◌}
use Rattle.lexer.specs.Tokens.{token_layout}
use Rattle.descriptors.specs.Mnemonics.{mnemonic_layout}
use Rattle.descriptors.specs.Descriptors.{descriptor_layout, descriptor_repeat}
use Rattle.pending.specs.Pendings.{pending_layout}
use Rattle.breakpoints.specs.Breakpoints.{region_number_ok}
use Rattle.emit_outcome.specs.Checks.{list_stop}
use Rattle.emit_checks.proofs.ListsLaws.{layouts_are, lists_are}
use Rattle.routine.specs.PatchValues.{Patch, patches_in}
use Rattle.routine.specs.BreakpointValues.{Breakpoint, breakpoints_in}
use Rattle.routine.specs.Run.{filled, Buffers, RoutineLine, call_on, run, AllAccepted, Each, OfBytes, AllEmpty, routine_words, routine_patches, routine_breakpoints, Inside}
use Rattle.routine.proofs.RoutineLaws.{Sound, empty_filled, empty_sound, empty_taken, no_patches, no_breakpoints, run_fits}
use Rattle.refusal.specs.Verdicts.{Verdict}

-- checks 1 and 2 of a line on these buffers
abbrev pub lists_of : RoutineLine → Buffers → Verdict
lists_of l b =
    let c = call_on l b in
    list_stop c.token_list c.mnemonic c.descriptors c.lent c.numbers.place.region c.numbers.counts

-- A good line: its own lists and its region number pass these checks.
pub record GoodLine (l : RoutineLine) : Type 0 where
  pub tokens_good : token_layout l.token_list ≡ None
  pub mnemonic_good : mnemonic_layout l.mnemonic ≡ None
  pub descriptors_good : descriptor_layout l.descriptors ≡ None
  pub names_apart : descriptor_repeat l.descriptors ≡ None
  pub region_ok : region_number_ok l.place.region ≡ true

pub record RoutineFits (lines : List RoutineLine) (start : Buffers) : Type 0 where
  -- What the lines wrote never gets a next line refused with 1 or 2.
  pub next_passes : (l : RoutineLine) → GoodLine l → lists_of l (run lines start) ≡ Ok tt
  -- A build takes the filled pendings if it has every region that the lines selected; 16 regions are always enough.
  pub build_takes : (regions : ℕ) → Each (λ l. l.place.region < regions) lines → pending_layout regions (filled (run lines start).pending) ≡ None
  pub sixteen_take : pending_layout 16 (filled (run lines start).pending) ≡ None
  -- none of the patches "ends past its region's data"
  pub patches_inside : Each (Inside (run lines start)) (routine_patches lines start)
  -- The filled parts hold, in order, the words of the lines that selected the region, and all lines' patches and breakpoints.
  pub words_are : (region : ℕ) → filled ((run lines start).region_data region) ≡ routine_words region lines start
  pub patches_are : patches_in (filled (run lines start).pending) ≡ routine_patches lines start
  pub breakpoints_are : breakpoints_in (filled (run lines start).breakpoints) ≡ routine_breakpoints lines start

sound_passes : (l : RoutineLine) (b : Buffers) → GoodLine l → Sound b → lists_of l b ≡ Ok tt
sound_passes l b g s =
    let c = call_on l b in
    let region = l.place.region in
    lists_are l.token_list l.mnemonic l.descriptors c.lent region c.numbers.counts
    (layouts_are l.token_list l.mnemonic l.descriptors c.lent region c.numbers.counts
    g.tokens_good g.mnemonic_good g.descriptors_good (s.data_good region region g.region_ok) s.pending_good s.breakpoints_good)
    g.names_apart

pub routine_fits : (lines : List RoutineLine) (start : Buffers) → AllEmpty start → Each OfBytes lines → AllAccepted lines start → RoutineFits lines start
routine_fits lines start empty bytes accepted =
    let r = run_fits lines start bytes accepted (empty_sound start empty) in
    let e = empty.pending_empty in
    record {
      next_passes = λ l g. sound_passes l (run lines start) g r.sound;
      build_takes = λ regions h. r.taken regions h (empty_taken start.pending e regions);
      sixteen_take = r.taken 16 r.selected (empty_taken start.pending e 16);
      patches_inside = r.inside;
      words_are = λ region.
          r.words_are region ∙ ap (λ (bs : List ℕ). bs ++ routine_words region lines start) (empty_filled (start.region_data region) (empty.data_empty region));
      patches_are = r.patches_are ∙ ap (λ (ps : List Patch). ps ++ routine_patches lines start) (no_patches start.pending e);
      breakpoints_are =
          r.breakpoints_are ∙ ap (λ (bs : List Breakpoint). bs ++ routine_breakpoints lines start) (no_breakpoints start.breakpoints empty.breakpoints_empty);
    }
