-- What an accepted line leaves is taken by the next call and by a build, and reads as what was there and then the line's own
-- (document 01: "the filled parts of the last two are checked as lists"). Assumes nothing.
use Rattle.std.specs.Prelude.{ℕ, ◌+◌, ◌*◌, ◌<◌, ◌≡◌, [], ◌∷◌, ◌++◌, true, length, None}
use Rattle.std.proofs.Common.{sym, subst}
use Rattle.jobs.specs.declared.Job.{Job}
use Rattle.pending.specs.Pendings.{pending_layout}
use Rattle.breakpoints.specs.Breakpoints.{region_number_ok, data_buffer_layout, pending_buffer_layout, breakpoint_buffer_layout}
use Rattle.emit_bytes.specs.Appended.{word_bytes}
use Rattle.loading.specs.declared.LoadForm.{LoadForm}
use Rattle.emit_outcome.specs.Call.{filled_data, filled_pending, filled_breakpoints, Call, EmitOutcome}
use Rattle.emit_outcome.specs.Emit.{emit_outcome}
use Rattle.emit_outcome.specs.Answer.{done_at}
use Rattle.finished_words.specs.Listed.{Bytes}
use Rattle.routine.specs.PatchValues.{patches_in}
use Rattle.routine.specs.BreakpointValues.{breakpoints_in}
use Rattle.routine.specs.CallValues.{call_pairs, call_patches, call_breakpoint}
use Rattle.routine.proofs.AcceptedLaws.{AcceptedCall, accept_line, accepted}
use Rattle.routine.proofs.LineFitsLaws.{data_after, words_after, data_count_after, region_selected, pending_after, patches_after, build_after, breakpoints_after, breakpoints_read}

pub record LineFits (job : Job) (c : Call) (o : EmitOutcome) : Type 0 where
  -- the next call's checks of the three buffers pass
  pub data_good : (region : ℕ) → region_number_ok region ≡ true → data_buffer_layout region o.counts.data_len o.lent.region_data ≡ None
  pub pending_good : pending_buffer_layout o.counts.pending o.lent.pending ≡ None
  pub breakpoints_good : breakpoint_buffer_layout o.counts.breakpoints o.lent.breakpoints ≡ None
  -- "in an emit call a pending needs 0 to 15"
  pub region_below : c.numbers.place.region < 16
  -- A build of enough regions that takes the earlier pendings takes these too.
  pub build_takes : (regions : ℕ) → c.numbers.place.region < regions → pending_layout regions (filled_pending c.lent c.numbers.counts) ≡ None
      → pending_layout regions (filled_pending o.lent o.counts) ≡ None
  -- the data grows by the line's words
  pub data_grown : o.counts.data_len ≡ c.numbers.counts.data_len + 4 * length (call_pairs job c)
  -- Reading gives what was there before, and then the line's own.
  pub words_are : filled_data o.lent o.counts ≡ filled_data c.lent c.numbers.counts ++ word_bytes (call_pairs job c)
  pub patches_are : patches_in (filled_pending o.lent o.counts) ≡ patches_in (filled_pending c.lent c.numbers.counts) ++ call_patches job c
  pub breakpoints_are : breakpoints_in (filled_breakpoints o.lent o.counts) ≡ breakpoints_in (filled_breakpoints c.lent c.numbers.counts) ++ call_breakpoint job c ∷ []

accept_fits : (job : Job) (c : Call) (a : AcceptedCall job c) → Bytes c.mnemonic → LineFits job c (accept_line c a.made)
accept_fits job c a mnemonic = record {
  data_good = data_after job c a mnemonic;
  pending_good = pending_after job c a mnemonic;
  breakpoints_good = breakpoints_after job c a mnemonic;
  region_below = region_selected job c a mnemonic;
  build_takes = build_after job c a mnemonic;
  data_grown = data_count_after job c a mnemonic;
  words_are = words_after job c a mnemonic;
  patches_are = patches_after job c a mnemonic;
  breakpoints_are = breakpoints_read job c a mnemonic;
}

pub line_fits : (job : Job) (c : Call) (position : ℕ) (loaded : LoadForm) → Bytes c.token_list → Bytes c.mnemonic → (emit_outcome job c).answer ≡ done_at position loaded → LineFits job c (emit_outcome job c)
line_fits job c position loaded tokens mnemonic e =
    let a = accepted job c position loaded tokens e in
    subst (LineFits job c) (sym a.outcome_is) (accept_fits job c a mnemonic)
