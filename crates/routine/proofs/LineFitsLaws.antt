-- Lemmas on an accepted call: the room it has, and what its bytes leave in each buffer. Assumes nothing.
use Rattle.std.specs.Prelude.{ℕ, ◌+◌, ◌*◌, ◌^◌, ◌<◌, ◌≤◌, ◌≡◌, refl, List, [], ◌∷◌, ◌++◌, Bool, true, false, length, take, eqb, Err, None, Ok}
use Rattle.std.proofs.Common.{arith, sym, ap, subst, ◌∙◌}
use Rattle.jobs.specs.declared.Job.{Job}
use Rattle.record.specs.Records.{places, first_bad, limit}
use Rattle.record.specs.Stores.{LocationFits, append, filled_with}
use Rattle.record.specs.declared.Location.{Location}
use Rattle.refusal.proofs.VerdictsLaws.{both_pass}
use Rattle.refusal.specs.declared.Refusal.TheVariants.{MissingRegion}
use Rattle.descriptors.specs.Mnemonics.{mnemonic_location}
use Rattle.pending.specs.Pendings.{pending_ok, pending_layout}
use Rattle.pending.proofs.PendingsLaws.{pending_good}
use Rattle.breakpoints.specs.Breakpoints.{breakpoint_ok, region_number_ok, data_buffer_layout, pending_buffer_layout, breakpoint_buffer_layout}
use Rattle.breakpoints.specs.BreakpointBytes.{pcs_from}
use Rattle.breakpoints.proofs.BreakpointBytesLaws.{breakpoint_length}
use Rattle.breakpoints.proofs.BreakpointsLaws.{data_good, pending_buffer_good, breakpoint_buffer_good}
use Rattle.emit_pairs.specs.declared.InstructionPair.{InstructionPair}
use Rattle.emit_bytes.specs.Appended.{word_bytes, pendings_len}
use Rattle.emit_bytes.proofs.AppendedLaws.{words_length, pendings_length}
use Rattle.emit_checks.specs.Made.{RoomFor}
use Rattle.emit_checks.proofs.RoomLaws.{room_fits, line_room}
use Rattle.emit_outcome.specs.Call.{Call}
use Rattle.emit_outcome.specs.Room.{no_region, region_stop, room_stop, new_pending, new_breakpoint}
use Rattle.emit_outcome.specs.declared.FillCounts.{FillCounts}
use Rattle.finished_words.specs.Listed.{Bytes}
use Rattle.routine.specs.PatchValues.{patches_in, patches_from}
use Rattle.routine.specs.BreakpointValues.{breakpoints_in}
use Rattle.routine.specs.CallValues.{call_pairs, call_origin, call_patches, call_breakpoint}
use Rattle.routine.proofs.TokenLaws.{location_fits}
use Rattle.routine.proofs.BehindLaws.{OriginFits, Behind, pendings_behind, BreakpointBehind, breakpoint_of, breakpoint_follows}
use Rattle.routine.proofs.AcceptedLaws.{AcceptedCall}
use Rattle.routine.proofs.FilledLaws.{still_short, filled_within, filled_is, data_passes, pending_passes, breakpoints_pass, build_passes, selected_below}
use Rattle.refusal.specs.Verdicts.{Verdict}

-- If the check passes, a region is selected.
some_region : (line : Location) (b : Bool) → ◌≡◌ {A = Verdict} (elim b [ true ↦ Err (MissingRegion line) | false ↦ Ok tt ]) (Ok tt) → b ≡ false
some_region line true e = cc
some_region line false e = refl

module _ (job : Job) (c : Call) (a : AcceptedCall job c) (mnemonic : Bytes c.mnemonic) where
  abbrev counts : FillCounts
  counts = c.numbers.counts

  abbrev line : Location
  line = mnemonic_location c.mnemonic

  abbrev pairs : List InstructionPair
  pairs = a.made.pairs

  room_passes : room_stop c.token_list line c.numbers c.lent pairs ≡ Ok tt
  room_passes = line_room c.token_list line c.numbers c.lent a.made a.line.passes

  room : RoomFor c.numbers c.lent (length pairs) (pendings_len c.token_list pairs)
  room = room_fits c.token_list line c.numbers c.lent pairs refl refl room_passes

  location_within : LocationFits line
  location_within = location_fits c.mnemonic mnemonic 4

  -- ---- the region's data
  data_before : (region_number_ok c.numbers.place.region ≡ true) × (length c.lent.region_data ≤ limit) × (counts.data_len ≤ length c.lent.region_data)
  data_before = data_good counts.data_len c.lent.region_data c.numbers.place.region a.lists.data_good

  pub region_selected : c.numbers.place.region < 16
  unfolding room_stop
  region_selected =
      let region = c.numbers.place.region in
      selected_below region data_before.0 (some_region line (eqb region no_region) (both_pass (region_stop line region) _ room_passes).0)

  data_count : counts.data_len + 4 * length pairs ≡ counts.data_len + length (word_bytes pairs)
  data_count = omega (arith, words_length pairs)

  data_room : counts.data_len + length (word_bytes pairs) ≤ length c.lent.region_data
  data_room = omega (arith, room.data_fits, data_count)

  pub data_after : (region : ℕ) → region_number_ok region ≡ true → data_buffer_layout region (counts.data_len + 4 * length pairs) (append c.lent.region_data counts.data_len (word_bytes pairs)) ≡ None
  data_after region e =
      let d = c.lent.region_data in
      let bs = word_bytes pairs in
      data_passes (counts.data_len + 4 * length pairs) (append d counts.data_len bs) (still_short d counts.data_len bs data_room data_before.1)
      (omega (arith, data_count, filled_within d counts.data_len bs data_room)) region e

  pub words_after : take (counts.data_len + 4 * length pairs) (append c.lent.region_data counts.data_len (word_bytes pairs)) ≡ take counts.data_len c.lent.region_data ++ word_bytes (call_pairs job c)
  words_after =
      ap (λ (n : ℕ). take n (append c.lent.region_data counts.data_len (word_bytes pairs))) data_count
      ∙ filled_is c.lent.region_data counts.data_len (word_bytes pairs) data_room
      ∙ ap (λ (ps : List InstructionPair). take counts.data_len c.lent.region_data ++ word_bytes ps) a.pairs_are

  pub data_count_after : counts.data_len + 4 * length pairs ≡ counts.data_len + 4 * length (call_pairs job c)
  data_count_after = ap (λ (ps : List InstructionPair). counts.data_len + 4 * length ps) a.pairs_are

  -- ---- the pending list
  abbrev waits : List ℕ
  waits = new_pending c.token_list line c.numbers pairs

  abbrev pendings : List ℕ
  pendings = take counts.pending c.lent.pending

  pending_before : (length c.lent.pending ≤ limit) × (counts.pending ≤ length c.lent.pending) × (first_bad (pending_ok 16 pendings) (places pendings) ≡ None)
  pending_before = pending_buffer_good counts.pending c.lent.pending a.lists.pending_good

  pending_room : counts.pending + length waits ≤ length c.lent.pending
  pending_room = omega (arith, room.pending_fits, pendings_length c.token_list (call_origin c) pairs)

  behind : (regions : ℕ) → c.numbers.place.region < regions → first_bad (pending_ok regions pendings) (places pendings) ≡ None
      → Behind regions pendings (filled_with c.lent.pending counts.pending waits) (patches_from c.token_list (call_origin c) 0 pairs)
  behind regions h kept =
      subst (λ (new : List ℕ). Behind regions pendings new (patches_from c.token_list (call_origin c) 0 pairs)) (sym (filled_is c.lent.pending counts.pending waits pending_room))
      (pendings_behind regions c.token_list pendings (call_origin c) pairs kept
      (record { region_ok = h; region_fits = omega (arith, region_selected); location_fits = location_within })
      (omega (arith, room.data_fits, data_before.1)) a.words.fit)

  -- The filled part, and the new records behind it.
  pub pending_is : filled_with c.lent.pending counts.pending waits ≡ take counts.pending c.lent.pending ++ waits
  pending_is = filled_is c.lent.pending counts.pending waits pending_room

  pub pending_kept : first_bad (pending_ok 16 (take counts.pending c.lent.pending)) (places (take counts.pending c.lent.pending)) ≡ None
  pending_kept = pending_before.2

  pub origin_fits : OriginFits 16 (call_origin c)
  origin_fits = record { region_ok = region_selected; region_fits = omega (arith, region_selected); location_fits = location_within }

  pub offsets_fit : counts.data_len + 4 * length pairs ≤ 2 ^ 32
  offsets_fit = omega (arith, room.data_fits, data_before.1)

  pub pending_after : pending_buffer_layout (counts.pending + length waits) (append c.lent.pending counts.pending waits) ≡ None
  pending_after =
      pending_passes (counts.pending + length waits) (append c.lent.pending counts.pending waits)
      (still_short c.lent.pending counts.pending waits pending_room pending_before.0) (filled_within c.lent.pending counts.pending waits pending_room)
      (behind 16 region_selected pending_before.2).keeps

  pub patches_after : patches_in (filled_with c.lent.pending counts.pending waits) ≡ patches_in pendings ++ call_patches job c
  patches_after =
      (behind 16 region_selected pending_before.2).patches_are
      ∙ ap (λ (ps : List InstructionPair). patches_in pendings ++ patches_from c.token_list (call_origin c) 0 ps) a.pairs_are

  pub build_after : (regions : ℕ) → c.numbers.place.region < regions → pending_layout regions pendings ≡ None
      → pending_layout regions (filled_with c.lent.pending counts.pending waits) ≡ None
  build_after regions h g =
      build_passes (counts.pending + length waits) (append c.lent.pending counts.pending waits)
      (still_short c.lent.pending counts.pending waits pending_room pending_before.0) (filled_within c.lent.pending counts.pending waits pending_room)
      regions (behind regions h (pending_good regions pendings g).1).keeps

  -- ---- the breakpoint list
  abbrev pcs : List ℕ
  pcs = new_breakpoint line c.numbers pairs

  abbrev breakpoints : List ℕ
  breakpoints = take counts.breakpoints c.lent.breakpoints

  abbrev first_pc_lem : ℕ
  first_pc_lem = c.numbers.place.address + counts.data_len

  breakpoints_before : (length c.lent.breakpoints ≤ limit) × (counts.breakpoints ≤ length c.lent.breakpoints) × (first_bad (breakpoint_ok breakpoints) (places breakpoints) ≡ None)
  breakpoints_before = breakpoint_buffer_good counts.breakpoints c.lent.breakpoints a.lists.breakpoints_good

  breakpoints_room : counts.breakpoints + length pcs ≤ length c.lent.breakpoints
  breakpoints_room = omega (arith, room.breakpoint_fits, breakpoint_length line first_pc_lem (length pairs))

  follows : BreakpointBehind breakpoints (filled_with c.lent.breakpoints counts.breakpoints pcs) (breakpoint_of line (pcs_from (length pairs) first_pc_lem))
  follows =
      subst (λ (new : List ℕ). BreakpointBehind breakpoints new (breakpoint_of line (pcs_from (length pairs) first_pc_lem))) (sym (filled_is c.lent.breakpoints counts.breakpoints pcs breakpoints_room))
      (breakpoint_follows breakpoints line first_pc_lem (length pairs) breakpoints_before.2
      (record { location_fits = location_within; least = a.words.at_least; most = a.words.at_most; pcs_fit = room.last_pc a.words.at_least }))

  pub breakpoints_after : breakpoint_buffer_layout (counts.breakpoints + length pcs) (append c.lent.breakpoints counts.breakpoints pcs) ≡ None
  breakpoints_after =
      breakpoints_pass (counts.breakpoints + length pcs) (append c.lent.breakpoints counts.breakpoints pcs)
      (still_short c.lent.breakpoints counts.breakpoints pcs breakpoints_room breakpoints_before.0) (filled_within c.lent.breakpoints counts.breakpoints pcs breakpoints_room)
      follows.keeps

  pub breakpoints_read : breakpoints_in (filled_with c.lent.breakpoints counts.breakpoints pcs) ≡ breakpoints_in breakpoints ++ call_breakpoint job c ∷ []
  breakpoints_read =
      follows.breakpoints_are ∙ ap (λ (ps : List InstructionPair). breakpoints_in breakpoints ++ breakpoint_of line (pcs_from (length ps) first_pc_lem) ∷ []) a.pairs_are
