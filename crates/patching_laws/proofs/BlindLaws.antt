-- An emit call does not see its region's data: calls that differ only in data bytes get the same answer and append the same
-- (document 02, P12). Also: an accepted call, taken apart. Assumes nothing.
use Rattle.std.specs.Prelude.{ℕ, ◌+◌, ◌-◌, ◌*◌, ◌≤◌, ◌<◌, List, true, false, ◌&&◌, ◌≡◌, refl, take, Err, None, Ok, Option, Some}
use Rattle.std.proofs.Common.{arith, sym, subst, ◌∙◌}
use Rattle.std.proofs.Math.Path.{ap}
use Rattle.std.proofs.Math.ListN.{length}
use Rattle.std.proofs.Math.Dec.{leb}
use Rattle.jobs.specs.declared.Job.{Job}
use Rattle.record.specs.Bytes.{part}
use Rattle.record.specs.Records.{limit, within_limit}
use Rattle.record.specs.Stores.{append}
use Rattle.record.specs.declared.Location.{Location}
use Rattle.refusal.specs.Verdicts.{and_then, layout_verdict, name_verdict, Verdict}
use Rattle.lexer.specs.Tokens.{token_layout, tokens}
use Rattle.descriptors.specs.Mnemonics.{mnemonic_layout, mnemonic_location}
use Rattle.descriptors.specs.Descriptors.{descriptor_layout, descriptor_repeat}
use Rattle.breakpoints.specs.Breakpoints.{region_number_ok, filled_layout, data_buffer_layout, pending_buffer_layout, breakpoint_buffer_layout}
use Rattle.breakpoints.proofs.BreakpointsLaws.{data_good}
use Rattle.emit_dispatch.specs.LineAnswers.{LineAnswer, Made, Missed, OutOfRange}
use Rattle.emit_dispatch.specs.Lines.{Line}
use Rattle.emit_pairs.specs.declared.InstructionPair.{InstructionPair}
use Rattle.emit_bytes.specs.Appended.{word_bytes}
use Rattle.emit_bytes.proofs.AppendedLaws.{words_length, pendings_length}
use Rattle.emit_bytes.specs.Appended.{pendings_len}
use Rattle.emit_checks.specs.Made.{RoomFor}
use Rattle.emit_checks.proofs.RoomLaws.{room_fits, line_room}
use Rattle.emit_outcome.specs.Call.{Call, EmitOutcome}
use Rattle.emit_outcome.specs.Checks.{layout_stop, list_stop}
use Rattle.emit_outcome.specs.Room.{region_stop, edge_stop, space_stop, most_data, new_pending, new_breakpoint, room_stop}
use Rattle.emit_outcome.specs.Emit.{answer_stop, line_stop, accept_or, line_outcome, call_made, call_line, line_or_unknown, list_outcome, emit_outcome}
use Rattle.emit_outcome.specs.Answer.{done_at}
use Rattle.finished_words.specs.Listed.{Bytes}
use Rattle.loading.specs.declared.LoadForm.{LoadForm}
use Rattle.routine.proofs.AcceptedLaws.{AcceptedCall, call_stop, accept_line, accepted}
use Rattle.routine.specs.CallValues.{call_pairs, call_origin}
use Rattle.routine.proofs.FilledLaws.{filled_is}
use Rattle.routine.proofs.LineFitsLaws.{region_selected}
use Rattle.routine.proofs.BehindLaws.{OriginFits}
use Rattle.routine.proofs.WordLaws.{PairsFit}
use Rattle.routine.proofs.TokenLaws.{location_fits}
use Rattle.patching_outcome.specs.Line.{new_words}
use Rattle.record_growth.proofs.PutLaws.{part_in}
use Rattle.patching_laws.proofs.MoreLaws.{Keeps, More, pairs_more}

-- the call with other data in its region
abbrev pub with_data : Call → List ℕ → Call
with_data c d = record {
  token_list = c.token_list;
  mnemonic = c.mnemonic;
  descriptors = c.descriptors;
  lent = record { region_data = d; pending = c.lent.pending; breakpoints = c.lent.breakpoints };
  numbers = c.numbers;
}

data_same : (region fill : ℕ) (d e : List ℕ) → length d ≡ length e → data_buffer_layout region fill d ≡ data_buffer_layout region fill e
unfolding data_buffer_layout filled_layout within_limit
data_same region fill d e l =
    ap (λ (n : ℕ). elim (region_number_ok region) [ true ↦ elim (leb n limit) [ true ↦ elim (leb fill n) [ true ↦ None | false ↦ Some n ] | false ↦ Some limit ] | false ↦ Some 0 ]) l

module _ (c : Call) (d : List ℕ) (same : length d ≡ length c.lent.region_data) where
  stop_same : call_stop (with_data c d) ≡ call_stop c
  unfolding list_stop layout_stop
  stop_same =
      ap (λ (l : Option ℕ).
      and_then
      (and_then (layout_verdict 0 (token_layout c.token_list))
      (and_then (layout_verdict 1 (mnemonic_layout c.mnemonic))
      (and_then (layout_verdict 2 (descriptor_layout c.descriptors))
      (and_then (layout_verdict 3 l)
      (and_then (layout_verdict 4 (pending_buffer_layout c.numbers.counts.pending c.lent.pending))
      (layout_verdict 5 (breakpoint_buffer_layout c.numbers.counts.breakpoints c.lent.breakpoints)))))))
      (name_verdict 2 (descriptor_repeat c.descriptors)))
      (data_same c.numbers.place.region c.numbers.counts.data_len d c.lent.region_data same)

  abbrev line : Location
  line = mnemonic_location c.mnemonic

  room_same : (pairs : List InstructionPair) → room_stop c.token_list line c.numbers (with_data c d).lent pairs ≡ room_stop c.token_list line c.numbers c.lent pairs
  unfolding room_stop
  room_same pairs =
      let numbers = c.numbers in
      let counts = numbers.counts in
      let filled = counts.data_len + 4 * length pairs in
      ap (λ (n : ℕ).
      and_then (region_stop line numbers.place.region)
      (and_then (edge_stop line numbers.place.address (length pairs) counts.data_len)
      (and_then (space_stop line 0 (leb filled n && leb filled most_data))
      (and_then (space_stop line 1 (leb (counts.pending + length (new_pending c.token_list line numbers pairs)) (length c.lent.pending)))
      (space_stop line 2 (leb (counts.breakpoints + length (new_breakpoint line numbers pairs)) (length c.lent.breakpoints))))))) same

  answer_stop_lem : (pairs : List InstructionPair) (a : LineAnswer)
      → answer_stop c.token_list line c.numbers (with_data c d).lent pairs a ≡ answer_stop c.token_list line c.numbers c.lent pairs a
  answer_stop_lem pairs Made = room_same pairs
  answer_stop_lem pairs (Missed m) = refl
  answer_stop_lem pairs (OutOfRange fault) = refl

  by_verdict : (made : Line) (v : Verdict) → (accept_or c.token_list line c.numbers (with_data c d).lent made v).answer ≡ (accept_or c.token_list line c.numbers c.lent made v).answer
  by_verdict made (Ok tt) = refl
  by_verdict made (Err r) = refl

  line_answer : (made : Line) → (call_line (with_data c d) made).answer ≡ (call_line c made).answer
  unfolding line_outcome
  line_answer made =
      ap (λ (v : Verdict). (accept_or c.token_list line c.numbers (with_data c d).lent made v).answer) (answer_stop_lem made.pairs made.answer)
      ∙ by_verdict made (line_stop c.token_list line c.numbers c.lent made)

  module _ (job : Job) where
    by_line : (o : Option Line) → (line_or_unknown (with_data c d) o).answer ≡ (line_or_unknown c o).answer
    by_line (Some made) = line_answer made
    by_line None = refl

    by_list : (v : Verdict) → (list_outcome job (with_data c d) v).answer ≡ (list_outcome job c v).answer
    by_list (Ok tt) = by_line (call_made job c)
    by_list (Err r) = refl

    -- the law
    pub emit_blind : (emit_outcome job (with_data c d)).answer ≡ (emit_outcome job c).answer
    unfolding emit_outcome
    emit_blind = ap (λ (v : Verdict). (list_outcome job (with_data c d) v).answer) stop_same ∙ by_list (call_stop c)

    pub pairs_blind : call_pairs job (with_data c d) ≡ call_pairs job c
    unfolding call_pairs
    pairs_blind = refl

-- ---- an accepted call, taken apart
module _ (job : Job) (c : Call) where
  abbrev pub waits_of : List ℕ
  waits_of = new_pending c.token_list (mnemonic_location c.mnemonic) c.numbers (call_pairs job c)

  abbrev pub pcs_of : List ℕ
  pcs_of = new_breakpoint (mnemonic_location c.mnemonic) c.numbers (call_pairs job c)

  pub record CallDone (o : EmitOutcome) : Type 0 where
    pub count_is : o.counts.data_len ≡ c.numbers.counts.data_len + 4 * length (call_pairs job c)
    pub words_are : new_words c.numbers.counts.data_len o ≡ word_bytes (call_pairs job c)
    pub pending_is : o.lent.pending ≡ append c.lent.pending c.numbers.counts.pending waits_of
    pub pending_count : o.counts.pending ≡ c.numbers.counts.pending + length waits_of
    pub breakpoints_are : o.lent.breakpoints ≡ append c.lent.breakpoints c.numbers.counts.breakpoints pcs_of
    pub breakpoints_count : o.counts.breakpoints ≡ c.numbers.counts.breakpoints + length pcs_of
    pub data_room : c.numbers.counts.data_len + 4 * length (call_pairs job c) ≤ length c.lent.region_data
    pub pending_room : c.numbers.counts.pending + length waits_of ≤ length c.lent.pending
    pub more : (regions : ℕ) → c.numbers.place.region < regions → Keeps regions (take c.numbers.counts.pending c.lent.pending)
        → More regions (take c.numbers.counts.pending c.lent.pending) (take (c.numbers.counts.pending + length waits_of) (append c.lent.pending c.numbers.counts.pending waits_of)) c.numbers.place.region

  module _ (a : AcceptedCall job c) (mnemonic : Bytes c.mnemonic) where
    abbrev size : ℕ
    size = c.numbers.counts.data_len

    abbrev line_of : Location
    line_of = mnemonic_location c.mnemonic

    room_of : RoomFor c.numbers c.lent (length (call_pairs job c)) (pendings_len c.token_list (call_pairs job c))
    room_of =
        subst (λ (ps : List InstructionPair). RoomFor c.numbers c.lent (length ps) (pendings_len c.token_list ps)) a.pairs_are
        (room_fits c.token_list line_of c.numbers c.lent a.made.pairs refl refl (line_room c.token_list line_of c.numbers c.lent a.made a.line.passes))

    fits_of : PairsFit c.token_list (call_pairs job c)
    fits_of = subst (PairsFit c.token_list) a.pairs_are a.words.fit

    words_room : size + length (word_bytes (call_pairs job c)) ≤ length c.lent.region_data
    words_room = omega (arith, room_of.data_fits, words_length (call_pairs job c))

    waits_room : c.numbers.counts.pending + length waits_of ≤ length c.lent.pending
    waits_room = omega (arith, room_of.pending_fits, pendings_length c.token_list (call_origin c) (call_pairs job c))

    outcome_with : emit_outcome job c ≡ accept_line c (record { answer = a.made.answer; index = a.made.index; form = a.made.form; pairs = call_pairs job c })
    outcome_with = a.outcome_is ∙ ap (λ (ps : List InstructionPair). accept_line c (record { answer = a.made.answer; index = a.made.index; form = a.made.form; pairs = ps })) a.pairs_are

    more_of : (regions : ℕ) → c.numbers.place.region < regions → Keeps regions (take c.numbers.counts.pending c.lent.pending)
        → More regions (take c.numbers.counts.pending c.lent.pending) (take (c.numbers.counts.pending + length waits_of) (append c.lent.pending c.numbers.counts.pending waits_of)) c.numbers.place.region
    more_of regions h kept =
        let below = region_selected job c a mnemonic in
        let g = data_good size c.lent.region_data c.numbers.place.region a.lists.data_good in
        let old = take c.numbers.counts.pending c.lent.pending in
        let fits : OriginFits regions (call_origin c) = record { region_ok = h; region_fits = omega (arith, below); location_fits = location_fits c.mnemonic mnemonic 4 } in
        subst (λ (new : List ℕ). More regions old new c.numbers.place.region) (sym (filled_is c.lent.pending c.numbers.counts.pending waits_of waits_room))
        (pairs_more regions c.token_list old (call_origin c) (call_pairs job c) kept fits (omega (arith, room_of.data_fits, g.1)) fits_of)

    accept_done : CallDone (accept_line c (record { answer = a.made.answer; index = a.made.index; form = a.made.form; pairs = call_pairs job c }))
    accept_done =
        let bytes = word_bytes (call_pairs job c) in
        let n : size + 4 * length (call_pairs job c) - size ≡ length bytes = omega (arith, words_length (call_pairs job c)) in
        record {
          count_is = refl;
          words_are = ap (part (append c.lent.region_data size bytes) size) n ∙ part_in c.lent.region_data size bytes words_room;
          pending_is = refl;
          pending_count = refl;
          breakpoints_are = refl;
          breakpoints_count = refl;
          data_room = room_of.data_fits;
          pending_room = waits_room;
          more = more_of;
        }

    done_of : CallDone (emit_outcome job c)
    done_of = subst CallDone (sym outcome_with) accept_done

  pub call_done : (position : ℕ) (loaded : LoadForm) → Bytes c.token_list → Bytes c.mnemonic → (emit_outcome job c).answer ≡ done_at position loaded → CallDone (emit_outcome job c)
  call_done position loaded tokens mnemonic e = done_of (accepted job c position loaded tokens e) mnemonic
