-- What a late line answers: 29, at the position behind its operands, if it would be accepted or get 11 or 12; any other refusal stays.
-- Nothing changes (document 02, P12). Assumes nothing.
use Rattle.std.specs.Prelude.{ℕ, zero, suc, ◌+◌, ◌*◌, ◌-◌, ◌^◌, Bool, ◌&&◌, length, leb, eqb, Err, None, Ok, Option, Some}
use Rattle.std.proofs.Common.{arith, subst, ◌∙◌}
use mathlib.Core.List.{List, []}
use Rattle.std.proofs.Math.Bool.{true, false}
use Rattle.std.proofs.Math.Path.{◌≡◌, refl, sym, ap}
use Rattle.jobs.specs.declared.Job.{Job}
use Rattle.record.specs.declared.Location.{Location}
use Rattle.refusal.specs.Verdicts.{and_then, layout_verdict, name_verdict, Verdict}
use Rattle.refusal.proofs.VerdictsLaws.{both_pass}
use Rattle.refusal.specs.declared.Refusal.TheVariants.{MissingRegion, OverwriteEdge, LateLine}
use Rattle.lexer.specs.Tokens.{token_layout}
use Rattle.descriptors.specs.Mnemonics.{mnemonic_layout, mnemonic_location}
use Rattle.descriptors.specs.Descriptors.{descriptor_layout, descriptor_repeat}
use Rattle.breakpoints.specs.Breakpoints.{data_buffer_layout, pending_buffer_layout}
use Rattle.emit_dispatch.specs.LineAnswers.{LineAnswer, Made, Missed, OutOfRange}
use Rattle.emit_dispatch.specs.Lines.{Line}
use Rattle.emit_pairs.specs.declared.Fault.{Fault}
use Rattle.emit_pairs.specs.declared.Fault.TheVariants.{Immediate, ShiftAmount, ConditionCode, Dropped}
use Rattle.emit_pairs.specs.declared.InstructionPair.{InstructionPair}
use Rattle.operand.specs.declared.Miss.{Miss}
use Rattle.operand.specs.declared.Miss.TheVariants.{EndOfFile as NoToken, ExpectedRegister as NoRegister, ExpectedConstant as NoConstant, ExpectedLabel as NoLabel, ExpectedRightBrace as NoBrace}
use Rattle.emit_outcome.specs.Room.{no_region, most_data, region_stop, edge_stop, new_pending, new_breakpoint, space_stop, room_stop}
use Rattle.emit_outcome.specs.Call.{Lent, Call}
use Rattle.emit_outcome.specs.declared.LineNumbers.{LineNumbers}
use Rattle.emit_outcome.specs.Checks.{layout_stop, list_stop}
use Rattle.emit_outcome.specs.Emit.{answer_stop, accept_or, line_outcome as emit_line, call_made, call_line, line_or_unknown, list_outcome, emit_outcome}
use Rattle.emit_outcome.specs.Answer.{EmitAnswer, done_at, refused_at}
use Rattle.loading.specs.declared.LoadForm.{LoadForm}
use Rattle.routine.proofs.AcceptedLaws.{call_stop, lists_pass}
use Rattle.routine.proofs.FilledLaws.{data_passes}
use Rattle.patching_outcome.specs.Patching.{Patching}
use Rattle.patching_outcome.specs.Line.{LineGiven, line_layouts, emit_call, none_call, is_late, late_answer, line_outcome}
use Rattle.patching_outcome.proofs.LayoutLaws.{line_lists}
use Rattle.patching_laws.specs.Claims.{is_room, instead}
use Rattle.patching_laws.proofs.LineLaws.{line_late}
use Rattle.build_outcome.proofs.BuildLaws.{then_pass}

-- ---- with a region selected, a check of room refuses only with 11 or 12

abbrev OfRoom : Verdict → Type 0
OfRoom (Ok tt) = Unit {0}
OfRoom (Err r) = is_room r ≡ true

then_room : (a b : Verdict) → OfRoom a → OfRoom b → OfRoom (and_then a b)
then_room (Ok tt) b x y = y
then_room (Err r) b x y = x

edge_room : (line : Location) (address n size : ℕ) → OfRoom (edge_stop line address n size)
unfolding edge_stop
edge_room line address zero size = tt
edge_room line address (suc n) size = by (leb (address + size) (2 ^ 32 - 1)) (edge_room line address n (size + 4))
  where
    by : (b : Bool) → OfRoom (edge_stop line address n (size + 4)) → OfRoom (elim b [ true ↦ edge_stop line address n (size + 4) | false ↦ Err (OverwriteEdge line address size) ])
    by true more = more
    by false more = refl

space_room : (line : Location) (which : ℕ) (fits : Bool) → OfRoom (space_stop line which fits)
space_room line which true = tt
space_room line which false = refl

room_room : (token_list : List ℕ) (line : Location) (numbers : LineNumbers) (lent : Lent) (pairs : List InstructionPair) → eqb numbers.place.region no_region ≡ false → OfRoom (room_stop token_list line numbers lent pairs)
unfolding room_stop
room_room token_list line numbers lent pairs e =
    let counts = numbers.counts in
    let filled = counts.data_len + 4 * length pairs in
    then_room (region_stop line numbers.place.region) _ (subst (λ (b : Bool). OfRoom (elim b [ true ↦ Err (MissingRegion line) | false ↦ Ok tt ])) (sym e) tt)
    (then_room (edge_stop line numbers.place.address (length pairs) counts.data_len) _ (edge_room line numbers.place.address (length pairs) counts.data_len)
    (then_room (space_stop line 0 (leb filled (length lent.region_data) && leb filled most_data)) _ (space_room line 0 (leb filled (length lent.region_data) && leb filled most_data))
    (then_room (space_stop line 1 (leb (counts.pending + length (new_pending token_list line numbers pairs)) (length lent.pending))) _ (space_room line 1 (leb (counts.pending + length (new_pending token_list line numbers pairs)) (length lent.pending)))
    (space_room line 2 (leb (counts.breakpoints + length (new_breakpoint line numbers pairs)) (length lent.breakpoints))))))

module _ (job : Job) (g : LineGiven) (p : Patching) (pass : line_layouts g p ≡ Ok tt) (selected : eqb g.region no_region ≡ false) where
  abbrev on : Call
  on = emit_call g p

  abbrev none : Call
  none = none_call g p

  abbrev line : Location
  line = mnemonic_location g.mnemonic

  -- The answer, in either call, of a line that was read.
  abbrev answer_of : Call → Line → LineAnswer → EmitAnswer
  answer_of c made a = (accept_or g.token_list line c.numbers c.lent made (answer_stop g.token_list line c.numbers c.lent made.pairs a)).answer

  missed : (made : Line) (m : Miss) → late_answer (answer_of none made (Missed m)) ≡ instead line (answer_of on made (Missed m))
  missed made NoToken = refl
  missed made (NoRegister kind met) = refl
  missed made (NoConstant kind met) = refl
  missed made (NoLabel kind met) = refl
  missed made (NoBrace kind met) = refl

  faulty : (made : Line) (f : Fault) → late_answer (answer_of none made (OutOfRange f)) ≡ instead line (answer_of on made (OutOfRange f))
  faulty made Immediate = refl
  faulty made ShiftAmount = refl
  faulty made ConditionCode = refl
  faulty made Dropped = refl

  made_late : (made : Line) → late_answer (answer_of none made Made) ≡ instead line (answer_of on made Made)
  unfolding room_stop
  made_late made = by (room_stop g.token_list line on.numbers on.lent made.pairs) (room_room g.token_list line on.numbers on.lent made.pairs selected)
    where
      by : (v : Verdict) → OfRoom v → ◌≡◌ {A = EmitAnswer} (refused_at (LateLine line) made.index) (instead line (accept_or g.token_list line on.numbers on.lent made v).answer)
      by (Ok tt) e = refl
      by (Err r) e = ap (λ (b : Bool). refused_at (elim b [ true ↦ LateLine line | false ↦ r ]) made.index) (sym e)

  line_instead : (made : Line) → late_answer (call_line (none_call g p) made).answer ≡ instead line (call_line (emit_call g p) made).answer
  unfolding emit_line
  line_instead made = by made.answer
    where
      by : (a : LineAnswer) → late_answer (answer_of none made a) ≡ instead line (answer_of on made a)
      by Made = made_late made
      by (Missed m) = missed made m
      by (OutOfRange f) = faulty made f

  by_line : (o : Option Line) → late_answer (line_or_unknown (none_call g p) o).answer ≡ instead line (line_or_unknown (emit_call g p) o).answer
  by_line (Some made) = line_instead made
  by_line None = refl

  -- With no region selected the lists pass too.
  none_passes : call_stop (emit_call g p) ≡ Ok tt → call_stop (none_call g p) ≡ Ok tt
  unfolding list_stop layout_stop
  none_passes s =
      let l = line_lists g p pass in
      let c = lists_pass on s in
      let n = (both_pass (layout_stop g.token_list g.mnemonic g.descriptors on.lent g.region on.numbers.counts) (name_verdict 2 (descriptor_repeat g.descriptors)) s).1 in
      then_pass (layout_stop g.token_list g.mnemonic g.descriptors none.lent no_region none.numbers.counts) _
      (then_pass (layout_verdict 0 (token_layout g.token_list)) _ (ap (layout_verdict 0) l.tokens_good)
      (then_pass (layout_verdict 1 (mnemonic_layout g.mnemonic)) _ (ap (layout_verdict 1) l.mnemonic_good)
      (then_pass (layout_verdict 2 (descriptor_layout g.descriptors)) _ (ap (layout_verdict 2) l.descriptors_good)
      (then_pass (layout_verdict 3 (data_buffer_layout no_region 0 [])) _ (ap (layout_verdict 3) (data_passes 0 [] (omega arith) (omega arith) no_region refl))
      (then_pass (layout_verdict 4 (pending_buffer_layout p.counts.pending p.pending)) _ (ap (layout_verdict 4) c.pending_good) (ap (layout_verdict 5) l.breakpoints_good))))))
      n

  -- The law for a line whose lists pass: neither 1 nor 2 comes up.
  pub late_answer_lem : call_stop (emit_call g p) ≡ Ok tt → is_late p g.region ≡ true
      → line_outcome job g p ≡ (record { answer = instead (mnemonic_location g.mnemonic) (emit_outcome job (emit_call g p)).answer; after = p })
  unfolding emit_outcome
  late_answer_lem s l =
      line_late job g p pass selected l
      ∙ ap (λ (a : EmitAnswer). record { answer = a; after = p })
      (ap (λ (v : Verdict). late_answer (list_outcome job (none_call g p) v).answer) (none_passes s)
      ∙ by_line (call_made job on) ∙ sym (ap (λ (v : Verdict). instead line (list_outcome job (emit_call g p) v).answer) s))

  -- A late line that would be accepted gets 29.
  pub late_instead : (position : ℕ) (loaded : LoadForm) → (emit_outcome job (emit_call g p)).answer ≡ done_at position loaded → is_late p g.region ≡ true
      → line_outcome job g p ≡ (record { answer = refused_at (LateLine (mnemonic_location g.mnemonic)) position; after = p })
  unfolding emit_outcome
  late_instead position loaded e l = by (call_stop on) refl e
    where
      by : (v : Verdict) → call_stop (emit_call g p) ≡ v → (list_outcome job (emit_call g p) v).answer ≡ done_at position loaded
          → line_outcome job g p ≡ (record { answer = refused_at (LateLine (mnemonic_location g.mnemonic)) position; after = p })
      by (Err r) s x = let z : ◌≡◌ {A = ℕ} 0 1 = cc in absurd (omega arith)
      by (Ok tt) s x = late_answer_lem s l ∙ ap (λ (a : EmitAnswer). record { answer = instead line a; after = p }) e
