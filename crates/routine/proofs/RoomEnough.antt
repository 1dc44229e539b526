-- How much room is enough for any line: the most that a line adds by `line_grows`, if the data stays within its limit. Assumes nothing.
use Rattle.std.specs.Prelude.{ℕ, ◌+◌, ◌≤◌, length, Err, None, Ok, Option, Some}
use native.Mathlib.Omega.{arith}
use Rattle.std.proofs.Math.Path.{◌≡◌, refl}
use Rattle.jobs.specs.declared.Job.{Job}
use Rattle.record.specs.declared.Location.{Location}
use Rattle.refusal.specs.declared.Refusal.TheVariants.{NoSpace, UnknownInstruction}
use Rattle.descriptors.specs.Mnemonics.{mnemonic_location}
use Rattle.breakpoints.proofs.BreakpointBytesLaws.{breakpoint_length}
use Rattle.emit_bytes.proofs.AppendedLaws.{pendings_length}
use Rattle.emit_dispatch.specs.LineAnswers.{LineAnswer, Made, Missed, OutOfRange}
use Rattle.emit_dispatch.specs.Lines.{Line}
use Rattle.emit_outcome.specs.Call.{Lent, Call}
use Rattle.emit_outcome.specs.Room.{most_data}
use Rattle.emit_outcome.specs.Emit.{answer_stop, line_stop, accept_or, line_outcome, call_made, call_line, line_or_unknown, list_outcome, emit_outcome}
use Rattle.emit_outcome.specs.Answer.{refused_at}
use Rattle.emit_outcome.proofs.AnswerLaws.{refused_parts}
use Rattle.emit_outcome.specs.declared.FillCounts.{FillCounts}
use Rattle.finished_words.specs.Listed.{Bytes}
use Rattle.routine.specs.CallValues.{call_origin, line_pairs, call_pairs}
use Rattle.routine.proofs.WordLaws.{Words}
use Rattle.routine.proofs.AcceptedLaws.{call_stop, lists_pass, WordsMade, line_words}
use Rattle.routine.proofs.WaitsLaws.{waits, waits_bytes, call_waits}
use Rattle.routine.proofs.SpaceLaws.{Other, lists_other, miss_other, fault_other, room_other}
use Rattle.refusal.specs.Verdicts.{Verdict}

pub record Roomy (counts : FillCounts) (lent : Lent) : Type 0 where
  pub data_room : counts.data_len + 20 ≤ length lent.region_data
  pub data_limit : counts.data_len + 20 ≤ most_data
  pub pending_room : counts.pending + 200 ≤ length lent.pending
  pub breakpoints_room : counts.breakpoints + 32 ≤ length lent.breakpoints

module _ (job : Job) (c : Call) (roomy : Roomy c.numbers.counts c.lent) where
  abbrev line : Location
  line = mnemonic_location c.mnemonic

  -- A made line of at most five words, two of them waiting, is not refused with 12.
  line_other : (made : Line) → (made.answer ≡ Made → Words c.token_list 1 5 made.pairs) → waits made.pairs ≤ 2 → Other (line_stop c.token_list line c.numbers c.lent made)
  line_other made words two = go made.answer refl
    where
      go : (a : LineAnswer) → made.answer ≡ a → Other (answer_stop c.token_list line c.numbers c.lent made.pairs a)
      go Made e =
          let w = words e in
          let n = w.at_most in
          room_other c.token_list line c.numbers c.lent made.pairs
          (omega (arith, n, roomy.data_room)) (omega (arith, n, roomy.data_limit))
          (omega (arith, pendings_length c.token_list (call_origin c) made.pairs, waits_bytes c.token_list made.pairs w.fit, two, roomy.pending_room))
          (omega (arith, breakpoint_length line (c.numbers.place.address + c.numbers.counts.data_len) (length made.pairs), n, roomy.breakpoints_room))
      go (Missed m) e = miss_other line m
      go (OutOfRange fault) e = fault_other line fault

  outcome_other : (made : Line) → Other (line_stop c.token_list line c.numbers c.lent made) → (l : Location) (a position : ℕ) → (call_line c made).answer ≡ refused_at (NoSpace l a) position → ⊥
  unfolding line_outcome
  outcome_other made other l a position e = go (line_stop c.token_list line c.numbers c.lent made) refl e
    where
      go : (v : Verdict) → line_stop c.token_list line c.numbers c.lent made ≡ v → (accept_or c.token_list line c.numbers c.lent made v).answer ≡ refused_at (NoSpace l a) position → ⊥
      go (Ok tt) s f = let z : ◌≡◌ {A = ℕ} 0 1 = cc in omega arith
      go (Err r) s f = let z : r ≡ NoSpace l a = (refused_parts f).0 in other l a cc

  made_other : (o : Option Line) → WordsMade job c o → waits (line_pairs o) ≤ 2 → (l : Location) (a position : ℕ) → (line_or_unknown c o).answer ≡ refused_at (NoSpace l a) position → ⊥
  made_other (Some made) words two = outcome_other made (line_other made words two)
  made_other None words two = λ l a position e. let k : UnknownInstruction line ≡ NoSpace l a = (refused_parts e).0 in let z : ◌≡◌ {A = ℕ} 0 1 = cc in omega arith

  -- So no line is refused with 12.
  pub room_enough : Bytes c.token_list → (l : Location) (a position : ℕ) → (emit_outcome job c).answer ≡ refused_at (NoSpace l a) position → ⊥
  unfolding emit_outcome call_pairs
  room_enough bytes l a position e = go (call_stop c) refl e
    where
      go : (v : Verdict) → call_stop c ≡ v → (list_outcome job c v).answer ≡ refused_at (NoSpace l a) position → ⊥
      go (Err r) s f = let z : r ≡ NoSpace l a = (refused_parts f).0 in lists_other c.token_list c.mnemonic c.descriptors c.lent c.numbers.place.region c.numbers.counts l a cc
      go (Ok tt) s f = made_other (call_made job c) (line_words job c bytes (lists_pass c s)) (call_waits job c) l a position f
