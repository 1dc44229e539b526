-- "Lent bytes and fill counts then remain as at entry": this holds of every emit call that is refused. Assumes nothing.
use Rattle.std.specs.Prelude.{ℕ, ◌≡◌, List, Err, None, Ok, Option, Some}
use Rattle.std.proofs.Common.{arith}
use Rattle.jobs.specs.declared.Job.{Job}
use Rattle.record.specs.declared.Location.{Location}
use Rattle.refusal.specs.declared.Refusal.{Refusal}
use Rattle.refusal.specs.declared.Refusal.TheVariants.{UnknownInstruction}
use Rattle.descriptors.specs.Mnemonics.{mnemonic_location}
use Rattle.emit_dispatch.specs.Lines.{Line}
use Rattle.emit_outcome.specs.declared.FillCounts.{FillCounts}
use Rattle.emit_outcome.specs.declared.LineNumbers.{LineNumbers}
use Rattle.emit_outcome.specs.Answer.{refused_at}
use Rattle.emit_outcome.specs.Call.{Lent, Call, EmitOutcome}
use Rattle.emit_outcome.specs.Checks.{list_stop}
use Rattle.emit_outcome.specs.Emit.{refuse, line_stop, accept_or, line_outcome, call_made, line_or_unknown, list_outcome, emit_outcome}
use Rattle.emit_outcome.proofs.AnswerLaws.{refused_parts}
use Rattle.refusal.specs.Verdicts.{Verdict}

-- If an outcome answers with a refusal, it is the outcome of that refusal.
abbrev pub Stays : FillCounts → Lent → EmitOutcome → Type 0
Stays counts lent o = (r : Refusal) (p : ℕ) → o.answer ≡ refused_at r p → o ≡ refuse counts lent p r

refuse_stays : (counts : FillCounts) (lent : Lent) (position : ℕ) (s : Refusal) → Stays counts lent (refuse counts lent position s)
refuse_stays counts lent position s r p e = let z : (s ≡ r) × (position ≡ p) = refused_parts e in cc

module _ (token_list : List ℕ) (line : Location) (numbers : LineNumbers) (lent : Lent) (made : Line) where
  verdict_stays : (v : Verdict) → Stays numbers.counts lent (accept_or token_list line numbers lent made v)
  verdict_stays (Ok tt) = λ r p e. let z : ◌≡◌ {A = ℕ} 0 1 = cc in absurd (omega arith)
  verdict_stays (Err s) = refuse_stays numbers.counts lent made.index s

  line_stays : Stays numbers.counts lent (line_outcome token_list line numbers lent made)
  unfolding line_outcome
  line_stays = verdict_stays (line_stop token_list line numbers lent made)

module _ (job : Job) (c : Call) where
  made_stays : (o : Option Line) → Stays c.numbers.counts c.lent (line_or_unknown c o)
  made_stays (Some made) = line_stays c.token_list (mnemonic_location c.mnemonic) c.numbers c.lent made
  made_stays None = refuse_stays c.numbers.counts c.lent c.numbers.place.position (UnknownInstruction (mnemonic_location c.mnemonic))

  list_stays : (v : Verdict) → Stays c.numbers.counts c.lent (list_outcome job c v)
  list_stays (Err s) = refuse_stays c.numbers.counts c.lent c.numbers.place.position s
  list_stays (Ok tt) = made_stays (call_made job c)

  -- A refused call has the outcome of its refusal, with all that was lent as at entry.
  pub refused_stays : Stays c.numbers.counts c.lent (emit_outcome job c)
  unfolding emit_outcome
  refused_stays = list_stays (list_stop c.token_list c.mnemonic c.descriptors c.lent c.numbers.place.region c.numbers.counts)
