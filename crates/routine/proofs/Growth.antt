-- The most that one accepted line adds to each of its three buffers. Assumes nothing.
use Rattle.std.specs.Prelude.{ℕ, ◌+◌, ◌≤◌, ◌≡◌, List, length}
use Rattle.std.proofs.Common.{arith, sym, subst}
use Rattle.jobs.specs.declared.Job.{Job}
use Rattle.descriptors.specs.Mnemonics.{mnemonic_location}
use Rattle.breakpoints.proofs.BreakpointBytesLaws.{breakpoint_length}
use Rattle.emit_pairs.specs.declared.InstructionPair.{InstructionPair}
use Rattle.emit_bytes.proofs.AppendedLaws.{pendings_length}
use Rattle.emit_outcome.specs.Call.{Call, EmitOutcome}
use Rattle.emit_outcome.specs.Emit.{emit_outcome}
use Rattle.loading.specs.declared.LoadForm.{LoadForm}
use Rattle.emit_outcome.specs.Answer.{done_at}
use Rattle.emit_outcome.specs.declared.FillCounts.{FillCounts}
use Rattle.finished_words.specs.Listed.{Bytes}
use Rattle.routine.specs.CallValues.{call_origin}
use Rattle.routine.proofs.AcceptedLaws.{accepted}
use Rattle.routine.proofs.WaitsLaws.{waits, waits_bytes, call_waits}

pub record Grows (before after : FillCounts) : Type 0 where
  -- "One call gives at most five words, each four little-endian bytes."
  pub data_most : after.data_len ≤ before.data_len + 20
  -- two records, each of 36 bytes and a "name of 1 to 64 bytes"
  pub pending_most : after.pending ≤ before.pending + 200
  -- head and location are 12 bytes, "then one 4-byte pc a word"
  pub breakpoints_most : after.breakpoints ≤ before.breakpoints + 32

pub line_grows : (job : Job) (c : Call) (position : ℕ) (loaded : LoadForm) → Bytes c.token_list → (emit_outcome job c).answer ≡ done_at position loaded → Grows c.numbers.counts (emit_outcome job c).counts
line_grows job c position loaded bytes e =
    let a = accepted job c position loaded bytes e in
    let pairs = a.made.pairs in
    let line = mnemonic_location c.mnemonic in
    let two : waits pairs ≤ 2 = subst (λ (ps : List InstructionPair). waits ps ≤ 2) (sym a.pairs_are) (call_waits job c) in
    let counts = c.numbers.counts in
    subst (λ (o : EmitOutcome). Grows counts o.counts) (sym a.outcome_is) (record {
      data_most = omega (arith, a.words.at_most);
      pending_most = omega (arith, pendings_length c.token_list (call_origin c) pairs, waits_bytes c.token_list pairs a.words.fit, two);
      breakpoints_most = omega (arith, breakpoint_length line (c.numbers.place.address + counts.data_len) (length pairs), a.words.at_most);
    })
