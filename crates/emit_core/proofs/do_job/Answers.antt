use Rattle.std.proofs.Common.{sym, ap, ◌∙◌}
use Rattle.emit_outcome.specs.Call.{lent_of, outcome_of}
use Rattle.emit_outcome.specs.declared.Emitted.{Emitted}
use Rattle.emit_core.proofs.EmitLaws.{emitted}
use Rattle.emit_core.proofs.do_job.Goals as goal

pub returns : goal.returns
returns c =
    let n = c.emit_line-given.new in
    emitted (c.emit_line-given.ensures ∙ sym (ap (λ (e : Emitted). outcome_of e.answer e.counts (lent_of n.«data» n.pending n.breakpoints)) c.emitted.ensures))
