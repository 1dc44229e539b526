use Rattle.std.proofs.Common.{sym, ap, ◌∙◌}
use Rattle.emit_outcome.specs.Call.{lent_of}
use Rattle.indexed_outcome.specs.Indexed.{indexed_outcome_of}
use Rattle.indexed_outcome.specs.declared.IndexedEmitted.{IndexedEmitted}
use Rattle.indexed_core.proofs.StepsLaws.{indexed_by_lem}
use Rattle.indexed_core.proofs.do_indexed_job.Goals as goal

pub returns : goal.returns
returns c =
    let n = c.emit_line-given.new in
    indexed_by_lem (c.emit_line-given.ensures ∙ sym (ap (λ (e : IndexedEmitted). indexed_outcome_of e.answer e.counts (lent_of n.«data» n.pending n.breakpoints) n.index) c.emitted.ensures))
