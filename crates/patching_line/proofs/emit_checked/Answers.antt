use Rattle.std.proofs.Common.{sym, ap, ◌∙◌, eq-eqb, ne_eqb}
use Rattle.patching_outcome.specs.Line.{late_answer}
use Rattle.patching_line.proofs.ListsLaws.{lists_pass, region_below}
use Rattle.patching_line.proofs.LineLaws.{line_nowhere, line_late, line_timely}
use Rattle.patching_line.proofs.emit_checked.Goals as goal

pub returns-then-line-eq-NO_REGION : goal.returns-then-line-eq-NO_REGION
returns-then-line-eq-NO_REGION c =
    let n = c.emit_nowhere-answer.ensures in
    line_nowhere _ _ _ _ _ _ _ _ _ _ c.requires _ _ _ n.1 n.2 (eq-eqb c.args.line.region 65535 c.if-line-eq-NO_REGION.true) n.0

pub is_late-requires : goal.is_late-requires
is_late-requires c = lists_pass _ _ _ _ _ _ _ _ c.requires

pub returns-then-is_late : goal.returns-then-is_late
returns-then-is_late c =
    let n = c.emit_nowhere-none.ensures in
    line_late _ _ _ _ _ _ _ _ _ _ c.requires _ _ _ n.1 n.2
    (ne_eqb c.args.line.region 65535 c.if-line-eq-NO_REGION.false) (sym c.is_late.ensures ∙ c.if-is_late.true) (c.late_answer-answer.ensures ∙ ap late_answer n.0)

pub emit_listed-requires : goal.emit_listed-requires
emit_listed-requires c =
    (lists_pass _ _ _ _ _ _ _ _ c.requires, region_below _ _ _ _ _ _ _ _ c.requires (ne_eqb c.args.line.region 65535 c.if-line-eq-NO_REGION.false))

pub returns : goal.returns
returns c =
    line_timely _ _ _ _ _ _ _ _ _ _ c.requires
    (ne_eqb c.args.line.region 65535 c.if-line-eq-NO_REGION.false) (sym c.is_late.ensures ∙ c.if-is_late.false) _ _ _ _ _ c.emit_listed.ensures
