use Rattle.patching_text.proofs.TurnsLaws.{line_given, line_turns}
use Rattle.patching_text.proofs.do_line.Goals as goal

pub returns : goal.returns
returns g c =
    λ k.
    line_turns _ _ _ _ _ _
    (line_given _ c.args.line.now _ _ _ _ _ c.list_of.ensures c.list_of-2.ensures c.behind_lists-numbers.ensures c.word_or_zero.ensures c.half_or_zero.ensures)
    (c.patch_line-lined.ensures k)
    c.put_line.ensures
