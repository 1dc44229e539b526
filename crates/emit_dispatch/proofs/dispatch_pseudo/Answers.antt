-- The operands are read once, and the words are made of what they hold.
use Rattle.std.specs.Prelude.{Ok}
use Rattle.lexer.specs.Tokens.{tokens}
use Rattle.operand_list.specs.OperandLists.{read_operands}
use Rattle.operand_list.proofs.HeldOperandsLaws.{asked_for}
use Rattle.emit_dispatch.specs.Wants.{pseudo_wants}
use Rattle.emit_dispatch.specs.Lines.{pseudo_pairs, pseudo_form, pseudo_line}
use Rattle.emit_dispatch.proofs.LinesLaws.{line_held}
use Rattle.emit_dispatch.proofs.dispatch_pseudo.Goals as goal

pub returns : goal.returns
unfolding pseudo_line
returns c =
    let a = c.args in
    let w = pseudo_wants a.pseudo in
    line_held w (read_operands w (tokens a.cursor.now.list) a.cursor.now.index) (asked_for c.pseudo_wants.ensures c.read_operands-read.ensures)
    (λ x. (Ok tt)) (pseudo_pairs a.job a.pseudo) (pseudo_form a.pseudo) _ c.pseudo_words.ensures
