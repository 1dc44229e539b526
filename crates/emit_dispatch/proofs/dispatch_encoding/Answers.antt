-- The operands are read once, and the words are made of what they hold.
use Rattle.lexer.specs.Tokens.{tokens}
use Rattle.operand_list.specs.OperandLists.{read_operands}
use Rattle.operand_list.proofs.HeldOperandsLaws.{asked_for}
use Rattle.emit_dispatch.specs.Wants.{encoding_wants}
use Rattle.emit_dispatch.specs.Lines.{encoding_range, encoding_pairs, encoding_form, encoding_line}
use Rattle.emit_dispatch.proofs.LinesLaws.{line_held}
use Rattle.emit_dispatch.proofs.dispatch_encoding.Goals as goal

pub returns : goal.returns
unfolding encoding_line
returns c =
    let a = c.args in
    let w = encoding_wants a.encoding in
    line_held w (read_operands w (tokens a.cursor.now.list) a.cursor.now.index) (asked_for c.encoding_wants.ensures c.read_operands-read.ensures)
    (encoding_range a.job a.encoding a.op) (encoding_pairs a.job a.encoding a.op) (encoding_form a.encoding) _ c.encoding_words.ensures
