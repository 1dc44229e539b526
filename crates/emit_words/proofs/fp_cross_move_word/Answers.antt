-- `fp_cross_move_word` meets its contract: its chain of methods lays the word out.
use Rattle.std.proofs.Common.{arith}
use Rattle.emit_words.proofs.WordsLaws.{base, or_in_rd, or_in_rt, is_laid}
use Rattle.emit_words.proofs.fp_cross_move_word.Goals as goal

pub returns : goal.returns
returns c =
    let a = c.args in
    is_laid (or_in_rd (or_in_rt (base a.op) a.first (omega arith)) a.second (omega arith)) (cc)
