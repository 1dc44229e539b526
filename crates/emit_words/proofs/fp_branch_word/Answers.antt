-- `fp_branch_word` meets its contract: its chain of methods lays the word out.
use Rattle.emit_words.specs.Words.{code_bits}
use Rattle.emit_words.proofs.WordsLaws.{base, code_lt, spill_rt, is_laid}
use Rattle.emit_words.proofs.fp_branch_word.Goals as goal

pub returns : goal.returns
returns c =
    let a = c.args in
    is_laid (spill_rt (base a.op) (code_bits a.code a.flag) (code_lt a.code a.flag)) (cc)
