-- `load_immediate_word` meets its contract: its chain of methods lays the word out.
use Rattle.emit_words.proofs.WordsLaws.{base, with_temp, is_immediate}
use Rattle.emit_words.proofs.load_immediate_word.Goals as goal

pub returns : goal.returns
returns c =
    let a = c.args in
    is_immediate (with_temp (base a.op) a.temp) a.imm (cc)
