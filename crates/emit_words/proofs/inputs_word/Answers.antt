-- `inputs_word` meets its contract: its chain of methods lays the word out.
use Rattle.emit_words.proofs.WordsLaws.{base, with_source, with_temp, is_laid}
use Rattle.emit_words.proofs.inputs_word.Goals as goal

pub returns : goal.returns
returns c =
    let a = c.args in
    is_laid (with_temp (with_source (base a.op) a.source) a.temp) (cc)
