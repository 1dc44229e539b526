-- `source_word` meets its contract: its chain of methods lays the word out.
use Rattle.emit_words.proofs.WordsLaws.{base, with_source, is_laid}
use Rattle.emit_words.proofs.source_word.Goals as goal

pub returns : goal.returns
returns c =
    let a = c.args in
    is_laid (with_source (base a.op) a.source) (cc)
