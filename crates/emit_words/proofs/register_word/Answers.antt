-- `register_word` meets its contract: its chain of methods lays the word out.
use Rattle.emit_words.proofs.WordsLaws.{base, with_dest, with_source, with_temp, is_laid}
use Rattle.emit_words.proofs.register_word.Goals as goal

pub returns : goal.returns
returns c =
    let a = c.args in
    is_laid (with_temp (with_source (with_dest (base a.op) a.fields.dest) a.fields.source) a.fields.temp) (cc)
