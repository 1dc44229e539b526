-- `destination_word` meets its contract: its chain of methods lays the word out.
use Rattle.emit_words.proofs.WordsLaws.{base, with_dest, is_laid}
use Rattle.emit_words.proofs.destination_word.Goals as goal

pub returns : goal.returns
returns c =
    let a = c.args in
    is_laid (with_dest (base a.op) a.dest) (cc)
