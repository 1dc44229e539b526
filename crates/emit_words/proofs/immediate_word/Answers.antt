-- `immediate_word` meets its contract: its chain of methods lays the word out.
use Rattle.emit_words.proofs.WordsLaws.{base, with_source, with_temp, is_immediate}
use Rattle.emit_words.proofs.immediate_word.Goals as goal

pub returns : goal.returns
returns c =
    let a = c.args in
    is_immediate (with_temp (with_source (base a.op) a.fields.source) a.fields.temp) a.fields.immediate (cc)
