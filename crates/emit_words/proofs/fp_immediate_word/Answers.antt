-- `fp_immediate_word` meets its contract: its chain of methods lays the word out.
use Rattle.emit_words.proofs.WordsLaws.{base, with_fp_temp, with_source, is_immediate}
use Rattle.emit_words.proofs.fp_immediate_word.Goals as goal

pub returns : goal.returns
returns c =
    let a = c.args in
    is_immediate (with_fp_temp (with_source (base a.op) a.fields.source) a.fields.temp) a.fields.immediate (cc)
