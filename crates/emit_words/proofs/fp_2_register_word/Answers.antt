-- `fp_2_register_word` meets its contract: its chain of methods lays the word out.
use Rattle.emit_words.proofs.WordsLaws.{base, with_fp_dest, with_fp_fmt, with_fp_source, is_laid}
use Rattle.emit_words.proofs.fp_2_register_word.Goals as goal

pub returns : goal.returns
returns c =
    let a = c.args in
    is_laid (with_fp_fmt (with_fp_source (with_fp_dest (base a.op) a.fields.dest) a.fields.source) a.fmt) (cc)
