-- `fp_cond_word` meets its contract: its chain of methods lays the word out.
use Rattle.std.proofs.Common.{false}
use Rattle.emit_words.specs.Words.{code_bits}
use Rattle.emit_words.proofs.WordsLaws.{base, code_lt, spill_sa, with_fp_fmt, with_fp_source, with_fp_temp, is_laid}
use Rattle.emit_words.proofs.fp_cond_word.Goals as goal

pub returns : goal.returns
returns c =
    let a = c.args in
    is_laid (with_fp_fmt (with_fp_temp (with_fp_source (spill_sa (base a.op) (code_bits a.fields.code false) (code_lt a.fields.code false)) a.fields.source) a.fields.target) a.fmt) (cc)
