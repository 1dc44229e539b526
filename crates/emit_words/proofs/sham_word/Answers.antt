-- `sham_word` meets its contract: its chain of methods lays the word out.
use Rattle.std.proofs.Common.{arith}
use Rattle.emit_words.proofs.WordsLaws.{base, spill_sa, with_dest, with_temp, is_laid}
use Rattle.emit_words.proofs.sham_word.Goals as goal

pub returns : goal.returns
returns c =
    let a = c.args in
    is_laid (spill_sa (with_temp (with_dest (base a.op) a.fields.dest) a.fields.temp) a.fields.sham (omega arith)) (cc)
