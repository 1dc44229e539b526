use Rattle.std.proofs.Common.{◌≡◌, ◌%◌, ◌^◌, sym, arith}
use Rattle.linked_answer.specs.Words.{low_word}
use Rattle.linked_answer.proofs.done_words.Goals as goal

pub returns : goal.returns
unfolding low_word
returns c = let e : c.args.a ≡ c.args.a % 2 ^ 32 = omega arith in rw (sym e)
