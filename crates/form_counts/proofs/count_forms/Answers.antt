use Rattle.std.proofs.Common.{sym, arith}
use Rattle.form_counts.proofs.Counting.{count_is, count_refused}
use Rattle.form_counts.proofs.count_forms.Goals as goal

pub returns-then-end-start : goal.returns-then-end-start
returns-then-end-start c = sym (count_refused c.args.start c.args.end c.if-end-start.true)

pub returns : goal.returns
returns c =
    rw (c.less.ensures, c.count_below-to.ensures, c.count_below-from.ensures, c.from-2.ensures, c.from.ensures) (sym (count_is c.args.start c.args.end (omega arith) (omega arith)))
