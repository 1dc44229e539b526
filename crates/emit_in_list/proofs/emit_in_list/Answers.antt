use Rattle.std.proofs.Common.{arith}
use Rattle.emit_in_list.proofs.EmittedLaws.{grows, in_list}
use Rattle.emit_in_list.proofs.emit_in_list.Goals as goal

pub overflow_sub-words : goal.overflow_sub-words
overflow_sub-words c =
    omega (arith, grows c.args.job _ _ _ _ _ _ _ _ _ _ _ c.requires.0 c.requires.1 c.exchange.new.d c.exchange.ensures _ _ _ _ _ c.do_job-out.ensures.outcome_is)

pub slice_bounds-exchange-count-2 : goal.slice_bounds-exchange-count-2
slice_bounds-exchange-count-2 c =
    omega (arith, grows c.args.job _ _ _ _ _ _ _ _ _ _ _ c.requires.0 c.requires.1 c.exchange.new.d c.exchange.ensures _ _ _ _ _ c.do_job-out.ensures.outcome_is)

pub slice_bounds-exchange-start-2 : goal.slice_bounds-exchange-start-2
slice_bounds-exchange-start-2 c =
    omega (arith, grows c.args.job _ _ _ _ _ _ _ _ _ _ _ c.requires.0 c.requires.1 c.exchange.new.d c.exchange.ensures _ _ _ _ _ c.do_job-out.ensures.outcome_is)

pub overflow_sub-room : goal.overflow_sub-room
overflow_sub-room c =
    omega (arith, grows c.args.job _ _ _ _ _ _ _ _ _ _ _ c.requires.0 c.requires.1 c.exchange.new.d c.exchange.ensures _ _ _ _ _ c.do_job-out.ensures.outcome_is)

pub returns : goal.returns
returns c =
    in_list c.args.job _ _ _ _ _ _ _ _ _ _ _ c.requires.0 c.requires.1 c.exchange.new.d c.exchange.ensures _ _ _ _ _ c.do_job-out.ensures.outcome_is c.exchange-2.new.d
    c.exchange-2.ensures
