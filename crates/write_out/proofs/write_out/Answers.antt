use Rattle.std.proofs.Common.{sym, ◌∙◌, arith}
use Rattle.std.proofs.lemmas.Result.{err_from_is_err_and}
use Rattle.write_out.proofs.FillLaws.{fill_written}
use Rattle.write_out.proofs.EntryLaws.{passed, stopped_outcome, refused_outcome, written_outcome}
use Rattle.write_out.proofs.write_out.Goals as goal

pub returns-in_err-check : goal.returns-in_err-check
returns-in_err-check c =
    let p = err_from_is_err_and c.from_residual.result c.from_residual.ensures.1 in
    rw (p.1, p.2) (stopped_outcome c.args.tokens.now c.args.macros.now c.args.out.now _ (sym c.in_err-check.ensures))

pub write_all-requires : goal.write_all-requires
write_all-requires c =
    let p = passed c.args.tokens.now c.args.macros.now c.args.out.now (sym c.in_ok-check.ensures) in
    (p.tokens_good, p.macros_good)

pub returns-in_err-write_all : goal.returns-in_err-write_all
returns-in_err-write_all c =
    let a = c.args in
    let w = c.write_all in
    let p = err_from_is_err_and c.from_residual-in_err-write_all.result c.from_residual-in_err-write_all.ensures.1 in
    rw (p.1, p.2)
    (refused_outcome a.tokens.now a.macros.now a.out.now (sym c.in_ok-check.ensures) w.result w.ensures.value w.new.out w.ensures.out_after _ c.in_err-write_all.was)

pub write_all-requires-2 : goal.write_all-requires-2
write_all-requires-2 c =
    let p = passed c.args.tokens.now c.args.macros.now c.args.out.now (sym c.in_ok-check.ensures) in
    (p.tokens_good, p.macros_good)

pub overflow_cast-result : goal.overflow_cast-result
overflow_cast-result c =
    let p = passed c.args.tokens.now c.args.macros.now c.args.out.now (sym c.in_ok-check.ensures) in
    let f = fill_written _ 0 _ _ (omega arith) (sym c.write_all-2.ensures.value ∙ c.in_ok-write_all-2.was) in
    omega (arith, f.1, p.room, c.write_all.auto.out)

-- the second pass answers as the first
pub returns : goal.returns
returns c =
    let a = c.args in
    let w = c.write_all in
    let v = c.write_all-2 in
    rw (← c.in_ok-write_all-2.was)
    (written_outcome a.tokens.now a.macros.now a.out.now (sym c.in_ok-check.ensures) w.result w.ensures.value w.new.out w.ensures.out_after _ c.in_ok-write_all.was
    v.result v.ensures.value v.new.out v.ensures.out_after)
