-- A constant is loaded by one word or by two.
use Rattle.std.proofs.Common.{get_or, arith}
use Rattle.registers.specs.Numbers.{register_number}
use Rattle.emit_pairs.specs.Pairs.{plain}
use Rattle.emit_pairs.proofs.PairsLaws.{emit_by, emit_push, load_one, load_two}
use Rattle.emit_pairs.proofs.load_pairs.Goals as goal

pub returns-then-loaded-lt2 : goal.returns-then-loaded-lt2
returns-then-loaded-lt2 c =
    let l = c.load_immediate-loaded in
    emit_by
    (emit_push (plain (get_or l.result.words 0 0)) c.starting.ensures c.push-one.ensures)
    (load_one c.args.constant (register_number c.args.into) l.ensures (omega arith))
    l.ensures.form_is

pub returns-else-loaded-lt2 : goal.returns-else-loaded-lt2
returns-else-loaded-lt2 c =
    let l = c.load_immediate-loaded in
    emit_by
    (emit_push (plain (get_or l.result.words 1 0)) (emit_push (plain (get_or l.result.words 0 0)) c.starting.ensures c.push-one.ensures) c.push.ensures)
    (load_two c.args.constant (register_number c.args.into) l.ensures (omega arith))
    l.ensures.form_is
