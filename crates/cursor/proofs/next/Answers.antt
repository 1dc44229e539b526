-- The record of a token ends where the next position is.
use Rattle.std.proofs.Common.{◌+◌, sym, ◌∙◌, arith}
use Rattle.record.specs.Records.{next}
use Rattle.lexer.specs.Tokens.{tokens}
use Rattle.cursor.specs.Cursors.{step}
use Rattle.cursor.proofs.CursorsLaws.{stands, ended, placed_is, step_in, step_end}
use Rattle.cursor.proofs.next.Goals as goal

pub overflow_add-result : goal.overflow_add-result
overflow_add-result c = omega (arith, stands _ _ c.requires c.if-position-list.true)

pub next-requires : goal.next-requires
next-requires c = omega (arith, (stands _ _ c.requires c.if-position-list.true).token)

pub returns-then-position-list : goal.returns-then-position-list
returns-then-position-list c =
    let s = c.args.list.now in
    let i = c.args.position.index in
    let t = stands _ _ c.requires c.if-position-list.true in
    rw c.next.ensures.0
    (placed_is s (record { index = i + 1; at = next s c.args.position.at }) (step (tokens s) i) t.behind (sym (step_in (tokens s) i t.within)))

pub returns-else-position-list : goal.returns-else-position-list
returns-else-position-list c =
    let s = c.args.list.now in
    let i = c.args.position.index in
    let e = ended s c.args.position c.requires c.if-position-list.false in
    placed_is s c.args.position (step (tokens s) i) c.requires (e ∙ sym (step_end (tokens s) i (omega arith)))
