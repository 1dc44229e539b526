-- Each turn before the list's end stands at a token.
use Rattle.std.proofs.Common.{arith}
use Rattle.lexer.specs.Tokens.{tokens}
use Rattle.cursor.specs.Cursors.{start_index}
use Rattle.cursor.proofs.CursorsLaws.{stands, ended, placed_is, placed_first}
use Rattle.cursor.proofs.start.Goals as goal

pub loop-index-init : goal.loop-index-init
loop-index-init c = placed_first _ c.requires

pub returns-then-at-list : goal.returns-then-at-list
returns-then-at-list c =
    let s = c.args.list.now in
    let e = ended _ _ c.loop-index.invariant c.if-at-list.true in
    placed_is s _ (start_index (tokens s) c.args.position) c.loop-index.invariant (omega arith)

pub next-at-requires : goal.next-at-requires
next-at-requires c = omega (arith, (stands _ _ c.loop-index.invariant c.if-at-list.false).token)

pub loop-index-preserved : goal.loop-index-preserved
loop-index-preserved c = rw c.next-at.ensures.0 (stands _ _ c.loop-index.invariant c.if-at-list.false).behind
