-- From each turn's position on, the search ends where the whole search does.
use Rattle.std.proofs.Common.{sym, ap, ◌∙◌, arith}
use Rattle.lexer.specs.Tokens.{tokens}
use Rattle.lexer.specs.declared.Token.{Token}
use Rattle.cursor.specs.Cursors.{is_adjacent_kind, seek}
use Rattle.cursor.proofs.CursorsLaws.{stands, ended, placed_is, index_at, step_in, seek_here, seek_next, seek_end}
use Rattle.cursor.proofs.seek_without.Goals as goal

pub token_at-requires : goal.token_at-requires
token_at-requires c = (stands _ _ c.loop-cursor.invariant.0 c.loop-cursor-test.true).token

pub returns-else-not-is_adjacent_kind : goal.returns-else-not-is_adjacent_kind
returns-else-not-is_adjacent_kind c =
    let s = c.args.list.now in
    let l = c.loop-cursor in
    let t = stands _ _ l.invariant.0 c.loop-cursor-test.true in
    let kind = ap (λ (t : Token). is_adjacent_kind t.kind) (t.token_is_at ∙ sym c.token_at.ensures) ∙ sym c.is_adjacent_kind.ensures ∙ c.if-not-is_adjacent_kind.false in
    placed_is s _ _ l.invariant.0 (sym (l.invariant.1 ∙ seek_here (tokens s) l.cursor.index t.within kind))

pub loop-cursor-smaller : goal.loop-cursor-smaller
loop-cursor-smaller c =
    let t = stands _ _ c.loop-cursor.invariant.0 c.loop-cursor-test.true in
    omega (arith, t.within, index_at _ _ c.next-cursor.ensures.0, step_in _ _ t.within)

pub loop-cursor-preserved : goal.loop-cursor-preserved
loop-cursor-preserved c =
    let s = c.args.list.now in
    let l = c.loop-cursor in
    let t = stands _ _ l.invariant.0 c.loop-cursor-test.true in
    let kind = ap (λ (t : Token). is_adjacent_kind t.kind) (t.token_is_at ∙ sym c.token_at.ensures) ∙ sym c.is_adjacent_kind.ensures ∙ c.if-not-is_adjacent_kind.true in
    let behind = sym (step_in (tokens s) l.cursor.index t.within) ∙ index_at s _ c.next-cursor.ensures.0 in
    (c.next-cursor.ensures.1, l.invariant.1 ∙ seek_next _ l.cursor.index t.within kind ∙ ap (seek (tokens s)) behind)

pub returns-after-loop-cursor : goal.returns-after-loop-cursor
returns-after-loop-cursor c =
    let s = c.args.list.now in
    let l = c.loop-cursor in
    let e = ended _ _ l.invariant.0 c.loop-cursor-test.false in
    placed_is s _ _ l.invariant.0 (sym (l.invariant.1 ∙ seek_end (tokens s) l.cursor.index (omega arith)))
