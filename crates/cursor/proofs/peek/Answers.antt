-- Before the list's end a token stands at the position.
use Rattle.std.specs.Prelude.{Some}
use Rattle.std.proofs.Common.{sym, ap, ◌∙◌, arith}
use Rattle.lexer.specs.Tokens.{tokens}
use Rattle.cursor.proofs.CursorsLaws.{stands, ended, peek_in, peek_end}
use Rattle.cursor.proofs.peek.Goals as goal

pub token_at-requires : goal.token_at-requires
token_at-requires c = (stands _ _ c.requires c.if-position-list.true).token

pub returns-then-position-list : goal.returns-then-position-list
returns-then-position-list c =
    let t = stands _ _ c.requires c.if-position-list.true in
    ap Some (c.token_at.ensures ∙ sym t.token_is_at) ∙ sym (peek_in _ _ t.within)

pub returns-else-position-list : goal.returns-else-position-list
returns-else-position-list c =
    let s = c.args.list.now in
    sym (peek_end (tokens s) c.args.position.index (omega (arith, ended s c.args.position c.requires c.if-position-list.false)))
