-- The arm `_` is for kinds past the list.
use Rattle.std.proofs.Common.{arith}
use Rattle.std.proofs.lemmas.List.{get_or_past}
use Rattle.record.specs.Records.{kind_at}
use Rattle.lexer.specs.Tokens.{kinds_at}
use Rattle.lexer.specs.declared.TokenKind.TheVariants.{NewLine}
use Rattle.lexer.proofs.token_at.Goals as goal

pub returns-in_default : goal.returns-in_default
returns-in_default c =
    let s = c.args.list.now in
    let past = get_or_past (kinds_at s c.args.at) (kind_at s c.args.at) NewLine (omega arith) in
    cc
