-- Each return is the first test of `token_ok` that fails, and the last is that of the payload.
use Rattle.std.proofs.Common.{sym, ap, ◌∙◌, le-leb}
use Rattle.std.proofs.lemmas.Bool.{lt-leb}
use Rattle.record.specs.Records.{kind_at}
use Rattle.lexer.specs.declared.Payload.{Payload}
use Rattle.lexer.specs.Tokens.{payload_of, payload_ok, token_ok}
use Rattle.lexer.proofs.TokensLaws.{payload_of_byte}
use Rattle.lexer.proofs.TokensLayout.keeps.Goals as goal

pub returns-then-not-whole_at : goal.returns-then-not-whole_at
unfolding token_ok
returns-then-not-whole_at c = simp (sym c.whole_at.ensures ∙ c.if-not-whole_at.true)

pub returns-then-n-ge8 : goal.returns-then-n-ge8
unfolding token_ok
returns-then-n-ge8 c =
    let s = c.args.list.now in
    let at = c.args.at in
    simp (sym c.whole_at.ensures ∙ c.if-not-whole_at.false, le-leb _ _ (rw c.half_at-n.ensures.0 at c.if-n-ge8.true))
    (c.payload_ok.ensures ∙ ap (λ (p : Payload). payload_ok p s at) (c.payload_of.ensures ∙ ap payload_of c.kind_at.ensures ∙ payload_of_byte (kind_at s at)))

pub returns-else-n-ge8 : goal.returns-else-n-ge8
unfolding token_ok
returns-else-n-ge8 c =
    simp (sym c.whole_at.ensures ∙ c.if-not-whole_at.false, c.half_at-n.ensures.0, lt-leb _ _ (rw c.half_at-n.ensures.0 at c.if-n-ge8.false))
