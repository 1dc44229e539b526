use Rattle.std.proofs.Common.{sym}
use Rattle.macro_tokens.proofs.ArgumentsLaws.{with_comma, with_comment, with_stored, with_counted}
use Rattle.macro_tokens.proofs.take.Goals as goal
use Rattle.macro_tokens.proofs.take.Goals.{then-kind-eq-COMMA-via-then-kind-eq-COMMA, then-kind-eq-COMMA-via-else-kind-eq-COMMA+then-kind-eq-COMMENT, then-taken-lt8, else-taken-lt8}

pub returns-then-kind-eq-COMMA : goal.returns-then-kind-eq-COMMA
returns-then-kind-eq-COMMA c =
    elim c.then-kind-eq-COMMA.branch [
      | then-kind-eq-COMMA-via-then-kind-eq-COMMA w ↦ sym (with_comma c.args.taken.now c.args.kind c.args.place w.if-kind-eq-COMMA.true)
      | then-kind-eq-COMMA-via-else-kind-eq-COMMA+then-kind-eq-COMMENT w ↦
          sym (with_comment c.args.taken.now c.args.kind c.args.place w.if-kind-eq-COMMA.false w.if-kind-eq-COMMENT.true)
    ]

pub returns : goal.returns
returns c =
    elim c.if-taken-lt8.branch [
      | then-taken-lt8 w ↦
          rw w.taken-is (sym (with_stored c.args.taken.now c.args.kind c.args.place c.if-kind-eq-COMMA.false c.if-kind-eq-COMMENT.false w.if-taken-lt8.true))
      | else-taken-lt8 w ↦
          rw w.taken-is (sym (with_counted c.args.taken.now c.args.kind c.args.place c.if-kind-eq-COMMA.false c.if-kind-eq-COMMENT.false w.if-taken-lt8.false))
    ]
