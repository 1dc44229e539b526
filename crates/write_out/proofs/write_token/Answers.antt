use Rattle.std.specs.Prelude.{Err}
use Rattle.std.proofs.Common.{length, sym, ap, ◌∙◌, arith}
use Rattle.record.specs.declared.Location.{Location}
use Rattle.refusal.specs.declared.Refusal.TheVariants.{NoWrittenSpace}
use Rattle.write_out.proofs.FillLaws.{answer_short, one_answered, one_left, short_left}
use Rattle.write_out.proofs.write_token.Goals as goal

pub returns-then-out-fill-clause-value : goal.returns-then-out-fill-clause-value
returns-then-out-fill-clause-value c =
    let a = c.args in
    ap (λ (x : Location). Err (NoWrittenSpace x)) c.location.ensures
    ∙ sym (answer_short (length a.out.now) a.fill a.token.bytes.now _ (omega (arith, c.requires)))

pub returns-then-out-fill-clause-out_after : goal.returns-then-out-fill-clause-out_after
returns-then-out-fill-clause-out_after c =
    let a = c.args in
    short_left a.really a.out.now a.fill a.token.bytes.now (omega (arith, c.requires))

pub returns-clause-value : goal.returns-clause-value
returns-clause-value c =
    let a = c.args in
    sym (one_answered a.really a.out.now a.fill a.token.bytes.now (omega (arith, c.requires)))

pub returns-clause-out_after : goal.returns-clause-out_after
returns-clause-out_after c =
    let a = c.args in
    c.put.ensures ∙ one_left a.really a.out.now a.fill a.token.bytes.now (omega (arith, c.requires))
