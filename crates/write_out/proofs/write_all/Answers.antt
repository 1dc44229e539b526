use Rattle.std.proofs.Common.{List, length, refl, ap, ◌∙◌, arith}
use Rattle.std.specs.Prelude.{replicate}
use Rattle.record.specs.Stores.{append}
use Rattle.written_out.specs.Written.{Step}
use Rattle.written_out.specs.Outcome.{answer_from}
use Rattle.macro_tokens.specs.Places.{only}
use Rattle.write_out.specs.Body.{written_from}
use Rattle.write_out.proofs.CallsLaws.{outer_ready, outer_is}
use Rattle.write_out.proofs.write_all.Goals as goal

pub write_body-requires : goal.write_body-requires
write_body-requires c =
    (outer_ready c.args.source.now.text.now c.args.source.now.macros.now (replicate 8 0) refl c.requires.0 c.requires.1, omega arith)

pub returns : goal.returns
returns c =
    let a = c.args in
    let e = outer_is a.source.now.text.now a.source.now.macros.now (replicate 8 0) refl c.requires.0 c.requires.1 in
    record {
      value = c.write_body.ensures.value ∙ ap (answer_from (length a.out.now) 0) e;
      out_after = c.write_body.ensures.out_after ∙ ap (λ (x : List Step). append a.out.now 0 (only a.really (written_from (length a.out.now) 0 x))) e;
    }
