use Rattle.std.proofs.Common.{rules}
use Rattle.input.proofs.RegisterBytesLaws.{all_read}
use Rattle.input.proofs.registers_in.Goals as goal

pub returns : goal.returns
returns c =
    let made = c.from_fn.ensures.items in
    all_read _ _ c.args.bytes.now (λ i y q k. search rules) 32 0 _ made.long made.each
