use Rattle.std.proofs.Common.{ℕ, length-append, ap, length, arith}
use Rattle.dry_run_text.proofs.LinesLaws.{fields_next}
use Rattle.dry_run_text.proofs.lines.put_hex_fields.Goals as goal

pub put_hex_field-requires : goal.put_hex_field-requires
put_hex_field-requires g c =
    let l = c.loop-number in
    omega (arith, length-append {A = ℕ}, ap length (rw (fields_next c.args.numbers.now l.number-index c.loop-number-test.true) at l.invariant), c.requires)
