use Rattle.std.proofs.Common.{◌≢◌, arith, sym, ◌∙◌, ne_eqb}
use Rattle.machine.specs.Instructions.{table}
use Rattle.machine.proofs.InstructionsLaws.{named}
use Rattle.machine.proofs.words.decode.Goals as goal

-- No row of the table has this opcode.
pub returns-in_default : goal.returns-in_default
unfolding table
returns-in_default c =
    let o = c.field.result in
    let n : (o ≢ 0) × (o ≢ 2) × (o ≢ 4) × (o ≢ 5) × (o ≢ 8) × (o ≢ 9) × (o ≢ 13) × (o ≢ 14) × (o ≢ 15) = omega arith in
    sym
    (rw (
      ne_eqb o 0 n.0,
      ne_eqb o 2 n.1,
      ne_eqb o 4 n.2,
      ne_eqb o 5 n.3,
      ne_eqb o 8 n.4,
      ne_eqb o 9 n.5,
      ne_eqb o 13 n.6,
      ne_eqb o 14 n.7,
      ne_eqb o 15 n.8,
    ))
    ∙ sym (named c.args.word o n.0 (sym c.field.ensures.0))
