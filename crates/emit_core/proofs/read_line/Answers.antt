use Rattle.std.proofs.Common.{length, sym, ap, ◌∙◌, arith}
use Rattle.emit_outcome.specs.Dispatch.{meaning}
use Rattle.emit_core.proofs.EmitLaws.{table_fits}
use Rattle.emit_core.proofs.read_line.Goals as goal

pub dispatch_instruction-answer-requires : goal.dispatch_instruction-answer-requires
dispatch_instruction-answer-requires c =
    let table = c.args.lists.descriptors.now in
    let e = c.new-descriptors.ensures in
    omega (arith, ap length e, table_fits table _ c.in-Table.place c.requires.2 (ap (meaning table) (sym c.read_mnemonic-named.ensures.0) ∙ sym (rw e at c.in-Table.ensures)))
