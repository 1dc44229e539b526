-- `abs_first_word` meets its contract: by the job, its chain of methods or `sham_word` lays the word out.
use Rattle.std.proofs.Common.{sym, ◌∙◌}
use Rattle.instructions.specs.declared.Opcode.TheVariants.{Func}
use Rattle.registers.specs.Numbers.{register_number}
use Rattle.registers.specs.declared.RegisterSlot.TheVariants.{AssemblerTemporary}
use Rattle.emit_words.proofs.WordsLaws.{base, with_dest, with_temp, is_immediate, abs_commit}
use Rattle.emit_words.proofs.abs_first_word.Goals as goal

pub returns-else-by_manual : goal.returns-else-by_manual
returns-else-by_manual c =
    let source = c.args.source in
    rw (sym c.by_manual.ensures ∙ c.if-by_manual.false)
    (is_immediate (with_temp (with_dest (base (Func 3)) AssemblerTemporary) source) 31 (cc) ∙ abs_commit (register_number source))
