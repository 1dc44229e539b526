-- The chain of methods lays the immediate format out.
use Rattle.std.proofs.Common.{◌≡◌, ◌∙◌}
use Rattle.field.specs.Field.{set_field}
use Rattle.registers.specs.Numbers.{register_number}
use Rattle.registers.specs.NumberLaws.{register_lt}
use Rattle.instructions.specs.Bases.{instruction_base}
use Rattle.instructions.specs.declared.Opcode.TheVariants.{Op}
use Rattle.word.proofs.LayoutLaws.{immediate_word}
use Rattle.loading.proofs.immediate_word.Goals as goal

pub returns : goal.returns
returns c =
    let a = c.args in
    let s = register_number a.source in
    let t = register_number a.temp in
    let chain : c.finish.result ≡ set_field (set_field (set_field (instruction_base (Op a.opcode)) 16 5 t) 21 5 s) 0 16 a.imm = cc in
    chain ∙ immediate_word (Op a.opcode) s t a.imm (register_lt a.source) (register_lt a.temp)
