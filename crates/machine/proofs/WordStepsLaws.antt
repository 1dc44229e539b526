-- What one word does in a dry run, from its fields. Assumes nothing.
use Rattle.std.specs.Prelude.{◌≡◌, ℕ, ◌+◌, ◌-◌, ◌^◌, not, ◌==◌, bit_xor, int_lt}
use Rattle.std.proofs.Common.{arith, ◌∙◌}
use Rattle.std.proofs.Math.Path.{refl}
use Rattle.std.specs.Int.Signed.{shr_z}
use Rattle.field.specs.Wrap.{wrap32}
use Rattle.field.specs.Bit.{bit}
use Rattle.loading.specs.Run.{read_register, write_register}
use Rattle.machine.specs.Numbers.{signed, bits}
use Rattle.machine.specs.Instructions.{table, opcode, rs, rt, rd, sa, function, immediate, instruction_of}
use Rattle.machine.proofs.InstructionsLaws.{named, special}
use Rattle.machine.specs.Effects.{next_pc, branch_if, effect_of}
use Rattle.machine.specs.Step.{goes, stops, at, apply, step_word}
use Rattle.machine.specs.declared.Instruction.{Instruction}
use Rattle.machine.specs.declared.Instruction.TheVariants.{Slt, Subu, Xor, Xori, Sra, Beq, Bne, Other}
use Rattle.machine.specs.declared.Effect.{Effect}
use Rattle.machine.specs.declared.Machine.{Machine}
use Rattle.machine.specs.declared.Reason.TheVariants.{Word}

-- the machine behind a word that sets the register r to v
abbrev pub setting : Machine → (r v : ℕ) → Machine
setting m r v = at (next_pc m.pc) (write_register m.registers r v)

abbrev pub held : Machine → ℕ → ℕ
held m r = read_register m.registers r

module _ (w : ℕ) (m : Machine) where
  by_instruction : (i : Instruction) (e : Effect) → instruction_of w ≡ i → effect_of i w m.pc (held m (rs w)) (held m (rt w)) ≡ e → step_word w m ≡ apply e w m
  unfolding step_word
  by_instruction i e f g = rw (f, g)

  pub slt_step : opcode w ≡ 0 → function w ≡ 42 → sa w ≡ 0 → step_word w m ≡ goes (setting m (rd w) (bit (int_lt (signed (held m (rs w))) (signed (held m (rt w))))))
  unfolding effect_of table
  slt_step o f z = by_instruction Slt _ (special w 42 (λ x. omega arith) o f ∙ rw z) refl

  pub subu_step : opcode w ≡ 0 → function w ≡ 35 → sa w ≡ 0 → step_word w m ≡ goes (setting m (rd w) (wrap32 (held m (rs w) + 2 ^ 32 - held m (rt w))))
  unfolding effect_of table
  subu_step o f z = by_instruction Subu _ (special w 35 (λ x. omega arith) o f ∙ rw z) refl

  pub xor_step : opcode w ≡ 0 → function w ≡ 38 → sa w ≡ 0 → step_word w m ≡ goes (setting m (rd w) (bit_xor (held m (rs w)) (held m (rt w))))
  unfolding effect_of table
  xor_step o f z = by_instruction Xor _ (special w 38 (λ x. omega arith) o f ∙ rw z) refl

  pub sra_step : opcode w ≡ 0 → function w ≡ 3 → rs w ≡ 0 → step_word w m ≡ goes (setting m (rd w) (bits (shr_z (signed (held m (rt w))) (2 ^ sa w))))
  unfolding effect_of table
  sra_step o f z = by_instruction Sra _ (special w 3 (λ x. omega arith) o f ∙ rw z) refl

  pub xori_step : opcode w ≡ 14 → step_word w m ≡ goes (setting m (rt w) (bit_xor (held m (rs w)) (immediate w)))
  unfolding effect_of table
  xori_step o = by_instruction Xori _ (named w 14 (λ x. omega arith) o) refl

  pub beq_step : opcode w ≡ 4 → step_word w m ≡ apply (branch_if (held m (rs w) == held m (rt w)) m.pc w) w m
  unfolding effect_of table
  beq_step o = by_instruction Beq _ (named w 4 (λ x. omega arith) o) refl

  pub bne_step : opcode w ≡ 5 → step_word w m ≡ apply (branch_if (not (held m (rs w) == held m (rt w))) m.pc w) w m
  unfolding effect_of table
  bne_step o = by_instruction Bne _ (named w 5 (λ x. omega arith) o) refl

  -- Function 41 is the Rust's unsigned comparison. The manual has no such word, so the run stops.
  pub no_sltu : opcode w ≡ 0 → function w ≡ 41 → step_word w m ≡ stops Word
  unfolding effect_of table
  no_sltu o f = by_instruction Other _ (special w 41 (λ x. omega arith) o f) refl
