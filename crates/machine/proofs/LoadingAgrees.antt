-- The dry run and the run of the words that load a constant (crate loading) agree on the instructions that they share: addiu, ori and lui.
-- Assumes nothing.
use Rattle.std.specs.Prelude.{◌≡◌, ℕ, Bool, true, false, ◌==◌}
use Rattle.std.proofs.Common.{arith, ◌∙◌}
use Rattle.std.proofs.Math.Path.{refl}
use borrow.Author.Tests.{eqb-true}
use Rattle.loading.specs.Run.{Registers, read_register, write_register, ran, failed, execute, step}
use Rattle.machine.specs.Instructions.{table, opcode, rs, rt, instruction_of}
use Rattle.machine.proofs.InstructionsLaws.{named}
use Rattle.machine.specs.Effects.{next_pc, effect_of}
use Rattle.machine.specs.Step.{goes, at, step_word}
use Rattle.machine.specs.declared.Instruction.{Instruction}
use Rattle.machine.specs.declared.Instruction.TheVariants.{Addiu, Ori, Lui}
use Rattle.machine.specs.declared.Effect.TheVariants.{SetRt}
use Rattle.machine.specs.declared.Machine.{Machine}

module _ (w : ℕ) (m : Machine) (g : Registers) where
  -- an instruction that sets rt
  sets : (i : Instruction) (v : ℕ) → instruction_of w ≡ i → effect_of i w m.pc (read_register m.registers (rs w)) (read_register m.registers (rt w)) ≡ SetRt v
      → ran (write_register m.registers (rt w) v) ≡ ran g → step_word w m ≡ goes (at (next_pc m.pc) g)
  unfolding step_word
  sets i v e f h =
      let k : write_register m.registers (rt w) v ≡ g = cc in
      rw (e, f, k)

  -- The dry run makes of a word what the loading run makes of it. Only the loading run takes a lui whose rs is not zero.
  pub agrees : step w m.registers ≡ ran g → (opcode w ≡ 15 → rs w ≡ 0) → step_word w m ≡ goes (at (next_pc m.pc) g)
  unfolding execute effect_of table
  agrees r z = go (opcode w == 9) refl (opcode w == 13) refl (opcode w == 15) refl
    where
      go : (a : Bool) → (opcode w == 9) ≡ a → (b : Bool) → (opcode w == 13) ≡ b → (c : Bool) → (opcode w == 15) ≡ c → step_word w m ≡ goes (at (next_pc m.pc) g)
      go true e b f c k = sets Addiu _ (named w 9 (λ x. omega arith) (eqb-true (opcode w) 9 e)) refl (rw (e, execute) at r)
      go false e true f c k = sets Ori _ (named w 13 (λ x. omega arith) (eqb-true (opcode w) 13 f)) refl (rw (e, f, execute) at r)
      go false e false f true k =
          let o : opcode w ≡ 15 = eqb-true (opcode w) 15 k in
          sets Lui _ (named w 15 (λ x. omega arith) o ∙ rw (z o)) refl (rw (e, f, k, execute) at r)
      go false e false f false k =
          let x : failed ≡ ran g = rw (e, f, k, execute) at r in
          let y : ◌≡◌ {A = ℕ} 0 1 = cc in
          absurd (omega arith)
