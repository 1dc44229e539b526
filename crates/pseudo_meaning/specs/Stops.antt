-- The forms that fail P11 (document 02): every run of them stops, whatever the job, and where. They compare with the Rust's function 41, at
-- which a dry run stops; the manual's SLTU is 43. Assumes nothing.
use Rattle.std.specs.Prelude.{ℕ, ◌+◌, ◌*◌, ◌≡◌, Bool, true, length}
use Rattle.field.specs.Wrap.{wrap32}
use Rattle.pseudo_names.specs.declared.Pseudo.{Pseudo}
use Rattle.pseudo_names.specs.declared.Pseudo.TheVariants.{BranchCustom, SetCustom, Seq, Sne}
use Rattle.operand.specs.declared.InstructionValue.{InstructionValue}
use Rattle.operand_list.specs.OperandLists.{AskedAll}
use Rattle.emit_dispatch.specs.Wants.{pseudo_wants}
use Rattle.emit_dispatch.specs.LineLoads.{value_loads, loading_words}
use Rattle.machine.specs.declared.Machine.{Machine}
use Rattle.machine.specs.declared.Reason.TheVariants.{Word}
use Rattle.dry_run_outcome.specs.declared.DryRun.{DryRun}
use Rattle.dry_run_outcome.specs.DryRun.{stopped}
use Rattle.pseudo_meaning.specs.Lines.{Emitted, LineInBuild, line_pc}
use Rattle.pseudo_meaning.specs.Premises.{Placed, Ready}
use Rattle.pseudo_meaning.specs.Meaning.{line_run}

-- the run stops at a word, after `steps` steps from pc, each to the next word
pub record StopsAfter (steps pc : ℕ) (o : DryRun) : Type 0 where
  pub answer_is : o.answer ≡ stopped Word steps
  pub pc_is : o.machine.pc ≡ wrap32 (pc + 4 * steps)

-- how many words load the second compared value: none if it is a register
abbrev pub load_steps : InstructionValue → ℕ
load_steps v = length (loading_words (value_loads v))

module _ (site : LineInBuild) where
  -- every run of a line of p stops, after as many steps as `steps` gives for its operands
  abbrev pub LineStops : (p : Pseudo) → (AskedAll (pseudo_wants p) → ℕ) → Type 0
  LineStops p steps =
      (x : AskedAll (pseudo_wants p)) (m : Machine) → Emitted site.job site.call p x → Placed site → Ready (line_pc site) m → StopsAfter (steps x) (line_pc site) (line_run site m)

  -- bltu, bgtu, bleu, bgeu: at the comparison, after the words that load the literal
  abbrev pub BranchStops : (greater result : Bool) → Type 0
  BranchStops greater result = LineStops (BranchCustom greater result true) (λ x. load_steps x.1)

  -- sgeu, sgtu, sleu: the same
  abbrev pub SetStops : (greater result : Bool) → Type 0
  SetStops greater result = LineStops (SetCustom greater result true) (λ x. load_steps x.2)

  -- seq, sne: one word later, after the difference
  abbrev pub SeqStops : Type 0
  SeqStops = LineStops Seq (λ x. load_steps x.2 + 1)

  abbrev pub SneStops : Type 0
  SneStops = LineStops Sne (λ x. load_steps x.2 + 1)
