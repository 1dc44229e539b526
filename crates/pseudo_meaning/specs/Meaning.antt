-- What P11 claims (document 02) about every accepted line in every accepted build, whatever the job of either, and from every state.
-- Assumes nothing.
use Rattle.std.specs.Prelude.{ℕ, ◌^◌, ◌<◌, ◌≡◌, Bool, true, false, cond, nat_abs}
use Rattle.field.specs.Wrap.{wrap32}
use Rattle.field.specs.Bit.{bit}
use Rattle.jobs.specs.Jobs.{by_manual}
use Rattle.registers.specs.Numbers.{register_number}
use Rattle.registers.specs.declared.RegisterSlot.{RegisterSlot}
use Rattle.emit_pairs.specs.Pairs.{at_number}
use Rattle.pseudo_names.specs.declared.Pseudo.TheVariants.{Abs, BranchCustom, SetCustom}
use Rattle.operand.specs.declared.InstructionValue.{InstructionValue}
use Rattle.operand.specs.declared.InstructionValue.TheVariants.{Slot, Literal}
use Rattle.operand_list.specs.OperandLists.{AskedAll}
use Rattle.emit_dispatch.specs.Wants.{pseudo_wants}
use Rattle.loading.specs.Load.{low32}
use Rattle.loading.specs.Run.{read_register}
use Rattle.machine.specs.Numbers.{signed}
use Rattle.machine.specs.declared.Machine.{Machine}
use Rattle.machine.specs.declared.Reason.TheVariants.{Allowance}
use Rattle.dry_run_outcome.specs.declared.DryRun.{DryRun}
use Rattle.dry_run_outcome.specs.DryRun.{stopped, dry_run_outcome}
use Rattle.pseudo_meaning.specs.Comparisons.{compares}
use Rattle.pseudo_meaning.specs.Lines.{Emitted, LineInBuild, line_words, line_pc, after_pc}
use Rattle.pseudo_meaning.specs.Premises.{finished_regions, Placed, Reached, FirstStays, Ready}

-- what a register holds
abbrev pub held_by : Machine → RegisterSlot → ℕ
held_by m r = read_register m.registers (register_number r)

-- "32-bit values": a literal's value is its low 32 bits
abbrev pub value_of : Machine → InstructionValue → ℕ
value_of m (Slot r) = held_by m r
value_of m (Literal n) = low32 n

-- "leave the pc at the destination where the comparison of 32-bit values holds and at the word after the line where it does not, changing
-- only $at"; the run takes all the steps allowed
pub record Branches (holds : Bool) (dest behind steps : ℕ) (m : Machine) (o : DryRun) : Type 0 where
  pub ran_all : o.answer ≡ stopped Allowance steps
  pub pc_is : o.machine.pc ≡ cond holds dest behind
  pub only_at : (r : ℕ) → (r ≡ at_number → ⊥) → read_register o.machine.registers r ≡ read_register m.registers r

-- "leave 1 where they hold and else 0 in a destination register": d holds v, the pc is after the line, and of the others only $at may change
pub record Leaves (v : ℕ) (d : RegisterSlot) (behind steps : ℕ) (m : Machine) (o : DryRun) : Type 0 where
  pub ran_all : o.answer ≡ stopped Allowance steps
  pub pc_is : o.machine.pc ≡ behind
  pub result : held_by o.machine d ≡ v
  pub others : (r : ℕ) → (r ≡ register_number d → ⊥) → (r ≡ at_number → ⊥) → read_register o.machine.registers r ≡ read_register m.registers r

module _ (site : LineInBuild) where
  -- a dry run from m "for as many steps as they have words"
  abbrev pub line_run : Machine → DryRun
  line_run m = dry_run_outcome (finished_regions site) m (line_words site)

  -- x.0 and x.1 are compared; x.2 is the label
  abbrev pub BranchMeans : (greater result : Bool) → Type 0
  BranchMeans greater result =
      (x : AskedAll (pseudo_wants (BranchCustom greater result false))) (dest : ℕ) (m : Machine)
      → Emitted site.job site.call (BranchCustom greater result false) x → Placed site → Reached site x.2 dest → FirstStays x.0 x.1 → Ready (line_pc site) m
      → Branches (compares greater result (held_by m x.0) (value_of m x.1)) dest (after_pc site) (line_words site) m (line_run m)

  -- "in a destination register other than $zero and $at": x.0. We do not ask that it is not $at, since the claim holds there too.
  abbrev pub SetMeans : (greater result : Bool) → Type 0
  SetMeans greater result =
      (x : AskedAll (pseudo_wants (SetCustom greater result false))) (m : Machine)
      → Emitted site.job site.call (SetCustom greater result false) x → Placed site → FirstStays x.1 x.2 → (register_number x.0 ≡ 0 → ⊥) → Ready (line_pc site) m
      → Leaves (bit (compares greater result (held_by m x.1) (value_of m x.2))) x.0 (after_pc site) (line_words site) m (line_run m)

  -- "In manual jobs, with no $at among its operands, abs leaves the absolute value modulo 2^32 there"; the last premise: a register holds 32 bits
  abbrev pub AbsMeans : Type 0
  AbsMeans =
      (x : AskedAll (pseudo_wants Abs)) (m : Machine)
      → by_manual site.job ≡ true → Emitted site.job site.call Abs x → Placed site
      → (register_number x.0 ≡ 0 → ⊥) → (register_number x.0 ≡ at_number → ⊥) → (register_number x.1 ≡ at_number → ⊥) → Ready (line_pc site) m → held_by m x.1 < 2 ^ 32
      → Leaves (wrap32 (nat_abs (signed (held_by m x.1)))) x.0 (after_pc site) (line_words site) m (line_run m)
