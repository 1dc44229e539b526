-- A dry run that starts at a line: it is not refused, and its registers read as given. Assumes nothing.
use Rattle.std.specs.Prelude.{ℕ, ◌%◌, ◌<◌, ◌≡◌, Bool, List, [], ◌∷◌, length, set}
use Rattle.std.proofs.Common.{arith, ap, ◌∙◌, length-set, get_or-set_other, eq-eqb}
use Rattle.std.proofs.Math.Path.{refl}
use Rattle.std.proofs.Math.Bool.{true, false}
use Rattle.std.proofs.Math.Dec.{eqb}
use Rattle.std.proofs.lemmas.Bool.{eqb-false}
use Rattle.registers.specs.Numbers.{register_number}
use Rattle.registers.specs.declared.RegisterSlot.{RegisterSlot}
use Rattle.operand.specs.declared.InstructionValue.{InstructionValue}
use Rattle.operand.specs.declared.InstructionValue.TheVariants.{Slot, Literal}
use Rattle.reading.specs.Reading.{image_of}
use Rattle.loading.specs.Run.{Registers, read_register}
use Rattle.machine.specs.Step.{at}
use Rattle.machine.specs.declared.Machine.{Machine}
use Rattle.dry_run_outcome.specs.Run.{run}
use Rattle.dry_run_outcome.proofs.StandingLaws.{Standing, next}
use Rattle.dry_run_outcome.specs.DryRun.{can_start, dry_run_outcome}
use Rattle.dry_run_outcome.proofs.DryRunLaws.{stopped_run, outcome_run}
use Rattle.pseudo_meaning.proofs.LineRunsLaws.{FirstKept, value_held}
use Rattle.pseudo_meaning.specs.Lines.{LineInBuild, line_words, line_pc}
use Rattle.pseudo_meaning.specs.Premises.{Placed, Ready, FirstStays}
use Rattle.pseudo_meaning.specs.Meaning.{value_of, line_run}
use Rattle.pseudo_meaning.proofs.ExitLaws.{patched, is_finished, kept}

-- the registers that the run starts with: $zero is 0
module _ (m : Machine) (l : length m.registers ≡ 32) where
  abbrev pub given : Registers
  given = set m.registers 0 0

  pub given_length : length given ≡ 32
  given_length = length-set m.registers 0 0 ∙ l

  pub given_reads : (r : ℕ) → read_register given r ≡ read_register m.registers r
  unfolding read_register
  given_reads r = go (eqb r 0) refl
    where
      go : (b : Bool) → eqb r 0 ≡ b → read_register given r ≡ read_register m.registers r
      go true e = rw (e, read_register)
      go false e = rw (e, read_register) (get_or-set_other m.registers 0 r 0 0 (eqb-false r 0 e))

  pub value_same : (v : InstructionValue) → value_held given v ≡ value_of m v
  value_same (Slot r) = given_reads (register_number r)
  value_same (Literal n) = refl

pub first_kept : (r : RegisterSlot) (v : InstructionValue) → FirstStays r v → FirstKept (register_number r) v
first_kept r (Slot s) h = h
first_kept r (Literal n) h = h

-- A line of at least one word runs.
pub line_runs : (site : LineInBuild) (pl : Placed site) (m : Machine) (rd : Ready (line_pc site) m) (ws : List ℕ) → 0 < length ws → Standing (image_of (patched site)) (line_pc site) ws
    → line_run site m ≡ stopped_run (run (line_words site) (image_of (patched site)) (at (line_pc site) (given m rd.all_32)))
line_runs site pl m rd [] h s = absurd (omega arith)
line_runs site pl m rd (w ∷ ws) h (next f s) =
    let start : can_start (image_of (patched site)) m.pc ≡ true = rw (rd.there, f, eq-eqb (line_pc site % 4) 0 pl.aligned) in
    ap (λ (l : List ℕ). dry_run_outcome l m (line_words site)) (is_finished site pl)
    ∙ outcome_run (patched site) m (line_words site) (kept site pl).layout_good start
    ∙ ap (λ (p : ℕ). stopped_run (run (line_words site) (image_of (patched site)) (at p (given m rd.all_32)))) rd.there
