-- The steps of a run: what the loop knows before each step, and what each step does. Assumes nothing.
use Rattle.std.specs.Prelude.{◌≡◌, ℕ, ◌+◌, ◌-◌, ◌<◌, ◌≤◌, Bool, true, false, set, ◌==◌, slice_index, slice_set, refl, None, Option, Some}
use Rattle.std.proofs.Common.{arith, sym, ap, ap₂, ◌∙◌, set-set, get_or-set_other, eqb-true}
use Rattle.std.proofs.lemmas.Bool.{eqb-false}
use Rattle.loading.specs.Run.{Registers, read_register, write_register}
use Rattle.reading.specs.Reading.{Image}
use Rattle.machine.specs.declared.Effect.{Effect}
use Rattle.machine.specs.declared.Machine.{Machine}
use Rattle.machine.specs.declared.Reason.{Reason}
use Rattle.machine.specs.declared.Reason.TheVariants.{Allowance, Pc}
use Rattle.machine.specs.Instructions.{rs, rt, instruction_of}
use Rattle.machine.specs.Effects.{next_pc, effect_of}
use Rattle.machine.specs.Step.{goes, stops, at, apply, step_word, Zero}
use Rattle.dry_run_outcome.specs.Fetch.{fetch}
use Rattle.dry_run_outcome.specs.Run.{step, later, run, ran_for}
use Rattle.dry_run_outcome.proofs.RunLaws.{loop_start, loop_end, loop_goes, loop_stops}
use Rattle.dry_run_outcome.proofs.Zero.{set_held, step_zero}

-- ---- $zero holds 0, so it reads and writes like any other register

read_held : (g : Registers) (r : ℕ) → Zero g → read_register g r ≡ slice_index g r
unfolding read_register
read_held g r z = go (r == 0) refl
  where
    go : (b : Bool) → (r == 0) ≡ b → read_register g r ≡ slice_index g r
    go true e = rw (e, read_register) (sym (ap (λ (i : ℕ). slice_index g i) (eqb-true r 0 e) ∙ z))
    go false e = rw (e, read_register)

write_held : (g : Registers) (r v : ℕ) → Zero g → slice_set (slice_set g r v) 0 0 ≡ write_register g r v
unfolding write_register
write_held g r v z = go (r == 0) refl
  where
    go : (b : Bool) → (r == 0) ≡ b → slice_set (slice_set g r v) 0 0 ≡ write_register g r v
    go true e = rw (e, write_register) (ap (λ (i : ℕ). set (slice_set g i v) 0 0) (eqb-true r 0 e) ∙ set-set g 0 v 0 ∙ set_held g z)
    go false e = rw (e, write_register) (set_held (slice_set g r v) (get_or-set_other g r 0 v 0 (λ x. eqb-false r 0 e (sym x)) ∙ z))

-- ---- one step

pub step_none : (image : Image) (m : Machine) (f : Option ℕ) → f ≡ fetch image m.pc → f ≡ None → step image m ≡ stops Pc
unfolding step
step_none image m f e k = rw (sym e ∙ k)

pub step_word_lem : (image : Image) (m : Machine) (f : Option ℕ) (w s t : ℕ) (e : Effect) → Zero m.registers → f ≡ fetch image m.pc → f ≡ Some w
    → s ≡ slice_index m.registers (rs w) → t ≡ slice_index m.registers (rt w) → e ≡ effect_of (instruction_of w) w m.pc s t → step image m ≡ apply e w m
unfolding step step_word
step_word_lem image m f w s t e z a b hs ht he =
    rw (sym a ∙ b, read_held m.registers (rs w) z, read_held m.registers (rt w) z, ← hs, ← ht, ← he)

-- A register is set, and then $zero is set back to 0.
pub step_sets : (image : Image) (m : Machine) (r k v pc : ℕ) → Zero m.registers → k ≡ r → pc ≡ next_pc m.pc
    → step image m ≡ goes (at (next_pc m.pc) (write_register m.registers r v)) → step image m ≡ goes (at pc (slice_set (slice_set m.registers k v) 0 0))
step_sets image m r k v pc z hk hp e =
    e ∙ ap₂ (λ (p : ℕ) (g : Registers). goes (at p g)) (sym hp)
    (sym (write_held m.registers k v z ∙ ap (λ (i : ℕ). write_register m.registers i v) hk))

-- ---- before each step

pub record Here (image : Image) (allowance : ℕ) (m₀ m : Machine) (steps : ℕ) : Type 0 where
  pub within : steps ≤ allowance
  pub zero_held : Zero m.registers
  pub so_far : run allowance image m₀ ≡ later steps (run (allowance - steps) image m)

pub here_start : (image : Image) (allowance : ℕ) (m : Machine) → Zero m.registers → Here image allowance m m 0
here_start image allowance m z = record { within = omega arith; zero_held = z; so_far = loop_start allowance image m }

module _ (image : Image) (allowance : ℕ) (m₀ m : Machine) (steps : ℕ) (h : Here image allowance m₀ m steps) where
  pub here_end : allowance ≤ steps → ran_for steps m Allowance ≡ run allowance image m₀
  here_end k = sym (h.so_far ∙ loop_end allowance image m steps h.within k)

  module _ (k : steps < allowance) where
    pub here_goes : (m' : Machine) → step image m ≡ goes m' → Here image allowance m₀ m' (steps + 1)
    here_goes m' e = record {
      within = omega arith;
      zero_held = step_zero image m m' e h.zero_held;
      so_far = h.so_far ∙ loop_goes allowance image m steps k m' e;
    }

    pub here_stops : (reason : Reason) → step image m ≡ stops reason → ran_for steps m reason ≡ run allowance image m₀
    here_stops reason e = sym (h.so_far ∙ loop_stops allowance image m steps k reason e)
