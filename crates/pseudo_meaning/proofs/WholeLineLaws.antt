-- A run of a whole line from its pc: the words that load its literal, and then its own. Assumes nothing.
use Rattle.std.specs.Prelude.{ℕ, ◌+◌, ◌*◌, ◌%◌, ◌^◌, ◌<◌, ◌≡◌, Bool, true, false, cond, List, [], ◌∷◌, ◌++◌, length}
use Rattle.std.proofs.Common.{arith, ap, ap₂, ◌∙◌}
use Rattle.field.specs.Bit.{bit}
use Rattle.operand.specs.declared.InstructionValue.{InstructionValue}
use Rattle.loading.specs.Run.{Registers, read_register, write_register}
use Rattle.loading.proofs.Loading.{read_chosen, read_other, length_write}
use Rattle.reading.specs.Reading.{Image}
use Rattle.machine.specs.Effects.{next_pc, branch_target}
use Rattle.machine.specs.Step.{at}
use Rattle.machine.specs.declared.Reason.TheVariants.{Allowance}
use Rattle.dry_run_outcome.specs.Run.{later, run, ran_for}
use Rattle.formats.proofs.Formats.{Reads, immediate}
use Rattle.formats.proofs.EncodingFormats.{value_in}
use Rattle.emit_dispatch.specs.LineLoads.{value_loads, loading_words}
use Rattle.formats.proofs.PseudoFormats.{compared}
use Rattle.pseudo_meaning.specs.Comparisons.{compares}
use Rattle.pseudo_meaning.proofs.ComparisonsLaws.{less}
use Rattle.dry_run_outcome.proofs.StandingLaws.{Standing, pc_behind, behind_is, standing_right}
use Rattle.pseudo_meaning.proofs.LineRunsLaws.{branch_runs, set_runs, turned_runs, loaded_into, value_held, FirstKept, value_then, second_held, first_held, loaded_others, loaded_length}

-- A run of n words from pc: it leaves v in the register d, and changes no other register but $at.
pub record LeavesIn (image : Image) (pc n : ℕ) (g : Registers) (d v : ℕ) : Type 0 where
  pub after : Registers
  pub runs : run n image (at pc g) ≡ ran_for n (at ((pc + 4 * n) % 2 ^ 32) after) Allowance
  pub result : read_register after d ≡ v
  pub others : (r : ℕ) → (r ≡ d → ⊥) → (r ≡ 1 → ⊥) → read_register after r ≡ read_register g r

-- A run of n words, a comparison, and the branch w. It goes to the target if the comparison holds, and changes no register but $at.
pub record GoesBy (image : Image) (pc n w : ℕ) (g : Registers) (holds : Bool) : Type 0 where
  pub after : Registers
  pub runs : run (n + 2) image (at pc g) ≡ ran_for (n + 2) (at (cond holds (branch_target ((pc + 4 * n + 4) % 2 ^ 32) w) ((pc + 4 * (n + 2)) % 2 ^ 32)) after) Allowance
  pub others : (r : ℕ) → (r ≡ 1 → ⊥) → read_register after r ≡ read_register g r

module _ (image : Image) (pc : ℕ) (hp : pc < 2 ^ 32) (g : Registers) (hg : length g ≡ 32) (v : InstructionValue) where
  abbrev loads : List ℕ
  loads = loading_words (value_loads v)

  abbrev g' : Registers
  g' = loaded_into g v

  abbrev pc' : ℕ
  pc' = pc_behind loads pc

  behind : pc' ≡ (pc + 4 * length loads) % 2 ^ 32
  behind = behind_is loads pc hp

  -- Both operands are as they were before the line.
  operands : (greater result : Bool) (a : ℕ) → FirstKept a v → compares greater result (read_register g' a) (read_register g' (value_in v)) ≡ compares greater result (read_register g a) (value_held g v)
  operands greater result a k = ap₂ (compares greater result) (first_held g hg v a k) (second_held g hg v)

  pub branch_line : (greater result : Bool) (a n w b : ℕ) → FirstKept a v → Standing image pc (loads ++ w ∷ b ∷ []) → Reads w (compared greater false 1 a (value_in v))
      → Reads b (immediate (elim result [ true ↦ 5 | false ↦ 4 ]) 1 0 n) → GoesBy image pc (length loads) b g (compares greater result (read_register g a) (value_held g v))
  branch_line greater result a n w b k s cw rb =
      let t = less greater (read_register g' a) (read_register g' (value_in v)) in
      let p₁ : next_pc pc' ≡ (pc + 4 * length loads + 4) % 2 ^ 32 = omega (arith, behind) in
      let p₂ : next_pc (next_pc pc') ≡ (pc + 4 * (length loads + 2)) % 2 ^ 32 = omega (arith, behind) in
      record {
        after = write_register g' 1 (bit t);
        runs =
            value_then image pc g hg (w ∷ b ∷ []) v 2 s
            ∙ ap (later (length loads)) (branch_runs image pc' g' (loaded_length g hg v) greater result w b a (value_in v) n (standing_right loads (w ∷ b ∷ []) s) cw rb)
            ∙ ap (λ (h : Bool). ran_for (length loads + 2) (at (cond h (branch_target (next_pc pc') b) (next_pc (next_pc pc'))) (write_register g' 1 (bit t))) Allowance) (operands greater result a k)
            ∙ ap₂ (λ (x y : ℕ). ran_for (length loads + 2) (at (cond (compares greater result (read_register g a) (value_held g v)) (branch_target x b) y) (write_register g' 1 (bit t))) Allowance) p₁ p₂;
        others = λ r n. read_other g' 1 (bit t) r n ∙ loaded_others g hg v r n;
      }

  pub set_line : (greater : Bool) (d a w : ℕ) → d < 32 → (d ≡ 0 → ⊥) → FirstKept a v → Standing image pc (loads ++ w ∷ []) → Reads w (compared greater false d a (value_in v))
      → LeavesIn image pc (length loads + 1) g d (bit (compares greater true (read_register g a) (value_held g v)))
  set_line greater d a w hd nd k s cw =
      let x = bit (compares greater true (read_register g' a) (read_register g' (value_in v))) in
      let p₁ : next_pc pc' ≡ (pc + 4 * (length loads + 1)) % 2 ^ 32 = omega (arith, behind) in
      let n' = loaded_length g hg v in
      record {
        after = write_register g' d x;
        runs =
            value_then image pc g hg (w ∷ []) v 1 s
            ∙ ap (later (length loads)) (set_runs image pc' g' n' greater w d a (value_in v) (standing_right loads (w ∷ []) s) cw)
            ∙ ap (λ (y : ℕ). ran_for (length loads + 1) (at y (write_register g' d x)) Allowance) p₁;
        result = read_chosen g' d x (omega arith) nd ∙ ap bit (operands greater true a k);
        others = λ r n m. read_other g' d x r n ∙ loaded_others g hg v r m;
      }

  pub turned_line : (greater : Bool) (d a w y : ℕ) → d < 32 → (d ≡ 0 → ⊥) → FirstKept a v → Standing image pc (loads ++ w ∷ y ∷ []) → Reads w (compared greater false d a (value_in v))
      → Reads y (immediate 14 d d 1) → LeavesIn image pc (length loads + 2) g d (bit (compares greater false (read_register g a) (value_held g v)))
  turned_line greater d a w y hd nd k s cw ry =
      let t = bit (less greater (read_register g' a) (read_register g' (value_in v))) in
      let x = bit (compares greater false (read_register g' a) (read_register g' (value_in v))) in
      let p₁ : next_pc (next_pc pc') ≡ (pc + 4 * (length loads + 2)) % 2 ^ 32 = omega (arith, behind) in
      let n' = loaded_length g hg v in
      let n'' : length (write_register g' d t) ≡ 32 = length_write g' d t ∙ n' in
      record {
        after = write_register (write_register g' d t) d x;
        runs =
            value_then image pc g hg (w ∷ y ∷ []) v 2 s
            ∙ ap (later (length loads)) (turned_runs image pc' g' n' greater w y d a (value_in v) hd nd (standing_right loads (w ∷ y ∷ []) s) cw ry)
            ∙ ap (λ (z : ℕ). ran_for (length loads + 2) (at z (write_register (write_register g' d t) d x)) Allowance) p₁;
        result = read_chosen (write_register g' d t) d x (omega arith) nd ∙ ap bit (operands greater false a k);
        others = λ r n m. read_other (write_register g' d t) d x r n ∙ read_other g' d t r n ∙ loaded_others g hg v r m;
      }
