-- A dry run through the words of a line, wherever they stand: a comparison with its branch, a set, and abs. Assumes nothing.
use Rattle.std.specs.Prelude.{ℕ, ◌+◌, ◌-◌, ◌^◌, ◌<◌, ◌≡◌, refl, Bool, not, cond, List, [], ◌∷◌, ◌++◌, eqb, nat_abs}
use Rattle.std.proofs.Common.{zero-add, arith, sym, ◌∙◌}
use Rattle.std.proofs.Math.Path.{ap, ap₂}
use Rattle.std.proofs.Math.Bool.{true, false}
use Rattle.std.specs.Int.Bits.{bit_xor}
use Rattle.std.proofs.Math.ListN.{length}
use Rattle.field.specs.Wrap.{wrap32}
use Rattle.field.specs.Bit.{bit}
use Rattle.word.proofs.LayoutLaws.{get_opcode, get_rs}
use Rattle.registers.specs.Numbers.{register_number}
use Rattle.operand.specs.declared.InstructionValue.{InstructionValue}
use Rattle.operand.specs.declared.InstructionValue.TheVariants.{Slot, Literal}
use Rattle.loading.specs.declared.LoadForm.{LoadForm}
use Rattle.loading.specs.declared.LoadForm.TheVariants.{Nothing, Addiu, Ori, Lui, BothHalves}
use Rattle.loading.specs.Load.{low32, upper_half, lower_half, form_of, form_words, load_words}
use Rattle.loading.specs.Run.{Registers, read_register, write_register}
use Rattle.loading.proofs.Loading.{read_chosen, read_other, length_write, loading_runs}
use Rattle.reading.specs.Reading.{Image}
use Rattle.machine.specs.Numbers.{signed}
use Rattle.machine.specs.Effects.{next_pc, branch_target, branch_if}
use Rattle.machine.specs.Step.{goes, at, apply, step_word}
use Rattle.machine.specs.declared.Machine.{Machine}
use Rattle.machine.specs.declared.Reason.TheVariants.{Allowance}
use Rattle.dry_run_outcome.specs.Run.{later, run, ran_for}
use Rattle.dry_run_outcome.proofs.RunLaws.{later_none}
use Rattle.formats.proofs.Formats.{Reads, register, immediate}
use Rattle.formats.proofs.EncodingFormats.{value_in}
use Rattle.emit_dispatch.specs.LineLoads.{value_loads, loading_words}
use Rattle.formats.proofs.PseudoFormats.{compared}
use Rattle.pseudo_meaning.specs.Comparisons.{compares}
use Rattle.pseudo_meaning.proofs.ComparisonsLaws.{less, or_not, compares_by, bit_set, bit_clear_lem, bit_turned}
use Rattle.machine.proofs.WordStepsLaws.{setting, held, slt_step, subu_step, xor_step, sra_step, xori_step, beq_step, bne_step}
use Rattle.pseudo_meaning.proofs.AbsLaws.{spread, abs_value}
use Rattle.dry_run_outcome.proofs.StandingLaws.{Standing, none, next, pc_behind, standing_left, word_goes, loads_run, LuisPlain}

-- ---- one word

-- SLT rd, rs, rt
compare_step : (greater : Bool) (w d a b : ℕ) (m : Machine) → Reads w (compared greater false d a b) → step_word w m ≡ goes (setting m d (bit (less greater (held m a) (held m b))))
compare_step true w d a b m r = rw (r.rs_is, r.rt_is, r.rd_is) at (slt_step w m r.opcode_is r.function_is r.sa_is)
compare_step false w d a b m r = rw (r.rs_is, r.rt_is, r.rd_is) at (slt_step w m r.opcode_is r.function_is r.sa_is)

-- XORI rt, rt, 1
turn_step : (w d : ℕ) (m : Machine) (t : Bool) → Reads w (immediate 14 d d 1) → held m d ≡ bit t → step_word w m ≡ goes (setting m d (bit (not t)))
turn_step w d m t r e =
    let s : step_word w m ≡ goes (setting m d (bit_xor (held m d) 1)) = rw (r.rs_is, r.rt_is, r.immediate_is) at (xori_step w m r.opcode_is) in
    s ∙ ap (λ (v : ℕ). goes (setting m d v)) (ap (λ (v : ℕ). bit_xor v 1) e ∙ bit_turned t)

-- a branch goes to its target or to the next word
branch_applied : (taken : Bool) (w : ℕ) (m : Machine) → apply (branch_if taken m.pc w) w m ≡ goes (at (cond taken (branch_target m.pc w) (next_pc m.pc)) m.registers)
branch_applied true w m = refl
branch_applied false w m = refl

zero_held : (m : Machine) → held m 0 ≡ 0
unfolding read_register
zero_held m = refl

-- BNE $at, $zero and BEQ $at, $zero, where $at holds a bit
branch_step : (result : Bool) (w n : ℕ) (m : Machine) (t : Bool) → Reads w (immediate (elim result [ true ↦ 5 | false ↦ 4 ]) 1 0 n) → held m 1 ≡ bit t
    → step_word w m ≡ goes (at (cond (or_not result t) (branch_target m.pc w) (next_pc m.pc)) m.registers)
branch_step true w n m t r e =
    let s : step_word w m ≡ apply (branch_if (not (eqb (held m 1) (held m 0))) m.pc w) w m = rw (r.rs_is, r.rt_is) at (bne_step w m r.opcode_is) in
    s ∙ ap (λ (b : Bool). apply (branch_if b m.pc w) w m) (ap₂ (λ (x y : ℕ). not (eqb x y)) e (zero_held m) ∙ bit_set t) ∙ branch_applied t w m
branch_step false w n m t r e =
    let s : step_word w m ≡ apply (branch_if (eqb (held m 1) (held m 0)) m.pc w) w m = rw (r.rs_is, r.rt_is) at (beq_step w m r.opcode_is) in
    s ∙ ap (λ (b : Bool). apply (branch_if b m.pc w) w m) (ap₂ (λ (x y : ℕ). eqb x y) e (zero_held m) ∙ bit_clear_lem t) ∙ branch_applied (not t) w m

-- SRA $at, s, 31; XOR d, s, $at; SUBU d, d, $at
spread_step : (w s : ℕ) (m : Machine) → Reads w (register 0 0 s 1 31 3) → step_word w m ≡ goes (setting m 1 (spread (held m s)))
spread_step w s m r = rw (r.rt_is, r.rd_is, r.sa_is) at (sra_step w m r.opcode_is r.function_is r.rs_is)

flip_step : (w d s : ℕ) (m : Machine) → Reads w (register 0 s 1 d 0 38) → step_word w m ≡ goes (setting m d (bit_xor (held m s) (held m 1)))
flip_step w d s m r = rw (r.rs_is, r.rt_is, r.rd_is) at (xor_step w m r.opcode_is r.function_is r.sa_is)

less_step : (w d : ℕ) (m : Machine) → Reads w (register 0 d 1 d 0 35) → step_word w m ≡ goes (setting m d (wrap32 (held m d + 2 ^ 32 - held m 1)))
less_step w d m r = rw (r.rs_is, r.rt_is, r.rd_is) at (subu_step w m r.opcode_is r.function_is r.sa_is)

-- ---- the words of a line behind those that load

module _ (image : Image) (pc : ℕ) (g : Registers) (hg : length g ≡ 32) where
  -- a comparison into $at and its branch
  pub branch_runs : (greater result : Bool) (w v a b n : ℕ) → Standing image pc (w ∷ v ∷ []) → Reads w (compared greater false 1 a b)
      → Reads v (immediate (elim result [ true ↦ 5 | false ↦ 4 ]) 1 0 n)
      → run 2 image (at pc g)
      ≡ ran_for 2 (at (cond (compares greater result (read_register g a) (read_register g b)) (branch_target (next_pc pc) v) (next_pc (next_pc pc)))
      (write_register g 1 (bit (less greater (read_register g a) (read_register g b))))) Allowance
  unfolding run
  branch_runs greater result w v a b n (next f (next h none)) c r =
      let t = less greater (read_register g a) (read_register g b) in
      let m₁ = setting (at pc g) 1 (bit t) in
      word_goes image w (at pc g) f 1 m₁ (compare_step greater w 1 a b (at pc g) c)
      ∙ ap (later 1) (word_goes image v m₁ h 0 _ (branch_step result v n m₁ t r (read_chosen g 1 (bit t) (omega arith) (λ e. omega arith))))
      ∙ ap (λ (b : Bool). ran_for 2 (at (cond b (branch_target (next_pc pc) v) (next_pc (next_pc pc))) (write_register g 1 (bit t))) Allowance) (compares_by greater result (read_register g a) (read_register g b))

  -- A set: one word, and xori behind it if the result is turned over.
  pub set_runs : (greater : Bool) (w d a b : ℕ) → Standing image pc (w ∷ []) → Reads w (compared greater false d a b)
      → run 1 image (at pc g) ≡ ran_for 1 (at (next_pc pc) (write_register g d (bit (compares greater true (read_register g a) (read_register g b))))) Allowance
  unfolding run
  set_runs greater w d a b (next f none) c =
      word_goes image w (at pc g) f 0 _ (compare_step greater w d a b (at pc g) c)
      ∙ ap (λ (b : Bool). ran_for 1 (at (next_pc pc) (write_register g d (bit b))) Allowance) (compares_by greater true (read_register g a) (read_register g b))

  pub turned_runs : (greater : Bool) (w x d a b : ℕ) → d < 32 → (d ≡ 0 → ⊥) → Standing image pc (w ∷ x ∷ []) → Reads w (compared greater false d a b) → Reads x (immediate 14 d d 1)
      → run 2 image (at pc g)
      ≡ ran_for 2 (at (next_pc (next_pc pc)) (write_register (write_register g d (bit (less greater (read_register g a) (read_register g b)))) d
      (bit (compares greater false (read_register g a) (read_register g b))))) Allowance
  unfolding run
  turned_runs greater w x d a b hd nd (next f (next h none)) c r =
      let t = less greater (read_register g a) (read_register g b) in
      let m₁ = setting (at pc g) d (bit t) in
      word_goes image w (at pc g) f 1 m₁ (compare_step greater w d a b (at pc g) c)
      ∙ ap (later 1) (word_goes image x m₁ h 0 _ (turn_step x d m₁ t r (read_chosen g d (bit t) (omega arith) nd)))
      ∙ ap (λ (b : Bool). ran_for 2 (at (next_pc (next_pc pc)) (write_register (write_register g d (bit t)) d (bit b))) Allowance) (compares_by greater false (read_register g a) (read_register g b))

  -- SRA $at, s, 31, XOR d, s, $at, SUBU d, d, $at
  pub abs_runs : (w x y d s : ℕ) → d < 32 → (d ≡ 0 → ⊥) → (d ≡ 1 → ⊥) → (s ≡ 1 → ⊥) → read_register g s < 2 ^ 32 → Standing image pc (w ∷ x ∷ y ∷ [])
      → Reads w (register 0 0 s 1 31 3) → Reads x (register 0 s 1 d 0 38) → Reads y (register 0 d 1 d 0 35)
      → (h : Registers)
      × (run 3 image (at pc g) ≡ ran_for 3 (at (next_pc (next_pc (next_pc pc))) h) Allowance)
      × (read_register h d ≡ wrap32 (nat_abs (signed (read_register g s))))
      × ((r : ℕ) → (r ≡ d → ⊥) → (r ≡ 1 → ⊥) → read_register h r ≡ read_register g r)
  unfolding run
  abs_runs w x y d s hd nd md ns hv (next f (next h (next i none))) rw₁ rx ry =
      let a = read_register g s in
      let g₁ = write_register g 1 (spread a) in
      let one : read_register g₁ 1 ≡ spread a = read_chosen g 1 (spread a) (omega arith) (λ e. omega arith) in
      let g₂ = write_register g₁ d (bit_xor (read_register g₁ s) (read_register g₁ 1)) in
      let g₃ = write_register g₂ d (wrap32 (read_register g₂ d + 2 ^ 32 - read_register g₂ 1)) in
      let n₁ : length g₁ ≡ 32 = length_write g 1 (spread a) ∙ hg in
      let n₂ : length g₂ ≡ 32 = length_write g₁ d (bit_xor (read_register g₁ s) (read_register g₁ 1)) ∙ n₁ in
      let e₁ : step_word w (at pc g) ≡ goes (at (next_pc pc) g₁) = spread_step w s (at pc g) rw₁ in
      let e₂ : step_word x (at (next_pc pc) g₁) ≡ goes (at (next_pc (next_pc pc)) g₂) = flip_step x d s (at (next_pc pc) g₁) rx in
      let e₃ : step_word y (at (next_pc (next_pc pc)) g₂) ≡ goes (at (next_pc (next_pc (next_pc pc))) g₃) = less_step y d (at (next_pc (next_pc pc)) g₂) ry in
      let v₁ : read_register g₁ s ≡ a = read_other g 1 (spread a) s ns in
      let v₂ : read_register g₂ d ≡ bit_xor (read_register g₁ s) (read_register g₁ 1) = read_chosen g₁ d (bit_xor (read_register g₁ s) (read_register g₁ 1)) (omega arith) nd in
      let v₃ : read_register g₂ 1 ≡ read_register g₁ 1 = read_other g₁ d (bit_xor (read_register g₁ s) (read_register g₁ 1)) 1 (λ e. md (sym e)) in
      let v₄ : read_register g₃ d ≡ wrap32 (read_register g₂ d + 2 ^ 32 - read_register g₂ 1) = read_chosen g₂ d (wrap32 (read_register g₂ d + 2 ^ 32 - read_register g₂ 1)) (omega arith) nd in (
        g₃,
        word_goes image w (at pc g) f 2 _ e₁ ∙ ap (later 1) (word_goes image x (at (next_pc pc) g₁) h 1 _ e₂ ∙ ap (later 1) (word_goes image y (at (next_pc (next_pc pc)) g₂) i 0 _ e₃)),
        v₄ ∙ ap₂ (λ (p q : ℕ). wrap32 (p + 2 ^ 32 - q)) (v₂ ∙ ap₂ bit_xor v₁ one) (v₃ ∙ one) ∙ abs_value a hv,
        λ r n k. read_other g₂ d _ r n ∙ read_other g₁ d _ r n ∙ read_other g 1 _ r k,
      )

-- ---- a value loaded before them

-- The registers after the loading words.
abbrev pub loaded_into : Registers → InstructionValue → Registers
loaded_into g (Slot r) = g
loaded_into g (Literal n) = write_register g 1 (low32 n)

-- The second operand's value: a register's, or a literal's low 32 bits.
abbrev pub value_held : Registers → InstructionValue → ℕ
value_held g (Slot r) = read_register g (register_number r)
value_held g (Literal n) = low32 n

abbrev pub FirstKept : ℕ → InstructionValue → Type 0
FirstKept first (Slot r) = Unit {0}
FirstKept first (Literal n) = first ≡ 1 → ⊥

luis_form : (f : LoadForm) (c : ℕ) → LuisPlain (form_words f c 1)
luis_form Nothing c = tt
luis_form Addiu c = (λ e. let k = get_opcode 9 0 1 (lower_half c) (omega arith) (omega arith) (omega arith) (omega arith) in absurd (omega arith), tt)
luis_form Ori c = (λ e. let k = get_opcode 13 0 1 (lower_half c) (omega arith) (omega arith) (omega arith) (omega arith) in absurd (omega arith), tt)
luis_form Lui c = (λ e. get_rs 15 0 1 (upper_half c) (omega arith) (omega arith) (omega arith) (omega arith), tt)
luis_form BothHalves c = (
  λ e. get_rs 15 0 1 (upper_half c) (omega arith) (omega arith) (omega arith) (omega arith),
  (λ e. let k = get_opcode 13 1 1 (lower_half c) (omega arith) (omega arith) (omega arith) (omega arith) in absurd (omega arith), tt),
)

luis : (c : ℕ) → LuisPlain (load_words c 1)
unfolding load_words
luis c = luis_form (form_of c) c

module _ (image : Image) (pc : ℕ) (g : Registers) (hg : length g ≡ 32) (rest : List ℕ) where
  pub value_then : (v : InstructionValue) (n : ℕ) → Standing image pc (loading_words (value_loads v) ++ rest)
      → run (length (loading_words (value_loads v)) + n) image (at pc g)
      ≡ later (length (loading_words (value_loads v))) (run n image (at (pc_behind (loading_words (value_loads v)) pc) (loaded_into g v)))
  value_then (Slot r) n s = ap (λ (k : ℕ). run k image (at pc g)) (zero-add n) ∙ sym (later_none (run n image (at pc g)))
  value_then (Literal c) n s =
      loads_run image (load_words c 1) pc g (write_register g 1 (low32 c)) (standing_left (load_words c 1) rest s) (luis c) (loading_runs c 1 g (omega arith) hg) n

module _ (g : Registers) (hg : length g ≡ 32) where
  pub second_held : (v : InstructionValue) → read_register (loaded_into g v) (value_in v) ≡ value_held g v
  second_held (Slot r) = refl
  second_held (Literal n) = read_chosen g 1 (low32 n) (omega arith) (λ e. omega arith)

  pub first_held : (v : InstructionValue) (a : ℕ) → FirstKept a v → read_register (loaded_into g v) a ≡ read_register g a
  first_held (Slot r) a k = refl
  first_held (Literal n) a k = read_other g 1 (low32 n) a k

  pub loaded_others : (v : InstructionValue) (r : ℕ) → (r ≡ 1 → ⊥) → read_register (loaded_into g v) r ≡ read_register g r
  loaded_others (Slot s) r k = refl
  loaded_others (Literal n) r k = read_other g 1 (low32 n) r k

  pub loaded_length : (v : InstructionValue) → length (loaded_into g v) ≡ 32
  loaded_length (Slot s) = hg
  loaded_length (Literal n) = length_write g 1 (low32 n) ∙ hg
