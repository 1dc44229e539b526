-- The words for a constant do load it: the second half of demand 3. Assumes nothing.
use Rattle.std.specs.Prelude.{◌≡◌, refl, [], ◌∷◌, Bool, ℕ, ◌+◌, ◌-◌, ◌*◌, ◌%◌, ◌^◌, ◌<◌, ◌≤◌, eqb, length, get_or, set}
use Rattle.std.proofs.Common.{sym, ◌∙◌, arith, length-set, set-set, get_or-set_same, get_or-set_other}
use Rattle.std.proofs.Math.Path.{ap}
use Rattle.std.proofs.Math.Bool.{true, false}
use Rattle.std.specs.Int.Bits.{bit_or, or_zero_l}
use Rattle.std.proofs.lemmas.Nat.{or_shifted}
use Rattle.std.proofs.Math.Dec.{leb, ltb}
use borrow.Author.Tests.{lt-ltb, le-ltb, ltb-true, leb-true, eqb-true, eqb-false, ne_eqb}
use Rattle.word.specs.Layout.{immediate_layout}
use Rattle.word.proofs.LayoutLaws.{get_opcode, get_rs, get_rt, get_immediate}
use Rattle.loading.specs.Load.{low32, upper_half, lower_half, is_small, addiu_word, lui_word, ori_word, load_words}
use Rattle.loading.proofs.LoadLaws.{form_small, form_ori, form_lui, form_both, words_by}
use Rattle.loading.specs.Run.{Registers, read_register, write_register, signed16, ran, execute, step, run}

-- ---- one register
zero_reads : (g : Registers) → read_register g 0 ≡ 0
unfolding read_register
zero_reads g = refl

read_is : (g : Registers) (r : ℕ) → eqb r 0 ≡ false → read_register g r ≡ get_or g r 0
unfolding read_register
read_is g r e = rw (e, read_register)

write_lost : (g : Registers) (t v : ℕ) → eqb t 0 ≡ true → write_register g t v ≡ g
unfolding write_register
write_lost g t v e = rw (e, write_register)

write_is : (g : Registers) (t v : ℕ) → eqb t 0 ≡ false → write_register g t v ≡ set g t v
unfolding write_register
write_is g t v e = rw (e, write_register)

pub read_chosen : (g : Registers) (t v : ℕ) → t < length g → (t ≡ 0 → ⊥) → read_register (write_register g t v) t ≡ v
read_chosen g t v h n =
    let e = ne_eqb t 0 n in
    read_is (write_register g t v) t e ∙ ap (λ (l : Registers). get_or l t 0) (write_is g t v e) ∙ get_or-set_same g t v 0 h

pub read_other : (g : Registers) (t v r : ℕ) → (r ≡ t → ⊥) → read_register (write_register g t v) r ≡ read_register g r
read_other g t v r n = go (eqb t 0) refl (eqb r 0) refl
  where
    go : (b : Bool) → eqb t 0 ≡ b → (d : Bool) → eqb r 0 ≡ d → read_register (write_register g t v) r ≡ read_register g r
    go true e d f = ap (λ (l : Registers). read_register l r) (write_lost g t v e)
    go false e true f = let z : r ≡ 0 = eqb-true r 0 f in rw z (zero_reads (write_register g t v) ∙ sym (zero_reads g))
    go false e false f =
        ap (λ (l : Registers). read_register l r) (write_is g t v e)
        ∙ read_is (set g t v) r f ∙ get_or-set_other g t r v 0 n ∙ sym (read_is g r f)

pub length_write : (g : Registers) (t v : ℕ) → length (write_register g t v) ≡ length g
length_write g t v = go (eqb t 0) refl
  where
    go : (b : Bool) → eqb t 0 ≡ b → length (write_register g t v) ≡ length g
    go true e = ap length (write_lost g t v e)
    go false e = ap length (write_is g t v e) ∙ length-set g t v

-- Of two writes to one register, the later one stands.
write_again : (g : Registers) (t a b : ℕ) → write_register (write_register g t a) t b ≡ write_register g t b
write_again g t a b = go (eqb t 0) refl
  where
    go : (c : Bool) → eqb t 0 ≡ c → write_register (write_register g t a) t b ≡ write_register g t b
    go true e = write_lost (write_register g t a) t b e ∙ write_lost g t a e ∙ sym (write_lost g t b e)
    go false e =
        write_is (write_register g t a) t b e ∙ ap (λ (l : Registers). set l t b) (write_is g t a e) ∙ set-set g t a b ∙ sym (write_is g t b e)

-- ---- one word
decoded : (opcode s t n : ℕ) (g : Registers) → opcode < 64 → s < 32 → t < 32 → n < 65536 → step (immediate_layout opcode s t n) g ≡ execute opcode s t n g
decoded opcode s t n g ho hs ht hn =
    cc (get_opcode opcode s t n ho hs ht hn, get_rs opcode s t n ho hs ht hn, get_rt opcode s t n ho hs ht hn, get_immediate opcode s t n ho hs ht hn)

module _ (s t n : ℕ) (g : Registers) (hs : s < 32) (ht : t < 32) (hn : n < 65536) where
  step_addiu : step (immediate_layout 9 s t n) g ≡ ran (write_register g t ((read_register g s + signed16 n) % 2 ^ 32))
  unfolding execute
  step_addiu = decoded 9 s t n g (omega arith) hs ht hn

  step_ori : step (immediate_layout 13 s t n) g ≡ ran (write_register g t (bit_or (read_register g s) n))
  unfolding execute
  step_ori = decoded 13 s t n g (omega arith) hs ht hn

  step_lui : step (immediate_layout 15 s t n) g ≡ ran (write_register g t (n * 65536))
  unfolding execute
  step_lui = decoded 15 s t n g (omega arith) hs ht hn

run_one : (w : ℕ) (g g' : Registers) → step w g ≡ ran g' → run (w ∷ []) g ≡ ran g'
unfolding run
run_one w g g' e = rw (e, run)

run_two : (w v : ℕ) (g g' g'' : Registers) → step w g ≡ ran g' → step v g' ≡ ran g'' → run (w ∷ v ∷ []) g ≡ ran g''
unfolding run
run_two w v g g' g'' e f = rw (e, run) (rw (f, run))

-- ---- the words of a constant
halves : (c : ℕ) → upper_half c * 65536 + lower_half c ≡ low32 c
halves c = omega arith

signed_low : (n : ℕ) → n < 32768 → signed16 n ≡ n
unfolding signed16
signed_low n h = rw (lt-ltb n 32768 h, signed16)

signed_high : (n : ℕ) → 32768 ≤ n → signed16 n ≡ n + (2 ^ 32 - 65536)
unfolding signed16
signed_high n h = rw (le-ltb n 32768 h, signed16)

module _ (c t : ℕ) (g : Registers) (ht : t < 32) (hg : length g ≡ 32) where
  -- lui, then ori over what lui left
  both : run (lui_word t c ∷ ori_word t t c ∷ []) g ≡ ran (write_register g t (low32 c))
  both =
      let g₁ = write_register g t (upper_half c * 65536) in
      run_two (lui_word t c) (ori_word t t c) g g₁ (write_register g₁ t (bit_or (read_register g₁ t) (lower_half c)))
      (step_lui 0 t (upper_half c) g (omega arith) ht (omega arith))
      (step_ori t t (lower_half c) g₁ ht ht (omega arith))
      ∙ ap ran (write_again g t (upper_half c * 65536) (bit_or (read_register g₁ t) (lower_half c)) ∙ last (eqb t 0) refl)
    where
      last : (b : Bool) → eqb t 0 ≡ b → write_register g t (bit_or (read_register (write_register g t (upper_half c * 65536)) t) (lower_half c)) ≡ write_register g t (low32 c)
      last true e = write_lost g t _ e ∙ sym (write_lost g t (low32 c) e)
      last false e =
          ap (write_register g t)
          (ap (λ (x : ℕ). bit_or x (lower_half c)) (read_chosen g t (upper_half c * 65536) (omega arith) (eqb-false t 0 e))
          ∙ or_shifted (upper_half c) 16 (lower_half c) (omega arith)
          ∙ halves c)

  lui_alone : lower_half c ≡ 0 → run (lui_word t c ∷ []) g ≡ ran (write_register g t (low32 c))
  lui_alone z =
      let e : upper_half c * 65536 ≡ low32 c = omega arith in
      run_one (lui_word t c) g _ (step_lui 0 t (upper_half c) g (omega arith) ht (omega arith)) ∙ ap (λ (v : ℕ). ran (write_register g t v)) e

  ori_alone : upper_half c ≡ 0 → run (ori_word 0 t c ∷ []) g ≡ ran (write_register g t (low32 c))
  ori_alone z =
      let e : lower_half c ≡ low32 c = omega arith in
      run_one (ori_word 0 t c) g _ (step_ori 0 t (lower_half c) g (omega arith) ht (omega arith))
      ∙ ap (λ (v : ℕ). ran (write_register g t v)) (ap (λ (x : ℕ). bit_or x (lower_half c)) (zero_reads g) ∙ or_zero_l (lower_half c) ∙ e)

  addiu_alone : is_small c ≡ true → run (addiu_word t c ∷ []) g ≡ ran (write_register g t (low32 c))
  unfolding is_small
  addiu_alone s =
      run_one (addiu_word t c) g _ (step_addiu 0 t (lower_half c) g (omega arith) ht (omega arith))
      ∙ ap (λ (v : ℕ). ran (write_register g t v)) (ap (λ (x : ℕ). (x + signed16 (lower_half c)) % 2 ^ 32) (zero_reads g) ∙ sum (ltb (low32 c) 32768) refl)
    where
      sum : (b : Bool) → ltb (low32 c) 32768 ≡ b → (0 + signed16 (lower_half c)) % 2 ^ 32 ≡ low32 c
      sum true e =
          let h : low32 c < 32768 = ltb-true (low32 c) 32768 e in
          let n : signed16 (lower_half c) ≡ lower_half c = signed_low (lower_half c) (omega arith) in
          rw n (omega arith)
      sum false e =
          let k : leb (2 ^ 32 - 32768) (low32 c) ≡ true = cc in
          let h : 2 ^ 32 - 32768 ≤ low32 c = leb-true (2 ^ 32 - 32768) (low32 c) k in
          let n : signed16 (lower_half c) ≡ lower_half c + (2 ^ 32 - 65536) = signed_high (lower_half c) (omega arith) in
          rw n (omega arith)

  -- running the words succeeds, and writes the low 32 bits to the chosen register and nothing else
  pub loading_runs : run (load_words c t) g ≡ ran (write_register g t (low32 c))
  loading_runs = go (is_small c) refl (eqb (upper_half c) 0) refl (eqb (lower_half c) 0) refl
    where
      go : (b : Bool) → is_small c ≡ b → (u : Bool) → eqb (upper_half c) 0 ≡ u → (l : Bool) → eqb (lower_half c) 0 ≡ l → run (load_words c t) g ≡ ran (write_register g t (low32 c))
      go true e u f l k = rw (words_by c t (form_small c e)) (addiu_alone e)
      go false e false f false k = rw (words_by c t (form_both c e (eqb-false (upper_half c) 0 f) (eqb-false (lower_half c) 0 k))) both
      go false e false f true k = let z = eqb-true (lower_half c) 0 k in rw (words_by c t (form_lui c e (eqb-false (upper_half c) 0 f) z)) (lui_alone z)
      go false e true f l k = let z = eqb-true (upper_half c) 0 f in rw (words_by c t (form_ori c e z)) (ori_alone z)

-- What loading does, for every constant, register and what the registers held.
pub record Loads (c t : ℕ) (g : Registers) : Type 0 where
  pub after : Registers
  pub runs : run (load_words c t) g ≡ ran after
  pub registers : length after ≡ 32
  pub chosen : (t ≡ 0 → ⊥) → read_register after t ≡ low32 c
  pub others : (r : ℕ) → (r ≡ t → ⊥) → read_register after r ≡ read_register g r

pub loads : (c t : ℕ) (g : Registers) → t < 32 → length g ≡ 32 → Loads c t g
loads c t g ht hg = record {
  after = write_register g t (low32 c);
  runs = loading_runs c t g ht hg;
  registers = length_write g t (low32 c) ∙ hg;
  chosen = λ n. read_chosen g t (low32 c) (omega arith) n;
  others = λ r n. read_other g t (low32 c) r n;
}
