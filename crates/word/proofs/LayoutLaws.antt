-- Writing a field of a laid-out word replaces that field; reading a field gives it. Assumes nothing.
use Rattle.std.specs.Prelude.{◌≡◌, ℕ, ◌+◌, ◌*◌, ◌/◌, ◌%◌, ◌^◌, ◌<◌}
use Rattle.std.proofs.Common.{ap, ◌∙◌}
use native.Mathlib.Omega.{arith}
use Rattle.std.specs.Int.Bits.{bit_or, or_zero_r}
use Rattle.std.proofs.lemmas.Nat.{or_block}
use Rattle.field.specs.Field.{get_field, set_field, or_field}
use Rattle.field.proofs.FieldLaws.{or_spill}
use Rattle.instructions.specs.declared.Opcode.{Opcode}
use Rattle.instructions.specs.declared.Opcode.TheVariants.{Op, Func, Special, Algebra, Cop1, Cop1I}
use Rattle.instructions.specs.Bases.{instruction_base}
use Rattle.word.specs.Layout.{Fields, layout, immediate_layout, base_fields, with_rs, with_rt, with_rd, with_sa}

-- each field holds a number of its width
pub record Fits (f : Fields) : Type 0 where
  pub opcode_fits : f.opcode < 64
  pub rs_fits : f.rs < 32
  pub rt_fits : f.rt < 32
  pub rd_fits : f.rd < 32
  pub sa_fits : f.sa < 32
  pub function_fits : f.function < 64

module _ (f : Fields) (h : Fits f) where
  pub set_rs : (v : ℕ) → set_field (layout f) 21 5 v ≡ layout (with_rs f v)
  unfolding set_field
  set_rs v = omega arith

  pub set_rt : (v : ℕ) → set_field (layout f) 16 5 v ≡ layout (with_rt f v)
  unfolding set_field
  set_rt v = omega arith

  pub set_rd : (v : ℕ) → set_field (layout f) 11 5 v ≡ layout (with_rd f v)
  unfolding set_field
  set_rd v = omega arith

  pub set_sa : (v : ℕ) → set_field (layout f) 6 5 v ≡ layout (with_sa f v)
  unfolding set_field
  set_sa v = omega arith

  pub set_immediate : (v : ℕ) → set_field (layout f) 0 16 v ≡ immediate_layout f.opcode f.rs f.rt v
  unfolding set_field
  set_immediate v = omega arith

-- An opcode's base word is its fields laid out, and they fit.
pub base_layout : (op : Opcode) → instruction_base op ≡ layout (base_fields op)
base_layout (Op key) = omega arith
base_layout (Func key) = omega arith
base_layout (Special key) = omega arith
base_layout (Algebra key) = omega arith
base_layout (Cop1 key) = omega arith
base_layout (Cop1I key) = omega arith

pub base_fits : (op : Opcode) → Fits (base_fields op)
base_fits (Op key) = record { opcode_fits = omega arith; rs_fits = omega arith; rt_fits = omega arith; rd_fits = omega arith; sa_fits = omega arith; function_fits = omega arith }
base_fits (Func key) = record { opcode_fits = omega arith; rs_fits = omega arith; rt_fits = omega arith; rd_fits = omega arith; sa_fits = omega arith; function_fits = omega arith }
base_fits (Special key) = record { opcode_fits = omega arith; rs_fits = omega arith; rt_fits = omega arith; rd_fits = omega arith; sa_fits = omega arith; function_fits = omega arith }
base_fits (Algebra key) = record { opcode_fits = omega arith; rs_fits = omega arith; rt_fits = omega arith; rd_fits = omega arith; sa_fits = omega arith; function_fits = omega arith }
base_fits (Cop1 key) = record { opcode_fits = omega arith; rs_fits = omega arith; rt_fits = omega arith; rd_fits = omega arith; sa_fits = omega arith; function_fits = omega arith }
base_fits (Cop1I key) = record { opcode_fits = omega arith; rs_fits = omega arith; rt_fits = omega arith; rd_fits = omega arith; sa_fits = omega arith; function_fits = omega arith }

-- A value of up to ten bits OR-ed into a field of five: its low five bits are the field, and the rest is OR-ed into the field above.
spill : (h a v : ℕ) → a < 32 → v < 1024 → bit_or (h * 32 + a) (v / 32) ≡ h * 32 + bit_or a (v / 32)
spill h a v ha hv =
    let z : v / 32 ≡ 0 * 2 ^ 5 + v / 32 = omega arith in
    ap (λ (x : ℕ). bit_or (h * 32 + a) x) z
    ∙ or_block 5 h 0 a (v / 32) ha (omega arith)
    ∙ ap (λ (x : ℕ). x * 32 + bit_or a (v / 32)) (or_zero_r h)

module _ (f : Fields) (h : Fits f) (v : ℕ) (hv : v < 1024) where
  pub or_sa : or_field (layout f) 6 5 v ≡ layout (with_sa (with_rd f (bit_or f.rd (v / 32))) (v % 32))
  or_sa =
      let e : layout f / 2 ^ 11 ≡ (f.opcode * 2 ^ 10 + f.rs * 2 ^ 5 + f.rt) * 32 + f.rd = omega arith in
      let s : bit_or (layout f / 2 ^ 11) (v / 32) ≡ (f.opcode * 2 ^ 10 + f.rs * 2 ^ 5 + f.rt) * 32 + bit_or f.rd (v / 32) =
      ap (λ (x : ℕ). bit_or x (v / 32)) e ∙ spill (f.opcode * 2 ^ 10 + f.rs * 2 ^ 5 + f.rt) f.rd v h.rd_fits hv in
      let o : or_field (layout f) 6 5 v ≡ bit_or (layout f / 2 ^ 11) (v / 32) * 2 ^ 11 + v % 32 * 2 ^ 6 + layout f % 2 ^ 6 = or_spill (layout f) 6 5 v in
      omega arith

  pub or_rd : or_field (layout f) 11 5 v ≡ layout (with_rd (with_rt f (bit_or f.rt (v / 32))) (v % 32))
  or_rd =
      let e : layout f / 2 ^ 16 ≡ (f.opcode * 2 ^ 5 + f.rs) * 32 + f.rt = omega arith in
      let s : bit_or (layout f / 2 ^ 16) (v / 32) ≡ (f.opcode * 2 ^ 5 + f.rs) * 32 + bit_or f.rt (v / 32) =
      ap (λ (x : ℕ). bit_or x (v / 32)) e ∙ spill (f.opcode * 2 ^ 5 + f.rs) f.rt v h.rt_fits hv in
      let o : or_field (layout f) 11 5 v ≡ bit_or (layout f / 2 ^ 16) (v / 32) * 2 ^ 16 + v % 32 * 2 ^ 11 + layout f % 2 ^ 11 = or_spill (layout f) 11 5 v in
      omega arith

  pub or_rt : or_field (layout f) 16 5 v ≡ layout (with_rt (with_rs f (bit_or f.rs (v / 32))) (v % 32))
  or_rt =
      let e : layout f / 2 ^ 21 ≡ f.opcode * 32 + f.rs = omega arith in
      let s : bit_or (layout f / 2 ^ 21) (v / 32) ≡ f.opcode * 32 + bit_or f.rs (v / 32) =
      ap (λ (x : ℕ). bit_or x (v / 32)) e ∙ spill f.opcode f.rs v h.rs_fits hv in
      let o : or_field (layout f) 16 5 v ≡ bit_or (layout f / 2 ^ 21) (v / 32) * 2 ^ 21 + v % 32 * 2 ^ 16 + layout f % 2 ^ 16 = or_spill (layout f) 16 5 v in
      omega arith

-- Reads the fields of a laid-out word in the immediate format.
module _ (opcode rs rt immediate : ℕ) (ho : opcode < 64) (hs : rs < 32) (ht : rt < 32) (hn : immediate < 65536) where
  pub get_opcode : get_field (immediate_layout opcode rs rt immediate) 26 6 ≡ opcode
  unfolding get_field
  get_opcode = omega arith

  pub get_rs : get_field (immediate_layout opcode rs rt immediate) 21 5 ≡ rs
  unfolding get_field
  get_rs = omega arith

  pub get_rt : get_field (immediate_layout opcode rs rt immediate) 16 5 ≡ rt
  unfolding get_field
  get_rt = omega arith

  pub get_immediate : get_field (immediate_layout opcode rs rt immediate) 0 16 ≡ immediate
  unfolding get_field
  get_immediate = omega arith

-- Putting in a field that fits leaves all fields fitting.
module _ (f : Fields) (h : Fits f) (v : ℕ) (hv : v < 32) where
  pub fits_rs : Fits (with_rs f v)
  fits_rs = record { opcode_fits = h.opcode_fits; rs_fits = hv; rt_fits = h.rt_fits; rd_fits = h.rd_fits; sa_fits = h.sa_fits; function_fits = h.function_fits }

  pub fits_rt : Fits (with_rt f v)
  fits_rt = record { opcode_fits = h.opcode_fits; rs_fits = h.rs_fits; rt_fits = hv; rd_fits = h.rd_fits; sa_fits = h.sa_fits; function_fits = h.function_fits }

  pub fits_rd : Fits (with_rd f v)
  fits_rd = record { opcode_fits = h.opcode_fits; rs_fits = h.rs_fits; rt_fits = h.rt_fits; rd_fits = hv; sa_fits = h.sa_fits; function_fits = h.function_fits }

  pub fits_sa : Fits (with_sa f v)
  fits_sa = record { opcode_fits = h.opcode_fits; rs_fits = h.rs_fits; rt_fits = h.rt_fits; rd_fits = h.rd_fits; sa_fits = hv; function_fits = h.function_fits }

-- the builder's chain for the immediate format: rt, rs, then the immediate
pub immediate_word : (op : Opcode) (s t n : ℕ) → s < 32 → t < 32
    → set_field (set_field (set_field (instruction_base op) 16 5 t) 21 5 s) 0 16 n ≡ immediate_layout (base_fields op).opcode s t n
immediate_word op s t n hs ht =
    let f = base_fields op in
    let ff = base_fits op in
    ap (λ (w : ℕ). set_field (set_field (set_field w 16 5 t) 21 5 s) 0 16 n) (base_layout op)
    ∙ ap (λ (w : ℕ). set_field (set_field w 21 5 s) 0 16 n) (set_rt f ff t)
    ∙ ap (λ (w : ℕ). set_field w 0 16 n) (set_rs (with_rt f t) (fits_rt f ff t ht) s)
    ∙ set_immediate (with_rs (with_rt f t) s) (fits_rs (with_rt f t) (fits_rt f ff t ht) s hs) n
