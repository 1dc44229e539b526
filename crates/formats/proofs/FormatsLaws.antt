-- Every word function gives words of its format, whatever the numbers. A law is named by the function and the format. Assumes nothing.
use Rattle.std.specs.Prelude.{ℕ, ◌+◌, ◌*◌, ◌/◌, ◌%◌, ◌^◌, ◌<◌, ◌≡◌, refl, Bool, true, false}
use Rattle.std.proofs.Common.{ap, ◌∙◌}
use native.Mathlib.Omega.{arith}
use Rattle.std.specs.Int.Bits.{bit_or}
use Rattle.std.proofs.lemmas.Nat.{or_lt}
use Rattle.field.specs.Field.{get_field}
use Rattle.field.specs.Bit.{bit}
use Rattle.instructions.specs.declared.Opcode.{Opcode}
use Rattle.instructions.specs.declared.Opcode.TheVariants.{Op, Func, Special, Algebra, Cop1, Cop1I}
use Rattle.jobs.specs.declared.Format.{Format as Fmt}
use Rattle.jobs.specs.Jobs.{size_code}
use Rattle.jobs.proofs.JobsLaws.{size_lt}
use Rattle.word.specs.Layout.{Fields, layout, immediate_layout, base_fields}
use Rattle.word.proofs.LayoutLaws.{base_fits, get_opcode, get_rs, get_rt, get_immediate}
use Rattle.emit_words.specs.Words.{base_word, source_word, destination_word, inputs_word, register_word, sham_word, immediate_word, load_immediate_word, fp3_word, fp2_word, code_bits, fp_move_word, fp_cond_word, fp_cross_move_word, fp_branch_word}
use Rattle.emit_words.proofs.WordsLaws.{Laid, base, then_rs, then_rt, then_rd, then_sa}
use Rattle.formats.proofs.Formats.{RegisterFormat, register, immediate, jump, float, float_move, float_cond, float_cross, float_branch, Has}
use Rattle.formats.proofs.EncodingFormats.{in_register, in_immediate, in_branch, in_jump, in_float, in_cross}

-- ---- fields that are laid out are read back

module _ {w : ℕ} {f : Fields} (l : Laid w f) where
  laid_lt : layout f < 2 ^ 32
  laid_lt =
      let h = l.fits in
      omega arith

  reads : RegisterFormat (layout f) f.opcode f.rs f.rt f.rd f.sa f.function
  unfolding get_field
  reads =
      let h = l.fits in
      record { opcode_is = omega arith; rs_is = omega arith; rt_is = omega arith; rd_is = omega arith; sa_is = omega arith; function_is = omega arith }

  -- what stands below rt, and below rd
  reads_immediate : get_field (layout f) 0 16 ≡ f.rd * 2 ^ 11 + f.sa * 2 ^ 6 + f.function
  unfolding get_field
  reads_immediate =
      let h = l.fits in
      omega arith

  reads_below : get_field (layout f) 0 11 ≡ f.sa * 2 ^ 6 + f.function
  unfolding get_field
  reads_below =
      let h = l.fits in
      omega arith

  reads_target : get_field (layout f) 0 26 ≡ f.rs * 2 ^ 21 + f.rt * 2 ^ 16 + f.rd * 2 ^ 11 + f.sa * 2 ^ 6 + f.function
  unfolding get_field
  reads_target =
      let h = l.fits in
      omega arith

  -- the same as formats, where rd and sa are known
  module _ {rd sa : ℕ} (d : f.rd ≡ rd) (a : f.sa ≡ sa) where
    has_register : Has (layout f) (register f.opcode f.rs f.rt rd sa f.function)
    has_register =
        let r = reads in
        record {
          word = laid_lt;
          reads = record { opcode_is = r.opcode_is; rs_is = r.rs_is; rt_is = r.rt_is; rd_is = r.rd_is ∙ d; sa_is = r.sa_is ∙ a; function_is = r.function_is };
        }

  has_float : Has (layout f) (float f.opcode f.rs f.rt f.rd f.sa f.function)
  has_float =
      let r = reads in
      record {
        word = laid_lt;
        reads = record { opcode_is = r.opcode_is; fmt_is = r.rs_is; ft_is = r.rt_is; fs_is = r.rd_is; fd_is = r.sa_is; function_is = r.function_is };
      }

  module _ (d : f.rd ≡ 0) (a : f.sa ≡ 0) where
    has_branch : Has (layout f) (immediate f.opcode f.rs f.rt f.function)
    has_branch =
        let r = reads in
        record { word = laid_lt; reads = record { opcode_is = r.opcode_is; rs_is = r.rs_is; rt_is = r.rt_is; immediate_is = omega (arith, reads_immediate) } }

    has_jump : Has (layout f) (jump f.opcode (f.rs * 2 ^ 21 + f.rt * 2 ^ 16 + f.function))
    has_jump = record { word = laid_lt; reads = record { opcode_is = reads.opcode_is; target_is = omega (arith, reads_target) } }

  has_cross : f.sa ≡ 0 → Has (layout f) (float_cross f.opcode f.rs f.rt f.rd f.function)
  has_cross a =
      let r = reads in
      record { word = laid_lt; reads = record { opcode_is = r.opcode_is; sub_is = r.rs_is; rt_is = r.rt_is; fs_is = r.rd_is; below_is = omega (arith, reads_below) } }

pub has_immediate : (o s t n : ℕ) → o < 64 → s < 32 → t < 32 → n < 65536 → Has (immediate_layout o s t n) (immediate o s t n)
has_immediate o s t n ho hs ht hn = record {
  word = omega arith;
  reads = record { opcode_is = get_opcode o s t n ho hs ht hn; rs_is = get_rs o s t n ho hs ht hn; rt_is = get_rt o s t n ho hs ht hn; immediate_is = get_immediate o s t n ho hs ht hn };
}

-- ---- the words of a line

-- No opcode fills rd or sa.
own_empty : (op : Opcode) → ((base_fields op).rd ≡ 0) × ((base_fields op).sa ≡ 0)
own_empty (Op key) = (refl, refl)
own_empty (Func key) = (refl, refl)
own_empty (Special key) = (refl, refl)
own_empty (Algebra key) = (refl, refl)
own_empty (Cop1 key) = (refl, refl)
own_empty (Cop1I key) = (refl, refl)

module _ (op : Opcode) where
  pub base_register : Has (base_word op) (in_register op (base_fields op).rs (base_fields op).rt 0 0)
  base_register = has_register (base op) (own_empty op).0 (own_empty op).1

  pub base_jump : Has (base_word op) (in_jump op)
  base_jump = has_jump (base op) (own_empty op).0 (own_empty op).1

module _ (op : Opcode) (rs : ℕ) (hs : rs < 32) where
  pub source_register : Has (source_word op rs) (in_register op rs (base_fields op).rt 0 0)
  source_register = has_register (then_rs (base op) rs hs) (own_empty op).0 (own_empty op).1

  pub source_branch : Has (source_word op rs) (in_branch op rs (base_fields op).rt)
  source_branch = has_branch (then_rs (base op) rs hs) (own_empty op).0 (own_empty op).1

pub destination_register : (op : Opcode) (rd : ℕ) → rd < 32 → Has (destination_word op rd) (in_register op (base_fields op).rs (base_fields op).rt rd 0)
destination_register op rd hd = has_register (then_rd (base op) rd hd) refl (own_empty op).1

module _ (op : Opcode) (rs rt : ℕ) (hs : rs < 32) (ht : rt < 32) where
  pub inputs_register : Has (inputs_word op rs rt) (in_register op rs rt 0 0)
  inputs_register = has_register (then_rt (then_rs (base op) rs hs) rt ht) (own_empty op).0 (own_empty op).1

  pub inputs_branch : Has (inputs_word op rs rt) (in_branch op rs rt)
  inputs_branch = has_branch (then_rt (then_rs (base op) rs hs) rt ht) (own_empty op).0 (own_empty op).1

  pub register_register : (rd : ℕ) → rd < 32 → Has (register_word op rd rs rt) (in_register op rs rt rd 0)
  register_register rd hd = has_register (then_rt (then_rs (then_rd (base op) rd hd) rs hs) rt ht) refl (own_empty op).1

  pub immediate_immediate : (n : ℕ) → n < 65536 → Has (immediate_word op rs rt n) (in_immediate op rs rt n)
  immediate_immediate n hn = has_immediate (base_fields op).opcode rs rt n (base_fits op).opcode_fits hs ht hn

pub load_immediate : (op : Opcode) (rt n : ℕ) → rt < 32 → n < 65536 → Has (load_immediate_word op rt n) (in_immediate op (base_fields op).rs rt n)
load_immediate op rt n ht hn = has_immediate (base_fields op).opcode (base_fields op).rs rt n (base_fits op).opcode_fits (base_fits op).rs_fits ht hn

-- The bits of a shift amount's byte above the lowest five are OR-ed into rd.
pub sham_register : (op : Opcode) (rd rt amount : ℕ) → rd < 32 → rt < 32
    → Has (sham_word op rd rt (amount % 256)) (in_register op (base_fields op).rs rt (bit_or rd (amount % 256 / 32)) (amount % 32))
sham_register op rd rt amount hd ht =
    let k : bit_or rd (amount % 256 / 32) < 32 = or_lt 5 rd (amount % 256 / 32) hd (omega arith) in
    has_register (then_sa (then_rd (then_rt (base op) rt ht) (bit_or rd (amount % 256 / 32)) k) (amount % 256 % 32) (omega arith)) refl (omega arith)

-- ---- the float formats

pub three_float : (op : Opcode) (fmt : Fmt) (fd fs ft : ℕ) → fd < 32 → fs < 32 → ft < 32 → Has (fp3_word op fmt fd fs ft) (in_float op fmt ft fs fd)
three_float op fmt fd fs ft hd hs ht = has_float (then_rs (then_rt (then_rd (then_sa (base op) fd hd) fs hs) ft ht) (size_code fmt) (size_lt fmt))

pub two_float : (op : Opcode) (fmt : Fmt) (fd fs : ℕ) → fd < 32 → fs < 32 → Has (fp2_word op fmt fd fs) (in_float op fmt (base_fields op).rt fs fd)
two_float op fmt fd fs hd hs = has_float (then_rs (then_rd (then_sa (base op) fd hd) fs hs) (size_code fmt) (size_lt fmt))

pub cross_float : (op : Opcode) (rt fs : ℕ) → rt < 32 → fs < 32 → Has (fp_cross_move_word op rt fs) (in_cross op rt fs)
cross_float op rt fs ht hs = has_cross (then_rd (then_rt (base op) rt ht) fs hs) (own_empty op).1

-- a condition code stands above a zero and the bit tf
code_is : (cc : ℕ) (tf : Bool) → (code_bits cc tf ≡ cc % 64 * 4 + bit tf) × (bit tf < 2)
code_is cc true = omega arith
code_is cc false = omega arith

high_code : (w cc : ℕ) (tf : Bool) → get_field w 16 5 ≡ code_bits cc tf % 32 → (get_field w 18 3 ≡ cc % 8) × (get_field w 17 1 ≡ 0) × (get_field w 16 1 ≡ bit tf)
unfolding get_field
high_code w cc tf e =
    let k = code_is cc tf in
    (omega arith, omega arith, omega arith)

low_code : (w cc : ℕ) → get_field w 6 5 ≡ code_bits cc false % 32 → (get_field w 8 3 ≡ cc % 8) × (get_field w 6 2 ≡ 0)
unfolding get_field
low_code w cc e =
    let k = code_is cc false in
    (omega arith, omega arith)

pub move_float : (op : Opcode) (fmt : Fmt) (fd fs cc : ℕ) (tf : Bool) → fd < 32 → fs < 32
    → Has (fp_move_word op fmt fd fs cc tf) (float_move (base_fields op).opcode (size_code fmt) (cc % 8) (bit tf) fs fd (base_fields op).function)
move_float op fmt fd fs cc tf hd hs =
    let l = then_rs (then_rt (then_rd (then_sa (base op) fd hd) fs hs) (code_bits cc tf % 32) (omega arith)) (size_code fmt) (size_lt fmt) in
    let r = reads l in
    let c = high_code (fp_move_word op fmt fd fs cc tf) cc tf r.rt_is in
    record {
      word = laid_lt l;
      reads = record { opcode_is = r.opcode_is; fmt_is = r.rs_is; cc_is = c.0; zero_is = c.1; tf_is = c.2; fs_is = r.rd_is; fd_is = r.sa_is; function_is = r.function_is };
    }

pub cond_float : (op : Opcode) (fmt : Fmt) (cc fs ft : ℕ) → fs < 32 → ft < 32
    → Has (fp_cond_word op fmt cc fs ft) (float_cond (base_fields op).opcode (size_code fmt) ft fs (cc % 8) (base_fields op).function)
cond_float op fmt cc fs ft hs ht =
    let l = then_rs (then_rt (then_rd (then_sa (base op) (code_bits cc false % 32) (omega arith)) fs hs) ft ht) (size_code fmt) (size_lt fmt) in
    let r = reads l in
    let c = low_code (fp_cond_word op fmt cc fs ft) cc r.sa_is in
    record {
      word = laid_lt l;
      reads = record { opcode_is = r.opcode_is; fmt_is = r.rs_is; ft_is = r.rt_is; fs_is = r.rd_is; cc_is = c.0; zero_is = c.1; function_is = r.function_is };
    }

-- The bits of a code above the lowest three are OR-ed into the field above.
pub branch_float : (op : Opcode) (cc : ℕ) (tf : Bool)
    → Has (fp_branch_word op cc tf) (float_branch (base_fields op).opcode (bit_or (base_fields op).rs (cc % 64 / 8)) (cc % 8) (bit tf) (base_fields op).function)
branch_float op cc tf =
    let b = code_is cc tf in
    let s : code_bits cc tf / 32 ≡ cc % 64 / 8 = omega arith in
    let k : bit_or (base_fields op).rs (code_bits cc tf / 32) < 32 = or_lt 5 (base_fields op).rs (code_bits cc tf / 32) (base_fits op).rs_fits (omega arith) in
    let l = then_rt (then_rs (base op) (bit_or (base_fields op).rs (code_bits cc tf / 32)) k) (code_bits cc tf % 32) (omega arith) in
    let r = has_branch l (own_empty op).0 (own_empty op).1 in
    let c = high_code (fp_branch_word op cc tf) cc tf r.reads.rt_is in
    record {
      word = r.word;
      reads = record { opcode_is = r.reads.opcode_is; sub_is = r.reads.rs_is ∙ ap (bit_or (base_fields op).rs) s; cc_is = c.0; nd_is = c.1; tf_is = c.2; offset_is = r.reads.immediate_is };
    }
