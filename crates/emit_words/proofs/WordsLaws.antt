-- A word under construction is its fields laid out, and each method replaces one field. The chain of each word is made of these steps.
-- Assumes nothing.
use Rattle.std.specs.Prelude.{◌≡◌, Bool, true, false, ℕ, ◌/◌, ◌%◌, ◌<◌}
use Rattle.std.proofs.Common.{ap, ◌∙◌, arith}
use Rattle.std.specs.Int.Bits.{bit_or}
use Rattle.std.proofs.lemmas.Nat.{or_lt}
use Rattle.field.specs.Field.{set_field, or_field}
use Rattle.field.proofs.FieldLaws.{or_is_set}
use Rattle.registers.specs.declared.RegisterSlot.{RegisterSlot}
use Rattle.registers.specs.declared.FPRegisterSlot.{FPRegisterSlot}
use Rattle.registers.specs.Numbers.{register_number, fp_register_number}
use Rattle.registers.specs.NumberLaws.{register_lt, fp_register_lt}
use Rattle.instructions.specs.declared.Opcode.{Opcode}
use Rattle.instructions.specs.declared.Opcode.TheVariants.{Func}
use Rattle.instructions.specs.Bases.{instruction_base}
use Rattle.jobs.specs.declared.Job.TheVariants.{Commit, Manual}
use Rattle.jobs.specs.declared.Format.{Format}
use Rattle.jobs.specs.Jobs.{size_code, abs_first_word}
use Rattle.jobs.proofs.JobsLaws.{size_lt}
use Rattle.word.specs.Layout.{Fields, layout, immediate_layout, base_fields, with_rs, with_rt, with_rd, with_sa}
use Rattle.word.proofs.LayoutLaws.{Fits, set_rs, set_rt, set_rd, set_sa, set_immediate, base_layout, base_fits, or_sa, or_rt, fits_rs, fits_rt, fits_rd, fits_sa}
use Rattle.emit_words.specs.Words.{code_bits, sham_word}

-- The word w is the fields f laid out. Each field holds a number of its width.
pub record Laid (w : ℕ) (f : Fields) : Type 0 where
  pub laid : w ≡ layout f
  pub fits : Fits f

pub base : (op : Opcode) → Laid (instruction_base op) (base_fields op)
base op = record { laid = base_layout op; fits = base_fits op }

-- a number of five bits put where a field stands
module _ {w : ℕ} {f : Fields} (l : Laid w f) (v : ℕ) (hv : v < 32) where
  pub then_rs : Laid (set_field w 21 5 v) (with_rs f v)
  then_rs = record { laid = ap (λ (x : ℕ). set_field x 21 5 v) l.laid ∙ set_rs f l.fits v; fits = fits_rs f l.fits v hv }

  pub then_rt : Laid (set_field w 16 5 v) (with_rt f v)
  then_rt = record { laid = ap (λ (x : ℕ). set_field x 16 5 v) l.laid ∙ set_rt f l.fits v; fits = fits_rt f l.fits v hv }

  pub then_rd : Laid (set_field w 11 5 v) (with_rd f v)
  then_rd = record { laid = ap (λ (x : ℕ). set_field x 11 5 v) l.laid ∙ set_rd f l.fits v; fits = fits_rd f l.fits v hv }

  pub then_sa : Laid (set_field w 6 5 v) (with_sa f v)
  then_sa = record { laid = ap (λ (x : ℕ). set_field x 6 5 v) l.laid ∙ set_sa f l.fits v; fits = fits_sa f l.fits v hv }

-- A byte is OR-ed in at a field. The bits for which the five bits have no room are OR-ed into the field above.
module _ {w : ℕ} {f : Fields} (l : Laid w f) (v : ℕ) (hv : v < 256) where
  pub spill_sa : Laid (or_field w 6 5 v) (with_sa (with_rd f (bit_or f.rd (v / 32))) (v % 32))
  spill_sa =
      let k : bit_or f.rd (v / 32) < 32 = or_lt 5 f.rd (v / 32) l.fits.rd_fits (omega arith) in
      record {
        laid = ap (λ (x : ℕ). or_field x 6 5 v) l.laid ∙ or_sa f l.fits v (omega arith);
        fits = fits_sa (with_rd f (bit_or f.rd (v / 32))) (fits_rd f l.fits (bit_or f.rd (v / 32)) k) (v % 32) (omega arith);
      }

  pub spill_rt : Laid (or_field w 16 5 v) (with_rt (with_rs f (bit_or f.rs (v / 32))) (v % 32))
  spill_rt =
      let k : bit_or f.rs (v / 32) < 32 = or_lt 5 f.rs (v / 32) l.fits.rs_fits (omega arith) in
      record {
        laid = ap (λ (x : ℕ). or_field x 16 5 v) l.laid ∙ or_rt f l.fits v (omega arith);
        fits = fits_rt (with_rs f (bit_or f.rs (v / 32))) (fits_rs f l.fits (bit_or f.rs (v / 32)) k) (v % 32) (omega arith);
      }

-- A number that fits five bits replaces the field.
module _ {w : ℕ} {f : Fields} (l : Laid w f) (v : ℕ) (hv : v < 32) where
  pub or_in_rt : Laid (or_field w 16 5 v) (with_rt f v)
  or_in_rt = record { laid = or_is_set w 16 5 v hv ∙ (then_rt l v hv).laid; fits = (then_rt l v hv).fits }

  pub or_in_rd : Laid (or_field w 11 5 v) (with_rd f v)
  or_in_rd = record { laid = or_is_set w 11 5 v hv ∙ (then_rd l v hv).laid; fits = (then_rd l v hv).fits }

-- the end of a chain
module _ {w : ℕ} {f : Fields} (l : Laid w f) where
  pub is_laid : {r : ℕ} → r ≡ w → r ≡ layout f
  is_laid e = e ∙ l.laid

  pub is_immediate : (v : ℕ) {r : ℕ} → r ≡ set_field w 0 16 v → r ≡ immediate_layout f.opcode f.rs f.rt v
  is_immediate v e = e ∙ ap (λ (x : ℕ). set_field x 0 16 v) l.laid ∙ set_immediate f l.fits v

-- the builder's methods
module _ {w : ℕ} {f : Fields} (l : Laid w f) where
  pub with_source : (r : RegisterSlot) → Laid (set_field w 21 5 (register_number r)) (with_rs f (register_number r))
  with_source r = then_rs l (register_number r) (register_lt r)

  pub with_temp : (r : RegisterSlot) → Laid (set_field w 16 5 (register_number r)) (with_rt f (register_number r))
  with_temp r = then_rt l (register_number r) (register_lt r)

  pub with_dest : (r : RegisterSlot) → Laid (set_field w 11 5 (register_number r)) (with_rd f (register_number r))
  with_dest r = then_rd l (register_number r) (register_lt r)

  pub with_fp_temp : (r : FPRegisterSlot) → Laid (set_field w 16 5 (fp_register_number r)) (with_rt f (fp_register_number r))
  with_fp_temp r = then_rt l (fp_register_number r) (fp_register_lt r)

  pub with_fp_source : (r : FPRegisterSlot) → Laid (set_field w 11 5 (fp_register_number r)) (with_rd f (fp_register_number r))
  with_fp_source r = then_rd l (fp_register_number r) (fp_register_lt r)

  pub with_fp_dest : (r : FPRegisterSlot) → Laid (set_field w 6 5 (fp_register_number r)) (with_sa f (fp_register_number r))
  with_fp_dest r = then_sa l (fp_register_number r) (fp_register_lt r)

  pub with_fp_fmt : (fmt : Format) → Laid (set_field w 21 5 (size_code fmt)) (with_rs f (size_code fmt))
  with_fp_fmt fmt = then_rs l (size_code fmt) (size_lt fmt)

-- a condition code's bits are a byte
pub code_lt : (cc : ℕ) (flag : Bool) → code_bits cc flag < 256
code_lt cc true = omega arith
code_lt cc false = omega arith

-- abs's first word by the manual and as the commit has it
pub abs_commit : (rt : ℕ) → immediate_layout 0 0 rt 31 ≡ abs_first_word Commit rt
abs_commit rt = omega arith

pub abs_manual : (rt : ℕ) → sham_word (Func 3) 1 rt 31 ≡ abs_first_word Manual rt
abs_manual rt = omega arith
