-- A branch that is taken goes where document 01's 'Reading back' reads that its patch leads. So does a jump. Assumes nothing.
use Rattle.std.specs.Prelude.{ℕ, ◌+◌, ◌*◌, ◌%◌, ◌^◌, ◌≡◌, refl, Bool, true, false, ltb}
use Rattle.std.proofs.Common.{div-one, arith, ◌∙◌}
use Rattle.std.proofs.Math.Path.{ap}
use Rattle.field.specs.Field.{get_field}
use Rattle.loading.specs.Run.{signed16}
use Rattle.pending.specs.declared.InstructionLabelKind.TheVariants.{Branch, Jump}
use Rattle.pending.specs.declared.Pending.{Pending}
use Rattle.reading.specs.Reading.{Image, pc_in, word_in, signed_bytes, read_by}
use Rattle.machine.specs.Instructions.{immediate}
use Rattle.machine.specs.Effects.{next_pc, branch_target, jump_target}

-- Four times a signed distance of 16 bits: the step and 'Reading back' compute the same.
pub four_signed : (p n : ℕ) → (p + 4 * signed16 n) % 2 ^ 32 ≡ (p + signed_bytes n) % 2 ^ 32
unfolding signed16 signed_bytes
four_signed p n = go (ltb n 32768) refl
  where
    go : (b : Bool) → ltb n 32768 ≡ b → (p + 4 * signed16 n) % 2 ^ 32 ≡ (p + signed_bytes n) % 2 ^ 32
    go true e = rw (e, signed16, signed_bytes)
    go false e = rw (e, signed16, signed_bytes) (omega arith)

low_bits : (w k : ℕ) → get_field w 0 k ≡ w % 2 ^ k
unfolding get_field
low_bits w k = rw div-one

module _ (image : Image) (p : Pending) where
  abbrev word : ℕ
  word = word_in image p.region p.offset

  pub branch_reads : branch_target (pc_in image p) word ≡ read_by Branch image p
  unfolding read_by
  branch_reads = four_signed (next_pc (pc_in image p)) (immediate word) ∙ ap (λ (n : ℕ). (next_pc (pc_in image p) + signed_bytes n) % 2 ^ 32) (low_bits word 16)

  pub jump_reads : jump_target (pc_in image p) word ≡ read_by Jump image p
  unfolding read_by
  jump_reads = rw (low_bits word 26)
