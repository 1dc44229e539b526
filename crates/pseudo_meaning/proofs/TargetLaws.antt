-- A finished branch goes to its destination. Assumes nothing.
use Rattle.std.specs.Prelude.{ℕ, ◌+◌, ◌/◌, ◌%◌, ◌^◌, ◌<◌, ◌≤◌, ◌≡◌}
use Rattle.std.proofs.Common.{arith, ap, ◌∙◌}
use Rattle.word.specs.Layout.{immediate_layout}
use Rattle.word.proofs.LayoutLaws.{get_opcode, get_rs, get_rt, get_immediate}
use Rattle.pending.specs.declared.InstructionLabelKind.TheVariants.{Branch}
use Rattle.patch.specs.Patches.{after, distance_bits}
use Rattle.reading.specs.Reading.{signed_bytes}
use Rattle.reading.proofs.ArithmeticLaws.{branch_reads}
use Rattle.finished_words.specs.Words.{finished_word}
use Rattle.machine.specs.Instructions.{immediate}
use Rattle.machine.specs.Effects.{next_pc, branch_target}
use Rattle.dry_run_outcome.proofs.Targets.{four_signed}
use Rattle.formats.proofs.Formats.{ImmediateFormat}

module _ (pc dest w o s t : ℕ) (ho : o < 64) (hs : s < 32) (ht : t < 32) (r : ImmediateFormat w o s t 0) where
  finished_is : finished_word Branch pc dest w ≡ immediate_layout o s t (distance_bits pc dest)
  unfolding finished_word
  finished_is = rw (r.opcode_is, r.rs_is, r.rt_is)

  -- The finished branch has the emitted branch's fields, and the distance.
  pub finished_reads : ImmediateFormat (finished_word Branch pc dest w) o s t (distance_bits pc dest)
  finished_reads =
      rw finished_is record {
        opcode_is = get_opcode o s t (distance_bits pc dest) ho hs ht (omega arith);
        rs_is = get_rs o s t (distance_bits pc dest) ho hs ht (omega arith);
        rt_is = get_rt o s t (distance_bits pc dest) ho hs ht (omega arith);
        immediate_is = get_immediate o s t (distance_bits pc dest) ho hs ht (omega arith);
      }

  pub goes_there : pc % 4 ≡ 0 → dest % 4 ≡ 0 → dest < 2 ^ 32 → after pc / 4 ≤ dest / 4 + 32768 → dest / 4 ≤ after pc / 4 + 32767 → branch_target pc (finished_word Branch pc dest w) ≡ dest
  goes_there hp hd hl hn hm =
      four_signed (next_pc pc) (immediate (finished_word Branch pc dest w))
      ∙ ap (λ (n : ℕ). (next_pc pc + signed_bytes n) % 2 ^ 32) finished_reads.immediate_is
      ∙ branch_reads pc dest hp hd hl hn hm
