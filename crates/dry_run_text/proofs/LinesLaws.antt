-- The lengths of a dry run's lines, and the registers from a place on. Assumes nothing.
use Rattle.std.specs.Prelude.{ℕ, ◌+◌, ◌*◌, ◌≤◌, ◌<◌, List, [], ◌∷◌, ◌++◌, ◌≡◌, refl, length, get_or, drop}
use Rattle.std.proofs.Common.{add-one, arith, length-append, drop_of_length-le, drop-cons}
use Rattle.record.specs.Texts.{bytes_of}
use Rattle.machine.specs.declared.Machine.{Machine}
use Rattle.machine.specs.declared.Reason.{Reason}
use Rattle.machine.specs.declared.Reason.TheVariants.{Allowance, Pc, Word, Overflow}
use Rattle.text.specs.Text.{last_field}
use Rattle.text.proofs.TextLaws.{last_most}
use Rattle.dry_run_text.specs.Lines.{reason_line, steps_line, hex_field, hex_fields, pc_line, registers_line, run_text}

-- ---- registers one after the other
pub fields_next : (ns : List ℕ) (i : ℕ) → i < length ns → hex_fields (drop i ns) ≡ hex_field (get_or ns i 0) ++ hex_fields (drop (i + 1) ns)
unfolding hex_fields
fields_next ns i h = rw (add-one, drop-cons ns i 0)

pub fields_end : (ns : List ℕ) (i : ℕ) → length ns ≤ i → hex_fields (drop i ns) ≡ []
unfolding hex_fields
fields_end ns i h = rw (drop_of_length-le ns h)

-- ---- lengths
pub fields_length : (ns : List ℕ) → length (hex_fields ns) ≡ 9 * length ns
unfolding hex_fields
fields_length [] = refl
fields_length (n ∷ ns) = omega (arith, length-append (hex_field n) (hex_fields ns), fields_length ns)

pub reason_most : (reason : Reason) → length (reason_line reason) ≤ 17
unfolding reason_line
reason_most Allowance = omega arith
reason_most Pc = omega arith
reason_most Word = omega arith
reason_most Overflow = omega arith

pub steps_most : (n : ℕ) → length (steps_line n) ≤ 27
steps_most n = omega (arith, length-append (bytes_of "steps") (last_field n), last_most n)

pub pc_length : (n : ℕ) → length (pc_line n) ≡ 12
unfolding pc_line
pc_length n = refl

pub registers_length : (ns : List ℕ) → length (registers_line ns) ≡ 10 + 9 * length ns
unfolding registers_line
registers_length ns =
    let front = bytes_of "registers" ++ hex_fields ns in
    omega (arith, length-append front (bytes_of "\n"), length-append (bytes_of "registers") (hex_fields ns), fields_length ns)

pub run_most : (reason : Reason) (steps : ℕ) (m : Machine) → length (run_text reason steps m) ≤ 66 + 9 * length m.registers
run_most reason steps m =
    let front = reason_line reason ++ steps_line steps in
    omega (
      arith,
      length-append (front ++ pc_line m.pc) (registers_line m.registers),
      length-append front (pc_line m.pc),
      length-append (reason_line reason) (steps_line steps),
      reason_most reason,
      steps_most steps,
      pc_length m.pc,
      registers_length m.registers,
    )
