-- Running words on 32 registers of 32 bits (document 01, 'Words'). Assumes nothing.
use Rattle.std.specs.Prelude.{ℕ, ◌+◌, ◌-◌, ◌*◌, ◌%◌, ◌^◌, List, [], ◌∷◌, true, false, ltb, eqb, get_or, set}
use Rattle.std.specs.Int.Bits.{bit_or}
use Rattle.field.specs.Field.{get_field}

-- What the registers hold, by number.
abbrev pub Registers : Type 0
Registers = List ℕ

-- "$zero always 0": it reads as 0, and a write to it is lost.
unfoldable pub read_register : Registers → ℕ → ℕ
read_register g r = elim (eqb r 0) [ true ↦ 0 | false ↦ get_or g r 0 ]

unfoldable pub write_register : Registers → ℕ → ℕ → Registers
write_register g r v = elim (eqb r 0) [ true ↦ g | false ↦ set g r v ]

-- n as a signed 16-bit number, extended to 32 bits
unfoldable pub signed16 : ℕ → ℕ
signed16 n = elim (ltb n 32768) [ true ↦ n | false ↦ n + (2 ^ 32 - 65536) ]

-- The registers after a run, or that a word failed it.
pub data Outcome : Type 0 where
  ran : Registers → Outcome
  failed : Outcome

-- "addiu (top six bits 9) sets t to s plus n signed, wrapping; ori (13) to s or n bitwise; lui (15) to n times 65,536; any other word
-- fails the run."
unfoldable pub execute : (opcode s t n : ℕ) → Registers → Outcome
unfolding read_register write_register signed16
execute opcode s t n g =
    elim (eqb opcode 9) [
      | true ↦ ran (write_register g t ((read_register g s + signed16 n) % 2 ^ 32))
      | false ↦ elim (eqb opcode 13) [
        | true ↦ ran (write_register g t (bit_or (read_register g s) n))
        | false ↦ elim (eqb opcode 15) [ true ↦ ran (write_register g t (n * 65536)) | false ↦ failed ]
      ]
    ]

-- "Bits 21-25 name register s, 16-20 register t, 0-15 are n"
abbrev pub step : ℕ → Registers → Outcome
step w g = execute (get_field w 26 6) (get_field w 21 5) (get_field w 16 5) (get_field w 0 16) g

-- "They run in order"
unfoldable pub run : List ℕ → Registers → Outcome
run [] g = ran g
run (w ∷ ws) g = elim (step w g) [ ran g' ↦ run ws g' | failed ↦ failed ]
