-- The word that each opcode class starts from. Assumes nothing.
use Rattle.std.specs.Prelude.{ℕ, ◌+◌, ◌*◌, ◌%◌, ◌^◌}
use Rattle.instructions.specs.declared.Opcode.{Opcode}
use Rattle.instructions.specs.declared.Opcode.TheVariants.{Op, Func, Special, Algebra, Cop1, Cop1I}

-- "Bases: Op key×2^26; Func key; Special key×2^16 + 2^26; Algebra key + 28×2^26; Cop1 key + 17×2^26 (keys modulo 64);
-- Cop1I key×2^21 + 17×2^26 (modulo 32)."
abbrev pub instruction_base : Opcode → ℕ
instruction_base (Op key) = key % 64 * 2 ^ 26
instruction_base (Func key) = key % 64
instruction_base (Special key) = key % 64 * 2 ^ 16 + 2 ^ 26
instruction_base (Algebra key) = key % 64 + 28 * 2 ^ 26
instruction_base (Cop1 key) = key % 64 + 17 * 2 ^ 26
instruction_base (Cop1I key) = key % 32 * 2 ^ 21 + 17 * 2 ^ 26
