-- Which instruction a word is, from its opcode and its function. Assumes nothing.
use Rattle.std.specs.Prelude.{◌≡◌, ℕ, ◌≢◌, refl}
use Rattle.std.proofs.Common.{sym, ◌∙◌, ne_eqb}
use Rattle.field.specs.Field.{get_field}
use Rattle.machine.specs.Instructions.{table, opcode, rs, sa, function, instruction_of}

-- The instruction of a word that is not nop, when its opcode and function are known.
pub decoded : (w o f : ℕ) → (w ≢ 0) → opcode w ≡ o → function w ≡ f → instruction_of w ≡ table 1 o (rs w) (sa w) f
unfolding instruction_of table
decoded w o f n e g = rw (ne_eqb w 0 n, e, g)

-- a word whose opcode is not 0 is not nop
pub not_nop : (w : ℕ) → (opcode w ≢ 0) → w ≢ 0
unfolding get_field
not_nop w h e = h (rw e)

-- the instruction of a word whose opcode is not 0
pub named : (w o : ℕ) → (o ≢ 0) → opcode w ≡ o → instruction_of w ≡ table 1 o (rs w) (sa w) (function w)
named w o n e = decoded w o (function w) (not_nop w (λ z. n (sym e ∙ z))) e refl

-- a word whose function is not 0 is not nop
not_zero : (w f : ℕ) → (f ≢ 0) → function w ≡ f → w ≢ 0
unfolding get_field
not_zero w f n e z = n (sym e ∙ rw z)

-- the instruction of a word whose opcode is 0 and whose function is not
pub special : (w f : ℕ) → (f ≢ 0) → opcode w ≡ 0 → function w ≡ f → instruction_of w ≡ table 1 0 (rs w) (sa w) f
special w f n o e = decoded w 0 f (not_zero w f n e) o e
