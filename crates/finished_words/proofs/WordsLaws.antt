-- A finished word is the low 32 bits of the patched one. Patching it again changes nothing. Assumes nothing.
use Rattle.std.specs.Prelude.{ℕ, ◌+◌, ◌*◌, ◌/◌, ◌%◌, ◌^◌, ◌<◌, ◌≡◌}
use Rattle.std.proofs.Common.{arith, sym, ap, ◌∙◌}
use Rattle.std.proofs.Math.Nat.{div-div-eq-div-mul}
use Rattle.field.specs.Field.{get_field, set_field}
use Rattle.pending.specs.declared.InstructionLabelKind.{InstructionLabelKind}
use Rattle.pending.specs.declared.InstructionLabelKind.TheVariants.{Branch, Jump, Lower, Upper, Full}
use Rattle.patch.specs.Patches.{field_width, field_value, distance_bits, patched_word}
use Rattle.patch.proofs.PatchesLaws.{low_width, patched_field}
use Rattle.finished_words.specs.Words.{with_immediate, finished_word}

-- 16 bits, as 6, 5 and 5
three_fields : (u : ℕ) → u / 1024 % 64 * 1024 + u / 32 % 32 * 32 + u % 32 ≡ u % 65536
three_fields u =
    let b : u / 32 / 32 ≡ u / 1024 = div-div-eq-div-mul u 32 32 in
    let c : u / 1024 / 64 ≡ u / 65536 = div-div-eq-div-mul u 1024 64 in
    omega arith

-- the 16 low bits replaced
immediate_set : (word v : ℕ) → v < 65536 → (word / 65536 * 65536 + v) % 2 ^ 32 ≡ with_immediate word v
unfolding get_field
immediate_set word v h =
    rw (← div-div-eq-div-mul word 65536 32, ← div-div-eq-div-mul word 65536 1024) (omega (arith, three_fields (word / 65536)))

pub finished_is : (kind : InstructionLabelKind) (pc dest word : ℕ) → dest < 2 ^ 32 → patched_word kind pc dest word % 2 ^ 32 ≡ finished_word kind pc dest word
unfolding finished_word field_width field_value set_field get_field
finished_is Branch pc dest word h = omega (arith, immediate_set word (distance_bits pc dest) (omega arith))
finished_is Jump pc dest word h = omega arith
finished_is Lower pc dest word h = omega (arith, immediate_set word (dest % 65536) (omega arith))
finished_is Upper pc dest word h = omega (arith, immediate_set word (dest / 65536) (omega arith))
finished_is Full pc dest word h = omega arith

patched_again : (kind : InstructionLabelKind) (pc dest word : ℕ) → dest < 2 ^ 32
    → patched_word kind pc dest (patched_word kind pc dest word % 2 ^ 32) % 2 ^ 32 ≡ patched_word kind pc dest word % 2 ^ 32
unfolding field_width field_value set_field
patched_again Branch pc dest word h = omega arith
patched_again Jump pc dest word h = omega arith
patched_again Lower pc dest word h = omega arith
patched_again Upper pc dest word h = omega arith
patched_again Full pc dest word h = omega arith

pub finished_again : (kind : InstructionLabelKind) (pc dest word : ℕ) → dest < 2 ^ 32
    → finished_word kind pc dest (finished_word kind pc dest word) ≡ finished_word kind pc dest word
finished_again kind pc dest word h =
    let e = finished_is kind pc dest word h in
    sym (finished_is kind pc dest (finished_word kind pc dest word) h)
    ∙ ap (λ (w : ℕ). patched_word kind pc dest w % 2 ^ 32) (sym e) ∙ patched_again kind pc dest word h ∙ e

-- its low bits are the patch's field
pub finished_field : (kind : InstructionLabelKind) (pc dest word : ℕ) → dest < 2 ^ 32 → finished_word kind pc dest word % 2 ^ field_width kind ≡ field_value kind pc dest
finished_field kind pc dest word h =
    ap (λ (w : ℕ). w % 2 ^ field_width kind) (sym (finished_is kind pc dest word h))
    ∙ low_width kind (patched_word kind pc dest word) ∙ patched_field kind pc dest word h
