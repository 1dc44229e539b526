-- Bit by bit: writing a field into a word of the list leaves every bit outside the field as it was. Assumes nothing.
use Prim.Native.Nat.{ℕ, zero, suc, ◌+◌, ◌-◌, ◌*◌, ◌/◌, ◌%◌, ◌^◌, ◌<◌, ◌≤◌}
use Rattle.std.proofs.Common.{arith, add-zero, inl, inr, sym, ap, ◌∙◌, pow_pos, shr-shr, ltb-true, ltb-false}
use Rattle.std.proofs.Math.Nat.{mod-lt}
use mathlib.Core.List.{List}
use Rattle.std.specs.Prelude.{◌⊎◌, Bool, true, false, ◌≡◌, refl, length, ltb, Ok}
use Rattle.std.proofs.Math.Logic.{⊎_elim}
use Rattle.std.proofs.Math.Pow.{field, mod-mod-pow}
use Rattle.jobs.specs.declared.Job.{Job}
use Rattle.field.specs.Field.{get_field, set_field}
use Rattle.field.proofs.FieldLaws.{get_set_above}
use Rattle.record.specs.Bytes.{byte_at, le32}
use Rattle.record.specs.Stores.{le32_bytes, append}
use Rattle.labels.specs.Labels.{Table}
use Rattle.patch.specs.Patches.{field_width, write_pending}
use Rattle.patch.proofs.PatchesLaws.{value_fits}
use Rattle.patch.proofs.WordLaws.{byte_out, bytes_in}
use Rattle.build_outcome.specs.Build.{build_verdict, patched_regions}
use Rattle.finished_words.specs.Listed.{kind_of, pc_at, destination_at, slot_at, Bytes, OutsideFields, bit_at}
use Rattle.finished_words.proofs.AcceptedLaws.{dest_lt, has_room, at_exit}

-- The bits of a word's byte are bits of the word.
byte_bit : (w o j : ℕ) → j < 8 → get_field (get_field w o 8) j 1 ≡ get_field w (o + j) 1
unfolding get_field
byte_bit w o j h =
    let s : 7 - j + (1 + j) ≡ 8 = omega arith in
    let low : w / 2 ^ o % 2 ^ 8 % 2 ^ (1 + j) ≡ w / 2 ^ o % 2 ^ (1 + j) =
    sym (ap (λ (n : ℕ). w / 2 ^ o % 2 ^ n % 2 ^ (1 + j)) s) ∙ mod-mod-pow (w / 2 ^ o) (7 - j) (1 + j) in
    sym (field (w / 2 ^ o % 2 ^ 8) 1 j) ∙ ap (λ (n : ℕ). n / 2 ^ j) low ∙ field (w / 2 ^ o) 1 j ∙ ap (λ (n : ℕ). n % 2 ^ 1) (shr-shr w o j)

-- Byte k of a word in the list is the word's k-th group of eight bits.
own_byte : (d : List ℕ) (i k : ℕ) → Bytes d → k < 4 → byte_at d (i + k) ≡ get_field (le32 d i) (8 * k) 8
unfolding get_field
own_byte d i zero b h = rw (add-zero i) (omega (arith, b i))
own_byte d i (suc zero) b h = omega (arith, b i, b (i + 1))
own_byte d i (suc (suc zero)) b h = omega (arith, b i, b (i + 1), b (i + 2))
own_byte d i (suc (suc (suc zero))) b h = omega (arith, b i, b (i + 1), b (i + 2), b (i + 3))
own_byte d i (suc (suc (suc (suc k)))) b h = absurd (omega arith)

-- Byte n is outside the four bytes from i on, or it is number n - i of the four.
which : (i n : ℕ) → ((n < i) ⊎ (i + 4 ≤ n)) ⊎ ((i + (n - i) ≡ n) × (n - i < 4))
which i n = go (ltb n i) refl (ltb n (i + 4)) refl
  where
    go : (b : Bool) → ltb n i ≡ b → (c : Bool) → ltb n (i + 4) ≡ c → ((n < i) ⊎ (i + 4 ≤ n)) ⊎ ((i + (n - i) ≡ n) × (n - i < 4))
    go true e c f = inl (inl (ltb-true n i e))
    go false e true f =
        let l = ltb-false n i e in
        let u = ltb-true n (i + 4) f in
        inr (omega arith, omega arith)
    go false e false f = inl (inr (ltb-false n (i + 4) f))

module _ (d : List ℕ) (i w : ℕ) (room : i + 4 ≤ length d) where
  stored_byte : (k : ℕ) → k < 4 → byte_at (append d i (le32_bytes w)) (i + k) ≡ get_field w (8 * k) 8
  unfolding get_field
  stored_byte zero h = rw (add-zero i) (omega (arith, (bytes_in d i w room).0))
  stored_byte (suc zero) h = (bytes_in d i w room).1
  stored_byte (suc (suc zero)) h = (bytes_in d i w room).2
  stored_byte (suc (suc (suc zero))) h = (bytes_in d i w room).3
  stored_byte (suc (suc (suc (suc k)))) h = absurd (omega arith)

  bytes_stay : Bytes d → Bytes (append d i (le32_bytes w))
  unfolding get_field
  bytes_stay b n =
      ⊎_elim (λ o. omega (arith, byte_out d i w room n o, b n))
      (λ k. rw (← k.0) (omega (arith, stored_byte (n - i) k.1, mod-lt (w / 2 ^ (8 * (n - i))) (pow_pos 8)))) (which i n)

-- a field of the word at slot is written
module _ (d : List ℕ) (slot width v : ℕ) (room : slot + 4 ≤ length d) (fits : v < 2 ^ width) (bytes : Bytes d) where
  bit_stays : (i j : ℕ) → j < 8 → (8 * i + j < 8 * slot) ⊎ (8 * slot + width ≤ 8 * i + j)
      → bit_at (append d slot (le32_bytes (set_field (le32 d slot) 0 width v))) i j ≡ bit_at d i j
  bit_stays i j h out = go (which slot i) out
    where
      w : ℕ
      w = set_field (le32 d slot) 0 width v

      inside : (k : ℕ) → k < 4 → width ≤ 8 * k + j → bit_at (append d slot (le32_bytes w)) (slot + k) j ≡ bit_at d (slot + k) j
      inside k l o =
          ap (λ (b : ℕ). get_field b j 1) (stored_byte d slot w room k l)
          ∙ byte_bit w (8 * k) j h
          ∙ get_set_above (le32 d slot) 0 width v (8 * k + j) 1 fits (omega arith)
          ∙ sym (byte_bit (le32 d slot) (8 * k) j h)
          ∙ ap (λ (b : ℕ). get_field b j 1) (sym (own_byte d slot k bytes l))

      go : ((i < slot) ⊎ (slot + 4 ≤ i)) ⊎ ((slot + (i - slot) ≡ i) × (i - slot < 4)) → (8 * i + j < 8 * slot) ⊎ (8 * slot + width ≤ 8 * i + j)
          → bit_at (append d slot (le32_bytes w)) i j ≡ bit_at d i j
      go (inl o) x = ap (λ (b : ℕ). get_field b j 1) (byte_out d slot w room i o)
      go (inr k) (inl x) = absurd (omega (arith, k.0))
      go (inr k) (inr x) = rw k.0 at (inside (i - slot) k.1 (omega (arith, k.0)))

module _ (job : Job) (labels : Table) (entry regions pending : List ℕ) (pass : build_verdict job labels entry regions pending ≡ Ok tt) where
  -- each bit outside every field is as at entry
  pub bits_same : Bytes regions → (i j : ℕ) → j < 8 → OutsideFields regions pending i j → bit_at (patched_regions labels regions pending) i j ≡ bit_at regions i j
  unfolding write_pending
  bits_same bytes i j h out =
      (at_exit job labels entry regions pending pass (λ (d : List ℕ). Bytes d × (bit_at d i j ≡ bit_at regions i j))
      (λ q d m k x.
      let room = has_room job labels entry regions pending pass q d m k in
      let fits = value_fits (kind_of pending q) (pc_at regions pending q) (destination_at labels pending q) (dest_lt job labels entry regions pending pass q m) in (
        bytes_stay d (slot_at regions pending q) _ room x.0,
        bit_stays d (slot_at regions pending q) (field_width (kind_of pending q)) _ room fits x.0 i j h (out q m) ∙ x.1,
      ))
      (bytes, refl)).1
