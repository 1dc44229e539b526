-- A word stored in a list of bytes: what is read there, and everywhere else. Assumes nothing.
use Rattle.std.specs.Prelude.{◌≡◌, ℕ, ◌+◌, ◌*◌, ◌/◌, ◌%◌, ◌<◌, ◌≤◌, ◌≢◌, ◌⊎◌, List, length, slice_set}
use Rattle.std.proofs.Common.{arith, inl, inr, sym, ap, ◌∙◌, length-set, get_or-set_same, get_or-set_other}
use Rattle.std.proofs.Math.Nat.{div-div-eq-div-mul, div-add-mod}
use Rattle.record.specs.Bytes.{le32, byte_at}
use Rattle.record.specs.Stores.{le32_bytes, append}
use Rattle.record.proofs.StoresLaws.{four_stores}

-- the low 32 bits, byte by byte
digits : (w : ℕ) → w % 256 + 256 * (w / 256 % 256) + 65536 * (w / 65536 % 256) + 16777216 * (w / 16777216 % 256) ≡ w % 4294967296
digits w =
    let e₁ : 256 * (w / 256) + w % 256 ≡ w = div-add-mod w 256 in
    let e₂ : 256 * (w / 65536) + w / 256 % 256 ≡ w / 256 = rw (← div-div-eq-div-mul w 256 256) (div-add-mod (w / 256) 256) in
    let e₃ : 256 * (w / 16777216) + w / 65536 % 256 ≡ w / 65536 = rw (← div-div-eq-div-mul w 65536 256) (div-add-mod (w / 65536) 256) in
    let e₄ : 256 * (w / 4294967296) + w / 16777216 % 256 ≡ w / 16777216 = rw (← div-div-eq-div-mul w 16777216 256) (div-add-mod (w / 16777216) 256) in
    let e₅ : 4294967296 * (w / 4294967296) + w % 4294967296 ≡ w = div-add-mod w 4294967296 in
    omega arith

-- a word stored from i on, where there is room for it
module _ (d : List ℕ) (i w : ℕ) (room : i + 4 ≤ length d) where
  -- four stores, one after the other
  stores : append d i (le32_bytes w) ≡ slice_set (slice_set (slice_set (slice_set d i (w % 256)) (i + 1) (w / 256 % 256)) (i + 2) (w / 65536 % 256)) (i + 3) (w / 16777216 % 256)
  stores = sym (four_stores d i (w % 256) (w / 256 % 256) (w / 65536 % 256) (w / 16777216 % 256) room)

  pub length_put : length (append d i (le32_bytes w)) ≡ length d
  length_put = ap length stores ∙ simp length-set

  -- A byte outside the word stays.
  pub byte_out : (j : ℕ) → (j < i) ⊎ (i + 4 ≤ j) → byte_at (append d i (le32_bytes w)) j ≡ byte_at d j
  byte_out j a = ap (λ (l : List ℕ). byte_at l j) stores ∙ go a
    where
      go : (j < i) ⊎ (i + 4 ≤ j)
          → byte_at (slice_set (slice_set (slice_set (slice_set d i (w % 256)) (i + 1) (w / 256 % 256)) (i + 2) (w / 65536 % 256)) (i + 3) (w / 16777216 % 256)) j ≡ byte_at d j
      go (inl h) =
          let n₀ : j ≢ i = omega arith in
          let n₁ : j ≢ i + 1 = omega arith in
          let n₂ : j ≢ i + 2 = omega arith in
          let n₃ : j ≢ i + 3 = omega arith in
          simp get_or-set_other
      go (inr h) =
          let n₀ : j ≢ i = omega arith in
          let n₁ : j ≢ i + 1 = omega arith in
          let n₂ : j ≢ i + 2 = omega arith in
          let n₃ : j ≢ i + 3 = omega arith in
          simp get_or-set_other

  -- the bytes that were stored
  pub bytes_in : (byte_at (append d i (le32_bytes w)) i ≡ w % 256) × (byte_at (append d i (le32_bytes w)) (i + 1) ≡ w / 256 % 256)
      × (byte_at (append d i (le32_bytes w)) (i + 2) ≡ w / 65536 % 256) × (byte_at (append d i (le32_bytes w)) (i + 3) ≡ w / 16777216 % 256)
  bytes_in =
      let d₁ = slice_set d i (w % 256) in
      let d₂ = slice_set d₁ (i + 1) (w / 256 % 256) in
      let d₃ = slice_set d₂ (i + 2) (w / 65536 % 256) in
      let d₄ = slice_set d₃ (i + 3) (w / 16777216 % 256) in
      let l₁ : length d₁ ≡ length d = simp length-set in
      let l₂ : length d₂ ≡ length d = simp length-set in
      let l₃ : length d₃ ≡ length d = simp length-set in
      let h₀ : i < length d = omega arith in
      let h₁ : i + 1 < length d₁ = omega arith in
      let h₂ : i + 2 < length d₂ = omega arith in
      let h₃ : i + 3 < length d₃ = omega arith in
      let n₁ : i ≢ i + 1 = omega arith in
      let n₂ : i ≢ i + 2 = omega arith in
      let n₃ : i ≢ i + 3 = omega arith in
      let m₂ : i + 1 ≢ i + 2 = omega arith in
      let m₃ : i + 1 ≢ i + 3 = omega arith in
      let k₃ : i + 2 ≢ i + 3 = omega arith in
      rw stores (simp (get_or-set_other, get_or-set_same), simp (get_or-set_other, get_or-set_same), simp (get_or-set_other, get_or-set_same), simp get_or-set_same)

  -- Reading the stored word gives its low 32 bits.
  pub read_same : le32 (append d i (le32_bytes w)) i ≡ w % 4294967296
  read_same = omega (arith, digits w, bytes_in)

  -- A word that shares no byte with it reads as before.
  pub read_other : (j : ℕ) → (i + 4 ≤ j) ⊎ (j + 4 ≤ i) → le32 (append d i (le32_bytes w)) j ≡ le32 d j
  read_other j (inl h) =
      simp (
        byte_out j (inr (omega arith)),
        byte_out (j + 1) (inr (omega arith)),
        byte_out (j + 2) (inr (omega arith)),
        byte_out (j + 3) (inr (omega arith)),
      )
  read_other j (inr h) =
      simp (
        byte_out j (inl (omega arith)),
        byte_out (j + 1) (inl (omega arith)),
        byte_out (j + 2) (inl (omega arith)),
        byte_out (j + 3) (inl (omega arith)),
      )
