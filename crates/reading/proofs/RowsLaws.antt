-- The words of data from an offset on: what each word is, how many there are, and how they give the data back. Assumes nothing.
use Rattle.std.specs.Prelude.{ℕ, zero, suc, ◌+◌, ◌/◌, ◌^◌, ◌≤◌, ◌<◌, ◌≡◌, refl, min, ◌++◌, length, take, drop, get_or}
use Rattle.std.proofs.Common.{add-one, arith, ap, drop_of_length-le, drop-cons}
use mathlib.Core.List.{List, [], ◌∷◌, flat_map}
use Rattle.finished_words.specs.Listed.{Bytes}
use Rattle.reading.specs.Rows.{Row, row, rows}

-- ---- data from an offset on
module _ (address i : ℕ) (bytes : List ℕ) where
  pub rows_none : length bytes ≤ i → rows address i (drop i bytes) ≡ []
  unfolding rows
  rows_none h = rw (drop_of_length-le bytes h)

  step : (j k : ℕ) → j + 1 ≡ k → j < length bytes → drop j bytes ≡ get_or bytes j 0 ∷ drop k bytes
  step j k e l = rw (← e, add-one, drop-cons bytes j 0)

  four : i + 4 ≤ length bytes → drop i bytes ≡ get_or bytes i 0 ∷ get_or bytes (i + 1) 0 ∷ get_or bytes (i + 2) 0 ∷ get_or bytes (i + 3) 0 ∷ drop (i + 4) bytes
  four h = cc (step i (i + 1) refl (omega arith), step (i + 1) (i + 2) (omega arith) (omega arith), step (i + 2) (i + 3) (omega arith) (omega arith), step (i + 3) (i + 4) (omega arith) (omega arith))

  pub rows_word : i + 4 ≤ length bytes
      → rows address i (drop i bytes) ≡ row address i (get_or bytes i 0 ∷ get_or bytes (i + 1) 0 ∷ get_or bytes (i + 2) 0 ∷ get_or bytes (i + 3) 0 ∷ []) ∷ rows address (i + 4) (drop (i + 4) bytes)
  unfolding rows
  rows_word h = rw (four h)

pub rows_part : (address i : ℕ) (bytes : List ℕ) → 0 < length bytes → length bytes < 4 → rows address i bytes ≡ row address i bytes ∷ []
unfolding rows
rows_part address i [] g h = absurd (omega arith)
rows_part address i (a ∷ []) g h = refl
rows_part address i (a ∷ b ∷ []) g h = refl
rows_part address i (a ∷ b ∷ c ∷ []) g h = refl
rows_part address i (a ∷ b ∷ c ∷ d ∷ rest) g h = absurd (omega arith)

-- ---- data from its front on
chunk_is : (n : ℕ) (bytes after : List ℕ) → length bytes ≡ min n (length (bytes ++ after)) → (take n (bytes ++ after) ≡ bytes) × (drop n (bytes ++ after) ≡ after)
chunk_is zero [] after h = (refl, refl)
chunk_is zero (x ∷ bytes) after h = absurd (omega arith)
chunk_is (suc n) [] [] h = (refl, refl)
chunk_is (suc n) [] (y ∷ after) h = absurd (omega arith)
chunk_is (suc n) (x ∷ bytes) after h =
    let e = chunk_is n bytes after (omega arith) in
    (ap (λ (l : List ℕ). x ∷ l) e.0, e.1)

rows_take : (address i : ℕ) (rest : List ℕ) → 0 < length rest → rows address i rest ≡ row address i (take 4 rest) ∷ rows address (i + 4) (drop 4 rest)
unfolding rows
rows_take address i [] h = absurd (omega arith)
rows_take address i (a ∷ []) h = refl
rows_take address i (a ∷ b ∷ []) h = refl
rows_take address i (a ∷ b ∷ c ∷ []) h = refl
rows_take address i (a ∷ b ∷ c ∷ d ∷ rest) h = refl

-- The next four bytes, or the last part word, and then the rest.
pub rows_next : (address i : ℕ) (rest bytes after : List ℕ) → rest ≡ bytes ++ after → length bytes ≡ min 4 (length rest) → 0 < length rest
    → rows address i rest ≡ row address i bytes ∷ rows address (i + 4) after
rows_next address i rest bytes after e l h =
    let c = chunk_is 4 bytes after (rw e at l) in
    rw (rows_take address i rest h, e, c.0, c.1)

pub rows_end : (address i : ℕ) (rest : List ℕ) → length rest ≡ 0 → rows address i rest ≡ []
unfolding rows
rows_end address i [] h = refl
rows_end address i (x ∷ rest) h = absurd (omega arith)

-- ---- every element of a list
abbrev pub Each : {A : Type 0} → (A → Type 0) → List A → Type 0
Each P [] = Unit
Each P (x ∷ xs) = P x × Each P xs

-- ---- every word
pub record RowIs (r : Row) : Type 0 where
  pub pc_fits : r.pc < 2 ^ 32
  pub some : 0 < length r.bytes
  pub most : length r.bytes ≤ 4

row_is : (address i : ℕ) (bytes : List ℕ) → 0 < length bytes → length bytes ≤ 4 → RowIs (row address i bytes)
row_is address i bytes g h = record { pc_fits = omega arith; some = g; most = h }

pub rows_are : (address i : ℕ) (bytes : List ℕ) → Each RowIs (rows address i bytes)
unfolding rows
rows_are address i [] = tt
rows_are address i (a ∷ []) = (row_is address i (a ∷ []) (omega arith) (omega arith), tt)
rows_are address i (a ∷ b ∷ []) = (row_is address i (a ∷ b ∷ []) (omega arith) (omega arith), tt)
rows_are address i (a ∷ b ∷ c ∷ []) = (row_is address i (a ∷ b ∷ c ∷ []) (omega arith) (omega arith), tt)
rows_are address i (a ∷ b ∷ c ∷ d ∷ rest) = (row_is address i (a ∷ b ∷ c ∷ d ∷ []) (omega arith) (omega arith), rows_are address (i + 4) rest)

pub rows_count : (address i : ℕ) (bytes : List ℕ) → length (rows address i bytes) ≡ (length bytes + 3) / 4
unfolding rows
rows_count address i [] = refl
rows_count address i (a ∷ []) = refl
rows_count address i (a ∷ b ∷ []) = refl
rows_count address i (a ∷ b ∷ c ∷ []) = refl
rows_count address i (a ∷ b ∷ c ∷ d ∷ rest) = omega (arith, rows_count address (i + 4) rest)

-- the bytes of a word are bytes of the data
pub bytes_take : (n : ℕ) (s : List ℕ) → Bytes s → Bytes (take n s)
bytes_take zero s h i = omega arith
bytes_take (suc n) [] h i = h i
bytes_take (suc n) (x ∷ s) h zero = h 0
bytes_take (suc n) (x ∷ s) h (suc i) = bytes_take n s (λ j. h (suc j)) i

pub rows_bytes : (address i : ℕ) (bytes : List ℕ) → Bytes bytes → Each (λ (r : Row). Bytes r.bytes) (rows address i bytes)
unfolding rows
rows_bytes address i [] h = tt
rows_bytes address i (a ∷ []) h = (h, tt)
rows_bytes address i (a ∷ b ∷ []) h = (h, tt)
rows_bytes address i (a ∷ b ∷ c ∷ []) h = (h, tt)
rows_bytes address i (a ∷ b ∷ c ∷ d ∷ rest) h =
    (bytes_take 4 (a ∷ b ∷ c ∷ d ∷ rest) h, rows_bytes address (i + 4) rest (λ j. h (suc (suc (suc (suc j))))))

-- ---- the data from its words
abbrev pub data_of : List Row → List ℕ
data_of = flat_map (λ (r : Row). r.bytes)

pub rows_data : (address i : ℕ) (bytes : List ℕ) → data_of (rows address i bytes) ≡ bytes
unfolding rows flat_map
rows_data address i [] = refl
rows_data address i (a ∷ []) = refl
rows_data address i (a ∷ b ∷ []) = refl
rows_data address i (a ∷ b ∷ c ∷ []) = refl
rows_data address i (a ∷ b ∷ c ∷ d ∷ rest) = ap (λ (l : List ℕ). a ∷ b ∷ c ∷ d ∷ l) (rows_data address (i + 4) rest)
