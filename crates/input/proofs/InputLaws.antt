-- Laws of the lists of an input: parts of it that end within it. Assumes nothing.
use Rattle.std.specs.Prelude.{ℕ, None, Option, Some, ◌+◌, ◌-◌, ◌≤◌, ◌<◌, min, List, Bool, true, false, ◌≡◌, refl, leb, length, take, drop, replicate}
use Rattle.std.proofs.Common.{add-one, arith, sym, ap, ◌∙◌, length-append, length-take, length-drop, drop_of_length-le, take_all, take_at, leb-true, leb-false, le-leb}
use Rattle.std.specs.Int.{w16, w32, byte_worth, from_le_bytes}
use Rattle.std.specs.List.{slice_index}
use Rattle.std.specs.Option.{MatchOption}
use Rattle.std.proofs.lemmas.List.{get_or-drop, get_or-take, length-replicate}
use Rattle.std.proofs.lemmas.Bool.{lt-leb}
use Rattle.record.specs.Bytes.{byte_at, le16, le32}
use Rattle.record.specs.Stores.{append}
use Rattle.input.specs.Input.{list_end, behind_list, behind_lists, list_in, word_or_zero, half_or_zero}

-- Dropping past the end drops no more than all.
drop_min : (s : List ℕ) (n : ℕ) → drop (min n (length s)) s ≡ drop n s
drop_min s n = go (leb n (length s)) refl
  where
    go : (b : Bool) → leb n (length s) ≡ b → drop (min n (length s)) s ≡ drop n s
    go true e =
        let h = leb-true n (length s) e in
        let m : min n (length s) ≡ n = omega arith in
        ap (λ (k : ℕ). drop k s) m
    go false e =
        let h = leb-false n (length s) e in
        let m : length s ≤ min n (length s) = omega arith in
        let g : length s ≤ n = omega arith in
        drop_of_length-le s m ∙ sym (drop_of_length-le s g)

-- Taking past the end takes no more than all.
take_min : (s : List ℕ) (n k : ℕ) → min n (length s) ≤ k → k ≤ n → take k s ≡ take n s
take_min s n k h g = go (leb n (length s)) refl
  where
    go : (b : Bool) → leb n (length s) ≡ b → take k s ≡ take n s
    go true e =
        let l = leb-true n (length s) e in
        let m : k ≡ n = omega arith in
        ap (λ (j : ℕ). take j s) m
    go false e =
        let l = leb-false n (length s) e in
        take_all k s (omega arith) ∙ sym (take_all n s (omega arith))

-- the part from a place on
pub rest_is : (s : List ℕ) (n k : ℕ) → k ≡ min n (length s) → take (length s - k) (drop k s) ≡ drop n s
rest_is s n k e = take_all (length s - k) (drop k s) (simp length-drop (omega arith)) ∙ ap (λ (j : ℕ). drop j s) e ∙ drop_min s n

pub behind_next : (s rest : List ℕ) (n k : ℕ) → rest ≡ behind_lists n s → k ≡ min (list_end rest) (length rest)
    → take (length rest - k) (drop k rest) ≡ behind_lists (n + 1) s
unfolding behind_lists
behind_next s rest n k e h = rw add-one (rest_is rest (list_end rest) k h ∙ ap behind_list e)

-- A list takes at least the four bytes of its count.
pub behind_shorter : (s : List ℕ) (n : ℕ) → 4 ≤ length (behind_lists n s) → length (behind_lists (n + 1) s) + 4 ≤ length (behind_lists n s)
unfolding behind_lists
behind_shorter s n h = rw add-one (simp length-drop (omega arith))

-- the part behind the count
pub list_is : (s : List ℕ) (start end : ℕ) → start ≡ min 4 (length s) → end ≡ min (list_end s) (length s)
    → take (end - start) (drop start s) ≡ list_in s
list_is s start end a b =
    ap (λ (xs : List ℕ). take (end - start) xs) (ap (λ (j : ℕ). drop j s) a ∙ drop_min s 4)
    ∙ take_min (drop 4 s) (le32 s 0) (end - start) (simp length-drop (omega arith)) (omega arith)

-- ---- how much is held of a list, if there is room for one byte more than the limit
pub record Held (list e : List ℕ) (n : ℕ) : Type 0 where
  pub within : n ≤ length e
  pub counts : n ≡ length (take n e)
  pub most : length (take n e) ≤ 65537
  pub bytes : take n e ≡ take 65537 list

-- The part of a space that holds a list has as much of the list as fits.
pub held_part : (space list e : List ℕ) (n : ℕ) → n ≡ min (length list) (length space) → e ≡ append space 0 (take n list) → take n e ≡ take (length space) list
unfolding append
held_part space list e n h g =
    let l : length (take n list) ≡ n = simp length-take (omega arith) in
    let t : take n e ≡ take n list = rw g (take_at (take n list) (drop (0 + length (take n list)) space) n l) in
    t ∙ take_min list (length space) n (omega arith) (omega arith)

held_at : (space list e : List ℕ) (n : ℕ) → length space ≡ 65537 → n ≡ min (length list) (length space) → e ≡ append space 0 (take n list) → Held list e n
unfolding append
held_at space list e n z h g =
    let l : length (take n list) ≡ n = simp length-take (omega arith) in
    let w : length e ≡ length (take n list) + (length space - (0 + length (take n list))) = rw g (simp (length-append, length-drop) (omega arith)) in
    let t : take n e ≡ take n list = rw g (take_at (take n list) (drop (0 + length (take n list)) space) n l) in
    record {
      within = omega arith;
      counts = sym (ap length t ∙ l);
      most = rw t (omega arith);
      bytes = t ∙ take_min list 65537 n (omega arith) (omega arith);
    }

pub held_is : (list e : List ℕ) (n : ℕ) → let space = replicate {A = ℕ} 65537 0 in
    n ≡ min (length list) (length space) → e ≡ append space 0 (take n list) → Held list e n
held_is list e n h g = held_at (replicate 65537 0) list e n (length-replicate {A = ℕ} 65537 0) h g

-- the part of a space for one byte more than the limit that holds a list
pub record HeldIn (list e : List ℕ) : Type 0 where
  pub most : length e ≤ 65537
  pub bytes : e ≡ take 65537 list

pub held_in : (list e : List ℕ) → e ≡ take (length (replicate {A = ℕ} 65537 0)) list → HeldIn list e
held_in list e h =
    let b : e ≡ take 65537 list = h ∙ ap (λ (n : ℕ). take n list) (length-replicate {A = ℕ} 65537 0) in
    record { most = rw b (simp length-take (omega arith)); bytes = b }

-- ---- numbers
pub word_there : (s : List ℕ) (at : ℕ) → at + 4 ≤ length s → word_or_zero s at ≡ le32 s at
unfolding word_or_zero
word_there s at h = rw (le-leb (at + 4) (length s) h, word_or_zero)

pub word_missing : (s : List ℕ) (at : ℕ) → length s < at + 4 → word_or_zero s at ≡ 0
unfolding word_or_zero
word_missing s at h = rw (lt-leb (at + 4) (length s) h, word_or_zero)

pub half_there : (s : List ℕ) (at : ℕ) → at + 2 ≤ length s → half_or_zero s at ≡ le16 s at
unfolding half_or_zero
half_there s at h = rw (le-leb (at + 2) (length s) h, half_or_zero)

pub half_missing : (s : List ℕ) (at : ℕ) → length s < at + 2 → half_or_zero s at ≡ 0
unfolding half_or_zero
half_missing s at h = rw (lt-leb (at + 2) (length s) h, half_or_zero)

-- a number behind the first bytes
behind_there : (s : List ℕ) (k at n : ℕ) → 0 < n → leb (at + n) (length (drop k s)) ≡ leb (k + at + n) (length s)
behind_there s k at n p = go (leb (k + at + n) (length s)) refl
  where
    go : (b : Bool) → leb (k + at + n) (length s) ≡ b → leb (at + n) (length (drop k s)) ≡ b
    go true e = let h = leb-true (k + at + n) (length s) e in le-leb (at + n) (length (drop k s)) (simp length-drop (omega arith))
    go false e = let h = leb-false (k + at + n) (length s) e in lt-leb (at + n) (length (drop k s)) (simp length-drop (omega arith))

behind_byte : (s : List ℕ) (k at i : ℕ) → byte_at (drop k s) (at + i) ≡ byte_at s (k + at + i)
behind_byte s k at i = get_or-drop k s (at + i) 0 ∙ ap (byte_at s) (omega arith)

pub word_behind : (s : List ℕ) (k at : ℕ) → word_or_zero (drop k s) at ≡ word_or_zero s (k + at)
unfolding word_or_zero
word_behind s k at =
    let w : le32 (drop k s) at ≡ le32 s (k + at) = omega (arith, get_or-drop k s at 0, behind_byte s k at 1, behind_byte s k at 2, behind_byte s k at 3) in
    ap (λ (b : Bool). elim b [ true ↦ le32 (drop k s) at | false ↦ 0 ]) (behind_there s k at 4 (omega arith))
    ∙ ap (λ (x : ℕ). elim (leb (k + at + 4) (length s)) [ true ↦ x | false ↦ 0 ]) w

pub half_behind : (s : List ℕ) (k at : ℕ) → half_or_zero (drop k s) at ≡ half_or_zero s (k + at)
unfolding half_or_zero
half_behind s k at =
    let w : le16 (drop k s) at ≡ le16 s (k + at) = omega (arith, get_or-drop k s at 0, behind_byte s k at 1) in
    ap (λ (b : Bool). elim b [ true ↦ le16 (drop k s) at | false ↦ 0 ]) (behind_there s k at 2 (omega arith))
    ∙ ap (λ (x : ℕ). elim (leb (k + at + 2) (length s)) [ true ↦ x | false ↦ 0 ]) w

-- the bytes of a number, where all of them are there
abbrev pub BytesAt : (count : ℕ) → List ℕ → (at : ℕ) → Option (List ℕ) → Type 0
BytesAt count s at found = MatchOption found (length s < at + count) (λ bytes. (at + count ≤ length s) × (bytes ≡ take count (drop at s)))

part_byte : (s : List ℕ) (at count i : ℕ) → i < count → byte_at (take count (drop at s)) i ≡ byte_at s (at + i)
part_byte s at count i h = get_or-take count (drop at s) i 0 h ∙ get_or-drop at s i 0

first_byte : (s : List ℕ) (at count : ℕ) → 0 < count → byte_worth 0 (slice_index (take count (drop at s)) 0) ≡ byte_at s at
first_byte s at count h = part_byte s at count 0 h ∙ ap (byte_at s) (omega arith)

word_part : (s : List ℕ) (at : ℕ) → from_le_bytes w32 (take 4 (drop at s)) ≡ le32 s at
word_part s at = omega (arith, first_byte s at 4, part_byte s at 4 1, part_byte s at 4 2, part_byte s at 4 3)

half_part : (s : List ℕ) (at : ℕ) → from_le_bytes w16 (take 2 (drop at s)) ≡ le16 s at
half_part s at = omega (arith, first_byte s at 2, part_byte s at 2 1)

pub word_from : (s : List ℕ) (at : ℕ) (found : Option (List ℕ)) (n : ℕ) → BytesAt 4 s at found
    → MatchOption found (n ≡ 0) (λ bytes. n ≡ from_le_bytes w32 bytes) → n ≡ word_or_zero s at
word_from s at None n h e = e ∙ sym (word_missing s at h)
word_from s at (Some bytes) n h e = e ∙ ap (from_le_bytes w32) h.1 ∙ word_part s at ∙ sym (word_there s at h.0)

pub half_from : (s : List ℕ) (at : ℕ) (found : Option (List ℕ)) (n : ℕ) → BytesAt 2 s at found
    → MatchOption found (n ≡ 0) (λ bytes. n ≡ from_le_bytes w16 bytes) → n ≡ half_or_zero s at
half_from s at None n h e = e ∙ sym (half_missing s at h)
half_from s at (Some bytes) n h e = e ∙ ap (from_le_bytes w16) h.1 ∙ half_part s at ∙ sym (half_there s at h.0)
