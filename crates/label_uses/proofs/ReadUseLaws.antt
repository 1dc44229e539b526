-- A record that is read is the use that was written. Assumes nothing.
use Rattle.std.specs.Prelude.{ℕ, ◌+◌, ◌-◌, ◌^◌, ◌<◌, Bool, true, false, ◌≡◌, refl, length, eqb}
use Rattle.std.proofs.Common.{arith, sym, ap, ap₂, ◌∙◌, length-append, take_at}
use mathlib.Core.List.{List, [], ◌∷◌, ◌++◌, append_assoc, Memᴰ}
use Rattle.record.specs.Bytes.{byte_at, le32, part}
use Rattle.record.specs.Records.{next, body_len}
use Rattle.record.proofs.BehindLaws.{byte_behind, le16_behind, le32_behind, part_behind, digits16, digits32}
use Rattle.record.specs.Stores.{le16_bytes}
use Rattle.label_uses.specs.Uses.{is_known, kept_of, UseKey, Use}
use Rattle.label_uses.specs.UseBytes.{flag_of, numbers_bytes, use_body, use_bytes}
use Rattle.label_uses.proofs.UseBytesLaws.{numbers_length, body_length}
use Rattle.label_uses.proofs.AddLaws.{between_of, rest_of, use_apart}
use Rattle.label_uses.specs.ReadUse.{count_at, owner_place, key_with, standing_read, key_read, halves_at, use_read}
use Rattle.label_uses.proofs.UseOrderLaws.{standing_kept}

-- a use whose parts fit the record's fields
pub record UseFits (u : Use) : Type 0 where
  pub body_fits : length (use_body u) < 2 ^ 16
  pub owner_fits : kept_of u.key.standing < 2 ^ 32

flag_read : (b : Bool) → eqb (flag_of b) 1 ≡ b
flag_read true = refl
flag_read false = refl

module _ (l r : List ℕ) (u : Use) (fits : UseFits u) (at : ℕ) (e : at ≡ length l) where
  abbrev s : List ℕ
  s = l ++ (use_bytes u ++ r)

  abbrev ns : List ℕ
  ns = numbers_bytes u.numbers

  abbrev front : List ℕ
  front = le16_bytes (length (use_body u)) ++ (between_of u ++ (le16_bytes (length u.numbers) ++ ns))

  -- the list up to the record's last number, and from there on
  parted : s ≡ (l ++ front) ++ (rest_of u ++ r)
  parted =
      ap (λ (x : List ℕ). l ++ (x ++ r)) (use_apart u)
      ∙ ap (λ (x : List ℕ). l ++ (le16_bytes (length (use_body u)) ++ (between_of u ++ (le16_bytes (length u.numbers) ++ x)))) (append_assoc ns (rest_of u) r)
      ∙ sym (append_assoc l front (rest_of u ++ r))

  pub body_read : body_len s at ≡ length (use_body u)
  body_read = le16_behind l (use_bytes u ++ r) 0 at (omega arith) ∙ digits16 (length (use_body u)) fits.body_fits

  pub next_read : next s at ≡ at + length (use_bytes u)
  next_read = omega (arith, body_read)

  pub count_read : count_at s at ≡ length u.numbers
  count_read =
      le16_behind l (use_bytes u ++ r) 5 (at + 5) (omega arith) ∙ digits16 (length u.numbers) (omega (arith, body_length u, fits.body_fits))

  flag_at : byte_at s (at + 4) ≡ flag_of (is_known u.key.standing)
  flag_at = byte_behind l (use_bytes u ++ r) 4 (at + 4) (omega arith)

  front_length : length (l ++ front) ≡ owner_place s at
  front_length = omega (arith, length-append l front, numbers_length u.numbers, count_read)

  owner_read : le32 s (owner_place s at) ≡ kept_of u.key.standing
  owner_read =
      let k = owner_place s at in
      let m : k ≡ length (l ++ front) + 0 = omega (arith, front_length) in
      ap (λ (x : List ℕ). le32 x k) parted ∙ le32_behind (l ++ front) (rest_of u ++ r) 0 k m ∙ digits32 (kept_of u.key.standing) fits.owner_fits

  pub name_length_read : owner_place s at + 4 + length u.key.name ≡ next s at
  name_length_read = omega (arith, count_read, next_read, body_length u)

  name_read : part s (owner_place s at + 4) (next s at - (owner_place s at + 4)) ≡ u.key.name
  name_read =
      let k = owner_place s at in
      let n : next s at - (k + 4) ≡ length u.key.name = omega (arith, name_length_read) in
      let m : k + 4 ≡ length (l ++ front) + 4 = omega (arith, front_length) in
      ap (λ (j : ℕ). part s (k + 4) j) n
      ∙ ap (λ (x : List ℕ). part x (k + 4) (length u.key.name)) parted
      ∙ part_behind (l ++ front) (rest_of u ++ r) 4 (k + 4) (length u.key.name) m
      ∙ take_at u.key.name r (length u.key.name) refl

  pub key_read_lem : key_read s at ≡ u.key
  key_read_lem = ap₂ key_with name_read (ap₂ standing_read (ap (λ (b : ℕ). eqb b 1) flag_at ∙ flag_read (is_known u.key.standing)) owner_read ∙ standing_kept u.key.standing)

-- ---- numbers
pub halves_read : (p r : List ℕ) (ns : List ℕ) (at : ℕ) → at ≡ length p → ((n : ℕ) → Memᴰ n ns → n < 2 ^ 16) → halves_at (length ns) (p ++ (numbers_bytes ns ++ r)) at ≡ ns
unfolding halves_at numbers_bytes
halves_read p r [] at e h = refl
halves_read p r (n ∷ ns) at e h =
    let s = p ++ (le16_bytes n ++ (numbers_bytes ns ++ r)) in
    let w : s ≡ (p ++ le16_bytes n) ++ (numbers_bytes ns ++ r) = sym (append_assoc p (le16_bytes n) (numbers_bytes ns ++ r)) in
    ap₂ (λ (x : ℕ) (xs : List ℕ). x ∷ xs)
    (le16_behind p (le16_bytes n ++ (numbers_bytes ns ++ r)) 0 at (omega arith) ∙ digits16 n (h n (Memᴰ.head refl)))
    (ap (λ (x : List ℕ). halves_at (length ns) x (at + 2)) w
    ∙ halves_read (p ++ le16_bytes n) r ns (at + 2) (omega (arith, length-append p (le16_bytes n))) (λ m k. h m (Memᴰ.tail k)))

abbrev use_with : UseKey → List ℕ → Use
use_with key numbers = record { key = key; numbers = numbers }

-- the whole record
pub use_read_lem : (l r : List ℕ) (u : Use) → UseFits u → ((n : ℕ) → Memᴰ n u.numbers → n < 2 ^ 16) → (at : ℕ) → at ≡ length l → use_read (l ++ (use_bytes u ++ r)) at ≡ u
use_read_lem l r u fits h at e =
    let s = l ++ (use_bytes u ++ r) in
    let head : List ℕ = le16_bytes (length (use_body u)) ++ (between_of u ++ le16_bytes (length u.numbers)) in
    let w : s ≡ (l ++ head) ++ (numbers_bytes u.numbers ++ (rest_of u ++ r)) =
    parted l r u fits at e ∙ append_assoc l (front l r u fits at e) (rest_of u ++ r)
    ∙ sym (append_assoc l head (numbers_bytes u.numbers ++ (rest_of u ++ r))) in
    ap₂ use_with (key_read_lem l r u fits at e)
    (ap (λ (k : ℕ). halves_at k s (at + 7)) (count_read l r u fits at e)
    ∙ ap (λ (x : List ℕ). halves_at (length u.numbers) x (at + 7)) w
    ∙ halves_read (l ++ head) (rest_of u ++ r) u.numbers (at + 7) (omega (arith, length-append l head)) h)
