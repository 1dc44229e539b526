-- For the check of an index: a record that is read gives its bytes back, and one more use keeps what was seen. At the end, with as many numbers
-- as names, the bytes are the index. Assumes nothing.
use Rattle.std.specs.Prelude.{ℕ, zero, suc, ◌+◌, ◌*◌, ◌-◌, ◌/◌, ◌%◌, ◌≤◌, ◌<◌, List, [], ◌∷◌, ◌++◌, Bool, true, false, ◌≡◌, refl, length, take, drop, eqb}
use Rattle.std.proofs.Common.{arith, add-one, sym, ap, ap₂, ◌∙◌, length-take, length-drop, drop-cons, drop-drop, take-add, eqb-true}
use Rattle.std.proofs.Math.Nat.{div-eq_of_lt-le}
use Rattle.std.proofs.lemmas.Bool.{eqb-false}
use Rattle.record.specs.Bytes.{byte_at, le16, le32, part}
use Rattle.record.specs.Records.{next, body_len}
use Rattle.record.specs.Stores.{le16_bytes, le32_bytes}
use Rattle.label_uses.specs.Uses.{is_known, Use}
use Rattle.label_uses.specs.UseBytes.{flag_of, numbers_bytes, use_body, use_bytes}
use Rattle.label_uses.proofs.UseBytesLaws.{body_length}
use Rattle.label_uses.proofs.UseOrderLaws.{known_read, kept_read}
use Rattle.label_uses.proofs.AddLaws.{between_of, rest_of, use_apart}
use Rattle.label_uses.proofs.OneMoreLaws.{AllBytes}
use Rattle.label_uses.specs.ReadUse.{count_at, owner_place, halves_at, use_read, RecordOk}

-- ---- bytes from what is read
part_cons : (s : List ℕ) (i n : ℕ) → i < length s → part s i (suc n) ≡ byte_at s i ∷ part s (i + 1) n
part_cons s i n h = rw (add-one, drop-cons s i 0)

part_none : (s : List ℕ) (i : ℕ) → part s i 0 ≡ []
part_none s i = refl

part_add : (s : List ℕ) (i a b : ℕ) → part s i (a + b) ≡ part s i a ++ part s (i + a) b
part_add s i a b = take-add a b (drop i s) ∙ ap (λ (x : List ℕ). part s i a ++ take b x) (drop-drop a i s)

half_bytes : (s : List ℕ) → AllBytes s → (i : ℕ) → i + 2 ≤ length s → le16_bytes (le16 s i) ≡ part s i 2
half_bytes s b i h =
    let lo = b i in
    let hi = b (i + 1) in
    let e₁ : le16 s i % 256 ≡ byte_at s i = omega arith in
    let q₂ : le16 s i / 256 ≡ byte_at s (i + 1) = div-eq_of_lt-le 256 (omega arith) (omega arith) in
    let m₂ : byte_at s (i + 1) % 256 ≡ byte_at s (i + 1) = omega arith in
    let e₂ : le16 s i / 256 % 256 ≡ byte_at s (i + 1) = ap (λ (x : ℕ). x % 256) q₂ ∙ m₂ in
    ap₂ (λ (x y : ℕ). x ∷ y ∷ []) e₁ e₂
    ∙ sym (part_cons s i 1 (omega arith) ∙ ap (λ (x : List ℕ). byte_at s i ∷ x) (part_cons s (i + 1) 0 (omega arith)))

word_bytes : (s : List ℕ) → AllBytes s → (i : ℕ) → i + 4 ≤ length s → le32_bytes (le32 s i) ≡ part s i 4
word_bytes s b i h =
    let w = le32 s i in
    let b₀ = b i in
    let b₁ = b (i + 1) in
    let b₂ = b (i + 2) in
    let b₃ = b (i + 3) in
    let q₂ : w / 256 ≡ byte_at s (i + 1) + 256 * byte_at s (i + 2) + 65536 * byte_at s (i + 3) = div-eq_of_lt-le 256 (omega arith) (omega arith) in
    let q₃ : w / 65536 ≡ byte_at s (i + 2) + 256 * byte_at s (i + 3) = div-eq_of_lt-le 65536 (omega arith) (omega arith) in
    let q₄ : w / 16777216 ≡ byte_at s (i + 3) = div-eq_of_lt-le 16777216 (omega arith) (omega arith) in
    let m₂ : (byte_at s (i + 1) + 256 * byte_at s (i + 2) + 65536 * byte_at s (i + 3)) % 256 ≡ byte_at s (i + 1) = omega arith in
    let m₃ : (byte_at s (i + 2) + 256 * byte_at s (i + 3)) % 256 ≡ byte_at s (i + 2) = omega arith in
    let m₄ : byte_at s (i + 3) % 256 ≡ byte_at s (i + 3) = omega arith in
    let e₁ : w % 256 ≡ byte_at s i = omega arith in
    let e₂ : w / 256 % 256 ≡ byte_at s (i + 1) = ap (λ (x : ℕ). x % 256) q₂ ∙ m₂ in
    let e₃ : w / 65536 % 256 ≡ byte_at s (i + 2) = ap (λ (x : ℕ). x % 256) q₃ ∙ m₃ in
    let e₄ : w / 16777216 % 256 ≡ byte_at s (i + 3) = ap (λ (x : ℕ). x % 256) q₄ ∙ m₄ in
    let j₂ : i + 1 + 1 ≡ i + 2 = omega arith in
    let j₃ : i + 2 + 1 ≡ i + 3 = omega arith in
    ap₂ (λ (x y : ℕ). x ∷ y ∷ w / 65536 % 256 ∷ w / 16777216 % 256 ∷ []) e₁ e₂
    ∙ ap₂ (λ (x y : ℕ). byte_at s i ∷ byte_at s (i + 1) ∷ x ∷ y ∷ []) e₃ e₄
    ∙ sym (part_cons s i 3 (omega arith)
    ∙ ap (λ (x : List ℕ). byte_at s i ∷ x) (part_cons s (i + 1) 2 (omega arith)
    ∙ ap (λ (x : List ℕ). byte_at s (i + 1) ∷ x) (ap (λ (j : ℕ). part s j 2) j₂ ∙ part_cons s (i + 2) 1 (omega arith)
    ∙ ap (λ (x : List ℕ). byte_at s (i + 2) ∷ x) (ap (λ (j : ℕ). part s j 1) j₃ ∙ part_cons s (i + 3) 0 (omega arith)))))

halves_bytes : (s : List ℕ) → AllBytes s → (n i : ℕ) → i + 2 * n ≤ length s → numbers_bytes (halves_at n s i) ≡ part s i (2 * n)
unfolding halves_at numbers_bytes
halves_bytes s b zero i h = refl
halves_bytes s b (suc n) i h =
    let k : 2 + 2 * n ≡ 2 * suc n = omega arith in
    ap₂ (λ (x y : List ℕ). x ++ y) (half_bytes s b i (omega arith)) (halves_bytes s b n (i + 2) (omega arith))
    ∙ sym (part_add s i 2 (2 * n)) ∙ ap (part s i) k

pub halves_length : (s : List ℕ) (n i : ℕ) → length (halves_at n s i) ≡ n
unfolding halves_at
halves_length s zero i = refl
halves_length s (suc n) i = omega (arith, halves_length s n (i + 2))

-- ---- a record of an index
flag_back : (n : ℕ) → n ≤ 1 → flag_of (eqb n 1) ≡ n
flag_back n h = go (eqb n 1) refl
  where
    go : (b : Bool) → eqb n 1 ≡ b → flag_of (eqb n 1) ≡ n
    go true e = ap flag_of e ∙ sym (eqb-true n 1 e)
    go false e = ap flag_of e ∙ below_one n h (eqb-false n 1 e)
      where
        below_one : (n : ℕ) → n ≤ 1 → (n ≡ 1 → ⊥) → 0 ≡ n
        below_one zero h f = refl
        below_one (suc n) h f = absurd (f (omega arith))

module _ (s : List ℕ) (b : AllBytes s) (at : ℕ) (ok : RecordOk s at) where
  abbrev u : Use
  u = use_read s at

  abbrev c : ℕ
  c = count_at s at

  abbrev o : ℕ
  o = owner_place s at

  abbrev name_len : ℕ
  name_len = next s at - (o + 4)

  abbrev between : List ℕ
  between = between_of u

  body_back : length (use_body u) ≡ body_len s at
  body_back =
      omega (arith, body_length u, halves_length s c (at + 7), length-take name_len (drop (o + 4) s), length-drop (o + 4) s, ok.within, ok.room)

  between_back : between ≡ part s (at + 2) 3
  between_back =
      let k = ok.kind_is in
      let e₁ : 39 ≡ byte_at s (at + 2) = omega (arith, b (at + 2), b (at + 2 + 1)) in
      let j₁ : at + 2 + 1 ≡ at + 3 = omega arith in
      let z : 0 ≡ byte_at s (at + 2 + 1) = omega (arith, b (at + 2), b (at + 2 + 1)) in
      let e₂ : 0 ≡ byte_at s (at + 3) = z ∙ ap (byte_at s) j₁ in
      let j₂ : at + 3 + 1 ≡ at + 4 = omega arith in
      let w = ok.within in
      let r = ok.room in
      ap₂ (λ (x y : ℕ). x ∷ y ∷ flag_of (is_known u.key.standing) ∷ []) e₁ e₂
      ∙ ap (λ (x : ℕ). byte_at s (at + 2) ∷ byte_at s (at + 3) ∷ x ∷ []) (ap flag_of (known_read (eqb (byte_at s (at + 4)) 1) (le32 s o)) ∙ flag_back (byte_at s (at + 4)) ok.flag_is)
      ∙ sym (part_cons s (at + 2) 2 (omega arith)
      ∙ ap (λ (x : List ℕ). byte_at s (at + 2) ∷ x) (ap (λ (j : ℕ). part s j 2) j₁ ∙ part_cons s (at + 3) 1 (omega arith)
      ∙ ap (λ (x : List ℕ). byte_at s (at + 3) ∷ x) (ap (λ (j : ℕ). part s j 1) j₂ ∙ part_cons s (at + 4) 0 (omega arith))))

  -- its bytes
  pub record_back : use_bytes u ≡ part s at (4 + body_len s at)
  record_back =
      let w = ok.within in
      let r = ok.room in
      let n : length u.numbers ≡ c = halves_length s c (at + 7) in
      let len : le16_bytes (length (use_body u)) ≡ part s at 2 = ap le16_bytes body_back ∙ half_bytes s b at (omega arith) in
      let cnt : le16_bytes (length u.numbers) ≡ part s (at + 5) 2 = ap le16_bytes n ∙ half_bytes s b (at + 5) (omega arith) in
      let nums : numbers_bytes u.numbers ≡ part s (at + 7) (2 * c) = halves_bytes s b c (at + 7) (omega arith) in
      let rest : rest_of u ≡ part s o (4 + name_len) = ap (λ (x : List ℕ). x ++ part s (o + 4) name_len) (ap le32_bytes (kept_read (eqb (byte_at s (at + 4)) 1) (le32 s o)) ∙ word_bytes s b o (omega arith)) ∙ sym (part_add s o 4 name_len) in
      let j₁ : at + 2 + 3 ≡ at + 5 = omega arith in
      let j₂ : at + 5 + 2 ≡ at + 7 = omega arith in
      let m₁ : 2 + (3 + (2 + (2 * c + (4 + name_len)))) ≡ 4 + body_len s at = omega arith in
      use_apart u
      ∙ ap₂ (λ (x y : List ℕ). x ++ (between ++ (y ++ (numbers_bytes u.numbers ++ rest_of u)))) len cnt
      ∙ ap₂ (λ (x y : List ℕ). part s at 2 ++ (between ++ (part s (at + 5) 2 ++ (x ++ y)))) nums rest
      ∙ ap (λ (x : List ℕ). part s at 2 ++ (between ++ (part s (at + 5) 2 ++ x))) (sym (part_add s (at + 7) (2 * c) (4 + name_len)))
      ∙ ap (λ (x : List ℕ). part s at 2 ++ (between ++ x)) (ap (λ (j : ℕ). part s (at + 5) 2 ++ part s j (2 * c + (4 + name_len))) (sym j₂) ∙ sym (part_add s (at + 5) 2 (2 * c + (4 + name_len))))
      ∙ ap (λ (x : List ℕ). part s at 2 ++ (x ++ part s (at + 5) (2 + (2 * c + (4 + name_len))))) between_back
      ∙ ap (λ (x : List ℕ). part s at 2 ++ x) (ap (λ (j : ℕ). part s (at + 2) 3 ++ part s j (2 + (2 * c + (4 + name_len)))) (sym j₁) ∙ sym (part_add s (at + 2) 3 (2 + (2 * c + (4 + name_len)))))
      ∙ sym (part_add s at 2 (3 + (2 + (2 * c + (4 + name_len)))))
      ∙ ap (part s at) m₁
