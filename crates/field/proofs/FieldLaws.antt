-- Laws of fields, for every place and width. Assumes nothing.
use Rattle.std.specs.Prelude.{◌≡◌, ℕ, ◌+◌, ◌-◌, ◌*◌, ◌/◌, ◌%◌, ◌^◌, ◌≤◌, ◌<◌}
use Rattle.std.proofs.Common.{sym, ap, ap₂, ◌∙◌, subst, add-mul, mul_assoc, mul_comm, add-zero, mod-lt, mod-eq_of_lt, zero-mul, arith, pow_pos, pow-add, shr-shr, shr_lt}
use Rattle.std.proofs.Math.Nat.{div-eq_of_lt}
use Rattle.std.proofs.Math.Arith.{digits_lt}
use Rattle.std.proofs.Math.Pow.{split, high, low, field, mod-mod-pow}
use Rattle.std.specs.Int.Bits.{bit_or, or_zero_l, or_zero_r}
use Rattle.std.proofs.lemmas.Nat.{or_block}
use Rattle.field.specs.Field.{get_field, clear_field, set_field, or_field}

-- A number of three digits: l at the bottom, v at 2 ^ off, h at 2 ^ (off + width).
abbrev pub three : (off width h v l : ℕ) → ℕ
three off width h v l = (h * 2 ^ width + v) * 2 ^ off + l

three_sum : (off width h v l : ℕ) → h * 2 ^ (off + width) + v * 2 ^ off + l ≡ three off width h v l
three_sum off width h v l =
    ap (λ (x : ℕ). x + v * 2 ^ off + l) (ap (λ (x : ℕ). h * x) (pow-add 2 off width ∙ mul_comm (2 ^ off) (2 ^ width)) ∙ sym (mul_assoc h (2 ^ width) (2 ^ off)))
    ∙ ap (λ (x : ℕ). x + l) (sym (add-mul (h * 2 ^ width) v (2 ^ off)))

-- Reading the three digits back.
three_low : (off width h v : ℕ) {l : ℕ} → l < 2 ^ off → three off width h v l % 2 ^ off ≡ l
three_low off width h v hl = low (h * 2 ^ width + v) off hl

three_mid : (off width h : ℕ) {v l : ℕ} → v < 2 ^ width → l < 2 ^ off → three off width h v l / 2 ^ off % 2 ^ width ≡ v
three_mid off width h {v} {l} hv hl =
    ap (λ (x : ℕ). x % 2 ^ width) (high (h * 2 ^ width + v) off hl) ∙ low h width hv

three_high : (off width h : ℕ) {v l : ℕ} → v < 2 ^ width → l < 2 ^ off → three off width h v l / 2 ^ (off + width) ≡ h
three_high off width h {v} {l} hv hl =
    sym (shr-shr (three off width h v l) off width)
    ∙ ap (λ (x : ℕ). x / 2 ^ width) (high (h * 2 ^ width + v) off hl)
    ∙ high h width hv

-- Every number is made of the three digits that are read from it.
three_of : (off width w : ℕ) → three off width (w / 2 ^ (off + width)) (w / 2 ^ off % 2 ^ width) (w % 2 ^ off) ≡ w
three_of off width w =
    ap (λ (x : ℕ). (x * 2 ^ width + w / 2 ^ off % 2 ^ width) * 2 ^ off + w % 2 ^ off) (sym (shr-shr w off width))
    ∙ ap (λ (x : ℕ). x * 2 ^ off + w % 2 ^ off) (split (w / 2 ^ off) width)
    ∙ split w off

set_three : (w off width v : ℕ) → set_field w off width v ≡ three off width (w / 2 ^ (off + width)) v (w % 2 ^ off)
unfolding set_field
set_three w off width v = three_sum off width (w / 2 ^ (off + width)) v (w % 2 ^ off)

clear_is_set : (w off width : ℕ) → clear_field w off width ≡ set_field w off width 0
unfolding clear_field set_field
clear_is_set w off width = simp (zero-mul, add-zero)

pub clear_three : (w off width : ℕ) → clear_field w off width ≡ three off width (w / 2 ^ (off + width)) 0 (w % 2 ^ off)
clear_three w off width = clear_is_set w off width ∙ set_three w off width 0

-- reading the field gives what was put there
pub get_set_same : (w off width v : ℕ) → v < 2 ^ width → get_field (set_field w off width v) off width ≡ v
unfolding get_field
get_set_same w off width v h =
    ap (λ (x : ℕ). x / 2 ^ off % 2 ^ width) (set_three w off width v)
    ∙ three_mid off width (w / 2 ^ (off + width)) h (mod-lt w (pow_pos off))

-- two numbers that agree on the digits below k agree on every field there
below_agree : (a b k o n : ℕ) → o + n ≤ k → a % 2 ^ k ≡ b % 2 ^ k → a / 2 ^ o % 2 ^ n ≡ b / 2 ^ o % 2 ^ n
below_agree a b k o n h e =
    let j : ℕ = k - (n + o) in
    let s : j + (n + o) ≡ k = omega arith in
    let cut : (x : ℕ) → x / 2 ^ o % 2 ^ n ≡ x % 2 ^ k % 2 ^ (n + o) / 2 ^ o =
    λ x. sym (field x n o) ∙ ap (λ (y : ℕ). y / 2 ^ o) (sym (mod-mod-pow x j (n + o)) ∙ ap (λ (y : ℕ). x % 2 ^ y % 2 ^ (n + o)) s) in
    cut a ∙ ap (λ (y : ℕ). y % 2 ^ (n + o) / 2 ^ o) e ∙ sym (cut b)

-- two numbers that agree on the digits from k on agree on every field there
above_agree : (a b k o n : ℕ) → k ≤ o → a / 2 ^ k ≡ b / 2 ^ k → a / 2 ^ o % 2 ^ n ≡ b / 2 ^ o % 2 ^ n
above_agree a b k o n h e =
    let j : ℕ = o - k in
    let s : k + j ≡ o = omega arith in
    let cut : (x : ℕ) → x / 2 ^ o ≡ x / 2 ^ k / 2 ^ j = λ x. ap (λ (y : ℕ). x / 2 ^ y) (sym s) ∙ sym (shr-shr x k j) in
    ap (λ (y : ℕ). y % 2 ^ n) (cut a ∙ ap (λ (y : ℕ). y / 2 ^ j) e ∙ sym (cut b))

-- Every field below, and every field above, is as it was.
pub get_set_below : (w off width v o n : ℕ) → o + n ≤ off → get_field (set_field w off width v) o n ≡ get_field w o n
unfolding get_field
get_set_below w off width v o n h =
    below_agree (set_field w off width v) w off o n h
    (ap (λ (x : ℕ). x % 2 ^ off) (set_three w off width v) ∙ three_low off width (w / 2 ^ (off + width)) v (mod-lt w (pow_pos off)))

pub get_set_above : (w off width v o n : ℕ) → v < 2 ^ width → off + width ≤ o → get_field (set_field w off width v) o n ≡ get_field w o n
unfolding get_field
get_set_above w off width v o n hv h =
    above_agree (set_field w off width v) w (off + width) o n h
    (ap (λ (x : ℕ). x / 2 ^ (off + width)) (set_three w off width v) ∙ three_high off width (w / 2 ^ (off + width)) hv (mod-lt w (pow_pos off)))

-- OR of three digits and two
or_three : (off width h l v : ℕ) → l < 2 ^ off → bit_or (three off width h 0 l) (v * 2 ^ off) ≡ three off width (bit_or h (v / 2 ^ width)) (v % 2 ^ width) l
or_three off width h l v hl =
    ap (λ (x : ℕ). bit_or (three off width h 0 l) x) (sym (add-zero (v * 2 ^ off)))
    ∙ or_block off (h * 2 ^ width + 0) v l 0 hl (pow_pos off)
    ∙ ap₂ (λ (x y : ℕ). x * 2 ^ off + y)
    (ap (λ (x : ℕ). bit_or (h * 2 ^ width + 0) x) (sym (split v width))
    ∙ or_block width h (v / 2 ^ width) 0 (v % 2 ^ width) (pow_pos width) (mod-lt v (pow_pos width))
    ∙ ap (λ (x : ℕ). bit_or h (v / 2 ^ width) * 2 ^ width + x) (or_zero_l (v % 2 ^ width)))
    (or_zero_r l)

-- the three digits that OR-ing leaves
or_digits : (w off width v : ℕ) → or_field w off width v ≡ three off width (bit_or (w / 2 ^ (off + width)) (v / 2 ^ width)) (v % 2 ^ width) (w % 2 ^ off)
unfolding or_field
or_digits w off width v =
    ap (λ (x : ℕ). bit_or x (v * 2 ^ off)) (clear_three w off width)
    ∙ or_three off width (w / 2 ^ (off + width)) (w % 2 ^ off) v (mod-lt w (pow_pos off))

pub or_get : (w off width v : ℕ) → get_field (or_field w off width v) off width ≡ v % 2 ^ width
unfolding get_field
or_get w off width v =
    ap (λ (x : ℕ). x / 2 ^ off % 2 ^ width) (or_digits w off width v)
    ∙ three_mid off width (bit_or (w / 2 ^ (off + width)) (v / 2 ^ width)) (mod-lt v (pow_pos width)) (mod-lt w (pow_pos off))

pub or_below : (w off width v o n : ℕ) → o + n ≤ off → get_field (or_field w off width v) o n ≡ get_field w o n
unfolding get_field
or_below w off width v o n h =
    below_agree (or_field w off width v) w off o n h
    (ap (λ (x : ℕ). x % 2 ^ off) (or_digits w off width v)
    ∙ three_low off width (bit_or (w / 2 ^ (off + width)) (v / 2 ^ width)) (v % 2 ^ width) (mod-lt w (pow_pos off)))

pub or_above : (w off width v : ℕ) → or_field w off width v / 2 ^ (off + width) ≡ bit_or (w / 2 ^ (off + width)) (v / 2 ^ width)
or_above w off width v =
    ap (λ (x : ℕ). x / 2 ^ (off + width)) (or_digits w off width v)
    ∙ three_high off width (bit_or (w / 2 ^ (off + width)) (v / 2 ^ width)) (mod-lt v (pow_pos width)) (mod-lt w (pow_pos off))

-- What OR-ing does, for every v: its low digits become the field, and its other digits are OR-ed into the digits above.
pub or_spill : (w off width v : ℕ) → or_field w off width v ≡ bit_or (w / 2 ^ (off + width)) (v / 2 ^ width) * 2 ^ (off + width) + v % 2 ^ width * 2 ^ off + w % 2 ^ off
or_spill w off width v =
    or_digits w off width v
    ∙ sym (three_sum off width (bit_or (w / 2 ^ (off + width)) (v / 2 ^ width)) (v % 2 ^ width) (w % 2 ^ off))

-- If the field can hold v, OR-ing puts v there.
pub or_is_set : (w off width v : ℕ) → v < 2 ^ width → or_field w off width v ≡ set_field w off width v
unfolding set_field
or_is_set w off width v h =
    or_spill w off width v
    ∙ ap₂ (λ (x y : ℕ). bit_or (w / 2 ^ (off + width)) x * 2 ^ (off + width) + y * 2 ^ off + w % 2 ^ off) (div-eq_of_lt h) (mod-eq_of_lt h)
    ∙ ap (λ (x : ℕ). x * 2 ^ (off + width) + v * 2 ^ off + w % 2 ^ off) (or_zero_r (w / 2 ^ (off + width)))

-- a word stays a word
pub set_lt : (k w off width v : ℕ) → w < 2 ^ k → off + width ≤ k → v < 2 ^ width → set_field w off width v < 2 ^ k
set_lt k w off width v hw h hv =
    let j : ℕ = k - (off + width) in
    let e : j + (off + width) ≡ k = omega arith in
    let top : w / 2 ^ (off + width) < 2 ^ j = shr_lt j (off + width) (subst (λ (n : ℕ). w < 2 ^ n) (sym e) hw) in
    let p : 2 ^ j * 2 ^ width * 2 ^ off ≡ 2 ^ k =
    mul_assoc (2 ^ j) (2 ^ width) (2 ^ off) ∙ ap (λ (x : ℕ). 2 ^ j * x) (mul_comm (2 ^ width) (2 ^ off) ∙ sym (pow-add 2 off width))
    ∙ sym (pow-add 2 j (off + width)) ∙ ap (λ (n : ℕ). 2 ^ n) e in
    let b : three off width (w / 2 ^ (off + width)) v (w % 2 ^ off) < 2 ^ j * 2 ^ width * 2 ^ off =
    digits_lt (digits_lt top hv) (mod-lt w (pow_pos off)) in
    let s : set_field w off width v ≡ three off width (w / 2 ^ (off + width)) v (w % 2 ^ off) = set_three w off width v in
    rw (s, ← p) b
