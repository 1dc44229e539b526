-- What each kind of field reads as. Assumes nothing.
use Rattle.std.specs.Prelude.{ℕ, ◌+◌, ◌-◌, ◌*◌, ◌/◌, ◌%◌, ◌^◌, ◌<◌, ◌≤◌, Bool, true, false, ◌≡◌, refl, leb}
use Rattle.std.proofs.Common.{arith, mod-eq_of_lt, lt-ltb, le-ltb, leb-true, leb-false}
use Rattle.field.specs.Wrap.{wrap32}
use Rattle.patch.specs.Patches.{after, distance_bits}
use Rattle.reading.specs.Reading.{signed_bytes}

signed_low : (n : ℕ) → n < 32768 → signed_bytes n ≡ 4 * n
unfolding signed_bytes
signed_low n h = rw (lt-ltb n 32768 h, signed_bytes)

signed_high : (n : ℕ) → 32768 ≤ n → signed_bytes n ≡ 4 * n + (2 ^ 32 - 4 * 65536)
unfolding signed_bytes
signed_high n h = rw (le-ltb n 32768 h, signed_bytes)

-- A distance that fits 16 signed bits leads from pc + 4 to the destination.
pub branch_reads : (pc dest : ℕ) → pc % 4 ≡ 0 → dest % 4 ≡ 0 → dest < 2 ^ 32 → after pc / 4 ≤ dest / 4 + 32768 → dest / 4 ≤ after pc / 4 + 32767
    → wrap32 (after pc + signed_bytes (distance_bits pc dest)) ≡ dest
branch_reads pc dest hp hd hl hn hm = go (leb (after pc / 4) (dest / 4)) refl
  where
    four : after pc ≡ 4 * (after pc / 4)
    four = omega arith

    go : (b : Bool) → leb (after pc / 4) (dest / 4) ≡ b → wrap32 (after pc + signed_bytes (distance_bits pc dest)) ≡ dest
    go true e =
        let h : after pc / 4 ≤ dest / 4 = leb-true (after pc / 4) (dest / 4) e in
        let d : distance_bits pc dest ≡ dest / 4 - after pc / 4 = omega arith in
        let s : signed_bytes (distance_bits pc dest) ≡ 4 * distance_bits pc dest = signed_low (distance_bits pc dest) (omega arith) in
        let t : after pc + 4 * distance_bits pc dest ≡ dest = omega (arith, four, d) in
        rw (s, t) (mod-eq_of_lt hl)
    go false e =
        let h : dest / 4 < after pc / 4 = leb-false (after pc / 4) (dest / 4) e in
        let d : distance_bits pc dest ≡ 65536 - (after pc / 4 - dest / 4) = omega arith in
        let s : signed_bytes (distance_bits pc dest) ≡ 4 * distance_bits pc dest + (2 ^ 32 - 4 * 65536) = signed_high (distance_bits pc dest) (omega arith) in
        let t : after pc + (4 * distance_bits pc dest + (2 ^ 32 - 4 * 65536)) ≡ 2 ^ 32 + dest = omega (arith, four, d) in
        rw (s, t) (omega arith)

-- A jump: the page of pc + 4 and 26 bits of the word make the destination.
pub jump_reads : (pc dest : ℕ) → dest % 4 ≡ 0 → dest / 2 ^ 28 ≡ after pc / 2 ^ 28 → after pc / 2 ^ 28 * 2 ^ 28 + dest / 4 % 2 ^ 26 * 4 ≡ dest
jump_reads pc dest hd hp = omega arith

-- two halves make the destination
pub halves_read : (dest : ℕ) → dest / 65536 * 65536 + dest % 65536 ≡ dest
halves_read dest = omega arith
