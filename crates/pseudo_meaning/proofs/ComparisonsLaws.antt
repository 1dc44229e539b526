-- A comparison made by one less-than, whose bit may be turned over. Assumes nothing.
use Rattle.std.specs.Prelude.{ℕ, ◌≡◌, refl, Bool, true, false, not, leb, ltb, eqb, ℤ, pos, negsuc}
use Rattle.std.proofs.Common.{sym, ltb-true, ltb-false, le-leb}
use Rattle.std.specs.Int.Bits.{bit_xor}
use Rattle.std.specs.Int.Signed.{lt_z, le_z}
use Rattle.std.proofs.lemmas.Bool.{lt-leb}
use Rattle.field.specs.Bit.{bit}
use Rattle.machine.specs.Numbers.{signed}
use Rattle.pseudo_meaning.specs.Comparisons.{compares}

-- What slt finds; for greater-than the operands are exchanged.
abbrev pub less : (greater : Bool) → (a b : ℕ) → Bool
less true a b = lt_z (signed b) (signed a)
less false a b = lt_z (signed a) (signed b)

abbrev pub or_not : (result : Bool) → Bool → Bool
or_not true t = t
or_not false t = not t

pub not_ltb : (a b : ℕ) → not (ltb a b) ≡ leb b a
not_ltb a b = go (ltb a b) refl
  where
    go : (t : Bool) → ltb a b ≡ t → not (ltb a b) ≡ leb b a
    go true e = rw e (sym (lt-leb b a (ltb-true a b e)))
    go false e = rw e (sym (le-leb b a (ltb-false a b e)))

not_less : (y z : ℤ) → not (lt_z y z) ≡ le_z z y
not_less (pos a) (pos b) = not_ltb a b
not_less (pos a) (negsuc b) = refl
not_less (negsuc a) (pos b) = refl
not_less (negsuc a) (negsuc b) = not_ltb b a

pub compares_by : (greater result : Bool) (a b : ℕ) → or_not result (less greater a b) ≡ compares greater result a b
compares_by true true a b = refl
compares_by false true a b = refl
compares_by true false a b = not_less (signed b) (signed a)
compares_by false false a b = not_less (signed a) (signed b)

-- ---- a bit: bne and beq test it, xori turns it over

pub bit_set : (t : Bool) → not (eqb (bit t) 0) ≡ t
bit_set true = refl
bit_set false = refl

pub bit_clear_lem : (t : Bool) → eqb (bit t) 0 ≡ not t
bit_clear_lem true = refl
bit_clear_lem false = refl

pub bit_turned : (t : Bool) → bit_xor (bit t) 1 ≡ bit (not t)
bit_turned true = refl
bit_turned false = refl
