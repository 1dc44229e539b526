-- The names of the registers (document 02, P7: "Registers use the names in registers.rs, 0 to 31, or f0 to f31, without leading zeros").
-- Assumes nothing.
use Rattle.std.specs.Prelude.{ℕ, suc, List, [], ◌∷◌, ◌++◌, map, true, false, length, ltb, Option, Some, None}
use Rattle.record.specs.Bytes.{same_bytes}
use Rattle.record.specs.Texts.{bytes_of}
use Rattle.registers.specs.Slots.{register_of, fp_register_of}
use Rattle.register_names.specs.declared.NamedRegister.{NamedRegister}
use Rattle.register_names.specs.declared.NamedRegister.TheVariants.{General, Float}

-- the names in registers.rs, in the order of the registers' numbers
unfoldable pub general_names : List (List ℕ)
general_names =
    map bytes_of
    ("zero" ∷ "at" ∷ "v0" ∷ "v1" ∷ "a0" ∷ "a1" ∷ "a2" ∷ "a3"
    ∷ "t0" ∷ "t1" ∷ "t2" ∷ "t3" ∷ "t4" ∷ "t5" ∷ "t6" ∷ "t7"
    ∷ "s0" ∷ "s1" ∷ "s2" ∷ "s3" ∷ "s4" ∷ "s5" ∷ "s6" ∷ "s7"
    ∷ "t8" ∷ "t9" ∷ "k0" ∷ "k1" ∷ "gp" ∷ "sp" ∷ "fp" ∷ "ra" ∷ [])

-- "0 to 31"
unfoldable pub number_names : List (List ℕ)
number_names =
    map bytes_of
    ("0" ∷ "1" ∷ "2" ∷ "3" ∷ "4" ∷ "5" ∷ "6" ∷ "7" ∷ "8" ∷ "9" ∷ "10" ∷ "11" ∷ "12" ∷ "13" ∷ "14" ∷ "15"
    ∷ "16" ∷ "17" ∷ "18" ∷ "19" ∷ "20" ∷ "21" ∷ "22" ∷ "23" ∷ "24" ∷ "25" ∷ "26" ∷ "27" ∷ "28" ∷ "29" ∷ "30" ∷ "31" ∷ [])

-- "or f0 to f31"
unfoldable pub float_names : List (List ℕ)
float_names =
    map bytes_of
    ("f0" ∷ "f1" ∷ "f2" ∷ "f3" ∷ "f4" ∷ "f5" ∷ "f6" ∷ "f7" ∷ "f8" ∷ "f9" ∷ "f10" ∷ "f11" ∷ "f12" ∷ "f13" ∷ "f14" ∷ "f15"
    ∷ "f16" ∷ "f17" ∷ "f18" ∷ "f19" ∷ "f20" ∷ "f21" ∷ "f22" ∷ "f23" ∷ "f24" ∷ "f25" ∷ "f26" ∷ "f27" ∷ "f28" ∷ "f29" ∷ "f30" ∷ "f31" ∷ [])

-- the place of the first equal name, or the list's length
unfoldable pub place_of : List ℕ → List (List ℕ) → ℕ
unfolding same_bytes
place_of name [] = 0
place_of name (n ∷ ns) = elim (same_bytes name n) [ true ↦ 0 | false ↦ suc (place_of name ns) ]

-- the register by the name's place in the list; `other` if the list does not have the name
abbrev pub among : List (List ℕ) → (ℕ → Option NamedRegister) → List ℕ → Option NamedRegister → Option NamedRegister
among ns register name other = elim (ltb (place_of name ns) (length ns)) [ true ↦ register (place_of name ns) | false ↦ other ]

abbrev general : ℕ → Option NamedRegister
general n = Some (General (register_of n))

abbrev float : ℕ → Option NamedRegister
float n = Some (Float (fp_register_of n))

unfoldable pub register_named : List ℕ → Option NamedRegister
unfolding place_of general_names number_names float_names
register_named name = among general_names general name (among number_names general name (among float_names float name None))

-- all names, in the order of the code's table
unfoldable pub names : List (List ℕ)
unfolding general_names number_names float_names
names = general_names ++ (number_names ++ float_names)
