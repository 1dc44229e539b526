-- The names of the pseudo-instructions (emit.rs). Assumes nothing.
use Rattle.std.specs.Prelude.{ℕ, List, [], ◌∷◌, true, false, None, Option, Some}
use Prim.Native.String.{String}
use Rattle.record.specs.Bytes.{same_bytes}
use Rattle.record.specs.Texts.{bytes_of}
use Rattle.pseudo_names.specs.declared.Pseudo.{Pseudo}
use Rattle.pseudo_names.specs.declared.Pseudo.TheVariants.{Nop, Abs, BranchCustom, SetCustom, Beqz, Bnez, Seq, Sne, Neg, Negu, Not, Li, La, Move, B, Subi, Subiu}

pub record PseudoName : Type 0 where
  pub name : List ℕ
  pub pseudo : Pseudo

abbrev pub called : String → Pseudo → PseudoName
called name pseudo = record { name = bytes_of name; pseudo = pseudo }

-- the names in dispatch_pseudo's order; the flags of a comparison are: greater than, result true, unsigned
abbrev pub pseudo_names : List PseudoName
pseudo_names =
    called "nop" Nop
    ∷ called "abs" Abs
    ∷ called "blt" (BranchCustom false true false)
    ∷ called "bgt" (BranchCustom true true false)
    ∷ called "ble" (BranchCustom true false false)
    ∷ called "bge" (BranchCustom false false false)
    ∷ called "bltu" (BranchCustom false true true)
    ∷ called "bgtu" (BranchCustom true true true)
    ∷ called "bleu" (BranchCustom true false true)
    ∷ called "bgeu" (BranchCustom false false true)
    ∷ called "sge" (SetCustom false false false)
    ∷ called "sgt" (SetCustom true true false)
    ∷ called "sle" (SetCustom true false false)
    ∷ called "sgeu" (SetCustom false false true)
    ∷ called "sgtu" (SetCustom true true true)
    ∷ called "sleu" (SetCustom true false true)
    ∷ called "beqz" Beqz
    ∷ called "bnez" Bnez
    ∷ called "seq" Seq
    ∷ called "sne" Sne
    ∷ called "neg" Neg
    ∷ called "negu" Negu
    ∷ called "not" Not
    ∷ called "li" Li
    ∷ called "la" La
    ∷ called "move" Move
    ∷ called "b" B
    ∷ called "subi" Subi
    ∷ called "subiu" Subiu
    ∷ []

-- the first with that name
unfoldable pub pseudo_in : List ℕ → List PseudoName → Option Pseudo
unfolding same_bytes
pseudo_in name [] = None
pseudo_in name (p ∷ ps) = elim (same_bytes name p.name) [ true ↦ Some p.pseudo | false ↦ pseudo_in name ps ]

abbrev pub pseudo_of : List ℕ → Option Pseudo
pseudo_of name = pseudo_in name pseudo_names
