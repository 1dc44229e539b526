-- A line's words, with the token list that holds their names, and the labels. Assumes nothing.
use Rattle.std.specs.Prelude.{ℕ, List}
use Rattle.emit_pairs.specs.declared.InstructionPair.{InstructionPair}

pub record LineIn : Type 0 where
  pub names : List ℕ
  pub labels : List ℕ
  pub pairs : List InstructionPair
