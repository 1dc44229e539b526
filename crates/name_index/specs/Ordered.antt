-- A list of records and the places of its records in the order of their names. Assumes nothing.
use Rattle.std.specs.Prelude.{ℕ, List}

pub record Ordered : Type 0 where
  pub list : List ℕ
  pub order : List ℕ
