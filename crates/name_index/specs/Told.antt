-- Whether a record has a name and an owner, and how many names have been compared by then. Assumes nothing.
use Rattle.std.specs.Prelude.{ℕ, Bool}

pub record Told : Type 0 where
  pub same : Bool
  pub compared : ℕ
