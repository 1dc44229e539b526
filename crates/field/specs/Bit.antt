-- A flag as one bit. Assumes nothing.
use Rattle.std.specs.Prelude.{ℕ, Bool, true, false}

abbrev pub bit : Bool → ℕ
bit true = 1
bit false = 0
