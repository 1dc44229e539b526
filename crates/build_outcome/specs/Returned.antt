-- What a build returns, in document 01's numbers. Assumes nothing.
use Rattle.std.specs.Prelude.{ℕ, ℤ, pos, Err, Ok, Result}
use Rattle.record.specs.declared.Location.{Location}
use Rattle.refusal.specs.Numbers.{zero_location, numbered}
use Rattle.refusal.specs.declared.Refusal.{Refusal}

-- "A refusal returns its number, a location and numbers a and b"; an accepted build returns its entry
pub record BuildReturned : Type 0 where
  pub number : ℕ
  pub location : Location
  pub a : ℤ
  pub b : ℕ
  pub entry : ℕ

-- "Where an answer is an enum, a definition gives this paper's number and values for each of the enum's cases." An accepted build has
-- number 0, a refused one entry 0; `numbered` is the table of 'Where the work stops'.
abbrev pub returned : Result ℕ Refusal → BuildReturned
returned (Ok address) = record { number = 0; location = zero_location; a = pos 0; b = 0; entry = address }
returned (Err refusal) =
    let n = numbered refusal in
    record { number = n.number; location = n.location; a = n.a; b = n.b; entry = 0 }
