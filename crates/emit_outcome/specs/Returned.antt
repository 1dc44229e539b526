-- What an emit call returns, in document 01's numbers. Assumes nothing.
use Rattle.std.specs.Prelude.{Ok, Err, ℕ, ℤ, pos}
use Rattle.record.specs.declared.Location.{Location}
use Rattle.refusal.specs.Numbers.{zero_location, numbered}
use Rattle.loading.specs.declared.LoadForm.{LoadForm}
use Rattle.loading.specs.declared.LoadForm.TheVariants.{Nothing, Addiu, Ori, Lui, BothHalves}
use Rattle.emit_outcome.specs.Answer.{EmitAnswer}

-- "A refusal returns its number, a location and numbers a and b"; "A refusal returns it [the position] too"
pub record LineReturned : Type 0 where
  pub number : ℕ
  pub location : Location
  pub a : ℤ
  pub b : ℕ
  pub position : ℕ

-- an accepted line's a: how its constant is loaded (document 02, P2)
abbrev pub form_number : LoadForm → ℕ
form_number Nothing = 0
form_number Addiu = 1
form_number Ori = 2
form_number Lui = 3
form_number BothHalves = 4

-- "Where an answer is an enum, a definition gives this paper's number and values for each of the enum's cases." An accepted line has number 0.
abbrev pub returned : EmitAnswer → LineReturned
returned (Ok done) = record { number = 0; location = zero_location; a = pos (form_number done.loaded); b = 0; position = done.position }
returned (Err refused) =
    let n = numbered refused.refusal in
    record { number = n.number; location = n.location; a = n.a; b = n.b; position = refused.position }
