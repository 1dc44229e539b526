-- Breakpoints as values (document 01, 'Pending 36, breakpoint 37'). Assumes nothing.
use Rattle.std.specs.Prelude.{ℕ, List, map}
use Rattle.record.specs.Records.{places}
use Rattle.record.specs.declared.Location.{Location}
use Rattle.breakpoints.specs.Breakpoints.{breakpoint_location, breakpoint_pcs}

-- "Breakpoint: location, then one 4-byte pc a word."
pub record Breakpoint : Type 0 where
  pub location : Location
  pub pcs : List ℕ

abbrev pub breakpoint_at : List ℕ → ℕ → Breakpoint
breakpoint_at breakpoints at = record { location = breakpoint_location breakpoints at; pcs = breakpoint_pcs breakpoints at }

unfoldable pub breakpoints_in : List ℕ → List Breakpoint
unfolding places
breakpoints_in breakpoints = map (breakpoint_at breakpoints) (places breakpoints)
