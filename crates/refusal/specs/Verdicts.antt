-- Checks one after the other: "the first refusal wins". Assumes nothing.
use Rattle.std.specs.Prelude.{ℕ, List, [], ◌∷◌, Option, Some, None, Result, Ok, Err}
use Rattle.refusal.specs.declared.Refusal.{Refusal}
use Rattle.refusal.specs.declared.Refusal.TheVariants.{BadLayout, DuplicateName}

-- what a check answers: passed, or why the call stops
abbrev pub Verdict : Type 0
Verdict = Result (Unit {0}) Refusal

-- a check, and the next one if it passed
abbrev pub and_then : Verdict → Verdict → Verdict
and_then (Ok tt) later = later
and_then (Err r) later = Err r

-- one check for each element, in order
unfoldable pub first_stop : (ℕ → Verdict) → List ℕ → Verdict
first_stop check [] = Ok tt
first_stop check (p ∷ ps) = and_then (check p) (first_stop check ps)

-- refusal 1 if there is a bad place; the buffer is its argument's number
abbrev pub layout_verdict : ℕ → Option ℕ → Verdict
layout_verdict buffer None = Ok tt
layout_verdict buffer (Some place) = Err (BadLayout buffer place)

-- refusal 2, "a: buffer, b: place of the later"
abbrev pub name_verdict : ℕ → Option ℕ → Verdict
name_verdict buffer None = Ok tt
name_verdict buffer (Some place) = Err (DuplicateName buffer place)
