-- A walk over the names of a macro's parameters. Assumes nothing.
use Rattle.std.specs.Prelude.{ℕ, suc, List, ◌≡◌, Option, MatchOption}
use denote.Ref.{Bor}
use Rattle.macros.specs.Macros.{name_at, behind_name}
use Rattle.macros.specs.declared.Names.{Names}

-- x is the first name of s, and t has the names after it
pub record NameFirst (s : Names) (x : List ℕ) (t : Names) : Type 0 where
  pub more : s.count ≡ suc t.count
  pub list : t.list.now ≡ s.list.now
  pub behind : t.at ≡ behind_name s.list.now s.at
  pub name : x ≡ name_at s.list.now s.at

-- gives a name and the names after it, with which the walk goes on, or None if no name is left
abbrev pub gives_name : Names → Option (Bor (List ℕ) × Names) → Names → Type 0
gives_name s r t = MatchOption r ((s.count ≡ 0) × (t.count ≡ 0)) (λ p. (p.1 ≡ t) × NameFirst s p.0.now t)
