-- What the code's answers on a token mean. Assumes nothing.
use Rattle.std.specs.Prelude.{ℕ, ◌<◌, List, true, ◌≡◌}
use Rattle.macros.specs.Macros.{macro_at_ok}
use Rattle.written_out.specs.Above.{macro_at, above}
use Rattle.written_out.specs.Acts.{Act as Done, write_on, pass, call}
use Rattle.macro_tokens.specs.declared.Act.{Act}
use Rattle.macro_tokens.specs.declared.Act.TheVariants.{Write, Pass, Call}

abbrev pub meant : (macros : List ℕ) → Act → Done
meant macros (Write mode) = write_on mode
meant macros Pass = pass
meant macros (Call k) = call (macro_at macros k) (above macros k)

-- if a macro is called, it stands before `limit`
abbrev pub Inside : (macros : List ℕ) → (limit : ℕ) → Act → Type 0
Inside macros limit (Write mode) = Unit {0}
Inside macros limit Pass = Unit {0}
Inside macros limit (Call k) = (k < limit) × (macro_at_ok macros k ≡ true)

pub record ActIs (macros : List ℕ) (limit : ℕ) (done : Done) (act : Act) : Type 0 where
  pub is : done ≡ meant macros act
  pub inside : Inside macros limit act
