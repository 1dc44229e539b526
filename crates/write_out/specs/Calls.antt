-- What replaces a call, as the code finds it. Assumes nothing.
use Rattle.std.specs.Prelude.{ℕ, ◌-◌, ◌≤◌, ◌<◌, List, [], ◌∷◌, true, false, ◌≡◌, length, eqb, Err, None, Ok, Result}
use Rattle.record.specs.Bytes.{location_at}
use Rattle.record.specs.Records.{limit}
use Rattle.record.specs.declared.Location.{Location}
use Rattle.refusal.specs.declared.Refusal.{Refusal}
use Rattle.refusal.specs.declared.Refusal.TheVariants.{WrongArguments, NinthLevel}
use Rattle.macros.specs.Macros.{body_at, macro_layout}
use Rattle.written_out.specs.declared.Mode.{Mode}
use Rattle.written_out.specs.declared.Mode.TheVariants.{Leading, LeftOut}
use Rattle.written_out.specs.Written.{Step, write, stop, replaced}
use Rattle.written_out.specs.Above.{macro_at, above}
use Rattle.macro_tokens.specs.declared.Act.{Act}
use Rattle.macro_tokens.specs.declared.Act.TheVariants.{Write, Pass as PassOn, Call}
use Rattle.macro_tokens.specs.Places.{token_record, TokenIn, ReadableFrom}
use Rattle.macro_tokens.specs.Arguments.{arguments_from}
use Rattle.macro_tokens.specs.Meant.{Inside}
use Rattle.macro_tokens.specs.declared.Body.{Body}
use Rattle.write_out.specs.Body.{steps_from, Ready}
use Rattle.refusal.specs.Verdicts.{Verdict}

-- "24, a wrong count of arguments; 25, a ninth level", in that order
abbrev pub call_verdict : Location → (given count levels : ℕ) → Verdict
call_verdict l given count levels = elim (eqb given count) [ true ↦ elim (eqb levels 0) [ true ↦ Err (NinthLevel l) | false ↦ Ok tt ] | false ↦ Err (WrongArguments l) ]

-- the body b of the macro at k is written out as `steps`
pub record Opened (text macros : List ℕ) (levels k : ℕ) (steps : List Step) (b : Body) : Type 0 where
  pub level : 0 < levels
  pub ready : Ready text macros k (body_at macros k) b
  pub is : steps ≡ steps_from text macros k (levels - 1) (body_at macros k) b Leading b.start

pub record CallIs (text macros : List ℕ) (levels k : ℕ) (steps : List Step) (c : Result Body Refusal) : Type 0 where
  pub stopped : (r : Refusal) → c ≡ Err r → steps ≡ stop r ∷ []
  pub opened : (b : Body) → c ≡ Ok b → Opened text macros levels k steps b

-- ---- what is done with a token

-- the steps of writing it out
abbrev pub act_steps : (text macros : List ℕ) → (levels : ℕ) → (list : List ℕ) → Body → (place next : ℕ) → Act → List Step
act_steps text macros levels list b place next (Write mode) = write (token_record text macros place) ∷ []
act_steps text macros levels list b place next PassOn = []
act_steps text macros levels list b place next (Call k) =
    replaced levels (location_at (token_record text macros place) 4) (macro_at macros k) (above macros k) (arguments_from text macros list b next)

-- where on its line the next token then stands
abbrev pub mode_after : Act → Mode
mode_after (Write mode) = mode
mode_after PassOn = LeftOut
mode_after (Call k) = LeftOut

-- what writing it out requires
pub record Acting (text macros : List ℕ) (most : ℕ) (list : List ℕ) (b : Body) (place next : ℕ) (act : Act) : Type 0 where
  pub token : TokenIn text macros place
  pub rest : ReadableFrom text macros list b next
  pub macros_good : macro_layout macros ≡ None
  pub text_small : length text ≤ limit
  pub inside : Inside macros most act
