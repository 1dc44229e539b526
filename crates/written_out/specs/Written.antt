-- A token list with its macros' calls written out (document 02, P8). Assumes nothing.
use Rattle.std.specs.Prelude.{ℕ, zero, suc, List, [], ◌∷◌, ◌++◌, map, reverse, true, false, ◌||◌, length, get_or, take, drop, eqb}
use Rattle.record.specs.Bytes.{same_bytes, location_at}
use Rattle.record.specs.declared.Location.{Location}
use Rattle.refusal.specs.declared.Refusal.{Refusal}
use Rattle.refusal.specs.declared.Refusal.TheVariants.{WrongArguments, NinthLevel}
use Rattle.lexer.specs.Tokens.{text_of}
use Rattle.line_heads.specs.Lines.{Line, is_comment, is_parameter, is_symbol, is_comma, lines, leads, records_of}
use Rattle.macros.specs.Macros.{Macro, index_of, macros_of}

-- what writing out meets, in order: a token to write, or a call to refuse
pub data Step : Type 0 where
  write : List ℕ → Step
  stop : Refusal → Step

-- ---- arguments

-- "its tokens after the name, one each, commas and comments left out"
unfoldable pub arguments : List (List ℕ) → List (List ℕ)
arguments [] = []
arguments (t ∷ ts) = elim (is_comma t || is_comment t) [ true ↦ arguments ts | false ↦ t ∷ arguments ts ]

-- "the body with the arguments put in all at once": each token of the body is replaced once, and tokens that were put in are not. A
-- Parameter becomes the argument with its number.
abbrev pub put_in : (parameters given : List (List ℕ)) → List ℕ → List ℕ
put_in parameters given t = elim (is_parameter t) [ true ↦ get_or given (index_of (text_of t 0) parameters) t | false ↦ t ]

-- ---- calls

pub data Called : Type 0 where
  no_macro : Called
  -- the macro, and the macros above it
  macro : Macro → List Macro → Called

-- "a Symbol of exactly that name": looks through the macros that may be called, the last first
unfoldable pub called : (name : List ℕ) → List Macro → Called
unfolding same_bytes
called name [] = no_macro
called name (m ∷ above) = elim (same_bytes m.name name) [ true ↦ macro m above | false ↦ called name above ]

-- what replaces a call, from the location of its name, the macro, the macros above it and the arguments
abbrev pub Replacing : Type 0
Replacing = Location → Macro → List Macro → List (List ℕ) → List Step

-- "A name not above is treated as an ordinary mnemonic."
abbrev pub replaced_by_name : Replacing → Called → (t : List ℕ) → (ts : List (List ℕ)) → List Step
replaced_by_name replace no_macro t ts = map write (t ∷ ts)
replaced_by_name replace (macro m above) t ts = replace (location_at t 4) m above (arguments ts)

-- a line from its head on
abbrev pub from_head : Replacing → List Macro → List (List ℕ) → List Step
from_head replace macros [] = []
from_head replace macros (t ∷ ts) = elim (is_symbol t) [ true ↦ replaced_by_name replace (called (text_of t 0) macros) t ts | false ↦ map write (t ∷ ts) ]

-- "up to NewLine or the end": the NewLine stays, and so do the tokens before the head
unfoldable pub line_steps : Replacing → List Macro → Line → List Step
unfolding leads called arguments
line_steps replace macros l = map write (take (leads l.tokens) l.tokens) ++ from_head replace macros (drop (leads l.tokens) l.tokens) ++ map write l.end

unfoldable pub lines_steps : Replacing → List Macro → List Line → List Step
unfolding line_steps
lines_steps replace macros [] = []
lines_steps replace macros (l ∷ ls) = line_steps replace macros l ++ lines_steps replace macros ls

-- "24, a wrong count of arguments; 25, a ninth level", "in that order, at the call's name"
abbrev pub counted : Location → Macro → (given : List (List ℕ)) → List Step → List Step
counted l m given steps = elim (eqb (length given) (length m.parameters)) [ true ↦ steps | false ↦ stop (WrongArguments l) ∷ [] ]

-- a call with `levels` levels left: "replaced by the body with the arguments put in ..., then read for calls" of the macros above
unfoldable pub replaced : (levels : ℕ) → Replacing
unfolding lines_steps lines index_of
replaced zero l m above given = counted l m given (stop (NinthLevel l) ∷ [])
replaced (suc n) l m above given = counted l m given (lines_steps (replaced n) above (lines (map (put_in m.parameters given) m.body)))

-- "to 8 levels": a call in the token list itself is on the first
unfoldable pub written_out : (tokens macros : List ℕ) → List Step
unfolding replaced records_of macros_of
written_out tokens macros = lines_steps (replaced 8) (reverse (macros_of macros)) (lines (records_of tokens))
