-- What is done with the next token: one equation for each arm of the loop. Assumes nothing.
use Rattle.std.specs.Prelude.{ℕ, List, Bool, ◌||◌}
use Rattle.std.proofs.Math.Bool.{true, false}
use Rattle.lexer.specs.Tokens.{text_of}
use Rattle.line_heads.specs.Lines.{is_comment, is_symbol, is_new_line, starts_colon}
use Rattle.macros.specs.Macros.{Macro}
use Rattle.written_out.specs.Written.{Called, no_macro, macro, called}
use Rattle.written_out.specs.declared.Mode.{Mode}
use Rattle.written_out.specs.declared.Mode.TheVariants.{Leading, Labelled, Copied, LeftOut}

pub data Act : Type 0 where
  write_on : Mode → Act
  pass : Act
  call : Macro → List Macro → Act

abbrev pub act_by_name : Called → Act
act_by_name no_macro = write_on Copied
act_by_name (macro m above) = call m above

-- before a line's head; `colon` says whether a Colon follows
abbrev pub leading_of : List Macro → (t : List ℕ) → (colon : Bool) → Act
leading_of macros t colon =
    elim (is_new_line t || is_comment t) [
      | true ↦ write_on Leading
      | false ↦ elim (is_symbol t) [ true ↦ elim colon [ true ↦ write_on Labelled | false ↦ act_by_name (called (text_of t 0) macros) ] | false ↦ write_on Copied ]
    ]

unfoldable pub act_of : List Macro → Mode → (t : List ℕ) → (ts : List (List ℕ)) → Act
unfolding called
act_of macros Leading t ts = leading_of macros t (starts_colon ts)
act_of macros Labelled t ts = write_on Leading
act_of macros Copied t ts = elim (is_new_line t) [ true ↦ write_on Leading | false ↦ write_on Copied ]
act_of macros LeftOut t ts = elim (is_new_line t) [ true ↦ write_on Leading | false ↦ pass ]
