-- What a mnemonic means, and the line of a call: "A descriptor goes before a pseudo-instruction of that name." Assumes nothing.
use Rattle.std.specs.Prelude.{ℕ, List, None, Option, Some}
use Rattle.jobs.specs.declared.Job.{Job}
use Rattle.lexer.specs.declared.Token.{Token}
use Rattle.lexer.specs.Tokens.{tokens}
use Rattle.cursor.specs.Cursors.{start_index}
use Rattle.names.specs.Names.{first_where}
use Rattle.descriptors.specs.Mnemonics.{mnemonic_name}
use Rattle.descriptors.specs.Descriptors.{find_descriptor, instruction_at}
use Rattle.emit_dispatch.specs.Lines.{Line, encoding_line, pseudo_line}
use Rattle.pseudo_names.specs.PseudoNames.{pseudo_in, pseudo_of}
use Rattle.emit_outcome.specs.declared.Meaning.{Meaning}
use Rattle.emit_outcome.specs.declared.Meaning.TheVariants.{Table, Builtin, Neither}
use Rattle.pseudo_names.specs.declared.Pseudo.{Pseudo}

abbrev pub or_neither : Option Pseudo → Meaning
or_neither (Some p) = Builtin p
or_neither None = Neither

abbrev pub or_pseudo : Option ℕ → List ℕ → Meaning
or_pseudo (Some p) name = Table p
or_pseudo None name = or_neither (pseudo_of name)

-- what a name is: a descriptor at a place, a pseudo-instruction, or neither
unfoldable pub meaning : (descriptors name : List ℕ) → Meaning
unfolding first_where pseudo_in
meaning descriptors name = or_pseudo (find_descriptor descriptors name) name

-- the line of the descriptor at p
unfoldable pub table_line : Job → List ℕ → ℕ → List Token → ℕ → Line
unfolding encoding_line
table_line job descriptors p ts i = encoding_line job (instruction_at descriptors p).encoding (instruction_at descriptors p).opcode ts i

-- The line that a meaning gives, made from the operands that begin at token i: the descriptor's, or the pseudo-instruction's. No line if there is
-- neither of that name: "3. Neither descriptor nor pseudo-instruction has the mnemonic."
abbrev pub meaning_line : Job → (descriptors : List ℕ) → Meaning → List Token → ℕ → Option Line
meaning_line job descriptors (Table p) ts i = Some (table_line job descriptors p ts i)
meaning_line job descriptors (Builtin p) ts i = Some (pseudo_line job p ts i)
meaning_line job descriptors Neither ts i = None

-- the line of a mnemonic, its operands read from a token position on
abbrev pub named_line : Job → (token_list mnemonic descriptors : List ℕ) → (position : ℕ) → Option Line
named_line job token_list mnemonic descriptors position =
    meaning_line job descriptors (meaning descriptors (mnemonic_name mnemonic)) (tokens token_list) (start_index (tokens token_list) position)
