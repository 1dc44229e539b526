-- What a mnemonic stands for: an encoding with its opcode, or a pseudo-instruction. Assumes nothing.
use Rattle.std.specs.Prelude.{ℕ, List, map, Option}
use Rattle.jobs.specs.declared.Job.{Job}
use Rattle.instructions.specs.declared.Opcode.{Opcode}
use Rattle.instructions.specs.declared.Encoding.{Encoding}
use Rattle.pseudo_names.specs.declared.Pseudo.{Pseudo}
use Rattle.lexer.specs.declared.Token.{Token}
use Rattle.operand_list.specs.declared.Wants.{Wants}
use Rattle.operand_list.specs.OperandLists.{AskedAll}
use Rattle.emit_pairs.specs.declared.InstructionPair.{InstructionPair}
use Rattle.emit_dispatch.specs.Wants.{encoding_wants, pseudo_wants}
use Rattle.emit_dispatch.specs.Lines.{Line, encoding_line, pseudo_line}
use Rattle.emit_dispatch.specs.LineLoads.{LoadedConstant, encoding_loads, pseudo_loads}

pub data Operation : Type 0 where
  encoded : Encoding → Opcode → Operation
  pseudo : Pseudo → Operation

-- what its line asks for
abbrev pub wants_of : Operation → Wants
wants_of (encoded e op) = encoding_wants e
wants_of (pseudo p) = pseudo_wants p

-- which constant its line loads
abbrev pub loads_of : (o : Operation) → AskedAll (wants_of o) → Option LoadedConstant
loads_of (encoded e op) x = encoding_loads e x
loads_of (pseudo p) x = pseudo_loads p x

-- its line in a token list, from an index on
abbrev pub line_of : Job → Operation → List Token → ℕ → Line
line_of job (encoded e op) ts i = encoding_line job e op ts i
line_of job (pseudo p) ts i = pseudo_line job p ts i

-- a line's words
abbrev pub words_of : List InstructionPair → List ℕ
words_of pairs = map (λ (p : InstructionPair). p.word) pairs
