-- What it means that a line loads its constant, and that a call appends its line's words. Assumes nothing.
use Rattle.std.specs.Prelude.{ℕ, ◌+◌, ◌*◌, ◌≡◌, List, [], ◌∷◌, ◌++◌, length, Option, None, Some}
use Rattle.jobs.specs.declared.Job.{Job}
use Rattle.record.specs.Stores.{le32_bytes}
use Rattle.registers.specs.Numbers.{register_number}
use Rattle.loading.specs.Load.{load_words}
use Rattle.loading.specs.Run.{Registers}
use Rattle.loading.proofs.Loading.{Loads}
use Rattle.lexer.specs.declared.Token.{Token}
use Rattle.lexer.specs.Tokens.{tokens}
use Rattle.operand.specs.Answers.{Answer, Got, Missed}
use Rattle.operand_list.specs.OperandLists.{AskedAll, read_operands}
use Rattle.descriptors.specs.Mnemonics.{mnemonic_name}
use Rattle.descriptors.specs.Descriptors.{instruction_at}
use Rattle.emit_dispatch.specs.LineAnswers.{Made}
use Rattle.formats.proofs.Formats.{Format, InFormats}
use Rattle.formats.specs.Operations.{Operation, encoded, pseudo, wants_of, loads_of, line_of, words_of}
use Rattle.emit_dispatch.specs.LineLoads.{LoadedConstant}
use Rattle.formats.proofs.LineFormats.{own_formats}
use Rattle.emit_outcome.specs.declared.Meaning.{Meaning}
use Rattle.emit_outcome.specs.declared.Meaning.TheVariants.{Table, Builtin, Neither}
use Rattle.emit_outcome.specs.Dispatch.{meaning}
use Rattle.emit_outcome.specs.Call.{filled_data, Call, EmitOutcome}
use Rattle.emit_outcome.specs.Emit.{start_of, emit_outcome}

-- ---- a line

-- Words that begin by loading the constant into its register, whatever the registers held. The line's own instructions follow.
pub record LoadsFirst (l : LoadedConstant) (own : List Format) (ws : List ℕ) : Type 0 where
  pub rest : List ℕ
  pub words_are : ws ≡ load_words l.constant (register_number l.register) ++ rest
  pub does : (g : Registers) → length g ≡ 32 → Loads l.constant (register_number l.register) g
  pub rest_has : InFormats rest own

-- If no constant is loaded, there are only the line's own instructions.
abbrev pub LoadedFirst : Option LoadedConstant → List Format → List ℕ → Type 0
LoadedFirst None own ws = InFormats ws own
LoadedFirst (Some l) own ws = LoadsFirst l own ws

pub record LoadedLine (job : Job) (o : Operation) (ts : List Token) (i : ℕ) : Type 0 where
  pub operands : AskedAll (wants_of o)
  pub operands_are : (read_operands (wants_of o) ts i).answer ≡ Got operands
  pub loaded : LoadedFirst (loads_of o operands) (own_formats job o operands) (words_of (line_of job o ts i).pairs)

-- ---- a call

-- what its mnemonic stands for
abbrev pub meant : (descriptors : List ℕ) → Meaning → Option Operation
meant descriptors (Table p) = Some (encoded (instruction_at descriptors p).encoding (instruction_at descriptors p).opcode)
meant descriptors (Builtin p) = Some (pseudo p)
meant descriptors Neither = None

abbrev pub operation_of : Call → Option Operation
operation_of c = meant c.descriptors (meaning c.descriptors (mnemonic_name c.mnemonic))

-- "each four little-endian bytes"
unfoldable pub bytes_of : List ℕ → List ℕ
bytes_of [] = []
bytes_of (w ∷ ws) = le32_bytes w ++ bytes_of ws

-- The words' bytes are appended, in order, behind what was filled at entry. The count grows with them.
pub record Appended (c : Call) (o : EmitOutcome) (ws : List ℕ) : Type 0 where
  pub count_is : o.counts.data_len ≡ c.numbers.counts.data_len + 4 * length ws
  pub data_is : filled_data o.lent o.counts ≡ filled_data c.lent c.numbers.counts ++ bytes_of ws

pub record LoadedCall (job : Job) (c : Call) : Type 0 where
  pub operation : Operation
  pub means : operation_of c ≡ Some operation
  pub made : (line_of job operation (tokens c.token_list) (start_of c)).answer ≡ Made
  pub line : LoadedLine job operation (tokens c.token_list) (start_of c)
  pub appended : Appended c (emit_outcome job c) (words_of (line_of job operation (tokens c.token_list) (start_of c)).pairs)

-- the constant that its line loads
abbrev pub read_loads : (o : Operation) → Answer (AskedAll (wants_of o)) → Option LoadedConstant
read_loads o (Got x) = loads_of o x
read_loads o (Missed m) = None

abbrev pub meant_loads : Call → Option Operation → Option LoadedConstant
meant_loads c None = None
meant_loads c (Some o) = read_loads o (read_operands (wants_of o) (tokens c.token_list) (start_of c)).answer

abbrev pub call_loads : Call → Option LoadedConstant
call_loads c = meant_loads c (operation_of c)

-- The words that load the constant are the first ones appended.
pub record ConstantAppended (job : Job) (c : Call) (l : LoadedConstant) : Type 0 where
  pub rest : List ℕ
  pub data_is : filled_data (emit_outcome job c).lent (emit_outcome job c).counts
      ≡ filled_data c.lent c.numbers.counts ++ (bytes_of (load_words l.constant (register_number l.register)) ++ bytes_of rest)
  pub does : (g : Registers) → length g ≡ 32 → Loads l.constant (register_number l.register) g
