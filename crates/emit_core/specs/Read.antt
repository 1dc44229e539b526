-- A line that was read: the location of its mnemonic, and the line made from the operands. Assumes nothing.
use Rattle.std.specs.Prelude.{ℕ, ◌≤◌, List, length, Bool, true, false, ◌≡◌, None, Option, Some, Result, Ok, Err}
use Rattle.jobs.specs.declared.Job.{Job}
use Rattle.lexer.specs.Tokens.{tokens}
use Rattle.descriptors.specs.Mnemonics.{mnemonic_location}
use Rattle.emit_dispatch.specs.Lines.{Line}
use Rattle.emit_dispatch.specs.Contract.{MadeAs}
use Rattle.emit_outcome.specs.Dispatch.{named_line}
use Rattle.emit_checks.specs.declared.LineRead.{LineRead}
use Rattle.refusal.specs.declared.Refusal.{Refusal}
use Rattle.refusal.specs.declared.Refusal.TheVariants.{UnknownInstruction}

-- what the code has read is the line: its words, or why there are none
abbrev pub LineMade : Line → LineRead → Type 0
LineMade line read = MadeAs line read.answer × (line.index ≡ read.position)

-- the mnemonic is known if it has a line, and then that is the line that the code has read
abbrev pub LineFor : Option Line → (known : Bool) → LineRead → Type 0
LineFor (Some line) known read = (known ≡ true) × LineMade line read
LineFor None known read = known ≡ false

pub record ReadIs (job : Job) (token_list mnemonic descriptors : List ℕ) (position : ℕ) (known : Bool) (read : LineRead) : Type 0 where
  pub location_is : read.line ≡ mnemonic_location mnemonic
  pub line_is : LineFor (named_line job token_list mnemonic descriptors position) known read
  pub within : read.position ≤ length (tokens token_list)

-- a line that was read, or the refusal of a mnemonic that is neither a descriptor nor a pseudo-instruction
abbrev pub ReadBy : Job → (token_list mnemonic descriptors : List ℕ) → (position : ℕ) → Result LineRead Refusal → Type 0
ReadBy job token_list mnemonic descriptors position (Ok read) = ReadIs job token_list mnemonic descriptors position true read
ReadBy job token_list mnemonic descriptors position (Err refusal) = (named_line job token_list mnemonic descriptors position ≡ None) × (refusal ≡ UnknownInstruction (mnemonic_location mnemonic))
