-- What the line of an emit call adds to the lists, as values: its words, its patches and its breakpoint. Assumes nothing.
use Rattle.std.specs.Prelude.{◌+◌, List, [], length, None, Option, Some}
use Rattle.jobs.specs.declared.Job.{Job}
use Rattle.lexer.specs.Tokens.{tokens}
use Rattle.descriptors.specs.Mnemonics.{mnemonic_name, mnemonic_location}
use Rattle.pending.specs.declared.Origin.{Origin}
use Rattle.breakpoints.specs.BreakpointBytes.{pcs_from}
use Rattle.emit_pairs.specs.declared.InstructionPair.{InstructionPair}
use Rattle.emit_dispatch.specs.Lines.{Line, pseudo_line}
use Rattle.emit_outcome.specs.Call.{Call}
use Rattle.emit_outcome.specs.Dispatch.{meaning, table_line}
use Rattle.emit_outcome.specs.Emit.{call_made}
use Rattle.routine.specs.PatchValues.{Patch, patches_from}
use Rattle.routine.specs.BreakpointValues.{Breakpoint}

-- a line's words, each with the label that it waits for
abbrev pub line_pairs : Option Line → List InstructionPair
line_pairs (Some made) = made.pairs
line_pairs None = []

unfoldable pub call_pairs : Job → Call → List InstructionPair
unfolding meaning mnemonic_name table_line pseudo_line tokens
call_pairs job c = line_pairs (call_made job c)

-- where the first word goes: at the end of the region's data before the call
abbrev pub call_origin : Call → Origin
call_origin c = record { region = c.numbers.place.region; offset = c.numbers.counts.data_len; location = mnemonic_location c.mnemonic }

-- one patch for each word that waits for a label, in order
abbrev pub call_patches : Job → Call → List Patch
call_patches job c = patches_from c.token_list (call_origin c) 0 (call_pairs job c)

-- the mnemonic's location, and "one 4-byte pc a word", from region address plus data length on
abbrev pub call_breakpoint : Job → Call → Breakpoint
call_breakpoint job c = record {
  location = mnemonic_location c.mnemonic;
  pcs = pcs_from (length (call_pairs job c)) (c.numbers.place.address + c.numbers.counts.data_len);
}
