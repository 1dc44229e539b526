-- What each refusal returns (document 01, 'Where the work stops'; document 02, 'New numbers'). Assumes nothing.
use Rattle.std.specs.Prelude.{ℕ, pos, negsuc}
use Rattle.record.specs.declared.Location.{Location}
use Rattle.refusal.specs.declared.Numbered.{Numbered}
use Rattle.refusal.specs.declared.Refusal.{Refusal}
use Rattle.refusal.specs.declared.Refusal.TheVariants.{BadLayout, DuplicateName, UnknownInstruction, EndOfFile, ExpectedRegister, ExpectedConstant, ExpectedLabel, ExpectedRightBrace, ConstantOutOfRange, MissingRegion, OverwriteEdge, NoSpace, UnknownEntry, PatchPastEnd, UnknownLabel, JumpOutOfRange, ShiftOutOfRange, CodeOutOfRange, DroppedInstruction, BadByte, BadToken, NoTokenSpace, WrongArguments, NinthLevel, NoWrittenSpace, NoIndexSpace, LateLine, NoPageSpace, BadStart, StartPastEnd}

abbrev pub zero_location : Location
zero_location = record { source = 0; index = 0 }

abbrev pub refusal : ℕ → Location → ℕ → ℕ → Numbered
refusal number location a b = record { number = number; location = location; a = pos a; b = b }

-- "A refusal returns its number, a location and numbers a and b (0 unless named). The location is zero for 1 and 2"
abbrev pub numbered : Refusal → Numbered
numbered (BadLayout buffer place) = refusal 1 zero_location buffer place
numbered (DuplicateName buffer place) = refusal 2 zero_location buffer place
numbered (UnknownInstruction l) = refusal 3 l 0 0
numbered (EndOfFile l) = refusal 4 l 0 0
numbered (ExpectedRegister l kind) = refusal 5 l kind 0
numbered (ExpectedConstant l kind) = refusal 6 l kind 0
numbered (ExpectedLabel l kind) = refusal 7 l kind 0
numbered (ExpectedRightBrace l kind) = refusal 8 l kind 0
-- "a: -8000, b: 32767, as the Rust has it"
numbered (ConstantOutOfRange l) = record { number = 9; location = l; a = negsuc 7999; b = 32767 }
numbered (MissingRegion l) = refusal 10 l 0 0
numbered (OverwriteEdge l address length) = refusal 11 l address length
numbered (NoSpace l short) = refusal 12 l short 0
numbered (UnknownEntry l) = refusal 13 l 0 0
numbered (PatchPastEnd l) = refusal 14 l 0 0
numbered (UnknownLabel l) = refusal 15 l 0 0
numbered (JumpOutOfRange l destination pc) = refusal 16 l destination pc
-- document 02, P5: "19, a shift amount outside 0 to 31; 20, a condition code outside 0 to 7"
numbered (ShiftOutOfRange l) = refusal 19 l 0 0
numbered (CodeOutOfRange l) = refusal 20 l 0 0
-- document 02, P9: "27, an Inputs line with a third operand or a Func 18 line in a Release 6 job"
numbered (DroppedInstruction l) = refusal 27 l 0 0
-- document 02, P7: "at its location", where the faulty token is
numbered (BadByte l) = refusal 21 l 0 0
numbered (BadToken l) = refusal 22 l 0 0
numbered (NoTokenSpace l) = refusal 23 l 0 0
-- document 02, P8: 24 and 25 "at the call's name, for 26 at the first token without room"
numbered (WrongArguments l) = refusal 24 l 0 0
numbered (NinthLevel l) = refusal 25 l 0 0
numbered (NoWrittenSpace l) = refusal 26 l 0 0
-- document 02, P1: "17, the index buffer is too short"; the mnemonic's location, zero in a call without one
numbered (NoIndexSpace l) = refusal 17 l 0 0
-- document 02, P12: "29, a line for a region below that of a patched pending, or after patching ended or refused"
numbered (LateLine l) = refusal 29 l 0 0
-- document 02, P3: "18, the page buffer ... is too short"; the location is "zero in a call without" a mnemonic
numbered NoPageSpace = refusal 18 zero_location 0 0
-- document 02, P10, likewise
numbered BadStart = refusal 28 zero_location 0 0
-- document 02, P14: "30, the range's start exceeds its end"
numbered StartPastEnd = refusal 30 zero_location 0 0
