-- Which lines and builds of a job by the manual have none of the exceptions in document 02, P5:
-- "equality is with the Rust except for what is listed here". Assumes nothing.
use Rattle.std.specs.Prelude.{Ok, Err, ℕ, ◌+◌, ◌/◌, ◌≤◌, ◌≡◌, List, Some}
use Rattle.instructions.specs.declared.Size.{Size}
use Rattle.instructions.specs.declared.Size.TheVariants.{Word}
use Rattle.instructions.specs.declared.Encoding.{Encoding}
use Rattle.instructions.specs.declared.Encoding.TheVariants.{Register, RegisterShift, Source, Destination, Inputs, Sham, SpecialBranch, Immediate, LoadImmediate, Jump, Branch, BranchZero, Parameterless, Offset, FPOffset, FP3Register, FP2Register, FPMove, FPCond, FPCrossMove, FPBranch}
use Rattle.jobs.specs.declared.Job.TheVariants.{Commit}
use Rattle.pseudo_names.specs.declared.Pseudo.TheVariants.{Abs}
use Rattle.lexer.specs.Tokens.{tokens}
use Rattle.operand.specs.Answers.{Answer, Got, Missed}
use Rattle.operand_list.specs.OperandLists.{AskedAll, read_operands}
use Rattle.descriptors.specs.Descriptors.{instruction_at}
use Rattle.descriptors.specs.Mnemonics.{mnemonic_name}
use Rattle.labels.specs.Labels.{Table as LabelTable}
use Rattle.pending.specs.declared.InstructionLabelKind.TheVariants.{Branch as BranchKind}
use Rattle.pending.specs.Pendings.{pending_at}
use Rattle.patch.specs.Patches.{after, destination, pc_of, region_for}
use Rattle.finished_words.specs.Listed.{In}
use Rattle.emit_dispatch.specs.Wants.{encoding_wants}
use Rattle.emit_outcome.specs.Call.{Call}
use Rattle.emit_outcome.specs.Dispatch.{meaning}
use Rattle.emit_outcome.specs.Emit.{start_of, emit_outcome}
use Rattle.emit_outcome.specs.Answer.{EmitAnswer}
use Rattle.emit_outcome.specs.declared.Meaning.{Meaning}
use Rattle.emit_outcome.specs.declared.Meaning.TheVariants.{Table, Builtin, Neither}

-- ---- the exceptions in a line: size Word, abs, "a shift amount outside 0 to 31", "a condition code outside 0 to 7"

abbrev pub NotWord : Size → Type 0
NotWord size = size ≡ Word → ⊥

abbrev pub Unlisted : (e : Encoding) → AskedAll (encoding_wants e) → Type 0
Unlisted Register x = Unit {0}
Unlisted RegisterShift x = Unit {0}
Unlisted Source x = Unit {0}
Unlisted Destination x = Unit {0}
Unlisted Inputs x = Unit {0}
Unlisted Sham x = x.2 ≤ 31
Unlisted SpecialBranch x = Unit {0}
Unlisted (Immediate alt) x = Unit {0}
Unlisted LoadImmediate x = Unit {0}
Unlisted Jump x = Unit {0}
Unlisted Branch x = Unit {0}
Unlisted BranchZero x = Unit {0}
Unlisted Parameterless x = Unit {0}
Unlisted Offset x = Unit {0}
Unlisted FPOffset x = Unit {0}
Unlisted (FP3Register fmt) x = NotWord fmt
Unlisted (FP2Register fmt) x = NotWord fmt
Unlisted (FPMove fmt flag) x = NotWord fmt × (x.2 ≤ 7)
Unlisted (FPCond fmt) x = NotWord fmt × (x.0 ≤ 7)
Unlisted (FPCrossMove flag) x = Unit {0}
Unlisted (FPBranch flag) x = x.0 ≤ 7

-- a line whose operands could not be read has no exception
abbrev pub UnlistedRead : (e : Encoding) → Answer (AskedAll (encoding_wants e)) → Type 0
UnlistedRead e (Got x) = Unlisted e x
UnlistedRead e (Missed m) = Unit {0}

-- "abs first emits": a refused line emits nothing
abbrev pub IsRefused : EmitAnswer → Type 0
IsRefused (Ok done) = ⊥
IsRefused (Err refused) = Unit {0}

abbrev pub UnlistedMeaning : Call → Meaning → Type 0
UnlistedMeaning c (Table p) =
    let e = (instruction_at c.descriptors p).encoding in
    UnlistedRead e (read_operands (encoding_wants e) (tokens c.token_list) (start_of c)).answer
UnlistedMeaning c (Builtin p) = p ≡ Abs → IsRefused (emit_outcome Commit c).answer
UnlistedMeaning c Neither = Unit {0}

abbrev pub UnlistedCall : Call → Type 0
UnlistedCall c = UnlistedMeaning c (meaning c.descriptors (mnemonic_name c.mnemonic))

-- ---- the exception in a build: "a branch distance outside -32,768 to 32,767"

abbrev pub UnlistedBuild : (labels : LabelTable) (regions pending : List ℕ) → Type 0
UnlistedBuild labels regions pending = (p dest : ℕ) → In pending p → (pending_at pending p).kind ≡ BranchKind → destination labels pending (pending_at pending p).label ≡ Some dest
    → let pc = pc_of (region_for regions (pending_at pending p)) (pending_at pending p) in
    (after pc / 4 ≤ dest / 4 + 32768) × (dest / 4 ≤ after pc / 4 + 32767)
