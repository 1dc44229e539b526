-- The tender's three demands, and the third for what emit calls leave. They are stated of the definitions of an emit call (`emit_outcome`) and of a build
-- (`build_outcome`). The entries' contracts say that the entries do just this (`EmittedIs`, `BuildIs`). Assumes nothing.
use Rattle.std.specs.Prelude.{ℕ, ◌<◌, ◌≡◌, List, length, Err, Ok, Some}
use Rattle.std.proofs.Common.{ap}
use Rattle.jobs.specs.declared.Job.{Job}
use Rattle.names.specs.Owners.{WithoutOwners}
use Rattle.labels.specs.Labels.{Table, table_of}
use Rattle.refusal.specs.declared.Refusal.{Refusal}
use Rattle.loading.specs.declared.LoadForm.{LoadForm}
use Rattle.loading.specs.Run.{Registers}
use Rattle.loading.proofs.Loading.{Loads, loads}
use Rattle.lexer.specs.declared.Token.{Token}
use Rattle.operand_list.specs.OperandLists.{read_operands}
use Rattle.emit_dispatch.specs.LineAnswers.{Made}
use Rattle.emit_outcome.specs.Answer.{done_at, refused_at}
use Rattle.emit_outcome.specs.Call.{Call}
use Rattle.emit_outcome.specs.Checks.{list_stop}
use Rattle.emit_outcome.specs.Emit.{refuse, list_outcome, emit_outcome}
use Rattle.emit_outcome.proofs.Refused.{refused_stays}
use Rattle.build_outcome.specs.Build.{build_verdict, build_outcome}
use Rattle.finished_words.specs.Listed.{Bytes}
use Rattle.finished_words.proofs.Finished.{Finished, finished}
use Rattle.reading.specs.Reading.{image_of, readings, destinations}
use Rattle.reading.specs.Premises.{Premises, StraightPremises}
use Rattle.reading.specs.Used.{SameUsed}
use Rattle.reading.proofs.Demand.{reads_back, differing_apart, straight_reads_back}
use Rattle.emit_dispatch.specs.LineLoads.{LoadedConstant}
use Rattle.formats.specs.Operations.{Operation, wants_of, line_of, words_of}
use Rattle.formats.proofs.LineFormats.{LineWords}
use Rattle.formats.proofs.EveryWord.{every_word}
use Rattle.loaded_lines.proofs.Loaded.{call_loads, ConstantAppended}
use Rattle.loaded_lines.proofs.LinesLoad.{constant_appended}
use Rattle.routine.specs.Run.{Buffers, RoutineLine, AllAccepted, Each, OfBytes, AllEmpty}
use Rattle.routine_reading.proofs.RoutineReads.{RoutineReads, routine_reads}
use Rattle.acceptance.proofs.Marked.{MarkedTable, marked}
use Rattle.refusal.specs.Verdicts.{Verdict}

-- refusals 1 and 2 of an emit call
abbrev lists_of : Call → Verdict
lists_of c = list_stop c.token_list c.mnemonic c.descriptors c.lent c.numbers.place.region c.numbers.counts

-- 1. "If a record list is damaged, cut short or senseless, each public entry returns the numbered refusal of document 01 and changes no lent byte."
pub record Demand1 : Type 0 where
  pub line_lists : (job : Job) (c : Call) (r : Refusal) → lists_of c ≡ Err r → emit_outcome job c ≡ refuse c.numbers.counts c.lent c.numbers.place.position r
  pub line_refused : (job : Job) (c : Call) (r : Refusal) (p : ℕ) → (emit_outcome job c).answer ≡ refused_at r p → emit_outcome job c ≡ refuse c.numbers.counts c.lent p r
  pub build_refused : (job : Job) (labels : Table) (entry regions pending : List ℕ) (r : Refusal) → build_verdict job labels entry regions pending ≡ Err r
      → build_outcome job labels entry regions pending ≡ record { answer = Err r; regions = regions }

-- 2. "refusal, position, words, pending patches, breakpoints, image and entry equal the Rust's, shown by differential runs and proved against the
-- MIPS32 field layouts": what is proved of it.
pub record Demand2 : Type 1 where
  pub table : MarkedTable
  pub words : (job : Job) (o : Operation) (ts : List Token) (i : ℕ) → (line_of job o ts i).answer ≡ Made
      → LineWords job o (read_operands (wants_of o) ts i).answer (words_of (line_of job o ts i).pairs)
  pub patched : (job : Job) (labels : Table) (entry regions pending : List ℕ) → build_verdict job labels entry regions pending ≡ Ok tt
      → Finished labels regions pending (build_outcome job labels entry regions pending).regions

-- 3. "document 01's MIPS32 reading of each patch in the finished words, by its kind, equals its destination, and two label tables that differ in a
-- used address never share an image with its entry"; "the words emitted to load the constant .. leave its low 32 bits in the chosen register,
-- unless that is $zero, and alter no other."
pub record Demand3 : Type 0 where
  pub read_back : (job : Job) (labels : Table) (entry regions pending : List ℕ) → Premises job labels entry regions pending
      → readings (image_of (build_outcome job labels entry regions pending).regions) pending ≡ destinations labels pending
  pub apart : (job : Job) (labels₁ labels₂ entry regions pending : List ℕ) → Bytes labels₁ → Bytes labels₂
      → Premises job (table_of labels₁) entry regions pending → Premises job (table_of labels₂) entry regions pending → (SameUsed (table_of labels₁) (table_of labels₂) entry pending → ⊥)
      → image_of (build_outcome job (table_of labels₁) entry regions pending).regions ≡ image_of (build_outcome job (table_of labels₂) entry regions pending).regions
      → (build_outcome job (table_of labels₁) entry regions pending).answer ≡ (build_outcome job (table_of labels₂) entry regions pending).answer → ⊥
  -- If all labels are for all files, patches read back whatever the sources of their names are.
  pub straight_back : (job : Job) (labels entry regions pending : List ℕ) → WithoutOwners labels → StraightPremises job (table_of labels) entry regions pending
      → readings (image_of (build_outcome job (table_of labels) entry regions pending).regions) pending ≡ destinations (table_of labels) pending
  pub constants : (c t : ℕ) (g : Registers) → t < 32 → length g ≡ 32 → Loads c t g
  pub lines : (job : Job) (c : Call) (position : ℕ) (loaded : LoadForm) → (emit_outcome job c).answer ≡ done_at position loaded → (l : LoadedConstant) → call_loads c ≡ Some l → ConstantAppended job c l

-- Demand 3 again, for what emit calls leave: lines of any jobs, accepted one after the other on empty buffers, in any regions and in any order.
-- The premises on patches then hold by themselves. What is still asked, a loft sees in its text and in its regions' addresses.
abbrev pub Demand3OfLines : Type 0
Demand3OfLines = (lines : List RoutineLine) (start : Buffers) → AllEmpty start → Each OfBytes lines → AllAccepted lines start → RoutineReads lines start

pub demand_1 : Demand1
unfolding emit_outcome build_outcome
demand_1 = record {
  line_lists = λ job c r e. ap (list_outcome job c) e;
  line_refused = refused_stays;
  build_refused = λ job labels entry regions pending r e. rw e;
}

pub demand_2 : Demand2
demand_2 = record { table = marked; words = every_word; patched = finished }

pub demand_3 : Demand3
demand_3 = record { read_back = reads_back; apart = differing_apart; straight_back = straight_reads_back; constants = loads; lines = constant_appended }

pub demand_3_of_lines : Demand3OfLines
demand_3_of_lines = routine_reads
