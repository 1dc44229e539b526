-- What emit calls leave reads back: demand 3 of a routine of accepted lines, begun on empty buffers, of any jobs, in any regions in any order.
-- Nothing is asked about patches. Assumes nothing.
use Rattle.std.specs.Prelude.{ℕ, ◌+◌, ◌%◌, ◌≤◌, ◌≡◌, refl, List, Ok, Some}
use Rattle.std.proofs.Common.{arith, sym, subst, ◌∙◌}
use Rattle.jobs.specs.declared.Job.{Job}
use Rattle.jobs.specs.declared.Job.TheVariants.{Commit}
use Rattle.labels.specs.Labels.{Table, table_of}
use Rattle.pending.specs.Pendings.{pending_at}
use Rattle.pending.specs.declared.InstructionLabelKind.{InstructionLabelKind}
use Rattle.pending.specs.declared.InstructionLabelKind.TheVariants.{Branch, Jump, Lower, Upper, Full}
use Rattle.build_outcome.specs.Build.{patch_verdict, build_verdict, build_outcome}
use Rattle.finished_words.specs.Listed.{In, Bytes, pc_at}
use Rattle.reading.specs.Reading.{image_of, reading, readings, destinations}
use Rattle.reading.specs.Premises.{Premises}
use Rattle.reading.specs.Used.{SameUsed}
use Rattle.reading.specs.OnTarget.{Going, OnTarget, ReadsBack}
use Rattle.reading.proofs.ReadBackLaws.{Readable}
use Rattle.reading.proofs.TablesLaws.{resolve_lt}
use Rattle.reading.proofs.Demand.{reads_back, differing_apart}
use Rattle.reading.proofs.Exactly.{patch_reads, exactly}
use Rattle.routine.specs.PatchValues.{patch_at}
use Rattle.routine.specs.Run.{Buffers, RoutineLine, run, AllAccepted, Each, OfBytes, AllEmpty, routine_patches}
use Rattle.routine_reading.specs.Tidy.{Tidy}
use Rattle.routine_reading.specs.Asked.{RegionOnWord, Asked}
use Rattle.routine_reading.specs.Lines.{left_pending, region_number, ToLine, Holds, OthersPass, Settled, OnWords}
use Rattle.routine_reading.proofs.LeftLaws.{routine_tidy}
use Rattle.routine_reading.proofs.LinesLaws.{to_label, label_on, numbered, settled_passes, settled_accepted, settled_on}

module _ (lines : List RoutineLine) (start : Buffers) where
  abbrev left : List ℕ
  left = left_pending lines start

  pub record RoutineReads : Type 0 where
    -- "patch addresses multiples of four, patches not overlapping, .. every half in a pair"
    pub tidy : Tidy left
    -- Demand 3's two halves: the build is accepted, regions begin at multiples of four, and branches and jumps are on target.
    pub read_back : (job : Job) (labels : Table) (entry regions : List ℕ) → Asked job labels entry regions left
        → readings (image_of (build_outcome job labels entry regions left).regions) left ≡ destinations labels left
    pub apart : (job : Job) (labels₁ labels₂ entry regions : List ℕ) → Bytes labels₁ → Bytes labels₂
        → Asked job (table_of labels₁) entry regions left → Asked job (table_of labels₂) entry regions left → (SameUsed (table_of labels₁) (table_of labels₂) entry left → ⊥)
        → image_of (build_outcome job (table_of labels₁) entry regions left).regions ≡ image_of (build_outcome job (table_of labels₂) entry regions left).regions
        → (build_outcome job (table_of labels₁) entry regions left).answer ≡ (build_outcome job (table_of labels₂) entry regions left).answer → ⊥
    -- Patch by patch, in every accepted build, wherever the others go: a half reads back, and a branch or a jump reads back if and only if
    -- it is on target.
    pub halves : (job : Job) (labels : Table) (entry regions : List ℕ) → build_verdict job labels entry regions left ≡ Ok tt
        → (p : ℕ) → In left p → (Going (pending_at left p).kind → ⊥) → ReadsBack job labels entry regions left p
    pub exact : (job : Job) (labels : Table) (entry regions : List ℕ) → build_verdict job labels entry regions left ≡ Ok tt
        → (p : ℕ) → In left p → Going (pending_at left p).kind → RegionOnWord regions left p
        → (OnTarget job labels regions left p → ReadsBack job labels entry regions left p) × (ReadsBack job labels entry regions left p → OnTarget job labels regions left p)
    -- Labels mean lines: in every accepted build a branch or a jump to a label reads as the address of the line behind the label, or of the data's
    -- end. Nothing is asked of the distance, but the commit's branches must stay in their region, and that region must hold the data left.
    pub to_lines : (job : Job) (labels entry regions : List ℕ) → Bytes labels → build_verdict job (table_of labels) entry regions left ≡ Ok tt
        → (p : ℕ) → In left p → Going (pending_at left p).kind → RegionOnWord regions left p
        → (t : ToLine lines start (table_of labels) regions (patch_at left p)) → (region_number regions t.region).address % 4 ≡ 0
        → (job ≡ Commit → (pending_at left p).kind ≡ Branch → t.region ≡ (pending_at left p).region)
        → ((run lines start).region_data (pending_at left p).region).fill ≤ (region_number regions (pending_at left p).region).size
        → reading (image_of (build_outcome job (table_of labels) entry regions left).regions) (pending_at left p) ≡ (region_number regions t.region).address + t.mark
    -- A build of any job passes 14, 15 and 16 at a patch that a loft has settled.
    pub passes : (job : Job) (labels : Table) (regions : List ℕ) → Holds lines start regions → (p : ℕ) → In left p → Settled lines start labels regions (patch_at left p)
        → patch_verdict job labels regions left p ≡ Ok tt
    -- If all is settled, a build of any job is accepted and reads back.
    pub every_job : (labels : Table) (entry regions : List ℕ) → Holds lines start regions → OthersPass labels entry → OnWords regions
        → Each (Settled lines start labels regions) (routine_patches lines start) → (job : Job)
        → (build_verdict job labels entry regions left ≡ Ok tt) × (readings (image_of (build_outcome job labels entry regions left).regions) left ≡ destinations labels left)

module _ (lines : List RoutineLine) (start : Buffers) (empty : AllEmpty start) (bytes : Each OfBytes lines) (accepted : AllAccepted lines start) where
  abbrev pending : List ℕ
  pending = left_pending lines start

  tidy : Tidy pending
  tidy = routine_tidy lines start empty bytes accepted

  aligned : (regions : List ℕ) (p : ℕ) → In pending p → RegionOnWord regions pending p → pc_at regions pending p % 4 ≡ 0
  aligned regions p m h = omega (arith, h, tidy.on_words p m)

  premises : (job : Job) (labels : Table) (entry regions : List ℕ) → Asked job labels entry regions pending → Premises job labels entry regions pending
  premises job labels entry regions asked = record {
    accepted = asked.accepted;
    aligned = λ p m. aligned regions p m (asked.regions_on_words p m);
    apart = tidy.apart;
    branch_target = λ p m e. (asked.on_target p m (subst Going (sym e) tt)).on_word_lem;
    jump_target = λ p m e. (asked.on_target p m (subst Going (sym e) tt)).on_word_lem;
    near = λ c p m e. (asked.on_target p m (subst Going (sym e) tt)).near c e;
    upper_paired = tidy.upper_paired;
    lower_paired = tidy.lower_paired;
  }

  -- A half has a pair, so it can be read.
  half_readable : (job : Job) (labels : Table) (regions : List ℕ) (kind : InstructionLabelKind) (p : ℕ) → In pending p → (pending_at pending p).kind ≡ kind → (Going kind → ⊥)
      → Readable job labels regions pending kind p
  half_readable job labels regions Branch p m e n = absurd (n tt)
  half_readable job labels regions Jump p m e n = absurd (n tt)
  half_readable job labels regions Lower p m e n = tidy.lower_paired p m e
  half_readable job labels regions Upper p m e n = tidy.upper_paired p m e
  half_readable job labels regions Full p m e n = tt

  reads_exactly : (job : Job) (labels : Table) (entry regions : List ℕ) → build_verdict job labels entry regions pending ≡ Ok tt
      → (p : ℕ) → In pending p → Going (pending_at pending p).kind → RegionOnWord regions pending p
      → (OnTarget job labels regions pending p → ReadsBack job labels entry regions pending p) × (ReadsBack job labels entry regions pending p → OnTarget job labels regions pending p)
  reads_exactly job labels entry regions pass p m g h = exactly job labels entry regions pending pass tidy.apart p m g (aligned regions p m h)

  line_reads : (job : Job) (labels entry regions : List ℕ) → Bytes labels → build_verdict job (table_of labels) entry regions pending ≡ Ok tt
      → (p : ℕ) → In pending p → Going (pending_at pending p).kind → RegionOnWord regions pending p
      → (t : ToLine lines start (table_of labels) regions (patch_at pending p)) → (region_number regions t.region).address % 4 ≡ 0
      → (job ≡ Commit → (pending_at pending p).kind ≡ Branch → t.region ≡ (pending_at pending p).region)
      → ((run lines start).region_data (pending_at pending p).region).fill ≤ (region_number regions (pending_at pending p).region).size
      → reading (image_of (build_outcome job (table_of labels) entry regions pending).regions) (pending_at pending p) ≡ (region_number regions t.region).address + t.mark
  line_reads job labels entry regions b pass p m g h t word own kept =
      let small = resolve_lt labels t.location.source t.name ((region_number regions t.region).address + t.mark) b t.address_is in
      let on = label_on lines start empty bytes accepted (table_of labels) regions p t job entry pass m small word own kept in
      let back = (reads_exactly job (table_of labels) entry regions pass p m g h).0 on in
      let goal : Some (reading (image_of (build_outcome job (table_of labels) entry regions pending).regions) (pending_at pending p)) ≡ Some ((region_number regions t.region).address + t.mark) =
      back ∙ to_label lines start empty bytes accepted (table_of labels) regions p t small in
      cc

  all_jobs : (labels : Table) (entry regions : List ℕ) → Holds lines start regions → OthersPass labels entry → OnWords regions
      → Each (Settled lines start labels regions) (routine_patches lines start) → (job : Job)
      → (build_verdict job labels entry regions pending ≡ Ok tt) × (readings (image_of (build_outcome job labels entry regions pending).regions) pending ≡ destinations labels pending)
  all_jobs labels entry regions holds others words all job =
      let pass = settled_accepted lines start empty bytes accepted regions holds labels job entry others all in (
        pass,
        reads_back job labels entry regions pending (premises job labels entry regions (record {
          accepted = pass;
          regions_on_words = λ p m. words (pending_at pending p).region (numbered lines start empty bytes accepted regions holds p m);
          on_target = settled_on lines start empty bytes accepted regions holds labels job entry pass words all;
        })),
      )

  pub routine_reads : RoutineReads lines start
  routine_reads = record {
    tidy = tidy;
    read_back = λ job labels entry regions asked. reads_back job labels entry regions pending (premises job labels entry regions asked);
    apart = λ job labels₁ labels₂ entry regions b₁ b₂ a₁ a₂.
        differing_apart job labels₁ labels₂ entry regions pending b₁ b₂ (premises job (table_of labels₁) entry regions a₁) (premises job (table_of labels₂) entry regions a₂);
    halves = λ job labels entry regions pass p m n.
        patch_reads job labels entry regions pending pass tidy.apart p m (half_readable job labels regions (pending_at pending p).kind p m refl n);
    exact = reads_exactly;
    to_lines = line_reads;
    passes = λ job labels regions holds p m s. settled_passes lines start empty bytes accepted regions holds labels job p m s;
    every_job = all_jobs;
  }
