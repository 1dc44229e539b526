-- P12's claims about every script, as statements (document 02); ScriptLaws proves them. Assumes nothing.
use Rattle.std.specs.Prelude.{ℕ, ◌+◌, ◌-◌, ◌*◌, ◌/◌, ◌<◌, ◌≤◌, Bool, true, false, ◌||◌, ◌⊎◌, ◌≡◌, length, drop, eqb, Err, Ok}
use mathlib.Core.List.{List, [], ◌∷◌, ◌++◌, Memᴰ}
use Rattle.jobs.specs.declared.Job.{Job}
use Rattle.record.specs.Records.{places, limit}
use Rattle.record.specs.declared.Location.{Location}
use Rattle.refusal.specs.Numbers.{numbered}
use Rattle.refusal.specs.declared.Refusal.{Refusal}
use Rattle.refusal.specs.declared.Refusal.TheVariants.{LateLine}
use Rattle.labels.specs.Labels.{Table}
use Rattle.regions.specs.Regions.{region_count}
use Rattle.pending.specs.Pendings.{region_of, pending_at}
use Rattle.patch.specs.Patches.{region_for}
use Rattle.loading.specs.declared.LoadForm.{LoadForm}
use Rattle.build_outcome.specs.Build.{order_from, write_patches, BuildOutcome, build_outcome}
use Rattle.emit_outcome.specs.Answer.{EmitAnswer, done_at, refused_at}
use Rattle.finished_words.specs.Listed.{Bytes}
use Rattle.patching_outcome.specs.declared.Progress.TheVariants.{Patched, Ended}
use Rattle.patching_outcome.specs.Patching.{Patching, regions_of, pendings_of, order_of, done_of}
use Rattle.patching_outcome.specs.Step.{StepAnswer, step_checks, step_outcome}
use Rattle.patching_outcome.specs.Line.{LineGiven, is_late, line_outcome}
use Rattle.patching_laws.specs.Script.{Turn, Step, Line, turn, run, accepted_lines, lines_first}

-- nothing is patched yet, the two lists' buffers and fill counts are within their limits, and the kept words have room for every pending that
-- the pending buffer may hold. Nothing is asked of the records: refusals 1, 2 and 13 are equal too.
pub record Start (p : Patching) : Type 0 where
  pub none_patched : p.counts.patches ≡ 0
  pub running : p.counts.state ≡ 0
  pub regions_within : (length p.regions ≤ limit) × (p.counts.regions ≤ length p.regions)
  pub pending_within : (length p.pending ≤ limit) × (p.counts.pending ≤ length p.pending)
  -- a pending takes 36 bytes or more, so 7,280 bytes always suffice
  pub kept_within : (length p.kept ≤ limit) × (4 * (length p.pending / 36) ≤ length p.kept)

-- "every pending at the start lies inside its region's data"
abbrev pub AllInside : Patching → Type 0
AllInside p =
    (at : ℕ) → Memᴰ at (places (pendings_of p))
    → (pending_at (pendings_of p) at).offset + 4 ≤ (region_for (regions_of p) (pending_at (pendings_of p) at)).size

-- the elements of a line's lists are bytes, as in a lent slice
abbrev pub OfBytes : Turn → Type 0
OfBytes Step = Unit {0}
OfBytes (Line job g) = Bytes g.token_list × Bytes g.mnemonic

abbrev pub AllOfBytes : List Turn → Type 0
AllOfBytes [] = Unit {0}
AllOfBytes (t ∷ ts) = OfBytes t × AllOfBytes ts

-- "their pendings join the end of their region's part": they end the list, are of region r, and in patch order follow all pendings up to region r
pub record JoinsEnd (before after : Patching) (r : ℕ) : Type 0 where
  pub added : List ℕ
  pub places_then : places (pendings_of after) ≡ places (pendings_of before) ++ added
  pub regions_then : (at : ℕ) → Memᴰ at added → region_of (pendings_of after) at ≡ r
  pub order_before : order_of before ≡ order_from (r + 1) (pendings_of before) 0 ++ order_from (region_count (regions_of before) - (r + 1)) (pendings_of before) (r + 1)
  pub order_then : order_of after ≡ order_from (r + 1) (pendings_of before) 0 ++ added ++ order_from (region_count (regions_of before) - (r + 1)) (pendings_of before) (r + 1)

module _ (job : Job) (labels : Table) (entry : List ℕ) where
  -- "After each step the lent image, the region list, is its starting bytes and the appended lines with exactly the patches so far written in":
  -- q is the state after a script, b the state after only that script's accepted lines
  pub record ImageIs (q b : Patching) : Type 0 where
    pub image_is : regions_of q ≡ write_patches labels (regions_of b) (pendings_of b) (done_of q) (regions_of b)
    pub order_is : order_of q ≡ order_of b
    pub behind : drop q.counts.regions q.regions ≡ drop b.counts.regions b.regions
    pub pending_is : q.pending ≡ b.pending
    pub breakpoints_are : q.breakpoints ≡ b.breakpoints
    pub fills_are : (q.counts.regions ≡ b.counts.regions) × (q.counts.pending ≡ b.counts.pending) × (q.counts.breakpoints ≡ b.counts.breakpoints)

  -- 1. after each call, from any start
  abbrev pub ImageAfter : Type 0
  ImageAfter =
      (ts : List Turn) (p : Patching) → AllOfBytes ts → Start p
      → ImageIs (run job labels entry ts p) (lines_first job labels entry ts p)

  -- each accepted line is also accepted if all of them come first
  abbrev pub AcceptedFirst : Type 0
  AcceptedFirst =
      (ts : List Turn) (p : Patching) → AllOfBytes ts → Start p
      → accepted_lines job labels entry (accepted_lines job labels entry ts p) p ≡ accepted_lines job labels entry ts p

  -- a line that is not late gets the same answer as with all accepted lines first: patching adds refusal 29 and no other
  abbrev pub SameAnswers : Type 0
  SameAnswers =
      (ts : List Turn) (p : Patching) → AllOfBytes ts → Start p → (of : Job) (g : LineGiven) → is_late (run job labels entry ts p) g.region ≡ false
      → (line_outcome of g (run job labels entry ts p)).answer ≡ (line_outcome of g (lines_first job labels entry ts p)).answer

  abbrev pub JoinsAfter : Type 0
  JoinsAfter =
      (ts : List Turn) (p : Patching) → AllOfBytes ts → Start p
      → (of : Job) (g : LineGiven) → Bytes g.token_list → Bytes g.mnemonic → (position : ℕ) (loaded : LoadForm)
      → (line_outcome of g (run job labels entry ts p)).answer ≡ done_at position loaded
      → JoinsEnd (run job labels entry ts p) (line_outcome of g (run job labels entry ts p)).after g.region

  -- 2. "one more for each step that finds one"
  abbrev pub OneMore : Type 0
  OneMore =
      (p : Patching) → step_checks labels entry p ≡ Ok tt → p.counts.state ≡ 0 → p.counts.patches < length (order_of p)
      → ((n : ℕ) → (step_outcome job labels entry p).answer ≡ Ok (Patched n) → (n ≡ p.counts.patches + 1) × ((step_outcome job labels entry p).after.counts.patches ≡ n))

  -- how many steps of a script patched a pending
  abbrev pub patched_by : StepAnswer → ℕ
  patched_by (Ok (Patched n)) = 1
  patched_by (Ok (Ended a)) = 0
  patched_by (Err r) = 0

  abbrev pub patched_turn : Turn → Patching → ℕ
  patched_turn Step p = patched_by (step_outcome job labels entry p).answer
  patched_turn (Line of g) p = 0

  unfoldable pub patched_steps : List Turn → Patching → ℕ
  unfolding run
  patched_steps [] p = 0
  patched_steps (t ∷ ts) p = patched_turn t p + patched_steps ts (turn job labels entry t p)

  -- "exactly the patches so far .. one more for each step that finds one": unless refused, the count is the number of steps that patched
  abbrev pub Counted : Type 0
  Counted =
      (ts : List Turn) (p : Patching) → AllOfBytes ts → Start p
      → ((run job labels entry ts p).counts.state ≡ 2) ⊎ ((run job labels entry ts p).counts.patches ≡ patched_steps ts p)

  -- 3. "the finished image, or the first refusal, equals that of all accepted lines first and a whole build after"
  abbrev pub build_first : List Turn → Patching → BuildOutcome
  build_first ts p =
      let b = lines_first job labels entry ts p in
      build_outcome job labels entry (regions_of b) (pendings_of b)

  pub record Finishes (ts : List Turn) (p : Patching) : Type 0 where
    pub ended : (a : ℕ) → (step_outcome job labels entry (run job labels entry ts p)).answer ≡ Ok (Ended a)
        → build_first ts p ≡ (record { answer = Ok a; regions = regions_of (run job labels entry ts p) })
    -- later steps end too
    pub ended_later : (a : ℕ) (us : List Turn) → AllOfBytes us → (step_outcome job labels entry (run job labels entry ts p)).answer ≡ Ok (Ended a)
        → (step_outcome job labels entry (run job labels entry (ts ++ Step ∷ us) p)).answer ≡ Ok (Ended a)
    -- "A step's refusal 14 to 16 .. gives those bytes and lines back unpatched"
    pub refused : (r : Refusal) → (step_outcome job labels entry (run job labels entry ts p)).answer ≡ Err r
        → build_first ts p ≡ (record { answer = Err r; regions = regions_of (step_outcome job labels entry (run job labels entry ts p)).after })
    -- "and later steps answer the same", whatever comes between
    pub same_later : (r : Refusal) (us : List Turn) → AllOfBytes us → (step_outcome job labels entry (run job labels entry ts p)).answer ≡ Err r
        → (step_outcome job labels entry (run job labels entry (ts ++ Step ∷ us) p)).answer ≡ Err r

  abbrev pub AllFinish : Type 0
  AllFinish = (ts : List Turn) (p : Patching) → AllOfBytes ts → Start p → Finishes ts p

  -- The request's own sentence, with its premise: "Where every pending at the start lies inside its region's data, the finished image, or the
  -- first refusal, equals that of all accepted lines first and a whole build after." AllFinish says more, and without the premise.
  pub record EqualsBuild (ts : List Turn) (p : Patching) : Type 0 where
    pub finished_image : (a : ℕ) → (step_outcome job labels entry (run job labels entry ts p)).answer ≡ Ok (Ended a)
        → ((build_first ts p).answer ≡ Ok a) × ((build_first ts p).regions ≡ regions_of (run job labels entry ts p))
    pub first_refusal : (r : Refusal) → (step_outcome job labels entry (run job labels entry ts p)).answer ≡ Err r → (build_first ts p).answer ≡ Err r

  abbrev pub AsRequested : Type 0
  AsRequested = (ts : List Turn) (p : Patching) → AllOfBytes ts → Start p → AllInside p → EqualsBuild ts p

-- ---- a late line: 29 comes "before 11", and so after 10

-- a line gets 11 or 12 when there is no room for it
abbrev pub is_room : Refusal → Bool
is_room r = eqb (numbered r).number 11 || eqb (numbered r).number 12

-- a late line's answer, given the answer that the line would get if it were not late
abbrev pub instead : Location → EmitAnswer → EmitAnswer
instead line (Ok done) = refused_at (LateLine line) done.position
instead line (Err refused) = refused_at (elim (is_room refused.refusal) [ true ↦ LateLine line | false ↦ refused.refusal ]) refused.position
