-- A branch or a jump that reads back as its destination is on target. Assumes nothing.
use Rattle.std.specs.Prelude.{ℕ, ◌+◌, ◌-◌, ◌*◌, ◌/◌, ◌%◌, ◌^◌, ◌<◌, ◌≤◌, refl, List, Bool, false, leb, ltb, Ok}
use Rattle.std.proofs.Common.{arith, sym, ap, ◌∙◌, leb-true, ltb-true, ltb-false}
use Rattle.std.proofs.Math.Path.{◌≡◌, ap₂}
use Rattle.std.proofs.Math.Bool.{true, and-eq-true_iff}
use Rattle.field.specs.Wrap.{wrap32}
use Rattle.jobs.specs.declared.Job.{Job}
use Rattle.jobs.specs.Jobs.{by_manual, most_back, most_ahead}
use Rattle.labels.specs.Labels.{Table}
use Rattle.pending.specs.declared.InstructionLabelKind.{InstructionLabelKind}
use Rattle.pending.specs.declared.InstructionLabelKind.TheVariants.{Branch, Jump, Lower, Upper, Full}
use Rattle.pending.specs.Pendings.{pending_at}
use Rattle.patch.specs.Patches.{after, distance_bits, field_width, field_value, branch_in_range, in_range}
use Rattle.build_outcome.specs.Build.{patched_regions, build_verdict}
use Rattle.finished_words.specs.Listed.{In, Apart, destination_at, pc_at}
use Rattle.finished_words.proofs.AcceptedLaws.{dest_lt, in_range_lem}
use Rattle.reading.specs.Reading.{image_of, signed_bytes, read_by}
use Rattle.reading.specs.OnTarget.{Going, OnTarget}
use Rattle.reading.proofs.ReadBackLaws.{pc_at_lem, field_at}

-- ---- numbers

-- How far a branch may go in a build of any job.
pub taken : (job : Job) (pc dest : ℕ) → in_range job Branch pc dest ≡ true → (after pc / 4 ≤ dest / 4 + 0x10000) × (dest / 4 ≤ after pc / 4 + 0xFFFF)
unfolding in_range branch_in_range
taken job pc dest e =
    let b = (and-eq-true_iff (leb (after pc / 4) (dest / 4 + most_back job)) (leb (dest / 4) (after pc / 4 + most_ahead job))).0 e in
    go (by_manual job) (leb-true (after pc / 4) (dest / 4 + most_back job) b.0) (leb-true (dest / 4) (after pc / 4 + most_ahead job) b.1)
  where
    go : (m : Bool) → after pc / 4 ≤ dest / 4 + (elim m [ true ↦ 32768 | false ↦ 0x10000 ]) → dest / 4 ≤ after pc / 4 + (elim m [ true ↦ 32767 | false ↦ 0xFFFF ])
        → (after pc / 4 ≤ dest / 4 + 0x10000) × (dest / 4 ≤ after pc / 4 + 0xFFFF)
    go true x y = (omega arith, omega arith)
    go false x y = (omega arith, omega arith)

-- A field of 32,768 or more reads as a backward distance.
back_near : (a n dest : ℕ) → a < 2 ^ 30 → 32768 ≤ n → n < 65536 → (4 * a + (4 * n + (2 ^ 32 - 4 * 65536))) % 2 ^ 32 ≡ dest → dest / 4 ≤ a + 0xFFFF
    → (a ≤ dest / 4 + 32768) × (dest / 4 ≤ a + 32767)
back_near a n dest ha low high e ahead = (omega arith, omega arith)

-- If a branch's field leads to its destination, the destination is a near multiple of four.
branch_only : (pc dest : ℕ) → pc % 4 ≡ 0 → dest < 2 ^ 32 → after pc / 4 ≤ dest / 4 + 0x10000 → dest / 4 ≤ after pc / 4 + 0xFFFF
    → wrap32 (after pc + signed_bytes (distance_bits pc dest)) ≡ dest
    → (dest % 4 ≡ 0) × (after pc / 4 ≤ dest / 4 + 32768) × (dest / 4 ≤ after pc / 4 + 32767)
unfolding signed_bytes
branch_only pc dest hp hl back ahead e = go (ltb (distance_bits pc dest) 32768) refl e
  where
    go : (b : Bool) → ltb (distance_bits pc dest) 32768 ≡ b
        → wrap32 (after pc + (elim b [ true ↦ 4 * distance_bits pc dest | false ↦ 4 * distance_bits pc dest + (2 ^ 32 - 4 * 65536) ])) ≡ dest
        → (dest % 4 ≡ 0) × (after pc / 4 ≤ dest / 4 + 32768) × (dest / 4 ≤ after pc / 4 + 32767)
    go true t f =
        let n = ltb-true (distance_bits pc dest) 32768 t in
        (omega arith, omega arith, omega arith)
    go false t f =
        let low : 32768 ≤ distance_bits pc dest = ltb-false (distance_bits pc dest) 32768 t in
        let high : distance_bits pc dest < 65536 = omega arith in
        let four : after pc ≡ 4 * (after pc / 4) = omega arith in
        let small : after pc / 4 < 2 ^ 30 = omega arith in
        let g : (4 * (after pc / 4) + (4 * distance_bits pc dest + (2 ^ 32 - 4 * 65536))) % 2 ^ 32 ≡ dest = ap (λ (x : ℕ). (x + (4 * distance_bits pc dest + (2 ^ 32 - 4 * 65536))) % 2 ^ 32) (sym four) ∙ f in
        let near = back_near (after pc / 4) (distance_bits pc dest) dest small low high g ahead in
        (omega arith, near.0, near.1)

jump_only : (pc dest x : ℕ) → after pc / 2 ^ 28 * 2 ^ 28 + x * 4 ≡ dest → dest % 4 ≡ 0
jump_only pc dest x e = omega arith

-- ---- one patch

module _ (job : Job) (labels : Table) (entry regions pending : List ℕ) (pass : build_verdict job labels entry regions pending ≡ Ok tt) (apart : Apart pending) where
  branch_on : (p : ℕ) → In pending p → pc_at regions pending p % 4 ≡ 0 → (pending_at pending p).kind ≡ Branch
      → read_by Branch (image_of (patched_regions labels regions pending)) (pending_at pending p) ≡ destination_at labels pending p → OnTarget job labels regions pending p
  unfolding read_by field_width field_value
  branch_on p m a e h =
      let r : in_range job Branch (pc_at regions pending p) (destination_at labels pending p) ≡ true = rw e at (in_range_lem job labels entry regions pending pass p m) in
      let t = taken job (pc_at regions pending p) (destination_at labels pending p) r in
      let q = ap₂ (λ (pc n : ℕ). wrap32 (after pc + signed_bytes n)) (pc_at_lem job labels entry regions pending pass apart p m) (field_at job labels entry regions pending pass apart Branch p m e) in
      let o = branch_only (pc_at regions pending p) (destination_at labels pending p) a (dest_lt job labels entry regions pending pass p m) t.0 t.1 (sym q ∙ h) in
      record { on_word_lem = o.0; near = λ c k. (o.1, o.2) }

  jump_on : (p : ℕ) → In pending p → (pending_at pending p).kind ≡ Jump
      → read_by Jump (image_of (patched_regions labels regions pending)) (pending_at pending p) ≡ destination_at labels pending p → OnTarget job labels regions pending p
  unfolding read_by field_width field_value
  jump_on p m e h =
      let q = ap₂ (λ (pc n : ℕ). after pc / 2 ^ 28 * 2 ^ 28 + n * 4) (pc_at_lem job labels entry regions pending pass apart p m) (field_at job labels entry regions pending pass apart Jump p m e) in
      record {
        on_word_lem = jump_only (pc_at regions pending p) (destination_at labels pending p) _ (sym q ∙ h);
        near = λ c k. let z : ◌≡◌ {A = ℕ} 0 1 = cc in absurd (omega arith);
      }

  pub reading_on : (kind : InstructionLabelKind) (p : ℕ) → In pending p → pc_at regions pending p % 4 ≡ 0 → (pending_at pending p).kind ≡ kind → Going kind
      → read_by kind (image_of (patched_regions labels regions pending)) (pending_at pending p) ≡ destination_at labels pending p → OnTarget job labels regions pending p
  reading_on Branch p m a e g h = branch_on p m a e h
  reading_on Jump p m a e g h = jump_on p m e h
  reading_on Lower p m a e g h = absurd g
  reading_on Upper p m a e g h = absurd g
  reading_on Full p m a e g h = absurd g
