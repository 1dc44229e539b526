-- A branch or a jump to an address of its own region, or to the region's end: the branch is near, and a build of any job takes both if the region
-- is plain. Assumes nothing.
use Prim.Native.Nat.{ℕ, ◌+◌, ◌/◌, ◌^◌, ◌<◌, ◌≤◌}
use Rattle.std.proofs.Common.{arith}
use Rattle.std.specs.Prelude.{◌≡◌, refl, List, Bool, true, false, leb, None}
use Rattle.std.proofs.Math.Bool.{and-eq-true_iff}
use borrow.Author.Tests.{le-leb, eq-eqb}
use Rattle.field.specs.Wrap.{wrap32}
use Rattle.jobs.specs.declared.Job.{Job}
use Rattle.jobs.specs.Jobs.{by_manual, most_back, most_ahead}
use Rattle.regions.specs.declared.Region.{Region}
use Rattle.regions.specs.Regions.{region_layout, region_count, region_place}
use Rattle.regions.proofs.RegionsLaws.{region_is, region_place_ok, region_good}
use Rattle.pending.specs.declared.InstructionLabelKind.{InstructionLabelKind}
use Rattle.pending.specs.declared.InstructionLabelKind.TheVariants.{Branch, Jump, Lower, Upper, Full}
use Rattle.patch.specs.Patches.{after, branch_in_range, jump_in_range, in_range}
use Rattle.reading.specs.OnTarget.{Going}
use Rattle.reading.proofs.ExactlyLaws.{taken}
use Rattle.routine_reading.specs.Lines.{region_number, Plain}

-- the destination is one of the region's addresses, or its end
pub record Stays (region : Region) (dest : ℕ) : Type 0 where
  pub from : region.address ≤ dest
  pub to : dest ≤ region.address + region.size

-- "A lent buffer is at most 65,536 bytes": a region has at most 65,528 bytes of data
pub region_short : (regions : List ℕ) (n : ℕ) → region_layout regions ≡ None → n < region_count regions → (region_number regions n).size ≤ 65528
region_short regions n g h =
    let r = region_is regions (region_place regions n) (region_place_ok regions n g h) in
    omega (arith, r.body, r.least, (region_good regions g).0)

module _ (job : Job) (region : Region) (offset dest : ℕ) (inside : offset + 4 ≤ region.size) (stays : Stays region dest) where
  -- A branch that a build took is near: one that would wrap at 2^32 is refused.
  pub stays_near : region.size ≤ 65528 → dest < 2 ^ 32 → in_range job Branch (wrap32 (region.address + offset)) dest ≡ true
      → (after (wrap32 (region.address + offset)) / 4 ≤ dest / 4 + 32768) × (dest / 4 ≤ after (wrap32 (region.address + offset)) / 4 + 32767)
  stays_near short small e =
      let t = taken job (wrap32 (region.address + offset)) dest e in
      (omega (arith, stays.from, stays.to, t.0, t.1), omega (arith, stays.from, stays.to, t.0, t.1))

  branch_taken : region.size ≤ 65528 → Plain Branch region → in_range job Branch (wrap32 (region.address + offset)) dest ≡ true
  unfolding in_range branch_in_range
  branch_taken short plain =
      (and-eq-true_iff (leb (after pc / 4) (dest / 4 + most_back job)) (leb (dest / 4) (after pc / 4 + most_ahead job))).1 (go (by_manual job))
    where
      pc : ℕ
      pc = wrap32 (region.address + offset)

      back : after pc / 4 ≤ dest / 4 + 32768
      back = omega (arith, stays.from, stays.to, plain.below)

      ahead : dest / 4 ≤ after pc / 4 + 32767
      ahead = omega (arith, stays.from, stays.to, plain.below)

      go : (m : Bool) → (leb (after pc / 4) (dest / 4 + (elim m [ true ↦ 32768 | false ↦ 0x10000 ])) ≡ true) × (leb (dest / 4) (after pc / 4 + (elim m [ true ↦ 32767 | false ↦ 0xFFFF ])) ≡ true)
      go true = (le-leb (after pc / 4) (dest / 4 + 32768) back, le-leb (dest / 4) (after pc / 4 + 32767) ahead)
      go false = (le-leb (after pc / 4) (dest / 4 + 0x10000) (omega (arith, back)), le-leb (dest / 4) (after pc / 4 + 0xFFFF) (omega (arith, ahead)))

  jump_taken : Plain Jump region → in_range job Jump (wrap32 (region.address + offset)) dest ≡ true
  unfolding in_range jump_in_range
  jump_taken plain =
      eq-eqb (dest / 2 ^ 28) (after (wrap32 (region.address + offset)) / 2 ^ 28) (omega (arith, stays.from, stays.to, plain.below, plain.page refl))

  -- A branch or a jump that stays in its region is in range, in every job.
  pub stays_taken : (kind : InstructionLabelKind) → Going kind → region.size ≤ 65528 → Plain kind region → in_range job kind (wrap32 (region.address + offset)) dest ≡ true
  stays_taken Branch g short plain = branch_taken short plain
  stays_taken Jump g short plain = jump_taken plain
  stays_taken Lower g short plain = absurd g
  stays_taken Upper g short plain = absurd g
  stays_taken Full g short plain = absurd g

-- A half is always in range.
pub half_taken : (job : Job) (kind : InstructionLabelKind) (pc dest : ℕ) → (Going kind → ⊥) → in_range job kind pc dest ≡ true
unfolding in_range
half_taken job Branch pc dest n = absurd (n tt)
half_taken job Jump pc dest n = absurd (n tt)
half_taken job Lower pc dest n = refl
half_taken job Upper pc dest n = refl
half_taken job Full pc dest n = refl
