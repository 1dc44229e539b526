-- Labels mean lines: what a branch or a jump to a line's label reads as, and that no build refuses it. Assumes nothing.
use Rattle.std.specs.Prelude.{ℕ, ◌+◌, ◌%◌, ◌^◌, ◌<◌, ◌≤◌, ◌≡◌, refl, List, true, None, Ok, Option, Some}
use Rattle.std.proofs.Common.{arith, sym, ap, subst, ◌∙◌}
use Rattle.field.specs.Wrap.{wrap32}
use Rattle.jobs.specs.declared.Job.{Job}
use Rattle.jobs.specs.declared.Job.TheVariants.{Commit}
use Rattle.record.specs.Records.{places}
use Rattle.record.proofs.OneMoreLaws.{good_each}
use Rattle.labels.specs.Labels.{Table}
use Rattle.regions.specs.Regions.{region_count}
use Rattle.pending.specs.Pendings.{pending_ok, pending_layout, pending_at}
use Rattle.pending.proofs.PendingsLaws.{pending_good, pending_region}
use Rattle.pending.specs.declared.InstructionLabelKind.{InstructionLabelKind}
use Rattle.pending.specs.declared.InstructionLabelKind.TheVariants.{Branch, Jump, Lower, Upper, Full}
use Rattle.patch.specs.Patches.{plus_offset, destination, address_or, in_range}
use Rattle.patch.proofs.PatchesLaws.{verdict_is, passes}
use Rattle.build_outcome.specs.Build.{patch_verdict, patch_order, build_verdict}
use Rattle.build_outcome.proofs.BuildLaws.{all_pass, ordered_in, accepted_is, is_accepted}
use Rattle.finished_words.specs.Listed.{In, destination_at}
use Rattle.finished_words.proofs.AcceptedLaws.{has_region, reaches, dest_lt, in_range_lem}
use Rattle.reading.specs.Premises.{Near}
use Rattle.reading.specs.OnTarget.{Going, OnTarget}
use Rattle.routine.specs.PatchValues.{patch_at, target_address}
use Rattle.routine.proofs.PatchValuesLaws.{destination_is}
use Rattle.routine.specs.Run.{Buffers, RoutineLine, run, AllAccepted, Each, OfBytes, AllEmpty, routine_patches}
use Rattle.routine.proofs.RoutineFits.{routine_fits}
use Rattle.routine_reading.specs.Lines.{left_pending, region_number, ToLine, Holds, OthersPass, Settled, OnWords}
use Rattle.routine_reading.proofs.StaysLaws.{Stays, region_short, stays_near, stays_taken, half_taken}
use Rattle.routine_reading.proofs.LeftLaws.{Marked, of_patches, inside, marked}

module _ (lines : List RoutineLine) (start : Buffers) (empty : AllEmpty start) (bytes : Each OfBytes lines) (accepted : AllAccepted lines start) where
  abbrev pending : List ℕ
  pending = left_pending lines start

  -- ---- a branch or a jump to a label

  module _ (labels : Table) (regions : List ℕ) (p : ℕ) (t : ToLine lines start labels regions (patch_at pending p)) where
    abbrev label_address : ℕ
    label_address = (region_number regions t.region).address + t.mark

    at_mark : Marked t.mark ((run lines start).region_data t.region).fill
    at_mark = marked lines start empty bytes accepted t.region t.mark t.marked

    -- If the label's address is below 2^32, it is the destination.
    pub to_label : label_address < 2 ^ 32 → destination labels pending (pending_at pending p).label ≡ Some label_address
    to_label small =
        let z : wrap32 (label_address + 0) ≡ label_address = omega (arith, small) in
        destination_is labels pending (pending_at pending p).label ∙ ap (target_address labels) t.waits_for ∙ ap (λ (x : Option ℕ). plus_offset x 0) t.address_is ∙ ap Some z

    own_stays : t.region ≡ (pending_at pending p).region
        → ((run lines start).region_data (pending_at pending p).region).fill ≤ (region_number regions (pending_at pending p).region).size
        → Stays (region_number regions (pending_at pending p).region) label_address
    own_stays own kept = subst (λ (r : ℕ). ((run lines start).region_data r).fill ≤ (region_number regions r).size → Stays (region_number regions r) label_address) own (λ k. record { from = omega arith; to = omega (arith, k, at_mark.within) }) kept

    -- it is on target in every accepted build
    pub label_on : (job : Job) (entry : List ℕ) → build_verdict job labels entry regions pending ≡ Ok tt → In pending p
        → label_address < 2 ^ 32 → (region_number regions t.region).address % 4 ≡ 0
        → (job ≡ Commit → (pending_at pending p).kind ≡ Branch → t.region ≡ (pending_at pending p).region)
        → ((run lines start).region_data (pending_at pending p).region).fill ≤ (region_number regions (pending_at pending p).region).size
        → OnTarget job labels regions pending p
    label_on job entry pass m small word own kept = record { on_word_lem = omega (arith, d, word, at_mark.on_word_lem); near = near }
      where
        d : destination_at labels pending p ≡ label_address
        d = ap (address_or 0) (to_label small)

        near : job ≡ Commit → (pending_at pending p).kind ≡ Branch → Near labels regions pending p
        near c e =
            let r : in_range job Branch (wrap32 ((region_number regions (pending_at pending p).region).address + (pending_at pending p).offset)) (destination_at labels pending p) ≡ true =
            rw e at (in_range_lem job labels entry regions pending pass p m) in
            stays_near job (region_number regions (pending_at pending p).region) (pending_at pending p).offset (destination_at labels pending p) (reaches job labels entry regions pending pass p m).inside
            (subst (Stays (region_number regions (pending_at pending p).region)) (sym d) (own_stays (own c e) kept))
            (region_short regions (pending_at pending p).region (accepted_is job labels entry regions pending pass).regions_good (has_region job labels entry regions pending pass p m))
            (dest_lt job labels entry regions pending pass p m) r

  -- ---- no refusal

  module _ (regions : List ℕ) (holds : Holds lines start regions) where
    taken : pending_layout (region_count regions) pending ≡ None
    taken = (routine_fits lines start empty bytes accepted).build_takes (region_count regions) holds.selected

    pub numbered : (p : ℕ) → In pending p → (pending_at pending p).region < region_count regions
    numbered p m =
        pending_region (region_count regions) pending p
        (good_each (pending_ok (region_count regions) pending) (places pending) (pending_good (region_count regions) pending taken).1 p m)

    -- Not refused with 14.
    pub ends_inside : (p : ℕ) → In pending p → (pending_at pending p).offset + 4 ≤ (region_number regions (pending_at pending p).region).size
    ends_inside p m = omega (arith, inside lines start empty bytes accepted p m, holds.data_kept (pending_at pending p).region (numbered p m))

    module _ (labels : Table) (job : Job) where
      reached : (p : ℕ) → In pending p → (d : ℕ) → destination labels pending (pending_at pending p).label ≡ Some d
          → in_range job (pending_at pending p).kind (wrap32 ((region_number regions (pending_at pending p).region).address + (pending_at pending p).offset)) d ≡ true
          → patch_verdict job labels regions pending p ≡ Ok tt
      reached p m d e r =
          verdict_is job labels pending (region_number regions (pending_at pending p).region) (pending_at pending p) (Some d) e
          ∙ passes job (region_number regions (pending_at pending p).region) (pending_at pending p) d (ends_inside p m) r

      -- Nor with 15 or 16.
      pub settled_passes : (p : ℕ) → In pending p → Settled lines start labels regions (patch_at pending p) → patch_verdict job labels regions pending p ≡ Ok tt
      settled_passes p m s = go (pending_at pending p).kind refl
        where
          goes : Going (pending_at pending p).kind → patch_verdict job labels regions pending p ≡ Ok tt
          goes g =
              let t = s.to_line g in
              let plain = s.plain g in
              let kept = holds.data_kept (pending_at pending p).region (numbered p m) in
              let stays = own_stays labels regions p t (s.in_own g) kept in
              reached p m (label_address labels regions p t) (to_label labels regions p t (omega (arith, stays.to, plain.below)))
              (stays_taken job (region_number regions (pending_at pending p).region) (pending_at pending p).offset (label_address labels regions p t) (ends_inside p m) stays
              (pending_at pending p).kind g (region_short regions (pending_at pending p).region holds.regions_good (numbered p m)) plain)

          waits : (Going (pending_at pending p).kind → ⊥) → patch_verdict job labels regions pending p ≡ Ok tt
          waits n =
              let k = s.half_known n in
              reached p m k.0 (destination_is labels pending (pending_at pending p).label ∙ k.1) (half_taken job (pending_at pending p).kind _ k.0 n)

          go : (k : InstructionLabelKind) → (pending_at pending p).kind ≡ k → patch_verdict job labels regions pending p ≡ Ok tt
          go Branch e = goes (subst Going (sym e) tt)
          go Jump e = goes (subst Going (sym e) tt)
          go Lower e = waits (λ g. subst Going e g)
          go Upper e = waits (λ g. subst Going e g)
          go Full e = waits (λ g. subst Going e g)

      pub settled_accepted : (entry : List ℕ) → OthersPass labels entry → Each (Settled lines start labels regions) (routine_patches lines start) → build_verdict job labels entry regions pending ≡ Ok tt
      settled_accepted entry others all =
          is_accepted job labels entry regions pending (record {
            labels_good = others.labels_good;
            entry_good = others.entry_good;
            regions_good = holds.regions_good;
            pending_good = taken;
            names_good = others.names_good;
            entry_passes = others.entry_passes;
            patches_pass =
                all_pass (patch_verdict job labels regions pending) (patch_order regions pending)
                (λ p m. let k = ordered_in regions pending p m in settled_passes p k (of_patches lines start empty bytes accepted (Settled lines start labels regions) all p k));
          })

      -- so each of its branches and jumps is on target
      pub settled_on : (entry : List ℕ) → build_verdict job labels entry regions pending ≡ Ok tt → OnWords regions → Each (Settled lines start labels regions) (routine_patches lines start)
          → (p : ℕ) → In pending p → Going (pending_at pending p).kind → OnTarget job labels regions pending p
      settled_on entry pass words all p m g =
          let s = of_patches lines start empty bytes accepted (Settled lines start labels regions) all p m in
          let t = s.to_line g in
          let own = s.in_own g in
          let kept = holds.data_kept (pending_at pending p).region (numbered p m) in
          let stays = own_stays labels regions p t own kept in
          label_on labels regions p t job entry pass m (omega (arith, stays.to, (s.plain g).below))
          (subst (λ (r : ℕ). (region_number regions r).address % 4 ≡ 0) (sym own) (words (pending_at pending p).region (numbered p m))) (λ c e. own) kept
