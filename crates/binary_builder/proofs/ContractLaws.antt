-- The entry's part of the answer, and a whole build's answer for each of its verdicts. Assumes nothing.
use Rattle.std.specs.Prelude.{ℕ, ◌+◌, ◌≤◌, List, [], ◌∷◌, ◌≡◌, refl, length, Err, None, Ok, Option, Result, Some}
use Rattle.std.proofs.Common.{arith, sym, ap, ◌∙◌}
use Rattle.jobs.specs.declared.Job.{Job}
use Rattle.record.specs.Records.{next, places, first_bad}
use Rattle.record.proofs.RecordsLaws.{first_good}
use Rattle.refusal.specs.Verdicts.{and_then, first_stop, name_verdict, Verdict}
use Rattle.refusal.specs.declared.Refusal.{Refusal}
use Rattle.refusal.specs.declared.Refusal.TheVariants.{UnknownEntry}
use Rattle.labels.specs.Labels.{label_repeat, Table, table_of}
use Rattle.address_label.specs.declared.AddressLabel.{AddressLabel}
use Rattle.address_label.specs.AddressLabels.{address_label_at}
use Rattle.address_label.specs.Entries.{entry_ok, entry_layout, entry_of}
use Rattle.address_label.proofs.EntriesLaws.{entry_is, entry_good}
use Rattle.patch.specs.Patches.{destination, name_end, name_location, address_or}
use Rattle.build_outcome.specs.Build.{patch_order, patch_verdict, reach_entry, entry_verdict, entry_address, layout_verdicts, build_verdict, patched_regions, build_outcome}
use Rattle.build_outcome.specs.Returned.{returned}
use Rattle.build_outcome.proofs.BuildLaws.{outcome_accepted, outcome_refused}
use Rattle.reading.specs.Reading.{image_of, readings}
use Rattle.reading.proofs.Demand.{reads_back}
use Rattle.binary_builder.specs.Contract.{BuildBy}
use Rattle.binary_builder.specs.Steps.{reached_entry, entry_answer}
use Rattle.binary_builder.proofs.OrderLaws.{label_end}

-- ---- the entry
-- a stated name ends within the list
pub entry_name : (s : List ℕ) (l : AddressLabel) → entry_layout s ≡ None → entry_of s (places s) ≡ Some l → name_end l ≤ length s
entry_name s l g e = go (places s) (entry_good s g).1 e
  where
    go : (ps : List ℕ) → first_bad (entry_ok s) ps ≡ None → entry_of s ps ≡ Some l → name_end l ≤ length s
    go [] f q = let z : ◌≡◌ {A = ℕ} 0 1 = cc in absurd (omega arith)
    go (p ∷ ps) f q =
        let i = entry_is s p (first_good (entry_ok s) p ps f).0 in
        let k : address_label_at s (p + 4) (next s p) ≡ l = cc in
        rw k at (label_end s (p + 4) (next s p) (omega arith) i.body)

module _ (labels : Table) (entry : List ℕ) where
  reached_known : (l : AddressLabel) (x : Option ℕ) (a : ℕ) → reached_entry l x ≡ Ok a → (reach_entry l x ≡ Ok tt) × (address_or 0 x ≡ a)
  reached_known l (Some y) a e = (refl, cc)
  reached_known l None a e = let z : ◌≡◌ {A = ℕ} 0 1 = cc in absurd (omega arith)

  reached_unknown : (l : AddressLabel) (x : Option ℕ) (r : Refusal) → reached_entry l x ≡ Err r → reach_entry l x ≡ Err r
  reached_unknown l (Some y) r e = cc
  reached_unknown l None r e = let h : UnknownEntry (name_location l) ≡ r = cc in ap Err h

  pub entry_passes : (e : Option AddressLabel) (a : ℕ) → entry_answer labels entry e ≡ Ok a → (entry_verdict labels entry e ≡ Ok tt) × (entry_address labels entry e ≡ a)
  entry_passes None a h = (refl, cc)
  entry_passes (Some l) a h = reached_known l (destination labels entry l) a h

  pub entry_stops : (e : Option AddressLabel) (r : Refusal) → entry_answer labels entry e ≡ Err r → entry_verdict labels entry e ≡ Err r
  entry_stops None r h = cc
  entry_stops (Some l) r h = reached_unknown l (destination labels entry l) r h

-- ---- the build
module _ (job : Job) (labels entry regions pending : List ℕ) where
  pub verdict_is : (a b c d : Verdict) → layout_verdicts (table_of labels) entry regions pending ≡ a → name_verdict 0 (label_repeat labels) ≡ b
      → entry_verdict (table_of labels) entry (entry_of entry (places entry)) ≡ c
      → first_stop (patch_verdict job (table_of labels) regions pending) (patch_order regions pending) ≡ d
      → build_verdict job (table_of labels) entry regions pending ≡ and_then a (and_then b (and_then c d))
  unfolding build_verdict
  verdict_is a b c d ha hb hc hd = rw (ha, hb, hc, hd)

  build_is : (answer : Result ℕ Refusal) (exit : List ℕ) → answer ≡ (build_outcome job (table_of labels) entry regions pending).answer → exit ≡ (build_outcome job (table_of labels) entry regions pending).regions
      → BuildBy job labels entry regions pending answer exit
  build_is answer exit a b =
      record {
        answer_is = a;
        returned_is = ap returned a;
        bytes_are = b;
        reads_back = λ pr. ap (λ (r : List ℕ). readings (image_of r) pending) b ∙ reads_back job (table_of labels) entry regions pending pr;
      }

  pub refused_is : (r : Refusal) → build_verdict job (table_of labels) entry regions pending ≡ Err r → BuildBy job labels entry regions pending (Err r) regions
  refused_is r e =
      let o = outcome_refused job (table_of labels) entry regions pending r e in
      build_is (Err r) regions (sym o.0) (sym o.1)

  pub accepted_is : (a : ℕ) (exit : List ℕ) → build_verdict job (table_of labels) entry regions pending ≡ Ok tt → entry_address (table_of labels) entry (entry_of entry (places entry)) ≡ a
      → exit ≡ patched_regions (table_of labels) regions pending → BuildBy job labels entry regions pending (Ok a) exit
  accepted_is a exit e h k =
      let o = outcome_accepted job (table_of labels) entry regions pending e in
      build_is (Ok a) exit (cc) (k ∙ sym o.1)
