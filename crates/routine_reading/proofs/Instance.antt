-- The premises can be met: a routine of three lines in two regions, each line for another sort of job, and what the theorems say of its builds.
-- Assumes nothing.
use Rattle.std.specs.Prelude.{ℕ, zero, suc, ◌+◌, ◌%◌, ◌<◌, ◌≤◌, ◌≡◌, refl, List, [], ◌∷◌, ◌++◌, false, None, Ok, Option, Some}
use Rattle.std.proofs.Common.{arith, sym, ap, subst, ◌∙◌}
use Rattle.field.specs.Wrap.{wrap32}
use Rattle.jobs.specs.declared.Job.{Job}
use Rattle.jobs.specs.declared.Job.TheVariants.{Commit, Manual, Release6}
use Rattle.record.specs.Bytes.{all, same_bytes}
use Rattle.record.specs.Records.{places}
use Rattle.record.specs.Stores.{le32_bytes, record_bytes}
use Rattle.names.specs.Names.{first_later}
use Rattle.loading.specs.declared.LoadForm.TheVariants.{Nothing as Unloaded}
use Rattle.labels.specs.Labels.{label_layout, label_repeat, resolve, table_of}
use Rattle.regions.specs.Regions.{region_layout, region_count, region_place, region_at}
use Rattle.address_label.specs.Entries.{entry_layout, entry_of}
use Rattle.pending.specs.declared.InstructionLabelKind.{InstructionLabelKind}
use Rattle.pending.specs.declared.InstructionLabelKind.TheVariants.{Branch, Jump, Lower, Upper}
use Rattle.breakpoints.specs.BreakpointBytes.{pcs_bytes}
use Rattle.emit_pairs.specs.Pairs.{label_pairs, immediate_pairs}
use Rattle.emit_outcome.specs.Emit.{emit_outcome}
use Rattle.patch.specs.Patches.{plus_offset, in_range}
use Rattle.build_outcome.specs.Build.{entry_verdict, build_verdict, build_outcome}
use Rattle.example_lists.specs.Lists.{descriptor}
use Rattle.reading.specs.Reading.{image_of, readings, destinations}
use Rattle.reading.specs.OnTarget.{Going}
use Rattle.routine.specs.PatchValues.{Patch, Name, target_address, patches_from}
use Rattle.routine.specs.CallValues.{call_pairs}
use Rattle.routine.specs.Run.{filled, Buffers, RoutineLine, run, AllAccepted, none, next, Each, OfBytes, AllEmpty, routine_patches}
use Rattle.routine.proofs.Instance.{place, symbol, line, loop, la, room, line_bytes}
use Rattle.routine_reading.specs.Lines.{left_pending, region_number, LineMark, before, behind, Plain, Holds, OthersPass, Settled, OnWords}
use Rattle.routine_reading.proofs.RoutineReads.{RoutineReads, routine_reads}

-- ---- the lines; names are ASCII

abbrev end : List ℕ
end = 101 ∷ 110 ∷ 100 ∷ []

-- loop: b end
abbrev b : RoutineLine
b = line Manual 0 0x00400000 10 (98 ∷ []) [] (symbol 12 end)

-- j loop (Op 2), back in the first; end: stands behind it
abbrev j : RoutineLine
j = line Release6 0 0x00400000 30 (106 ∷ []) (descriptor 0 2 9 (106 ∷ [])) (symbol 32 loop)

-- between them la $t1,loop, in another region, for the commit
abbrev pub example : List RoutineLine
example = b ∷ la ∷ j ∷ []

abbrev pub start : Buffers
start = record { region_data = λ region. room 8; pending = room 160; breakpoints = room 56 }

-- ---- the build's lists

abbrev pub labels : List ℕ
labels = record_bytes 34 (le32_bytes 0x00400000 ++ loop) ++ record_bytes 34 (le32_bytes 0x00400008 ++ end)

-- with the data that the lines leave
abbrev pub regions : List ℕ
regions = record_bytes 35 (le32_bytes 0x00400000 ++ le32_bytes 0x10000000 ++ le32_bytes 0x08000000) ++ record_bytes 35 (le32_bytes 0x00500000 ++ le32_bytes 0x3C090000 ++ le32_bytes 0x35290000)

-- ---- the premises

example_bytes : Each OfBytes example
unfolding all
example_bytes = (line_bytes b refl refl, (line_bytes la refl refl, (line_bytes j refl refl, tt)))

example_empty : AllEmpty start
example_empty = record {
  data_empty = λ region. record { none_filled = refl; within = omega arith };
  pending_empty = record { none_filled = refl; within = omega arith };
  breakpoints_empty = record { none_filled = refl; within = omega arith };
}

abbrev pub patches : List Patch
patches =
    record { region = 0; offset = 0; location = place 10; kind = Branch; target = Name end (place 12) 0 }
    ∷ record { region = 1; offset = 0; location = place 20; kind = Upper; target = Name loop (place 25) 0 }
    ∷ record { region = 1; offset = 4; location = place 20; kind = Lower; target = Name loop (place 25) 0 }
    ∷ record { region = 0; offset = 4; location = place 30; kind = Jump; target = Name loop (place 32) 0 } ∷ []

record Computed : Type 0 where
  accepted : AllAccepted example start
  patches_come_to : routine_patches example start ≡ patches
  first_data : filled ((run example start).region_data 0) ≡ le32_bytes 0x10000000 ++ le32_bytes 0x08000000
  second_data : filled ((run example start).region_data 1) ≡ le32_bytes 0x3C090000 ++ le32_bytes 0x35290000
  first_fill : ((run example start).region_data 0).fill ≡ 8
  second_fill : ((run example start).region_data 1).fill ≡ 8
  end_mark : LineMark 0 example start 8
  loop_mark : LineMark 0 example start 0

computed : Computed
unfolding run routine_patches patches_from call_pairs emit_outcome pcs_bytes label_pairs immediate_pairs first_later
computed = record {
  accepted = next 1 Unloaded refl (next 3 Unloaded refl (next 1 Unloaded refl none));
  patches_come_to = refl;
  first_data = refl;
  second_data = refl;
  first_fill = refl;
  second_fill = refl;
  end_mark = behind (behind (behind before));
  loop_mark = before;
}

-- ---- the build's own lists, by computation

record Lists : Type 0 where
  labels_good : label_layout labels ≡ None
  names_good : label_repeat labels ≡ None
  entry_good : entry_layout [] ≡ None
  entry_passes : entry_verdict (table_of labels) [] (entry_of [] (places [])) ≡ Ok tt
  regions_good : region_layout regions ≡ None
  two_regions : region_count regions ≡ 2
  first_address : (region_at regions (region_place regions 0)).address ≡ 0x00400000
  second_address : (region_at regions (region_place regions 1)).address ≡ 0x00500000
  first_size : (region_at regions (region_place regions 0)).size ≡ 8
  second_size : (region_at regions (region_place regions 1)).size ≡ 8
  loop_at : resolve labels 1 loop ≡ Some 0x00400000
  end_at : resolve labels 1 end ≡ Some 0x00400008

lists : Lists
unfolding label_layout resolve first_later entry_layout region_layout same_bytes
lists = record {
  labels_good = refl;
  names_good = refl;
  entry_good = refl;
  entry_passes = refl;
  regions_good = refl;
  two_regions = refl;
  first_address = refl;
  second_address = refl;
  first_size = refl;
  second_size = refl;
  loop_at = refl;
  end_at = refl;
}

-- A claim on regions 0 and 1 holds for every region.
of_both : (P : ℕ → Type 0) → P 0 → P 1 → (r : ℕ) → r < region_count regions → P r
of_both P p q zero h = p
of_both P p q (suc zero) h = q
of_both P p q (suc (suc r)) h = absurd (omega (arith, h, lists.two_regions))

abbrev pub pending : List ℕ
pending = left_pending example start

holds : Holds example start regions
holds = record {
  regions_good = lists.regions_good;
  selected = (omega (arith, lists.two_regions), (omega (arith, lists.two_regions), (omega (arith, lists.two_regions), tt)));
  data_kept =
      of_both (λ (r : ℕ). ((run example start).region_data r).fill ≤ (region_number regions r).size)
      (omega (arith, computed.first_fill, lists.first_size)) (omega (arith, computed.second_fill, lists.second_size));
}

others : OthersPass (table_of labels) []
others = record { labels_good = lists.labels_good; names_good = lists.names_good; entry_good = lists.entry_good; entry_passes = lists.entry_passes }

on_words : OnWords regions
on_words = of_both (λ (r : ℕ). (region_number regions r).address % 4 ≡ 0) (omega (arith, lists.first_address)) (omega (arith, lists.second_address))

plain : (kind : InstructionLabelKind) → Plain kind (region_number regions 0)
plain kind = record { below = omega (arith, lists.first_address, lists.first_size); page = λ e. omega (arith, lists.first_address, lists.first_size) }

-- A branch or a jump in the first region to a label there.
to_label : (y : Patch) → y.region ≡ 0 → Going y.kind → (name : List ℕ) (n mark : ℕ) → y.target ≡ Name name (place n) 0 → LineMark 0 example start mark
    → resolve labels 1 name ≡ Some (0x00400000 + mark) → Settled example start (table_of labels) regions y
to_label y r g name n mark t m e = record {
  half_known = λ k. absurd (k g);
  to_line = λ k. record {
    name = name;
    location = place n;
    waits_for = t;
    region = 0;
    mark = mark;
    marked = m;
    address_is = e ∙ ap (λ (a : ℕ). Some (a + mark)) (sym lists.first_address);
  };
  in_own = λ k. sym r;
  plain = λ k. subst (λ (x : ℕ). Plain y.kind (region_number regions x)) (sym r) (plain y.kind);
}

half : (y : Patch) → (Going y.kind → ⊥) → (n : ℕ) → y.target ≡ Name loop (place n) 0 → Settled example start (table_of labels) regions y
half y h n t = record {
  half_known = λ k. (wrap32 (0x00400000 + 0), ap (target_address (table_of labels)) t ∙ ap (λ (x : Option ℕ). plus_offset x 0) lists.loop_at);
  to_line = λ k. absurd (h k);
  in_own = λ k. absurd (h k);
  plain = λ k. absurd (h k);
}

settled : Each (Settled example start (table_of labels) regions) (routine_patches example start)
settled =
    subst (Each (Settled example start (table_of labels) regions)) (sym computed.patches_come_to) (
      to_label _ refl tt end 12 8 refl computed.end_mark lists.end_at,
      (half _ (λ g. g) 25 refl, (half _ (λ g. g) 25 refl, (to_label _ refl tt loop 32 0 refl computed.loop_mark lists.loop_at, tt))),
    )

-- ---- why the edge of a region matters: the last word of memory, or of a page, reaches no line of its region

pub edge_refused : (job : Job) → in_range job Branch 0xFFFFFFFC 0xFFFFFFFC ≡ false
unfolding in_range
edge_refused Commit = refl
edge_refused Manual = refl
edge_refused Release6 = refl

pub page_refused : (job : Job) → in_range job Jump 0x0FFFFFFC 0x0FFFFFFC ≡ false
unfolding in_range
page_refused job = refl

-- ---- what the theorem says: each sort of job takes the build, and the words read back

pub example_reads_back : RoutineReads example start
example_reads_back = routine_reads example start example_empty example_bytes computed.accepted

pub example_accepted : (job : Job) → build_verdict job (table_of labels) [] regions pending ≡ Ok tt
example_accepted job = (example_reads_back.every_job (table_of labels) [] regions holds others on_words settled job).0

come_to : destinations (table_of labels) pending ≡ Some 0x00400008 ∷ Some 0x00400000 ∷ Some 0x00400000 ∷ Some 0x00400000 ∷ []
unfolding destinations run emit_outcome pcs_bytes label_pairs immediate_pairs call_pairs resolve first_later same_bytes
come_to = refl

-- b end goes behind the last line; both halves of la, and j loop, go to the first line.
pub example_reads : (job : Job)
    → readings (image_of (build_outcome job (table_of labels) [] regions pending).regions) pending
    ≡ Some 0x00400008 ∷ Some 0x00400000 ∷ Some 0x00400000 ∷ Some 0x00400000 ∷ []
example_reads job = (example_reads_back.every_job (table_of labels) [] regions holds others on_words settled job).1 ∙ come_to
