-- Two scripts computed: two regions, overlapping patches, a line between the steps. The first is refused and puts all back; the second ends.
-- Assumes nothing.
use Rattle.std.specs.Prelude.{ℕ, ◌≡◌, refl, List, [], ◌∷◌, ◌++◌, Err, Ok}
use Rattle.field.specs.Field.{set_field}
use Rattle.jobs.specs.declared.Job.TheVariants.{Commit}
use Rattle.record.specs.Bytes.{all, same_bytes}
use Rattle.record.specs.Records.{places_f, places_from, places, first_bad, first_bad_of, within_limit}
use Rattle.record.specs.Stores.{le16_bytes, le32_bytes, le64_bytes, location_bytes, record_bytes, append}
use Rattle.record.specs.declared.Location.{Location}
use Rattle.refusal.specs.Verdicts.{first_stop}
use Rattle.refusal.specs.declared.Refusal.TheVariants.{PatchPastEnd, LateLine}
use Rattle.names.specs.Names.{first_where, first_later}
use Rattle.loading.specs.declared.LoadForm.TheVariants.{Nothing as Unloaded}
use Rattle.loading.specs.Load.{is_small, form_of, load_words}
use Rattle.lexer.specs.Tokens.{payload_of, payload_ok, token_ok, token_layout, tokens}
use Rattle.labels.specs.Labels.{table_of, Table, label_ok, label_layout, resolve}
use Rattle.regions.specs.Regions.{region_ok, region_records, region_layout}
use Rattle.address_label.specs.AddressLabels.{address_label_ok}
use Rattle.address_label.specs.Entries.{entry_ok, entry_layout}
use Rattle.pending.specs.Pendings.{pending_ok, pending_layout, kind_from}
use Rattle.patch.specs.Patches.{destination, field_width, field_value, branch_in_range, jump_in_range, in_range, reach_verdict, pending_verdict, write_pending}
use Rattle.build_outcome.specs.Build.{keep, order_from}
use Rattle.cursor.specs.Cursors.{passed, peek, step, next_adjacent, peek_adjacent}
use Rattle.operands.specs.Operands.{get_register, signed, get_integer, get_constant}
use Rattle.assembler_util.specs.LabelOperands.{symbol_label, to_label, get_label}
use Rattle.operand_list.specs.OperandLists.{read_operand, read_operands}
use Rattle.descriptors.specs.Mnemonics.{mnemonic_ok, one_mnemonic, mnemonic_layout, mnemonic_name}
use Rattle.descriptors.specs.Descriptors.{descriptor_layout}
use Rattle.breakpoints.specs.Breakpoints.{breakpoint_ok, filled_layout, pending_buffer_layout, breakpoint_buffer_layout, data_buffer_layout}
use Rattle.breakpoints.specs.BreakpointBytes.{pcs_bytes}
use Rattle.pseudo_names.specs.PseudoNames.{pseudo_in}
use Rattle.emit_pairs.specs.Pairs.{load_pairs, label_pairs}
use Rattle.emit_dispatch.specs.Lines.{pseudo_line}
use Rattle.emit_bytes.specs.Appended.{word_bytes, pendings_bytes}
use Rattle.emit_outcome.specs.Dispatch.{meaning}
use Rattle.emit_outcome.specs.Checks.{layout_stop, list_stop}
use Rattle.emit_outcome.specs.Room.{edge_stop, room_stop}
use Rattle.emit_outcome.specs.Emit.{line_outcome as emit_line, emit_outcome}
use Rattle.emit_outcome.specs.Answer.{done_at, refused_at}
use Rattle.example_lists.specs.Lists.{zeros}
use Rattle.patching_outcome.specs.declared.Progress.TheVariants.{Patched, Ended}
use Rattle.patching_outcome.specs.Patching.{Patching, regions_of, regions_layout, pendings_layout, kept_layout}
use Rattle.patching_outcome.specs.Step.{step_layouts, step_checks, put_back, step_outcome}
use Rattle.patching_outcome.specs.Grown.{grown}
use Rattle.patching_outcome.specs.Line.{LineGiven, listed_layout, line_layouts, line_outcome}
use Rattle.patching_laws.specs.Script.{Turn, Step, Line, run}

abbrev pub place : ℕ → Location
place n = record { source = 1; index = n }

abbrev pub loop : List ℕ
loop = 108 ∷ 111 ∷ 111 ∷ 112 ∷ []

abbrev pub labels : Table
labels = table_of (record_bytes 34 (le32_bytes 0x00400000 ++ loop))

-- a pending of kind k to a constant
abbrev pub to : (region offset k value n : ℕ) → List ℕ
to region offset k value n =
    record_bytes 36 (le16_bytes region ++ le32_bytes offset ++ location_bytes (place n) ++ (k ∷ 0 ∷ []) ++ le64_bytes value ++ le64_bytes 0)

abbrev pub first : List ℕ
first = record_bytes 35 (le32_bytes 0x00400000 ++ le32_bytes 0x10000000)

abbrev pub second : List ℕ
second = record_bytes 35 (le32_bytes 0x10010000 ++ (1 ∷ 2 ∷ 3 ∷ 4 ∷ []))

-- One of region 1, past its data; then two of region 0, both at offset 0: they overlap.
abbrev pub waiting : List ℕ
waiting = to 1 8 4 0 90 ++ to 0 0 0 0x00400000 91 ++ to 0 0 4 0x11223344 92

abbrev pub free : List ℕ
free = 200 ∷ 201 ∷ 202 ∷ 203 ∷ 204 ∷ 205 ∷ 206 ∷ 207 ∷ []

abbrev pub start : Patching
start = record {
  regions = first ++ second ++ free;
  pending = waiting ++ zeros 40;
  breakpoints = zeros 16;
  kept = zeros 16;
  counts = record { regions = 24; pending = 108; breakpoints = 0; patches = 0; state = 0 };
}

-- b loop, in region r
abbrev pub b : ℕ → LineGiven
b r = record {
  token_list = record_bytes 8 (location_bytes (place 32) ++ loop);
  mnemonic = record_bytes 32 (location_bytes (place 30) ++ (98 ∷ []));
  descriptors = [];
  position = 0;
  region = r;
}

abbrev pub after : List Turn → Patching
after ts = run Commit labels [] ts start

abbrev pub two : List Turn
two = Step ∷ Step ∷ []

abbrev pub three : List Turn
three = Step ∷ Step ∷ Line Commit (b 0) ∷ Step ∷ []

-- The same without the refused pending.
abbrev pub good : Patching
good = record {
  regions = first ++ second ++ free;
  pending = to 0 0 0 0x00400000 91 ++ to 0 0 4 0x11223344 92 ++ zeros 40;
  breakpoints = zeros 16;
  kept = zeros 16;
  counts = record { regions = 24; pending = 72; breakpoints = 0; patches = 0; state = 0 };
}

pub record Computed : Type 0 where
  pub steps_1 : (step_outcome Commit labels [] start).answer ≡ Ok (Patched 1)
  pub steps_2 : regions_of (after two) ≡ record_bytes 35 (le32_bytes 0x00400000 ++ le32_bytes 0x11223344) ++ second
  pub kept_2 : (after two).kept ≡ le32_bytes 0x10000000 ++ le32_bytes 0x1000ffff ++ zeros 8
  pub line_done : (line_outcome Commit (b 0) (after two)).answer ≡ done_at 1 Unloaded
  pub steps_3 : regions_of (after three) ≡ record_bytes 35 (le32_bytes 0x00400000 ++ le32_bytes 0x11223344 ++ le32_bytes 0x1000fffe) ++ second
  pub refuses : (step_outcome Commit labels [] (after three)).answer ≡ Err (PatchPastEnd (place 90))
  pub given_back : (after (three ++ Step ∷ [])).regions ≡ record_bytes 35 (le32_bytes 0x00400000 ++ le32_bytes 0x10000000 ++ le32_bytes 0x10000000) ++ second ++ (204 ∷ 205 ∷ 206 ∷ 207 ∷ [])
  pub again : (step_outcome Commit labels [] (after (three ++ Step ∷ []))).answer ≡ Err (PatchPastEnd (place 90))
  pub late : (line_outcome Commit (b 1) (after (three ++ Step ∷ []))).answer ≡ refused_at (LateLine (place 30)) 1
  pub ends : (step_outcome Commit labels [] (run Commit labels [] three good)).answer ≡ Ok (Ended 0x00400000)
  pub late_then : (line_outcome Commit (b 1) (run Commit labels [] (three ++ Step ∷ []) good)).answer ≡ refused_at (LateLine (place 30)) 1

pub computed : Computed
unfolding run step_outcome step_checks step_layouts regions_layout pendings_layout kept_layout put_back grown listed_layout line_layouts line_outcome set_field label_ok label_layout resolve region_ok region_records region_layout entry_ok entry_layout pending_layout kind_from destination field_width field_value branch_in_range jump_in_range in_range reach_verdict pending_verdict write_pending keep order_from first_stop emit_outcome emit_line list_stop layout_stop room_stop edge_stop meaning word_bytes pendings_bytes pcs_bytes append pseudo_in pseudo_line load_pairs label_pairs breakpoint_ok filled_layout pending_buffer_layout breakpoint_buffer_layout data_buffer_layout descriptor_layout mnemonic_ok one_mnemonic mnemonic_layout mnemonic_name read_operand read_operands symbol_label to_label get_label get_register signed get_integer get_constant passed peek step next_adjacent peek_adjacent pending_ok address_label_ok payload_of payload_ok token_ok token_layout tokens is_small form_of load_words first_where first_later places_f places_from places first_bad first_bad_of within_limit all same_bytes
computed = record { steps_1 = refl; steps_2 = refl; kept_2 = refl; line_done = refl; steps_3 = refl; refuses = refl; given_back = refl; again = refl; late = refl; ends = refl; late_then = refl }
