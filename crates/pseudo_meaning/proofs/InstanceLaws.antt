-- What can be computed on three lines: they are accepted, built, and stand where they should. Assumes nothing.
use Rattle.std.specs.Prelude.{ℕ, ◌+◌, ◌*◌, ◌%◌, true, false, ◌≡◌, refl, ltb, length, Ok}
use Rattle.std.proofs.Common.{arith, sym, subst}
use mathlib.Core.List.{List, [], ◌∷◌, ◌++◌, map, Memᴰ}
use Rattle.jobs.specs.declared.Job.TheVariants.{Commit, Manual}
use Rattle.registers.specs.declared.RegisterSlot.TheVariants.{Temporary0, Temporary1, Temporary2}
use Rattle.record.specs.Texts.{bytes_of}
use Rattle.regions.specs.Regions.{region_count}
use Rattle.record.specs.Bytes.{part}
use Rattle.address_label.specs.declared.AddressLabel.TheVariants.{Constant}
use Rattle.operand.specs.Answers.{Got}
use Rattle.operand.specs.declared.InstructionValue.TheVariants.{Slot, Literal}
use Rattle.operand_list.specs.OperandLists.{AskedAll}
use Rattle.pseudo_names.specs.declared.Pseudo.{Pseudo}
use Rattle.pseudo_names.specs.declared.Pseudo.TheVariants.{Abs, BranchCustom, SetCustom}
use Rattle.emit_dispatch.specs.Wants.{pseudo_wants}
use Rattle.emit_outcome.specs.Emit.{start_of}
use Rattle.emit_outcome.specs.Answer.{done_at}
use Rattle.emit_outcome.specs.declared.Meaning.TheVariants.{Builtin}
use Rattle.loading.specs.declared.LoadForm.{LoadForm}
use Rattle.loading.specs.declared.LoadForm.TheVariants.{Nothing, Ori}
use Rattle.field.specs.Field.{set_field}
use Rattle.record.specs.Bytes.{all, same_bytes}
use Rattle.record.specs.Records.{places_f, places_from, places, first_bad, first_bad_of, within_limit}
use Rattle.record.specs.Stores.{append}
use Rattle.refusal.specs.Verdicts.{first_stop}
use Rattle.names.specs.Names.{first_where, first_later}
use Rattle.loading.specs.Load.{is_small, form_of, load_words}
use Rattle.lexer.specs.Tokens.{payload_of, payload_ok, token_ok, token_layout, tokens}
use Rattle.labels.specs.Labels.{label_ok, label_layout, resolve}
use Rattle.regions.specs.Regions.{region_ok, region_records, region_layout}
use Rattle.address_label.specs.AddressLabels.{address_label_ok}
use Rattle.address_label.specs.Entries.{entry_ok, entry_layout}
use Rattle.pending.specs.Pendings.{pending_ok, pending_layout, kind_from}
use Rattle.patch.specs.Patches.{destination, field_width, field_value, branch_in_range, jump_in_range, in_range, reach_verdict, pending_verdict, write_pending}
use Rattle.build_outcome.specs.Build.{keep, order_from, layout_verdicts, build_verdict, write_patches, build_outcome}
use Rattle.cursor.specs.Cursors.{passed, peek, step as cursor_step, next_adjacent, peek_adjacent}
use Rattle.operands.specs.Operands.{get_register, get_fp_register, get_cc, signed, get_integer, get_constant, get_value}
use Rattle.assembler_util.specs.LabelOperands.{symbol_label, to_label, get_label, braced, after_label, get_offset_or_label}
use Rattle.operand_list.specs.OperandLists.{read_operand, read_operands}
use Rattle.descriptors.specs.Mnemonics.{mnemonic_ok, one_mnemonic, mnemonic_layout, mnemonic_name}
use Rattle.descriptors.specs.Descriptors.{fields_ok, descriptor_ok, descriptor_layout}
use Rattle.breakpoints.specs.Breakpoints.{breakpoint_ok, filled_layout, pending_buffer_layout, breakpoint_buffer_layout, data_buffer_layout}
use Rattle.breakpoints.specs.BreakpointBytes.{pcs_bytes}
use Rattle.pseudo_names.specs.PseudoNames.{pseudo_in}
use Rattle.emit_pairs.specs.Pairs.{load_pairs, label_pairs, is_immediate, immediate_pairs}
use Rattle.emit_bytes.specs.Appended.{word_bytes, pendings_bytes}
use Rattle.emit_dispatch.specs.Lines.{encoding_line, pseudo_line}
use Rattle.emit_outcome.specs.Dispatch.{meaning, table_line}
use Rattle.emit_outcome.specs.Checks.{layout_stop, list_stop}
use Rattle.emit_outcome.specs.Room.{edge_stop, room_stop}
use Rattle.emit_outcome.specs.Emit.{line_outcome, emit_outcome}
use Rattle.reading.specs.Reading.{image_of}
use Rattle.routine.specs.PatchValues.{patch_at, patches_from}
use Rattle.routine.specs.CallValues.{call_pairs, call_patches}
use Rattle.finished_words.proofs.ListedLaws.{of_bytes}
use Rattle.example_lists.specs.Lists.{register, integer, comma}
use Rattle.pseudo_meaning.specs.Lines.{Emitted, LineInBuild, line_region, line_data, line_words, line_pc, after_pc}
use Rattle.pseudo_meaning.specs.Premises.{finished_regions, Placed}
use Rattle.pseudo_meaning.specs.LinesAlone.{alone, to_ten}

-- bge $t0,$t1,0x00400010
abbrev pub bge_line : LineInBuild
bge_line = alone Commit (bytes_of "bge") to_ten (0 ∷ [])

abbrev pub bge_operands : AskedAll (pseudo_wants (BranchCustom false false false))
bge_operands = (Temporary0, Slot Temporary1, Constant 0x00400010)

-- sle $t2,$t0,40000, whose literal is loaded by ori
abbrev pub sle_line : LineInBuild
sle_line = alone Commit (bytes_of "sle") (register 10 ++ comma ++ register 8 ++ comma ++ integer 40000) []

abbrev pub sle_operands : AskedAll (pseudo_wants (SetCustom true false false))
sle_operands = (Temporary2, Temporary0, Literal 40000)

-- abs $t2,$t0 in a manual job
abbrev pub abs_line : LineInBuild
abs_line = alone Manual (bytes_of "abs") (register 10 ++ comma ++ register 8) []

abbrev pub abs_operands : AskedAll (pseudo_wants Abs)
abs_operands = (Temporary2, Temporary0, tt)

-- A line that is the whole of region 0. The build has only this region, and all patches are the line's own.
pub record Evaluated (site : LineInBuild) (p : Pseudo) (x : AskedAll (pseudo_wants p)) (position : ℕ) (loaded : LoadForm) (words : ℕ) : Type 0 where
  pub accepted : (emit_outcome site.job site.call).answer ≡ done_at position loaded
  pub means : meaning site.call.descriptors (mnemonic_name site.call.mnemonic) ≡ Builtin p
  pub operands_are : (read_operands (pseudo_wants p) (tokens site.call.token_list) (start_of site.call)).answer ≡ Got x
  pub built : build_verdict site.build site.labels site.entry site.regions site.pending ≡ Ok tt
  pub bytes_fit : all (λ (b : ℕ). ltb b 256) site.regions ≡ true
  pub selected : site.call.numbers.place.region ≡ 0
  pub first_line : site.call.numbers.counts.data_len ≡ 0
  pub one_region : region_count site.regions ≡ 1
  pub whole : (line_region site).size ≡ 4 * line_words site
  pub words_there : part (line_data site) site.call.numbers.counts.data_len (4 * line_words site) ≡ word_bytes (call_pairs site.job site.call)
  pub all_own : places site.pending ≡ site.own
  pub own_are : map (patch_at site.pending) site.own ≡ call_patches site.job site.call
  pub aligned : line_pc site % 4 ≡ 0
  pub one_finished : length (image_of (finished_regions site)) ≡ 1
  pub count : line_words site ≡ words
  pub starts : 0x00400000 ≡ line_pc site
  pub behind : after_pc site ≡ 0x00400000 + 4 * words

module _ {site : LineInBuild} {p : Pseudo} {x : AskedAll (pseudo_wants p)} {position : ℕ} {loaded : LoadForm} {words : ℕ} (e : Evaluated site p x position loaded words) where
  pub emitted : Emitted site.job site.call p x
  emitted = record { position = position; loaded = loaded; accepted = e.accepted; means = e.means; operands_are = e.operands_are }

  pub placed : Placed site
  placed = record {
    built = e.built;
    of_bytes = of_bytes site.regions e.bytes_fit;
    stands = record {
      region_listed = omega (arith, e.selected, e.one_region);
      within = omega (arith, e.first_line, e.whole);
      words_there = e.words_there;
      own_listed = λ q m. subst (λ (l : List ℕ). Memᴰ q l) (sym e.all_own) m;
      own_are = e.own_are;
      untouched = λ q m n r. absurd (n (subst (λ (l : List ℕ). Memᴰ q l) e.all_own m));
    };
    aligned = e.aligned;
    alone = λ k h n a b u w. absurd (n (omega (arith, h, e.selected, e.one_finished)));
  }

-- ---- by computation

pub bge_evaluated : Evaluated bge_line (BranchCustom false false false) bge_operands 5 Nothing 2
unfolding emit_outcome line_outcome table_line list_stop layout_stop room_stop edge_stop meaning word_bytes pendings_bytes pcs_bytes append pseudo_in pseudo_line encoding_line load_pairs label_pairs is_immediate immediate_pairs breakpoint_ok filled_layout pending_buffer_layout breakpoint_buffer_layout data_buffer_layout fields_ok descriptor_ok descriptor_layout mnemonic_ok one_mnemonic mnemonic_layout mnemonic_name read_operand read_operands symbol_label to_label get_label braced after_label get_offset_or_label get_register get_fp_register get_cc signed get_integer get_constant get_value passed peek cursor_step next_adjacent peek_adjacent pending_ok address_label_ok payload_of payload_ok token_ok token_layout tokens is_small form_of load_words first_where first_later first_stop places_f places_from places first_bad first_bad_of within_limit all same_bytes build_outcome build_verdict layout_verdicts write_patches write_pending pending_verdict reach_verdict order_from keep in_range jump_in_range branch_in_range field_value field_width destination kind_from pending_layout entry_layout entry_ok region_layout region_records region_ok resolve label_layout label_ok set_field image_of call_pairs patches_from
bge_evaluated = record { accepted = refl; means = refl; operands_are = refl; built = refl; bytes_fit = refl; selected = refl; first_line = refl; one_region = refl; whole = refl; words_there = refl; all_own = refl; own_are = refl; aligned = refl; one_finished = refl; count = refl; starts = refl; behind = refl }

pub sle_evaluated : Evaluated sle_line (SetCustom true false false) sle_operands 5 Ori 3
unfolding emit_outcome line_outcome table_line list_stop layout_stop room_stop edge_stop meaning word_bytes pendings_bytes pcs_bytes append pseudo_in pseudo_line encoding_line load_pairs label_pairs is_immediate immediate_pairs breakpoint_ok filled_layout pending_buffer_layout breakpoint_buffer_layout data_buffer_layout fields_ok descriptor_ok descriptor_layout mnemonic_ok one_mnemonic mnemonic_layout mnemonic_name read_operand read_operands symbol_label to_label get_label braced after_label get_offset_or_label get_register get_fp_register get_cc signed get_integer get_constant get_value passed peek cursor_step next_adjacent peek_adjacent pending_ok address_label_ok payload_of payload_ok token_ok token_layout tokens is_small form_of load_words first_where first_later first_stop places_f places_from places first_bad first_bad_of within_limit all same_bytes build_outcome build_verdict layout_verdicts write_patches write_pending pending_verdict reach_verdict order_from keep in_range jump_in_range branch_in_range field_value field_width destination kind_from pending_layout entry_layout entry_ok region_layout region_records region_ok resolve label_layout label_ok set_field image_of call_pairs patches_from
sle_evaluated = record { accepted = refl; means = refl; operands_are = refl; built = refl; bytes_fit = refl; selected = refl; first_line = refl; one_region = refl; whole = refl; words_there = refl; all_own = refl; own_are = refl; aligned = refl; one_finished = refl; count = refl; starts = refl; behind = refl }

pub abs_evaluated : Evaluated abs_line Abs abs_operands 3 Nothing 3
unfolding emit_outcome line_outcome table_line list_stop layout_stop room_stop edge_stop meaning word_bytes pendings_bytes pcs_bytes append pseudo_in pseudo_line encoding_line load_pairs label_pairs is_immediate immediate_pairs breakpoint_ok filled_layout pending_buffer_layout breakpoint_buffer_layout data_buffer_layout fields_ok descriptor_ok descriptor_layout mnemonic_ok one_mnemonic mnemonic_layout mnemonic_name read_operand read_operands symbol_label to_label get_label braced after_label get_offset_or_label get_register get_fp_register get_cc signed get_integer get_constant get_value passed peek cursor_step next_adjacent peek_adjacent pending_ok address_label_ok payload_of payload_ok token_ok token_layout tokens is_small form_of load_words first_where first_later first_stop places_f places_from places first_bad first_bad_of within_limit all same_bytes build_outcome build_verdict layout_verdicts write_patches write_pending pending_verdict reach_verdict order_from keep in_range jump_in_range branch_in_range field_value field_width destination kind_from pending_layout entry_layout entry_ok region_layout region_records region_ok resolve label_layout label_ok set_field image_of call_pairs patches_from
abs_evaluated = record { accepted = refl; means = refl; operands_are = refl; built = refl; bytes_fit = refl; selected = refl; first_line = refl; one_region = refl; whole = refl; words_there = refl; all_own = refl; own_are = refl; aligned = refl; one_finished = refl; count = refl; starts = refl; behind = refl }
