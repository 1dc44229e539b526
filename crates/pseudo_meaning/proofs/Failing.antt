-- "A form that fails this gets a failing run shown instead" (document 02, P11): of each such form a whole run, from the tokens of its line
-- through the emit call, the build and the dry run, in every sort of job. Assumes nothing.
use Rattle.std.specs.Prelude.{ℕ, List, [], ◌∷◌, ◌≡◌, refl}
use Rattle.jobs.specs.declared.Job.{Job}
use Rattle.jobs.specs.declared.Job.TheVariants.{Commit, Manual, Release6}
use Rattle.field.specs.Field.{get_field, set_field}
use Rattle.record.specs.Bytes.{all, same_bytes}
use Rattle.record.specs.Records.{places_f, places_from, places, first_bad, first_bad_of, within_limit}
use Rattle.record.specs.Stores.{append}
use Rattle.record.specs.Texts.{bytes_of}
use Rattle.refusal.specs.Verdicts.{first_stop}
use Rattle.names.specs.Names.{first_where, first_later}
use Rattle.loading.specs.Load.{is_small, form_of, load_words}
use Rattle.lexer.specs.Tokens.{payload_of, payload_ok, token_ok, token_layout, tokens}
use Rattle.labels.specs.Labels.{label_ok, label_layout, resolve}
use Rattle.regions.specs.Regions.{region_ok, region_records, region_layout}
use Rattle.address_label.specs.AddressLabels.{address_label_ok}
use Rattle.address_label.specs.Entries.{entry_ok, entry_layout}
use Rattle.pending.specs.Pendings.{pending_ok, pending_layout, kind_from}
use Rattle.patch.specs.Patches.{destination, field_width, field_value, branch_in_range, jump_in_range, in_range, reach_verdict, pending_verdict, write_pending}
use Rattle.build_outcome.specs.Build.{keep, order_from, layout_verdicts, build_verdict, write_patches, build_outcome}
use Rattle.cursor.specs.Cursors.{passed, peek, step as cursor_step, next_adjacent, peek_adjacent}
use Rattle.operands.specs.Operands.{get_register, get_fp_register, get_cc, signed, get_integer, get_constant, get_value}
use Rattle.assembler_util.specs.LabelOperands.{symbol_label, to_label, get_label, braced, after_label, get_offset_or_label}
use Rattle.operand_list.specs.OperandLists.{read_operand, read_operands}
use Rattle.descriptors.specs.Mnemonics.{mnemonic_ok, one_mnemonic, mnemonic_layout, mnemonic_name}
use Rattle.descriptors.specs.Descriptors.{fields_ok, descriptor_ok, descriptor_layout}
use Rattle.breakpoints.specs.Breakpoints.{breakpoint_ok, filled_layout, pending_buffer_layout, breakpoint_buffer_layout, data_buffer_layout}
use Rattle.breakpoints.specs.BreakpointBytes.{pcs_bytes}
use Rattle.pseudo_names.specs.PseudoNames.{pseudo_in}
use Rattle.emit_pairs.specs.Pairs.{load_pairs, label_pairs, is_immediate, immediate_pairs}
use Rattle.emit_bytes.specs.Appended.{word_bytes, pendings_bytes}
use Rattle.emit_dispatch.specs.Lines.{encoding_line, pseudo_line}
use Rattle.emit_outcome.specs.Dispatch.{meaning, table_line}
use Rattle.emit_outcome.specs.Checks.{layout_stop, list_stop}
use Rattle.emit_outcome.specs.Room.{edge_stop, room_stop}
use Rattle.emit_outcome.specs.Emit.{line_outcome, emit_outcome}
use Rattle.reading.specs.Reading.{image_of}
use Rattle.loading.specs.Run.{read_register, write_register, signed16}
use Rattle.machine.specs.declared.Machine.{Machine}
use Rattle.machine.specs.declared.Reason.TheVariants.{Word}
use Rattle.machine.specs.Instructions.{table, instruction_of}
use Rattle.machine.specs.Effects.{effect_of}
use Rattle.machine.specs.Step.{step_word}
use Rattle.dry_run_outcome.specs.declared.DryRun.{DryRun}
use Rattle.dry_run_outcome.specs.Fetch.{fetch}
use Rattle.dry_run_outcome.specs.Run.{step, run}
use Rattle.dry_run_outcome.specs.DryRun.{stopped, dry_run_outcome}
use Rattle.routine.specs.CallValues.{call_pairs}
use Rattle.pseudo_meaning.specs.Meaning.{line_run}
use Rattle.pseudo_meaning.specs.LinesAlone.{alone, holding, to_ten, into_t2}

-- the branches to 0x00400010 and the sets into $t2, each from its first word
abbrev branch_run : Job → (name : List ℕ) → Machine → DryRun
branch_run job name m = line_run (alone job name to_ten (0 ∷ [])) m

abbrev set_run : Job → (name : List ℕ) → Machine → DryRun
set_run job name m = line_run (alone job name into_t2 []) m

-- The run stops at this machine for a word, after this many steps.
abbrev stops_at : Machine → (steps : ℕ) → DryRun
stops_at m steps = record { machine = m; answer = stopped Word steps }

abbrev begin : Machine
begin = holding 0 0 7 0x00400000

-- Each run starts at 00400000 with 7 in $t2. A branch was due to go to 00400010 if the comparison holds, else behind the line;
-- a set was due to leave 1 or 0 in $t2.
pub record Failing (job : Job) : Type 0 where
  -- 0 < 0 does not hold: 00400008 was due
  pub bltu : branch_run job (bytes_of "bltu") begin ≡ stops_at begin 0
  pub bgtu : branch_run job (bytes_of "bgtu") begin ≡ stops_at begin 0
  -- 0 <= 0 holds: 00400010 was due
  pub bleu : branch_run job (bytes_of "bleu") begin ≡ stops_at begin 0
  pub bgeu : branch_run job (bytes_of "bgeu") begin ≡ stops_at begin 0
  -- 1, 0 and 1 were due in $t2
  pub sgeu : set_run job (bytes_of "sgeu") begin ≡ stops_at begin 0
  pub sgtu : set_run job (bytes_of "sgtu") begin ≡ stops_at begin 0
  pub sleu : set_run job (bytes_of "sleu") begin ≡ stops_at begin 0
  -- 0 = 0: 1 was due in $t2; 2 is not 0: 1 was due
  pub seq : set_run job (bytes_of "seq") begin ≡ stops_at (holding 0 0 0 0x00400004) 1
  pub sne : set_run job (bytes_of "sne") (holding 2 0 7 0x00400000) ≡ stops_at (holding 2 0 2 0x00400004) 1

pub failing : (job : Job) → Failing job
unfolding emit_outcome line_outcome table_line list_stop layout_stop room_stop edge_stop meaning word_bytes pendings_bytes pcs_bytes append pseudo_in pseudo_line encoding_line load_pairs label_pairs is_immediate immediate_pairs breakpoint_ok filled_layout pending_buffer_layout breakpoint_buffer_layout data_buffer_layout fields_ok descriptor_ok descriptor_layout mnemonic_ok one_mnemonic mnemonic_layout mnemonic_name read_operand read_operands symbol_label to_label get_label braced after_label get_offset_or_label get_register get_fp_register get_cc signed get_integer get_constant get_value passed peek cursor_step next_adjacent peek_adjacent pending_ok address_label_ok payload_of payload_ok token_ok token_layout tokens is_small form_of load_words first_where first_later first_stop places_f places_from places first_bad first_bad_of within_limit all same_bytes build_outcome build_verdict layout_verdicts write_patches write_pending pending_verdict reach_verdict order_from keep in_range jump_in_range branch_in_range field_value field_width destination kind_from pending_layout entry_layout entry_ok region_layout region_records region_ok resolve label_layout label_ok set_field dry_run_outcome image_of fetch run step step_word instruction_of table effect_of read_register write_register signed16 get_field call_pairs
failing Commit = record { bltu = refl; bgtu = refl; bleu = refl; bgeu = refl; sgeu = refl; sgtu = refl; sleu = refl; seq = refl; sne = refl }
failing Manual = record { bltu = refl; bgtu = refl; bleu = refl; bgeu = refl; sgeu = refl; sgtu = refl; sleu = refl; seq = refl; sne = refl }
failing Release6 = record { bltu = refl; bgtu = refl; bleu = refl; bgeu = refl; sgeu = refl; sgtu = refl; sleu = refl; seq = refl; sne = refl }
