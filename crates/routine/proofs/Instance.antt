-- The premises can be met: a routine of three lines in two regions, and what the theorem says there. Assumes nothing.
use Rattle.std.specs.Prelude.{ℕ, ◌≡◌, refl, List, [], ◌∷◌, ◌++◌, true, ltb, None, Ok}
use Rattle.std.proofs.Common.{arith, ◌∙◌}
use Rattle.jobs.specs.declared.Job.{Job}
use Rattle.jobs.specs.declared.Job.TheVariants.{Commit}
use Rattle.record.specs.Bytes.{all, same_bytes}
use Rattle.record.specs.Records.{places_f, places_from, places, first_bad, first_bad_of, within_limit}
use Rattle.record.specs.Stores.{le32_bytes, location_bytes, record_bytes, append}
use Rattle.record.specs.declared.Location.{Location}
use Rattle.names.specs.Names.{first_where, first_later}
use Rattle.loading.specs.declared.LoadForm.TheVariants.{Nothing as Unloaded, BothHalves}
use Rattle.loading.specs.Load.{is_small, form_of, load_words}
use Rattle.lexer.specs.Tokens.{payload_of, payload_ok, token_ok, token_layout, tokens}
use Rattle.address_label.specs.AddressLabels.{address_label_ok}
use Rattle.pending.specs.Pendings.{pending_ok, pending_layout}
use Rattle.pending.specs.declared.InstructionLabelKind.TheVariants.{Branch, Lower, Upper}
use Rattle.cursor.specs.Cursors.{passed, peek, step, next_adjacent, peek_adjacent}
use Rattle.operands.specs.Operands.{get_register, signed, get_integer, get_constant}
use Rattle.assembler_util.specs.LabelOperands.{symbol_label, to_label, get_label}
use Rattle.operand_list.specs.OperandLists.{read_operand, read_operands}
use Rattle.descriptors.specs.Mnemonics.{mnemonic_ok, one_mnemonic, mnemonic_layout, mnemonic_name}
use Rattle.descriptors.specs.Descriptors.{descriptor_layout}
use Rattle.breakpoints.specs.Breakpoints.{breakpoint_ok, filled_layout, pending_buffer_layout, breakpoint_buffer_layout, data_buffer_layout}
use Rattle.breakpoints.specs.BreakpointBytes.{pcs_bytes, pcs_from}
use Rattle.pseudo_names.specs.PseudoNames.{pseudo_in}
use Rattle.emit_pairs.specs.Pairs.{load_pairs, label_pairs}
use Rattle.emit_dispatch.specs.Lines.{pseudo_line}
use Rattle.emit_bytes.specs.Appended.{word_bytes, pendings_bytes}
use Rattle.emit_outcome.specs.Dispatch.{meaning}
use Rattle.emit_outcome.specs.Checks.{layout_stop, list_stop}
use Rattle.emit_outcome.specs.Room.{edge_stop, room_stop}
use Rattle.emit_outcome.specs.Emit.{line_outcome, emit_outcome}
use Rattle.finished_words.proofs.ListedLaws.{of_bytes}
use Rattle.example_lists.specs.Lists.{register, integer, comma, zeros}
use Rattle.routine.specs.PatchValues.{Patch, Name, patches_in, patches_from}
use Rattle.routine.specs.BreakpointValues.{Breakpoint, breakpoints_in}
use Rattle.routine.specs.CallValues.{call_pairs}
use Rattle.routine.specs.Run.{Buffer, filled, Buffers, RoutineLine, run, AllAccepted, none, next, Each, OfBytes, AllEmpty, routine_words, routine_patches, routine_breakpoints}
use Rattle.routine.proofs.RoutineFits.{lists_of, RoutineFits, routine_fits}

-- ---- the lines

abbrev pub place : ℕ → Location
place n = record { source = 1; index = n }

-- a Symbol at n; names are ASCII
abbrev pub symbol : ℕ → List ℕ → List ℕ
symbol n name = record_bytes 8 (location_bytes (place n) ++ name)

-- a line whose mnemonic stands at n
abbrev pub line : Job → (region address n : ℕ) → (name descriptors tokens : List ℕ) → RoutineLine
line job region address n name descriptors tokens = record {
  token_list = tokens;
  mnemonic = record_bytes 32 (location_bytes (place n) ++ name);
  descriptors = descriptors;
  job = job;
  place = record { position = 0; region = region; address = address };
}

abbrev pub loop : List ℕ
loop = 108 ∷ 111 ∷ 111 ∷ 112 ∷ []

-- li $t0,0x12345678
abbrev li : RoutineLine
li = line Commit 0 0x00400000 10 (108 ∷ 105 ∷ []) [] (register 8 ++ comma ++ integer 0x12345678)

-- la $t1,loop, in another region
abbrev pub la : RoutineLine
la = line Commit 1 0x00500000 20 (108 ∷ 97 ∷ []) [] (register 9 ++ comma ++ symbol 25 loop)

-- b loop, back in the first
abbrev b : RoutineLine
b = line Commit 0 0x00400000 30 (98 ∷ []) [] (symbol 32 loop)

abbrev pub example : List RoutineLine
example = li ∷ la ∷ b ∷ []

-- empty buffers with room for these lines and no more
abbrev pub room : ℕ → Buffer
room n = record { bytes = zeros n; fill = 0 }

abbrev pub start : Buffers
start = record { region_data = λ region. room 12; pending = room 120; breakpoints = room 56 }

-- ---- the premises

pub line_bytes : (l : RoutineLine) → all (λ (b : ℕ). ltb b 256) l.token_list ≡ true → all (λ (b : ℕ). ltb b 256) l.mnemonic ≡ true → OfBytes l
line_bytes l t m = (of_bytes l.token_list t, of_bytes l.mnemonic m)

example_bytes : Each OfBytes example
unfolding all
example_bytes = (line_bytes li refl refl, (line_bytes la refl refl, (line_bytes b refl refl, tt)))

example_empty : AllEmpty start
example_empty = record {
  data_empty = λ region. record { none_filled = refl; within = omega arith };
  pending_empty = record { none_filled = refl; within = omega arith };
  breakpoints_empty = record { none_filled = refl; within = omega arith };
}

-- ---- what the lines come to

abbrev pub words : List ℕ
words = le32_bytes 0x3c081234 ++ le32_bytes 0x35085678 ++ le32_bytes 0x10000000

abbrev pub patches : List Patch
patches =
    record { region = 1; offset = 0; location = place 20; kind = Upper; target = Name loop (place 25) 0 }
    ∷ record { region = 1; offset = 4; location = place 20; kind = Lower; target = Name loop (place 25) 0 }
    ∷ record { region = 0; offset = 8; location = place 30; kind = Branch; target = Name loop (place 32) 0 } ∷ []

abbrev pub breakpoints : List Breakpoint
breakpoints =
    record { location = place 10; pcs = 0x00400000 ∷ 0x00400004 ∷ [] }
    ∷ record { location = place 20; pcs = 0x00500000 ∷ 0x00500004 ∷ [] }
    ∷ record { location = place 30; pcs = 0x00400008 ∷ [] } ∷ []

record Computed : Type 0 where
  accepted : AllAccepted example start
  words_come_to : routine_words 0 example start ≡ words
  patches_come_to : routine_patches example start ≡ patches
  breakpoints_come_to : routine_breakpoints example start ≡ breakpoints

computed : Computed
unfolding routine_words routine_patches routine_breakpoints patches_from pcs_from call_pairs emit_outcome line_outcome list_stop layout_stop room_stop edge_stop meaning word_bytes pendings_bytes pcs_bytes append pseudo_in pseudo_line load_pairs label_pairs breakpoint_ok filled_layout pending_buffer_layout breakpoint_buffer_layout data_buffer_layout descriptor_layout mnemonic_ok one_mnemonic mnemonic_layout mnemonic_name read_operand read_operands symbol_label to_label get_label get_register signed get_integer get_constant passed peek step next_adjacent peek_adjacent pending_ok address_label_ok payload_of payload_ok token_ok token_layout tokens is_small form_of load_words first_where first_later places_f places_from places first_bad first_bad_of within_limit all same_bytes
computed = record { accepted = next 3 BothHalves refl (next 3 Unloaded refl (next 1 Unloaded refl none)); words_come_to = refl; patches_come_to = refl; breakpoints_come_to = refl }

-- ---- and what the theorem says of them

pub example_fits : RoutineFits example start
example_fits = routine_fits example start example_empty example_bytes computed.accepted

-- b loop may come once more, and a build of two regions takes what is there.
pub example_next : lists_of b (run example start) ≡ Ok tt
unfolding token_layout token_ok payload_of payload_ok mnemonic_layout one_mnemonic mnemonic_ok descriptor_layout first_later places_f places_from places first_bad first_bad_of within_limit all
example_next = example_fits.next_passes b (record { tokens_good = refl; mnemonic_good = refl; descriptors_good = refl; names_apart = refl; region_ok = refl })

pub example_build : pending_layout 2 (filled (run example start).pending) ≡ None
example_build = example_fits.build_takes 2 (omega arith, (omega arith, (omega arith, tt)))

pub example_words : filled ((run example start).region_data 0) ≡ words
example_words = example_fits.words_are 0 ∙ computed.words_come_to

pub example_patches : patches_in (filled (run example start).pending) ≡ patches
example_patches = example_fits.patches_are ∙ computed.patches_come_to

pub example_breakpoints : breakpoints_in (filled (run example start).breakpoints) ≡ breakpoints
example_breakpoints = example_fits.breakpoints_are ∙ computed.breakpoints_come_to
