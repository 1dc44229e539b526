-- Document 01's table 'Marked for proof', every row with its whole outcome, as one statement about the definitions of an emit call and of a
-- build.
-- Assumes nothing.
use Rattle.std.specs.Prelude.{◌≡◌, refl, ℕ, ℤ, pos, List, [], ◌∷◌, ◌++◌, Ok}
use Rattle.jobs.specs.declared.Job.{Job}
use Rattle.jobs.specs.declared.Job.TheVariants.{Commit, Manual, Release6}
use Rattle.field.specs.Field.{set_field}
use Rattle.record.specs.Bytes.{all, same_bytes}
use Rattle.record.specs.Records.{places_f, places_from, places, first_bad, first_bad_of, within_limit}
use Rattle.refusal.specs.Numbers.{zero_location}
use Rattle.refusal.specs.Verdicts.{first_stop}
use Rattle.names.specs.Names.{first_where, first_later}
use Rattle.loading.specs.declared.LoadForm.TheVariants.{Nothing as Unloaded, Addiu, Ori, Lui, BothHalves}
use Rattle.loading.specs.Load.{is_small, form_of, load_words}
use Rattle.lexer.specs.Tokens.{payload_of, payload_ok, token_ok, token_layout, tokens}
use Rattle.labels.specs.Labels.{label_ok, label_layout, resolve, table_of}
use Rattle.regions.specs.Regions.{region_ok, region_records, region_layout}
use Rattle.address_label.specs.AddressLabels.{address_label_ok}
use Rattle.address_label.specs.Entries.{entry_ok, entry_layout}
use Rattle.pending.specs.Pendings.{pending_ok, pending_layout, kind_from}
use Rattle.patch.specs.Patches.{destination, field_width, field_value, branch_in_range, jump_in_range, in_range, reach_verdict, pending_verdict, write_pending}
use Rattle.build_outcome.specs.Build.{keep, order_from, layout_verdicts, build_verdict, write_patches, BuildOutcome, build_outcome}
use Rattle.build_outcome.specs.Returned.{returned as build_returned}
use Rattle.cursor.specs.Cursors.{passed, peek, step, next_adjacent, peek_adjacent}
use Rattle.operands.specs.Operands.{get_register, get_fp_register, get_cc, signed, get_integer, get_constant, get_value}
use Rattle.assembler_util.specs.LabelOperands.{symbol_label, to_label, get_label, braced, after_label, get_offset_or_label}
use Rattle.operand_list.specs.OperandLists.{read_operand, read_operands}
use Rattle.descriptors.specs.Mnemonics.{mnemonic_ok, one_mnemonic, mnemonic_layout, mnemonic_name}
use Rattle.descriptors.specs.Descriptors.{fields_ok, descriptor_ok, descriptor_layout}
use Rattle.breakpoints.specs.Breakpoints.{breakpoint_ok, filled_layout, pending_buffer_layout, breakpoint_buffer_layout, data_buffer_layout}
use Rattle.emit_pairs.specs.Pairs.{load_pairs, label_pairs, is_immediate, immediate_pairs}
use Rattle.pseudo_names.specs.PseudoNames.{pseudo_in}
use Rattle.emit_dispatch.specs.Lines.{encoding_line, pseudo_line}
use Rattle.record.specs.declared.Location.{Location}
use Rattle.record.specs.Stores.{append, le32_bytes, record_bytes}
use Rattle.breakpoints.specs.BreakpointBytes.{pcs_bytes, pcs_from}
use Rattle.emit_bytes.specs.Appended.{word_bytes, pendings_bytes}
use Rattle.emit_outcome.specs.Call.{Call}
use Rattle.emit_outcome.specs.Returned.{returned as line_returned}
use Rattle.emit_outcome.specs.Dispatch.{meaning, table_line}
use Rattle.emit_outcome.specs.Checks.{layout_stop, list_stop}
use Rattle.emit_outcome.specs.Room.{edge_stop, room_stop}
use Rattle.emit_outcome.specs.Emit.{line_outcome, emit_outcome}
use Rattle.example_lists.specs.Lists.{register, fp_register, symbol, integer, minus, comma, left_brace, right_brace, «addu», «li», «lw», «abs», «sll», cvt_sw, «bc1t», «jr», «mflo», «mult», «addi», float_descriptor, descriptor, either_descriptor, line_in, line, as_bytes, emits, region, patch}

-- ---- a refused call, by document 01's numbers; every lent byte and count is as at entry

pub record LineRefusesAt (location : Location) (job : Job) (call : Call) (number : ℕ) (a : ℤ) (b position : ℕ) : Type 0 where
  pub returned_is : line_returned (emit_outcome job call).answer ≡ record { number = number; location = location; a = a; b = b; position = position }
  pub counts_stay : (emit_outcome job call).counts ≡ call.numbers.counts
  pub lent_stays : (emit_outcome job call).lent ≡ call.lent

abbrev pub LineRefuses : Job → Call → (number : ℕ) → ℤ → (b position : ℕ) → Type 0
LineRefuses = LineRefusesAt zero_location

-- a call whose mnemonic stands at source 5, index 7
abbrev pub at5_7 : List ℕ → Call → Call
at5_7 name c = record { token_list = c.token_list; mnemonic = record_bytes 32 (le32_bytes 5 ++ le32_bytes 7 ++ name); descriptors = c.descriptors; lent = c.lent; numbers = c.numbers }

abbrev pub location5_7 : Location
location5_7 = record { source = 5; index = 7 }

pub record BuildRefuses (job : Job) (regions pending : List ℕ) (number : ℕ) (a : ℤ) (b : ℕ) : Type 0 where
  pub returned_is : build_returned (build_outcome job (table_of []) [] regions pending).answer ≡ record { number = number; location = zero_location; a = a; b = b; entry = 0 }
  pub regions_stay : (build_outcome job (table_of []) [] regions pending).regions ≡ regions

-- an accepted build without an entry record
abbrev pub builds : (regions : List ℕ) → BuildOutcome
builds regions = record { answer = Ok 0x00400000; regions = regions }

-- ---- the table

-- lw's descriptor (Op 35)
abbrev pub lw_table : List ℕ
lw_table = descriptor 0 35 13 «lw»

-- the marks of jobs by the manual (document 02, P5)
pub record ManualRows : Type 0 where
  -- abs $t0,$t1: "for `abs $t0,$t1` 00090fc3"
  pub abs : emit_outcome Manual (line «abs» [] (register 8 ++ comma ++ register 9)) ≡ emits 3 Unloaded (0x00090fc3 ∷ 0x01214026 ∷ 0x01014023 ∷ [])
  -- cvt.s.w $f0,$f2 (Cop1 32, size Word): 20 in fmt, as GNU as has it
  pub word_size : emit_outcome Manual (line cvt_sw (float_descriptor 4 32 16 2 0 cvt_sw) (fp_register 0 ++ comma ++ fp_register 2)) ≡ emits 3 Unloaded (0x46801020 ∷ [])
  -- sll $t0,$t1,31 (Func 0)
  pub sll_most : emit_outcome Manual (line «sll» (descriptor 1 0 5 «sll») (register 8 ++ comma ++ register 9 ++ comma ++ integer 31)) ≡ emits 5 Unloaded (0x000947c0 ∷ [])
  -- sll $t0,$t1,32 and sll $t0,$t1,256: refusal 19, the first without a region too
  pub sll_over : LineRefuses Manual (line «sll» (descriptor 1 0 5 «sll») (register 8 ++ comma ++ register 9 ++ comma ++ integer 32)) 19 (pos 0) 0 5
  pub sll_far_over : LineRefuses Manual (line «sll» (descriptor 1 0 5 «sll») (register 8 ++ comma ++ register 9 ++ comma ++ integer 256)) 19 (pos 0) 0 5
  pub sll_nowhere : LineRefuses Manual (line_in 65535 «sll» (descriptor 1 0 5 «sll») (register 8 ++ comma ++ register 9 ++ comma ++ integer 32)) 19 (pos 0) 0 5
  -- bc1t 8,x (Cop1I 8): refusal 20
  pub code_over : LineRefuses Manual (line «bc1t» (float_descriptor 5 8 20 0 1 «bc1t») (integer 8 ++ comma ++ symbol (120 ∷ []))) 20 (pos 0) 0 3
  -- bc1t 4294967296,x and bc1t 4294967303,x: "tested on the full 64-bit operand"
  pub code_of_0 : LineRefuses Manual (line «bc1t» (float_descriptor 5 8 20 0 1 «bc1t») (integer 4294967296 ++ comma ++ symbol (120 ∷ []))) 20 (pos 0) 0 3
  pub code_of_7 : LineRefuses Manual (line «bc1t» (float_descriptor 5 8 20 0 1 «bc1t») (integer 4294967303 ++ comma ++ symbol (120 ∷ []))) 20 (pos 0) 0 3
  -- 19 and 20, for mnemonics at another location
  pub sll_there : LineRefusesAt location5_7 Manual (at5_7 «sll» (line «sll» (descriptor 1 0 5 «sll») (register 8 ++ comma ++ register 9 ++ comma ++ integer 32))) 19 (pos 0) 0 5
  pub code_there : LineRefusesAt location5_7 Manual (at5_7 «bc1t» (line «bc1t» (float_descriptor 5 8 20 0 1 «bc1t») (integer 8 ++ comma ++ symbol (120 ∷ [])))) 20 (pos 0) 0 3
  -- bc1t 8: the missing label is noticed first, refusal 4
  pub code_alone : LineRefuses Manual (line «bc1t» (float_descriptor 5 8 20 0 1 «bc1t») (integer 8)) 4 (pos 0) 0 1
  -- b, pc 00400000 to 00420000
  pub b_forward : build_outcome Manual (table_of []) [] (region 0x00400000 0x10000000) (patch 0 0x00420000) ≡ builds (region 0x00400000 0x10007fff)
  -- b, pc 00400000 to 00420004: refusal 16
  pub b_too_far : BuildRefuses Manual (region 0x00400000 0x10000000) (patch 0 0x00420004) 16 (pos 0x00420004) 0x00400000
  -- b, pc 00400000 to 003e0004
  pub b_back : build_outcome Manual (table_of []) [] (region 0x00400000 0x10000000) (patch 0 0x003e0004) ≡ builds (region 0x00400000 0x10008000)
  -- b, pc 00400000 to 003e0000: refusal 16
  pub b_too_far_back : BuildRefuses Manual (region 0x00400000 0x10000000) (patch 0 0x003e0000) 16 (pos 0x003e0000) 0x00400000

-- the marks of jobs for Release 6 boards (document 02, P9)
pub record Release6Rows : Type 0 where
  -- jr $ra (Func 8): "so `jr $ra` is 03e00009"; a key counts modulo 64
  pub jr_ra : emit_outcome Release6 (line «jr» (descriptor 1 8 2 «jr») (register 31)) ≡ emits 1 Unloaded (0x03e00009 ∷ [])
  pub jr_by_72 : emit_outcome Release6 (line «jr» (descriptor 1 72 2 «jr») (register 31)) ≡ emits 1 Unloaded (0x03e00009 ∷ [])
  pub jr_by_manual : emit_outcome Manual (line «jr» (descriptor 1 8 2 «jr») (register 31)) ≡ emits 1 Unloaded (0x03e00008 ∷ [])
  -- function 8 under another encoding (Destination) stays
  pub eight_elsewhere : emit_outcome Release6 (line «jr» (descriptor 1 8 3 «jr») (register 31)) ≡ emits 1 Unloaded (0x0000f808 ∷ [])
  -- mflo $t0 (Func 18): refusal 27, with no region selected too
  pub mflo_dropped : LineRefuses Release6 (line «mflo» (descriptor 1 18 3 «mflo») (register 8)) 27 (pos 0) 0 1
  pub mflo_nowhere : LineRefuses Release6 (line_in 65535 «mflo» (descriptor 1 18 3 «mflo») (register 8)) 27 (pos 0) 0 1
  pub mflo_there : LineRefusesAt location5_7 Release6 (at5_7 «mflo» (line «mflo» (descriptor 1 18 3 «mflo») (register 8))) 27 (pos 0) 0 1
  -- mult $t0,$t1,$t2 (Func 24): refusal 27; mult $t0,$t1
  pub mult_third : LineRefuses Release6 (line «mult» (descriptor 1 24 4 «mult») (register 8 ++ comma ++ register 9 ++ comma ++ register 10)) 27 (pos 0) 0 5
  pub mult_two : emit_outcome Release6 (line «mult» (descriptor 1 24 4 «mult») (register 8 ++ comma ++ register 9)) ≡ emits 3 Unloaded (0x01090018 ∷ [])
  -- Func 18 under FPMove with code 8: 20 goes before 27; under Immediate with 32768: 27 goes before 9
  pub code_first : LineRefuses Release6 (line «mflo» (descriptor 1 18 17 «mflo») (fp_register 0 ++ comma ++ fp_register 2 ++ comma ++ integer 8)) 20 (pos 0) 0 5
  pub immediate_last : LineRefuses Release6 (line «mflo» (descriptor 1 18 7 «mflo») (register 8 ++ comma ++ register 9 ++ comma ++ integer 32768)) 27 (pos 0) 0 5
  -- accepted, although the word has opcode 0 and function 18: by an alternative Func 18, or by a constant under Immediate, LoadImmediate, Offset and FPOffset
  pub alternative_used : emit_outcome Release6 (line «addi» (either_descriptor 0 8 1 18 «addi») (register 8 ++ comma ++ register 9 ++ comma ++ integer 32768)) ≡ emits 5 Ori (0x34018000 ∷ 0x01214012 ∷ [])
  pub immediate_lands : emit_outcome Release6 (line «jr» (descriptor 1 8 7 «jr») (register 8 ++ comma ++ register 9 ++ comma ++ integer 18)) ≡ emits 5 Unloaded (0x01280012 ∷ [])
  pub load_immediate_lands : emit_outcome Release6 (line «jr» (descriptor 1 8 8 «jr») (register 8 ++ comma ++ integer 18)) ≡ emits 3 Unloaded (0x00080012 ∷ [])
  pub offset_lands : emit_outcome Release6 (line «jr» (descriptor 0 0 13 «jr») (register 8 ++ comma ++ integer 18 ++ left_brace ++ register 9 ++ right_brace)) ≡ emits 6 Unloaded (0x01280012 ∷ [])
  pub float_offset_lands : emit_outcome Release6 (line «jr» (descriptor 0 64 14 «jr») (fp_register 8 ++ comma ++ integer 18 ++ left_brace ++ register 9 ++ right_brace)) ≡ emits 6 Unloaded (0x01280012 ∷ [])

pub record MarkedTable : Type 0 where
  -- addu $t0,$t1,$t2 (Func 33)
  pub addu : emit_outcome Commit (line «addu» (descriptor 1 33 0 «addu») (register 8 ++ comma ++ register 9 ++ comma ++ register 10)) ≡ emits 5 Unloaded (0x012a4021 ∷ [])
  -- li $t0,-32768
  pub li_least : emit_outcome Commit (line «li» [] (register 8 ++ comma ++ minus ++ integer 32768)) ≡ emits 4 Addiu (0x24088000 ∷ [])
  -- li $t0,32768
  pub li_past : emit_outcome Commit (line «li» [] (register 8 ++ comma ++ integer 32768)) ≡ emits 3 Ori (0x34088000 ∷ [])
  -- li $t0,0x12340000
  pub li_upper : emit_outcome Commit (line «li» [] (register 8 ++ comma ++ integer 0x12340000)) ≡ emits 3 Lui (0x3c081234 ∷ [])
  -- li $t0,0x12345678
  pub li_both : emit_outcome Commit (line «li» [] (register 8 ++ comma ++ integer 0x12345678)) ≡ emits 3 BothHalves (0x3c081234 ∷ 0x35085678 ∷ [])
  -- lw $t0,32768($t1) (Op 35)
  pub lw_far : emit_outcome Commit (line «lw» lw_table (register 8 ++ comma ++ integer 32768 ++ left_brace ++ register 9 ++ right_brace)) ≡ emits 6 Ori (0x34018000 ∷ 0x00290820 ∷ 0x8c280000 ∷ [])
  -- lw $t0,$t2($t1)
  pub lw_dropped : emit_outcome Commit (line «lw» lw_table (register 8 ++ comma ++ register 10 ++ left_brace ++ register 9 ++ right_brace)) ≡ emits 6 Unloaded (0x8d280000 ∷ [])
  -- lw $t0,($t1): refusal 7, a = 14
  pub lw_brace : LineRefuses Commit (line «lw» lw_table (register 8 ++ comma ++ left_brace ++ register 9 ++ right_brace)) 7 (pos 14) 0 3
  -- abs $t0,$t1
  pub abs : emit_outcome Commit (line «abs» [] (register 8 ++ comma ++ register 9)) ≡ emits 3 Unloaded (0x0009001f ∷ 0x01214026 ∷ 0x01014023 ∷ [])
  -- sll $t0,$t1,33 (Func 0)
  pub sll : emit_outcome Commit (line «sll» (descriptor 1 0 5 «sll») (register 8 ++ comma ++ register 9 ++ comma ++ integer 33)) ≡ emits 5 Unloaded (0x00094840 ∷ [])
  -- b, pc 00400000 to 00440000
  pub b_forward : build_outcome Commit (table_of []) [] (region 0x00400000 0x10000000) (patch 0 0x00440000) ≡ builds (region 0x00400000 0x1000ffff)
  -- b, pc 00400000 to 00440004: refusal 16
  pub b_too_far : BuildRefuses Commit (region 0x00400000 0x10000000) (patch 0 0x00440004) 16 (pos 0x00440004) 0x00400000
  -- b, pc 00400000 to 003c0004
  pub b_back : build_outcome Commit (table_of []) [] (region 0x00400000 0x10000000) (patch 0 0x003c0004) ≡ builds (region 0x00400000 0x10000000)
  -- b, pc 00400000 to 003c0000: refusal 16
  pub b_too_far_back : BuildRefuses Commit (region 0x00400000 0x10000000) (patch 0 0x003c0000) 16 (pos 0x003c0000) 0x00400000
  -- j (Op 2), pc 0ffffffc to 10000000
  pub j_next_page : build_outcome Commit (table_of []) [] (region 0x0ffffffc 0x08000000) (patch 1 0x10000000) ≡ builds (region 0x0ffffffc 0x08000000)
  -- j (Op 2), pc 0ffffffc to 0ffffff8: refusal 16
  pub j_other_page : BuildRefuses Commit (region 0x0ffffffc 0x08000000) (patch 1 0x0ffffff8) 16 (pos 0x0ffffff8) 0x0ffffffc
  -- and those of jobs by the manual and for Release 6 boards
  pub manual : ManualRows
  pub release_6 : Release6Rows

pub marked : MarkedTable
unfolding emit_outcome line_outcome table_line list_stop layout_stop room_stop edge_stop meaning word_bytes pendings_bytes pcs_bytes append pseudo_in pseudo_line encoding_line load_pairs label_pairs is_immediate immediate_pairs breakpoint_ok filled_layout pending_buffer_layout breakpoint_buffer_layout data_buffer_layout fields_ok descriptor_ok descriptor_layout mnemonic_ok one_mnemonic mnemonic_layout mnemonic_name read_operand read_operands symbol_label to_label get_label braced after_label get_offset_or_label get_register get_fp_register get_cc signed get_integer get_constant get_value passed peek step next_adjacent peek_adjacent pending_ok address_label_ok payload_of payload_ok token_ok token_layout tokens is_small form_of load_words first_where first_later first_stop places_f places_from places first_bad first_bad_of within_limit all same_bytes as_bytes pcs_from build_outcome build_verdict layout_verdicts write_patches write_pending pending_verdict reach_verdict order_from keep in_range jump_in_range branch_in_range field_value field_width destination kind_from pending_layout entry_layout entry_ok region_layout region_records region_ok resolve label_layout label_ok set_field
marked = record {
  addu = refl;
  li_least = refl;
  li_past = refl;
  li_upper = refl;
  li_both = refl;
  lw_far = refl;
  lw_dropped = refl;
  lw_brace = record { returned_is = refl; counts_stay = refl; lent_stays = refl };
  abs = refl;
  sll = refl;
  b_forward = refl;
  b_too_far = record { returned_is = refl; regions_stay = refl };
  b_back = refl;
  b_too_far_back = record { returned_is = refl; regions_stay = refl };
  j_next_page = refl;
  j_other_page = record { returned_is = refl; regions_stay = refl };
  manual = record {
    abs = refl;
    word_size = refl;
    sll_most = refl;
    sll_over = record { returned_is = refl; counts_stay = refl; lent_stays = refl };
    sll_far_over = record { returned_is = refl; counts_stay = refl; lent_stays = refl };
    sll_nowhere = record { returned_is = refl; counts_stay = refl; lent_stays = refl };
    code_over = record { returned_is = refl; counts_stay = refl; lent_stays = refl };
    code_of_0 = record { returned_is = refl; counts_stay = refl; lent_stays = refl };
    code_of_7 = record { returned_is = refl; counts_stay = refl; lent_stays = refl };
    sll_there = record { returned_is = refl; counts_stay = refl; lent_stays = refl };
    code_there = record { returned_is = refl; counts_stay = refl; lent_stays = refl };
    code_alone = record { returned_is = refl; counts_stay = refl; lent_stays = refl };
    b_forward = refl;
    b_too_far = record { returned_is = refl; regions_stay = refl };
    b_back = refl;
    b_too_far_back = record { returned_is = refl; regions_stay = refl };
  };
  release_6 = record {
    jr_ra = refl;
    jr_by_72 = refl;
    jr_by_manual = refl;
    eight_elsewhere = refl;
    mflo_dropped = record { returned_is = refl; counts_stay = refl; lent_stays = refl };
    mflo_nowhere = record { returned_is = refl; counts_stay = refl; lent_stays = refl };
    mflo_there = record { returned_is = refl; counts_stay = refl; lent_stays = refl };
    mult_third = record { returned_is = refl; counts_stay = refl; lent_stays = refl };
    mult_two = refl;
    code_first = record { returned_is = refl; counts_stay = refl; lent_stays = refl };
    immediate_last = record { returned_is = refl; counts_stay = refl; lent_stays = refl };
    alternative_used = refl;
    immediate_lands = refl;
    load_immediate_lands = refl;
    offset_lands = refl;
    float_offset_lands = refl;
  };
}
