-- The checks of an emit call that read its lists and operands: 1 and 2, and 4 to 8 (document 01, 'Where the work stops'). Assumes nothing.
use Rattle.std.specs.Prelude.{ℕ, List, true, false, eqb}
use Rattle.record.specs.declared.Location.{Location}
use Rattle.refusal.specs.Verdicts.{and_then, layout_verdict, name_verdict, Verdict}
use Rattle.refusal.specs.declared.Refusal.{Refusal}
use Rattle.refusal.specs.declared.Refusal.TheVariants.{EndOfFile, ExpectedRegister, ExpectedConstant, ExpectedLabel, ExpectedRightBrace}
use Rattle.lexer.specs.Tokens.{token_layout}
use Rattle.operand.specs.declared.Miss.{Miss}
use Rattle.operand.specs.declared.Miss.TheVariants.{EndOfFile as NoToken, ExpectedRegister as NoRegister, ExpectedConstant as NoConstant, ExpectedLabel as NoLabel, ExpectedRightBrace as NoBrace}
use Rattle.descriptors.specs.Mnemonics.{mnemonic_layout}
use Rattle.descriptors.specs.Descriptors.{descriptor_layout, descriptor_repeat}
use Rattle.breakpoints.specs.Breakpoints.{data_buffer_layout, pending_buffer_layout, breakpoint_buffer_layout}
use Rattle.emit_outcome.specs.declared.FillCounts.{FillCounts}
use Rattle.emit_outcome.specs.Call.{Lent}

-- "1. A record breaks the layout .. (a: buffer in argument order from 0 ..; the least a, then the least b)"
unfoldable pub layout_stop : (token_list mnemonic descriptors : List ℕ) → Lent → (region : ℕ) → FillCounts → Verdict
unfolding token_layout mnemonic_layout descriptor_layout data_buffer_layout pending_buffer_layout breakpoint_buffer_layout
layout_stop token_list mnemonic descriptors lent region counts =
    and_then (layout_verdict 0 (token_layout token_list))
    (and_then (layout_verdict 1 (mnemonic_layout mnemonic))
    (and_then (layout_verdict 2 (descriptor_layout descriptors))
    (and_then (layout_verdict 3 (data_buffer_layout region counts.data_len lent.region_data))
    (and_then (layout_verdict 4 (pending_buffer_layout counts.pending lent.pending))
    (layout_verdict 5 (breakpoint_buffer_layout counts.breakpoints lent.breakpoints))))))

-- "2. Two descriptors .. share a name"
unfoldable pub list_stop : (token_list mnemonic descriptors : List ℕ) → Lent → (region : ℕ) → FillCounts → Verdict
unfolding layout_stop
list_stop token_list mnemonic descriptors lent region counts =
    and_then (layout_stop token_list mnemonic descriptors lent region counts) (name_verdict 2 (descriptor_repeat descriptors))

-- "for 5 to 8 the met token's [location] unless that is NewLine"
abbrev pub met_location : Location → ℕ → Location → Location
met_location line kind met = elim (eqb kind 13) [ true ↦ line | false ↦ met ]

-- 4 to 8, for a line whose mnemonic is at `line`
abbrev pub miss_refusal : Location → Miss → Refusal
miss_refusal line NoToken = EndOfFile line
miss_refusal line (NoRegister kind met) = ExpectedRegister (met_location line kind met) kind
miss_refusal line (NoConstant kind met) = ExpectedConstant (met_location line kind met) kind
miss_refusal line (NoLabel kind met) = ExpectedLabel (met_location line kind met) kind
miss_refusal line (NoBrace kind met) = ExpectedRightBrace (met_location line kind met) kind
