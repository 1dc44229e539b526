-- The call's checks, given the length of its buffer. Assumes nothing.
use Rattle.std.specs.Prelude.{ℕ, List, Bool, true, false, leb, None, Option, Some, Result, Ok, Err}
use Rattle.record.specs.Records.{limit}
use Rattle.refusal.specs.declared.Refusal.{Refusal}
use Rattle.refusal.specs.Verdicts.{and_then, layout_verdict, name_verdict, Verdict}
use Rattle.lexer.specs.Tokens.{token_layout}
use Rattle.macros.specs.Macros.{macro_layout, macro_repeat}

abbrev pub room_layout : (room : ℕ) → Option ℕ
room_layout room = elim (leb room limit) [ true ↦ None | false ↦ Some limit ]

unfoldable pub stop_by : (tokens macros : List ℕ) → (room : ℕ) → Verdict
unfolding token_layout macro_layout macro_repeat
stop_by tokens macros room =
    and_then (layout_verdict 0 (token_layout tokens))
    (and_then (layout_verdict 1 (macro_layout macros)) (and_then (layout_verdict 2 (room_layout room)) (name_verdict 1 (macro_repeat macros))))

abbrev pub is_written : Result ℕ Refusal → Bool
is_written (Ok f) = true
is_written (Err r) = false
