-- Refusal 1 for the lists that a line only reads. Assumes nothing.
use Rattle.std.specs.Prelude.{ℕ, List}
use Rattle.refusal.specs.Verdicts.{and_then, layout_verdict, Verdict}
use Rattle.lexer.specs.Tokens.{token_layout}
use Rattle.descriptors.specs.Mnemonics.{mnemonic_layout}
use Rattle.descriptors.specs.Descriptors.{descriptor_layout}

-- "1. A record breaks the layout", of the tokens, the mnemonic and the descriptors: "the least a, then the least b"
unfoldable pub line_lists_stop : (token_list mnemonic descriptors : List ℕ) → Verdict
unfolding token_layout mnemonic_layout descriptor_layout
line_lists_stop token_list mnemonic descriptors =
    and_then (layout_verdict 0 (token_layout token_list)) (and_then (layout_verdict 1 (mnemonic_layout mnemonic)) (layout_verdict 2 (descriptor_layout descriptors)))
