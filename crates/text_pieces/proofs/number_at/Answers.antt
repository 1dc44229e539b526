-- Hexadecimal behind `0x`, else decimal.
use Rattle.std.proofs.Common.{sym, ap, ◌∙◌}
use Rattle.text_pieces.specs.Pieces.{decimal_piece}
use Rattle.text_pieces.proofs.NumberLaws.{number_hex, number_decimal, number_read}
use Rattle.text_pieces.proofs.number_at.Goals as goal

pub returns-then-is_hexadecimal : goal.returns-then-is_hexadecimal
returns-then-is_hexadecimal c = c.hexadecimal_at.ensures ∙ number_hex _ _ (sym c.is_hexadecimal.ensures ∙ c.if-is_hexadecimal.true)

pub returns-in-Some : goal.returns-in-Some
returns-in-Some c =
    ap decimal_piece (number_read 10 c.args.place.now.text.now c.args.place.now.at _ _ c.number_in.ensures c.in-Some.is)
    ∙ number_decimal c.args.place.now.text.now c.args.place.now.at (sym c.is_hexadecimal.ensures ∙ c.if-is_hexadecimal.false)

pub returns-in-None : goal.returns-in-None
returns-in-None c =
    ap decimal_piece (number_read 10 c.args.place.now.text.now c.args.place.now.at _ _ c.number_in.ensures c.in-None.is)
    ∙ number_decimal c.args.place.now.text.now c.args.place.now.at (sym c.is_hexadecimal.ensures ∙ c.if-is_hexadecimal.false)
