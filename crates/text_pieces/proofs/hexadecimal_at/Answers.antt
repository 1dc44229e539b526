-- No more digits are counted than the text has.
use Rattle.std.proofs.Common.{◌+◌, drop, sym, arith, length-drop}
use Rattle.text_pieces.proofs.LeadingLaws.{leading_le}
use Rattle.text_pieces.specs.Numbers.{is_digit_of}
use Rattle.text_pieces.proofs.NumbersLaws.{number_is}
use Rattle.text_pieces.proofs.NumberLaws.{number_read}
use Rattle.text_pieces.proofs.hexadecimal_at.Goals as goal

pub overflow_add-result : goal.overflow_add-result
overflow_add-result c =
    let s = c.args.place.now.text.now in
    let start = c.args.place.now.at + 2 in
    let read = number_read 16 s start _ _ c.number_in.ensures c.in-Some.is in
    omega (arith, number_is 16 (drop start s) _ _ (sym read), leading_le (is_digit_of 16) (drop start s), length-drop start s)
