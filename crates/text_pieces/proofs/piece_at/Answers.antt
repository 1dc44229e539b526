-- Each arm is the piece of its class.
use Rattle.std.proofs.Common.{◌∙◌}
use Rattle.text_pieces.proofs.NumberLaws.{piece_is}
use Rattle.text_pieces.proofs.piece_at.Goals as goal

pub returns-in-Blank : goal.returns-in-Blank
returns-in-Blank c = piece_is _ _ _ _ c.class_of.ensures c.in-Blank.is

pub returns-in-Newline : goal.returns-in-Newline
returns-in-Newline c = piece_is _ _ _ _ c.class_of.ensures c.in-Newline.is

pub returns-in-Digit : goal.returns-in-Digit
returns-in-Digit c = c.number_at.ensures ∙ piece_is _ _ _ _ c.class_of.ensures c.in-Digit.is

pub returns-in-Letter : goal.returns-in-Letter
returns-in-Letter c = c.symbol_at.ensures ∙ piece_is _ _ _ _ c.class_of.ensures c.in-Letter.is

pub returns-in-Mark : goal.returns-in-Mark
returns-in-Mark c = c.mark_at.ensures ∙ piece_is _ _ _ _ c.class_of.ensures c.in-Mark.is

pub returns-in-Nothing : goal.returns-in-Nothing
returns-in-Nothing c = piece_is _ _ _ _ c.class_of.ensures c.in-Nothing.is
