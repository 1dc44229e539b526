use Rattle.std.specs.Prelude.{Option, ℕ}
use Rattle.std.proofs.Common.{sym, ap}
use Rattle.linked_answer.specs.Words.{low_word}
use Rattle.linked_label.specs.LinkedLabel.{address_words}
use Rattle.linked_label.proofs.found_words.Goals as goal

pub returns-in-Some : goal.returns-in-Some
unfolding low_word
returns-in-Some c = sym (ap (λ (a : Option ℕ). address_words a c.args.found.compared) c.in-Some.is)

pub returns-in-None : goal.returns-in-None
unfolding low_word
returns-in-None c = sym (ap (λ (a : Option ℕ). address_words a c.args.found.compared) c.in-None.is)
