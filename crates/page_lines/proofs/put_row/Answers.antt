use Rattle.std.proofs.Common.{ℕ, List, sym, subst, ap, ◌∙◌, arith}
use Rattle.io.specs.Digits.{last_digits}
use Rattle.text.specs.Text.{Put}
use Rattle.text.proofs.TextLaws.{text_whole, text_part}
use Rattle.page_outcome.specs.Page.{word_line}
use Rattle.page_lines.proofs.put_row.Goals as goal

pub returns-then-bytes-eq4 : goal.returns-then-bytes-eq4
returns-then-bytes-eq4 c =
    let word = ap (last_digits 16 8) c.word_at.ensures ∙ sym (text_whole c.args.bytes.now c.if-bytes-eq4.true) in
    subst (λ (text : List ℕ). Put c.args.out.now c.args.at (word_line c.args.pc text c.args.name.now) c.put_word.new.out c.put_word.result) word c.put_word.ensures

pub returns-else-bytes-eq4 : goal.returns-else-bytes-eq4
returns-else-bytes-eq4 c =
    subst (λ (text : List ℕ). Put c.args.out.now c.args.at (word_line c.args.pc text c.args.name.now) c.put_part.new.out c.put_part.result)
    (sym (text_part c.args.bytes.now (λ e. omega arith))) c.put_part.ensures
