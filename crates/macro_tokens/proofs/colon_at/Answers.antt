use Rattle.std.proofs.Common.{ℕ, eqb, sym, ap, subst, ◌∙◌}
use Rattle.record.specs.Records.{kind_at}
use Rattle.line_heads.specs.Lines.{starts_colon}
use Rattle.macro_tokens.specs.Places.{token_record, TokenIn}
use Rattle.macro_tokens.proofs.PlacesLaws.{token, place_in, read_here, read_end}
use Rattle.macro_tokens.proofs.colon_at.Goals as goal

pub place_at-requires : goal.place_at-requires
place_at-requires c =
    let a = c.args in
    (c.requires.readable, token a.source.now.text.now a.source.now.macros.now a.reading.now.list.now a.reading.now.body a.at c.requires c.if-at-reading.true)

pub kind_of-requires : goal.kind_of-requires
kind_of-requires c =
    let a = c.args in
    subst (TokenIn a.source.now.text.now a.source.now.macros.now) (sym c.place_at.ensures) (place_in a.source.now.text.now a.source.now.macros.now a.reading.now.list.now a.reading.now.body a.at c.requires c.if-at-reading.true)

pub returns-then-at-reading : goal.returns-then-at-reading
returns-then-at-reading c =
    let a = c.args in
    ap (λ (k : ℕ). eqb k 12) (c.kind_of.ensures ∙ ap (λ (p : ℕ). kind_at (token_record a.source.now.text.now a.source.now.macros.now p) 0) c.place_at.ensures)
    ∙ sym (ap starts_colon (read_here a.source.now.text.now a.source.now.macros.now a.reading.now.list.now a.reading.now.body a.at c.requires c.if-at-reading.true))

pub returns-else-at-reading : goal.returns-else-at-reading
returns-else-at-reading c =
    let a = c.args in
    sym (ap starts_colon (read_end a.source.now.text.now a.source.now.macros.now a.reading.now.list.now a.reading.now.body a.at c.if-at-reading.false))
