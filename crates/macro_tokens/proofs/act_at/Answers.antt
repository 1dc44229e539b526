use Rattle.std.proofs.Common.{refl}
use Rattle.line_heads.specs.Lines.{starts_colon}
use Rattle.macro_tokens.specs.Places.{token_record, read_from}
use Rattle.macro_tokens.proofs.MeantLaws.{in_leading, in_labelled, copied_line, copied_on, left_line, left_on}
use Rattle.macro_tokens.proofs.act_at.Goals as goal

pub returns-in-Leading : goal.returns-in-Leading
returns-in-Leading c =
    let a = c.args in
    let t = token_record a.callable.now.source.text.now a.callable.now.source.macros.now a.place in
    let ts = read_from a.callable.now.source.text.now a.callable.now.source.macros.now a.reading.now.list.now a.reading.now.body a.next in
    rw c.in-Leading.is (in_leading a.callable.now.source.macros.now a.callable.now.limit t c.kind_of-kind.result c.kind_of-kind.ensures ts (starts_colon ts) c.act_leading.result refl c.act_leading.ensures)

pub returns-in-Labelled : goal.returns-in-Labelled
returns-in-Labelled c =
    let a = c.args in
    rw c.in-Labelled.is (in_labelled a.callable.now.source.macros.now a.callable.now.limit _ c.kind_of-kind.result c.kind_of-kind.ensures (read_from a.callable.now.source.text.now a.callable.now.source.macros.now a.reading.now.list.now a.reading.now.body a.next))

pub returns-then-kind-eq-NEW_LINE : goal.returns-then-kind-eq-NEW_LINE
returns-then-kind-eq-NEW_LINE c =
    let a = c.args in
    rw c.in-Copied.is (copied_line a.callable.now.source.macros.now a.callable.now.limit _ c.kind_of-kind.result c.kind_of-kind.ensures (read_from a.callable.now.source.text.now a.callable.now.source.macros.now a.reading.now.list.now a.reading.now.body a.next) c.if-kind-eq-NEW_LINE.true)

pub returns-else-kind-eq-NEW_LINE : goal.returns-else-kind-eq-NEW_LINE
returns-else-kind-eq-NEW_LINE c =
    let a = c.args in
    rw c.in-Copied.is (copied_on a.callable.now.source.macros.now a.callable.now.limit _ c.kind_of-kind.result c.kind_of-kind.ensures (read_from a.callable.now.source.text.now a.callable.now.source.macros.now a.reading.now.list.now a.reading.now.body a.next) c.if-kind-eq-NEW_LINE.false)

pub returns-then-kind-eq-NEW_LINE-2 : goal.returns-then-kind-eq-NEW_LINE-2
returns-then-kind-eq-NEW_LINE-2 c =
    let a = c.args in
    rw c.in-LeftOut.is (left_line a.callable.now.source.macros.now a.callable.now.limit _ c.kind_of-kind.result c.kind_of-kind.ensures (read_from a.callable.now.source.text.now a.callable.now.source.macros.now a.reading.now.list.now a.reading.now.body a.next) c.if-kind-eq-NEW_LINE-2.true)

pub returns-else-kind-eq-NEW_LINE-2 : goal.returns-else-kind-eq-NEW_LINE-2
returns-else-kind-eq-NEW_LINE-2 c =
    let a = c.args in
    rw c.in-LeftOut.is (left_on a.callable.now.source.macros.now a.callable.now.limit _ c.kind_of-kind.result c.kind_of-kind.ensures (read_from a.callable.now.source.text.now a.callable.now.source.macros.now a.reading.now.list.now a.reading.now.body a.next) c.if-kind-eq-NEW_LINE-2.false)
