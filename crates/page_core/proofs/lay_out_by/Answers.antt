use Rattle.std.specs.Prelude.{Ok}
use Rattle.std.proofs.Common.{◌≡◌, ℕ, List, length, sym, ◌∙◌, ap₂, arith}
use Rattle.std.proofs.lemmas.Result.{err_from_is_err_and}
use Rattle.reading.specs.Reading.{image_of}
use Rattle.page_outcome.specs.Page.{page_of, line_count}
use Rattle.page_outcome.proofs.Length.{page_length, page_most}
use Rattle.page_outcome.specs.Outcome.{PageOutcome}
use Rattle.page_core.proofs.OutcomeLaws.{lists_good, repeat_stops, room_stops, all_pass}
use Rattle.page_core.proofs.lay_out_by.Goals as goal
use Rattle.page_core.proofs.lay_out_by.Goals.{After-count_lines, After-put_page}

pub make-requires-clause-labels_value : goal.make-requires-clause-labels_value
make-requires-clause-labels_value g c = (lists_good _ _ _ c.requires.page_value).0

pub returns-in_err-table : goal.returns-in_err-table
returns-in_err-table g c =
    let p = err_from_is_err_and c.from_residual.result c.from_residual.ensures.1 in
    rw (p.1, p.2) (repeat_stops _ _ _ c.requires.page_value _ (sym c.in_err-table.ensures))

pub new-regions-requires : goal.new-regions-requires
new-regions-requires g c = (lists_good _ _ _ c.requires.page_value).1

-- the lines that are counted are those of the lent list
lines : (g : _) (c : After-count_lines g) → c.count_lines.result ≡ line_count (image_of c.args.regions.now)
lines g c = rw c.new-regions.ensures at c.count_lines.ensures.0

pub returns-then-page-count_lines : goal.returns-then-page-count_lines
returns-then-page-count_lines g c =
    let t = c.in_ok-table.ensures in
    room_stops _ _ _ c.requires.page_value (rw t.0 at t.1.distinct) (omega (arith, c.if-page-count_lines.true, lines g (goal.at.returns-then-page-count_lines g c).After-count_lines))

pub put_page-requires-clause-regions_in_bounds : goal.put_page-requires-clause-regions_in_bounds
put_page-requires-clause-regions_in_bounds g c =
    rw (c.in_ok-table.ensures.0, c.new-regions.ensures)
    (omega (arith, page_length c.args.labels.now c.args.regions.now, c.if-page-count_lines.false, lines g (goal.at.put_page-requires-clause-regions_in_bounds g c).After-count_lines))

-- the table's page is that of the labels
page_is : (g : _) (c : After-put_page g) → page_of c.in_ok-table.table.list c.new-regions.result ≡ page_of c.args.labels.now c.args.regions.now
page_is g c = rw (c.in_ok-table.ensures.0, c.new-regions.ensures)

pub overflow_cast-result : goal.overflow_cast-result
overflow_cast-result g c =
    omega (
      arith,
      rw (page_is g (goal.at.overflow_cast-result g c).After-put_page) at c.put_page.ensures.ends,
      page_most c.args.labels.now c.args.regions.now (lists_good _ _ _ c.requires.page_value).1,
    )

pub returns : goal.returns
returns g c =
    let a = c.args in
    let t = c.in_ok-table.ensures in
    let l = page_is g (goal.at.returns g c).After-put_page in
    let e : c.put_page.result ≡ length (page_of a.labels.now a.regions.now) = omega (arith, rw l at c.put_page.ensures.ends) in
    let o : ℕ → List ℕ → PageOutcome = λ n bytes. record { answer = Ok n; page = bytes } in
    all_pass a.labels.now a.regions.now a.page.now c.requires.page_value (rw t.0 at t.1.distinct)
    (omega (arith, c.if-page-count_lines.false, lines g (goal.at.returns g c).After-count_lines))
    ∙ sym (ap₂ o e (rw l at c.put_page.ensures.bytes))
