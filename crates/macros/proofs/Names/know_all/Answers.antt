use Rattle.std.proofs.Common.{ℕ, Bool, List, ◌&&◌, map, sym, ap, ◌∙◌}
use Rattle.record.specs.Left.{places_left}
use Rattle.record.proofs.WalkLaws.{turn}
use Rattle.lexer.specs.Tokens.{token_ok}
use Rattle.lexer.proofs.TokensLaws.{token_good, token_is}
use Rattle.line_heads.specs.Lines.{record_at, records_of}
use Rattle.macros.specs.Macros.{name_at, name_places, known}
use Rattle.macros.proofs.KnownLaws.{known_first}
use Rattle.macros.proofs.Names.know_all.Goals as goal

pub loop-at-init : goal.loop-at-init
unfolding records_of
loop-at-init c = cc

pub knows-requires : goal.knows-requires
knows-requires c =
    let s = c.args.body.now in
    let t = turn s _ _ _ (cc) c.loop-at.yielded_by c.in-Some.ensures.steps in
    token_is s c.in-Some.at (t.passes (token_ok s) (token_good s c.requires).1)

pub returns-then-not-knows : goal.returns-then-not-knows
returns-then-not-knows c =
    let ps = map (name_at c.args.self.now.list.now) (name_places c.args.self.now.count c.args.self.now.list.now c.args.self.now.at) in
    sym (c.loop-at.invariant ∙ known_first ps c.args.body.now _ _ _ c.in-Some.ensures.steps ∙ ap (λ (b : Bool). b && known ps (map (record_at c.args.body.now) (places_left c.next.new.self))) (sym c.if-not-knows.ensures))

pub loop-at-preserved : goal.loop-at-preserved
loop-at-preserved c =
    let ps = map (name_at c.args.self.now.list.now) (name_places c.args.self.now.count c.args.self.now.list.now c.args.self.now.at) in
    c.loop-at.invariant ∙ known_first ps c.args.body.now _ _ _ c.in-Some.ensures.steps ∙ ap (λ (b : Bool). b && known ps (map (record_at c.args.body.now) (places_left c.next.new.self))) (sym c.if-not-knows.ensures)

pub returns : goal.returns
unfolding known
returns c =
    let ps = map (name_at c.args.self.now.list.now) (name_places c.args.self.now.count c.args.self.now.list.now c.args.self.now.at) in
    sym (c.loop-at.invariant ∙ ap (λ (l : List ℕ). known ps (map (record_at c.args.body.now) l)) c.in-None.ensures.steps.0)
