use Rattle.std.proofs.Common.{length, ◌∙◌, ap, arith, rules}
use Rattle.record.specs.Records.{places_from}
use Rattle.record.proofs.RecordsLaws.{places_step, places_cut, places_end}
use Rattle.record.proofs.IterIterator.next.Goals as goal
use Rattle.record.proofs.IterIterator.next.Goals.{then-whole_at, else-whole_at}

pub returns-then-at-self-clause-steps : goal.returns-then-at-self-clause-steps
returns-then-at-self-clause-steps c =
    let e = places_end c.args.self.now.list.now c.args.self.now.at (omega arith) in
    (e, e)

pub returns-clause-steps : goal.returns-clause-steps
returns-clause-steps c =
    let s = c.args.self.now.list.now in
    let at = c.args.self.now.at in
    elim c.if-whole_at.branch [
      | then-whole_at w ↦
          let e = places_step s at c.if-at-self.false (cc) in
          let n = ap (places_from s) (w.self-is ∙ w.next-self.ensures.0) in
          cc
      | else-whole_at w ↦
          let e = places_cut s at c.if-at-self.false (cc) in
          let n = ap (places_from s) w.self-is ∙ places_end s _ (omega arith) in
          cc
    ]

pub returns-clause-goes : goal.returns-clause-goes
returns-clause-goes c =
    let e = ap length (returns-clause-steps c) in
    search rules
