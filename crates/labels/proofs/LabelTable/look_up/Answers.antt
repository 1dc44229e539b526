use Rattle.labels.proofs.LookupLaws.{few_found, look_own, look_other}
use Rattle.labels.proofs.LabelTable.look_up.Goals as goal

pub look_for_all-requires : goal.look_for_all-requires
look_for_all-requires c = few_found _ _ c.self.invariant _ _ c.find-own.result c.find-own.ensures

pub returns-in-Some : goal.returns-in-Some
returns-in-Some c = rw (← c.self.view_is) (look_own _ _ _ _ c.find-own.result c.find-own.ensures _ c.in-Some.is)

pub returns-in-None : goal.returns-in-None
returns-in-None c =
    rw (← c.self.view_is) (look_other _ _ _ _ c.find-own.result c.find-own.ensures _ (rw (← c.self.view_is) at c.look_for_all.ensures) c.in-None.is)
