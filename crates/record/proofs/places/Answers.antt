use Rattle.std.proofs.Common.{sym}
use Rattle.record.proofs.RecordsLaws.{places_all, places_few}
use Rattle.record.proofs.places.Goals as goal

pub returns-clause-value : goal.returns-clause-value
returns-clause-value c = sym (places_all c.args.list.now)

pub returns-clause-few : goal.returns-clause-few
returns-clause-few c = places_few c.args.list.now 0
