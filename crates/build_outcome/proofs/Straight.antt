-- "With kind 34 alone, answers equal the commit's" (document 02, P6): without owners in the label list, the outcome is the one defined before that
-- request, in answer and in every byte. That definition ignores the source of a name. Assumes nothing.
use Rattle.std.specs.Prelude.{◌≡◌, List, ℕ}
use Rattle.std.proofs.Common.{ap}
use Rattle.jobs.specs.declared.Job.{Job}
use Rattle.names.specs.Owners.{WithoutOwners}
use Rattle.labels.specs.Labels.{Table, table_of}
use Rattle.labels.specs.Straight.{straight_table}
use Rattle.labels.proofs.StraightLaws.{straight}
use Rattle.build_outcome.specs.Build.{build_outcome}

pub straight_build : (job : Job) (labels entry regions pending : List ℕ) → WithoutOwners labels
    → build_outcome job (table_of labels) entry regions pending ≡ build_outcome job (straight_table labels) entry regions pending
straight_build job labels entry regions pending w = ap (λ (table : Table). build_outcome job table entry regions pending) (straight labels w)
