use denote.Enum.Declared.{tag_of}
use Rattle.std.proofs.Common.{◌≡◌, refl}
use Rattle.machine.specs.declared.Reason.{Reason}
use Rattle.machine.specs.declared.Reason.TheVariants.{Allowance, Pc, Word, Overflow}
use Rattle.machine.specs.contracts.Reason.{the_type}
use Rattle.linked_dry_run.specs.LinkedDryRun.{reason_number}
use Rattle.linked_dry_run.proofs.LinkedDryRunLaws.{reason_low}
use Rattle.linked_dry_run.proofs.run_words.Goals as goal

-- the enum's own numbers
number : (reason : Reason) → tag_of the_type reason ≡ reason_number reason
number Allowance = refl
number Pc = refl
number Word = refl
number Overflow = refl

pub returns-in-Ok : goal.returns-in-Ok
returns-in-Ok c = rw (c.in-Ok.is, reason_low, number c.in-Ok.field-0.reason) refl
