-- Laws of what a job changes. Assumes nothing.
use Rattle.std.specs.Prelude.{◌≤◌, ◌<◌, Bool, true, false}
use Rattle.std.proofs.Common.{arith, lit<}
use Rattle.instructions.specs.declared.Size.{Size}
use Rattle.instructions.specs.declared.Size.TheVariants.{Single, Double, Word}
use Rattle.jobs.specs.declared.Job.{Job}
use Rattle.jobs.specs.declared.Format.{Format}
use Rattle.jobs.specs.Jobs.{by_manual, commit_code, manual_code, size_code, most_back, most_ahead}

-- If it holds of the manual's value and of the commit's, it holds of every job's.
pub by_either : {A : Type 0} (P : A → Type 0) {manual commit : A} → P manual → P commit → (job : Job) → P (elim (by_manual job) [ true ↦ manual | false ↦ commit ])
by_either P {manual} {commit} m c job = go (by_manual job)
  where
    go : (b : Bool) → P (elim b [ true ↦ manual | false ↦ commit ])
    go true = m
    go false = c

commit_lt : (size : Size) → commit_code size < 32
commit_lt Single = lit< tt
commit_lt Double = lit< tt
commit_lt Word = lit< tt

manual_lt : (size : Size) → manual_code size < 32
manual_lt Single = lit< tt
manual_lt Double = lit< tt
manual_lt Word = lit< tt

-- a float format's code fits a field of five bits
pub size_lt : (fmt : Format) → size_code fmt < 32
size_lt fmt = by_either (λ n. n < 32) (manual_lt fmt.size) (commit_lt fmt.size) fmt.job

-- no branch reaches farther than 17 signed bits
pub back_le : (job : Job) → most_back job ≤ 0x10000
back_le = by_either (λ n. n ≤ 0x10000) (omega arith) (omega arith)

pub ahead_le : (job : Job) → most_ahead job ≤ 0xFFFF
ahead_le = by_either (λ n. n ≤ 0xFFFF) (omega arith) (omega arith)
