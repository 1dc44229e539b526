-- All that depends on the sort of job (document 02, P5: "Old jobs still equal the commit"; P9: "otherwise follows P5"). Assumes nothing.
use Rattle.std.specs.Prelude.{ℕ, ◌+◌, ◌*◌, ◌%◌, ◌^◌, [], ◌∷◌, Bool, true, false, ◌&&◌, ◌||◌, get_or, leb, eqb, None, Option, Some}
use Rattle.instructions.specs.declared.Size.{Size}
use Rattle.instructions.specs.declared.Size.TheVariants.{Single, Double, Word}
use Rattle.instructions.specs.declared.Opcode.{Opcode}
use Rattle.instructions.specs.declared.Opcode.TheVariants.{Op, Func, Special, Algebra, Cop1, Cop1I}
use Rattle.jobs.specs.declared.Job.{Job}
use Rattle.jobs.specs.declared.Job.TheVariants.{Commit, Manual, Release6}
use Rattle.jobs.specs.declared.Format.{Format}

-- the jobs by their numbers, 0 to 2 (docs/DECISIONS.md)
abbrev pub job_numbered : ℕ → Option Job
job_numbered n = get_or (Some Commit ∷ Some Manual ∷ Some Release6 ∷ []) n None

-- P9: "A Release 6 job .. otherwise follows P5": it follows the manual too
abbrev pub by_manual : Job → Bool
by_manual Commit = false
by_manual Manual = true
by_manual Release6 = true

abbrev pub is_release6 : Job → Bool
is_release6 Commit = false
is_release6 Manual = false
is_release6 Release6 = true

-- ---- emit calls

-- the field fmt; document 01: "Size Word is 18 where the manual has 20."
abbrev pub commit_code : Size → ℕ
commit_code Single = 16
commit_code Double = 17
commit_code Word = 18

-- "In them Word is 20"
abbrev pub manual_code : Size → ℕ
manual_code Single = 16
manual_code Double = 17
manual_code Word = 20

abbrev pub size_code : Format → ℕ
size_code fmt = elim (by_manual fmt.job) [ true ↦ manual_code fmt.size | false ↦ commit_code fmt.size ]

abbrev pub format_of : Job → Size → Format
format_of job size = record { job = job; size = size }

-- "abs first emits sra $at,source,31": the source in rt, 1 in rd, 31 in sa, function 3. The commit writes 31 over rd, sa and function.
abbrev pub abs_first_word : Job → (rt : ℕ) → ℕ
abs_first_word job rt = elim (by_manual job) [ true ↦ rt * 2 ^ 16 + 1 * 2 ^ 11 + 31 * 2 ^ 6 + 3 | false ↦ rt * 2 ^ 16 + 31 ]

-- "19, a shift amount outside 0 to 31; 20, a condition code outside 0 to 7; both tested on the full 64-bit operand"
abbrev pub shift_within : Job → ℕ → Bool
shift_within job amount = elim (by_manual job) [ true ↦ leb amount 31 | false ↦ true ]

abbrev pub code_within : Job → ℕ → Bool
code_within job code = elim (by_manual job) [ true ↦ leb code 7 | false ↦ true ]

-- an opcode of class Func with that function: its key is taken modulo 64, as in the word
abbrev pub is_function : ℕ → Opcode → Bool
is_function function (Func key) = eqb (key % 64) function
is_function function (Op key) = false
is_function function (Special key) = false
is_function function (Algebra key) = false
is_function function (Cop1 key) = false
is_function function (Cop1I key) = false

-- P9: "A Release 6 job changes function 8 under the Source encoding to 9"
abbrev pub source_opcode : Job → Opcode → Opcode
source_opcode job op = elim (is_release6 job && is_function 8 op) [ true ↦ Func 9 | false ↦ op ]

-- P9: "27, an Inputs line with a third operand or a Func 18 line in a Release 6 job"
abbrev pub is_dropped : Job → (third : Bool) → Opcode → Bool
is_dropped job third op = is_release6 job && (third || is_function 18 op)

-- ---- builds

-- "a branch distance outside -32,768 to 32,767 gets refusal 16"; document 01: "-0x10000 to 0xFFFF is accepted"
abbrev pub most_back : Job → ℕ
most_back job = elim (by_manual job) [ true ↦ 32768 | false ↦ 0x10000 ]

abbrev pub most_ahead : Job → ℕ
most_ahead job = elim (by_manual job) [ true ↦ 32767 | false ↦ 0xFFFF ]
