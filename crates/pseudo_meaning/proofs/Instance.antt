-- The premises of P11 can be met: a branch, a set with a literal, and abs, each emitted, built and run, and what the theorems say there.
-- Assumes nothing.
use Rattle.std.specs.Prelude.{ℕ, refl, true, false}
use Rattle.std.proofs.Common.{arith, subst}
use Rattle.registers.specs.declared.RegisterSlot.TheVariants.{Temporary2}
use Rattle.address_label.specs.declared.AddressLabel.TheVariants.{Constant}
use Rattle.loading.specs.Run.{read_register}
use Rattle.pseudo_meaning.specs.Lines.{line_words}
use Rattle.pseudo_meaning.specs.Premises.{Reached}
use Rattle.pseudo_meaning.specs.Meaning.{Branches, Leaves, line_run}
use Rattle.pseudo_meaning.specs.LinesAlone.{holding}
use Rattle.pseudo_meaning.proofs.BranchMeansLaws.{branch_means}
use Rattle.pseudo_meaning.proofs.SetMeansLaws.{set_means}
use Rattle.pseudo_meaning.proofs.AbsMeansLaws.{abs_means}
use Rattle.pseudo_meaning.proofs.InstanceLaws.{bge_line, bge_operands, bge_evaluated, sle_line, sle_operands, sle_evaluated, abs_line, abs_operands, abs_evaluated, emitted, placed}

reached : Reached bge_line (Constant 0x00400010) 0x00400010
reached = record { known = refl; multiple = refl; back = λ e. omega (arith, bge_evaluated.behind); ahead = λ e. omega (arith, bge_evaluated.behind) }

-- 0 >= 0 holds: the run goes to the destination
pub bge_goes : Branches true 0x00400010 0x00400008 2 (holding 0 0 7 0x00400000) (line_run bge_line (holding 0 0 7 0x00400000))
unfolding read_register
bge_goes =
    let m = holding 0 0 7 0x00400000 in
    let b = branch_means bge_line false false bge_operands 0x00400010 m (emitted bge_evaluated) (placed bge_evaluated) reached tt (record { there = bge_evaluated.starts; all_32 = refl }) in
    subst (λ (n : ℕ). Branches true 0x00400010 0x00400008 n m (line_run bge_line m)) bge_evaluated.count
    (subst (λ (a : ℕ). Branches true 0x00400010 a (line_words bge_line) m (line_run bge_line m)) bge_evaluated.behind b)

-- -1 <= 40000 holds: 1 in $t2
pub sle_leaves : Leaves 1 Temporary2 0x0040000C 3 (holding 0xFFFFFFFF 0 7 0x00400000) (line_run sle_line (holding 0xFFFFFFFF 0 7 0x00400000))
unfolding read_register
sle_leaves =
    let m = holding 0xFFFFFFFF 0 7 0x00400000 in
    let l = set_means sle_line true false sle_operands m (emitted sle_evaluated) (placed sle_evaluated) (λ e. omega arith) (λ e. omega arith) (record { there = sle_evaluated.starts; all_32 = refl }) in
    subst (λ (n : ℕ). Leaves 1 Temporary2 0x0040000C n m (line_run sle_line m)) sle_evaluated.count
    (subst (λ (a : ℕ). Leaves 1 Temporary2 a (line_words sle_line) m (line_run sle_line m)) sle_evaluated.behind l)

-- of -5: 5 in $t2
pub abs_leaves : Leaves 5 Temporary2 0x0040000C 3 (holding 0xFFFFFFFB 0 7 0x00400000) (line_run abs_line (holding 0xFFFFFFFB 0 7 0x00400000))
unfolding read_register
abs_leaves =
    let m = holding 0xFFFFFFFB 0 7 0x00400000 in
    let l = abs_means abs_line abs_operands m refl (emitted abs_evaluated) (placed abs_evaluated) (λ e. omega arith) (λ e. omega arith) (λ e. omega arith)
    (record { there = abs_evaluated.starts; all_32 = refl }) (omega arith) in
    subst (λ (n : ℕ). Leaves 5 Temporary2 0x0040000C n m (line_run abs_line m)) abs_evaluated.count
    (subst (λ (a : ℕ). Leaves 5 Temporary2 a (line_words abs_line) m (line_run abs_line m)) abs_evaluated.behind l)
