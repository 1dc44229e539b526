-- A routine of accepted lines is a chain of calls, as ChainsLaws has it. Assumes nothing.
use Rattle.std.specs.Prelude.{ℕ, ◌≡◌, refl, List, [], ◌∷◌, ◌++◌, Bool, cond}
use Rattle.std.proofs.Common.{ap, subst, ◌∙◌, eq-eqb, ne_eqb}
use Rattle.emit_outcome.specs.Emit.{emit_outcome}
use Rattle.routine.specs.PatchValues.{Patch}
use Rattle.routine.specs.CallValues.{call_patches}
use Rattle.routine.specs.Run.{Buffers, RoutineLine, call_on, replaced, selected_after, after_line, run, AllAccepted, next as line_next, Each, OfBytes, routine_patches}
use Rattle.routine.proofs.LineFits.{LineFits, line_fits}
use Rattle.routine.specs.Chains.{JobCall, DataLengths, Appends, Chain, none, next, chain_patches}
use Rattle.routine.proofs.ChainsLaws.{Chained, chained}

abbrev pub job_call : RoutineLine → Buffers → JobCall
job_call l b = record { job = l.job; call = call_on l b }

unfoldable pub calls_of : List RoutineLine → Buffers → List JobCall
calls_of [] b = []
calls_of (l ∷ ls) b = job_call l b ∷ calls_of ls (after_line l b)

abbrev pub lengths_of : Buffers → DataLengths
lengths_of b = λ (r : ℕ). (b.region_data r).fill

pub line_appends : (l : RoutineLine) (b : Buffers) → LineFits l.job (call_on l b) (emit_outcome l.job (call_on l b)) → Appends (lengths_of b) (lengths_of (after_line l b)) (job_call l b)
line_appends l b f =
    let selected = l.place.region in
    let own : ((after_line l b).region_data selected).fill ≡ (emit_outcome l.job (call_on l b)).counts.data_len = rw (eq-eqb selected selected refl, replaced) in
    record {
      begins = refl;
      ends = own ∙ f.data_grown;
      others = λ r n. ap (λ (t : Bool). (cond t (selected_after l b) (b.region_data r)).fill) (ne_eqb r selected n);
    }

pub run_chain : (lines : List RoutineLine) (b : Buffers) → Each OfBytes lines → AllAccepted lines b → Chain (lengths_of b) (calls_of lines b) (lengths_of (run lines b))
unfolding calls_of run
run_chain [] b bytes a = none
run_chain (l ∷ ls) b bytes (line_next position loaded e a) =
    next (line_appends l b (line_fits l.job (call_on l b) position loaded bytes.0.0 bytes.0.1 e)) (run_chain ls (after_line l b) bytes.1 a)

pub calls_patches : (lines : List RoutineLine) (b : Buffers) → chain_patches (calls_of lines b) ≡ routine_patches lines b
unfolding calls_of chain_patches routine_patches
calls_patches [] b = refl
calls_patches (l ∷ ls) b = ap (λ (ps : List Patch). call_patches l.job (call_on l b) ++ ps) (calls_patches ls (after_line l b))

pub run_chained : (lines : List RoutineLine) (b : Buffers) → Each OfBytes lines → AllAccepted lines b → Chained (lengths_of b) (lengths_of (run lines b)) (routine_patches lines b)
run_chained lines b bytes a = subst (Chained (lengths_of b) (lengths_of (run lines b))) (calls_patches lines b) (chained (run_chain lines b bytes a))
