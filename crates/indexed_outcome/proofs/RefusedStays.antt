-- A refused call with an index leaves its four counts and every lent byte as they were, also those of the index. Assumes nothing.
use Rattle.std.specs.Prelude.{ℕ, Bool, true, false, List, ◌≡◌, refl, length, leb, Err, Ok}
use Rattle.std.proofs.Common.{sym, ap, ap₂, ◌∙◌}
use Rattle.jobs.specs.declared.Job.{Job}
use Rattle.refusal.specs.declared.Refusal.{Refusal}
use Rattle.emit_outcome.specs.Answer.{EmitAnswer, refused_at}
use Rattle.emit_outcome.proofs.AnswerLaws.{refused_parts}
use Rattle.emit_outcome.specs.Emit.{emit_outcome}
use Rattle.emit_outcome.specs.Call.{filled_pending}
use Rattle.label_uses.specs.UseBytes.{index_of}
use Rattle.indexed_outcome.specs.Indexed.{IndexedCall, IndexedOutcome, indexed_stop, indexed_refuse, indexed_accept, indexed_by, indexed_unless, indexed_outcome}
use Rattle.indexed_outcome.proofs.BesideLaws.{indexed_is, passes_is, accept_fits, accept_short}
use Rattle.refusal.specs.Verdicts.{Verdict}
use Rattle.name_order.proofs.OrderLaws.{never}

pub refused_stays : (job : Job) (x : IndexedCall) (r : Refusal) (position : ℕ) → (indexed_outcome job x).answer ≡ refused_at r position → indexed_outcome job x ≡ indexed_refuse x r position
refused_stays job x r position e = go (indexed_stop x) refl
  where
    -- The outcome of some refusal at some position is that of the refusal and position in the answer.
    same : (r' : Refusal) (p : ℕ) → indexed_outcome job x ≡ indexed_refuse x r' p → indexed_outcome job x ≡ indexed_refuse x r position
    same r' p i =
        let j : ◌≡◌ {A = EmitAnswer} (refused_at r' p) (refused_at r position) = sym (ap (λ (y : IndexedOutcome). y.answer) i) ∙ e in
        let k = refused_parts j in
        i ∙ ap₂ (indexed_refuse x) k.0 k.1

    go : (v : Verdict) → indexed_stop x ≡ v → indexed_outcome job x ≡ indexed_refuse x r position
    go (Err r') s = same r' x.call.numbers.place.position (indexed_is job x ∙ ap (indexed_unless job x) s)
    go (Ok tt) s = answered (emit_outcome job x.call).answer refl
      where
        n : List ℕ
        n = index_of x.labels (filled_pending (emit_outcome job x.call).lent (emit_outcome job x.call).counts)

        answered : (a : EmitAnswer) → (emit_outcome job x.call).answer ≡ a → indexed_outcome job x ≡ indexed_refuse x r position
        answered (Err refused) f = same refused.refusal refused.position (passes_is job x s ∙ ap (indexed_by x (emit_outcome job x.call)) f)
        answered (Ok done) f = room (leb (length n) (length x.index)) refl
          where
            by : indexed_outcome job x ≡ indexed_accept x (emit_outcome job x.call) n (Ok done) done.position
            by = passes_is job x s ∙ ap (indexed_by x (emit_outcome job x.call)) f

            room : (b : Bool) → leb (length n) (length x.index) ≡ b → indexed_outcome job x ≡ indexed_refuse x r position
            room true b =
                let i : (indexed_outcome job x).answer ≡ Ok done = ap (λ (y : IndexedOutcome). y.answer) (by ∙ accept_fits job x (Ok done) done.position b) in
                never (cc)
            room false b = same _ done.position (by ∙ accept_short job x (Ok done) done.position b)
