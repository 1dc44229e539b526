-- The next call with the same labels takes the index that an accepted call leaves. Assumes nothing.
use Rattle.std.specs.Prelude.{ℕ, ◌≤◌, List, Bool, true, false, ◌≡◌, refl, length, leb, Err, None, Ok, Option}
use Rattle.std.proofs.Common.{sym, ap, ◌∙◌, leb-true}
use Rattle.jobs.specs.declared.Job.{Job}
use Rattle.record.specs.Records.{limit}
use Rattle.refusal.proofs.VerdictsLaws.{both_pass, layout_pass}
use Rattle.refusal.specs.declared.Refusal.TheVariants.{NoIndexSpace}
use Rattle.descriptors.specs.Mnemonics.{mnemonic_location}
use Rattle.loading.specs.declared.LoadForm.{LoadForm}
use Rattle.emit_outcome.specs.Emit.{emit_outcome}
use Rattle.emit_outcome.specs.Answer.{EmitAnswer, done_at, refused_at}
use Rattle.emit_outcome.specs.Call.{filled_pending}
use Rattle.label_uses.specs.UseBytes.{index_of, index_layout}
use Rattle.label_uses.proofs.IndexLaws.{index_taken, index_room}
use Rattle.indexed_outcome.specs.Indexed.{IndexedCall, IndexedOutcome, indexed_stop, indexed_accept, indexed_by, indexed_unless, indexed_outcome}
use Rattle.indexed_outcome.proofs.BesideLaws.{lists, labels_well, index_well, stop_is, indexed_is, passes_is, accept_fits, accept_short}
use Rattle.refusal.specs.Verdicts.{Verdict}
use Rattle.name_order.proofs.OrderLaws.{never}

pub next_takes : (job : Job) (x : IndexedCall) (position : ℕ) (loaded : LoadForm) → (indexed_outcome job x).answer ≡ done_at position loaded
    → index_layout x.labels (filled_pending (indexed_outcome job x).lent (indexed_outcome job x).counts.counts) (indexed_outcome job x).counts.index (indexed_outcome job x).index ≡ None
next_takes job x position loaded e = go (indexed_stop x) refl
  where
    fresh : IndexedOutcome → Option ℕ
    fresh y = index_layout x.labels (filled_pending y.lent y.counts.counts) y.counts.index y.index

    go : (v : Verdict) → indexed_stop x ≡ v → fresh (indexed_outcome job x) ≡ None
    go (Err r) s =
        let i : (indexed_outcome job x).answer ≡ refused_at r x.call.numbers.place.position = ap (λ (y : IndexedOutcome). y.answer) (indexed_is job x ∙ ap (indexed_unless job x) s) in
        never (cc)
    go (Ok tt) s = answered (emit_outcome job x.call).answer refl
      where
        n : List ℕ
        n = index_of x.labels (filled_pending (emit_outcome job x.call).lent (emit_outcome job x.call).counts)

        well : length x.index ≤ limit
        well =
            let a = both_pass (lists job x) _ (sym (stop_is job x) ∙ s) in
            let b = both_pass (labels_well job x) _ a.1 in
            let d = both_pass (index_well job x) _ b.1 in
            index_room x.labels (filled_pending x.call.lent x.call.numbers.counts) x.fill x.index (layout_pass 7 _ d.0)

        answered : (a : EmitAnswer) → (emit_outcome job x.call).answer ≡ a → fresh (indexed_outcome job x) ≡ None
        answered (Err refused) f =
            let i : (indexed_outcome job x).answer ≡ Err refused = ap (λ (y : IndexedOutcome). y.answer) (passes_is job x s ∙ ap (indexed_by x (emit_outcome job x.call)) f) in
            never (cc)
        answered (Ok done) f = room (leb (length n) (length x.index)) refl
          where
            by : indexed_outcome job x ≡ indexed_accept x (emit_outcome job x.call) n (Ok done) done.position
            by = passes_is job x s ∙ ap (indexed_by x (emit_outcome job x.call)) f

            room : (b : Bool) → leb (length n) (length x.index) ≡ b → fresh (indexed_outcome job x) ≡ None
            room true b =
                ap fresh (by ∙ accept_fits job x (Ok done) done.position b)
                ∙ index_taken x.labels (filled_pending (emit_outcome job x.call).lent (emit_outcome job x.call).counts) x.index (leb-true (length n) (length x.index) b) well
            room false b =
                let i : (indexed_outcome job x).answer ≡ refused_at (NoIndexSpace (mnemonic_location x.call.mnemonic)) done.position = ap (λ (y : IndexedOutcome). y.answer) (by ∙ accept_short job x (Ok done) done.position b) in
                never (cc)
