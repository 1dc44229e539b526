-- Laws of a call with an index, compared with the same call without one: what each check says. Assumes nothing.
use Rattle.std.specs.Prelude.{ℕ, ◌⊎◌, List, Bool, true, false, ◌≡◌, length, leb, Err, None, Ok, Option, Some}
use Rattle.std.proofs.Common.{arith, inl, inr, sym, ap, ap₂, ◌∙◌, subst}
use Rattle.std.proofs.Math.Path.{refl}
use Rattle.jobs.specs.declared.Job.{Job}
use Rattle.record.specs.Stores.{append}
use Rattle.refusal.specs.Verdicts.{and_then, layout_verdict, name_verdict, Verdict}
use Rattle.refusal.specs.declared.Refusal.{Refusal}
use Rattle.refusal.specs.declared.Refusal.TheVariants.{BadLayout, DuplicateName, NoIndexSpace}
use Rattle.labels.specs.Labels.{label_layout, label_repeat}
use Rattle.descriptors.specs.Descriptors.{descriptor_repeat}
use Rattle.descriptors.specs.Mnemonics.{mnemonic_location}
use Rattle.loading.specs.declared.LoadForm.{LoadForm}
use Rattle.emit_outcome.specs.Call.{Call, EmitOutcome, filled_pending}
use Rattle.emit_outcome.specs.Checks.{layout_stop, list_stop}
use Rattle.emit_outcome.specs.Emit.{refuse, call_refused, list_outcome, emit_outcome}
use Rattle.emit_outcome.proofs.Refused.{refused_stays}
use Rattle.emit_outcome.specs.Answer.{EmitAnswer, done_at, refused_at}
use Rattle.label_uses.specs.UseBytes.{index_of, index_layout}
use Rattle.indexed_outcome.specs.Indexed.{IndexedCall, IndexedOutcome, indexed_stop, indexed_refuse, indexed_accept, indexed_by, indexed_unless, indexed_outcome}
use Rattle.indexed_outcome.specs.Beside.{Added, labels_bad, index_bad, labels_share, no_room, SameCall}
use Rattle.name_order.proofs.OrderLaws.{never}

layout_stop_lem : (n : ℕ) (l : Option ℕ) (r : Refusal) → layout_verdict n l ≡ Err r → (place : ℕ) × (r ≡ BadLayout n place)
layout_stop_lem n None r e = never (cc)
layout_stop_lem n (Some p) r e = (p, cc)

name_stop : (n : ℕ) (l : Option ℕ) (r : Refusal) → name_verdict n l ≡ Err r → (place : ℕ) × (r ≡ DuplicateName n place)
name_stop n None r e = never (cc)
name_stop n (Some p) r e = (p, cc)

module _ (job : Job) (x : IndexedCall) where
  abbrev c : Call
  c = x.call

  -- the five checks before the line is read
  abbrev pub lists : Verdict
  lists = layout_stop c.token_list c.mnemonic c.descriptors c.lent c.numbers.place.region c.numbers.counts

  abbrev pub labels_well : Verdict
  labels_well = layout_verdict 6 (label_layout x.labels)

  abbrev pub index_well : Verdict
  index_well = layout_verdict 7 (index_layout x.labels (filled_pending c.lent c.numbers.counts) x.fill x.index)

  abbrev pub names_once : Verdict
  names_once = name_verdict 2 (descriptor_repeat c.descriptors)

  abbrev pub labels_once : Verdict
  labels_once = name_verdict 6 (label_repeat x.labels)

  pub stop_is : indexed_stop x ≡ and_then lists (and_then labels_well (and_then index_well (and_then names_once labels_once)))
  unfolding indexed_stop
  stop_is = refl

  pub indexed_is : indexed_outcome job x ≡ indexed_unless job x (indexed_stop x)
  unfolding indexed_outcome
  indexed_is = refl

  emit_is : emit_outcome job c ≡ list_outcome job c (and_then lists names_once)
  unfolding emit_outcome list_stop
  emit_is = refl

  abbrev Either : Type 0
  Either = SameCall job x ⊎ ((r : Refusal) × (position : ℕ) × ((indexed_outcome job x).answer ≡ refused_at r position) × Added r)

  -- Both calls stop for the same reason.
  stop_same : (r : Refusal) → indexed_stop x ≡ Err r → and_then lists names_once ≡ Err r → SameCall job x
  stop_same r e f =
      let i : indexed_outcome job x ≡ indexed_refuse x r c.numbers.place.position = indexed_is ∙ ap (indexed_unless job x) e in
      let o : emit_outcome job c ≡ call_refused c r = emit_is ∙ ap (list_outcome job c) f in
      record {
        answer_is = ap (λ (y : IndexedOutcome). y.answer) i ∙ sym (ap (λ (y : EmitOutcome). y.answer) o);
        counts_are = ap (λ (y : IndexedOutcome). y.counts.counts) i ∙ sym (ap (λ (y : EmitOutcome). y.counts) o);
        lent_is = ap (λ (y : IndexedOutcome). y.lent) i ∙ sym (ap (λ (y : EmitOutcome). y.lent) o);
      }

  both_stop : (r : Refusal) → indexed_stop x ≡ Err r → and_then lists names_once ≡ Err r → Either
  both_stop r e f = inl (stop_same r e f)

  -- Only the call with an index stops.
  added_stop : (r : Refusal) → indexed_stop x ≡ Err r → Added r → Either
  added_stop r e a = inr (r, c.numbers.place.position, ap (λ (y : IndexedOutcome). y.answer) (indexed_is ∙ ap (indexed_unless job x) e), a)

  pub passes_is : indexed_stop x ≡ Ok tt → indexed_outcome job x ≡ indexed_by x (emit_outcome job c) (emit_outcome job c).answer
  passes_is e = indexed_is ∙ ap (indexed_unless job x) e

  abbrev o : EmitOutcome
  o = emit_outcome job c

  abbrev new : List ℕ
  new = index_of x.labels (filled_pending o.lent o.counts)

  pub accept_fits : (answer : EmitAnswer) (position : ℕ) → leb (length new) (length x.index) ≡ true
      → indexed_accept x o new answer position ≡ record { answer = answer; counts = record { counts = o.counts; index = length new }; lent = o.lent; index = append x.index 0 new }
  accept_fits answer position e = rw (e, indexed_accept)

  pub accept_short : (answer : EmitAnswer) (position : ℕ) → leb (length new) (length x.index) ≡ false
      → indexed_accept x o new answer position ≡ indexed_refuse x (NoIndexSpace (mnemonic_location c.mnemonic)) position
  accept_short answer position e = rw (e, indexed_accept)

  refused_same : indexed_stop x ≡ Ok tt → (r : Refusal) (p : ℕ) → o.answer ≡ refused_at r p → SameCall job x
  refused_same e r p f =
      let i : indexed_outcome job x ≡ indexed_refuse x r p = passes_is e ∙ ap (indexed_by x o) f in
      let s : o ≡ refuse c.numbers.counts c.lent p r = refused_stays job c r p f in
      record {
        answer_is = ap (λ (y : IndexedOutcome). y.answer) i ∙ sym f;
        counts_are = ap (λ (y : IndexedOutcome). y.counts.counts) i ∙ sym (ap (λ (y : EmitOutcome). y.counts) s);
        lent_is = ap (λ (y : IndexedOutcome). y.lent) i ∙ sym (ap (λ (y : EmitOutcome). y.lent) s);
      }

  done_is : indexed_stop x ≡ Ok tt → (p : ℕ) (l : LoadForm) → o.answer ≡ done_at p l → indexed_outcome job x ≡ indexed_accept x o new (done_at p l) p
  done_is e p l f = passes_is e ∙ ap (indexed_by x o) f

  done_same : indexed_stop x ≡ Ok tt → (p : ℕ) (l : LoadForm) → o.answer ≡ done_at p l → leb (length new) (length x.index) ≡ true → SameCall job x
  done_same e p l f b =
      let i = done_is e p l f ∙ accept_fits (done_at p l) p b in
      record {
        answer_is = ap (λ (y : IndexedOutcome). y.answer) i ∙ sym f;
        counts_are = ap (λ (y : IndexedOutcome). y.counts.counts) i;
        lent_is = ap (λ (y : IndexedOutcome). y.lent) i;
      }

  passed : indexed_stop x ≡ Ok tt → (a : EmitAnswer) → o.answer ≡ a → Either
  passed e (Err refused) f = inl (refused_same e refused.refusal refused.position f)
  passed e (Ok done) f = go (leb (length new) (length x.index)) refl
    where
      go : (b : Bool) → leb (length new) (length x.index) ≡ b → Either
      go true b = inl (done_same e done.position done.loaded f b)
      go false b =
          inr (NoIndexSpace (mnemonic_location c.mnemonic), done.position, ap (λ (y : IndexedOutcome). y.answer) (done_is e done.position done.loaded f ∙ accept_short (Ok done) done.position b), no_room (mnemonic_location c.mnemonic))

  pub beside : (a b d e f : Verdict) → lists ≡ a → labels_well ≡ b → index_well ≡ d → names_once ≡ e → labels_once ≡ f → Either
  beside (Err r) b d e f p q s t u =
      both_stop r (stop_is ∙ ap (λ (v : Verdict). and_then v (and_then labels_well (and_then index_well (and_then names_once labels_once)))) p) (ap (λ (v : Verdict). and_then v names_once) p)
  beside (Ok tt) (Err r) d e f p q s t u =
      let k = layout_stop_lem 6 (label_layout x.labels) r q in
      added_stop r (stop_is ∙ ap₂ (λ (v w : Verdict). and_then v (and_then w (and_then index_well (and_then names_once labels_once)))) p q) (subst Added (sym k.1) (labels_bad k.0))
  beside (Ok _) (Ok _) (Err r) e f p q s t u =
      let k = layout_stop_lem 7 (index_layout x.labels (filled_pending c.lent c.numbers.counts) x.fill x.index) r s in
      added_stop r
      (stop_is ∙ ap₂ (λ (v w : Verdict). and_then v (and_then w (and_then index_well (and_then names_once labels_once)))) p q ∙ ap (λ (v : Verdict). and_then v (and_then names_once labels_once)) s)
      (subst Added (sym k.1) (index_bad k.0))
  beside (Ok _) (Ok _) (Ok _) (Err r) f p q s t u =
      both_stop r
      (stop_is ∙ ap₂ (λ (v w : Verdict). and_then v (and_then w (and_then index_well (and_then names_once labels_once)))) p q
      ∙ ap₂ (λ (v w : Verdict). and_then v (and_then w labels_once)) s t)
      (ap₂ and_then p t)
  beside (Ok _) (Ok _) (Ok _) (Ok _) (Err r) p q s t u =
      let k = name_stop 6 (label_repeat x.labels) r u in
      added_stop r
      (stop_is ∙ ap₂ (λ (v w : Verdict). and_then v (and_then w (and_then index_well (and_then names_once labels_once)))) p q
      ∙ ap₂ (λ (v w : Verdict). and_then v (and_then w labels_once)) s t ∙ u)
      (subst Added (sym k.1) (labels_share k.0))
  beside (Ok _) (Ok _) (Ok _) (Ok _) (Ok _) p q s t u =
      passed
      (stop_is ∙ ap₂ (λ (v w : Verdict). and_then v (and_then w (and_then index_well (and_then names_once labels_once)))) p q
      ∙ ap₂ (λ (v w : Verdict). and_then v (and_then w labels_once)) s t ∙ u)
      o.answer refl

  -- A list that the call without index refuses is refused first here too.
  pub lists_stop : (r : Refusal) → lists ≡ Err r → SameCall job x
  lists_stop r p =
      stop_same r (stop_is ∙ ap (λ (v : Verdict). and_then v (and_then labels_well (and_then index_well (and_then names_once labels_once)))) p) (ap (λ (v : Verdict). and_then v names_once) p)

  -- If labels and index pass, no label repeats and the new index has room, the call is the same as without index.
  pub well_same : (a e : Verdict) → lists ≡ a → names_once ≡ e → labels_well ≡ Ok tt → index_well ≡ Ok tt → labels_once ≡ Ok tt → leb (length new) (length x.index) ≡ true → SameCall job x
  well_same (Err r) e p t q s u b = lists_stop r p
  well_same (Ok tt) (Err r) p t q s u b =
      stop_same r
      (stop_is ∙ ap₂ (λ (v w : Verdict). and_then v (and_then w (and_then index_well (and_then names_once labels_once)))) p q
      ∙ ap₂ (λ (v w : Verdict). and_then v (and_then w labels_once)) s t)
      (ap₂ and_then p t)
  well_same (Ok _) (Ok _) p t q s u b = go o.answer refl
    where
      passes : indexed_stop x ≡ Ok tt
      passes =
          stop_is ∙ ap₂ (λ (v w : Verdict). and_then v (and_then w (and_then index_well (and_then names_once labels_once)))) p q
          ∙ ap₂ (λ (v w : Verdict). and_then v (and_then w labels_once)) s t ∙ u

      go : (a : EmitAnswer) → o.answer ≡ a → SameCall job x
      go (Err refused) f = refused_same passes refused.refusal refused.position f
      go (Ok done) f = done_same passes done.position done.loaded f b
