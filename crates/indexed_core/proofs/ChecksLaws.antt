-- Laws of the checks of the lists: the first that stops, and what is known if all pass. Assumes nothing.
use Rattle.std.specs.Prelude.{ℕ, ◌≤◌, List, Bool, true, false, ◌≡◌, refl, length, take, ltb, None, Ok, Option, Some}
use Rattle.std.proofs.Common.{arith, sym, ◌∙◌, ltb-true, ltb-false}
use Rattle.std.proofs.Math.Path.{ap, ap₂}
use Rattle.record.specs.Bytes.{same_bytes}
use Rattle.record.specs.Records.{places, first_bad, limit}
use Rattle.refusal.specs.Verdicts.{and_then, layout_verdict, name_verdict, Verdict}
use Rattle.refusal.proofs.VerdictsLaws.{both_pass, layout_pass}
use Rattle.lexer.specs.Tokens.{token_layout}
use Rattle.descriptors.specs.Mnemonics.{mnemonic_layout}
use Rattle.descriptors.specs.Descriptors.{descriptor_layout, descriptor_repeat}
use Rattle.labels.specs.Labels.{label_layout, label_repeat}
use Rattle.pending.specs.Pendings.{pending_ok}
use Rattle.breakpoints.specs.Breakpoints.{data_buffer_layout, pending_buffer_layout}
use Rattle.breakpoints.proofs.BreakpointsLaws.{pending_buffer_good}
use Rattle.emit_outcome.specs.Call.{Call, Lent, filled_pending}
use Rattle.emit_outcome.specs.Checks.{layout_stop, list_stop}
use Rattle.emit_outcome.specs.declared.FillCounts.{FillCounts}
use Rattle.label_uses.specs.UseBytes.{index_of, index_layout}
use Rattle.label_uses.proofs.IndexLaws.{layout_long, layout_over, layout_by}
use Rattle.indexed_outcome.specs.Indexed.{IndexedCall, indexed_stop}
use Rattle.name_order.proofs.OrderLaws.{never}

-- If a check of an index names a place, the place is at most the limit.
pub index_place : (labels pending index : List ℕ) (fill p : ℕ) → index_layout labels pending fill index ≡ Some p → p ≤ limit
index_place labels pending index fill p e = go (ltb limit (length index)) refl
  where
    by_bytes : (b : Bool) → ◌≡◌ {A = Option ℕ} (elim b [ true ↦ None | false ↦ Some 0 ]) (Some p) → p ≤ limit
    by_bytes true f = never (cc)
    by_bytes false f = let q : 0 ≡ p = cc in omega arith

    go : (b : Bool) → ltb limit (length index) ≡ b → p ≤ limit
    go true b = let q : limit ≡ p = cc (layout_long labels pending fill index (ltb-true limit (length index) b)) in omega arith
    go false b = filled (ltb (length index) fill) refl (ltb-false limit (length index) b)
      where
        filled : (t : Bool) → ltb (length index) fill ≡ t → length index ≤ limit → p ≤ limit
        filled true t h = let q : length index ≡ p = cc (layout_over labels pending fill index h (ltb-true (length index) fill t)) in omega arith
        filled false t h =
            by_bytes (same_bytes (take fill index) (index_of labels pending)) (sym (layout_by labels pending fill index h (ltb-false (length index) fill t) refl) ∙ e)

-- What is known of the pending buffer if the six layouts pass.
pub pending_passes : (token_list mnemonic descriptors : List ℕ) (lent : Lent) (region : ℕ) (counts : FillCounts) → layout_stop token_list mnemonic descriptors lent region counts ≡ Ok tt
    → (length lent.pending ≤ limit) × (counts.pending ≤ length lent.pending) × (first_bad (pending_ok 16 (filled_pending lent counts)) (places (filled_pending lent counts)) ≡ None)
unfolding layout_stop
pending_passes token_list mnemonic descriptors lent region counts e =
    let t = both_pass (layout_verdict 0 (token_layout token_list)) _ e in
    let m = both_pass (layout_verdict 1 (mnemonic_layout mnemonic)) _ t.1 in
    let d = both_pass (layout_verdict 2 (descriptor_layout descriptors)) _ m.1 in
    let r = both_pass (layout_verdict 3 (data_buffer_layout region counts.data_len lent.region_data)) _ d.1 in
    let p = both_pass (layout_verdict 4 (pending_buffer_layout counts.pending lent.pending)) _ r.1 in
    pending_buffer_good counts.pending lent.pending (layout_pass 4 (pending_buffer_layout counts.pending lent.pending) p.0)

module _ (x : IndexedCall) where
  abbrev c : Call
  c = x.call

  abbrev six : Verdict
  six = layout_stop c.token_list c.mnemonic c.descriptors c.lent c.numbers.place.region c.numbers.counts

  abbrev index_layout_lem : Option ℕ
  index_layout_lem = index_layout x.labels (filled_pending c.lent c.numbers.counts) x.fill x.index

  pub stops_are : (v : Verdict) (a b : Option ℕ) (d e : Option ℕ) → six ≡ v → label_layout x.labels ≡ a → index_layout_lem ≡ b → descriptor_repeat c.descriptors ≡ d → label_repeat x.labels ≡ e
      → indexed_stop x ≡ and_then v (and_then (layout_verdict 6 a) (and_then (layout_verdict 7 b) (and_then (name_verdict 2 d) (name_verdict 6 e))))
  unfolding indexed_stop
  stops_are v a b d e hv ha hb hd he =
      ap₂ (λ (p : Verdict) (q : Option ℕ). and_then p (and_then (layout_verdict 6 q) (and_then (layout_verdict 7 index_layout_lem) (and_then (name_verdict 2 (descriptor_repeat c.descriptors)) (name_verdict 6 (label_repeat x.labels)))))) hv ha
      ∙ ap₂ (λ (p : Option ℕ) (q : Option ℕ). and_then v (and_then (layout_verdict 6 a) (and_then (layout_verdict 7 p) (and_then (name_verdict 2 q) (name_verdict 6 (label_repeat x.labels)))))) hb hd
      ∙ ap (λ (p : Option ℕ). and_then v (and_then (layout_verdict 6 a) (and_then (layout_verdict 7 b) (and_then (name_verdict 2 d) (name_verdict 6 p))))) he

  -- what is known if all checks pass
  pub record AllPass : Type 0 where
    pub six_pass : six ≡ Ok tt
    pub lists_pass : list_stop c.token_list c.mnemonic c.descriptors c.lent c.numbers.place.region c.numbers.counts ≡ Ok tt
    pub labels_good : label_layout x.labels ≡ None
    pub index_good : index_layout_lem ≡ None

  pub all_pass : indexed_stop x ≡ Ok tt → AllPass
  unfolding indexed_stop list_stop
  all_pass e =
      let l = both_pass six _ e in
      let a = both_pass (layout_verdict 6 (label_layout x.labels)) _ l.1 in
      let b = both_pass (layout_verdict 7 index_layout_lem) _ a.1 in
      let d = both_pass (name_verdict 2 (descriptor_repeat c.descriptors)) _ b.1 in
      record {
        six_pass = l.0;
        lists_pass = ap₂ and_then l.0 d.0;
        labels_good = layout_pass 6 (label_layout x.labels) a.0;
        index_good = layout_pass 7 index_layout_lem b.0;
      }
