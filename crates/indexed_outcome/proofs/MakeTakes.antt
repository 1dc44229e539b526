-- The next call takes an index that was made afresh. A buffer as long as the pending list always has room for it. Assumes nothing.
use Rattle.std.specs.Prelude.{ℕ, ◌≤◌, List, ◌≡◌, refl, length, take, Err, None, Ok}
use Rattle.std.proofs.Common.{arith, sym, ap, ◌∙◌, length-take, le-leb}
use Rattle.record.specs.Stores.{append}
use Rattle.refusal.specs.Verdicts.{name_verdict, Verdict}
use Rattle.refusal.proofs.VerdictsLaws.{both_pass}
use Rattle.labels.specs.Labels.{label_repeat}
use Rattle.breakpoints.specs.Breakpoints.{pending_buffer_layout}
use Rattle.label_uses.specs.UseBytes.{index_of, index_layout}
use Rattle.label_uses.proofs.IndexLaws.{index_taken}
use Rattle.label_uses.proofs.IndexFits.{index_fits}
use Rattle.indexed_outcome.specs.Make.{MakeOutcome, room_for, make_layouts, make_stop, make_by, make_outcome}
use Rattle.indexed_outcome.proofs.MakeLaws.{made_is, stop_is, room_pass, layouts_good, filled_layout}
use Rattle.name_order.proofs.OrderLaws.{never}

module _ (fill : ℕ) (pending labels index : List ℕ) where
  abbrev new : List ℕ
  new = index_of labels (take fill pending)

  -- What is made is the right index for the next call with the same labels.
  pub make_takes : (n : ℕ) → (make_outcome fill pending labels index).answer ≡ Ok n → index_layout labels (take fill pending) n (make_outcome fill pending labels index).index ≡ None
  make_takes n e = go (make_stop fill pending labels index) refl
    where
      go : (v : Verdict) → make_stop fill pending labels index ≡ v → index_layout labels (take fill pending) n (make_outcome fill pending labels index).index ≡ None
      go (Err r) s =
          let i : (make_outcome fill pending labels index).answer ≡ Err r = ap (λ (o : MakeOutcome). o.answer) (made_is fill pending labels index ∙ ap (λ (v : Verdict). make_by v new index) s) in
          never (cc)
      go (Ok tt) s =
          let i = made_is fill pending labels index ∙ ap (λ (v : Verdict). make_by v new index) s in
          let k : (make_outcome fill pending labels index).answer ≡ Ok (length new) = ap (λ (o : MakeOutcome). o.answer) i in
          let m : n ≡ length new = cc in
          let l = both_pass (make_layouts fill pending labels index) _ (sym (stop_is fill pending labels index) ∙ s) in
          let d = both_pass (name_verdict 1 (label_repeat labels)) _ l.1 in
          let w = (layouts_good fill pending labels index l.0).index_short in
          ap (λ (x : List ℕ). index_layout labels (take fill pending) n x) (ap (λ (o : MakeOutcome). o.index) i)
          ∙ ap (λ (f : ℕ). index_layout labels (take fill pending) f (append index 0 new)) m
          ∙ index_taken labels (take fill pending) index (room_pass fill pending labels index d.1) w

  -- A buffer as long as the pending list's fill is never too short.
  pub make_roomy : pending_buffer_layout fill pending ≡ None → fill ≤ length index → room_for (index_of labels (take fill pending)) index ≡ Ok tt
  make_roomy g h =
      let k = index_fits labels (take fill pending) (filled_layout fill pending labels index g) in
      let l : length new ≤ length index = omega (arith, length-take fill pending) in
      rw (le-leb (length new) (length index) l, room_for)
