-- Laws of making an index afresh: how its checks decide the outcome. Assumes nothing.
use Rattle.std.specs.Prelude.{ℕ, ◌≤◌, ◌<◌, List, Bool, true, false, ◌≡◌, length, take, leb, Err, None, Ok, Option}
use Rattle.std.proofs.Common.{arith, sym, ap, ap₂, ◌∙◌, length-take, leb-true, le-leb}
use Rattle.std.proofs.Math.Path.{refl}
use Rattle.std.proofs.lemmas.Bool.{lt-leb}
use Rattle.record.specs.Records.{places, first_bad, within_limit, limit}
use Rattle.record.proofs.RecordsLaws.{limit_good, limit_kept}
use Rattle.record.specs.Stores.{append}
use Rattle.refusal.specs.Numbers.{zero_location}
use Rattle.refusal.specs.Verdicts.{and_then, layout_verdict, name_verdict, Verdict}
use Rattle.refusal.proofs.VerdictsLaws.{both_pass, layout_pass}
use Rattle.refusal.specs.declared.Refusal.TheVariants.{NoIndexSpace}
use Rattle.labels.specs.Labels.{label_layout, label_repeat}
use Rattle.pending.specs.Pendings.{pending_ok, pending_layout}
use Rattle.breakpoints.specs.Breakpoints.{pending_buffer_layout}
use Rattle.breakpoints.proofs.BreakpointsLaws.{pending_buffer_good}
use Rattle.label_uses.specs.UseBytes.{index_of}
use Rattle.indexed_outcome.specs.Make.{room_for, make_layouts, make_stop, make_by, make_outcome, made_of}
use Rattle.name_order.proofs.OrderLaws.{never}

-- a list of pendings within the limit
pub kept_layout : (pending : List ℕ) → first_bad (pending_ok 16 pending) (places pending) ≡ None → length pending ≤ limit → pending_layout 16 pending ≡ None
unfolding pending_layout
kept_layout pending g h = limit_kept pending (first_bad (pending_ok 16 pending) (places pending)) h ∙ g

-- ---- by the room
pub room_yes : (new index : List ℕ) → length new ≤ length index → make_by (room_for new index) new index ≡ made_of (Ok (length new)) (append index 0 new)
room_yes new index h = rw (le-leb (length new) (length index) h, room_for)

pub room_no : (new index : List ℕ) → length index < length new → make_by (room_for new index) new index ≡ made_of (Err (NoIndexSpace zero_location)) index
room_no new index h = rw (lt-leb (length new) (length index) h, room_for)

-- ---- by the checks
module _ (fill : ℕ) (pending labels index : List ℕ) where
  abbrev new : List ℕ
  new = index_of labels (take fill pending)

  pub made_is : make_outcome fill pending labels index ≡ make_by (make_stop fill pending labels index) new index
  unfolding make_outcome
  made_is = refl

  layouts_so : make_layouts fill pending labels index
      ≡ and_then (layout_verdict 0 (pending_buffer_layout fill pending)) (and_then (layout_verdict 1 (label_layout labels)) (layout_verdict 2 (within_limit index None)))
  unfolding make_layouts
  layouts_so = refl

  pub stop_is : make_stop fill pending labels index ≡ and_then (make_layouts fill pending labels index) (and_then (name_verdict 1 (label_repeat labels)) (room_for new index))
  unfolding make_stop
  stop_is = refl

  pub room_pass : room_for new index ≡ Ok tt → length new ≤ length index
  room_pass e = go (leb (length new) (length index)) refl
    where
      go : (b : Bool) → leb (length new) (length index) ≡ b → length new ≤ length index
      go true b = leb-true (length new) (length index) b
      go false b =
          let s : room_for new index ≡ Err (NoIndexSpace zero_location) = rw (b, room_for) in
          never (cc)

  -- the layouts of the three buffers one after the other
  pub layouts_are : (a b c : Option ℕ) → pending_buffer_layout fill pending ≡ a → label_layout labels ≡ b → within_limit index None ≡ c
      → make_layouts fill pending labels index ≡ and_then (layout_verdict 0 a) (and_then (layout_verdict 1 b) (layout_verdict 2 c))
  layouts_are a b c ha hb hc = layouts_so ∙ rw (ha, hb, hc)

  pub record Layouts : Type 0 where
    pub pending_good : pending_buffer_layout fill pending ≡ None
    pub labels_good : label_layout labels ≡ None
    pub index_short : length index ≤ limit

  pub layouts_good : make_layouts fill pending labels index ≡ Ok tt → Layouts
  layouts_good e =
      let a = both_pass (layout_verdict 0 (pending_buffer_layout fill pending)) _ (sym layouts_so ∙ e) in
      let b = both_pass (layout_verdict 1 (label_layout labels)) _ a.1 in
      record {
        pending_good = layout_pass 0 (pending_buffer_layout fill pending) a.0;
        labels_good = layout_pass 1 (label_layout labels) b.0;
        index_short = (limit_good index None (layout_pass 2 (within_limit index None) b.1)).0;
      }

  -- the outcome by the layouts and the labels' names
  pub outcome_by : (v : Verdict) (r : Option ℕ) → make_layouts fill pending labels index ≡ v → label_repeat labels ≡ r
      → make_outcome fill pending labels index ≡ make_by (and_then v (and_then (name_verdict 1 r) (room_for new index))) new index
  outcome_by v r e f = made_is ∙ ap (λ (x : Verdict). make_by x new index) (stop_is ∙ ap₂ (λ (x : Verdict) (y : Option ℕ). and_then x (and_then (name_verdict 1 y) (room_for new index))) e f)

  pub filled_layout : pending_buffer_layout fill pending ≡ None → pending_layout 16 (take fill pending) ≡ None
  filled_layout g =
      let p = pending_buffer_good fill pending g in
      kept_layout (take fill pending) p.2 (omega (arith, p.0, length-take fill pending))
