-- How its checks decide the answer of a lookup. Assumes nothing.
use Rattle.std.specs.Prelude.{ℕ, ◌≤◌, ◌<◌, List, ◌≡◌, refl, length, Err, None, Ok, Option, Some}
use Rattle.std.proofs.Common.{sym, ap, ◌∙◌}
use Rattle.std.proofs.Math.Path.{ap₂}
use Rattle.record.specs.Records.{within_limit, limit}
use Rattle.record.proofs.RecordsLaws.{limit_kept, limit_passed}
use Rattle.refusal.specs.Verdicts.{and_then, layout_verdict, name_verdict, Verdict}
use Rattle.refusal.proofs.VerdictsLaws.{both_pass, layout_pass}
use Rattle.refusal.specs.declared.Refusal.{Refusal}
use Rattle.refusal.specs.declared.Refusal.TheVariants.{BadLayout, DuplicateName}
use Rattle.labels.specs.Labels.{label_layout, label_repeat, resolve}
use Rattle.labels.specs.Lookup.{looked_up}
use Rattle.labels.specs.declared.Found.{Found}
use Rattle.name_index.specs.Index.{IndexOf}
use Rattle.label_finder.specs.Ordered.{ordered_index}
use Rattle.label_finder.proofs.OrderedLaws.{one_index}
use Rattle.label_finder.specs.Find.{layout_verdicts, found_in, answer_by, find_label, FindIs}

module _ (labels name : List ℕ) where
  -- ---- refusal 1
  layouts_are : (a b : Option ℕ) → label_layout labels ≡ a → within_limit name None ≡ b → layout_verdicts labels name ≡ and_then (layout_verdict 0 a) (layout_verdict 1 b)
  unfolding layout_verdicts
  layouts_are a b e f = ap₂ (λ (x y : Option ℕ). and_then (layout_verdict 0 x) (layout_verdict 1 y)) e f

  pub labels_bad : (place : ℕ) → label_layout labels ≡ Some place → Err (BadLayout 0 place) ≡ layout_verdicts labels name
  labels_bad place e = sym (layouts_are (Some place) (within_limit name None) e refl)

  pub labels_stop : (r : Refusal) → Err r ≡ layout_verdict 0 (label_layout labels) → Err r ≡ layout_verdicts labels name
  labels_stop r e = ap (λ (v : Verdict). and_then v (layout_verdict 1 (within_limit name None))) e ∙ sym (layouts_are (label_layout labels) (within_limit name None) refl refl)

  pub labels_good : label_layout labels ≡ None → layout_verdicts labels name ≡ layout_verdict 1 (within_limit name None)
  labels_good e = layouts_are None (within_limit name None) e refl

  pub name_long : label_layout labels ≡ None → limit < length name → Err (BadLayout 1 limit) ≡ layout_verdicts labels name
  name_long e h = sym (layouts_are None (Some limit) e (limit_passed name None h))

  pub both_good : label_layout labels ≡ None → length name ≤ limit → (Ok tt) ≡ layout_verdicts labels name
  both_good e h = sym (layouts_are None None e (limit_kept name None h))

  pub labels_are : layout_verdicts labels name ≡ Ok tt → label_layout labels ≡ None
  unfolding layout_verdicts
  labels_are p = layout_pass 0 (label_layout labels) (both_pass (layout_verdict 0 (label_layout labels)) _ p).0

  -- ---- the answer
  module _ (source : ℕ) where
    answer_by_lem : (v : Verdict) → layout_verdicts labels name ≡ v → (n : Option ℕ) → label_repeat labels ≡ n
        → find_label labels name source ≡ answer_by (and_then v (name_verdict 0 n)) (found_in labels name source)
    unfolding find_label
    answer_by_lem v e n f = ap₂ (λ (a : Verdict) (b : Option ℕ). answer_by (and_then a (name_verdict 0 b)) (found_in labels name source)) e f

    pub stopped : (r : Refusal) → layout_verdicts labels name ≡ Err r → FindIs labels name source (Err r)
    stopped r e = record { answer_is = sym (answer_by_lem (Err r) e (label_repeat labels) refl); few = tt }

    module _ (p : layout_verdicts labels name ≡ Ok tt) where
      pub repeated : (place : ℕ) → label_repeat labels ≡ Some place → FindIs labels name source (Err (DuplicateName 0 place))
      repeated place e = record { answer_is = sym (answer_by_lem (Ok tt) p (Some place) e); few = tt }

      pub names_stop : (r : Refusal) → Err r ≡ name_verdict 0 (label_repeat labels) → FindIs labels name source (Err r)
      names_stop r e = record { answer_is = ap (λ (v : Verdict). answer_by v (found_in labels name source)) e ∙ sym (answer_by_lem (Ok tt) p (label_repeat labels) refl); few = tt }

      pub looked : (found : Found) (index : List ℕ) → label_repeat labels ≡ None → IndexOf 4 labels index → found.address ≡ resolve labels source name
          → found.compared ≡ (looked_up labels index source name).compared → found.compared ≤ 32 → FindIs labels name source (Ok found)
      looked found index e ix a c h =
          let i : found.compared ≡ (looked_up labels (ordered_index labels) source name).compared = c ∙ ap (λ (l : List ℕ). (looked_up labels l source name).compared) (one_index labels index ix) in
          record { answer_is = ap Ok (ap₂ (λ x y. record { address = x; compared = y }) a i) ∙ sym (answer_by_lem (Ok tt) p None e); few = h }
