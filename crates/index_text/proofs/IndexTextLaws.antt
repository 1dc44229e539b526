-- An index buffer over its limit is refused, however long it is. Assumes nothing.
use Rattle.std.specs.Prelude.{ℕ, ◌≤◌, ◌<◌, ◌++◌, List, Bool, true, false, ◌≡◌, refl, leb, length, Err, None, Ok, Some}
use Rattle.std.proofs.Common.{arith, sym, ap, ◌∙◌, length-append, length-take, take_all, leb-true, leb-false}
use Rattle.std.proofs.lemmas.Bool.{lt-leb}
use Rattle.record.specs.Texts.{bytes_of}
use Rattle.record.specs.Records.{limit, within_limit}
use Rattle.refusal.specs.Numbers.{numbered}
use Rattle.refusal.specs.Verdicts.{and_then, layout_verdict, Verdict}
use Rattle.refusal.specs.declared.Refusal.{Refusal}
use Rattle.refusal.specs.declared.Refusal.TheVariants.{BadLayout}
use Rattle.labels.specs.Labels.{label_layout, label_repeat}
use Rattle.breakpoints.specs.Breakpoints.{pending_buffer_layout}
use Rattle.input.specs.Input.{held}
use Rattle.text.specs.Text.{last_field, refused_line}
use Rattle.text.proofs.TextLaws.{last_most}
use Rattle.bytes_line.specs.BytesLine.{bytes_line}
use Rattle.bytes_line.proofs.BytesLineLaws.{bytes_length}
use Rattle.indexed_outcome.specs.Make.{make_outcome}
use Rattle.indexed_outcome.proofs.MakeLaws.{layouts_are, outcome_by}
use Rattle.name_order.proofs.OrderLaws.{never}
use Rattle.index_text.specs.IndexText.{made_text, outcome_text}

-- What is printed fits 400,000 bytes, since a held buffer has at most 65,537.
pub made_most : (fill : ℕ) (index : List ℕ) → length index ≤ 65537 → length (made_text fill index) ≤ 400000
made_most fill index h =
    let front = bytes_of "fill" ++ last_field fill in
    omega (arith, length-append front (bytes_line (bytes_of "index ") index), length-append (bytes_of "fill") (last_field fill), last_most fill, bytes_length (bytes_of "index ") index, h)

over : (s : List ℕ) → limit < length s → within_limit s None ≡ Some limit
unfolding within_limit
over s h = rw (lt-leb (length s) limit h, within_limit)

-- If the last of three checks stops, not all of them pass.
passed_last : (a b : Verdict) (r : Refusal) → and_then a (and_then b (Err r)) ≡ Ok tt → ◌≡◌ {A = ℕ} 0 1
passed_last (Err x) b r e = cc
passed_last (Ok tt) (Err x) r e = cc
passed_last (Ok _) (Ok _) r e = cc

module _ (fill : ℕ) (pending labels : List ℕ) where
  abbrev shown : List ℕ → List ℕ
  shown index = outcome_text (make_outcome fill pending labels index)

  -- The checks before the index buffer's, and then the refusal that the buffer is too long.
  abbrev stopped : Verdict
  stopped = and_then (layout_verdict 0 (pending_buffer_layout fill pending)) (and_then (layout_verdict 1 (label_layout labels)) (Err (BadLayout 2 limit)))

  long_shown : (s : List ℕ) → limit < length s → (r : Refusal) → stopped ≡ Err r → shown s ≡ refused_line (numbered r)
  long_shown s h r e = ap outcome_text (outcome_by fill pending labels s (Err r) (label_repeat labels) (layouts_are fill pending labels s _ _ _ refl refl (over s h) ∙ e) refl)

  long_text : (a b : List ℕ) → limit < length a → limit < length b → shown a ≡ shown b
  long_text a b h k = go stopped refl
    where
      go : (v : Verdict) → stopped ≡ v → shown a ≡ shown b
      go (Ok tt) e = never (passed_last (layout_verdict 0 (pending_buffer_layout fill pending)) (layout_verdict 1 (label_layout labels)) (BadLayout 2 limit) e)
      go (Err r) e = long_shown a h r e ∙ sym (long_shown b k r e)

  -- One byte more than the limit prints the same as the whole buffer.
  pub held_text : (index : List ℕ) → shown (held index) ≡ shown index
  held_text index = go (leb (length index) 65537) refl
    where
      go : (b : Bool) → leb (length index) 65537 ≡ b → shown (held index) ≡ shown index
      go true e = ap shown (take_all 65537 index (leb-true (length index) 65537 e))
      go false e =
          let h = leb-false (length index) 65537 e in
          long_text (held index) index (simp length-take (omega arith)) (omega arith)
