-- What is accepted as an index: the bytes of one made afresh. The fill count lies within the buffer, and the buffer within the limit. Assumes nothing.
use Rattle.std.specs.Prelude.{ℕ, ◌+◌, ◌≤◌, ◌<◌, List, [], Bool, true, false, ◌≡◌, length, take, drop, None, Option, Some}
use Rattle.std.proofs.Common.{arith, sym, ap, ◌∙◌, length-append, length-drop}
use Rattle.std.proofs.Math.Path.{refl}
use Rattle.record.specs.Bytes.{same_bytes}
use Rattle.record.proofs.BytesLaws.{same_eq, eq_same}
use Rattle.record.specs.Records.{limit}
use Rattle.record.proofs.RecordsLaws.{places_all, places_end}
use Rattle.record.specs.Stores.{append}
use Rattle.record.proofs.StoresLaws.{filled_append}
use Rattle.breakpoints.specs.Breakpoints.{filled_layout}
use Rattle.breakpoints.proofs.BreakpointsLaws.{filled_kept, filled_over, filled_passed, filled_good}
use Rattle.label_uses.specs.Uses.{uses_from, uses_of}
use Rattle.label_uses.specs.UseBytes.{uses_bytes, index_of, index_layout}
use Rattle.label_uses.proofs.UseBytesLaws.{uses_none}
use Rattle.name_order.proofs.OrderLaws.{never}

module _ (labels pending : List ℕ) (fill : ℕ) (index : List ℕ) where
  abbrev by_bytes : Bool → Option ℕ
  by_bytes b = elim b [ true ↦ None | false ↦ Some 0 ]

  layout_is : index_layout labels pending fill index ≡ filled_layout fill index (by_bytes (same_bytes (take fill index) (index_of labels pending)))
  unfolding index_layout
  layout_is = refl

  -- the layout, by what is wrong with the index
  pub layout_long : limit < length index → index_layout labels pending fill index ≡ Some limit
  layout_long h = layout_is ∙ filled_passed fill index (by_bytes (same_bytes (take fill index) (index_of labels pending))) h

  pub layout_over : length index ≤ limit → length index < fill → index_layout labels pending fill index ≡ Some (length index)
  layout_over h k = layout_is ∙ filled_over fill index (by_bytes (same_bytes (take fill index) (index_of labels pending))) h k

  pub layout_by : length index ≤ limit → fill ≤ length index → {b : Bool} → same_bytes (take fill index) (index_of labels pending) ≡ b → index_layout labels pending fill index ≡ elim b [ true ↦ None | false ↦ Some 0 ]
  layout_by h k e = layout_is ∙ filled_kept fill index (by_bytes (same_bytes (take fill index) (index_of labels pending))) h k ∙ ap by_bytes e

  -- What is known of an accepted index.
  pub record IndexIs : Type 0 where
    pub room : length index ≤ limit
    pub filled : fill ≤ length index
    pub bytes : take fill index ≡ index_of labels pending

  pub index_is : index_layout labels pending fill index ≡ None → IndexIs
  index_is g =
      let f = filled_good fill index (by_bytes (same_bytes (take fill index) (index_of labels pending))) (sym layout_is ∙ g) in
      record { room = f.0; filled = f.1; bytes = go (same_bytes (take fill index) (index_of labels pending)) refl f.2 }
    where
      go : (b : Bool) → same_bytes (take fill index) (index_of labels pending) ≡ b → by_bytes (same_bytes (take fill index) (index_of labels pending)) ≡ None → take fill index ≡ index_of labels pending
      go true e k = same_eq (take fill index) (index_of labels pending) e
      go false e k =
          let z : by_bytes (same_bytes (take fill index) (index_of labels pending)) ≡ Some 0 = ap by_bytes e in
          never (cc)

  pub index_room : index_layout labels pending fill index ≡ None → length index ≤ limit
  index_room g = (index_is g).room

  -- and the other way round
  pub is_index : IndexIs → index_layout labels pending fill index ≡ None
  is_index i =
      let e : same_bytes (take fill index) (index_of labels pending) ≡ true = ap (λ (l : List ℕ). same_bytes l (index_of labels pending)) i.bytes ∙ eq_same (index_of labels pending) in
      layout_is ∙ filled_kept fill index (by_bytes (same_bytes (take fill index) (index_of labels pending))) i.room i.filled ∙ ap by_bytes e

-- bytes written at the start of a buffer with room for them
pub written_length : (d bs : List ℕ) → length bs ≤ length d → length (append d 0 bs) ≡ length d
unfolding append
written_length d bs h = omega (arith, length-append bs (drop (0 + length bs) d), length-drop (0 + length bs) d)

pub written_first : (d bs : List ℕ) → take (length bs) (append d 0 bs) ≡ bs
written_first d bs =
    let e : 0 + length bs ≡ length bs = omega arith in
    ap (λ (n : ℕ). take n (append d 0 bs)) (sym e) ∙ filled_append d 0 bs (omega arith)

-- An index that was written afresh is accepted.
pub index_taken : (labels pending index : List ℕ) → length (index_of labels pending) ≤ length index → length index ≤ limit
    → index_layout labels pending (length (index_of labels pending)) (append index 0 (index_of labels pending)) ≡ None
index_taken labels pending index h l =
    let new = index_of labels pending in
    let n = written_length index new h in
    is_index labels pending (length new) (append index 0 new) (record { room = omega arith; filled = omega arith; bytes = written_first index new })

-- Without pendings the index is empty. So a routine that starts with an empty pending list needs no second entry.
pub index_none : (labels : List ℕ) → index_of labels [] ≡ []
unfolding index_of uses_of uses_from
index_none labels = ap (λ (ps : List ℕ). uses_bytes (uses_from labels [] 0 ps [])) (places_all [] ∙ places_end [] 0 (omega arith)) ∙ uses_none

pub none_taken : (labels index : List ℕ) → length index ≤ limit → index_layout labels [] 0 index ≡ None
none_taken labels index h = is_index labels [] 0 index (record { room = h; filled = omega arith; bytes = sym (index_none labels) })
