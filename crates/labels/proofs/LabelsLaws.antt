-- Laws of lists of labels. Assumes nothing.
use Rattle.std.specs.Prelude.{ℕ, ◌+◌, ◌≤◌, ◌<◌, List, Bool, true, false, ◌&&◌, ◌||◌, ◌≡◌, refl, length, leb, ltb, eqb, None, Option, Some}
use Rattle.std.proofs.Common.{arith, sym, ap, ◌∙◌, leb-true}
use Rattle.std.proofs.Math.Bool.{and-eq-true_iff}
use Rattle.record.specs.Bytes.{is_text, all}
use Rattle.record.specs.Records.{body_len, kind_at, next, whole, places, first_bad, limit}
use Rattle.record.proofs.RecordsLaws.{places_all, whole_is, layout_from, limit_kept, limit_passed, limit_good, first_limit}
use Rattle.names.proofs.NamesLaws.{has_name_lem, all_named, named_ok, repeat_within}
use Rattle.names.specs.Owners.{has_owner, for_all, owner_of, before_name, owned_name, has_owned_name, same_owned, is_owned, first_owned}
use Rattle.names.proofs.OwnersLaws.{without_owner, before_least}
use Rattle.labels.specs.Labels.{label_kind, label_body, label_ok, label_layout, label_repeat, or_else, labelled, address_of, resolve}

-- what a label's test says, fact by fact
pub record LabelIs (s : List ℕ) (at : ℕ) : Type 0 where
  pub whole_at : whole s at ≡ true
  pub head : at + 4 ≤ length s
  pub body : next s at ≤ length s
  pub least : 5 ≤ body_len s at
  pub named : has_owned_name 4 s at ≡ true

pub label_is : (s : List ℕ) (at : ℕ) → label_ok s at ≡ true → LabelIs s at
unfolding label_ok
label_is s at e =
    let n = body_len s at in
    let f = before_name 4 s at in
    let w = (and-eq-true_iff (whole s at) (label_body s at)).0 e in
    let r = whole_is s at w.0 in
    let b = (and-eq-true_iff (label_kind s at && leb (f + 1) n && leb n (f + 64)) (all is_text (owned_name 4 s at))).0 w.1 in
    let m = (and-eq-true_iff (label_kind s at && leb (f + 1) n) (leb n (f + 64))).0 b.0 in
    let l = leb-true (f + 1) n ((and-eq-true_iff (label_kind s at) (leb (f + 1) n)).0 m.0).1 in
    record { whole_at = w.0; head = r.0; body = r.1; least = omega (arith, before_least 4 s at); named = has_name_lem f s at w.0 (omega arith) }

-- A record that is not of kind 34 has a label's kind exactly if its owner is below the number for all. Without kind 41 it has that number.
pub kind_is : (s : List ℕ) (at : ℕ) → eqb (kind_at s at) 34 ≡ false → ltb (owner_of 4 s at) for_all ≡ label_kind s at
kind_is s at e = go (has_owner s at) refl
  where
    other : label_kind s at ≡ (has_owner s at && ltb (owner_of 4 s at) for_all)
    other = ap (λ (b : Bool). b || (has_owner s at && ltb (owner_of 4 s at) for_all)) e

    go : (b : Bool) → has_owner s at ≡ b → ltb (owner_of 4 s at) for_all ≡ label_kind s at
    go true f = sym (other ∙ ap (λ (b : Bool). b && ltb (owner_of 4 s at) for_all) f)
    go false f =
        ap (λ (o : ℕ). ltb o for_all) (without_owner 4 s at f).owner ∙ sym (other ∙ ap (λ (b : Bool). b && ltb (owner_of 4 s at) for_all) f)

-- a record without a name is no label
pub label_unnamed : (s : List ℕ) (at : ℕ) → has_owned_name 4 s at ≡ false → label_ok s at ≡ false
label_unnamed s at e = go (label_ok s at) refl
  where
    go : (b : Bool) → label_ok s at ≡ b → label_ok s at ≡ false
    go true t = cc (label_is s at t).named
    go false t = t

-- ---- the layout of a list within the limit, from its first place on, and of a longer one
pub label_layout_lem : (s : List ℕ) → length s ≤ limit → label_layout s ≡ layout_from (label_ok s) s 0
unfolding label_layout
label_layout_lem s h = limit_kept s (first_bad (label_ok s) (places s)) h ∙ ap (first_bad (label_ok s)) (places_all s)

pub label_limit : (s : List ℕ) → limit < length s → label_layout s ≡ Some limit
unfolding label_layout
label_limit s h = limit_passed s (first_bad (label_ok s) (places s)) h

-- ---- a list of labels
pub labels_good : (s : List ℕ) → label_layout s ≡ None → first_bad (label_ok s) (places s) ≡ None
unfolding label_layout
labels_good s g = (limit_good s (first_bad (label_ok s) (places s)) g).1

pub labels_within : (s : List ℕ) → label_layout s ≡ None → length s ≤ limit
unfolding label_layout
labels_within s g = (limit_good s (first_bad (label_ok s) (places s)) g).0

-- The place of a label that breaks the layout, or that repeats another's name.
pub label_place_lem : (s : List ℕ) (p : ℕ) → label_layout s ≡ Some p → p ≤ limit
unfolding label_layout
label_place_lem s p e = first_limit (label_ok s) s p e

pub repeat_place : (s : List ℕ) (p : ℕ) → label_layout s ≡ None → label_repeat s ≡ Some p → p ≤ limit
unfolding label_layout
repeat_place s p = repeat_within (same_owned 4 s) s (first_bad (label_ok s) (places s)) p

pub labels_named : (s : List ℕ) → label_layout s ≡ None → first_bad (has_owned_name 4 s) (places s) ≡ None
labels_named s g = all_named (label_ok s) (has_owned_name 4 s) (λ p e. (label_is s p e).named) (places s) (labels_good s g)

pub found_label : (s : List ℕ) (source : ℕ) (name : List ℕ) (p : ℕ) → label_layout s ≡ None → labelled s source name ≡ Some p → LabelIs s p
found_label s source name p g e = go (first_owned 4 s source name) refl
  where
    found : (owner : ℕ) → first_owned 4 s owner name ≡ Some p → LabelIs s p
    found owner f = label_is s p (named_ok (is_owned 4 s owner name) (label_ok s) (places s) p (labels_good s g) f)

    go : (n : Option ℕ) → first_owned 4 s source name ≡ n → LabelIs s p
    go (Some q) f = found source (f ∙ sym (ap (λ (n : Option ℕ). or_else n (first_owned 4 s for_all name)) f) ∙ e)
    go None f = found for_all (sym (ap (λ (n : Option ℕ). or_else n (first_owned 4 s for_all name)) f) ∙ e)

pub resolve_is : (s : List ℕ) (source : ℕ) (name : List ℕ) (n : Option ℕ) → n ≡ labelled s source name → resolve s source name ≡ address_of s n
unfolding resolve
resolve_is s source name n e = ap (address_of s) (sym e)
