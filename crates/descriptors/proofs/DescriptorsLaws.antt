-- What a descriptor's test says, fact by fact, what holds of a list of descriptors that keeps its layout, and a number past a list. Assumes nothing.
use Rattle.std.specs.Prelude.{ℕ, ◌+◌, ◌≤◌, ◌<◌, List, true, ◌&&◌, not, ◌≡◌, length, leb, eqb, None, Some}
use Rattle.std.proofs.Common.{arith, ◌∙◌, leb-true, eqb-true}
use Rattle.std.proofs.Math.Bool.{and-eq-true_iff}
use Rattle.std.proofs.Math.Path.{ap}
use Rattle.record.specs.Bytes.{is_text, all}
use Rattle.record.specs.Records.{body_len, kind_at, next, whole, places, first_bad, limit}
use Rattle.record.proofs.RecordsLaws.{places_all, whole_is, layout_from, limit_kept, limit_passed, limit_good}
use Rattle.names.specs.Names.{name_of, is_named}
use Rattle.names.proofs.NamesLaws.{has_name_lem, all_named, named_ok}
use Rattle.names.specs.Owners.{has_owner, WithoutOwners, has_owned_name}
use Rattle.names.proofs.StraightLaws.{shared_named}
use Rattle.name_index.proofs.CountLaws.{count_at_least}
use Rattle.descriptors.specs.Descriptors.{fields_ok, descriptor_ok, descriptor_layout, find_descriptor}

pub record DescriptorIs (s : List ℕ) (at : ℕ) : Type 0 where
  pub whole_at : whole s at ≡ true
  pub head : at + 4 ≤ length s
  pub body : next s at ≤ length s
  pub least : 9 ≤ body_len s at
  pub shared : not (has_owner s at) ≡ true

pub descriptor_is : (s : List ℕ) (at : ℕ) → descriptor_ok s at ≡ true → DescriptorIs s at
unfolding descriptor_ok
descriptor_is s at e =
    let n = body_len s at in
    let kind = eqb (kind_at s at) 33 in
    let text = all is_text (name_of 8 s at) in
    let w = (and-eq-true_iff (whole s at) (kind && leb 9 n && leb n 24 && fields_ok s at && text)).0 e in
    let r = whole_is s at w.0 in
    let f = (and-eq-true_iff (kind && leb 9 n && leb n 24 && fields_ok s at) text).0 w.1 in
    let m = (and-eq-true_iff (kind && leb 9 n && leb n 24) (fields_ok s at)).0 f.0 in
    let l = (and-eq-true_iff (kind && leb 9 n) (leb n 24)).0 m.0 in
    let k = (and-eq-true_iff kind (leb 9 n)).0 l.0 in
    record {
      whole_at = w.0;
      head = r.0;
      body = r.1;
      least = leb-true 9 n k.1;
      shared = ap (λ (m : ℕ). not (eqb m 41)) (eqb-true (kind_at s at) 33 k.0);
    }

-- Within the limit, the layout is that of the records. A longer list breaks the layout at the limit.
module _ (s : List ℕ) where
  pub descriptor_kept : length s ≤ limit → descriptor_layout s ≡ layout_from (descriptor_ok s) s 0
  unfolding descriptor_layout
  descriptor_kept h = limit_kept s (first_bad (descriptor_ok s) (places s)) h ∙ ap (first_bad (descriptor_ok s)) (places_all s)

  pub descriptor_passed : limit < length s → descriptor_layout s ≡ Some limit
  unfolding descriptor_layout
  descriptor_passed h = limit_passed s (first_bad (descriptor_ok s) (places s)) h

  pub descriptors_good : descriptor_layout s ≡ None → first_bad (descriptor_ok s) (places s) ≡ None
  unfolding descriptor_layout
  descriptors_good g = (limit_good s (first_bad (descriptor_ok s) (places s)) g).1

  -- Each descriptor has at least thirteen bytes.
  pub descriptors_few : descriptor_layout s ≡ None → (length s ≤ limit) × (length (places s) ≤ 5041)
  unfolding descriptor_layout
  descriptors_few g =
      let h = (limit_good s (first_bad (descriptor_ok s) (places s)) g).0 in
      let n = count_at_least 13 s (descriptor_ok s) (λ p e. let d = descriptor_is s p e in (d.whole_at, omega (arith, d.least))) (descriptors_good g) in
      (h, omega arith)

  -- Each record has a name and no owner. The record that is found is a descriptor.
  pub descriptors_named : descriptor_layout s ≡ None → first_bad (has_owned_name 8 s) (places s) ≡ None
  descriptors_named g = all_named (descriptor_ok s) (has_owned_name 8 s) named (places s) (descriptors_good g)
    where
      named : (p : ℕ) → descriptor_ok s p ≡ true → has_owned_name 8 s p ≡ true
      named p e = let d = descriptor_is s p e in shared_named 8 s p d.shared ∙ has_name_lem 8 s p d.whole_at (omega arith)

  pub descriptors_shared : descriptor_layout s ≡ None → WithoutOwners s
  descriptors_shared g = all_named (descriptor_ok s) (λ (p : ℕ). not (has_owner s p)) (λ p e. (descriptor_is s p e).shared) (places s) (descriptors_good g)

  pub descriptor_found : (name : List ℕ) (p : ℕ) → descriptor_layout s ≡ None → find_descriptor s name ≡ Some p → DescriptorIs s p
  descriptor_found name p g e = descriptor_is s p (named_ok (is_named 8 s name) (descriptor_ok s) (places s) p (descriptors_good g) e)
