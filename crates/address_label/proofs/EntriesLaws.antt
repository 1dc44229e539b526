-- What an entry's test says, fact by fact, and what holds of a list of entries that keeps its layout. Assumes nothing.
use Rattle.std.specs.Prelude.{ℕ, ◌+◌, ◌≤◌, ◌<◌, List, true, ◌&&◌, ◌≡◌, length, leb, eqb, None, Some}
use Rattle.std.proofs.Math.Bool.{and-eq-true_iff}
use Rattle.std.proofs.Common.{ap, ◌∙◌, leb-true}
use Rattle.record.specs.Records.{body_len, kind_at, next, whole, places, places_from, first_bad, first_bad_of, limit}
use Rattle.record.proofs.RecordsLaws.{whole_is, places_all, places_step, places_end, of_good, limit_kept, limit_passed, limit_good}
use Rattle.address_label.specs.AddressLabels.{address_label_ok, address_label_at}
use Rattle.address_label.specs.Entries.{entry_ok, entry_layout, entry_of}

pub record EntryIs (s : List ℕ) (at : ℕ) : Type 0 where
  pub whole_at : whole s at ≡ true
  pub head : at + 4 ≤ length s
  pub body : next s at ≤ length s
  pub least : 17 ≤ body_len s at

pub entry_is : (s : List ℕ) (at : ℕ) → entry_ok s at ≡ true → EntryIs s at
unfolding entry_ok
entry_is s at e =
    let n = body_len s at in
    let form = address_label_ok s (at + 4) (next s at) in
    let w = (and-eq-true_iff (whole s at) (eqb (kind_at s at) 38 && leb 17 n && form)).0 e in
    let b = (and-eq-true_iff (eqb (kind_at s at) 38 && leb 17 n) form).0 w.1 in
    let l = (and-eq-true_iff (eqb (kind_at s at) 38) (leb 17 n)).0 b.0 in
    let r = whole_is s at w.0 in
    record { whole_at = w.0; head = r.0; body = r.1; least = leb-true 17 n l.1 }

-- Within the limit, the layout is that of at most one record. A longer list breaks the layout at the limit.
pub entry_kept : (s : List ℕ) → length s ≤ limit → entry_layout s ≡ first_bad_of 1 (entry_ok s) (places_from s 0)
unfolding entry_layout
entry_kept s h = limit_kept s (first_bad_of 1 (entry_ok s) (places s)) h ∙ ap (first_bad_of 1 (entry_ok s)) (places_all s)

pub entry_passed : (s : List ℕ) → limit < length s → entry_layout s ≡ Some limit
unfolding entry_layout
entry_passed s h = limit_passed s (first_bad_of 1 (entry_ok s) (places s)) h

pub entry_good : (s : List ℕ) → entry_layout s ≡ None → (length s ≤ limit) × (first_bad (entry_ok s) (places s) ≡ None) × (length (places s) ≤ 1)
unfolding entry_layout
entry_good s g =
    let l = limit_good s (first_bad_of 1 (entry_ok s) (places s)) g in
    let o = of_good 1 (entry_ok s) (places s) l.1 in
    (l.0, o.0, o.1)

pub entry_none : (s : List ℕ) → length s ≤ 0 → entry_of s (places s) ≡ None
entry_none s h = ap (entry_of s) (places_all s ∙ places_end s 0 h)

pub entry_stated : (s : List ℕ) → 0 < length s → whole s 0 ≡ true → entry_of s (places s) ≡ Some (address_label_at s 4 (next s 0))
entry_stated s h w = ap (entry_of s) (places_all s ∙ places_step s 0 h w)
