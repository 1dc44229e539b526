-- What a pending has when its test passes, and what a pending list has that keeps its layout. Assumes nothing.
use Rattle.std.specs.Prelude.{ℕ, ◌+◌, ◌≤◌, ◌<◌, List, true, ◌&&◌, ◌≡◌, length, None, Some}
use Rattle.std.proofs.Math.Bool.{and-eq-true_iff}
use Rattle.std.proofs.Common.{ap, ◌∙◌, leb-true, ltb-true, eqb-true}
use Rattle.std.proofs.Math.Dec.{leb, ltb, eqb}
use Rattle.record.specs.Records.{body_len, kind_at, next, whole, places, first_bad, limit}
use Rattle.record.proofs.RecordsLaws.{layout_from, whole_is, places_all, limit_kept, limit_passed, limit_good}
use Rattle.address_label.specs.AddressLabels.{address_label_ok}
use Rattle.pending.specs.Pendings.{region_of, patch_kind_of, pending_body, pending_ok, pending_layout, PendingIs}

module _ (regions : ℕ) (s : List ℕ) (at : ℕ) where
  -- each test of the body
  record Tests : Type 0 where
    whole_ok : whole s at ≡ true
    record_ok : eqb (kind_at s at) 36 ≡ true
    least_ok : leb 32 (body_len s at) ≡ true
    region_ok : ltb (region_of s at) regions ≡ true
    kind_ok : leb (patch_kind_of s at) 4 ≡ true

  tests : pending_ok regions s at ≡ true → Tests
  unfolding pending_ok
  tests e =
      let kind = eqb (kind_at s at) 36 in
      let least = leb 32 (body_len s at) in
      let region = ltb (region_of s at) regions in
      let patch = leb (patch_kind_of s at) 4 in
      let w = (and-eq-true_iff (whole s at) (pending_body regions s at)).0 e in
      let p = ((and-eq-true_iff (kind && least && region && patch) (address_label_ok s (at + 19) (next s at))).0 w.1).0 in
      let q = (and-eq-true_iff (kind && least && region) patch).0 p in
      let r = (and-eq-true_iff (kind && least) region).0 q.0 in
      let k = (and-eq-true_iff kind least).0 r.0 in
      record { whole_ok = w.0; record_ok = k.0; least_ok = k.1; region_ok = r.1; kind_ok = q.1 }

  pub pending_is : pending_ok regions s at ≡ true → PendingIs s at
  pending_is e =
      let t = tests e in
      let r = whole_is s at t.whole_ok in
      record { whole_at = t.whole_ok; record_kind = eqb-true (kind_at s at) 36 t.record_ok; head = r.0; body = r.1; least = leb-true 32 (body_len s at) t.least_ok }

  pub pending_region : pending_ok regions s at ≡ true → region_of s at < regions
  pending_region e = ltb-true (region_of s at) regions (tests e).region_ok

  pub pending_kind : pending_ok regions s at ≡ true → patch_kind_of s at ≤ 4
  pending_kind e = leb-true (patch_kind_of s at) 4 (tests e).kind_ok

-- Within the limit, the list's layout is that of its records; past the limit it breaks at the limit.
pub pending_kept : (regions : ℕ) (s : List ℕ) → length s ≤ limit → pending_layout regions s ≡ layout_from (pending_ok regions s) s 0
unfolding pending_layout
pending_kept regions s h = limit_kept s (first_bad (pending_ok regions s) (places s)) h ∙ ap (first_bad (pending_ok regions s)) (places_all s)

pub pending_passed : (regions : ℕ) (s : List ℕ) → limit < length s → pending_layout regions s ≡ Some limit
unfolding pending_layout
pending_passed regions s h = limit_passed s (first_bad (pending_ok regions s) (places s)) h

pub pending_good : (regions : ℕ) (s : List ℕ) → pending_layout regions s ≡ None → (length s ≤ limit) × (first_bad (pending_ok regions s) (places s) ≡ None)
unfolding pending_layout
pending_good regions s g = limit_good s (first_bad (pending_ok regions s) (places s)) g
