-- Lemmas on a pending of a list that has more behind it, and on one just written. Assumes nothing.
use Rattle.std.specs.Prelude.{ℕ, ◌+◌, ◌^◌, ◌≤◌, ◌<◌, List, [], ◌∷◌, ◌++◌, Bool, true, ◌&&◌, ◌≡◌, leb, ltb, eqb}
use Rattle.std.proofs.Common.{arith, append_assoc, sym, ap, ap₂, subst, ◌∙◌, eq-eqb, le-leb, lt-ltb}
use Rattle.std.proofs.Math.Bool.{and-eq-true_iff}
use Rattle.std.proofs.Math.Path.{refl}
use Rattle.std.proofs.Math.ListN.{length, length-append}
use Rattle.record.specs.Bytes.{le32, location_at}
use Rattle.record.specs.Records.{body_len, kind_at, next, whole}
use Rattle.record.specs.Stores.{le16_bytes, le32_bytes, location_bytes}
use Rattle.record.proofs.BehindLaws.{byte_before, le16_before, le32_before, location_before, byte_behind, le16_behind, le32_behind, location_behind, digits16, digits32, location_digits}
use Rattle.record.proofs.OneMoreLaws.{Local, is_whole, whole_before}
use Rattle.record.specs.declared.Location.{Location}
use Rattle.address_label.specs.AddressLabels.{address_label_ok, address_label_at}
use Rattle.address_label.specs.LabelBytes.{name_bytes, label_bytes}
use Rattle.address_label.proofs.LabelBytesLaws.{label_length}
use Rattle.address_label.proofs.Written.{fits_length, label_as_read, LabelWritten, label_written}
use Rattle.address_label.proofs.WrittenLaws.{both, label_ok_before, label_at_before, name_before}
use Rattle.address_label.specs.declared.AddressLabel.{AddressLabel}
use Rattle.pending.specs.Pendings.{region_of, patch_kind_of, label_of, pending_body, pending_ok, kind_from, pending_at, PendingIs}
use Rattle.pending.proofs.PendingsLaws.{pending_is}
use Rattle.pending.specs.PendingBytes.{kind_number, pending_bytes, PendingFits}
use Rattle.pending.proofs.PendingBytesLaws.{pending_length}
use Rattle.pending.specs.declared.InstructionLabel.{InstructionLabel}
use Rattle.pending.specs.declared.InstructionLabelKind.{InstructionLabelKind}
use Rattle.pending.specs.declared.InstructionLabelKind.TheVariants.{Branch, Jump, Lower, Upper, Full}
use Rattle.pending.specs.declared.Origin.{Origin}
use Rattle.pending.specs.declared.Pending.{Pending}

-- The body's test, and the pending, from what they read.
abbrev body_of : (regions kind length region patch : ℕ) → Bool → Bool
body_of regions kind length region patch label = eqb kind 36 && leb 32 length && ltb region regions && leb patch 4 && label

abbrev pub pending_of : (region offset : ℕ) → Location → InstructionLabelKind → AddressLabel → Pending
pending_of region offset location kind label = record { region = region; offset = offset; location = location; kind = kind; label = label }

-- ---- with more behind it
module _ (l r : List ℕ) (at : ℕ) (p : PendingIs l at) where
  ends : next (l ++ r) at ≡ next l at
  ends = (whole_before l r at p.whole_at).1

  body_before : (regions : ℕ) → pending_body regions (l ++ r) at ≡ pending_body regions l at
  body_before regions =
      let label : address_label_ok (l ++ r) (at + 19) (next (l ++ r) at) ≡ address_label_ok l (at + 19) (next l at) =
      ap (address_label_ok (l ++ r) (at + 19)) ends ∙ label_ok_before l r (at + 19) (next l at) (omega (arith, p.least)) p.body in
      ap₂ (λ (a b : ℕ). body_of regions a b (region_of (l ++ r) at) (patch_kind_of (l ++ r) at) (address_label_ok (l ++ r) (at + 19) (next (l ++ r) at)))
      (le16_before l r (at + 2) (omega (arith, p.head))) (le16_before l r at (omega (arith, p.head)))
      ∙ ap₂ (λ (a b : ℕ). body_of regions (kind_at l at) (body_len l at) a b (address_label_ok (l ++ r) (at + 19) (next (l ++ r) at)))
      (le16_before l r (at + 4) (omega (arith, p.least, p.body))) (byte_before l r (at + 18) (omega (arith, p.least, p.body)))
      ∙ ap (body_of regions (kind_at l at) (body_len l at) (region_of l at) (patch_kind_of l at)) label

  pub pending_before : pending_at (l ++ r) at ≡ pending_at l at
  pending_before =
      let label : label_of (l ++ r) at ≡ label_of l at =
      ap (address_label_at (l ++ r) (at + 19)) ends ∙ label_at_before l r (at + 19) (next l at) (omega (arith, p.least)) p.body in
      ap₂ (λ (a b : ℕ). pending_of a b (location_at (l ++ r) (at + 10)) (kind_from (patch_kind_of (l ++ r) at)) (label_of (l ++ r) at))
      (le16_before l r (at + 4) (omega (arith, p.least, p.body))) (le32_before l r (at + 6) (omega (arith, p.least, p.body)))
      ∙ ap₂ (λ (x : Location) (a : ℕ). pending_of (region_of l at) (le32 l (at + 6)) x (kind_from a) (label_of (l ++ r) at))
      (location_before l r (at + 10) (omega (arith, p.least, p.body))) (byte_before l r (at + 18) (omega (arith, p.least, p.body)))
      ∙ ap (pending_of (region_of l at) (le32 l (at + 6)) (location_at l (at + 10)) (kind_from (patch_kind_of l at))) label

  pub pending_name_before : name_bytes (l ++ r) (pending_at (l ++ r) at).label ≡ name_bytes l (pending_at l at).label
  pending_name_before =
      ap (λ (x : Pending). name_bytes (l ++ r) x.label) pending_before ∙ name_before l r (at + 19) (next l at) (omega (arith, p.least)) p.body

-- the test of a pending reads nothing behind it
pub pending_local : (regions : ℕ) → Local (pending_ok regions)
unfolding pending_ok
pending_local regions = record {
  says_whole = λ s at e. (pending_is regions s at e).whole_at;
  stays = λ l r at e.
      let p = pending_is regions l at e in
      both (whole_before l r at p.whole_at).0 (body_before l r at p regions ∙ ((and-eq-true_iff (whole l at) (pending_body regions l at)).0 e).1);
}

-- ---- kinds and their numbers
pub kind_read : (kind : InstructionLabelKind) → kind_from (kind_number kind) ≡ kind
unfolding kind_from
kind_read Branch = refl
kind_read Jump = refl
kind_read Lower = refl
kind_read Upper = refl
kind_read Full = refl

kind_most : (kind : InstructionLabelKind) → kind_number kind ≤ 4
kind_most Branch = omega arith
kind_most Jump = omega arith
kind_most Lower = omega arith
kind_most Upper = omega arith
kind_most Full = omega arith

-- ---- a pending that was just written behind l
module _ (names l : List ℕ) (origin : Origin) (waits : InstructionLabel) (fits : PendingFits names origin waits) where
  abbrev bytes : List ℕ
  bytes = pending_bytes names origin waits

  abbrev body : List ℕ
  body = le16_bytes origin.region ++ le32_bytes origin.offset ++ location_bytes origin.location ++ kind_number waits.kind ∷ label_bytes names waits.label

  -- what stands before the label
  abbrev head : List ℕ
  head = le16_bytes (length body) ++ le16_bytes 36 ++ le16_bytes origin.region ++ le32_bytes origin.offset ++ location_bytes origin.location ++ kind_number waits.kind ∷ []

  long : (body_len (l ++ bytes) (length l) ≡ 32 + length (name_bytes names waits.label)) × (next (l ++ bytes) (length l) ≡ length (l ++ bytes))
  long =
      let n = label_length names waits.label in
      let m = fits_length names waits.label fits.label_fits in
      let small : length body < 2 ^ 16 = omega arith in
      let e : body_len (l ++ bytes) (length l) ≡ length body = le16_behind l bytes 0 (length l) (omega arith) ∙ digits16 (length body) small in
      (omega arith, omega (arith, length-append l bytes, pending_length names origin waits))

  pub label_behind : LabelWritten names (l ++ bytes) (length l + 19) (next (l ++ bytes) (length l)) waits.label
  label_behind =
      let b = label_bytes names waits.label in
      let joined = append_assoc l head b in
      let i : length l + 19 ≡ length (l ++ head) = omega (arith, length-append l head) in
      let e : next (l ++ bytes) (length l) ≡ length ((l ++ head) ++ b) = long.1 ∙ ap length (sym joined) in
      subst (λ (s : List ℕ). LabelWritten names s (length l + 19) (next (l ++ bytes) (length l)) waits.label) joined
      (label_written names (l ++ head) waits.label fits.label_fits (length l + 19) (next (l ++ bytes) (length l)) i e)

  pub ends_behind : next (l ++ bytes) (length l) ≡ length (l ++ bytes)
  ends_behind = long.1

  region_behind : region_of (l ++ bytes) (length l) ≡ origin.region
  region_behind = le16_behind l bytes 4 (length l + 4) refl ∙ digits16 origin.region fits.region_fits

  kind_behind : patch_kind_of (l ++ bytes) (length l) ≡ kind_number waits.kind
  kind_behind = byte_behind l bytes 18 (length l + 18) refl

  -- The name's place, counted from the label and from the record.
  name_place : length l + 19 + 17 ≡ length l + 36
  name_place = omega arith

  pub pending_behind : pending_at (l ++ bytes) (length l) ≡ pending_of origin.region origin.offset origin.location waits.kind (label_as_read names (length l + 36) waits.label)
  pending_behind =
      let s = l ++ bytes in
      let at = length l in
      ap₂ (λ (a b : ℕ). pending_of a b (location_at s (at + 10)) (kind_from (patch_kind_of s at)) (label_of s at))
      region_behind (le32_behind l bytes 6 (at + 6) refl ∙ digits32 origin.offset fits.offset_fits)
      ∙ ap₂ (λ (x : Location) (k : InstructionLabelKind). pending_of origin.region origin.offset x k (label_of s at))
      (location_behind l bytes 10 (at + 10) refl ∙ location_digits origin.location fits.location_fits) (ap kind_from kind_behind ∙ kind_read waits.kind)
      ∙ ap (pending_of origin.region origin.offset origin.location waits.kind) (label_behind.reads ∙ ap (λ (k : ℕ). label_as_read names k waits.label) name_place)

  pub pending_name_behind : name_bytes (l ++ bytes) (pending_at (l ++ bytes) (length l)).label ≡ name_bytes names waits.label
  pending_name_behind =
      ap (λ (x : Pending). name_bytes (l ++ bytes) x.label) pending_behind
      ∙ ap (λ (k : ℕ). name_bytes (l ++ bytes) (label_as_read names k waits.label)) (sym name_place)
      ∙ label_behind.name

  pub passes_behind : (regions : ℕ) → origin.region < regions → pending_ok regions (l ++ bytes) (length l) ≡ true
  unfolding pending_ok
  passes_behind regions h =
      let s = l ++ bytes in
      let at = length l in
      let n = length-append l bytes in
      let m = pending_length names origin waits in
      let e = long.1 in
      let kind : kind_at s at ≡ 36 = le16_behind l bytes 2 (at + 2) refl in
      both (is_whole s at (omega arith) (omega arith))
      (both
      (both
      (both (both (eq-eqb (kind_at s at) 36 kind) (le-leb 32 (body_len s at) (omega (arith, long.0))))
      (lt-ltb (region_of s at) regions (omega (arith, region_behind))))
      (le-leb (patch_kind_of s at) 4 (omega (arith, kind_behind, kind_most waits.kind))))
      label_behind.passes)
