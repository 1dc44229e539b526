-- Pending records, kind 36 (document 01, 'Pending 36, breakpoint 37'). Assumes nothing.
use Rattle.std.specs.Prelude.{ℕ, ◌+◌, List, Bool, true, false, ◌&&◌, leb, ltb, eqb, ◌≤◌, ◌≡◌, length, Option}
use Rattle.record.specs.Bytes.{byte_at, le16, le32, location_at}
use Rattle.record.specs.Records.{body_len, kind_at, next, whole, places, first_bad, within_limit}
use Rattle.address_label.specs.AddressLabels.{address_label_ok, address_label_at}
use Rattle.address_label.specs.declared.AddressLabel.{AddressLabel}
use Rattle.pending.specs.declared.InstructionLabelKind.{InstructionLabelKind}
use Rattle.pending.specs.declared.InstructionLabelKind.TheVariants.{Branch, Jump, Lower, Upper, Full}
use Rattle.pending.specs.declared.Pending.{Pending}

-- "region (2 bytes), offset (4), location, patch kind (1 byte), form (1 byte), value (8), the name's location, name"
abbrev pub region_of : List ℕ → ℕ → ℕ
region_of s at = le16 s (at + 4)

abbrev pub patch_kind_of : List ℕ → ℕ → ℕ
patch_kind_of s at = byte_at s (at + 18)

abbrev pub label_of : List ℕ → ℕ → AddressLabel
label_of s at = address_label_at s (at + 19) (next s at)

-- a pending for one of `regions` regions: "a pending whose number has no region breaks the layout"
abbrev pub pending_body : ℕ → List ℕ → ℕ → Bool
pending_body regions s at =
    eqb (kind_at s at) 36 && leb 32 (body_len s at) && ltb (region_of s at) regions && leb (patch_kind_of s at) 4 && address_label_ok s (at + 19) (next s at)

unfoldable pub pending_ok : ℕ → List ℕ → ℕ → Bool
unfolding address_label_ok
pending_ok regions s at = whole s at && pending_body regions s at

unfoldable pub pending_layout : ℕ → List ℕ → Option ℕ
unfolding pending_ok first_bad places within_limit
pending_layout regions s = within_limit s (first_bad (pending_ok regions s) (places s))

-- "0 Branch, 1 Jump, 2 Lower, 3 Upper, 4 Full"
unfoldable pub kind_from : ℕ → InstructionLabelKind
kind_from n =
    elim (eqb n 0) [ true ↦ Branch | false ↦ elim (eqb n 1) [ true ↦ Jump | false ↦ elim (eqb n 2) [ true ↦ Lower | false ↦ elim (eqb n 3) [ true ↦ Upper | false ↦ Full ] ] ] ]

-- the record at `at`, taken apart
abbrev pub pending_at : List ℕ → ℕ → Pending
pending_at s at = record {
  region = region_of s at;
  offset = le32 s (at + 6);
  location = location_at s (at + 10);
  kind = kind_from (patch_kind_of s at);
  label = label_of s at;
}

-- what reading the record at `at` requires
pub record PendingIs (s : List ℕ) (at : ℕ) : Type 0 where
  pub whole_at : whole s at ≡ true
  pub record_kind : kind_at s at ≡ 36
  pub head : at + 4 ≤ length s
  pub body : next s at ≤ length s
  pub least : 32 ≤ body_len s at
