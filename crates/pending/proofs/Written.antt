-- A pending that is written behind a list of pendings: the list keeps its layout, the pending reads back as what was written, and the
-- others read as before (document 01, 'Pending 36'). Assumes nothing.
use Rattle.std.specs.Prelude.{ℕ, ◌+◌, ◌≤◌, ◌<◌, ◌≡◌, refl, length, take, replicate, None}
use Rattle.std.proofs.Common.{arith, sym, subst, length-take-le}
use mathlib.Core.List.{List, [], ◌∷◌, ◌++◌, Memᴰ}
use Rattle.record.specs.Bytes.{all}
use Rattle.record.specs.Records.{places, places_from, places_f, first_bad}
use Rattle.record.specs.Stores.{filled_with, LocationFits}
use Rattle.record.proofs.StoresLaws.{filled_append}
use Rattle.record.proofs.OneMoreLaws.{good_each, one_more}
use Rattle.record.specs.declared.Location.{Location}
use Rattle.address_label.specs.LabelBytes.{name_bytes}
use Rattle.address_label.proofs.Written.{label_as_read}
use Rattle.address_label.specs.declared.AddressLabel.TheVariants.{Label}
use Rattle.pending.specs.Pendings.{pending_ok, pending_at}
use Rattle.pending.proofs.PendingsLaws.{pending_is}
use Rattle.pending.specs.PendingBytes.{pending_bytes, PendingFits}
use Rattle.pending.proofs.WrittenLaws.{pending_local, pending_before, pending_name_before, ends_behind, passes_behind, pending_behind, pending_name_behind}
use Rattle.pending.specs.declared.InstructionLabel.{InstructionLabel}
use Rattle.pending.specs.declared.InstructionLabelKind.TheVariants.{Branch}
use Rattle.pending.specs.declared.Origin.{Origin}
use Rattle.pending.specs.declared.Pending.{Pending}

-- A buffer that begins with `fill` bytes of pendings of `regions` regions, with room behind them for the pending to be written.
pub record Writable (regions : ℕ) (buffer : List ℕ) (fill : ℕ) (names : List ℕ) (origin : Origin) (waits : InstructionLabel) : Type 0 where
  pub kept : first_bad (pending_ok regions (take fill buffer)) (places (take fill buffer)) ≡ None
  pub room : fill + length (pending_bytes names origin waits) ≤ length buffer
  pub region_ok : origin.region < regions
  pub fits : PendingFits names origin waits

-- The pending as it reads where it was written: its name, if it has one, stands in its own record.
abbrev pub pending_as_read : (names : List ℕ) (fill : ℕ) → Origin → InstructionLabel → Pending
pending_as_read names fill origin waits = record {
  region = origin.region;
  offset = origin.offset;
  location = origin.location;
  kind = waits.kind;
  label = label_as_read names (fill + 36) waits.label;
}

-- The list after the write: it keeps its layout, and the new pending reads back.
pub record Written (regions : ℕ) (old new : List ℕ) (fill : ℕ) (names : List ℕ) (origin : Origin) (waits : InstructionLabel) : Type 0 where
  pub keeps : first_bad (pending_ok regions new) (places new) ≡ None
  pub places_are : places new ≡ places old ++ fill ∷ []
  pub reads : pending_at new fill ≡ pending_as_read names fill origin waits
  pub name : name_bytes new (pending_at new fill).label ≡ name_bytes names waits.label
  pub others : (at : ℕ) → Memᴰ at (places old)
      → (pending_at new at ≡ pending_at old at) × (name_bytes new (pending_at new at).label ≡ name_bytes old (pending_at old at).label)

-- Writes behind a list.
pub written_behind : (regions : ℕ) (old names : List ℕ) (origin : Origin) (waits : InstructionLabel) → first_bad (pending_ok regions old) (places old) ≡ None
    → origin.region < regions → PendingFits names origin waits → Written regions old (old ++ pending_bytes names origin waits) (length old) names origin waits
written_behind regions old names origin waits kept region_ok fits =
    let bytes = pending_bytes names origin waits in
    let o = one_more (pending_ok regions) (pending_local regions) old bytes kept (passes_behind names old origin waits fits regions region_ok) (ends_behind names old origin waits fits) in
    record {
      keeps = o.keeps;
      places_are = o.places_are;
      reads = pending_behind names old origin waits fits;
      name = pending_name_behind names old origin waits fits;
      others = λ at m.
          let i = pending_is regions old at (good_each (pending_ok regions old) (places old) kept at m) in
          (pending_before old bytes at i, pending_name_before old bytes at i);
    }

-- Writes into a buffer with room.
pub written_reads_back : (regions : ℕ) (buffer : List ℕ) (fill : ℕ) (names : List ℕ) (origin : Origin) (waits : InstructionLabel)
    → Writable regions buffer fill names origin waits
    → Written regions (take fill buffer) (filled_with buffer fill (pending_bytes names origin waits)) fill names origin waits
written_reads_back regions buffer fill names origin waits w =
    let old = take fill buffer in
    let bytes = pending_bytes names origin waits in
    let len : length old ≡ fill = length-take-le fill buffer (omega (arith, w.room)) in
    subst (λ (new : List ℕ). Written regions old new fill names origin waits) (sym (filled_append buffer fill bytes (omega (arith, w.room))))
    (subst (λ (at : ℕ). Written regions old (old ++ bytes) at names origin waits) len (written_behind regions old names origin waits w.kept w.region_ok w.fits))

-- the premises can be met: a branch to `a` written into an empty buffer of 64 bytes
abbrev nowhere : Location
nowhere = record { source = 0; index = 0 }

abbrev start : Origin
start = record { region = 0; offset = 0; location = nowhere }

abbrev branch : InstructionLabel
branch = record { kind = Branch; label = Label (record { name_at = 0; name_len = 1; location = nowhere; offset = 0 }) }

zero_fits : LocationFits nowhere
zero_fits = record { source_fits = omega arith; index_fits = omega arith }

pub writable : Writable 16 (replicate 64 0) 0 (0x61 ∷ []) start branch
unfolding pending_ok places places_from places_f first_bad all
writable = record {
  kept = refl;
  room = omega arith;
  region_ok = omega arith;
  fits = record {
    region_fits = omega arith;
    offset_fits = omega arith;
    location_fits = zero_fits;
    label_fits = record { offset_fits = omega arith; location_fits = zero_fits; least = omega arith; most = omega arith; text = refl };
  };
}
