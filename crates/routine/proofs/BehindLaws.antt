-- Records written behind a list, read as values: the list's own values stay, and the new records' values follow. Assumes nothing.
use Rattle.std.specs.Prelude.{ℕ, ◌+◌, ◌*◌, ◌^◌, ◌≤◌, ◌<◌, ◌≡◌, refl, None, Option, Some}
use Rattle.std.proofs.Common.{arith, sym, ◌∙◌}
use Rattle.std.proofs.Math.Path.{ap, ap₂, subst}
use mathlib.Core.List.{List, [], ◌∷◌, ◌++◌, map, append_assoc, append-nil, Memᴰ}
use Rattle.std.proofs.Math.ListN.{length}
use Rattle.record.specs.Records.{places, first_bad}
use Rattle.record.specs.Stores.{LocationFits}
use Rattle.record.specs.declared.Location.{Location}
use Rattle.address_label.specs.LabelBytes.{name_bytes}
use Rattle.address_label.proofs.Written.{label_as_read}
use Rattle.address_label.specs.declared.AddressLabel.{AddressLabel}
use Rattle.address_label.specs.declared.AddressLabel.TheVariants.{Constant, Label}
use Rattle.pending.specs.Pendings.{pending_ok}
use Rattle.pending.specs.PendingBytes.{pending_bytes}
use Rattle.pending.proofs.Written.{written_behind}
use Rattle.pending.specs.declared.Origin.{Origin}
use Rattle.breakpoints.specs.Breakpoints.{breakpoint_ok}
use Rattle.breakpoints.specs.BreakpointBytes.{pcs_from, breakpoint_bytes, BreakpointFits}
use Rattle.breakpoints.proofs.Written.{written_behind as written_breakpoint}
use Rattle.emit_pairs.specs.declared.InstructionPair.{InstructionPair}
use Rattle.emit_bytes.specs.Appended.{onward, pair_bytes, pendings_bytes}
use Rattle.routine.specs.PatchValues.{Patch, target_of, patch_of, patch_at, patches_in, origin_at, patch_to, pair_patches, patches_from}
use Rattle.routine.specs.BreakpointValues.{Breakpoint, breakpoint_at, breakpoints_in}
use Rattle.routine.proofs.WordLaws.{PairFits, PairsFit}
use Rattle.pending.specs.declared.InstructionLabel.{InstructionLabel}

-- ---- lists of values

map_same : {A : Type 0} (f g : ℕ → A) (ps : List ℕ) → ((p : ℕ) → Memᴰ p ps → f p ≡ g p) → map f ps ≡ map g ps
map_same f g [] h = refl
map_same {A} f g (p ∷ ps) h = ap₂ (λ (a : A) (xs : List A). a ∷ xs) (h p (Memᴰ.head refl)) (map_same f g ps (λ q m. h q (Memᴰ.tail m)))

map_append : {A : Type 0} (f : ℕ → A) (ps qs : List ℕ) → map f (ps ++ qs) ≡ map f ps ++ map f qs
map_append f [] qs = refl
map_append {A} f (p ∷ ps) qs = ap (λ (xs : List A). f p ∷ xs) (map_append f ps qs)

-- One place more: f gives `value` there, and agrees with g at the other places.
one_value : {A : Type 0} (f g : ℕ → A) {new : List ℕ} (old : List ℕ) (at : ℕ) (value : A) → new ≡ old ++ at ∷ [] → ((p : ℕ) → Memᴰ p old → f p ≡ g p) → f at ≡ value
    → map f new ≡ map g old ++ value ∷ []
one_value {A} f g old at value e h v =
    ap (map f) e ∙ map_append f old (at ∷ []) ∙ ap₂ (λ (xs : List A) (a : A). xs ++ a ∷ []) (map_same f g old h) v

-- ---- what a pending waits for

target_read : (names name : List ℕ) (at : ℕ) (label : AddressLabel) → target_of (label_as_read names at label) name ≡ target_of label name
target_read names name at (Constant value) = refl
target_read names name at (Label label) = refl

-- ---- the origins of a line's words

at_offset : (origin : Origin) (m n : ℕ) → m ≡ n → ◌≡◌ {A = Origin} (record { region = origin.region; offset = m; location = origin.location }) (record { region = origin.region; offset = n; location = origin.location })
at_offset origin m n e = ap (λ (k : ℕ). record { region = origin.region; offset = k; location = origin.location }) e

first_origin : (origin : Origin) → origin_at origin 0 ≡ origin
first_origin origin = at_offset origin (origin_at origin 0).offset origin.offset (omega arith)

next_origin : (origin : Origin) (i : ℕ) → onward (origin_at origin i) ≡ origin_at origin (i + 1)
next_origin origin i = at_offset origin ((origin_at origin i).offset + 4) (origin_at origin (i + 1)).offset (omega arith)

-- ---- records behind a list

module _ (regions : ℕ) where
  -- `new` is a good list that reads as `old` with these patches behind it.
  pub record Behind (old new : List ℕ) (patches : List Patch) : Type 0 where
    pub keeps : first_bad (pending_ok regions new) (places new) ≡ None
    pub patches_are : patches_in new ≡ patches_in old ++ patches

  abbrev Kept : List ℕ → Type 0
  Kept s = first_bad (pending_ok regions s) (places s) ≡ None

  none_behind : (old : List ℕ) → Kept old → Behind old (old ++ []) []
  none_behind old kept = subst (λ (new : List ℕ). Behind old new []) (sym (append-nil old)) (record { keeps = kept; patches_are = sym (append-nil (patches_in old)) })

  two_behind : {old mid new : List ℕ} (p q : List Patch) → Behind old mid p → Behind mid new q → Behind old new (p ++ q)
  two_behind {old} p q a b = record {
    keeps = b.keeps;
    patches_are = b.patches_are ∙ ap (λ (ps : List Patch). ps ++ q) a.patches_are ∙ append_assoc (patches_in old) p q;
  }

  -- An origin in one of the regions, with numbers that fit their fields.
  pub record OriginFits (origin : Origin) : Type 0 where
    pub region_ok : origin.region < regions
    pub region_fits : origin.region < 2 ^ 16
    pub location_fits : LocationFits origin.location

  module _ (names : List ℕ) where
    one_behind : (old : List ℕ) (origin : Origin) (waits : Option InstructionLabel) → Kept old → OriginFits origin → origin.offset < 2 ^ 32 → PairFits names waits
        → Behind old (old ++ pair_bytes names origin waits) (pair_patches names origin waits)
    unfolding patches_in
    one_behind old origin None kept fits o h = none_behind old kept
    one_behind old origin (Some waits) kept fits o h =
        let w = written_behind regions old names origin waits kept fits.region_ok (record { region_fits = fits.region_fits; offset_fits = o; location_fits = fits.location_fits; label_fits = h }) in
        let new = old ++ pending_bytes names origin waits in
        let name = name_bytes names waits.label in
        let at = length old in
        record {
          keeps = w.keeps;
          patches_are =
              one_value (patch_at new) (patch_at old) (places old) at _ w.places_are
              (λ p m. ap₂ patch_of (w.others p m).0 (w.others p m).1)
              (ap₂ patch_of w.reads w.name ∙ ap (patch_to origin waits.kind) (target_read names name (at + 36) waits.label));
        }

    pairs_from : (old : List ℕ) (origin : Origin) (i : ℕ) (ps : List InstructionPair) → Kept old → OriginFits origin → origin.offset + 4 * (i + length ps) ≤ 2 ^ 32 → PairsFit names ps
        → Behind old (old ++ pendings_bytes names (origin_at origin i) ps) (patches_from names origin i ps)
    unfolding pendings_bytes patches_from
    pairs_from old origin i [] kept fits o h = none_behind old kept
    pairs_from old origin i (p ∷ ps) kept fits o h =
        let word = origin_at origin i in
        let b = pair_bytes names word p.label in
        let w = one_behind old word p.label kept (record { region_ok = fits.region_ok; region_fits = fits.region_fits; location_fits = fits.location_fits }) (omega arith) h.0 in
        let r = pairs_from (old ++ b) origin (i + 1) ps w.keeps fits (omega arith) h.1 in
        let e : (old ++ b) ++ pendings_bytes names (origin_at origin (i + 1)) ps ≡ old ++ (b ++ pendings_bytes names (onward word) ps) =
        append_assoc old b (pendings_bytes names (origin_at origin (i + 1)) ps) ∙ ap (λ (o : Origin). old ++ (b ++ pendings_bytes names o ps)) (sym (next_origin origin i)) in
        subst (λ (new : List ℕ). Behind old new (pair_patches names word p.label ++ patches_from names origin (i + 1) ps)) e
        (two_behind (pair_patches names word p.label) (patches_from names origin (i + 1) ps) w r)

    -- the pending records of a line
    pub pendings_behind : (old : List ℕ) (origin : Origin) (ps : List InstructionPair) → Kept old → OriginFits origin → origin.offset + 4 * length ps ≤ 2 ^ 32 → PairsFit names ps
        → Behind old (old ++ pendings_bytes names origin ps) (patches_from names origin 0 ps)
    pendings_behind old origin ps kept fits o h =
        subst (λ (first : Origin). Behind old (old ++ pendings_bytes names first ps) (patches_from names origin 0 ps)) (first_origin origin)
        (pairs_from old origin 0 ps kept fits (omega arith) h)

-- ---- the breakpoint record of a line
pub record BreakpointBehind (old new : List ℕ) (breakpoint : Breakpoint) : Type 0 where
  pub keeps : first_bad (breakpoint_ok new) (places new) ≡ None
  pub breakpoints_are : breakpoints_in new ≡ breakpoints_in old ++ breakpoint ∷ []

abbrev pub breakpoint_of : Location → (pcs : List ℕ) → Breakpoint
breakpoint_of location pcs = record { location = location; pcs = pcs }

pub breakpoint_follows : (old : List ℕ) (location : Location) (pc n : ℕ) → first_bad (breakpoint_ok old) (places old) ≡ None → BreakpointFits location pc n
    → BreakpointBehind old (old ++ breakpoint_bytes location pc n) (breakpoint_of location (pcs_from n pc))
unfolding breakpoints_in
breakpoint_follows old location pc n kept fits =
    let w = written_breakpoint old location pc n kept fits in
    let new = old ++ breakpoint_bytes location pc n in
    record {
      keeps = w.keeps;
      breakpoints_are =
          one_value (breakpoint_at new) (breakpoint_at old) (places old) (length old) (breakpoint_of location (pcs_from n pc)) w.places_are
          (λ p m. ap₂ breakpoint_of (w.others p m).0 (w.others p m).1)
          (ap₂ breakpoint_of w.location_is w.pcs_are);
    }
