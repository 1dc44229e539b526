-- A line's patches as a list of values: each at a multiple of four, each behind those before it, and each half next to its other half.
-- Assumes nothing.
use Rattle.std.specs.Prelude.{ℕ, ◌+◌, ◌*◌, ◌%◌, ◌≤◌, ◌≡◌, refl, None, Option, Some}
use Rattle.std.proofs.Common.{arith, sym}
use Rattle.std.proofs.Math.Path.{subst}
use mathlib.Core.List.Memᴰ
use mathlib.Core.List.{List, [], ◌∷◌, ◌++◌, Memᴰ}
use Rattle.record.specs.declared.Location.{Location}
use Rattle.address_label.specs.LabelBytes.{name_bytes}
use Rattle.address_label.specs.declared.NamedLabel.{NamedLabel}
use Rattle.address_label.specs.declared.AddressLabel.TheVariants.{Label}
use Rattle.pending.specs.declared.InstructionLabelKind.{InstructionLabelKind}
use Rattle.pending.specs.declared.InstructionLabelKind.TheVariants.{Lower, Upper, Full}
use Rattle.pending.specs.declared.Origin.{Origin}
use Rattle.emit_pairs.specs.declared.InstructionPair.{InstructionPair}
use Rattle.reading.specs.OnTarget.{Going}
use Rattle.routine.specs.PatchValues.{Patch, Name, target_of, origin_at, patch_to, pair_patches, patches_from}
use Rattle.routine.specs.Run.{Each}
use Rattle.routine.proofs.InsideLaws.{each_append, each_so, Behind, patches_behind}
use Rattle.routine_reading.proofs.HalvesLaws.{Whole, waits_for, Halves, done, alone, both}
use Rattle.pending.specs.declared.InstructionLabel.{InstructionLabel}

-- ---- what is said of patches

-- The patch begins at a multiple of four in its region's data.
abbrev pub OnWord : Patch → Type 0
OnWord p = p.offset % 4 ≡ 0

-- If x and y are in one region, y begins behind the four bytes of x.
abbrev pub Beyond : Patch → Patch → Type 0
Beyond x y = x.region ≡ y.region → x.offset + 4 ≤ y.offset

-- Each patch begins behind all earlier ones of its region.
abbrev pub Spaced : List Patch → Type 0
Spaced [] = Unit {0}
Spaced (x ∷ xs) = Each (Beyond x) xs × Spaced xs

-- The two halves of an address.
pub record Mates (upper lower : Patch) : Type 0 where
  pub upper_kind : upper.kind ≡ Upper
  pub lower_kind : lower.kind ≡ Lower
  pub region : lower.region ≡ upper.region
  pub later : lower.offset ≡ upper.offset + 4
  pub name : List ℕ
  pub location : Location
  pub added : ℕ
  pub upper_target : upper.target ≡ Name name location added
  pub lower_target : lower.target ≡ Name name location added

pub record HasLower (xs : List Patch) (upper : Patch) : Type 0 where
  pub lower : Patch
  pub listed : Memᴰ lower xs
  pub mates : Mates upper lower

pub record HasUpper (xs : List Patch) (lower : Patch) : Type 0 where
  pub upper : Patch
  pub listed : Memᴰ upper xs
  pub mates : Mates upper lower

-- A half has its other half in the list, and no patch fills a whole word.
pub record Mated (xs : List Patch) (p : Patch) : Type 0 where
  pub has_lower : p.kind ≡ Upper → HasLower xs p
  pub has_upper : p.kind ≡ Lower → HasUpper xs p
  pub not_full : p.kind ≡ Full → ⊥

-- ---- the patches of a line

module _ (tl : List ℕ) where
  going_mated : (xs : List Patch) (word : Origin) (waits : Option InstructionLabel) → Whole waits → Each (Mated xs) (pair_patches tl word waits)
  going_mated xs word None w = tt
  going_mated xs word (Some waits) w =
      (record { has_lower = λ e. absurd (subst Going e w); has_upper = λ e. absurd (subst Going e w); not_full = λ e. subst Going e w }, tt)

  more_mated : (xs ys zs : List Patch) → Each (Mated ys) zs → Each (Mated (xs ++ ys)) zs
  more_mated xs ys zs h =
      each_so (Mated ys) (Mated (xs ++ ys))
      (λ p m. record {
        has_lower = λ e. let f = m.has_lower e in record { lower = f.lower; listed = Memᴰ.append_right xs f.listed; mates = f.mates };
        has_upper = λ e. let f = m.has_upper e in record { upper = f.upper; listed = Memᴰ.append_right xs f.listed; mates = f.mates };
        not_full = m.not_full;
      })
      zs h

  module _ (origin : Origin) where
    abbrev half : ℕ → InstructionLabelKind → NamedLabel → Patch
    half i kind name = patch_to (origin_at origin i) kind (Name (name_bytes tl (Label name)) name.location name.offset)

    halves_mate : (i : ℕ) (name : NamedLabel) → Mates (half i Upper name) (half (i + 1) Lower name)
    halves_mate i name = record {
      upper_kind = refl;
      lower_kind = refl;
      region = refl;
      later = omega arith;
      name = name_bytes tl (Label name);
      location = name.location;
      added = name.offset;
      upper_target = refl;
      lower_target = refl;
    }

    kinds_differ : (k : InstructionLabelKind) → k ≡ Upper → k ≡ Lower → ⊥
    kinds_differ k e f = let z : ◌≡◌ {A = ℕ} 0 1 = cc in omega arith

    two_mated : (i : ℕ) (name : NamedLabel) (rest : List Patch) → Each (Mated rest) rest
        → Each (Mated (half i Upper name ∷ half (i + 1) Lower name ∷ rest)) (half i Upper name ∷ half (i + 1) Lower name ∷ rest)
    two_mated i name rest h =
        let u = half i Upper name in
        let l = half (i + 1) Lower name in (
          record {
            has_lower = λ e. record { lower = l; listed = Memᴰ.tail (Memᴰ.head refl); mates = halves_mate i name };
            has_upper = λ e. absurd (kinds_differ Upper refl e);
            not_full = λ e. let z : ◌≡◌ {A = ℕ} 0 1 = cc in omega arith;
          },
          (
            record {
              has_lower = λ e. absurd (kinds_differ Lower e refl);
              has_upper = λ e. record { upper = u; listed = Memᴰ.head refl; mates = halves_mate i name };
              not_full = λ e. let z : ◌≡◌ {A = ℕ} 0 1 = cc in omega arith;
            },
            more_mated (u ∷ l ∷ []) rest rest h,
          ),
        )

    pub line_mated : (i : ℕ) {ps : List InstructionPair} → Halves ps → Each (Mated (patches_from tl origin i ps)) (patches_from tl origin i ps)
    unfolding patches_from
    line_mated i done = tt
    line_mated i (alone {p} {ps} w h) =
        let first = pair_patches tl (origin_at origin i) p.label in
        let rest = patches_from tl origin (i + 1) ps in
        each_append (Mated (first ++ rest)) first rest (going_mated (first ++ rest) (origin_at origin i) p.label w)
        (more_mated first rest rest (line_mated (i + 1) h))
    line_mated i (both {u} {l} {ps} name eu el h) =
        let rest = patches_from tl origin (i + 1 + 1) ps in
        let shape : Option InstructionLabel → Option InstructionLabel → List Patch = λ a b. pair_patches tl (origin_at origin i) a ++ (pair_patches tl (origin_at origin (i + 1)) b ++ rest) in
        subst (λ (a : Option InstructionLabel). Each (Mated (shape a l.label)) (shape a l.label)) (sym eu)
        (subst (λ (b : Option InstructionLabel). Each (Mated (shape (waits_for Upper name) b)) (shape (waits_for Upper name) b)) (sym el)
        (two_mated i name rest (line_mated (i + 1 + 1) h)))

    -- ---- where they stand

    first_spaced : (i : ℕ) (waits : Option InstructionLabel) (rest : List Patch) → Each (Behind origin.region (origin.offset + 4 * i + 4)) rest → Spaced rest
        → Spaced (pair_patches tl (origin_at origin i) waits ++ rest)
    first_spaced i None rest h s = s
    first_spaced i (Some waits) rest h s = (each_so (Behind origin.region (origin.offset + 4 * i + 4)) (Beyond (patch_to (origin_at origin i) waits.kind (target_of waits.label (name_bytes tl waits.label)))) (λ y b e. b.1) rest h, s)

    pub line_spaced : (i : ℕ) (ps : List InstructionPair) → Spaced (patches_from tl origin i ps)
    unfolding patches_from
    line_spaced i [] = tt
    line_spaced i (p ∷ ps) =
        first_spaced i p.label (patches_from tl origin (i + 1) ps) (patches_behind tl origin (i + 1) (origin.offset + 4 * i + 4) ps (omega arith)) (line_spaced (i + 1) ps)

    one_word : (i : ℕ) (waits : Option InstructionLabel) → origin.offset % 4 ≡ 0 → Each OnWord (pair_patches tl (origin_at origin i) waits)
    one_word i None h = tt
    one_word i (Some waits) h = (omega arith, tt)

    pub line_on_words : (i : ℕ) (ps : List InstructionPair) → origin.offset % 4 ≡ 0 → Each OnWord (patches_from tl origin i ps)
    unfolding patches_from
    line_on_words i [] h = tt
    line_on_words i (p ∷ ps) h =
        each_append OnWord (pair_patches tl (origin_at origin i) p.label) (patches_from tl origin (i + 1) ps) (one_word i p.label h) (line_on_words (i + 1) ps h)
