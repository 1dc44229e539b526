-- Laws of a line's uses, word by word: the index with them, and how long it is. Assumes nothing.
use Prim.Native.Nat.{ℕ, zero, suc, ◌+◌, ◌≤◌, ◌<◌}
use Rattle.std.proofs.Common.{not-suc-le-zero, add-one, sym, ap₂, ◌∙◌, subst}
use native.Mathlib.Omega.{arith}
use mathlib.Core.List.{List, [], ◌∷◌}
use Rattle.std.specs.Prelude.{◌≡◌, length, take, get_or, None, Option, Some}
use Rattle.std.proofs.Math.Path.{refl, ap}
use Rattle.record.specs.Bytes.{part}
use Rattle.record.specs.Stores.{append}
use Rattle.address_label.specs.declared.AddressLabel.{AddressLabel}
use Rattle.address_label.specs.declared.AddressLabel.TheVariants.{Constant, Label}
use Rattle.pending.specs.declared.InstructionLabel.{InstructionLabel}
use Rattle.emit_pairs.specs.declared.InstructionPair.{InstructionPair}
use Rattle.label_uses.specs.Uses.{UseKey, Use, key_for, use_of}
use Rattle.label_uses.specs.UseBytes.{uses_bytes}
use Rattle.label_uses.proofs.UseBytesLaws.{insert_length}
use Rattle.label_uses.proofs.IndexLaws.{written_first}
use Rattle.label_uses.proofs.InsertLaws.{Rises}
use Rattle.use_adding.specs.Adding.{IndexIn}
use Rattle.use_adding.specs.Making.{RoomForOne}
use Rattle.use_adding.proofs.MakingLaws.{append_again, held_is}
use Rattle.line_uses.specs.LineUses.{pair_use, next_number, line_uses, number_after, has_key, pair_growth}
use Rattle.line_uses.specs.LineIndex.{held_by, OwnersFit, RoomForPair, AddsPair, AddsPairTo, AddsLine}
use Rattle.line_uses.proofs.AddsLabelLaws.{AddsLabelTo}
use Rattle.line_uses.proofs.HasLaws.{pair_grows, growth_alike, line_rises, line_has}

module _ (labels names : List ℕ) where
  -- ---- one word more
  module _ (d : InstructionPair) (w : Option InstructionLabel) where
    uses_suc : (n : ℕ) (ps : List InstructionPair) (i : ℕ) (us : List Use) → i < length ps → (get_or ps i d).label ≡ w
        → line_uses labels names n (take (suc i) ps) us ≡ pair_use labels names w (number_after n (take i ps)) (line_uses labels names n (take i ps) us)
    unfolding line_uses number_after
    uses_suc n [] i us h g = absurd (not-suc-le-zero h)
    uses_suc n (p ∷ ps) zero us h g = ap (λ (x : Option InstructionLabel). pair_use labels names x n us) g
    uses_suc n (p ∷ ps) (suc i) us h g = uses_suc (next_number p.label n) ps i (pair_use labels names p.label n us) (omega arith) g

    pub uses_next : (n : ℕ) (ps : List InstructionPair) (i : ℕ) (us : List Use) → i < length ps → (get_or ps i d).label ≡ w
        → line_uses labels names n (take (i + 1) ps) us ≡ pair_use labels names w (number_after n (take i ps)) (line_uses labels names n (take i ps) us)
    uses_next n ps i us h g = rw add-one (uses_suc n ps i us h g)

    number_suc : (n : ℕ) (ps : List InstructionPair) (i : ℕ) → i < length ps → (get_or ps i d).label ≡ w → number_after n (take (suc i) ps) ≡ next_number w (number_after n (take i ps))
    unfolding number_after
    number_suc n [] i h g = absurd (not-suc-le-zero h)
    number_suc n (p ∷ ps) zero h g = ap (λ (x : Option InstructionLabel). next_number x n) g
    number_suc n (p ∷ ps) (suc i) h g = number_suc (next_number p.label n) ps i (omega arith) g

    pub number_next : (n : ℕ) (ps : List InstructionPair) (i : ℕ) → i < length ps → (get_or ps i d).label ≡ w → number_after n (take (i + 1) ps) ≡ next_number w (number_after n (take i ps))
    number_next n ps i h g = rw add-one (number_suc n ps i h g)

    -- The index gets longer by this much.
    pub size_next : (n : ℕ) (ps : List InstructionPair) (i : ℕ) (us : List Use) → Rises us → i < length ps → (get_or ps i d).label ≡ w
        → length (uses_bytes (line_uses labels names n (take (i + 1) ps) us)) ≡ length (uses_bytes (line_uses labels names n (take i ps) us)) + pair_growth labels names (held_by labels names us (take i ps)) w
    size_next n ps i us r h g =
        let vs = line_uses labels names n (take i ps) us in
        ap (λ (x : List Use). length (uses_bytes x)) (uses_next n ps i us h g)
        ∙ pair_grows labels names w (number_after n (take i ps)) vs (line_rises labels names n (take i ps) us r)
        ∙ ap (λ (x : ℕ). length (uses_bytes vs) + x) (growth_alike labels names (λ (key : UseKey). has_key key vs) (held_by labels names us (take i ps)) (λ key. line_has labels names key n (take i ps) us) w)

  -- ---- no use makes it shorter
  label_least : (x : AddressLabel) (n : ℕ) (us : List Use) → length (uses_bytes us) ≤ length (uses_bytes (use_of labels names x n us))
  label_least (Constant value) n us = omega arith
  label_least (Label l) n us = omega (arith, (insert_length (key_for labels l.location.source (part names l.name_at l.name_len)) n us).least)

  pub pair_least : (w : Option InstructionLabel) (n : ℕ) (us : List Use) → length (uses_bytes us) ≤ length (uses_bytes (pair_use labels names w n us))
  pair_least None n us = omega arith
  pair_least (Some w) n us = label_least w.label n us

  line_least : (n : ℕ) (ps : List InstructionPair) (us : List Use) → length (uses_bytes us) ≤ length (uses_bytes (line_uses labels names n ps us))
  unfolding line_uses
  line_least n [] us = omega arith
  line_least n (p ∷ ps) us =
      omega (arith, pair_least p.label n us, line_least (next_number p.label n) ps (pair_use labels names p.label n us))

  pub lines_within : (n : ℕ) (ps : List InstructionPair) (i k : ℕ) (us : List Use) → i ≤ k → length (uses_bytes (line_uses labels names n (take i ps) us)) ≤ length (uses_bytes (line_uses labels names n (take k ps) us))
  unfolding line_uses
  lines_within n ps zero k us h = line_least n (take k ps) us
  lines_within n [] (suc i) zero us h = omega arith
  lines_within n [] (suc i) (suc k) us h = omega arith
  lines_within n (p ∷ ps) (suc i) zero us h = absurd (not-suc-le-zero h)
  lines_within n (p ∷ ps) (suc i) (suc k) us h = lines_within (next_number p.label n) ps i k (pair_use labels names p.label n us) (omega arith)

  -- ---- the numbers
  pub next_most : (w : Option InstructionLabel) (n : ℕ) → next_number w n ≤ n + 1
  next_most None n = omega arith
  next_most (Some w) n = omega arith

  pub number_most : (n : ℕ) (ps : List InstructionPair) (i : ℕ) → number_after n (take i ps) ≤ n + i
  unfolding number_after
  number_most n ps zero = omega arith
  number_most n [] (suc i) = omega arith
  number_most n (p ∷ ps) (suc i) = omega (arith, next_most p.label n, number_most (next_number p.label n) ps i)

  -- ---- the index with the first i words' uses
  pub record LineTo (d₀ : List ℕ) (first : ℕ) (ps : List InstructionPair) (us : List Use) (d : List ℕ) (i filled n : ℕ) : Type 0 where
    pub bytes : d ≡ append d₀ 0 (uses_bytes (line_uses labels names first (take i ps) us))
    pub index_in : IndexIn d filled (line_uses labels names first (take i ps) us)
    pub number_is : n ≡ number_after first (take i ps)

  pub line_start : (d : List ℕ) (fill first : ℕ) (ps : List InstructionPair) (us : List Use) → IndexIn d fill us → LineTo d first ps us d 0 fill first
  unfolding line_uses number_after
  line_start d fill first ps us x = record { bytes = (held_is d fill us x).0; index_in = x; number_is = refl }

  module _ (d₀ : List ℕ) (first : ℕ) (ps : List InstructionPair) (us : List Use) (d : List ℕ) (i filled n : ℕ) (l : LineTo d₀ first ps us d i filled n) where
    abbrev vs : List Use
    vs = line_uses labels names first (take i ps) us

    module _ (p : InstructionPair) (w : Option InstructionLabel) (h : i < length ps) (g : (get_or ps i p).label ≡ w) where
      -- If there is room for all words, there is room for the next.
      pub line_room : (k : ℕ) → i + 1 ≤ k → length (uses_bytes (line_uses labels names first (take k ps) us)) ≤ length d → RoomForPair labels names d filled w n
      line_room k m r = record {
        us = vs;
        index_in = l.index_in;
        room = omega (
          arith,
          lines_within first ps (i + 1) k us m,
          ap (λ (x : List Use). length (uses_bytes x)) (uses_next p w first ps i us h g),
          ap (λ (x : ℕ). length (uses_bytes (pair_use labels names w x vs))) l.number_is,
        );
      }

      pub line_next : (e : List ℕ) (after m : ℕ) → length e ≡ length d → after ≤ length d → AddsPair labels names d e w n after vs → m ≡ next_number w n
          → LineTo d₀ first ps us e (i + 1) after m
      line_next e after m len room a q =
          let s : line_uses labels names first (take (i + 1) ps) us ≡ pair_use labels names w n vs =
          uses_next p w first ps i us h g ∙ ap (λ (x : ℕ). pair_use labels names w x vs) (sym l.number_is) in
          let b : e ≡ append d₀ 0 (uses_bytes (pair_use labels names w n vs)) =
          a.bytes ∙ ap (λ (x : List ℕ). append x 0 (uses_bytes (pair_use labels names w n vs))) l.bytes ∙ append_again d₀ (uses_bytes vs) (uses_bytes (pair_use labels names w n vs)) (pair_least w n vs) in
          record {
            bytes = b ∙ ap (λ (x : List Use). append d₀ 0 (uses_bytes x)) (sym s);
            index_in = subst (IndexIn e after) (sym s) (record {
              holds = record { filled = ap₂ take a.filled b ∙ written_first d₀ (uses_bytes (pair_use labels names w n vs)); within = omega (arith, a.filled) };
              limited = omega (arith, l.index_in.limited);
              owners = a.owners;
            });
            number_is = q ∙ ap (next_number w) l.number_is ∙ sym (number_next p w first ps i h g);
          }

    pub line_end : {k : ℕ} → i ≡ k → AddsLine labels names d₀ d (take k ps) first filled us
    line_end {k} e =
        let f : filled ≡ length (uses_bytes vs) = (held_is d filled vs l.index_in).1 in
        record {
          bytes = l.bytes ∙ ap (λ (m : ℕ). append d₀ 0 (uses_bytes (line_uses labels names first (take m ps) us))) e;
          filled = f ∙ ap (λ (m : ℕ). length (uses_bytes (line_uses labels names first (take m ps) us))) e;
        }

-- ---- what a word waits for
module _ (labels names : List ℕ) (w : Option InstructionLabel) where
  pub nothing_adds : w ≡ None → (d : List ℕ) (fill n : ℕ) → AddsPairTo labels names d d fill w n fill
  nothing_adds e d fill n us i =
      let h = held_is d fill us i in
      let u : us ≡ pair_use labels names w n us = sym (ap (λ (y : Option InstructionLabel). pair_use labels names y n us) e) in
      record {
        bytes = h.0 ∙ ap (λ (y : List Use). append d 0 (uses_bytes y)) u;
        filled = h.1 ∙ ap (λ (y : List Use). length (uses_bytes y)) u;
        owners = subst OwnersFit u i.owners;
      }

  module _ (waits : InstructionLabel) (e : w ≡ Some waits) where
    use_is : (n : ℕ) (us : List Use) → use_of labels names waits.label n us ≡ pair_use labels names w n us
    use_is n us = sym (ap (λ (y : Option InstructionLabel). pair_use labels names y n us) e)

    pub some_room : (d : List ℕ) (fill n : ℕ) → RoomForPair labels names d fill w n → RoomForOne d labels names fill waits.label n
    some_room d fill n r = record { us = r.us; index_in = r.index_in; room = omega (arith, r.room, ap (λ (y : List Use). length (uses_bytes y)) (use_is n r.us)) }

    pub some_adds : (d f : List ℕ) (fill n after : ℕ) → AddsLabelTo labels names d f fill waits.label n after → AddsPairTo labels names d f fill w n after
    some_adds d f fill n after h us i =
        let a = h us i in
        record {
          bytes = a.bytes ∙ ap (λ (y : List Use). append d 0 (uses_bytes y)) (use_is n us);
          filled = a.filled ∙ ap (λ (y : List Use). length (uses_bytes y)) (use_is n us);
          owners = subst OwnersFit (use_is n us) a.owners;
        }
