-- On a label list without owners the answers are those of document 01. Assumes nothing.
use Rattle.std.specs.Prelude.{ℕ, ◌+◌, List, [], ◌∷◌, Bool, true, false, ◌&&◌, ◌||◌, ◌≡◌, refl, leb, ltb, eqb, None, Option, Some}
use Rattle.std.proofs.Math.Bool.{not, or-false}
use Rattle.std.proofs.Common.{sym, ap₂, ◌∙◌, eqb-true}
use Rattle.std.proofs.Math.Path.{ap, fun_ext}
use Rattle.std.proofs.lemmas.Bool.{eqb-false, not-true}
use Rattle.record.specs.Bytes.{is_text, all}
use Rattle.record.specs.Records.{body_len, kind_at, whole, places, first_bad, within_limit}
use Rattle.record.proofs.RecordsLaws.{first_good}
use Rattle.names.specs.Names.{name_of, first_named, first_repeat}
use Rattle.names.specs.Owners.{has_owner, WithoutOwners, for_all, owner_of, first_owned}
use Rattle.names.proofs.OwnersLaws.{without_owner}
use Rattle.names.proofs.StraightLaws.{straight_all, straight_owner, straight_repeat}
use Rattle.labels.specs.Labels.{label_ok, label_layout, or_else, labelled, address_of, resolve, table_of}
use Rattle.labels.specs.Straight.{straight_ok, straight_layout, straight_address, straight_table}

-- If tests agree at each place, they first fail at the same place.
layout_agree : (ok f g : ℕ → Bool) → ((p : ℕ) → ok p ≡ true → f p ≡ g p) → (ps : List ℕ) → first_bad ok ps ≡ None → first_bad f ps ≡ first_bad g ps
unfolding first_bad
layout_agree ok f g h [] k = refl
layout_agree ok f g h (p ∷ ps) k =
    let t = first_good ok p ps k in
    ap₂ (λ (b : Bool) (l : Option ℕ). elim b [ true ↦ l | false ↦ Some p ]) (h p t.0) (layout_agree ok f g h ps t.1)

straight_ok_lem : (s : List ℕ) (p : ℕ) → not (has_owner s p) ≡ true → label_ok s p ≡ straight_ok s p
unfolding label_ok
straight_ok_lem s p e =
    let n = body_len s p in
    let h = not-true (has_owner s p) e in
    ap₂
    (λ (b : Bool) (f : ℕ).
    whole s p
    && ((eqb (kind_at s p) 34 || (b && ltb (owner_of 4 s p) for_all)) && leb (f + 1) n && leb n (f + 64) && all is_text (name_of f s p)))
    h (without_owner 4 s p h).before
    ∙ ap (λ (b : Bool). whole s p && (b && leb 5 n && leb n 68 && all is_text (name_of 4 s p))) (or-false (eqb (kind_at s p) 34))

-- the same label twice
twice : (n : Option ℕ) → or_else n n ≡ n
twice (Some p) = refl
twice None = refl

module _ (s : List ℕ) (w : WithoutOwners s) where
  straight_layout_lem : label_layout s ≡ straight_layout s
  unfolding label_layout straight_layout
  straight_layout_lem = ap (within_limit s) (layout_agree (λ (p : ℕ). not (has_owner s p)) (label_ok s) (straight_ok s) (straight_ok_lem s) (places s) w)

  straight_label : (source : ℕ) (name : List ℕ) → labelled s source name ≡ first_named 4 s name
  straight_label source name = go (eqb for_all source) refl
    where
      all_files : first_owned 4 s for_all name ≡ first_named 4 s name
      all_files = straight_all 4 s w name

      -- If the source has labels of its own, they are those for all files.
      go : (b : Bool) → eqb for_all source ≡ b → labelled s source name ≡ first_named 4 s name
      go true e =
          ap₂ or_else (ap (λ (o : ℕ). first_owned 4 s o name) (sym (eqb-true for_all source e)) ∙ all_files) all_files ∙ twice (first_named 4 s name)
      go false e = ap₂ or_else (straight_owner 4 s w source name (eqb-false for_all source e)) all_files

  -- The answer does not depend on the source.
  straight_address_lem : (source : ℕ) (name : List ℕ) → resolve s source name ≡ straight_address s name
  unfolding resolve straight_address
  straight_address_lem source name = ap (address_of s) (straight_label source name)

  -- "With kind 34 alone, answers equal the commit's."
  pub straight : table_of s ≡ straight_table s
  straight =
      ap₂ (λ (l : Option ℕ) (r : Option ℕ). record { layout = l; repeat = r; address = resolve s }) straight_layout_lem (straight_repeat 4 s w)
      ∙ ap (λ (a : ℕ → List ℕ → Option ℕ). record { layout = straight_layout s; repeat = first_repeat 4 s; address = a })
      (fun_ext (λ source. fun_ext (λ name. straight_address_lem source name)))

-- such a list that is not empty: one label `a`
abbrev one : List ℕ
one = 5 ∷ 0 ∷ 34 ∷ 0 ∷ 0 ∷ 16 ∷ 0 ∷ 0 ∷ 97 ∷ []

pub one_met : (WithoutOwners one) × (straight_layout one ≡ None)
unfolding straight_layout
one_met = (refl, refl)
