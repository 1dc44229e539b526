-- In a list without owners, the owner asked for makes no difference. Assumes nothing.
use Rattle.std.specs.Prelude.{ℕ, List, Bool, true, ◌&&◌, not, ◌≡◌, eqb, None}
use Rattle.std.proofs.Common.{ap, ap₂, ◌∙◌, ne_eqb}
use Rattle.std.proofs.lemmas.Bool.{not-true}
use Rattle.record.specs.Bytes.{same_bytes}
use Rattle.record.specs.Records.{places}
use Rattle.names.specs.Names.{name_of, has_name, is_named, same_named, first_named, first_repeat}
use Rattle.names.proofs.NamesLaws.{where_agree, where_none, later_agree}
use Rattle.names.specs.Owners.{has_owner, WithoutOwners, for_all, has_owned_name, is_owned, same_owned, first_owned, owned_repeat}
use Rattle.names.proofs.OwnersLaws.{Without, without_owner}

module _ (skip : ℕ) (s : List ℕ) where
  -- ---- of one record
  abbrev shared : ℕ → Bool
  shared p = not (has_owner s p)

  is_shared : (p : ℕ) → shared p ≡ true → Without skip s p
  is_shared p e = without_owner skip s p (not-true (has_owner s p) e)

  pub shared_named : (p : ℕ) → not (has_owner s p) ≡ true → has_owned_name skip s p ≡ has_name skip s p
  shared_named p e = ap (λ (n : ℕ). has_name n s p) (is_shared p e).before

  shared_is : (owner : ℕ) (name : List ℕ) (p : ℕ) → shared p ≡ true → is_owned skip s owner name p ≡ (eqb for_all owner && is_named skip s name p)
  shared_is owner name p e = let w = is_shared p e in ap₂ (λ (o n : ℕ). eqb o owner && same_bytes (name_of n s p) name) w.owner w.before

  shared_same : (p q : ℕ) → shared p ≡ true → shared q ≡ true → same_owned skip s p q ≡ same_named skip s p q
  shared_same p q e f =
      let w = is_shared p e in
      ap₂ (λ (o n : ℕ). is_owned skip s o (name_of n s p) q) w.owner w.before ∙ shared_is for_all (name_of skip s p) q f

  -- ---- of the list
  module _ (w : WithoutOwners s) where
    pub straight_all : (name : List ℕ) → first_owned skip s for_all name ≡ first_named skip s name
    straight_all name = where_agree shared (is_owned skip s for_all name) (is_named skip s name) (shared_is for_all name) (places s) w

    pub straight_owner : (owner : ℕ) (name : List ℕ) → (for_all ≡ owner → ⊥) → first_owned skip s owner name ≡ None
    straight_owner owner name h =
        where_none shared (is_owned skip s owner name)
        (λ p e. shared_is owner name p e ∙ ap (λ (b : Bool). b && is_named skip s name p) (ne_eqb for_all owner h)) (places s) w

    pub straight_repeat : owned_repeat skip s ≡ first_repeat skip s
    straight_repeat = later_agree shared (same_owned skip s) (same_named skip s) shared_same (places s) (places s) w w
