-- Laws of records that may have an owner. Assumes nothing.
use Rattle.std.specs.Prelude.{ℕ, ◌+◌, ◌≤◌, ◌<◌, List, Bool, true, false, ◌≡◌, refl, length, None}
use Rattle.std.proofs.Common.{arith}
use Rattle.record.specs.Bytes.{le32}
use Rattle.record.proofs.RecordsLaws.{layout_from, good_ok}
use Rattle.names.proofs.NamesLaws.{HasNameIs, has_name_is}
use Rattle.names.specs.Owners.{has_owner, for_all, owner_of, before_name, has_owned_name}

-- A record at `at` with an owner, and one without.
pub record With (skip : ℕ) (s : List ℕ) (at : ℕ) : Type 0 where
  pub before : before_name skip s at ≡ skip + 4
  pub owner : owner_of skip s at ≡ le32 s (at + 4 + skip)

pub record Without (skip : ℕ) (s : List ℕ) (at : ℕ) : Type 0 where
  pub before : before_name skip s at ≡ skip
  pub owner : owner_of skip s at ≡ for_all

pub with_owner : (skip : ℕ) (s : List ℕ) (at : ℕ) → has_owner s at ≡ true → With skip s at
with_owner skip s at e = record { before = rw (e, before_name); owner = rw (e, owner_of) }

pub without_owner : (skip : ℕ) (s : List ℕ) (at : ℕ) → has_owner s at ≡ false → Without skip s at
without_owner skip s at e = record { before = rw (e, before_name); owner = rw (e, owner_of) }

pub before_least : (skip : ℕ) (s : List ℕ) (at : ℕ) → skip ≤ before_name skip s at
before_least skip s at = go (has_owner s at) refl
  where
    go : (b : Bool) → has_owner s at ≡ b → skip ≤ before_name skip s at
    go true e = omega (arith, with_owner skip s at e)
    go false e = omega (arith, without_owner skip s at e)

-- What holds when the test passes: the record has a name.
abbrev pub OwnedIs : ℕ → List ℕ → ℕ → Type 0
OwnedIs skip s at = HasNameIs (before_name skip s at) s at

pub owned_is : (skip : ℕ) (s : List ℕ) (at : ℕ) → has_owned_name skip s at ≡ true → OwnedIs skip s at
owned_is skip s at e = has_name_is (before_name skip s at) s at e

-- Every record from `at` on has a name, so the one at `at` has.
pub good_owned : (skip : ℕ) (s : List ℕ) (at : ℕ) → at < length s → layout_from (has_owned_name skip s) s at ≡ None → OwnedIs skip s at
good_owned skip s at h g = owned_is skip s at (good_ok (has_owned_name skip s) s at h g)
