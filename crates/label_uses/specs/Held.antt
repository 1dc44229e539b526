-- An index in a buffer, and uses that go before a key, as the code that adds a use needs them. Assumes nothing.
use Rattle.std.specs.Prelude.{ℕ, ◌≤◌, List, [], ◌∷◌, ◌≡◌, length, take}
use Rattle.label_uses.specs.Uses.{UseKey, Use, use_order}
use Rattle.label_uses.specs.UseBytes.{uses_bytes}
use Rattle.std.specs.declared.cmp.Ordering.TheVariants.{Greater}

-- the filled part of a buffer is the bytes of the uses
pub record Holds (d : List ℕ) (fill : ℕ) (us : List Use) : Type 0 where
  pub filled : take fill d ≡ uses_bytes us
  pub within : fill ≤ length d

-- all of the uses go before the key
pub data Passed (key : UseKey) : List Use → Type 0 where
  none_passed : Passed key []
  one_passed : {u : Use} {us : List Use} → use_order key u.key ≡ Greater → Passed key us → Passed key (u ∷ us)
