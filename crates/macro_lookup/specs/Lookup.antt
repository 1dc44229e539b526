-- What looking up a macro finds, and what holds at a macro's place. Assumes nothing.
use Rattle.std.specs.Prelude.{ℕ, ◌+◌, ◌-◌, ◌≤◌, ◌<◌, List, ◌⊎◌, true, false, ◌≡◌, length, get_or}
use Rattle.record.specs.Records.{body_len, next, whole, places}
use Rattle.names.specs.Names.{is_first}
use Rattle.name_sort.specs.Sorting.{In}
use Rattle.macros.specs.Macros.{name_at, macro_ok, body_at, macro_at_ok, same_macro}
use Rattle.written_out.specs.Above.{Found}

-- k is the place of the macro with the name among those before `limit`, or `limit`
pub record CalleeIs (s name : List ℕ) (limit k : ℕ) : Type 0 where
  pub found_so : Found s name limit limit k
  pub most : k ≤ limit
  pub ok : k < limit → macro_at_ok s k ≡ true

-- a macro stands at `at`
pub record MacroIs (s : List ℕ) (at : ℕ) : Type 0 where
  pub whole_at : whole s at ≡ true
  pub head : at + 4 ≤ length s
  pub body : next s at ≤ length s
  pub long : length (body_at s at) ≡ body_len s at
  pub bytes_ok : macro_ok (body_at s at) ≡ true

-- the name of the macro at p
abbrev pub own_name : List ℕ → ℕ → List ℕ
own_name s p = name_at (body_at s p) 0

-- What a scan knows of the first i macros of an index. `low` is the least place among those with the last one's name; `best` is the least
-- place of a macro that has the name of an earlier one, or the list's end.
pub record Scanned (s l : List ℕ) (i low best : ℕ) : Type 0 where
  pub within : i ≤ length l
  pub place : (k : ℕ) × (k < i) × (get_or l k 0 ≡ low)
  pub last : own_name s (get_or l (i - 1) 0) ≡ own_name s low
  pub least : (k : ℕ) → k < i → own_name s (get_or l k 0) ≡ own_name s low → low ≤ get_or l k 0
  pub pairs : (k : ℕ) → k < i → (j : ℕ) → j < i → own_name s (get_or l j 0) ≡ own_name s (get_or l k 0) → get_or l j 0 < get_or l k 0 → best ≤ get_or l k 0
  pub is : (best ≡ length s) ⊎ (In best (places s) × (is_first (same_macro s) (places s) best ≡ false))
