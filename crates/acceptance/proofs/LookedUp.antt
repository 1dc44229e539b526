-- What a lookup of a label gives, by computation: its place, and how many names were compared. The list has a `loop` for all files at 0, one of
-- file 1 at 12, one of file 2 at 28, and `main` at 44. In the index the `loop` for all files comes after those of the files. Assumes nothing.
use Rattle.std.specs.Prelude.{ℕ, List, [], ◌∷◌, ◌≡◌, refl, None, Some}
use Rattle.record.specs.Bytes.{same_bytes}
use Rattle.name_order.specs.Order.{order}
use Rattle.name_index.specs.Index.{search_f, search_from, lookup_from, lookup}
use Rattle.labels.specs.Lookup.{looked_for_all, looked_up}
use Rattle.finished_words.specs.InstanceTables.{loop, labels₁}

abbrev index : List ℕ
index = 12 ∷ 28 ∷ 0 ∷ 44 ∷ []

pub record LookedUp : Type 0 where
  -- File 1 finds its own `loop` with the third comparison, file 2 with the second.
  pub own : looked_up labels₁ index 1 loop ≡ record { named = Some 12; compared = 3; end = 0 }
  pub other_own : looked_up labels₁ index 2 loop ≡ record { named = Some 28; compared = 2; end = 1 }
  -- For file 3 two are compared. Then the one at which the search ended is compared, and it is the one for all files.
  pub ended_there : looked_up labels₁ index 3 loop ≡ record { named = Some 0; compared = 3; end = 2 }
  -- For file 0 the search ends after three comparisons at file 1's `loop`, whose name is not compared. One more comparison finds the one for all.
  pub searched_again : looked_up labels₁ index 0 loop ≡ record { named = Some 0; compared = 4; end = 2 }
  -- The name "a" is not in the list: three comparisons, and three again.
  pub nowhere : looked_up labels₁ index 1 (97 ∷ []) ≡ record { named = None; compared = 6; end = 0 }

pub looked_up_lem : LookedUp
unfolding labels₁ looked_up looked_for_all lookup_from lookup search_from search_f order same_bytes
looked_up_lem = record { own = refl; other_own = refl; ended_there = refl; searched_again = refl; nowhere = refl }
