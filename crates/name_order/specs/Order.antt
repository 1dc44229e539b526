-- The order of names, and of names with owners. Assumes nothing.
use Rattle.std.specs.Prelude.{ℕ, List, [], ◌∷◌, true, false, ltb}
use Rattle.std.specs.declared.cmp.Ordering.TheVariants.{Less, Equal, Greater}
use Rattle.std.specs.declared.cmp.Ordering.{Ordering}

-- the first one that is not Equal decides
abbrev pub then_by : Ordering → Ordering → Ordering
then_by Less o = Less
then_by Equal o = o
then_by Greater o = Greater

abbrev pub numbers : ℕ → ℕ → Ordering
numbers x y = elim (ltb x y) [ true ↦ Less | false ↦ elim (ltb y x) [ true ↦ Greater | false ↦ Equal ] ]

-- by bytes; a prefix goes before the longer name
unfoldable pub order : List ℕ → List ℕ → Ordering
order [] [] = Equal
order [] (y ∷ ys) = Less
order (x ∷ xs) [] = Greater
order (x ∷ xs) (y ∷ ys) = then_by (numbers x y) (order xs ys)

-- a name and its owner
abbrev pub Key : Type 0
Key = List ℕ × ℕ

-- document 02, P13, "an ordered index": by name, then by owner
abbrev pub key_order : Key → Key → Ordering
key_order a b = then_by (order a.0 b.0) (numbers a.1 b.1)
