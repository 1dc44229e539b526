-- A middle part of a list, and the list with another in its place. Assumes nothing.
use Rattle.std.specs.Prelude.{ℕ, ◌+◌, ◌-◌, List, ◌++◌, ◌≡◌, length, take, drop}
use Rattle.std.proofs.Common.{arith, append_assoc, sym, ap, ap₂, ◌∙◌, length-append, take-append-drop, take_at, drop_at, drop-drop}
use Rattle.record.specs.Bytes.{part}

-- The list with x in place of its elements from a up to b, as when a lent part comes back.
abbrev pub over : List ℕ → (a b : ℕ) → List ℕ → List ℕ
over s a b x = take a s ++ (x ++ drop (b - a) (drop a s))

-- The part from a up to b, with its first m elements moved behind the others.
abbrev pub turned : List ℕ → (a b m : ℕ) → List ℕ
turned s a b m = drop m (take (b - a) (drop a s)) ++ take m (take (b - a) (drop a s))

pub part_drop : (s : List ℕ) (i n : ℕ) → part s i n ++ drop (i + n) s ≡ drop i s
part_drop s i n = ap (λ (l : List ℕ). part s i n ++ l) (sym (drop-drop n i s)) ∙ take-append-drop n (drop i s)

module _ (p m q : List ℕ) (a b : ℕ) (from : length p ≡ a) (to : length p + length m ≡ b) where
  long : length m ≡ b - a
  long = omega arith

  pub middle_is : take (b - a) (drop a (p ++ (m ++ q))) ≡ m
  middle_is =
      ap (take (b - a)) (drop_at p (m ++ q) a from) ∙ take_at m q (b - a) long

  pub over_is : (x : List ℕ) → over (p ++ (m ++ q)) a b x ≡ p ++ (x ++ q)
  over_is x = ap₂ (λ (l r : List ℕ). l ++ (x ++ r)) (take_at p (m ++ q) a from) (ap (drop (b - a)) (drop_at p (m ++ q) a from) ∙ drop_at m q (b - a) long)

-- two neighbouring parts change places
pub swapped : (p x y q : List ℕ) (a b m : ℕ) → length p ≡ a → length x ≡ m → length p + length x + length y ≡ b
    → over (p ++ (x ++ (y ++ q))) a b (turned (p ++ (x ++ (y ++ q))) a b m) ≡ p ++ (y ++ (x ++ q))
swapped p x y q a b m from long to =
    let s = p ++ ((x ++ y) ++ q) in
    let e : p ++ (x ++ (y ++ q)) ≡ s = ap (λ (l : List ℕ). p ++ l) (sym (append_assoc x y q)) in
    let f : length p + length (x ++ y) ≡ b = omega (arith, length-append x y) in
    let t : turned s a b m ≡ y ++ x =
    ap (λ (l : List ℕ). drop m l ++ take m l) (middle_is p (x ++ y) q a b from f) ∙ ap₂ (λ (l r : List ℕ). l ++ r) (drop_at x y m long) (take_at x y m long) in
    ap (λ (l : List ℕ). over l a b (turned l a b m)) e
    ∙ ap (over s a b) t
    ∙ over_is p (x ++ y) q a b from f (y ++ x)
    ∙ ap (λ (l : List ℕ). p ++ l) (append_assoc y x q)
