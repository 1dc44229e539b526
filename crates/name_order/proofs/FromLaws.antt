-- The order of names from a place on, by a byte and by eight. Assumes nothing.
use Rattle.std.specs.Prelude.{ℕ, ◌+◌, ◌<◌, ◌≤◌, List, ◌≡◌, length, get_or, drop}
use Rattle.std.proofs.Common.{arith, add-one, sym, ap, ◌∙◌}
use Rattle.std.proofs.Math.ListN.{drop_of_length-le}
use Rattle.std.proofs.Math.Seq.{drop-cons}
use Rattle.name_order.specs.Order.{then_by, numbers, order}
use Rattle.name_order.specs.EightBytes.{Bytes, more, four, high_first}
use Rattle.std.specs.declared.cmp.Ordering.TheVariants.{Less, Equal, Greater}
use Rattle.std.specs.declared.cmp.Ordering.{Ordering}
use Rattle.name_order.proofs.OrderLaws.{numbers_less, numbers_more, numbers_same, then_then, joined}

-- ---- by a byte
module _ (a b : List ℕ) (i : ℕ) where
  pub order_ends : length a ≤ i → length b ≤ i → order (drop i a) (drop i b) ≡ Equal
  unfolding order
  order_ends h k = rw (drop_of_length-le a h, drop_of_length-le b k)

  pub order_first_ends : length a ≤ i → i < length b → order (drop i a) (drop i b) ≡ Less
  unfolding order
  order_first_ends h k = rw (drop_of_length-le a h, drop-cons b i 0)

  pub order_second_ends : i < length a → length b ≤ i → order (drop i a) (drop i b) ≡ Greater
  unfolding order
  order_second_ends h k = rw (drop_of_length-le b k, drop-cons a i 0)

  module _ (h : i < length a) (k : i < length b) where
    here : order (drop i a) (drop i b) ≡ then_by (numbers (get_or a i 0) (get_or b i 0)) (order (drop (i + 1) a) (drop (i + 1) b))
    unfolding order
    here = rw (add-one, drop-cons a i 0, drop-cons b i 0)

    pub order_less : get_or a i 0 < get_or b i 0 → order (drop i a) (drop i b) ≡ Less
    order_less l = here ∙ ap (λ (o : Ordering). then_by o (order (drop (i + 1) a) (drop (i + 1) b))) (numbers_less (get_or a i 0) (get_or b i 0) l)

    pub order_more : get_or b i 0 < get_or a i 0 → order (drop i a) (drop i b) ≡ Greater
    order_more l = here ∙ ap (λ (o : Ordering). then_by o (order (drop (i + 1) a) (drop (i + 1) b))) (numbers_more (get_or a i 0) (get_or b i 0) l)

    pub order_next : get_or a i 0 ≡ get_or b i 0 → order (drop i a) (drop i b) ≡ order (drop (i + 1) a) (drop (i + 1) b)
    order_next e = here ∙ ap (λ (o : Ordering). then_by o (order (drop (i + 1) a) (drop (i + 1) b))) (numbers_same (get_or a i 0) (get_or b i 0) e)

-- ---- by eight bytes
module _ (a b : List ℕ) (i : ℕ) (h : i + 8 ≤ length a) (k : i + 8 ≤ length b) (ba : Bytes a i) (bb : Bytes b i) where
  abbrev rest : ℕ → Ordering
  rest j = order (drop j a) (drop j b)

  -- Reads one more byte.
  step : (x y j m : ℕ) → get_or a j 0 < 256 → get_or b j 0 < 256 → j + 1 ≡ m → m ≤ i + 8 → then_by (numbers x y) (rest j) ≡ then_by (numbers (more a x j) (more b y j)) (rest m)
  step x y j m u v e l =
      ap (then_by (numbers x y)) (here a b j (omega arith) (omega arith) ∙ ap (λ (m : ℕ). then_by (numbers (get_or a j 0) (get_or b j 0)) (rest m)) e)
      ∙ then_then (numbers x y) (numbers (get_or a j 0) (get_or b j 0)) (rest m)
      ∙ ap (λ (o : Ordering). then_by o (rest m)) (sym (joined x y (get_or a j 0) (get_or b j 0) u v))

  words : rest i ≡ then_by (numbers (high_first a i) (high_first b i)) (rest (i + 8))
  words =
      here a b i (omega arith) (omega arith)
      ∙ step _ _ (i + 1) (i + 2) ba.second bb.second (omega arith) (omega arith)
      ∙ step _ _ (i + 2) (i + 3) ba.third bb.third (omega arith) (omega arith)
      ∙ step _ _ (i + 3) (i + 4) ba.fourth bb.fourth (omega arith) (omega arith)
      ∙ step (four a i) (four b i) (i + 4) (i + 5) ba.fifth bb.fifth (omega arith) (omega arith)
      ∙ step _ _ (i + 5) (i + 6) ba.sixth bb.sixth (omega arith) (omega arith)
      ∙ step _ _ (i + 6) (i + 7) ba.seventh bb.seventh (omega arith) (omega arith)
      ∙ step _ _ (i + 7) (i + 8) ba.eighth bb.eighth (omega arith) (omega arith)

  pub words_next : high_first a i ≡ high_first b i → rest i ≡ rest (i + 8)
  words_next e = words ∙ ap (λ (o : Ordering). then_by o (rest (i + 8))) (numbers_same (high_first a i) (high_first b i) e)

  pub words_less : high_first a i < high_first b i → rest i ≡ Less
  words_less e = words ∙ ap (λ (o : Ordering). then_by o (rest (i + 8))) (numbers_less (high_first a i) (high_first b i) e)

  pub words_more : high_first b i < high_first a i → rest i ≡ Greater
  words_more e = words ∙ ap (λ (o : Ordering). then_by o (rest (i + 8))) (numbers_more (high_first a i) (high_first b i) e)
