-- A list's free bytes are moved behind one record's data. A call takes some of them, and the rest is moved back. Assumes nothing.
use Rattle.std.specs.Prelude.{ℕ, ◌+◌, ◌-◌, ◌≤◌, ◌≡◌, refl, take}
use native.Mathlib.Omega.{arith}
use mathlib.Core.List.{List, ◌++◌, append_assoc}
use Rattle.std.proofs.Math.Path.{sym, ap, ap₂}
use Rattle.std.proofs.Common.{◌∙◌, length-drop, take-append-drop, take_at, drop_at, drop-drop, length-take-le}
use Rattle.std.proofs.Math.ListN.{length, drop, length-append}
use Rattle.std.proofs.Math.Seq.{drop-append-le}
use Rattle.record.specs.Bytes.{part}
use Rattle.record.specs.Stores.{append}
use Rattle.patching_outcome.specs.Grown.{inserted}
use Rattle.emit_in_list.specs.InList.{data_in}
use Rattle.emit_in_list.proofs.PartsLaws.{over, turned, part_drop, middle_is, over_is, swapped}

-- ---- a comes before the data d; then come the records t behind it, the free bytes f that may be taken, and the rest z
module _ (a d t f z : List ℕ) (start end fill room : ℕ) (la : length a ≡ start) (ld : start + length d ≡ end) (lt : end + length t ≡ fill) (lf : length f ≡ room) where
  abbrev before : List ℕ
  before = a ++ (d ++ (t ++ (f ++ z)))

  abbrev lent : List ℕ
  lent = a ++ (d ++ (f ++ (t ++ z)))

  front : length (a ++ d) ≡ end
  front = omega (arith, length-append a d)

  -- The free bytes are moved behind the data.
  pub brought : over before end (fill + room) (turned before end (fill + room) (fill - end)) ≡ lent
  brought =
      ap (λ (l : List ℕ). over l end (fill + room) (turned l end (fill + room) (fill - end))) (sym (append_assoc a d (t ++ (f ++ z))))
      ∙ swapped (a ++ d) t f z end (fill + room) (fill - end) front (omega arith) (omega (arith, front))
      ∙ append_assoc a d (f ++ (t ++ z))

  -- the part that is lent
  pub lent_is : take (end + room - start) (drop start lent) ≡ d ++ f
  lent_is =
      ap (λ (l : List ℕ). take (end + room - start) (drop start (a ++ l))) (sym (append_assoc d f (t ++ z)))
      ∙ middle_is a (d ++ f) (t ++ z) start (end + room) la (omega (arith, length-append d f))

  module _ (w : List ℕ) (fits : length w ≤ length f) where
    abbrev left : List ℕ
    left = drop (length w) f

    long_left : length left ≡ room - length w
    long_left = length-drop (length w) f ∙ ap (λ (n : ℕ). n - length w) lf

    -- What the call leaves there: the words, and the free bytes that remain.
    taken : append (d ++ f) (length d) w ≡ d ++ (w ++ left)
    unfolding append
    taken =
        ap₂ (λ (x y : List ℕ). (x ++ w) ++ y) (take_at d f (length d) refl)
        (sym (drop-drop (length w) (length d) (d ++ f)) ∙ ap (drop (length w)) (drop_at d f (length d) refl))
        ∙ append_assoc d w left

    abbrev after : List ℕ
    after = a ++ ((d ++ (w ++ left)) ++ (t ++ z))

    given : (x : List ℕ) → x ≡ append (d ++ f) (length d) w → over lent start (end + room) x ≡ after
    given x e =
        ap (λ (l : List ℕ). over (a ++ l) start (end + room) x) (sym (append_assoc d f (t ++ z)))
        ∙ over_is a (d ++ f) (t ++ z) start (end + room) la (omega (arith, length-append d f)) x
        ∙ ap (λ (l : List ℕ). a ++ (l ++ (t ++ z))) (e ∙ taken)

    back : over after (end + length w) (fill + room) (turned after (end + length w) (fill + room) (room - length w)) ≡ (a ++ (d ++ w)) ++ (t ++ (left ++ z))
    back =
        let e : after ≡ (a ++ (d ++ w)) ++ (left ++ (t ++ z)) = simp append_assoc in
        let n : length (a ++ (d ++ w)) ≡ end + length w = omega (arith, length-append a (d ++ w), length-append d w) in
        ap (λ (l : List ℕ). over l (end + length w) (fill + room) (turned l (end + length w) (fill + room) (room - length w))) e
        ∙ swapped (a ++ (d ++ w)) left t z (end + length w) (fill + room) (room - length w) n long_left (omega (arith, n, long_left))

    -- the list with the words inserted behind the data
    kept : take fill before ≡ (a ++ d) ++ t
    kept =
        let e : before ≡ ((a ++ d) ++ t) ++ (f ++ z) = simp append_assoc in
        let n : length ((a ++ d) ++ t) ≡ fill = omega (arith, length-append (a ++ d) t, front) in
        ap (take fill) e ∙ take_at ((a ++ d) ++ t) (f ++ z) fill n

    grown_is : append before 0 (inserted (take fill before) end w) ≡ (a ++ (d ++ w)) ++ (t ++ (left ++ z))
    unfolding append
    grown_is =
        let i : inserted (take fill before) end w ≡ (a ++ d) ++ (w ++ t) =
        ap (λ (l : List ℕ). inserted l end w) kept ∙ ap₂ (λ (x y : List ℕ). (x ++ w) ++ y) (take_at (a ++ d) t end front) (drop_at (a ++ d) t end front) ∙ append_assoc (a ++ d) w t in
        let n : length ((a ++ d) ++ (w ++ t)) ≡ fill + length w = omega (arith, length-append (a ++ d) (w ++ t), length-append w t, front) in
        let m : 0 + (fill + length w) ≡ fill + length w = omega arith in
        let e : before ≡ ((a ++ d) ++ t) ++ (f ++ z) = simp append_assoc in
        let k : length ((a ++ d) ++ t) ≡ fill = omega (arith, length-append (a ++ d) t, front) in
        let r : drop (fill + length w) before ≡ left ++ z =
        sym (drop-drop (length w) fill before) ∙ ap (λ (l : List ℕ). drop (length w) (drop fill l)) e ∙ ap (drop (length w)) (drop_at ((a ++ d) ++ t) (f ++ z) fill k) ∙ drop-append-le (length w) f z fits in
        ap (λ (g : List ℕ). g ++ drop (0 + length g) before) i
        ∙ ap (λ (j : ℕ). ((a ++ d) ++ (w ++ t)) ++ drop j before) (ap (λ (j : ℕ). 0 + j) n ∙ m)
        ∙ ap (λ (l : List ℕ). ((a ++ d) ++ (w ++ t)) ++ l) r
        ∙ simp append_assoc

    pub turned_back : (x : List ℕ) → x ≡ append (d ++ f) (length d) w → let l = over lent start (end + room) x in
        over l (end + length w) (fill + room) (turned l (end + length w) (fill + room) (room - length w)) ≡ append before 0 (inserted (take fill before) end w)
    turned_back x e =
        ap (λ (l : List ℕ). over l (end + length w) (fill + room) (turned l (end + length w) (fill + room) (room - length w))) (given x e)
        ∙ back ∙ sym grown_is

-- ---- a list and its numbers
module _ (s : List ℕ) (start size fill room : ℕ) (within : start + size ≤ fill) (free : fill + room ≤ length s) where
  abbrev end : ℕ
  end = start + size

  abbrev a : List ℕ
  a = take start s

  abbrev d : List ℕ
  d = part s start size

  abbrev t : List ℕ
  t = part s end (fill - end)

  abbrev f : List ℕ
  f = part s fill room

  abbrev z : List ℕ
  z = drop (fill + room) s

  long : (i n : ℕ) → i + n ≤ length s → length (part s i n) ≡ n
  long i n h = length-take-le n (drop i s) (omega (arith, length-drop i s))

  la : length (take start s) ≡ start
  la = length-take-le start s (omega arith)

  ld : start + length (part s start size) ≡ start + size
  ld = ap (λ (n : ℕ). start + n) (long start size (omega arith))

  lt : start + size + length (part s (start + size) (fill - (start + size))) ≡ fill
  lt = omega (arith, long (start + size) (fill - (start + size)) (omega arith))

  lf : length (part s fill room) ≡ room
  lf = long fill room (omega arith)

  split : s ≡ a ++ (d ++ (t ++ (f ++ z)))
  split =
      let e : end + (fill - end) ≡ fill = omega arith in
      sym (take-append-drop start s)
      ∙ ap (λ (l : List ℕ). a ++ l)
      (sym (part_drop s start size)
      ∙ ap (λ (l : List ℕ). d ++ l)
      (sym (part_drop s end (fill - end)) ∙ ap (λ (l : List ℕ). t ++ l) (ap (λ (n : ℕ). drop n s) e ∙ sym (part_drop s fill room))))

  abbrev pub rotated : List ℕ
  rotated = over s (start + size) (fill + room) (turned s (start + size) (fill + room) (fill - (start + size)))

  rotated_is : rotated ≡ a ++ (d ++ (f ++ (t ++ z)))
  rotated_is =
      ap (λ (l : List ℕ). over l end (fill + room) (turned l end (fill + room) (fill - end))) split
      ∙ brought a d t f z start end fill room la ld lt lf

  pub part_lent : take (start + size + room - start) (drop start rotated) ≡ data_in s start size fill room
  part_lent = ap (λ (l : List ℕ). take (end + room - start) (drop start l)) rotated_is ∙ lent_is a d t f z start end fill room la ld lt lf

  pub rotated_back : (w x : List ℕ) (n : ℕ) → length w ≡ n → n ≤ room → x ≡ append (data_in s start size fill room) size w → let l = over rotated start (start + size + room) x in
      over l (start + size + n) (fill + room) (turned l (start + size + n) (fill + room) (room - n)) ≡ append s 0 (inserted (take fill s) (start + size) w)
  rotated_back w x n long_w fits e =
      let ls = long start size (omega arith) in
      let h : length w ≤ length f = omega (arith, lf) in
      let e' : x ≡ append (d ++ f) (length d) w = e ∙ ap (λ (m : ℕ). append (d ++ f) m w) (sym ls) in
      ap (λ (m : ℕ). let l = over rotated start (end + room) x in over l (end + m) (fill + room) (turned l (end + m) (fill + room) (room - m))) (sym long_w)
      ∙ ap (λ (r : List ℕ). let l = over r start (end + room) x in over l (end + length w) (fill + room) (turned l (end + length w) (fill + room) (room - length w))) rotated_is
      ∙ turned_back a d t f z start end fill room la ld lt lf w h x e'
      ∙ ap (λ (l : List ℕ). append l 0 (inserted (take fill l) end w)) (sym split)
