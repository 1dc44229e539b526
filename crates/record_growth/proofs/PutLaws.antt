-- The bytes of a list after bytes are written or inserted. Writes that share no byte may change places. Assumes nothing.
use Rattle.std.specs.Prelude.{ℕ, ◌+◌, ◌-◌, ◌≤◌, ◌<◌, List, ◌++◌, Bool, true, false, ◌⊎◌, ◌≡◌, refl, take, drop, ltb}
use native.Mathlib.Omega.{arith}
use Rattle.std.proofs.Common.{inl, inr, sym, ◌∙◌, length-append, length-drop, ext_get_or, ltb-true, ltb-false}
use Rattle.std.proofs.Math.Path.{ap}
use Rattle.std.proofs.Math.ListN.{length, length-take}
use Rattle.std.proofs.Math.Seq.{get_or-take, get_or-drop, length-take-le}
use Rattle.record.specs.Bytes.{byte_at, part}
use Rattle.record.specs.Stores.{append}
use Rattle.record.proofs.BehindLaws.{byte_before, byte_behind}

-- ---- where an index lies

abbrev pub Out : (j i n : ℕ) → Type 0
Out j i n = (j < i) ⊎ (i + n ≤ j)

pub data Side (j i n : ℕ) : Type 0 where
  inside : (k : ℕ) → j ≡ i + k → k < n → Side j i n
  outside : Out j i n → Side j i n

pub side : (j i n : ℕ) → Side j i n
side j i n = go (ltb j i) refl (ltb j (i + n)) refl
  where
    go : (b : Bool) → ltb j i ≡ b → (c : Bool) → ltb j (i + n) ≡ c → Side j i n
    go true b c e = outside (inl (ltb-true j i b))
    go false b true e =
        let h = ltb-false j i b in
        let l = ltb-true j (i + n) e in
        inside (j - i) (omega arith) (omega arith)
    go false b false e = outside (inr (ltb-false j (i + n) e))

-- ---- bytes written

module _ (d : List ℕ) (i : ℕ) (bs : List ℕ) (room : i + length bs ≤ length d) where
  pub put_length : length (append d i bs) ≡ length d
  unfolding append
  put_length = simp (length-append, length-take, length-drop) (omega arith)

  front : length (take i d ++ bs) ≡ i + length bs
  front = simp (length-append, length-take) (omega arith)

  pub put_in_lem : (k : ℕ) → k < length bs → byte_at (append d i bs) (i + k) ≡ byte_at bs k
  unfolding append
  put_in_lem k h =
      byte_before (take i d ++ bs) (drop (i + length bs) d) (i + k) (omega (arith, front))
      ∙ byte_behind (take i d) bs k (i + k) (omega (arith, length-take-le i d (omega arith)))

  pub put_out : (j : ℕ) → Out j i (length bs) → byte_at (append d i bs) j ≡ byte_at d j
  unfolding append
  put_out j (inl h) =
      byte_before (take i d ++ bs) (drop (i + length bs) d) j (omega (arith, front))
      ∙ byte_before (take i d) bs j (omega (arith, length-take-le i d (omega arith)))
      ∙ get_or-take i d j 0 h
  put_out j (inr h) =
      let n = i + length bs in
      let e : n + (j - n) ≡ j = omega arith in
      byte_behind (take i d ++ bs) (drop n d) (j - n) j (omega (arith, front))
      ∙ get_or-drop n d (j - n) 0 ∙ ap (byte_at d) e

-- ---- bytes inserted

abbrev pub insert : List ℕ → (at : ℕ) → (bytes : List ℕ) → List ℕ
insert s at bytes = take at s ++ bytes ++ drop at s

module _ (s : List ℕ) (at : ℕ) (bs : List ℕ) (room : at ≤ length s) where
  pub insert_length : length (insert s at bs) ≡ length s + length bs
  insert_length = simp (length-append, length-take, length-drop) (omega arith)

  insert_front : length (take at s ++ bs) ≡ at + length bs
  insert_front = simp (length-append, length-take) (omega arith)

  pub insert_before : (j : ℕ) → j < at → byte_at (insert s at bs) j ≡ byte_at s j
  insert_before j h =
      byte_before (take at s ++ bs) (drop at s) j (omega (arith, insert_front))
      ∙ byte_before (take at s) bs j (omega (arith, length-take-le at s room))
      ∙ get_or-take at s j 0 h

  pub insert_in : (k : ℕ) → k < length bs → byte_at (insert s at bs) (at + k) ≡ byte_at bs k
  insert_in k h =
      byte_before (take at s ++ bs) (drop at s) (at + k) (omega (arith, insert_front))
      ∙ byte_behind (take at s) bs k (at + k) (omega (arith, length-take-le at s room))

  pub insert_behind : (j : ℕ) → at ≤ j → byte_at (insert s at bs) (j + length bs) ≡ byte_at s j
  insert_behind j h =
      let e : at + (j - at) ≡ j = omega arith in
      byte_behind (take at s ++ bs) (drop at s) (j - at) (j + length bs) (omega (arith, insert_front))
      ∙ get_or-drop at s (j - at) 0 ∙ ap (byte_at s) e

-- ---- one after the other

-- two writes that share no byte
pub put_put : (d : List ℕ) (i : ℕ) (a : List ℕ) (j : ℕ) (b : List ℕ) → i + length a ≤ length d → j + length b ≤ length d → (i + length a ≤ j) ⊎ (j + length b ≤ i)
    → append (append d i a) j b ≡ append (append d j b) i a
put_put d i a j b ri rj apart =
    ext_get_or 0 (append (append d i a) j b) (append (append d j b) i a) (put_length (append d i a) j b rj' ∙ li ∙ sym (put_length (append d j b) i a ri' ∙ lj)) (λ x h. at x (side x i (length a)) (side x j (length b)))
  where
    li : length (append d i a) ≡ length d
    li = put_length d i a ri

    lj : length (append d j b) ≡ length d
    lj = put_length d j b rj

    rj' : j + length b ≤ length (append d i a)
    rj' = omega (arith, li)

    ri' : i + length a ≤ length (append d j b)
    ri' = omega (arith, lj)

    at : (x : ℕ) → Side x i (length a) → Side x j (length b) → byte_at (append (append d i a) j b) x ≡ byte_at (append (append d j b) i a) x
    at x (inside k e l) (inside m f n) = absurd (both apart)
      where
        both : (i + length a ≤ j) ⊎ (j + length b ≤ i) → ⊥
        both (inl h) = omega arith
        both (inr h) = omega arith
    at x (inside k e l) (outside o) =
        put_out (append d i a) j b rj' x o ∙ ap (byte_at (append d i a)) e ∙ put_in_lem d i a ri k l
        ∙ sym (ap (byte_at (append (append d j b) i a)) e ∙ put_in_lem (append d j b) i a ri' k l)
    at x (outside o) (inside m f n) =
        ap (byte_at (append (append d i a) j b)) f ∙ put_in_lem (append d i a) j b rj' m n
        ∙ sym (put_out (append d j b) i a ri' x o ∙ ap (byte_at (append d j b)) f ∙ put_in_lem d j b rj m n)
    at x (outside o) (outside q) =
        put_out (append d i a) j b rj' x q ∙ put_out d i a ri x o ∙ sym (put_out (append d j b) i a ri' x o ∙ put_out d j b rj x q)

-- a write before an insertion
pub put_insert : (s : List ℕ) (at : ℕ) (bs : List ℕ) (i : ℕ) (a : List ℕ) → i + length a ≤ at → at ≤ length s
    → append (insert s at bs) i a ≡ insert (append s i a) at bs
put_insert s at bs i a h room =
    ext_get_or 0 (append (insert s at bs) i a) (insert (append s i a) at bs)
    (put_length (insert s at bs) i a r' ∙ li ∙ sym (insert_length (append s i a) at bs room' ∙ ap (λ (n : ℕ). n + length bs) lp))
    (λ x l. byte x (side x i (length a)) (side x at (length bs)))
  where
    li : length (insert s at bs) ≡ length s + length bs
    li = insert_length s at bs room

    r : i + length a ≤ length s
    r = omega arith

    r' : i + length a ≤ length (insert s at bs)
    r' = omega (arith, li)

    lp : length (append s i a) ≡ length s
    lp = put_length s i a r

    room' : at ≤ length (append s i a)
    room' = omega (arith, lp)

    byte : (x : ℕ) → Side x i (length a) → Side x at (length bs) → byte_at (append (insert s at bs) i a) x ≡ byte_at (insert (append s i a) at bs) x
    byte x (inside k e l) w =
        ap (byte_at (append (insert s at bs) i a)) e ∙ put_in_lem (insert s at bs) i a r' k l
        ∙ sym (ap (byte_at (insert (append s i a) at bs)) e ∙ insert_before (append s i a) at bs room' (i + k) (omega arith) ∙ put_in_lem s i a r k l)
    byte x (outside o) (inside m f n) =
        put_out (insert s at bs) i a r' x o ∙ ap (byte_at (insert s at bs)) f ∙ insert_in s at bs room m n
        ∙ sym (ap (byte_at (insert (append s i a) at bs)) f ∙ insert_in (append s i a) at bs room' m n)
    byte x (outside o) (outside (inl q)) =
        put_out (insert s at bs) i a r' x o ∙ insert_before s at bs room x q
        ∙ sym (insert_before (append s i a) at bs room' x q ∙ put_out s i a r x o)
    byte x (outside o) (outside (inr q)) =
        let y = x - length bs in
        let e : x ≡ y + length bs = omega arith in
        put_out (insert s at bs) i a r' x o ∙ ap (byte_at (insert s at bs)) e ∙ insert_behind s at bs room y (omega arith)
        ∙ sym (ap (byte_at (insert (append s i a) at bs)) e ∙ insert_behind (append s i a) at bs room' y (omega arith) ∙ put_out s i a r y (inr (omega arith)))

-- A write within the first f bytes can be done in those bytes alone.
pub take_put : (d : List ℕ) (f i : ℕ) (a : List ℕ) → i + length a ≤ f → f ≤ length d → take f (append d i a) ≡ append (take f d) i a
take_put d f i a h room =
    ext_get_or 0 (take f (append d i a)) (append (take f d) i a) (lt ∙ sym (put_length (take f d) i a r' ∙ l')) (λ x l. byte x (omega (arith, lt)) (side x i (length a)))
  where
    lp : length (append d i a) ≡ length d
    lp = put_length d i a (omega arith)

    lt : length (take f (append d i a)) ≡ f
    lt = length-take-le f (append d i a) (omega (arith, lp))

    l' : length (take f d) ≡ f
    l' = length-take-le f d room

    r' : i + length a ≤ length (take f d)
    r' = omega (arith, l')

    byte : (x : ℕ) → x < f → Side x i (length a) → byte_at (take f (append d i a)) x ≡ byte_at (append (take f d) i a) x
    byte x l (inside k e n) =
        get_or-take f (append d i a) x 0 l ∙ ap (byte_at (append d i a)) e ∙ put_in_lem d i a (omega arith) k n
        ∙ sym (ap (byte_at (append (take f d) i a)) e ∙ put_in_lem (take f d) i a r' k n)
    byte x l (outside o) =
        get_or-take f (append d i a) x 0 l ∙ put_out d i a (omega arith) x o
        ∙ sym (put_out (take f d) i a r' x o ∙ get_or-take f d x 0 l)

-- A write into what was just put at the beginning can be made before it is put there.
pub put_front : (d g : List ℕ) (i : ℕ) (a : List ℕ) → i + length a ≤ length g → length g ≤ length d → append (append d 0 g) i a ≡ append d 0 (append g i a)
put_front d g i a h room =
    ext_get_or 0 (append (append d 0 g) i a) (append d 0 (append g i a)) (put_length (append d 0 g) i a r' ∙ lp ∙ sym (put_length d 0 (append g i a) (omega (arith, lg))))
    (λ x l. byte x (side x i (length a)) (side x 0 (length g)))
  where
    lp : length (append d 0 g) ≡ length d
    lp = put_length d 0 g (omega arith)

    lg : length (append g i a) ≡ length g
    lg = put_length g i a h

    r' : i + length a ≤ length (append d 0 g)
    r' = omega (arith, lp)

    byte : (x : ℕ) → Side x i (length a) → Side x 0 (length g) → byte_at (append (append d 0 g) i a) x ≡ byte_at (append d 0 (append g i a)) x
    byte x (inside k e n) w =
        let e₀ : x ≡ 0 + (i + k) = omega arith in
        ap (byte_at (append (append d 0 g) i a)) e ∙ put_in_lem (append d 0 g) i a r' k n
        ∙ sym (ap (byte_at (append d 0 (append g i a))) e₀ ∙ put_in_lem d 0 (append g i a) (omega (arith, lg)) (i + k) (omega (arith, lg)) ∙ put_in_lem g i a h k n)
    byte x (outside o) (inside m f n) =
        let z : x ≡ m = omega arith in
        put_out (append d 0 g) i a r' x o ∙ ap (byte_at (append d 0 g)) f ∙ put_in_lem d 0 g (omega arith) m n
        ∙ sym (ap (byte_at (append d 0 (append g i a))) f ∙ put_in_lem d 0 (append g i a) (omega (arith, lg)) m (omega (arith, lg)) ∙ ap (byte_at (append g i a)) (sym z) ∙ put_out g i a h x o ∙ ap (byte_at g) z)
    byte x (outside o) (outside (inl q)) = absurd (omega arith)
    byte x (outside o) (outside (inr q)) =
        put_out (append d 0 g) i a r' x o ∙ put_out d 0 g (omega arith) x (inr q)
        ∙ sym (put_out d 0 (append g i a) (omega (arith, lg)) x (inr (omega (arith, lg))))

-- A write that is then overwritten from the beginning on leaves nothing.
pub put_over : (d g : List ℕ) (i : ℕ) (a : List ℕ) → i + length a ≤ length g → length g ≤ length d → append (append d i a) 0 g ≡ append d 0 g
put_over d g i a h room =
    ext_get_or 0 (append (append d i a) 0 g) (append d 0 g) (put_length (append d i a) 0 g r' ∙ lp ∙ sym (put_length d 0 g (omega arith)))
    (λ x l. byte x (side x 0 (length g)))
  where
    lp : length (append d i a) ≡ length d
    lp = put_length d i a (omega arith)

    r' : 0 + length g ≤ length (append d i a)
    r' = omega (arith, lp)

    byte : (x : ℕ) → Side x 0 (length g) → byte_at (append (append d i a) 0 g) x ≡ byte_at (append d 0 g) x
    byte x (inside m f n) = ap (byte_at (append (append d i a) 0 g)) f ∙ put_in_lem (append d i a) 0 g r' m n ∙ sym (ap (byte_at (append d 0 g)) f ∙ put_in_lem d 0 g (omega arith) m n)
    byte x (outside (inl q)) = absurd (omega arith)
    byte x (outside (inr q)) = put_out (append d i a) 0 g r' x (inr q) ∙ put_out d i a (omega arith) x (inr (omega arith)) ∙ sym (put_out d 0 g (omega arith) x (inr q))

-- Putting back what stood there undoes a write.
pub put_back_same : (d : List ℕ) (i : ℕ) (a : List ℕ) (n : ℕ) → i + n ≤ length d → length a ≡ n → append (append d i a) i (part d i n) ≡ d
put_back_same d i a n room e =
    ext_get_or 0 (append (append d i a) i w) d (put_length (append d i a) i w r' ∙ lp) (λ x l. byte x (side x i n))
  where
    w : List ℕ
    w = part d i n

    lw : length (part d i n) ≡ n
    lw = length-take-le n (drop i d) (omega (arith, length-drop i d))

    lp : length (append d i a) ≡ length d
    lp = put_length d i a (omega arith)

    r' : i + length (part d i n) ≤ length (append d i a)
    r' = omega (arith, lp, lw)

    byte : (x : ℕ) → Side x i n → byte_at (append (append d i a) i (part d i n)) x ≡ byte_at d x
    byte x (inside k f l) =
        ap (byte_at (append (append d i a) i (part d i n))) f ∙ put_in_lem (append d i a) i (part d i n) r' k (omega (arith, lw))
        ∙ get_or-take n (drop i d) k 0 l ∙ get_or-drop i d k 0 ∙ ap (byte_at d) (sym f)
    byte x (outside (inl q)) =
        put_out (append d i a) i (part d i n) r' x (inl q) ∙ put_out d i a (omega arith) x (inl q)
    byte x (outside (inr q)) =
        put_out (append d i a) i (part d i n) r' x (inr (omega (arith, lw))) ∙ put_out d i a (omega arith) x (inr (omega arith))

-- A part that the write does not reach stays.
pub part_out : (d : List ℕ) (i : ℕ) (a : List ℕ) (j n : ℕ) → i + length a ≤ length d → j + n ≤ length d → (i + length a ≤ j) ⊎ (j + n ≤ i) → part (append d i a) j n ≡ part d j n
part_out d i a j n ri rj apart =
    ext_get_or 0 (part (append d i a) j n) (part d j n) (l₁ ∙ sym l₂) (λ x h. byte x (omega (arith, l₁)))
  where
    lp : length (append d i a) ≡ length d
    lp = put_length d i a ri

    l₁ : length (part (append d i a) j n) ≡ n
    l₁ = length-take-le n (drop j (append d i a)) (omega (arith, length-drop j (append d i a), lp))

    l₂ : length (part d j n) ≡ n
    l₂ = length-take-le n (drop j d) (omega (arith, length-drop j d))

    out : (x : ℕ) → x < n → (i + length a ≤ j) ⊎ (j + n ≤ i) → Out (j + x) i (length a)
    out x h (inl q) = inr (omega arith)
    out x h (inr q) = inl (omega arith)

    byte : (x : ℕ) → x < n → byte_at (part (append d i a) j n) x ≡ byte_at (part d j n) x
    byte x h =
        get_or-take n (drop j (append d i a)) x 0 h ∙ get_or-drop j (append d i a) x 0 ∙ put_out d i a ri (j + x) (out x h apart)
        ∙ sym (get_or-take n (drop j d) x 0 h ∙ get_or-drop j d x 0)

-- what was written reads back
pub part_in : (d : List ℕ) (i : ℕ) (a : List ℕ) → i + length a ≤ length d → part (append d i a) i (length a) ≡ a
part_in d i a room =
    let n = length a in
    let l : length (append d i a) ≡ length d = put_length d i a room in
    let m : length (part (append d i a) i n) ≡ n = length-take-le n (drop i (append d i a)) (omega (arith, length-drop i (append d i a))) in
    ext_get_or 0 (part (append d i a) i n) a m
    (λ x h. get_or-take n (drop i (append d i a)) x 0 (omega arith) ∙ get_or-drop i (append d i a) x 0 ∙ put_in_lem d i a room x (omega arith))
