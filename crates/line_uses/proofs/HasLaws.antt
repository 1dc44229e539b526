-- Which keys uses and words have, and how much longer an index gets with one more use. Assumes nothing.
use Rattle.std.specs.Prelude.{ℕ, ◌+◌, ◌<◌, Bool, true, false, ◌||◌, ◌≡◌, length, drop, get_or, None, Option, Some}
use Rattle.std.specs.List.{list_any}
use Rattle.std.proofs.Common.{arith, add-one, ap₂, ◌∙◌, subst, length-append, drop-cons}
use mathlib.Core.List.{List, [], ◌∷◌, ◌++◌, Memᴰ}
use Rattle.std.proofs.Math.Path.{refl, sym, ap}
use Rattle.std.proofs.Math.Seq.{drop-length}
use Rattle.record.specs.Bytes.{part}
use Rattle.address_label.specs.declared.AddressLabel.{AddressLabel}
use Rattle.address_label.specs.declared.AddressLabel.TheVariants.{Constant, Label}
use Rattle.emit_pairs.specs.declared.InstructionPair.{InstructionPair}
use Rattle.label_uses.specs.Uses.{UseKey, Use, use_order, key_for, one_use, more_use, insert_use, use_of}
use Rattle.label_uses.specs.UseBytes.{uses_bytes}
use Rattle.label_uses.proofs.UseBytesLaws.{uses_none, cons_length}
use Rattle.label_uses.specs.Held.{Passed, one_passed}
use Rattle.use_adding.specs.Adding.{Heads, PlaceIs, stands, missing}
use Rattle.label_uses.proofs.UseOrderLaws.{use_is}
use Rattle.label_uses.proofs.InsertLaws.{Below, Rises, one_left, below_trans, insert_less, insert_same, insert_more, insert_none, insert_rises}
use Rattle.line_uses.specs.LineUses.{pair_use, next_number, line_uses, is_same, same_key, has_key, label_has, pair_has, key_among, growth_of, label_growth, pair_growth}
use Rattle.std.specs.declared.cmp.Ordering.TheVariants.{Less, Equal, Greater}
use Rattle.std.specs.declared.cmp.Ordering.{Ordering}
use Rattle.pending.specs.declared.InstructionLabel.{InstructionLabel}

-- ---- truth values
or_assoc : (a b c : Bool) → (a || b) || c ≡ a || (b || c)
or_assoc true b c = refl
or_assoc false b c = refl

or_twice : (a b : Bool) → a || (b || a) ≡ b || a
or_twice true true = refl
or_twice true false = refl
or_twice false true = refl
or_twice false false = refl

or_none : (a : Bool) → a || false ≡ a
or_none true = refl
or_none false = refl

-- ---- keys of uses
has_none : (key : UseKey) → has_key key [] ≡ false
unfolding has_key
has_none key = refl

has_cons : (key : UseKey) (u : Use) (us : List Use) → has_key key (u ∷ us) ≡ same_key key u.key || has_key key us
unfolding has_key
has_cons key u us = refl

-- A key before all of them is not among them.
below_has : (key : UseKey) (us : List Use) → Below key us → has_key key us ≡ false
below_has key [] b = has_none key
below_has key (u ∷ us) b =
    has_cons key u us ∙ ap₂ ◌||◌ (ap is_same (b u (Memᴰ.head refl))) (below_has key us (λ v m. b v (Memᴰ.tail m)))

-- with one use more
has_insert : (k key : UseKey) (n : ℕ) (us : List Use) → has_key k (insert_use key n us) ≡ has_key k us || same_key k key
has_insert k key n [] =
    ap (has_key k) (insert_none key n) ∙ has_cons k (one_use key n) [] ∙ ap (λ (b : Bool). same_key k key || b) (has_none k) ∙ or_none (same_key k key)
    ∙ sym (ap (λ (b : Bool). b || same_key k key) (has_none k))
has_insert k key n (u ∷ us) = go (use_order key u.key) refl (has_insert k key n us)
  where
    right : has_key k (u ∷ us) || same_key k key ≡ same_key k u.key || (has_key k us || same_key k key)
    right = ap (λ (b : Bool). b || same_key k key) (has_cons k u us) ∙ or_assoc (same_key k u.key) (has_key k us) (same_key k key)

    swap : (x y : Bool) → x || y ≡ y || x
    swap true true = refl
    swap true false = refl
    swap false true = refl
    swap false false = refl

    go : (o : Ordering) → use_order key u.key ≡ o → has_key k (insert_use key n us) ≡ has_key k us || same_key k key → has_key k (insert_use key n (u ∷ us)) ≡ has_key k (u ∷ us) || same_key k key
    go Less e ih =
        ap (has_key k) (insert_less key n u us e) ∙ has_cons k (one_use key n) (u ∷ us) ∙ swap (same_key k key) (has_key k (u ∷ us))
    go Equal e ih =
        let same : key ≡ u.key = use_is key u.key e in
        ap (has_key k) (insert_same key n u us e) ∙ has_cons k (more_use u n) us
        ∙ sym (right ∙ ap (λ (x : UseKey). same_key k u.key || (has_key k us || same_key k x)) same ∙ or_twice (same_key k u.key) (has_key k us) ∙ swap (has_key k us) (same_key k u.key))
    go Greater e ih =
        ap (has_key k) (insert_more key n u us e) ∙ has_cons k u (insert_use key n us) ∙ ap (λ (b : Bool). same_key k u.key || b) ih ∙ sym right

-- ---- how much longer
pub insert_grows : (key : UseKey) (n : ℕ) (us : List Use) → Rises us → length (uses_bytes (insert_use key n us)) ≡ length (uses_bytes us) + growth_of (has_key key us) key.name
insert_grows key n [] r =
    let e = ap (λ (vs : List Use). length (uses_bytes vs)) (insert_none key n) ∙ cons_length (one_use key n) [] in
    let z : length (uses_bytes []) ≡ 0 = ap length uses_none in
    let g : growth_of (has_key key []) key.name ≡ 13 + length key.name = ap (λ (b : Bool). growth_of b key.name) (has_none key) in
    omega arith
insert_grows key n (u ∷ us) (one_left b r) = go (use_order key u.key) refl (insert_grows key n us r)
  where
    held : (t : Bool) → has_key key (u ∷ us) ≡ t → growth_of (has_key key (u ∷ us)) key.name ≡ growth_of t key.name
    held t e = ap (λ (x : Bool). growth_of x key.name) e

    go : (o : Ordering) → use_order key u.key ≡ o → length (uses_bytes (insert_use key n us)) ≡ length (uses_bytes us) + growth_of (has_key key us) key.name
        → length (uses_bytes (insert_use key n (u ∷ us))) ≡ length (uses_bytes (u ∷ us)) + growth_of (has_key key (u ∷ us)) key.name
    go Less e ih =
        let f = ap (λ (vs : List Use). length (uses_bytes vs)) (insert_less key n u us e) ∙ cons_length (one_use key n) (u ∷ us) in
        let h : has_key key (u ∷ us) ≡ false = has_cons key u us ∙ ap₂ ◌||◌ (ap is_same e) (below_has key us (below_trans key u.key us e b)) in
        omega (arith, held false h)
    go Equal e ih =
        let f = ap (λ (vs : List Use). length (uses_bytes vs)) (insert_same key n u us e) ∙ cons_length (more_use u n) us in
        let g = cons_length u us in
        let h : has_key key (u ∷ us) ≡ true = has_cons key u us ∙ ap (λ (x : Bool). x || has_key key us) (ap is_same e) in
        omega (arith, held true h, length-append u.numbers (n ∷ []))
    go Greater e ih =
        let f = ap (λ (vs : List Use). length (uses_bytes vs)) (insert_more key n u us e) ∙ cons_length u (insert_use key n us) in
        let g = cons_length u us in
        let h : has_key key (u ∷ us) ≡ has_key key us = has_cons key u us ∙ ap (λ (x : Bool). x || has_key key us) (ap is_same e) in
        omega (arith, held (has_key key us) h)

-- ---- a key that was looked for
passed_has : (key : UseKey) (l r : List Use) → Passed key l → has_key key (l ++ r) ≡ has_key key r
passed_has key [] r p = refl
passed_has key (u ∷ l) r (one_passed e p) = has_cons key u (l ++ r) ∙ ap (λ (b : Bool). b || has_key key (l ++ r)) (ap is_same e) ∙ passed_has key l r p

rises_rest : (l r : List Use) → Rises (l ++ r) → Rises r
rises_rest [] r x = x
rises_rest (u ∷ l) r (one_left b x) = rises_rest l r x

heads_has : (key : UseKey) (r : List Use) → Rises r → Heads key r → has_key key r ≡ false
heads_has key [] x h = has_none key
heads_has key (u ∷ r) (one_left b x) h = has_cons key u r ∙ ap₂ ◌||◌ (ap is_same h) (below_has key r (below_trans key u.key r h b))

pub place_has : (us : List Use) (key : UseKey) (at : ℕ) (found : Bool) → Rises us → PlaceIs us key at found → has_key key us ≡ found
place_has us key at found x (stands l r u e p q o) =
    ap (has_key key) e ∙ passed_has key l (u ∷ r) p ∙ has_cons key u r ∙ ap (λ (b : Bool). b || has_key key r) (ap is_same o)
place_has us key at found x (missing l r e p q o) =
    ap (has_key key) e ∙ passed_has key l r p ∙ heads_has key r (rises_rest l r (subst Rises e x)) o

-- ---- words
module _ (labels names : List ℕ) where
  pub rises_label : (x : AddressLabel) (n : ℕ) (us : List Use) → Rises us → Rises (use_of labels names x n us)
  rises_label (Constant value) n us r = r
  rises_label (Label l) n us r = insert_rises _ n us r

  pub rises_pair : (w : Option InstructionLabel) (n : ℕ) (us : List Use) → Rises us → Rises (pair_use labels names w n us)
  rises_pair None n us r = r
  rises_pair (Some w) n us r = rises_label w.label n us r

  label_has_lem : (k : UseKey) (x : AddressLabel) (n : ℕ) (us : List Use) → has_key k (use_of labels names x n us) ≡ has_key k us || label_has labels names k x
  label_has_lem k (Constant value) n us = sym (or_none (has_key k us))
  label_has_lem k (Label l) n us = has_insert k _ n us

  pub pair_has_lem : (k : UseKey) (w : Option InstructionLabel) (n : ℕ) (us : List Use) → has_key k (pair_use labels names w n us) ≡ has_key k us || pair_has labels names k w
  pair_has_lem k None n us = sym (or_none (has_key k us))
  pair_has_lem k (Some w) n us = label_has_lem k w.label n us

  label_grows : (x : AddressLabel) (n : ℕ) (us : List Use) → Rises us → length (uses_bytes (use_of labels names x n us)) ≡ length (uses_bytes us) + label_growth labels names (λ (key : UseKey). has_key key us) x
  label_grows (Constant value) n us r = omega arith
  label_grows (Label l) n us r = insert_grows _ n us r

  pub pair_grows : (w : Option InstructionLabel) (n : ℕ) (us : List Use) → Rises us → length (uses_bytes (pair_use labels names w n us)) ≡ length (uses_bytes us) + pair_growth labels names (λ (key : UseKey). has_key key us) w
  pair_grows None n us r = omega arith
  pair_grows (Some w) n us r = label_grows w.label n us r

  -- If the same keys are held, the growth is the same.
  label_alike : (f g : UseKey → Bool) → ((key : UseKey) → f key ≡ g key) → (x : AddressLabel) → label_growth labels names f x ≡ label_growth labels names g x
  label_alike f g h (Constant value) = refl
  label_alike f g h (Label l) =
      let key = key_for labels l.location.source (part names l.name_at l.name_len) in
      ap (λ (b : Bool). growth_of b key.name) (h key)

  pub growth_alike : (f g : UseKey → Bool) → ((key : UseKey) → f key ≡ g key) → (w : Option InstructionLabel) → pair_growth labels names f w ≡ pair_growth labels names g w
  growth_alike f g h None = refl
  growth_alike f g h (Some w) = label_alike f g h w.label

  -- ---- keys of words
  pub among_none : (k : UseKey) → key_among labels names k [] ≡ false
  unfolding key_among
  among_none k = refl

  among_cons : (k : UseKey) (p : InstructionPair) (ps : List InstructionPair) → key_among labels names k (p ∷ ps) ≡ pair_has labels names k p.label || key_among labels names k ps
  unfolding key_among
  among_cons k p ps = refl

  -- ---- a line's uses
  pub line_rises : (n : ℕ) (ps : List InstructionPair) (us : List Use) → Rises us → Rises (line_uses labels names n ps us)
  unfolding line_uses
  line_rises n [] us r = r
  line_rises n (p ∷ ps) us r = line_rises (next_number p.label n) ps (pair_use labels names p.label n us) (rises_pair p.label n us r)

  pub line_has : (k : UseKey) (n : ℕ) (ps : List InstructionPair) (us : List Use) → has_key k (line_uses labels names n ps us) ≡ has_key k us || key_among labels names k ps
  unfolding line_uses
  line_has k n [] us = sym (or_none (has_key k us)) ∙ ap (λ (b : Bool). has_key k us || b) (sym (among_none k))
  line_has k n (p ∷ ps) us =
      line_has k (next_number p.label n) ps (pair_use labels names p.label n us)
      ∙ ap (λ (b : Bool). b || key_among labels names k ps) (pair_has_lem k p.label n us)
      ∙ or_assoc (has_key k us) (pair_has labels names k p.label) (key_among labels names k ps)
      ∙ ap (λ (b : Bool). has_key k us || b) (sym (among_cons k p ps))

  -- a key is among the words if one of them has it
  pub among_any : (k : UseKey) (ps : List InstructionPair) → list_any (λ (p : InstructionPair). pair_has labels names k p.label) ps ≡ key_among labels names k ps
  among_any k [] = sym (among_none k)
  among_any k (p ∷ ps) = ap (λ (b : Bool). pair_has labels names k p.label || b) (among_any k ps) ∙ sym (among_cons k p ps)

  -- ---- the words from j on
  module _ (k : UseKey) (d : InstructionPair) (ps : List InstructionPair) where
    from_here : (j : ℕ) → j < length ps → key_among labels names k (drop j ps) ≡ pair_has labels names k (get_or ps j d).label || key_among labels names k (drop (j + 1) ps)
    from_here j h = ap (key_among labels names k) (drop-cons ps j d h ∙ ap (λ (m : ℕ). get_or ps j d ∷ drop m ps) (sym (add-one j))) ∙ among_cons k (get_or ps j d) (drop (j + 1) ps)

    pub among_hit : (j : ℕ) → j < length ps → pair_has labels names k (get_or ps j d).label ≡ true → key_among labels names k (drop j ps) ≡ true
    among_hit j h e = from_here j h ∙ ap (λ (b : Bool). b || key_among labels names k (drop (j + 1) ps)) e

    pub among_pass : (j : ℕ) → j < length ps → pair_has labels names k (get_or ps j d).label ≡ false → key_among labels names k (drop j ps) ≡ key_among labels names k (drop (j + 1) ps)
    among_pass j h e = from_here j h ∙ ap (λ (b : Bool). b || key_among labels names k (drop (j + 1) ps)) e

    pub among_end : (j : ℕ) → j ≡ length ps → key_among labels names k (drop j ps) ≡ false
    among_end j e = ap (λ (m : ℕ). key_among labels names k (drop m ps)) e ∙ ap (key_among labels names k) (drop-length ps) ∙ among_none k
