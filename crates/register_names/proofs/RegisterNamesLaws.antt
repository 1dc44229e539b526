-- Laws of a name's place in the list of names, and of the register there. Assumes nothing.
use Rattle.std.specs.Prelude.{Option, Some, None, MatchOption, ℕ, zero, suc, ◌+◌, ◌-◌, ◌≤◌, ◌<◌, List, [], ◌∷◌, ◌++◌, Bool, true, false, ◌&&◌, ◌≡◌, refl, length, get_or, drop, leb, ltb, eqb, unwrap_or}
use Rattle.std.proofs.Common.{not-suc-le-zero, add-one, arith, sym, ap, ◌∙◌, drop_of_length-le, drop-cons, leb-true, lt-ltb, le-ltb}
use Rattle.std.specs.List.{position_or_len, range_with_len}
use Rattle.std.proofs.Math.Bool.{cond, and-eq-true_iff}
use borrow.Author.Tests.{eqb-true, eqb-false, ltb-true, ltb-false}
use Rattle.record.specs.Bytes.{all, same_bytes}
use Rattle.record.proofs.BytesLaws.{eq_same, same_eq, same_refused}
use Rattle.byte_class.specs.Class.{class_of, word_byte}
use Rattle.registers.specs.Slots.{register_of, fp_register_of}
use Rattle.register_names.specs.declared.NamedRegister.{NamedRegister}
use Rattle.register_names.specs.declared.NamedRegister.TheVariants.{General, Float}
use Rattle.register_names.specs.RegisterNames.{general_names, number_names, float_names, names, place_of, among, register_named}
use Rattle.register_names.specs.Padded.{key_of}
use Rattle.register_names.proofs.PaddedLaws.{Word, same_key}

-- ---- the names of the table: letters and digits, at most four
abbrev is_short_word : List ℕ → Bool
is_short_word n = leb (length n) 4 && all word_byte n

unfoldable all_short : List (List ℕ) → Bool
all_short [] = true
all_short (n ∷ ns) = is_short_word n && all_short ns

each_short : (ns : List (List ℕ)) (i : ℕ) → all_short ns ≡ true → i < length ns → Word (get_or ns i [])
unfolding all_short
each_short [] i e h = absurd (not-suc-le-zero h)
each_short (n ∷ ns) zero e h =
    let t = (and-eq-true_iff (leb (length n) 4) (all word_byte n)).0 ((and-eq-true_iff (is_short_word n) (all_short ns)).0 e).0 in
    record { short = leb-true (length n) 4 t.0; word = t.1 }
each_short (n ∷ ns) (suc i) e h = each_short ns i ((and-eq-true_iff (is_short_word n) (all_short ns)).0 e).1 (omega arith)

-- computed over the whole list
names_short : all_short names ≡ true
unfolding all_short names all class_of
names_short = refl

pub name_count : length names ≡ 96
unfolding names
name_count = refl

-- ---- the place
step : (name n : List ℕ) (ns : List (List ℕ)) → same_bytes name n ≡ false → place_of name (n ∷ ns) ≡ suc (place_of name ns)
unfolding place_of
step name n ns e = rw (e, place_of)

hit : (name n : List ℕ) (ns : List (List ℕ)) → same_bytes name n ≡ true → place_of name (n ∷ ns) ≡ 0
unfolding place_of
hit name n ns e = rw (e, place_of)

place_none : (name : List ℕ) → place_of name [] ≡ 0
unfolding place_of
place_none name = refl

-- If the name at i has another key, the place is further on; if it has this key, i is the place.
module _ (name : List ℕ) (w : Word name) (i : ℕ) (h : i < length names) where
  abbrev here : List ℕ
  here = get_or names i []

  other : (key_of here ≡ key_of name → ⊥) → same_bytes name here ≡ false
  other d = go (same_bytes name here) refl
    where
      go : (t : Bool) → same_bytes name here ≡ t → same_bytes name here ≡ false
      go true e = absurd (d (sym (ap key_of (same_eq name here e))))
      go false e = e

  pub place_next : (key_of here ≡ key_of name → ⊥) → place_of name (drop i names) ≡ place_of name (drop (i + 1) names) + 1
  place_next d = rw (add-one i, add-one, drop-cons names i []) (step name here (drop (suc i) names) (other d))

  pub place_found : key_of here ≡ key_of name → place_of name (drop i names) ≡ 0
  place_found e =
      let same : same_bytes name here ≡ true = sym (ap (same_bytes name) (same_key name here w (each_short names i names_short h) (sym e))) ∙ eq_same name in
      rw (drop-cons names i []) (hit name here (drop (suc i) names) same)

pub place_end : (name : List ℕ) (i : ℕ) → length names ≤ i → place_of name (drop i names) ≡ 0
unfolding place_of
place_end name i h = rw (drop_of_length-le names h)

-- The place is that of the first name with this key.
abbrev pub has_key : List ℕ → ℕ → Bool
has_key name i = eqb (key_of (get_or names i [])) (key_of name)

by_key : (name : List ℕ) → Word name → (i n : ℕ) → i + n ≡ length names → position_or_len (has_key name) (range_with_len i n) ≡ place_of name (drop i names)
by_key name w i zero e = sym (place_end name i (omega arith))
by_key name w i (suc n) e = go (has_key name i) refl (by_key name w (i + 1) n (omega arith))
  where
    go : (t : Bool) → has_key name i ≡ t → position_or_len (has_key name) (range_with_len (i + 1) n) ≡ place_of name (drop (i + 1) names)
        → position_or_len (has_key name) (i ∷ range_with_len (i + 1) n) ≡ place_of name (drop i names)
    go true t ih = rw t (sym (place_found name w i (omega arith) (eqb-true _ _ t)))
    go false t ih = rw t (omega (arith, ih, place_next name w i (omega arith) (eqb-false _ _ t)))

few : (name : List ℕ) (ns : List (List ℕ)) → place_of name ns ≤ length ns
few name [] = omega (arith, place_none name)
few name (n ∷ ns) = go (same_bytes name n) refl (few name ns)
  where
    go : (t : Bool) → same_bytes name n ≡ t → place_of name ns ≤ length ns → place_of name (n ∷ ns) ≤ length (n ∷ ns)
    go true e ih = omega (arith, hit name n ns e)
    go false e ih = omega (arith, step name n ns e)

-- The place, from what a search for the key finds.
pub place_searched : (name : List ℕ) → Word name → (found : Option ℕ) → let p = position_or_len (has_key name) (range_with_len 0 96) in
    found ≡ cond (ltb p 96) (Some p) None → unwrap_or found 96 ≡ place_of name names
place_searched name w found e = ap (λ (o : Option ℕ). unwrap_or o 96) e ∙ go (ltb p 96) refl
  where
    p : ℕ
    p = position_or_len (has_key name) (range_with_len 0 96)

    go : (b : Bool) → ltb p 96 ≡ b → unwrap_or (cond (ltb p 96) (Some p) None) 96 ≡ place_of name names
    go true b = rw b (by_key name w 0 96 (omega (arith, name_count)))
    go false b = rw b (omega (arith, ltb-false p 96 b, by_key name w 0 96 (omega (arith, name_count)), few name names, name_count))

-- The same in two cases: the search finds a name, or none.
pub place_cases : (name : List ℕ) → Word name → (found : Option ℕ) → let p = position_or_len (has_key name) (range_with_len 0 96) in
    found ≡ cond (ltb p 96) (Some p) None → MatchOption found (96 ≤ place_of name names) (λ at. (at ≡ place_of name names) × (at < 96))
place_cases name w found e = rw e (go (ltb p 96) refl)
  where
    p : ℕ
    p = position_or_len (has_key name) (range_with_len 0 96)

    go : (b : Bool) → ltb p 96 ≡ b → MatchOption (cond (ltb p 96) (Some p) None) (96 ≤ place_of name names) (λ at. (at ≡ place_of name names) × (at < 96))
    go true b = rw b (by_key name w 0 96 (omega (arith, name_count)), ltb-true p 96 b)
    go false b = rw b (omega (arith, ltb-false p 96 b, by_key name w 0 96 (omega (arith, name_count))))

-- A longer name is not in the list.
longer : (name : List ℕ) (ns : List (List ℕ)) → 4 < length name → all_short ns ≡ true → place_of name ns ≡ length ns
unfolding place_of all_short
longer name [] h e = refl
longer name (n ∷ ns) h e =
    let t = (and-eq-true_iff (is_short_word n) (all_short ns)).0 e in
    let s = leb-true (length n) 4 ((and-eq-true_iff (leb (length n) 4) (all word_byte n)).0 t.0).0 in
    step name n ns (same_refused name n (λ d. omega arith)) ∙ ap suc (longer name ns h t.1)

pub place_longer : (name : List ℕ) → 4 < length name → place_of name names ≡ 96
place_longer name h = longer name names h names_short ∙ name_count

-- ---- the register
-- A name of the first list has its place there; any other has its place in the second list.
data Placed (name : List ℕ) (ms ns : List (List ℕ)) : Type 0 where
  first : place_of name ms < length ms → place_of name (ms ++ ns) ≡ place_of name ms → Placed name ms ns
  later : place_of name ms ≡ length ms → place_of name (ms ++ ns) ≡ length ms + place_of name ns → Placed name ms ns

placed : (name : List ℕ) (ms ns : List (List ℕ)) → Placed name ms ns
unfolding place_of
placed name [] ns = later refl (omega arith)
placed name (m ∷ ms) ns = go (same_bytes name m) refl (placed name ms ns)
  where
    go : (t : Bool) → same_bytes name m ≡ t → Placed name ms ns → Placed name (m ∷ ms) ns
    go true e ih = first (omega (arith, hit name m ms e)) (hit name m (ms ++ ns) e ∙ sym (hit name m ms e))
    go false e (first h f) = first (omega (arith, step name m ms e)) (step name m (ms ++ ns) e ∙ ap suc f ∙ sym (step name m ms e))
    go false e (later h f) = later (step name m ms e ∙ ap suc h) (step name m (ms ++ ns) e ∙ omega (arith, f))

-- Below n the place picks one of `register`; from n on, one of `rest`.
abbrev register_by_place : ℕ → (ℕ → Option NamedRegister) → (ℕ → Option NamedRegister) → ℕ → Option NamedRegister
register_by_place n register rest p = elim (ltb p n) [ true ↦ register p | false ↦ rest (p - n) ]

module _ (n : ℕ) (register rest : ℕ → Option NamedRegister) (p : ℕ) where
  below : p < n → register_by_place n register rest p ≡ register p
  below h = rw (lt-ltb p n h, register_by_place)

  past : n ≤ p → register_by_place n register rest p ≡ rest (p - n)
  past h = rw (le-ltb p n h, register_by_place)

by_place : (name : List ℕ) (ms ns : List (List ℕ)) (register rest : ℕ → Option NamedRegister)
    → register_by_place (length ms) register rest (place_of name (ms ++ ns)) ≡ among ms register name (rest (place_of name ns))
by_place name ms ns register rest = go (placed name ms ns)
  where
    go : Placed name ms ns → register_by_place (length ms) register rest (place_of name (ms ++ ns)) ≡ among ms register name (rest (place_of name ns))
    go (first h e) =
        below (length ms) register rest (place_of name (ms ++ ns)) (omega arith) ∙ ap register e ∙ sym (below (length ms) register (λ q. rest (place_of name ns)) (place_of name ms) h)
    go (later h e) =
        let q : place_of name (ms ++ ns) - length ms ≡ place_of name ns = omega arith in
        past (length ms) register rest (place_of name (ms ++ ns)) (omega arith)
        ∙ ap rest q
        ∙ sym (past (length ms) register (λ q. rest (place_of name ns)) (place_of name ms) (omega arith))

abbrev float_at : ℕ → Option NamedRegister
float_at p = register_by_place 32 (λ n. Some (Float (fp_register_of n))) (λ n. None) p

abbrev number_at : ℕ → Option NamedRegister
number_at p = register_by_place 32 (λ n. Some (General (register_of n))) float_at p

register_at : (name : List ℕ) → register_by_place 32 (λ n. Some (General (register_of n))) number_at (place_of name names) ≡ register_named name
unfolding register_named names
register_at name =
    by_place name general_names (number_names ++ float_names) (λ n. Some (General (register_of n))) number_at
    ∙ ap (among general_names (λ n. Some (General (register_of n))) name) (by_place name number_names float_names (λ n. Some (General (register_of n))) float_at)

-- The register, from the place among all names.
module _ (name : List ℕ) (p : ℕ) (e : p ≡ place_of name names) where
  is : register_by_place 32 (λ n. Some (General (register_of n))) number_at p ≡ register_named name
  is = ap (register_by_place 32 (λ n. Some (General (register_of n))) number_at) e ∙ register_at name

  pub general_is : p < 32 → Some (General (register_of p)) ≡ register_named name
  general_is h = sym (below 32 (λ n. Some (General (register_of n))) number_at p h) ∙ is

  pub number_is : 32 ≤ p → p < 64 → Some (General (register_of (p - 32))) ≡ register_named name
  number_is h l = sym (past 32 (λ n. Some (General (register_of n))) number_at p h ∙ below 32 (λ n. Some (General (register_of n))) float_at (p - 32) (omega arith)) ∙ is

  beyond : 64 ≤ p → float_at (p - 32 - 32) ≡ register_named name
  beyond h = sym (past 32 (λ n. Some (General (register_of n))) number_at p (omega arith) ∙ past 32 (λ n. Some (General (register_of n))) float_at (p - 32) (omega arith)) ∙ is

  pub float_is : 64 ≤ p → p < 96 → Some (Float (fp_register_of (p - 64))) ≡ register_named name
  float_is h l =
      let q : p - 64 ≡ p - 32 - 32 = omega arith in
      ap (λ (n : ℕ). Some (Float (fp_register_of n))) q ∙ sym (below 32 (λ n. Some (Float (fp_register_of n))) (λ n. None) (p - 32 - 32) (omega arith)) ∙ beyond h

  pub unknown_is : 96 ≤ p → None ≡ register_named name
  unknown_is h = sym (past 32 (λ n. Some (Float (fp_register_of n))) (λ n. None) (p - 32 - 32) (omega arith)) ∙ beyond (omega arith)
