-- Laws of the macros before a place of the macro list, and of finding one by its name from the first place on. Assumes nothing.
use Rattle.std.specs.Prelude.{ℕ, ◌≤◌, ◌<◌, min, Bool, true, false, ◌≡◌, length, leb}
use Rattle.std.proofs.Common.{arith, sym, ◌∙◌, ⊎_elim, lt-ltb, le-ltb, leb-true, leb-false}
use mathlib.Core.List.{List, [], ◌∷◌, map, reverse, reverse_aux}
use Rattle.std.proofs.Math.Path.{refl, ap}
use Rattle.record.specs.Bytes.{same_bytes}
use Rattle.record.specs.Records.{next, whole, places_from, places}
use Rattle.record.proofs.RecordsLaws.{places_all, places_step, places_end, places_cons}
use Rattle.macros.specs.Macros.{Macro, macros_of}
use Rattle.written_out.specs.Written.{called}
use Rattle.written_out.specs.Above.{macro_at, above_from, above, Found, missing, found}

module _ (s : List ℕ) where
  from_none : (limit : ℕ) (ms : List Macro) → above_from s limit [] ms ≡ ms
  unfolding above_from
  from_none limit ms = refl

  from_here : (limit p : ℕ) (ps : List ℕ) (ms : List Macro) → p < limit → above_from s limit (p ∷ ps) ms ≡ above_from s limit ps (macro_at s p ∷ ms)
  unfolding above_from
  from_here limit p ps ms h = rw (lt-ltb p limit h, above_from)

  from_stop : (limit p : ℕ) (ps : List ℕ) (ms : List Macro) → limit ≤ p → above_from s limit (p ∷ ps) ms ≡ ms
  unfolding above_from
  from_stop limit p ps ms h = rw (le-ltb p limit h, above_from)

  -- None of the places from `at` on lies before `at`.
  none_from : (at : ℕ) (ms : List Macro) → above_from s at (places_from s at) ms ≡ ms
  none_from at ms = go (places_from s at) refl
    where
      go : (ps : List ℕ) → places_from s at ≡ ps → above_from s at (places_from s at) ms ≡ ms
      go [] e = ap (λ (ps : List ℕ). above_from s at ps ms) e ∙ from_none at ms
      go (p ∷ ps) e = let c = places_cons s at p ps e in ap (λ (qs : List ℕ). above_from s at qs ms) e ∙ from_stop at p ps ms (omega (arith, c.1))

  -- all macros before `at` have been met
  abbrev pub Reached : ℕ → Type 0
  Reached at = (limit : ℕ) → at ≤ limit → above s limit ≡ above_from s limit (places_from s at) (above s at)

  above_none : above s 0 ≡ []
  unfolding above
  above_none = ap (λ (ps : List ℕ). above_from s 0 ps []) (places_all s) ∙ none_from 0 []

  pub reached_first : Reached 0
  unfolding above
  reached_first limit h = ap (λ (ps : List ℕ). above_from s limit ps []) (places_all s) ∙ ap (above_from s limit (places_from s 0)) (sym above_none)

  -- The macro at a place is put in front of those before it.
  pub above_next : (at : ℕ) → Reached at → at < length s → whole s at ≡ true → above s (next s at) ≡ macro_at s at ∷ above s at
  above_next at r h w =
      r (next s at) (omega arith)
      ∙ ap (λ (ps : List ℕ). above_from s (next s at) ps (above s at)) (places_step s at h w)
      ∙ from_here (next s at) at (places_from s (next s at)) (above s at) (omega arith)
      ∙ none_from (next s at) (macro_at s at ∷ above s at)

  pub reached_next : (at : ℕ) → Reached at → at < length s → whole s at ≡ true → Reached (next s at)
  reached_next at r h w limit k =
      r limit (omega arith)
      ∙ ap (λ (ps : List ℕ). above_from s limit ps (above s at)) (places_step s at h w)
      ∙ from_here limit at (places_from s (next s at)) (above s at) (omega arith)
      ∙ ap (above_from s limit (places_from s (next s at))) (sym (above_next at r h w))

  -- A limit inside a record cuts nothing off: the macros above are those before the next record.
  pub above_past : (limit at : ℕ) → Reached at → at < limit → limit ≤ next s at → at < length s → whole s at ≡ true → above s limit ≡ above s (next s at)
  above_past limit at r l m h w =
      r limit (omega arith)
      ∙ ap (λ (ps : List ℕ). above_from s limit ps (above s at)) (places_step s at h w)
      ∙ from_here limit at (places_from s (next s at)) (above s at) l
      ∙ stops (places_from s (next s at)) refl
      ∙ sym (above_next at r h w)
    where
      stops : (ps : List ℕ) → places_from s (next s at) ≡ ps → above_from s limit ps (macro_at s at ∷ above s at) ≡ macro_at s at ∷ above s at
      stops [] e = from_none limit (macro_at s at ∷ above s at)
      stops (p ∷ ps) e = let c = places_cons s (next s at) p ps e in from_stop limit p ps (macro_at s at ∷ above s at) (omega (arith, c.1))

  pub above_min : (limit at : ℕ) → Reached at → at < limit → at < length s → whole s at ≡ true → above s (min (next s at) limit) ≡ above s (next s at)
  above_min limit at r l h w = go (leb (next s at) limit) refl
    where
      go : (b : Bool) → leb (next s at) limit ≡ b → above s (min (next s at) limit) ≡ above s (next s at)
      go true e = let k : min (next s at) limit ≡ next s at = omega (arith, leb-true (next s at) limit e) in ap (above s) k
      go false e =
          let f = leb-false (next s at) limit e in
          let k : min (next s at) limit ≡ limit = omega arith in
          ap (above s) k ∙ above_past limit at r l (omega arith) h w

  -- ---- the macro with a name, as a loop finds it
  pub found_first : (name : List ℕ) (limit : ℕ) → Found s name limit 0 limit
  unfolding called
  found_first name limit = missing refl (rw above_none)

  pub found_here : (name : List ℕ) (limit at : ℕ) → Reached at → at < limit → at < length s → whole s at ≡ true → same_bytes (macro_at s at).name name ≡ true → Found s name limit (next s at) at
  unfolding called
  found_here name limit at r l h w e = found l (rw (above_next at r h w) (rw (e, called)))

  pub found_next : (name : List ℕ) (limit at k : ℕ) → Reached at → at < length s → whole s at ≡ true → same_bytes (macro_at s at).name name ≡ false → Found s name limit at k → Found s name limit (next s at) k
  unfolding called
  found_next name limit at k r h w e (missing f g) = missing f (rw (above_next at r h w) (rw (e, called) g))
  found_next name limit at k r h w e (found f g) = found f (rw (above_next at r h w) (rw (e, called) g))

-- ---- at the end of the list all macros are above
all_above : (s ps : List ℕ) (at : ℕ) (ms : List Macro) → places_from s at ≡ ps → above_from s (length s) ps ms ≡ reverse_aux (map (macro_at s) ps) ms
all_above s [] at ms e = from_none s (length s) ms
all_above s (p ∷ ps) at ms e =
    let c = places_cons s at p ps e in
    from_here s (length s) p ps ms (omega (arith, c.0, c.1))
    ∙ ⊎_elim
    (λ w. all_above s ps (next s at) (macro_at s p ∷ ms) w.1)
    (λ w. all_above s ps (length s) (macro_at s p ∷ ms) (places_end s (length s) (omega arith) ∙ sym w.1))
    c.2

pub above_end : (s : List ℕ) → above s (length s) ≡ reverse (macros_of s)
unfolding above macros_of
above_end s = all_above s (places s) 0 [] (sym (places_all s))

pub found_last : (s name : List ℕ) (limit at k : ℕ) → limit ≤ at → above s (min at limit) ≡ above s at → Found s name limit at k → Found s name limit limit k
found_last s name limit at k h e f =
    let m : min at limit ≡ limit = omega arith in
    let a : above s limit ≡ above s at = sym (ap (above s) m) ∙ e in
    go f a
  where
    go : Found s name limit at k → above s limit ≡ above s at → Found s name limit limit k
    go (missing p q) a = missing p (ap (called name) a ∙ q)
    go (found p q) a = found p (ap (called name) a ∙ q)
