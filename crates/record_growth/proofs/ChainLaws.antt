-- Whole records one after another: each place is where the record before ends; and the places once one record has grown. Assumes nothing.
use Rattle.std.specs.Prelude.{ℕ, ◌+◌, ◌≤◌, ◌<◌, ◌⊎◌, Bool, true, false, ◌≡◌, refl, length, ltb, leb, None}
use Rattle.std.proofs.Common.{arith, inl, inr, ⊎_elim, sym, ap, subst, ◌∙◌, ltb-true, ltb-false, le-leb}
use mathlib.Core.List.Memᴰ
use mathlib.Core.List.{List, [], ◌∷◌, map, Memᴰ}
use Rattle.std.proofs.lemmas.Bool.{lt-leb}
use Rattle.record.specs.Bytes.{byte_at}
use Rattle.record.specs.Records.{next, body_len, whole, places_from, places, first_bad}
use Rattle.record.proofs.RecordsLaws.{places_all, places_step, places_cut, places_end, places_cons, whole_is, first_good}
use Rattle.record.proofs.OneMoreLaws.{is_whole}

-- each place is where the record before it ends, each record is whole, and the last ends with the list
abbrev pub Chain : List ℕ → ℕ → List ℕ → Type 0
Chain s at [] = at ≡ length s
Chain s at (p ∷ ps) = (p ≡ at) × (whole s at ≡ true) × Chain s (next s at) ps

pub chain_places : (s : List ℕ) (at : ℕ) (ps : List ℕ) → Chain s at ps → places_from s at ≡ ps
chain_places s at [] c = places_end s at (omega (arith, c))
chain_places s at (p ∷ ps) c =
    let w = whole_is s at c.1 in
    places_step s at (omega arith) c.1 ∙ cc (c.0, chain_places s (next s at) ps c.2)

pub places_chain : (s : List ℕ) (at : ℕ) (ps : List ℕ) → places_from s at ≡ ps → first_bad (whole s) ps ≡ None → at ≤ length s → Chain s at ps
places_chain s at [] e g h = go (ltb at (length s)) refl (whole s at) refl
  where
    go : (b : Bool) → ltb at (length s) ≡ b → (w : Bool) → whole s at ≡ w → at ≡ length s
    go false b w f = omega (arith, ltb-false at (length s) b)
    go true b true f =
        let n = places_step s at (ltb-true at (length s) b) f in
        let z : ◌≡◌ {A = ℕ} 0 1 = cc in
        absurd (omega arith)
    go true b false f =
        let n = places_cut s at (ltb-true at (length s) b) f in
        let z : ◌≡◌ {A = ℕ} 0 1 = cc in
        absurd (omega arith)
places_chain s at (p ∷ ps) e g h =
    let c = places_cons s at p ps e in
    let f = first_good (whole s) p ps g in
    let w : whole s at ≡ true = ap (whole s) (sym c.1) ∙ f.0 in
    (c.1, w, places_chain s (next s at) ps (⊎_elim (λ x. x.1) (λ x. cc) c.2) f.1 (whole_is s at w).1)

-- a place of a chain is not before its beginning
pub chain_from : (s : List ℕ) (at : ℕ) (ps : List ℕ) → Chain s at ps → (p : ℕ) → Memᴰ p ps → at ≤ p
chain_from s at [] c p m = elim m [ ]
chain_from s at (q ∷ ps) c p m =
    ⊎_elim (λ (h : p ≡ q). omega (arith, c.0)) (λ t. omega (arith, chain_from s (next s at) ps c.2 p t)) (Memᴰ.cases_cons m)

-- ---- a record that grew

-- Where a place lies once the record at `from` has k more bytes.
abbrev pub shift : (from k : ℕ) → ℕ → ℕ
shift from k q = elim (leb q from) [ true ↦ q | false ↦ q + k ]

pub shift_up : (from k q : ℕ) → from < q → shift from k q ≡ q + k
shift_up from k q h = rw (lt-leb q from h, shift)

pub shift_not : (from k q : ℕ) → q ≤ from → shift from k q ≡ q
shift_not from k q h = rw (le-leb q from h, shift)

-- t is s with k more bytes behind the body of the record at `from`; that record's length counts them.
pub record Grows (s t : List ℕ) (from k : ℕ) : Type 0 where
  pub longer : length t ≡ length s + k
  pub body_longer : body_len t from ≡ body_len s from + k
  pub before : (j : ℕ) → j < from → byte_at t j ≡ byte_at s j
  pub between : (j : ℕ) → from + 2 ≤ j → j < next s from → byte_at t j ≡ byte_at s j
  pub behind : (j : ℕ) → next s from ≤ j → byte_at t (j + k) ≡ byte_at s j

module _ (s t : List ℕ) (from k : ℕ) (g : Grows s t from k) where
  -- Where records end.
  next_before : (at : ℕ) → next s at ≤ from → next t at ≡ next s at
  next_before at h = omega (arith, g.before at (omega arith), g.before (at + 1) (omega arith))

  next_here : next t from ≡ next s from + k
  next_here = omega (arith, g.body_longer)

  next_behind : (at : ℕ) → next s from ≤ at → next t (at + k) ≡ next s at + k
  next_behind at h =
      let e : at + k + 1 ≡ at + 1 + k = omega arith in
      omega (arith, g.behind at h, ap (byte_at t) e ∙ g.behind (at + 1) (omega arith))

  moved_chain : (at : ℕ) (ps : List ℕ) → next s from ≤ at → Chain s at ps → Chain t (at + k) (map (shift from k) ps)
  moved_chain at [] h c = omega (arith, c, g.longer)
  moved_chain at (p ∷ ps) h c =
      let w = whole_is s at c.1 in
      let n = next_behind at h in
      (ap (shift from k) c.0 ∙ shift_up from k at (omega arith), is_whole t (at + k) (omega (arith, g.longer)) (omega (arith, g.longer)), subst (λ (m : ℕ). Chain t m (map (shift from k) ps)) (sym n) (moved_chain (next s at) ps (omega arith) c.2))

  pub grown_chain : (at : ℕ) (ps : List ℕ) → Memᴰ from ps → Chain s at ps → Chain t at (map (shift from k) ps)
  grown_chain at [] m c = elim m [ ]
  grown_chain at (p ∷ ps) m c = go (Memᴰ.cases_cons m) (λ t. grown_chain (next s at) ps t c.2)
    where
      w : (at + 4 ≤ length s) × (next s at ≤ length s)
      w = whole_is s at c.1

      go : (from ≡ p) ⊎ Memᴰ from ps → (Memᴰ from ps → Chain t (next s at) (map (shift from k) ps)) → Chain t at (map (shift from k) (p ∷ ps))
      go (inl e) ih =
          let a : from ≡ at = e ∙ c.0 in
          let n : next t at ≡ next s at + k = rw (← a) next_here in
          (ap (shift from k) c.0 ∙ shift_not from k at (omega arith), is_whole t at (omega (arith, w, g.longer)) (omega (arith, w, n, g.longer)), subst (λ (m : ℕ). Chain t m (map (shift from k) ps)) (sym n) (moved_chain (next s at) ps (omega (arith, ap (next s) a)) c.2))
      go (inr tail) ih =
          let f = chain_from s (next s at) ps c.2 from tail in
          let n = next_before at f in
          (ap (shift from k) c.0 ∙ shift_not from k at (omega arith), is_whole t at (omega (arith, w, g.longer)) (omega (arith, w, n, g.longer)), subst (λ (m : ℕ). Chain t m (map (shift from k) ps)) (sym n) (ih tail))

  -- the places
  pub grown_places : first_bad (whole s) (places s) ≡ None → Memᴰ from (places s) → places t ≡ map (shift from k) (places s)
  grown_places good m =
      places_all t ∙ chain_places t 0 (map (shift from k) (places s)) (grown_chain 0 (places s) m (places_chain s 0 (places s) (sym (places_all s)) good (omega arith)))
