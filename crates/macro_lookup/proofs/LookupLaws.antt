-- Laws of a walk over the macro list. Assumes nothing.
use Rattle.std.specs.Prelude.{ℕ, ◌+◌, ◌-◌, ◌≤◌, ◌<◌, min, List, [], ◌∷◌, Bool, true, false, ◌&&◌, ◌≡◌, refl, length, take, leb, ltb, eqb, None, Some, Option, IfSome, MatchOption}
use Rattle.std.specs.Option.{unwrap_or}
use Rattle.std.proofs.Common.{arith, sym, ap, subst, ◌∙◌, length-take, length-drop, length-take-le, get_or-take, leb-true, leb-false, le-leb, ltb-true, ltb-false}
use Rattle.std.proofs.lemmas.Bool.{false≢true}
use Rattle.std.proofs.Math.Bool.{and-eq-true_iff}
use Rattle.record.specs.Bytes.{part, same_bytes}
use Rattle.record.specs.Records.{body_len, kind_at, next, whole, places, places_from, first_bad, limit}
use Rattle.record.proofs.RecordsLaws.{layout_from, places_all, places_step, places_cut, places_end, whole_is, good_ok, good_next, limit_good}
use Rattle.macros.specs.Macros.{name_at, name_ok, macro_of, macro_ok, body_at, macro_at_ok, macro_layout}
use Rattle.macros.proofs.LayoutLaws.{parts_of, body_part}
use Rattle.written_out.specs.Above.{macro_at, above, Found}
use Rattle.written_out.proofs.AboveLaws.{Reached, reached_first, reached_next, found_first, found_here, found_next, found_last, above_min}
use Rattle.macro_lookup.specs.Lookup.{MacroIs, CalleeIs}

pub macro_is : (s : List ℕ) (at : ℕ) → macro_at_ok s at ≡ true → MacroIs s at
unfolding macro_at_ok
macro_is s at e =
    let h = (and-eq-true_iff (whole s at && eqb (kind_at s at) 40) (macro_ok (body_at s at))).0 e in
    let w = (and-eq-true_iff (whole s at) (eqb (kind_at s at) 40)).0 h.0 in
    let r = whole_is s at w.0 in
    record { whole_at = w.0; head = r.0; body = r.1; long = simp (length-take, length-drop) (omega (arith, r.1)); bytes_ok = h.1 }

pub name_ok_lem : (s : List ℕ) (at : ℕ) → MacroIs s at → name_ok (body_at s at) 0 ≡ true
name_ok_lem s at m = (parts_of (body_at s at) m.bytes_ok).name_ok_lem

-- What a walk has met: the macros before `at`; `k` is the last of them with the name.
pub record Walked (s name : List ℕ) (limit at k : ℕ) : Type 0 where
  pub good : layout_from (macro_at_ok s) s at ≡ None
  pub reached : Reached s at
  pub same : above s (min at limit) ≡ above s at
  pub found_so : Found s name limit at k
  pub most : k ≤ limit
  pub ok : k < limit → macro_at_ok s k ≡ true

pub walked_first : (s name : List ℕ) (limit : ℕ) → macro_layout s ≡ None → Walked s name limit 0 limit
unfolding macro_layout
walked_first s name limit g =
    let h = (limit_good s (first_bad (macro_at_ok s) (places s)) g).1 in
    let z : min 0 limit ≡ 0 = omega arith in
    record {
      good = sym (ap (first_bad (macro_at_ok s)) (places_all s)) ∙ h;
      reached = reached_first s;
      same = ap (above s) z;
      found_so = found_first s name limit;
      most = omega arith;
      ok = λ h. absurd (omega arith);
    }

module _ (s name : List ℕ) (limit at k : ℕ) (w : Walked s name limit at k) (l : at < limit) (h : limit ≤ length s) where
  ok_here : macro_at_ok s at ≡ true
  ok_here = good_ok (macro_at_ok s) s at (omega arith) w.good

  pub here : MacroIs s at
  here = macro_is s at ok_here

  go_on : (j : ℕ) → Found s name limit (next s at) j → j ≤ limit → (j < limit → macro_at_ok s j ≡ true) → Walked s name limit (next s at) j
  go_on j f m o = record {
    good = good_next (macro_at_ok s) s at (omega arith) here.whole_at w.good;
    reached = reached_next s at w.reached (omega arith) here.whole_at;
    same = above_min s limit at w.reached l (omega arith) here.whole_at;
    found_so = f;
    most = m;
    ok = o;
  }

  pub walked_here : same_bytes (macro_at s at).name name ≡ true → Walked s name limit (next s at) at
  walked_here e = go_on at (found_here s name limit at w.reached l (omega arith) here.whole_at e) (omega arith) (λ l. ok_here)

  pub walked_next : same_bytes (macro_at s at).name name ≡ false → Walked s name limit (next s at) k
  walked_next e = go_on k (found_next s name limit at k w.reached (omega arith) here.whole_at e w.found_so) w.most w.ok

pub walked_last : (s name : List ℕ) (limit at k : ℕ) → Walked s name limit at k → limit ≤ at → CalleeIs s name limit k
walked_last s name limit at k w h = record { found_so = found_last s name limit at k h w.same w.found_so; most = w.most; ok = w.ok }

-- ---- the places of the list cut at `limit`: it has the same records, but the last one may run past the cut
module _ (s : List ℕ) (limit : ℕ) (h : limit ≤ length s) (at : ℕ) (l : at < limit) where
  abbrev cut : List ℕ
  cut = take limit s

  same_next : at + 2 ≤ limit → next cut at ≡ next s at
  same_next m = omega (arith, get_or-take limit s at 0 (omega arith), get_or-take limit s (at + 1) 0 (omega arith))

  runs_past : whole cut at ≡ false → length cut ≤ next s at
  runs_past e = go (leb (length cut) (next s at)) refl
    where
      go : (b : Bool) → leb (length cut) (next s at) ≡ b → length cut ≤ next s at
      go true f = leb-true _ _ f
      go false f =
          let n = leb-false _ _ f in
          let k = length-take-le limit s h in
          let w : whole cut at ≡ true = rw (le-leb (at + 4) (length cut) (omega arith), le-leb (next cut at) (length cut) (omega (arith, same_next (omega arith)))) in
          absurd (false≢true (sym e ∙ w))

  pub cut_step : places_from cut at ≡ at ∷ places_from cut (next s at)
  cut_step = go (whole cut at) refl
    where
      go : (b : Bool) → whole cut at ≡ b → places_from cut at ≡ at ∷ places_from cut (next s at)
      go true e =
          let w = whole_is cut at e in
          let k = length-take-le limit s h in
          places_step cut at (omega arith) e ∙ ap (λ (n : ℕ). at ∷ places_from cut n) (same_next (omega arith))
      go false e =
          let k = length-take-le limit s h in
          places_cut cut at (omega arith) e ∙ ap (λ (ps : List ℕ). at ∷ ps) (sym (places_end cut (next s at) (runs_past e)))

-- What a walk has met, as the places that are left.
pub record Met (s name : List ℕ) (limit : ℕ) (left : List ℕ) (k : ℕ) : Type 0 where
  pub at : ℕ
  pub walked : Walked s name limit at k
  pub left_is : left ≡ places_from (take limit s) at

pub met_first : (s name : List ℕ) (limit : ℕ) (left : List ℕ) → macro_layout s ≡ None → left ≡ places (take limit s) → Met s name limit left limit
met_first s name limit left g e = record { at = 0; walked = walked_first s name limit g; left_is = e ∙ places_all (take limit s) }

-- A turn takes the place p.
pub record MetTurn (s name : List ℕ) (limit p : ℕ) (left : List ℕ) (k : ℕ) : Type 0 where
  pub stands : MacroIs s p
  pub before : p < limit
  pub named : same_bytes (macro_at s p).name name ≡ true → Met s name limit left p
  pub other : same_bytes (macro_at s p).name name ≡ false → Met s name limit left k

pub met_turn : (s name : List ℕ) (limit p k : ℕ) (ps left : List ℕ) → limit ≤ length s → Met s name limit left k → left ≡ p ∷ ps → MetTurn s name limit p ps k
met_turn s name limit p k ps left h m e = go (ltb m.at limit) refl
  where
    go : (b : Bool) → ltb m.at limit ≡ b → MetTurn s name limit p ps k
    go false f =
        let z : p ∷ ps ≡ [] = sym e ∙ m.left_is ∙ places_end (take limit s) m.at (omega (arith, length-take-le limit s h, ltb-false m.at limit f)) in
        let y : ◌≡◌ {A = ℕ} 0 1 = cc in
        absurd (omega arith)
    go true f =
        let l = ltb-true m.at limit f in
        let c : p ∷ ps ≡ m.at ∷ places_from (take limit s) (next s m.at) = sym e ∙ m.left_is ∙ cut_step s limit h m.at l in
        let a : p ≡ m.at = cc in
        let q : ps ≡ places_from (take limit s) (next s m.at) = cc in
        subst (λ (x : ℕ). MetTurn s name limit x ps k) (sym a)
        (record {
          stands = here s name limit m.at k m.walked l h;
          before = l;
          named = λ t. record { at = next s m.at; walked = walked_here s name limit m.at k m.walked l h t; left_is = q };
          other = λ t. record { at = next s m.at; walked = walked_next s name limit m.at k m.walked l h t; left_is = q };
        })

pub met_last : (s name : List ℕ) (limit k : ℕ) (left : List ℕ) → limit ≤ length s → Met s name limit left k → left ≡ [] → CalleeIs s name limit k
met_last s name limit k left h m e = go (ltb m.at limit) refl
  where
    go : (b : Bool) → ltb m.at limit ≡ b → CalleeIs s name limit k
    go true f =
        let z : [] ≡ m.at ∷ places_from (take limit s) (next s m.at) = sym e ∙ m.left_is ∙ cut_step s limit h m.at (ltb-true m.at limit f) in
        let y : ◌≡◌ {A = ℕ} 0 1 = cc in
        absurd (omega arith)
    go false f = walked_last s name limit m.at k m.walked (ltb-false m.at limit f)

-- and what it found, if it met a macro with the name
pub met_found : (s name : List ℕ) (limit : ℕ) (k : Option ℕ) → CalleeIs s name limit (unwrap_or k limit) → IfSome k (λ p. p < limit)
    → MatchOption k (CalleeIs s name limit limit) (λ p. CalleeIs s name limit p × (p < limit))
met_found s name end None c b = c
met_found s name end (Some p) c b = (c, b)

-- the name of the macro whose body is that part
pub name_of : (s : List ℕ) (at e : ℕ) → e ≡ next s at → name_at (part s (at + 4) (e - (at + 4))) 0 ≡ (macro_at s at).name
unfolding macro_of
name_of s at e h =
    let k : e - (at + 4) ≡ body_len s at = omega arith in
    ap (λ (n : ℕ). name_at (part s (at + 4) n) 0) k

-- The same for the macro's bytes.
pub name_in : (s : List ℕ) (at : ℕ) (b : List ℕ) → b ≡ body_at s at → name_at b 0 ≡ (macro_at s at).name
name_in s at b e = ap (λ (x : List ℕ). name_at x 0) (e ∙ sym (body_part s at (next s at) refl)) ∙ name_of s at (next s at) refl

pub name_ok_of : (s : List ℕ) (at e : ℕ) → e ≡ next s at → MacroIs s at → name_ok (part s (at + 4) (e - (at + 4))) 0 ≡ true
name_ok_of s at e h m =
    let k : e - (at + 4) ≡ body_len s at = omega arith in
    ap (λ (n : ℕ). name_ok (part s (at + 4) n) 0) k ∙ name_ok_lem s at m
