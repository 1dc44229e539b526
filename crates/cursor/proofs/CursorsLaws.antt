-- Laws of positions: an index and its byte place, and what is passed over. Assumes nothing.
use Rattle.std.specs.Prelude.{ℕ, zero, suc, ◌+◌, ◌≤◌, ◌<◌, List, [], ◌∷◌, map, Bool, true, false, ◌≡◌, refl, length, get_or, ltb, None, Some}
use Rattle.std.proofs.Common.{add-one, arith, sym, ap, ◌∙◌, drop_of_length-le, drop-cons, lt-ltb, le-ltb, ltb-true, ltb-false}
use Rattle.std.proofs.lemmas.List.{length-map}
use Rattle.std.proofs.Math.ListN.{get_or-eq_default}
use Rattle.record.specs.Records.{next, whole, places, places_from}
use Rattle.record.proofs.RecordsLaws.{places_all, places_end, places_step, places_cut, layout_from, good_ok, good_next}
use Rattle.lexer.specs.declared.Token.{Token}
use Rattle.lexer.specs.Tokens.{token_ok, TokenIs, token_layout, token_at, tokens}
use Rattle.lexer.proofs.TokensLaws.{token_is, token_good}
use Rattle.cursor.specs.declared.Cursor.{Cursor}
use Rattle.cursor.specs.Cursors.{is_adjacent_kind, passed, seek, no_token, peek, step, cursor_at}
use Rattle.cursor.specs.Reads.{Placed}

-- ---- the tokens and their places

tokens_length : (s : List ℕ) → length (tokens s) ≡ length (places s)
unfolding tokens
tokens_length s = length-map (places s) (token_at s)

map_at : (f : ℕ → Token) (ps : List ℕ) (i p : ℕ) (t : Token) → i < length ps → get_or (map f ps) i t ≡ f (get_or ps i p)
map_at f [] i p t h = absurd (omega arith)
map_at f (q ∷ ps) zero p t h = refl
map_at f (q ∷ ps) (suc i) p t h = map_at f ps i p t (omega arith)

-- The byte place of an index: its record's place, or the list's end if the index is past the last record.
abbrev pub place : List ℕ → ℕ → ℕ
place s i = get_or (places s) i (length s)

token_at_place : (s : List ℕ) (i : ℕ) → i < length (tokens s) → get_or (tokens s) i no_token ≡ token_at s (place s i)
unfolding tokens
token_at_place s i h = map_at (token_at s) (places s) i (length s) no_token (omega (arith, tokens_length s))

-- The first of the places from `at` on is `at`, even at the list's end.
first_from : (s : List ℕ) (at : ℕ) → at ≤ length s → get_or (places_from s at) 0 (length s) ≡ at
first_from s at h = go (ltb at (length s)) refl (whole s at) refl
  where
    go : (b : Bool) → ltb at (length s) ≡ b → (w : Bool) → whole s at ≡ w → get_or (places_from s at) 0 (length s) ≡ at
    go false b w e = rw (places_end s at (ltb-false at (length s) b)) (omega (arith, ltb-false at (length s) b))
    go true b true e = rw (places_step s at (ltb-true at (length s) b) e)
    go true b false e = rw (places_cut s at (ltb-true at (length s) b) e)

some_from : (s : List ℕ) (i at : ℕ) → i < length (places_from s at) → at < length s
some_from s i at h = go (ltb at (length s)) refl
  where
    go : (b : Bool) → ltb at (length s) ≡ b → at < length s
    go true b = ltb-true at (length s) b
    go false b = absurd (omega (arith, rw (places_end s at (ltb-false at (length s) b)) at h))

-- In a list of tokens, each token stands before the list's end and ends where the next place is.
each_from : (s : List ℕ) (i at : ℕ) → layout_from (token_ok s) s at ≡ None → i < length (places_from s at)
    → let p = get_or (places_from s at) i (length s) in (p < length s) × TokenIs s p × (get_or (places_from s at) (suc i) (length s) ≡ next s p)
each_from s zero at g h =
    let b = some_from s 0 at h in
    let t = token_is s at (good_ok (token_ok s) s at b g) in
    rw (places_step s at b t.whole_at) (b, t, first_from s (next s at) t.body)
each_from s (suc i) at g h =
    let b = some_from s (suc i) at h in
    let t = token_is s at (good_ok (token_ok s) s at b g) in
    let e = places_step s at b t.whole_at in
    rw e (each_from s i (next s at) (good_next (token_ok s) s at b t.whole_at g) (omega (arith, rw e at h)))

module _ (s : List ℕ) (good : token_layout s ≡ None) where
  place_each : (i : ℕ) → i < length (tokens s) → (place s i < length s) × TokenIs s (place s i) × (place s (suc i) ≡ next s (place s i))
  place_each i h =
      let e = places_all s in
      let k : i < length (places s) = omega (arith, tokens_length s) in
      rw (← e) at (each_from s i 0 (rw e at (token_good s good).1) (rw e at k))

  -- Each record takes bytes, so an index is never above its byte place.
  pub place_least : (i : ℕ) → i ≤ length (tokens s) → i ≤ place s i
  place_least zero h = omega arith
  place_least (suc i) h = omega (arith, place_least i (omega arith), (place_each i (omega arith)).2)

place_first : (s : List ℕ) → place s 0 ≡ 0
place_first s = rw (places_all s) (first_from s 0 (omega arith))

pub place_end : (s : List ℕ) (i : ℕ) → length (tokens s) ≤ i → place s i ≡ length s
place_end s i h = get_or-eq_default (places s) (length s) (omega (arith, tokens_length s))

-- ---- what is passed over

pub seek_end : (ts : List Token) (i : ℕ) → length ts ≤ i → seek ts i ≡ i
unfolding passed
seek_end ts i h = rw (drop_of_length-le ts h) (omega arith)

-- whether the token at an index is not passed over
abbrev pub adjacent_at : List Token → ℕ → Bool
adjacent_at ts i = is_adjacent_kind (get_or ts i no_token).kind

pub seek_here : (ts : List Token) (i : ℕ) → i < length ts → adjacent_at ts i ≡ true → seek ts i ≡ i
unfolding passed
seek_here ts i h e = rw (drop-cons ts i no_token h) (rw (e, passed) (omega arith))

pub seek_next : (ts : List Token) (i : ℕ) → i < length ts → adjacent_at ts i ≡ false → seek ts i ≡ seek ts (i + 1)
unfolding passed
seek_next ts i h e = rw (drop-cons ts i no_token h) (rw (e, passed) (rw (add-one i) (omega arith)))

-- ---- what stands at an index, and the index behind it

pub peek_in : (ts : List Token) (i : ℕ) → i < length ts → peek ts i ≡ Some (get_or ts i no_token)
unfolding peek
peek_in ts i h = rw (lt-ltb i (length ts) h, peek)

pub peek_end : (ts : List Token) (i : ℕ) → length ts ≤ i → peek ts i ≡ None
unfolding peek
peek_end ts i h = rw (le-ltb i (length ts) h, peek)

pub step_in : (ts : List Token) (i : ℕ) → i < length ts → step ts i ≡ i + 1
unfolding step
step_in ts i h = rw (lt-ltb i (length ts) h, step)

pub step_end : (ts : List Token) (i : ℕ) → length ts ≤ i → step ts i ≡ length ts
unfolding step
step_end ts i h = rw (le-ltb i (length ts) h, step)

-- ---- cursors

pub index_at : (s : List ℕ) (i : ℕ) {c : Cursor} → c ≡ cursor_at s i → i ≡ c.index
index_at s i e = sym (ap (λ (c : Cursor). c.index) e)

pub cursor_is : (s : List ℕ) (c : Cursor) (i : ℕ) → Placed s c → c.index ≡ i → c ≡ cursor_at s i
cursor_is s c i p e = ap (λ (n : ℕ). record { index = c.index; at = n }) p.place_is ∙ ap (cursor_at s) e

pub cursor_eta : (s : List ℕ) (c : Cursor) → Placed s c → c ≡ cursor_at s c.index
cursor_eta s c p = cursor_is s c c.index p refl

pub placed_is : (s : List ℕ) (c : Cursor) (i : ℕ) → Placed s c → c.index ≡ i → (c ≡ cursor_at s i) × Placed s c
placed_is s c i p e = (cursor_is s c i p e, p)

pub placed_first : (s : List ℕ) → token_layout s ≡ None → Placed s (record { index = 0; at = 0 })
placed_first s g = record { layout_good = g; index_within = omega arith; place_is = sym (place_first s) }

-- What stands at a cursor that is not at the list's end, and the cursor behind it.
pub record Stands (s : List ℕ) (c : Cursor) : Type 0 where
  pub within : c.index < length (tokens s)
  pub least : c.index ≤ c.at
  pub token : TokenIs s c.at
  pub token_is_at : get_or (tokens s) c.index no_token ≡ token_at s c.at
  pub behind : Placed s (record { index = c.index + 1; at = next s c.at })

pub stands : (s : List ℕ) (c : Cursor) → Placed s c → c.at < length s → Stands s c
stands s c p h = go (ltb c.index (length (tokens s))) refl
  where
    go : (b : Bool) → ltb c.index (length (tokens s)) ≡ b → Stands s c
    go true b =
        let k = ltb-true c.index (length (tokens s)) b in
        let f = place_each s p.layout_good c.index k in
        record {
          within = k;
          least = omega (arith, place_least s p.layout_good c.index p.index_within, p.place_is);
          token = rw p.place_is f.1;
          token_is_at = rw p.place_is (token_at_place s c.index k);
          behind = record { layout_good = p.layout_good; index_within = omega arith; place_is = rw (add-one c.index, p.place_is) (sym f.2) };
        }
    go false b = absurd (omega (arith, place_end s c.index (ltb-false c.index (length (tokens s)) b), p.place_is))

pub ended : (s : List ℕ) (c : Cursor) → Placed s c → length s ≤ c.at → c.index ≡ length (tokens s)
ended s c p h = go (ltb c.index (length (tokens s))) refl
  where
    go : (b : Bool) → ltb c.index (length (tokens s)) ≡ b → c.index ≡ length (tokens s)
    go true b =
        let f = place_each s p.layout_good c.index (ltb-true c.index (length (tokens s)) b) in
        absurd (omega (arith, p.place_is))
    go false b = omega (arith, ltb-false c.index (length (tokens s)) b, p.index_within)
