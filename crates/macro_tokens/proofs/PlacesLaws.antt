-- Laws of tokens by their places. Assumes nothing.
use Rattle.std.specs.Prelude.{ℕ, zero, suc, ◌+◌, ◌-◌, ◌≤◌, ◌<◌, List, [], ◌∷◌, map, Bool, true, false, ◌≡◌, refl, length, get_or, take, drop, ltb, eqb}
use Rattle.std.proofs.Common.{arith, sym, ap₂, subst, ◌∙◌, length-take-le, get_or-take, lt-ltb, le-ltb, ltb-true, ltb-false, eq-eqb, ne_eqb, eqb-true}
use Rattle.std.proofs.Math.Path.{ap}
use Rattle.std.proofs.Math.ListN.{get_or-eq_default}
use Rattle.std.proofs.lemmas.Bool.{eqb-false}
use Rattle.record.specs.Records.{body_len, kind_at, next}
use Rattle.record.proofs.RecordsLaws.{good_ok, good_next, places_step, places_end}
use Rattle.lexer.specs.Tokens.{payload_len, text_of, token_ok, TokenIs}
use Rattle.lexer.proofs.TokensLaws.{token_is}
use Rattle.line_heads.specs.Lines.{record_at, is_parameter}
use Rattle.line_heads.proofs.RecordLaws.{body_in, kind_in, location_in, text_in, length_in, records_from, records_end, records_step}
use Rattle.macros.specs.Macros.{index_of}
use Rattle.written_out.specs.Written.{put_in}
use Rattle.macro_tokens.specs.declared.Body.{Body}
use Rattle.macro_tokens.specs.Places.{token_record, TokenIn, parameters_in, number_at, place_of, read_from, ReadableFrom}
use Rattle.record.specs.Bytes.{location_at}

-- ---- what is read at a place of either list
module _ (text macros : List ℕ) (p : ℕ) where
  pub record_text : p < length text → token_record text macros p ≡ record_at text p
  unfolding token_record
  record_text h = rw (lt-ltb p (length text) h, token_record)

  pub record_macros : length text ≤ p → token_record text macros p ≡ record_at macros (p - length text)
  unfolding token_record
  record_macros h = rw (le-ltb p (length text) h, token_record)

  module _ (is : TokenIn text macros p) where
    abbrev t : List ℕ
    t = token_record text macros p

    pub kind_text : p < length text → kind_at t 0 ≡ kind_at text p
    kind_text h = ap (λ (r : List ℕ). kind_at r 0) (record_text h) ∙ kind_in text p (is.in_text h)

    pub kind_macros : length text ≤ p → kind_at t 0 ≡ kind_at macros (p - length text)
    kind_macros h = ap (λ (r : List ℕ). kind_at r 0) (record_macros h) ∙ kind_in macros (p - length text) (is.in_macros h)

    pub size_text : p < length text → length t ≡ 4 + body_len text p
    size_text h = ap length (record_text h) ∙ length_in text p (is.in_text h)

    pub size_macros : length text ≤ p → length t ≡ 4 + body_len macros (p - length text)
    size_macros h = ap length (record_macros h) ∙ length_in macros (p - length text) (is.in_macros h)

    pub location_text : p < length text → location_at t 4 ≡ location_at text (p + 4)
    location_text h = ap (λ (r : List ℕ). location_at r 4) (record_text h) ∙ location_in text p (is.in_text h)

    pub location_macros : length text ≤ p → location_at t 4 ≡ location_at macros (p - length text + 4)
    location_macros h = ap (λ (r : List ℕ). location_at r 4) (record_macros h) ∙ location_in macros (p - length text) (is.in_macros h)

    pub text_text : p < length text → text_of t 0 ≡ text_of text p
    text_text h = ap (λ (r : List ℕ). text_of r 0) (record_text h) ∙ text_in text p (is.in_text h)

    pub text_macros : length text ≤ p → text_of t 0 ≡ text_of macros (p - length text)
    text_macros h = ap (λ (r : List ℕ). text_of r 0) (record_macros h) ∙ text_in macros (p - length text) (is.in_macros h)

    pub record_long : 12 ≤ length t
    record_long = go (ltb p (length text)) refl
      where
        go : (b : Bool) → ltb p (length text) ≡ b → 12 ≤ length t
        go true e = let h = ltb-true p (length text) e in omega (arith, size_text h, (is.in_text h).least)
        go false e = let h = ltb-false p (length text) e in omega (arith, size_macros h, (is.in_macros h).least)

    -- The bytes behind the record's head and location are its text.
    pub text_behind : take (length t - 12) (drop 12 t) ≡ text_of t 0
    text_behind = go (ltb p (length text)) refl
      where
        behind : length t ≡ 4 + body_len t 0 → take (length t - 12) (drop 12 t) ≡ text_of t 0
        behind e = let n : length t - 12 ≡ payload_len t 0 = omega (arith, e) in ap (λ (k : ℕ). take k (drop 12 t)) n

        go : (b : Bool) → ltb p (length text) ≡ b → take (length t - 12) (drop 12 t) ≡ text_of t 0
        go true e =
            let h = ltb-true p (length text) e in
            behind (size_text h ∙ ap (λ (n : ℕ). 4 + n) (sym (ap (λ (r : List ℕ). body_len r 0) (record_text h) ∙ body_in text p (is.in_text h))))
        go false e =
            let h = ltb-false p (length text) e in
            behind (size_macros h ∙ ap (λ (n : ℕ). 4 + n) (sym (ap (λ (r : List ℕ). body_len r 0) (record_macros h) ∙ body_in macros (p - length text) (is.in_macros h))))

-- ---- the place of a body's token
module _ (list : List ℕ) (b : Body) (at : ℕ) where
  pub place_own : (kind_at list at ≡ 2 → ⊥) → place_of list b at ≡ b.base + at
  unfolding place_of
  place_own h = rw (ne_eqb (kind_at list at) 2 h, place_of)

  pub place_argument : kind_at list at ≡ 2 → number_at list b at < b.count → place_of list b at ≡ get_or b.args (number_at list b at) 0
  unfolding place_of
  place_argument e h = rw (eq-eqb (kind_at list at) 2 e, place_of) (rw (lt-ltb (number_at list b at) b.count h, place_of))

  pub place_past : kind_at list at ≡ 2 → b.count ≤ number_at list b at → place_of list b at ≡ b.base + at
  unfolding place_of
  place_past e h = rw (eq-eqb (kind_at list at) 2 e, place_of) (rw (le-ltb (number_at list b at) b.count h, place_of))

-- ---- the token at a place of a body that is read
get_d_map : {A B : Type 0} (f : A → B) (l : List A) (i : ℕ) (d : A) (e : B) → i < length l → get_or (map f l) i e ≡ f (get_or l i d)
get_d_map f [] i d e h = absurd (omega arith)
get_d_map f (x ∷ l) zero d e h = refl
get_d_map f (x ∷ l) (suc i) d e h = get_d_map f l i d e (omega arith)

module _ (text macros list : List ℕ) (b : Body) where
  -- the records of the arguments
  abbrev pub arguments_of : List (List ℕ)
  arguments_of = map (token_record text macros) (take b.count b.args)

  abbrev pub read : ℕ → List (List ℕ)
  read at = read_from text macros list b at

  pub read_end : (at : ℕ) → length list ≤ at → read at ≡ []
  unfolding read_from
  read_end at h = ap (map (λ (p : ℕ). token_record text macros (place_of list b p))) (places_end list at h)

  module _ (at : ℕ) (r : ReadableFrom text macros list b at) (h : at < length list) where
    pub token : TokenIs list at
    token = token_is list at (good_ok (token_ok list) list at h r.good)

    pub read_on : ReadableFrom text macros list b (next list at)
    read_on = record {
      readable = r.readable;
      args_in = r.args_in;
      own_in = r.own_in;
      own_is = r.own_is;
      good = good_next (token_ok list) list at h token.whole_at r.good;
    }

    pub read_here : read at ≡ token_record text macros (place_of list b at) ∷ read (next list at)
    unfolding read_from
    read_here = ap (map (λ (p : ℕ). token_record text macros (place_of list b p))) (places_step list at h token.whole_at)

    abbrev n : ℕ
    n = number_at list b at

    pub place_in : TokenIn text macros (place_of list b at)
    place_in = go (eqb (kind_at list at) 2) refl (ltb n b.count) refl
      where
        go : (k : Bool) → eqb (kind_at list at) 2 ≡ k → (i : Bool) → ltb n b.count ≡ i → TokenIn text macros (place_of list b at)
        go false ek i ei = subst (TokenIn text macros) (sym (place_own list b at (eqb-false (kind_at list at) 2 ek))) (r.own_in at h token)
        go true ek true ei =
            let l = ltb-true n b.count ei in
            subst (TokenIn text macros) (sym (place_argument list b at (eqb-true (kind_at list at) 2 ek) l)) (r.args_in n l)
        go true ek false ei =
            subst (TokenIn text macros) (sym (place_past list b at (eqb-true (kind_at list at) 2 ek) (ltb-false n b.count ei))) (r.own_in at h token)

    given_length : length arguments_of ≡ b.count
    given_length = lengths (token_record text macros) (take b.count b.args) ∙ length-take-le b.count b.args (omega (arith, r.readable.few, r.readable.eight))
      where
        lengths : {A B : Type 0} (f : A → B) (l : List A) → length (map f l) ≡ length l
        lengths f [] = refl
        lengths f (x ∷ l) = ap suc (lengths f l)

    -- The record written is the body's own record with the arguments put in.
    put_is : token_record text macros (place_of list b at) ≡ put_in (parameters_in list b) arguments_of (record_at list at)
    put_is = go (eqb (kind_at list at) 2) refl (ltb n b.count) refl
      where
        u : List ℕ
        u = record_at list at

        asked : (k : Bool) → eqb (kind_at list at) 2 ≡ k → is_parameter u ≡ k
        asked k e = ap (λ (j : ℕ). eqb j 2) (kind_in list at token) ∙ e

        number : index_of (text_of u 0) (parameters_in list b) ≡ n
        number = ap (λ (x : List ℕ). index_of x (parameters_in list b)) (text_in list at token)

        go : (k : Bool) → eqb (kind_at list at) 2 ≡ k → (i : Bool) → ltb n b.count ≡ i
            → token_record text macros (place_of list b at) ≡ put_in (parameters_in list b) arguments_of (record_at list at)
        go false ek i ei =
            ap (token_record text macros) (place_own list b at (eqb-false (kind_at list at) 2 ek)) ∙ r.own_is at h token ∙ sym (rw (asked false ek, put_in))
        go true ek true ei =
            let l = ltb-true n b.count ei in
            let few : n < length (take b.count b.args) = omega (arith, length-take-le b.count b.args (omega (arith, r.readable.few, r.readable.eight))) in
            ap (token_record text macros) (place_argument list b at (eqb-true (kind_at list at) 2 ek) l ∙ sym (get_or-take b.count b.args n 0 l))
            ∙ sym (get_d_map (token_record text macros) (take b.count b.args) n 0 u few)
            ∙ sym (rw (asked true ek, put_in) (ap (λ (j : ℕ). get_or arguments_of j u) number))
        go true ek false ei =
            let l = ltb-false n b.count ei in
            ap (token_record text macros) (place_past list b at (eqb-true (kind_at list at) 2 ek) l) ∙ r.own_is at h token
            ∙ sym (get_or-eq_default arguments_of u {n = n} (omega (arith, given_length)))
            ∙ sym (rw (asked true ek, put_in) (ap (λ (j : ℕ). get_or arguments_of j u) number))

  -- A body's tokens are its records with the arguments put in.
  ended : (at : ℕ) → length list ≤ at → read at ≡ map (put_in (parameters_in list b) arguments_of) (records_from list at)
  ended at h = read_end at h ∙ sym (ap (map (put_in (parameters_in list b) arguments_of)) (records_end list at h))

  from : (m at : ℕ) → length list ≤ at + m → ReadableFrom text macros list b at → read at ≡ map (put_in (parameters_in list b) arguments_of) (records_from list at)
  from zero at l r = ended at (omega arith)
  from (suc m) at l r = go (ltb at (length list)) refl (λ h. from m (next list at) (omega arith) (read_on at r h))
    where
      go : (t : Bool) → ltb at (length list) ≡ t → (at < length list → read (next list at) ≡ map (put_in (parameters_in list b) arguments_of) (records_from list (next list at)))
          → read at ≡ map (put_in (parameters_in list b) arguments_of) (records_from list at)
      go false e ih = ended at (ltb-false at (length list) e)
      go true e ih =
          let h = ltb-true at (length list) e in
          read_here at r h ∙ ap₂ (λ (x : List ℕ) (xs : List (List ℕ)). x ∷ xs) (put_is at r h) (ih h)
          ∙ sym (ap (map (put_in (parameters_in list b) arguments_of)) (records_step list at h (token at r h)))

  pub read_is : (at : ℕ) → ReadableFrom text macros list b at → read at ≡ map (put_in (parameters_in list b) arguments_of) (records_from list at)
  read_is at r = from (length list) at (omega arith) r
