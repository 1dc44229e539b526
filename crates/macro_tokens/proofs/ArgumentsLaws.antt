-- Laws of a call's arguments, one token after the other. Assumes nothing.
use Rattle.std.specs.Prelude.{ℕ, ◌+◌, ◌≤◌, ◌<◌, Bool, true, false, ◌||◌, ◌≡◌, refl, length, get_or, take, set, ltb, eqb}
use Rattle.std.proofs.Common.{add-one, arith, sym, ap, subst, ◌∙◌, length-set, take-suc-set, get_or-set_same, get_or-set_other, lt-ltb, le-ltb, ltb-true, ltb-false, eq-eqb, ne_eqb, eqb-true}
use mathlib.Core.List.{List, [], ◌∷◌, ◌++◌, map, map-append, append_assoc, append-nil}
use Rattle.std.proofs.lemmas.Bool.{eqb-false}
use Rattle.record.specs.Records.{kind_at, next}
use Rattle.line_heads.specs.Lines.{is_comment, is_comma, is_new_line}
use Rattle.written_out.specs.Written.{arguments}
use Rattle.written_out.specs.Walk.{line_of}
use Rattle.macro_tokens.specs.declared.Body.{Body}
use Rattle.macro_tokens.specs.declared.Taken.{Taken}
use Rattle.macro_tokens.specs.Places.{token_record, TokenIn, place_of, read_from, ReadableFrom}
use Rattle.macro_tokens.proofs.PlacesLaws.{read_on, read_here, read_end, place_in}
use Rattle.macro_tokens.specs.Arguments.{with_one, with_token, arguments_from, Takes}

-- ---- one token more
module _ (t : Taken) (kind p : ℕ) where
  pub with_comma : kind ≡ 11 → with_token t kind p ≡ t
  unfolding with_token
  with_comma e = rw (eq-eqb kind 11 e, with_token)

  pub with_comment : (kind ≡ 11 → ⊥) → kind ≡ 0 → with_token t kind p ≡ t
  unfolding with_token
  with_comment n e = rw (ne_eqb kind 11 n, with_token) (rw (eq-eqb kind 0 e, with_token))

  pub with_other : (kind ≡ 11 → ⊥) → (kind ≡ 0 → ⊥) → with_token t kind p ≡ with_one t p
  unfolding with_token
  with_other n m = rw (ne_eqb kind 11 n, with_token) (rw (ne_eqb kind 0 m, with_token))

  pub with_stored : (kind ≡ 11 → ⊥) → (kind ≡ 0 → ⊥) → t.count < 8 → with_token t kind p ≡ (record { count = t.count + 1; args = set t.args t.count p })
  with_stored n m h = with_other n m ∙ rw (lt-ltb t.count 8 h)

  pub with_counted : (kind ≡ 11 → ⊥) → (kind ≡ 0 → ⊥) → 8 ≤ t.count → with_token t kind p ≡ (record { count = t.count + 1; args = t.args })
  with_counted n m h = with_other n m ∙ rw (le-ltb t.count 8 h)

-- ---- the arguments of a line from its next token on
module _ (t : List ℕ) (ts : List (List ℕ)) where
  line_stop : is_new_line t ≡ true → arguments (line_of (t ∷ ts)) ≡ []
  unfolding line_of arguments
  line_stop e = rw (e, line_of)

  line_more : is_new_line t ≡ false → arguments (line_of (t ∷ ts)) ≡ arguments (t ∷ line_of ts)
  unfolding line_of
  line_more e = rw (e, line_of)

  line_pass : is_new_line t ≡ false → (is_comma t || is_comment t) ≡ true → arguments (line_of (t ∷ ts)) ≡ arguments (line_of ts)
  unfolding arguments
  line_pass e f = line_more e ∙ rw (f, arguments)

  line_take : is_new_line t ≡ false → (is_comma t || is_comment t) ≡ false → arguments (line_of (t ∷ ts)) ≡ t ∷ arguments (line_of ts)
  unfolding arguments
  line_take e f = line_more e ∙ rw (f, arguments)

-- ---- what a walk has taken
module _ (text macros list : List ℕ) (b : Body) where
  abbrev left : ℕ → List (List ℕ)
  left at = arguments_from text macros list b at

  abbrev records : List ℕ → List (List ℕ)
  records ps = map (token_record text macros) ps

  pub record Took (from at : ℕ) (t : Taken) : Type 0 where
    pub rest : ReadableFrom text macros list b at
    pub eight : length t.args ≡ 8
    pub few : t.count ≤ at
    pub counted : length (left from) ≡ t.count + length (left at)
    pub held : t.count ≤ 8 → left from ≡ records (take t.count t.args) ++ left at
    pub each_in : (i : ℕ) → i < t.count → i < 8 → TokenIn text macros (get_or t.args i 0)

  pub took_first : (from : ℕ) (t : Taken) → ReadableFrom text macros list b from → t.count ≡ 0 → length t.args ≡ 8 → Took from from t
  took_first from t r z e = record {
    rest = r;
    eight = e;
    few = omega arith;
    counted = omega arith;
    held = λ h. sym (ap (λ (n : ℕ). records (take n t.args) ++ left from) z);
    each_in = λ i h k. absurd (omega arith);
  }

  -- Nothing is left: the walk has taken all arguments.
  module _ (from at : ℕ) (t : Taken) (o : Took from at t) where
    takes : left at ≡ [] → Takes text macros t (left from)
    takes e = record {
      eight = o.eight;
      counted = omega (arith, o.counted, ap length e);
      held = λ h. sym (o.held h ∙ ap (λ (x : List (List ℕ)). records (take t.count t.args) ++ x) e ∙ append-nil (records (take t.count t.args)));
      each_in = o.each_in;
    }

    pub took_last : length list ≤ at → Takes text macros t (left from)
    unfolding line_of arguments
    took_last h = takes (ap (λ (ts : List (List ℕ)). arguments (line_of ts)) (read_end text macros list b at h))

    module _ (h : at < length list) (kind : ℕ) (ek : kind ≡ kind_at (token_record text macros (place_of list b at)) 0) where
      abbrev p : ℕ
      p = place_of list b at

      abbrev u : List ℕ
      u = token_record text macros p

      is_kind : (j : ℕ) (x : Bool) → eqb kind j ≡ x → eqb (kind_at u 0) j ≡ x
      is_kind j x e = ap (λ (k : ℕ). eqb k j) (sym ek) ∙ e

      here : left at ≡ arguments (line_of (u ∷ read_from text macros list b (next list at)))
      here = ap (λ (ts : List (List ℕ)). arguments (line_of ts)) (read_here text macros list b at o.rest h)

      pub took_line : kind ≡ 13 → Takes text macros t (left from)
      took_line e = takes (here ∙ line_stop u _ (is_kind 13 true (eq-eqb kind 13 e)))

      on : ReadableFrom text macros list b (next list at)
      on = read_on text macros list b at o.rest h

      module _ (n : kind ≡ 13 → ⊥) where
        no_line : is_new_line u ≡ false
        no_line = is_kind 13 false (ne_eqb kind 13 n)

        passed : (is_comma u || is_comment u) ≡ true → Took from (next list at) t
        passed e =
            let s : left at ≡ left (next list at) = here ∙ line_pass u _ no_line e in
            record {
              rest = on;
              eight = o.eight;
              few = omega (arith, o.few);
              counted = omega (arith, o.counted, ap length s);
              held = λ k. o.held k ∙ ap (λ (x : List (List ℕ)). records (take t.count t.args) ++ x) s;
              each_in = o.each_in;
            }

        taken_is : (is_comma u || is_comment u) ≡ false → left at ≡ u ∷ left (next list at)
        taken_is e = here ∙ line_take u _ no_line e

        stored : (is_comma u || is_comment u) ≡ false → t.count < 8 → Took from (next list at) (record { count = t.count + 1; args = set t.args t.count p })
        stored e k =
            let s = taken_is e in
            record {
              rest = on;
              eight = length-set t.args t.count p ∙ o.eight;
              few = omega (arith, o.few);
              counted = omega (arith, o.counted, ap length s);
              held = λ l. o.held (omega arith) ∙ ap (λ (x : List (List ℕ)). records (take t.count t.args) ++ x) s
                  ∙ sym (append_assoc (records (take t.count t.args)) (u ∷ []) (left (next list at)))
                  ∙ ap (λ (x : List (List ℕ)). x ++ left (next list at)) more;
              each_in = each;
            }
          where
            more : records (take t.count t.args) ++ (u ∷ []) ≡ records (take (t.count + 1) (set t.args t.count p))
            more =
                sym (map-append (token_record text macros) (take t.count t.args) (p ∷ []))
                ∙ ap records (sym (ap (λ (n : ℕ). take n (set t.args t.count p)) (add-one t.count) ∙ take-suc-set t.args t.count p (omega (arith, o.eight))))

            each : (i : ℕ) → i < t.count + 1 → i < 8 → TokenIn text macros (get_or (set t.args t.count p) i 0)
            each i hi he = go (eqb i t.count) refl
              where
                go : (x : Bool) → eqb i t.count ≡ x → TokenIn text macros (get_or (set t.args t.count p) i 0)
                go true e =
                    let q = eqb-true i t.count e in
                    subst (TokenIn text macros) (sym (ap (λ (n : ℕ). get_or (set t.args t.count p) n 0) q ∙ get_or-set_same t.args t.count p 0 (omega (arith, o.eight))))
                    (place_in text macros list b at o.rest h)
                go false e =
                    let q = eqb-false i t.count e in
                    subst (TokenIn text macros) (sym (get_or-set_other t.args t.count i p 0 q)) (o.each_in i (omega arith) he)

        counted_on : (is_comma u || is_comment u) ≡ false → 8 ≤ t.count → Took from (next list at) (record { count = t.count + 1; args = t.args })
        counted_on e k =
            let s = taken_is e in
            record {
              rest = on;
              eight = o.eight;
              few = omega (arith, o.few);
              counted = omega (arith, o.counted, ap length s);
              held = λ l. absurd (omega arith);
              each_in = λ i hi he. o.each_in i (omega arith) he;
            }

        pub took_next : Took from (next list at) (with_token t kind p)
        took_next = go (eqb kind 11) refl (eqb kind 0) refl (ltb t.count 8) refl
          where
            pass : (is_comma u || is_comment u) ≡ true → with_token t kind p ≡ t → Took from (next list at) (with_token t kind p)
            pass e f = subst (Took from (next list at)) (sym f) (passed e)

            go : (x : Bool) → eqb kind 11 ≡ x → (y : Bool) → eqb kind 0 ≡ y → (z : Bool) → ltb t.count 8 ≡ z → Took from (next list at) (with_token t kind p)
            go true ex y ey z ez = pass (rw (is_kind 11 true ex)) (with_comma t kind p (eqb-true kind 11 ex))
            go false ex true ey z ez =
                pass (rw (is_kind 11 false ex) (is_kind 0 true ey)) (with_comment t kind p (eqb-false kind 11 ex) (eqb-true kind 0 ey))
            go false ex false ey true ez =
                let k = ltb-true t.count 8 ez in
                subst (Took from (next list at)) (sym (with_stored t kind p (eqb-false kind 11 ex) (eqb-false kind 0 ey) k))
                (stored (rw (is_kind 11 false ex) (is_kind 0 false ey)) k)
            go false ex false ey false ez =
                let k = ltb-false t.count 8 ez in
                subst (Took from (next list at)) (sym (with_counted t kind p (eqb-false kind 11 ex) (eqb-false kind 0 ey) k))
                (counted_on (rw (is_kind 11 false ex) (is_kind 0 false ey)) k)
