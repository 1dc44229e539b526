-- Laws of calls: a macro's body, and the token list itself, are read as bodies. Assumes nothing.
use Prim.Native.Nat.{ℕ, zero, suc, ◌+◌, ◌-◌, ◌≤◌, ◌<◌}
use native.Mathlib.Omega.{arith}
use mathlib.Core.List.{List, [], ◌∷◌, map, reverse}
use Rattle.std.specs.Prelude.{Bool, ◌&&◌, ◌≡◌, length, take, Err, None, Ok, Result}
use Rattle.std.proofs.Math.Bool.{true, false, and-eq-true_iff}
use Rattle.std.proofs.Math.Path.{refl, sym, ap, ap₂, subst}
use Rattle.std.proofs.Common.{◌∙◌, eqb-true}
use Rattle.std.proofs.Math.Dec.{eqb}
use Rattle.std.proofs.lemmas.Bool.{eqb-false}
use Rattle.record.specs.Bytes.{all}
use Rattle.record.specs.Records.{body_len, kind_at, next, whole, places, first_bad, limit}
use Rattle.record.proofs.RecordsLaws.{places_all, whole_is, limit_good}
use Rattle.record.specs.declared.Location.{Location}
use Rattle.refusal.specs.declared.Refusal.{Refusal}
use Rattle.refusal.specs.declared.Refusal.TheVariants.{WrongArguments, NinthLevel}
use Rattle.lexer.specs.Tokens.{TokenIs, token_layout}
use Rattle.lexer.proofs.TokensLaws.{token_good}
use Rattle.line_heads.specs.Lines.{record_at, records_of, is_parameter}
use Rattle.line_heads.proofs.RecordLaws.{records_from}
use Rattle.macros.specs.Macros.{Macro, name_at, behind_name, name_places, count_of, parameter_places, index_of, macro_of, macro_ok, body_at, macro_at_ok, macro_layout, macros_of, head_of}
use Rattle.macros.proofs.NamesLaws.{names_length}
use Rattle.macros.proofs.KnownLaws.{good_first}
use Rattle.macros.proofs.LayoutLaws.{Parts, parts_of}
use Rattle.written_out.specs.declared.Mode.TheVariants.{Leading}
use Rattle.written_out.specs.Written.{Step, stop, put_in, counted, replaced, written_out}
use Rattle.written_out.specs.Walk.{walk}
use Rattle.written_out.proofs.WalkLaws.{walk_is}
use Rattle.written_out.specs.Above.{macro_at, above}
use Rattle.written_out.proofs.AboveLaws.{above_end}
use Rattle.macro_tokens.specs.declared.Body.{Body}
use Rattle.macro_tokens.specs.declared.Taken.{Taken}
use Rattle.macro_tokens.specs.Places.{token_record, read_from, ReadableFrom}
use Rattle.macro_tokens.proofs.PlacesLaws.{record_text, record_macros, read_is}
use Rattle.macro_tokens.proofs.PartLaws.{length_part, token_part, record_part, records_drop, good_drop}
use Rattle.macro_tokens.specs.Arguments.{Takes}
use Rattle.write_out.specs.Body.{steps_from, Ready}
use Rattle.write_out.specs.Calls.{call_verdict, Opened, CallIs}
use Rattle.refusal.specs.Verdicts.{Verdict}

-- ---- a call by its levels
module _ (l : Location) (m : Macro) (ms : List Macro) (given : List (List ℕ)) where
  abbrev same : Bool
  same = eqb (length given) (length m.parameters)

  replaced_wrong : (levels : ℕ) → same ≡ false → replaced levels l m ms given ≡ stop (WrongArguments l) ∷ []
  unfolding replaced
  replaced_wrong zero e = rw (e, replaced, counted)
  replaced_wrong (suc n) e = rw (e, replaced, counted)

  replaced_ninth : (levels : ℕ) → same ≡ true → levels ≡ 0 → replaced levels l m ms given ≡ stop (NinthLevel l) ∷ []
  unfolding replaced
  replaced_ninth zero e z = rw (e, replaced, counted)
  replaced_ninth (suc n) e z = absurd (omega arith)

  replaced_on : (levels : ℕ) → same ≡ true → 0 < levels → replaced levels l m ms given ≡ walk (replaced (levels - 1)) ms Leading (map (put_in m.parameters given) m.body)
  unfolding replaced
  replaced_on zero e h = absurd (omega arith)
  replaced_on (suc n) e h =
      let z : n ≡ suc n - 1 = omega arith in
      rw (e, replaced, counted) (walk_is (replaced n) ms (map (put_in m.parameters given) m.body))
      ∙ ap (λ (k : ℕ). walk (replaced k) ms Leading (map (put_in m.parameters given) m.body)) z

-- ---- the body of a macro
module _ (text macros : List ℕ) (k : ℕ) (small : length text ≤ limit) (good : macro_layout macros ≡ None) (ok : macro_at_ok macros k ≡ true) where
  abbrev b : List ℕ
  b = body_at macros k

  at_ok : (whole macros k ≡ true) × (macro_ok b ≡ true)
  unfolding macro_at_ok
  at_ok =
      let h = (and-eq-true_iff (whole macros k && eqb (kind_at macros k) 40) (macro_ok b)).0 ok in
      (((and-eq-true_iff (whole macros k) (eqb (kind_at macros k) 40)).0 h.0).0, h.1)

  pub bytes_ok : macro_ok b ≡ true
  bytes_ok = at_ok.1

  pub inside : next macros k ≤ length macros
  inside = (whole_is macros k at_ok.0).1

  fits : k + 4 + body_len macros k ≤ length macros
  fits = inside

  macros_small : length macros ≤ limit
  unfolding macro_layout
  macros_small = (limit_good macros (first_bad (macro_at_ok macros) (places macros)) good).0

  parts : Parts b
  parts = parts_of b bytes_ok

  module _ (t : Taken) (given : List (List ℕ)) (takes : Takes text macros t given) (count : t.count ≡ count_of b) (start_in : (head_of b).body ≤ length b) where
    abbrev pub inner : Body
    inner = record { base = length text + k + 4; start = (head_of b).body; names = (head_of b).names; count = count_of b; args = t.args }

    place_is : (p : ℕ) → length text + k + 4 + p - length text ≡ k + 4 + p
    place_is p = omega arith

    inner_readable : ReadableFrom text macros b inner inner.start
    inner_readable = record {
      readable = record {
        names_ok = parts.names_ok;
        few = parts.few;
        eight = takes.eight;
        low = omega (arith, length_part macros (k + 4) (body_len macros k) fits, macros_small, fits);
      };
      args_in = λ i h. takes.each_in i (omega arith) (omega (arith, parts.few));
      own_in = λ p h is. record {
        in_text = λ l. absurd (omega arith);
        in_macros = λ l. subst (TokenIs macros) (sym (place_is p)) (token_part macros (k + 4) (body_len macros k) fits p is);
      };
      own_is = λ p h is. record_macros text macros (length text + k + 4 + p) (omega arith) ∙ ap (record_at macros) (place_is p) ∙ record_part macros (k + 4) (body_len macros k) fits p is;
      good = good_drop b (head_of b).body start_in parts.tokens_good;
    }

    inner_ready : Ready text macros k b inner
    inner_ready = record { readable = inner_readable; macros_good = good; most_in = omega (arith, inside); text_small = small }

    -- The tokens read are the body with the arguments put in.
    inner_is : read_from text macros b inner inner.start ≡ map (put_in (macro_at macros k).parameters given) (macro_at macros k).body
    unfolding macro_of
    inner_is =
        let held : map (token_record text macros) (take (count_of b) t.args) ≡ given =
        ap (λ (n : ℕ). map (token_record text macros) (take n t.args)) (sym count) ∙ takes.held (omega (arith, parts.few)) in
        read_is text macros b inner inner.start inner_readable
        ∙ ap₂ (λ (g ts : List (List ℕ)). map (put_in (map (name_at b) (parameter_places b)) g) ts) held (records_drop b (head_of b).body start_in)

    parameters_count : length (macro_at macros k).parameters ≡ count_of b
    unfolding macro_of
    parameters_count = names_length b (count_of b) (behind_name b 0 + 1)

-- A call of the macro at k: a refusal, or its body.
abbrev pub called_of : Verdict → Body → Result Body Refusal
called_of (Ok u) b = Ok b
called_of (Err r) b = Err r

module _ (text macros : List ℕ) (levels k : ℕ) (l : Location) (small : length text ≤ limit) (good : macro_layout macros ≡ None) (ok : macro_at_ok macros k ≡ true)
    (t : Taken) (given : List (List ℕ)) (takes : Takes text macros t given) (start_in : (head_of (body_at macros k)).body ≤ length (body_at macros k)) where
  abbrev v : Verdict
  v = call_verdict l t.count (count_of (body_at macros k)) levels

  abbrev steps : List Step
  steps = replaced levels l (macro_at macros k) (above macros k) given

  abbrev body_of : Body
  body_of = record {
    base = length text + k + 4;
    start = (head_of (body_at macros k)).body;
    names = (head_of (body_at macros k)).names;
    count = count_of (body_at macros k);
    args = t.args;
  }

  same_is : eqb (length given) (length (macro_at macros k).parameters) ≡ eqb t.count (count_of (body_at macros k))
  unfolding macro_of
  same_is = ap₂ eqb (sym takes.counted) (names_length (body_at macros k) (count_of (body_at macros k)) (behind_name (body_at macros k) 0 + 1))

  pub call_is : CallIs text macros levels k steps (called_of v body_of)
  call_is = go (eqb t.count (count_of (body_at macros k))) refl (eqb levels 0) refl
    where
      go : (x : Bool) → eqb t.count (count_of (body_at macros k)) ≡ x → (y : Bool) → eqb levels 0 ≡ y → CallIs text macros levels k steps (called_of v body_of)
      go false ex y ey =
          let e : v ≡ Err (WrongArguments l) = rw (ex, call_verdict) in
          let s = replaced_wrong l (macro_at macros k) (above macros k) given levels (same_is ∙ ex) in
          record { stopped = λ r f. let q : r ≡ WrongArguments l = cc in s ∙ ap (λ (x : Refusal). stop x ∷ []) (sym q); opened = λ b f. let z : ◌≡◌ {A = ℕ} 0 1 = cc in absurd (omega arith) }
      go true ex true ey =
          let e : v ≡ Err (NinthLevel l) = rw (ex, call_verdict) (rw (ey, call_verdict)) in
          let s = replaced_ninth l (macro_at macros k) (above macros k) given levels (same_is ∙ ex) (eqb-true levels 0 ey) in
          record { stopped = λ r f. let q : r ≡ NinthLevel l = cc in s ∙ ap (λ (x : Refusal). stop x ∷ []) (sym q); opened = λ b f. let z : ◌≡◌ {A = ℕ} 0 1 = cc in absurd (omega arith) }
      go true ex false ey =
          let e : v ≡ (Ok tt) = rw (ex, call_verdict) (rw (ey, call_verdict)) in
          let n = eqb-true t.count (count_of (body_at macros k)) ex in
          let p : 0 < levels = positive (eqb-false levels 0 ey) in
          record {
            stopped = λ r f. let z : ◌≡◌ {A = ℕ} 0 1 = cc in absurd (omega arith);
            opened = λ b f.
                let q : body_of ≡ b = cc in
                subst (Opened text macros levels k steps) q
                (record {
                  level = p;
                  ready = inner_ready text macros k small good ok t given takes n start_in;
                  is = replaced_on l (macro_at macros k) (above macros k) given levels (same_is ∙ ex) p
                      ∙ sym (ap (walk (replaced (levels - 1)) (above macros k) Leading) (inner_is text macros k small good ok t given takes n start_in));
                });
          }
        where
          positive : (levels ≡ 0 → ⊥) → 0 < levels
          positive h = omega arith

-- ---- the token list itself: a body without parameters, which may call all macros
module _ (text macros : List ℕ) (args : List ℕ) (eight : length args ≡ 8) (text_good : token_layout text ≡ None) (good : macro_layout macros ≡ None) where
  abbrev pub outer : Body
  outer = record { base = 0; start = 0; names = 0; count = 0; args = args }

  from_zero : (p : ℕ) → p ≡ 0 + p
  from_zero p = omega arith

  outer_readable : ReadableFrom text macros text outer 0
  unfolding all name_places
  outer_readable = record {
    readable = record { names_ok = refl; few = omega arith; eight = eight; low = omega (arith, (token_good text text_good).0) };
    args_in = λ i h. absurd (omega arith);
    own_in = λ p h is. record { in_text = λ l. subst (TokenIs text) (from_zero p) is; in_macros = λ l. absurd (omega arith) };
    own_is = λ p h is. sym (ap (token_record text macros) (from_zero p)) ∙ record_text text macros p h;
    good = good_first text text_good;
  }

  pub outer_ready : Ready text macros (length macros) text outer
  outer_ready = record { readable = outer_readable; macros_good = good; most_in = omega arith; text_small = (token_good text text_good).0 }

  none_put : (t : List ℕ) → put_in [] [] t ≡ t
  unfolding index_of
  none_put t = go (is_parameter t) refl
    where
      go : (x : Bool) → is_parameter t ≡ x → put_in [] [] t ≡ t
      go true e = rw (e, put_in)
      go false e = rw (e, put_in)

  none_all : (ts : List (List ℕ)) → map (put_in [] []) ts ≡ ts
  none_all [] = refl
  none_all (t ∷ ts) = ap₂ (λ (x : List ℕ) (xs : List (List ℕ)). x ∷ xs) (none_put t) (none_all ts)

  outer_tokens : read_from text macros text outer 0 ≡ records_of text
  unfolding name_places records_of
  outer_tokens = read_is text macros text outer 0 outer_readable ∙ none_all (records_from text 0) ∙ sym (ap (map (record_at text)) (places_all text))

  pub outer_is : steps_from text macros (length macros) 8 text outer Leading 0 ≡ written_out text macros
  unfolding written_out
  outer_is =
      ap₂ (λ (ms : List Macro) (ts : List (List ℕ)). walk (replaced 8) ms Leading ts) (above_end macros) outer_tokens
      ∙ sym (walk_is (replaced 8) (reverse (macros_of macros)) (records_of text))
