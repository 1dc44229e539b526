-- Writing out token by token is writing out line by line. Assumes nothing.
use Rattle.std.specs.Prelude.{ℕ, suc, Bool, ◌&&◌, ◌≡◌, drop, eqb}
use mathlib.Core.List.{List, [], ◌∷◌, ◌++◌, map, append_assoc}
use Rattle.std.proofs.Math.Bool.{true, false}
use Rattle.std.proofs.lemmas.Bool.{false≢true}
use Rattle.std.proofs.Math.Path.{refl, sym, ap}
use Rattle.std.proofs.Common.{◌∙◌, eqb-true, ne_eqb, arith}
use Rattle.record.specs.Bytes.{location_at}
use Rattle.record.specs.Records.{kind_at}
use Rattle.lexer.specs.Tokens.{text_of}
use Rattle.line_heads.specs.Lines.{Line, is_comment, is_symbol, is_colon, is_new_line, starts_colon, before, lines, leads_from, leads}
use Rattle.macros.specs.Macros.{Macro}
use Rattle.written_out.specs.declared.Mode.TheVariants.{Leading, Labelled, Copied, LeftOut}
use Rattle.written_out.specs.Written.{Step, write, Called, no_macro, macro, Replacing, arguments, called, replaced_by_name, from_head, line_steps, lines_steps}
use Rattle.written_out.specs.Walk.{line_of, walk_call, walk}

other : (t : List ℕ) (j k : ℕ) → eqb (kind_at t 0) j ≡ true → (j ≡ k → ⊥) → eqb (kind_at t 0) k ≡ false
other t j k e n = let h = eqb-true (kind_at t 0) j e in ne_eqb (kind_at t 0) k (λ f. n (sym h ∙ f))

lines_new : (t : List ℕ) (ts : List (List ℕ)) → is_new_line t ≡ true → lines (t ∷ ts) ≡ record { tokens = []; end = t ∷ [] } ∷ lines ts
unfolding lines
lines_new t ts e = rw (e, lines)

lines_more : (t : List ℕ) (ts : List (List ℕ)) → is_new_line t ≡ false → lines (t ∷ ts) ≡ before t (lines ts)
unfolding lines
lines_more t ts e = rw (e, lines)

abbrev tokens_of : List Line → List (List ℕ)
tokens_of [] = []
tokens_of (l ∷ ls) = l.tokens

tokens_before : (t : List ℕ) (ls : List Line) → tokens_of (before t ls) ≡ t ∷ tokens_of ls
tokens_before t [] = refl
tokens_before t (l ∷ ls) = refl

line_is : (ts : List (List ℕ)) → tokens_of (lines ts) ≡ line_of ts
unfolding lines line_of
line_is [] = refl
line_is (t ∷ ts) = go (is_new_line t) refl (line_is ts)
  where
    go : (b : Bool) → is_new_line t ≡ b → tokens_of (lines ts) ≡ line_of ts → tokens_of (lines (t ∷ ts)) ≡ line_of (t ∷ ts)
    go true e ih = rw (e, lines, line_of)
    go false e ih = ap tokens_of (lines_more t ts e) ∙ tokens_before t (lines ts) ∙ ap (λ (l : List (List ℕ)). t ∷ l) ih ∙ sym (rw (e, line_of))

colon_is : (ts : List (List ℕ)) → starts_colon (line_of ts) ≡ starts_colon ts
unfolding line_of
colon_is [] = refl
colon_is (t ∷ ts) = go (is_new_line t) refl
  where
    go : (b : Bool) → is_new_line t ≡ b → starts_colon (line_of (t ∷ ts)) ≡ is_colon t
    go true e = rw (e, line_of) (sym (other t 13 12 e (λ f. omega arith)))
    go false e = rw (e, line_of)

leads_comment : (t : List ℕ) (ts : List (List ℕ)) → is_comment t ≡ true → leads (t ∷ ts) ≡ suc (leads ts)
unfolding leads leads_from
leads_comment t ts e = rw (e, leads_from)

leads_label : (t c : List ℕ) (ts : List (List ℕ)) → is_comment t ≡ false → is_symbol t ≡ true → is_colon c ≡ true → leads (t ∷ c ∷ ts) ≡ suc (suc (leads ts))
unfolding leads leads_from
leads_label t c ts e f g = rw (e, leads_from) (rw (f, leads_from) (rw (g, leads_from)))

leads_none : (t : List ℕ) (ts : List (List ℕ)) → is_comment t ≡ false → (is_symbol t && starts_colon ts) ≡ false → leads (t ∷ ts) ≡ 0
unfolding leads leads_from
leads_none t ts e f = rw (e, leads_from) (rw (f, leads_from))

-- ---- the same as line by line
module _ (replace : Replacing) (macros : List Macro) where
  abbrev steps : List Line → List Step
  steps ls = lines_steps replace macros ls

  -- The rest of the first line: behind a call, or behind a head that calls nothing.
  abbrev left_steps : List Line → List Step
  left_steps [] = []
  left_steps (l ∷ ls) = map write l.end ++ steps ls

  abbrev copy_steps : List Line → List Step
  copy_steps ls = map write (tokens_of ls) ++ left_steps ls

  left_before : (t : List ℕ) (ls : List Line) → left_steps (before t ls) ≡ left_steps ls
  unfolding lines_steps
  left_before t [] = refl
  left_before t (l ∷ ls) = refl

  copy_before : (t : List ℕ) (ls : List Line) → copy_steps (before t ls) ≡ write t ∷ copy_steps ls
  unfolding lines_steps
  copy_before t [] = refl
  copy_before t (l ∷ ls) = refl

  comment_before : (t : List ℕ) (ls : List Line) → is_comment t ≡ true → steps (before t ls) ≡ write t ∷ steps ls
  unfolding lines_steps line_steps leads leads_from
  comment_before t [] e = rw (leads_comment t [] e)
  comment_before t (l ∷ ls) e = rw (leads_comment t l.tokens e)

  label_before : (t c : List ℕ) (ls : List Line) → is_comment t ≡ false → is_symbol t ≡ true → is_colon c ≡ true
      → steps (before t (before c ls)) ≡ write t ∷ write c ∷ steps ls
  unfolding lines_steps line_steps leads leads_from
  label_before t c [] e f g = rw (leads_label t c [] e f g)
  label_before t c (l ∷ ls) e f g = rw (leads_label t c l.tokens e f g)

  plain_before : (t : List ℕ) (ls : List Line) → leads (t ∷ tokens_of ls) ≡ 0 → steps (before t ls) ≡ from_head replace macros (t ∷ tokens_of ls) ++ left_steps ls
  unfolding lines_steps line_steps
  plain_before t [] e = rw e (append_assoc (from_head replace macros (t ∷ [])) [] [])
  plain_before t (l ∷ ls) e = rw e (append_assoc (from_head replace macros (t ∷ l.tokens)) (map write l.end) (steps ls))

  new_line : (t : List ℕ) (ls : List Line) → steps (record { tokens = []; end = t ∷ [] } ∷ ls) ≡ write t ∷ steps ls
  unfolding lines_steps line_steps leads leads_from
  new_line t ls = refl

  pub record Is (ts : List (List ℕ)) : Type 0 where
    pub head_is : steps (lines ts) ≡ walk replace macros Leading ts
    pub behind_is : steps (lines (drop 1 ts)) ≡ walk replace macros Leading (drop 1 ts)
    pub copy_is : copy_steps (lines ts) ≡ walk replace macros Copied ts
    pub left_is : left_steps (lines ts) ≡ walk replace macros LeftOut ts

  none_is : Is []
  unfolding lines walk lines_steps line_steps leads leads_from
  none_is = record { head_is = refl; behind_is = refl; copy_is = refl; left_is = refl }

  -- ---- each way to go on
  module _ (t : List ℕ) (ts : List (List ℕ)) (ih : Is ts) where
    abbrev now_is : Type 0
    now_is = steps (lines (t ∷ ts)) ≡ walk replace macros Leading (t ∷ ts)

    by_new : is_new_line t ≡ true → Is (t ∷ ts)
    unfolding walk lines_steps line_steps leads leads_from
    by_new e =
        let n = lines_new t ts e in
        record {
          head_is = ap steps n ∙ ap (λ (x : List Step). write t ∷ x) ih.head_is ∙ sym (rw (e, walk));
          behind_is = ih.head_is;
          copy_is = ap copy_steps n ∙ ap (λ (x : List Step). write t ∷ x) ih.head_is ∙ sym (rw e);
          left_is = ap left_steps n ∙ ap (λ (x : List Step). write t ∷ x) ih.head_is ∙ sym (rw (e, walk));
        }

    by_comment : is_new_line t ≡ false → is_comment t ≡ true → now_is
    unfolding walk
    by_comment e f =
        ap steps (lines_more t ts e) ∙ comment_before t (lines ts) f ∙ ap (λ (x : List Step). write t ∷ x) ih.head_is ∙ sym (rw (e, walk) (rw (f, walk)))

    plain : is_new_line t ≡ false → is_comment t ≡ false → (is_symbol t && starts_colon ts) ≡ false
        → steps (lines (t ∷ ts)) ≡ from_head replace macros (t ∷ line_of ts) ++ left_steps (lines ts)
    plain e f g =
        let l = line_is ts in
        let c : (is_symbol t && starts_colon (tokens_of (lines ts))) ≡ false = ap (λ (x : Bool). is_symbol t && x) (ap starts_colon l ∙ colon_is ts) ∙ g in
        ap steps (lines_more t ts e) ∙ plain_before t (lines ts) (leads_none t (tokens_of (lines ts)) f c)
        ∙ ap (λ (x : List (List ℕ)). from_head replace macros (t ∷ x) ++ left_steps (lines ts)) l

    copy_all : map write (line_of ts) ++ left_steps (lines ts) ≡ walk replace macros Copied ts
    copy_all = ap (λ (x : List (List ℕ)). map write x ++ left_steps (lines ts)) (sym (line_is ts)) ∙ ih.copy_is

    by_other : is_new_line t ≡ false → is_comment t ≡ false → is_symbol t ≡ false → now_is
    unfolding walk
    by_other e f g =
        let p : (is_symbol t && starts_colon ts) ≡ false = rw g in
        let h : from_head replace macros (t ∷ line_of ts) ≡ map write (t ∷ line_of ts) = rw (g, from_head) in
        plain e f p ∙ ap (λ (x : List Step). x ++ left_steps (lines ts)) h ∙ ap (λ (x : List Step). write t ∷ x) copy_all
        ∙ sym (rw (e, walk) (rw (f, walk) (rw (g, walk))))

    called_is : (k : Called) → replaced_by_name replace k t (line_of ts) ++ left_steps (lines ts)
        ≡ walk_call replace macros k t (line_of ts) (walk replace macros Copied ts) (walk replace macros LeftOut ts)
    called_is no_macro = ap (λ (x : List Step). write t ∷ x) copy_all
    called_is (macro m above) = ap (λ (x : List Step). replace (location_at t 4) m above (arguments (line_of ts)) ++ x) ih.left_is

    by_call : is_new_line t ≡ false → is_comment t ≡ false → is_symbol t ≡ true → starts_colon ts ≡ false → now_is
    unfolding walk
    by_call e f g s =
        let p : (is_symbol t && starts_colon ts) ≡ false = rw g s in
        let h : from_head replace macros (t ∷ line_of ts) ≡ replaced_by_name replace (called (text_of t 0) macros) t (line_of ts) = rw (g, from_head) in
        plain e f p ∙ ap (λ (x : List Step). x ++ left_steps (lines ts)) h ∙ called_is (called (text_of t 0) macros)
        ∙ sym (rw (e, walk) (rw (f, walk) (rw (g, walk) (rw (s, walk)))))

  walk_labelled : (t c : List ℕ) (ts : List (List ℕ)) → write t ∷ write c ∷ walk replace macros Leading ts ≡ write t ∷ walk replace macros Labelled (c ∷ ts)
  unfolding walk
  walk_labelled t c ts = refl

  label_is : (t : List ℕ) (ts : List (List ℕ)) → Is ts → is_new_line t ≡ false → is_comment t ≡ false → is_symbol t ≡ true → starts_colon ts ≡ true
      → steps (lines (t ∷ ts)) ≡ write t ∷ walk replace macros Labelled ts
  label_is t [] ih e f g s = absurd (false≢true s)
  label_is t (c ∷ ts) ih e f g s =
      let n = other c 12 13 s (λ h. omega arith) in
      ap steps (lines_more t (c ∷ ts) e ∙ ap (before t) (lines_more c ts n)) ∙ label_before t c (lines ts) f g s ∙ ap (λ (x : List Step). write t ∷ write c ∷ x) ih.behind_is ∙ walk_labelled t c ts

  by_label : (t : List ℕ) (ts : List (List ℕ)) → Is ts → is_new_line t ≡ false → is_comment t ≡ false → is_symbol t ≡ true → starts_colon ts ≡ true
      → steps (lines (t ∷ ts)) ≡ walk replace macros Leading (t ∷ ts)
  unfolding walk
  by_label t ts ih e f g s = label_is t ts ih e f g s ∙ sym (rw (e, walk) (rw (f, walk) (rw (g, walk) (rw (s, walk)))))

  by_more : (t : List ℕ) (ts : List (List ℕ)) → Is ts → is_new_line t ≡ false → steps (lines (t ∷ ts)) ≡ walk replace macros Leading (t ∷ ts) → Is (t ∷ ts)
  unfolding walk
  by_more t ts ih e h =
      let n = lines_more t ts e in
      record {
        head_is = h;
        behind_is = ih.head_is;
        copy_is = ap copy_steps n ∙ copy_before t (lines ts) ∙ ap (λ (x : List Step). write t ∷ x) ih.copy_is ∙ sym (rw e);
        left_is = ap left_steps n ∙ left_before t (lines ts) ∙ ih.left_is ∙ sym (rw (e, walk));
      }

  all_is : (ts : List (List ℕ)) → Is ts
  all_is [] = none_is
  all_is (t ∷ ts) = go (is_new_line t) refl (is_comment t) refl (is_symbol t) refl (starts_colon ts) refl (all_is ts)
    where
      go : (n : Bool) → is_new_line t ≡ n → (c : Bool) → is_comment t ≡ c → (s : Bool) → is_symbol t ≡ s → (l : Bool) → starts_colon ts ≡ l → Is ts → Is (t ∷ ts)
      go true en c ec s es l el ih = by_new t ts ih en
      go false en true ec s es l el ih = by_more t ts ih en (by_comment t ts ih en ec)
      go false en false ec false es l el ih = by_more t ts ih en (by_other t ts ih en ec es)
      go false en false ec true es true el ih = by_more t ts ih en (by_label t ts ih en ec es el)
      go false en false ec true es false el ih = by_more t ts ih en (by_call t ts ih en ec es el)

  -- Writing line by line is writing token by token.
  pub walk_is : (ts : List (List ℕ)) → lines_steps replace macros (lines ts) ≡ walk replace macros Leading ts
  walk_is ts = (all_is ts).head_is
