-- "to 8 levels": where a list is written out, its calls are nested at most eight deep. Assumes nothing.
use Rattle.std.specs.Prelude.{ℕ, zero, suc, ◌+◌, ◌≤◌, Bool, true, false, ◌≡◌, refl, length, take, drop, leb, eqb, Err, Ok}
use Rattle.std.proofs.Common.{arith, sym, ap, ◌∙◌}
use mathlib.Core.List.Memᴰ
use mathlib.Core.List.{List, [], ◌∷◌, ◌++◌, map, reverse, Memᴰ}
use Rattle.std.proofs.Math.Logic.{⊎_elim}
use Rattle.std.proofs.Math.Path.{subst}
use Rattle.record.specs.Bytes.{location_at}
use Rattle.record.specs.declared.Location.{Location}
use Rattle.refusal.specs.declared.Refusal.TheVariants.{WrongArguments, NoWrittenSpace}
use Rattle.lexer.specs.Tokens.{text_of}
use Rattle.line_heads.specs.Lines.{Line, is_symbol, lines, leads, records_of}
use Rattle.macros.specs.Macros.{Macro, macros_of}
use Rattle.written_out.specs.Written.{Step, write, stop, macro, Replacing, arguments, put_in, called, replaced_by_name, from_head, counted, line_steps, lines_steps, replaced, written_out}
use Rattle.written_out.specs.Outcome.{answer_from, write_out_outcome}
use Rattle.written_out.proofs.KeepsLayout.{accepted}

-- A line of the tokens calls this macro with these arguments; `above` are the macros above it.
pub record Calls (ts : List (List ℕ)) (macros : List Macro) (m : Macro) (above : List Macro) (given : List (List ℕ)) : Type 0 where
  pub line : Line
  pub listed : Memᴰ line (lines ts)
  pub name : List ℕ
  pub rest : List (List ℕ)
  pub head : drop (leads line.tokens) line.tokens ≡ name ∷ rest
  pub symbol : is_symbol name ≡ true
  pub is : called (text_of name 0) macros ≡ macro m above
  pub given_is : arguments rest ≡ given

-- Nested calls: in the tokens, in the body that replaces such a call, and so on. The number counts the levels.
pub data Deep : (ts : List (List ℕ)) → (macros : List Macro) → ℕ → Type 0 where
  flat : {ts : List (List ℕ)} {macros : List Macro} → Deep ts macros zero
  deeper : {ts : List (List ℕ)} {macros : List Macro} {m : Macro} {above : List Macro} {given : List (List ℕ)} {n : ℕ} → Calls ts macros m above given
      → Deep (map (put_in m.parameters given) m.body) above n → Deep ts macros (suc n)

-- ---- nothing is refused
abbrev NoStop : List Step → Type 0
NoStop [] = Unit {0}
NoStop (write t ∷ steps) = NoStop steps
NoStop (stop r ∷ steps) = ⊥

no_stop_both : (x y : List Step) → NoStop (x ++ y) → NoStop x × NoStop y
no_stop_both [] y h = (tt, h)
no_stop_both (write t ∷ x) y h = no_stop_both x y h
no_stop_both (stop r ∷ x) y h = (h, absurd h)

no_stop_answer : (room fill f : ℕ) (steps : List Step) → answer_from room fill steps ≡ Ok f → NoStop steps
unfolding answer_from
no_stop_answer room fill f [] e = tt
no_stop_answer room fill f (stop r ∷ steps) e = let z : ◌≡◌ {A = ℕ} 0 1 = cc in absurd (omega arith)
no_stop_answer room fill f (write t ∷ steps) e = go (leb (fill + length t) room) refl (no_stop_answer room (fill + length t) f steps)
  where
    go : (b : Bool) → leb (fill + length t) room ≡ b → (answer_from room (fill + length t) steps ≡ Ok f → NoStop steps) → NoStop steps
    go true b ih = ih (sym (rw (b, answer_from)) ∙ e)
    go false b ih =
        let n : answer_from room fill (write t ∷ steps) ≡ Err (NoWrittenSpace (location_at t 4)) = rw (b, answer_from) in
        let z : ◌≡◌ {A = ℕ} 0 1 = cc in
        absurd (omega arith)

module _ (replace : Replacing) (macros : List Macro) where
  -- If a line has no refusal, neither has the replacement of its call.
  in_line : (l : Line) → NoStop (line_steps replace macros l) → (name : List ℕ) (rest : List (List ℕ)) (m : Macro) (above : List Macro)
      → drop (leads l.tokens) l.tokens ≡ name ∷ rest → is_symbol name ≡ true → called (text_of name 0) macros ≡ macro m above
      → NoStop (replace (location_at name 4) m above (arguments rest))
  unfolding line_steps
  in_line l h name rest m above e s c =
      let x = map write (take (leads l.tokens) l.tokens) in
      let y = from_head replace macros (drop (leads l.tokens) l.tokens) in
      let k = (no_stop_both x y (no_stop_both (x ++ y) (map write l.end) h).0).1 in
      subst NoStop (ap (from_head replace macros) e ∙ by_name) k
    where
      by_name : from_head replace macros (name ∷ rest) ≡ replace (location_at name 4) m above (arguments rest)
      by_name = rw (s, from_head) (rw (c, replaced_by_name))

  in_lines : (ls : List Line) (l : Line) → Memᴰ l ls → NoStop (lines_steps replace macros ls) → NoStop (line_steps replace macros l)
  unfolding lines_steps
  in_lines [] l i h = elim i [ ]
  in_lines (k ∷ ls) l i h =
      let b = no_stop_both (line_steps replace macros k) (lines_steps replace macros ls) h in
      ⊎_elim (λ (e : l ≡ k). subst (λ (x : Line). NoStop (line_steps replace macros x)) (sym e) b.0) (λ t. in_lines ls l t b.1) (Memᴰ.cases_cons i)

  of_call : (ts : List (List ℕ)) (m : Macro) (above : List Macro) (given : List (List ℕ)) (c : Calls ts macros m above given)
      → NoStop (lines_steps replace macros (lines ts)) → NoStop (replace (location_at c.name 4) m above given)
  of_call ts m above given c h =
      subst (λ (x : List (List ℕ)). NoStop (replace (location_at c.name 4) m above x)) c.given_is
      (in_line c.line (in_lines (lines ts) c.line c.listed h) c.name c.rest m above c.head c.symbol c.is)

counted_on : (l : Location) (m : Macro) (given : List (List ℕ)) (steps : List Step) → NoStop (counted l m given steps) → NoStop steps
counted_on l m given steps h = go (eqb (length given) (length m.parameters)) refl
  where
    go : (b : Bool) → eqb (length given) (length m.parameters) ≡ b → NoStop steps
    go true e = subst NoStop same h
      where
        same : counted l m given steps ≡ steps
        same = rw (e, counted)
    go false e = absurd (subst NoStop none h)
      where
        none : counted l m given steps ≡ stop (WrongArguments l) ∷ []
        none = rw (e, counted)

levels_left : (n d : ℕ) (ts : List (List ℕ)) (macros : List Macro) → NoStop (lines_steps (replaced n) macros (lines ts)) → Deep ts macros d → d ≤ n
unfolding replaced
levels_left n zero ts macros h p = omega arith
levels_left zero (suc d) ts macros h (deeper {m = m} {above = above} {given = given} c p) =
    absurd (counted_on (location_at c.name 4) m given _ (of_call (replaced zero) macros ts m above given c h))
levels_left (suc n) (suc d) ts macros h (deeper {m = m} {above = above} {given = given} c p) =
    let k = counted_on (location_at c.name 4) m given _ (of_call (replaced (suc n)) macros ts m above given c h) in
    omega (arith, levels_left n d (map (put_in m.parameters given) m.body) above k p)

-- A list that is written out has at most eight levels.
pub eight_levels : (tokens macros out : List ℕ) (f d : ℕ) → (write_out_outcome tokens macros out).answer ≡ Ok f → Deep (records_of tokens) (reverse (macros_of macros)) d → d ≤ 8
unfolding written_out
eight_levels tokens macros out f d e p =
    levels_left 8 d (records_of tokens) (reverse (macros_of macros)) (no_stop_answer (length out) 0 f (written_out tokens macros) (accepted tokens macros out f e).answered) p
