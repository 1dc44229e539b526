-- What holds of each token of the text and of each macro's body holds of each token that is written. Assumes nothing.
use Prim.Native.Nat.{ℕ, zero, suc}
use mathlib.Core.List.{List, [], ◌∷◌, ◌++◌, map, reverse, reverse_aux, Memᴰ}
use Rattle.std.specs.Prelude.{Bool, true, false, ◌||◌, refl, ◌⊎◌, length, get_or, eqb}
use Rattle.std.proofs.Common.{sym, subst, inl, inr}
use Rattle.record.specs.Bytes.{same_bytes, location_at}
use Rattle.record.specs.declared.Location.{Location}
use Rattle.lexer.specs.Tokens.{text_of}
use Rattle.line_heads.specs.Lines.{is_comment, is_parameter, is_symbol, is_comma, is_new_line, starts_colon, lines, records_of}
use Rattle.macros.specs.Macros.{Macro, index_of, macros_of}
use Rattle.written_out.specs.Written.{Step, write, stop, Called, no_macro, macro, Replacing, arguments, put_in, called, replaced, lines_steps, written_out}
use Rattle.written_out.specs.declared.Mode.{Mode}
use Rattle.written_out.specs.declared.Mode.TheVariants.{Leading, Labelled, Copied, LeftOut}
use Rattle.written_out.specs.Walk.{line_of, walk, walk_call}
use Rattle.written_out.proofs.WalkLaws.{walk_is}

module _ (P : List ℕ → Type 0) where
  abbrev pub Every : List (List ℕ) → Type 0
  Every [] = Unit {0}
  Every (t ∷ ts) = P t × Every ts

  abbrev pub EveryMacro : List Macro → Type 0
  EveryMacro [] = Unit {0}
  EveryMacro (m ∷ ms) = Every m.body × EveryMacro ms

  abbrev pub EveryStep : List Step → Type 0
  EveryStep [] = Unit {0}
  EveryStep (write t ∷ steps) = P t × EveryStep steps
  EveryStep (stop r ∷ steps) = EveryStep steps

  abbrev CalledIs : Called → Type 0
  CalledIs no_macro = Unit {0}
  CalledIs (macro m above) = Every m.body × EveryMacro above

  either : (b : Bool) (x y : List Step) → EveryStep x → EveryStep y → EveryStep (elim b [ true ↦ x | false ↦ y ])
  either true x y h k = h
  either false x y h k = k

  joined : (x y : List Step) → EveryStep x → EveryStep y → EveryStep (x ++ y)
  joined [] y h k = k
  joined (write t ∷ x) y h k = (h.0, joined x y h.1 k)
  joined (stop r ∷ x) y h k = joined x y h k

  pick : (b : Bool) (x y : List (List ℕ)) → Every x → Every y → Every (elim b [ true ↦ x | false ↦ y ])
  pick true x y h k = h
  pick false x y h k = k

  of_line : (ts : List (List ℕ)) → Every ts → Every (line_of ts)
  unfolding line_of
  of_line [] h = tt
  of_line (t ∷ ts) h = pick (is_new_line t) [] (t ∷ line_of ts) tt (h.0, of_line ts h.1)

  of_arguments : (ts : List (List ℕ)) → Every ts → Every (arguments ts)
  unfolding arguments
  of_arguments [] h = tt
  of_arguments (t ∷ ts) h = pick (is_comma t || is_comment t) (arguments ts) (t ∷ arguments ts) (of_arguments ts h.1) (h.0, of_arguments ts h.1)

  one_of : (b : Bool) (x y : List ℕ) → P x → P y → P (elim b [ true ↦ x | false ↦ y ])
  one_of true x y h k = h
  one_of false x y h k = k

  of_given : (given : List (List ℕ)) (i : ℕ) (t : List ℕ) → Every given → P t → P (get_or given i t)
  of_given [] i t h k = k
  of_given (a ∷ given) zero t h k = h.0
  of_given (a ∷ given) (suc i) t h k = of_given given i t h.1 k

  of_put : (parameters given body : List (List ℕ)) → Every given → Every body → Every (map (put_in parameters given) body)
  of_put ps given [] h k = tt
  of_put ps given (t ∷ ts) h k =
      (one_of (is_parameter t) (get_or given (index_of (text_of t 0) ps) t) t (of_given given (index_of (text_of t 0) ps) t h k.0) k.0, of_put ps given ts h k.1)

  either_called : (b : Bool) (x y : Called) → CalledIs x → CalledIs y → CalledIs (elim b [ true ↦ x | false ↦ y ])
  either_called true x y h k = h
  either_called false x y h k = k

  of_called : (name : List ℕ) (macros : List Macro) → EveryMacro macros → CalledIs (called name macros)
  unfolding called
  of_called name [] h = tt
  of_called name (m ∷ above) h = either_called (same_bytes m.name name) (macro m above) (called name above) h (of_called name above h.1)

  -- The replacement of a call keeps P.
  abbrev Keeps : Replacing → Type 0
  Keeps replace = (l : Location) (m : Macro) (above : List Macro) (given : List (List ℕ)) → Every m.body → EveryMacro above → Every given → EveryStep (replace l m above given)

  module _ (replace : Replacing) (macros : List Macro) (k : Keeps replace) (ms : EveryMacro macros) where
    of_call : (c : Called) (t : List ℕ) (ts : List (List ℕ)) (x y : List Step) → CalledIs c → P t → Every ts → EveryStep x → EveryStep y
        → EveryStep (walk_call replace macros c t ts x y)
    of_call no_macro t ts x y c p h hx hy = (p, hx)
    of_call (macro m above) t ts x y c p h hx hy =
        joined (replace (location_at t 4) m above (arguments ts)) y (k (location_at t 4) m above (arguments ts) c.0 c.1 (of_arguments ts h)) hy

    of_walk : (ts : List (List ℕ)) → Every ts → (mode : Mode) → EveryStep (walk replace macros mode ts)
    unfolding walk
    of_walk [] h mode = tt
    of_walk (t ∷ ts) h Leading =
        let w : (mode : Mode) → EveryStep (walk replace macros mode ts) = of_walk ts h.1 in
        either (is_new_line t || is_comment t) _ _ (h.0, w Leading)
        (either (is_symbol t) _ _
        (either (starts_colon ts) _ _ (h.0, w Labelled)
        (of_call (called (text_of t 0) macros) t (line_of ts) _ _ (of_called (text_of t 0) macros ms) h.0 (of_line ts h.1) (w Copied) (w LeftOut)))
        (h.0, w Copied))
    of_walk (t ∷ ts) h Labelled = (h.0, of_walk ts h.1 Leading)
    of_walk (t ∷ ts) h Copied = (h.0, either (is_new_line t) _ _ (of_walk ts h.1 Leading) (of_walk ts h.1 Copied))
    of_walk (t ∷ ts) h LeftOut = either (is_new_line t) _ _ (h.0, of_walk ts h.1 Leading) (of_walk ts h.1 LeftOut)

    of_lines : (ts : List (List ℕ)) → Every ts → EveryStep (lines_steps replace macros (lines ts))
    of_lines ts h = subst EveryStep (sym (walk_is replace macros ts)) (of_walk ts h Leading)

  of_replaced : (n : ℕ) → Keeps (replaced n)
  unfolding replaced
  of_replaced zero l m above given b a g = either (eqb (length given) (length m.parameters)) _ _ tt tt
  of_replaced (suc n) l m above given b a g =
      either (eqb (length given) (length m.parameters)) _ _ (of_lines (replaced n) above (of_replaced n) a (map (put_in m.parameters given) m.body) (of_put m.parameters given m.body g b)) tt

  of_reverse : (ms acc : List Macro) → EveryMacro ms → EveryMacro acc → EveryMacro (reverse_aux ms acc)
  of_reverse [] acc h k = k
  of_reverse (m ∷ ms) acc h k = of_reverse ms (m ∷ acc) h.1 (h.0, k)

  pub every_written : (tokens macros : List ℕ) → Every (records_of tokens) → EveryMacro (macros_of macros) → EveryStep (written_out tokens macros)
  unfolding written_out
  every_written tokens macros h k = of_lines (replaced 8) (reverse (macros_of macros)) (of_replaced 8) (of_reverse (macros_of macros) [] k tt) (records_of tokens) h

-- ---- where a written token stands

pub data InBody (t : List ℕ) : List Macro → Type 0 where
  here : {m : Macro} {ms : List Macro} → Memᴰ t m.body → InBody t (m ∷ ms)
  later : {m : Macro} {ms : List Macro} → InBody t ms → InBody t (m ∷ ms)

-- The token is, byte for byte, a record of the text or of a macro's body.
abbrev pub Stands : (tokens macros : List ℕ) → List ℕ → Type 0
Stands tokens macros t = Memᴰ t (records_of tokens) ⊎ InBody t (macros_of macros)

each_in : (P : List ℕ → Type 0) (ts : List (List ℕ)) → ((t : List ℕ) → Memᴰ t ts → P t) → Every P ts
each_in P [] f = tt
each_in P (t ∷ ts) f = (f t (Memᴰ.head refl), each_in P ts (λ u m. f u (Memᴰ.tail m)))

each_body : (P : List ℕ → Type 0) (ms : List Macro) → ((t : List ℕ) → InBody t ms → P t) → EveryMacro P ms
each_body P [] f = tt
each_body P (m ∷ ms) f = (each_in P m.body (λ t h. f t (here h)), each_body P ms (λ t h. f t (later h)))

pub stands : (tokens macros : List ℕ) → EveryStep (Stands tokens macros) (written_out tokens macros)
stands tokens macros =
    every_written (Stands tokens macros) tokens macros (each_in (Stands tokens macros) (records_of tokens) (λ t m. inl m))
    (each_body (Stands tokens macros) (macros_of macros) (λ t m. inr m))
