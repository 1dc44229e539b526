-- Macro records, kind 40 (document 02, P8). Assumes nothing.
use Rattle.std.specs.Prelude.{ℕ, zero, suc, ◌+◌, List, [], ◌∷◌, map, Bool, true, false, not, ◌&&◌, ◌||◌, length, drop, leb, ltb, eqb, None, Option, Some}
use Rattle.record.specs.Bytes.{byte_at, part, is_text, all, same_bytes}
use Rattle.record.specs.Records.{body_len, kind_at, whole, places, first_bad, within_limit}
use Rattle.names.specs.Names.{first_later}
use Rattle.lexer.specs.Tokens.{text_of, token_layout}
use Rattle.line_heads.specs.Lines.{is_parameter, records_of}
use Rattle.macros.specs.declared.Head.{Head}

-- ---- names in a macro's body of bytes b

-- "each name of 1 to 64 bytes after a length byte": the name whose length byte is at i, and the place after it
abbrev pub name_at : List ℕ → ℕ → List ℕ
name_at b i = part b (i + 1) (byte_at b i)

abbrev pub behind_name : List ℕ → ℕ → ℕ
behind_name b i = i + 1 + byte_at b i

abbrev pub name_ok : List ℕ → ℕ → Bool
name_ok b i = leb 1 (byte_at b i) && leb (byte_at b i) 64 && leb (behind_name b i) (length b) && all is_text (name_at b i)

-- the places of n names from i on, and the place after them
unfoldable pub name_places : ℕ → List ℕ → ℕ → List ℕ
name_places zero b i = []
name_places (suc n) b i = i ∷ name_places n b (behind_name b i)

unfoldable pub behind_names : ℕ → List ℕ → ℕ → ℕ
behind_names zero b i = i
behind_names (suc n) b i = behind_names n b (behind_name b i)

-- ---- the macro of a record

pub record Macro : Type 0 where
  pub name : List ℕ
  pub parameters : List (List ℕ)
  -- its tokens' records
  pub body : List (List ℕ)

-- "holds name, count of parameters (1 byte) and their names, ... then the body's token records"
abbrev pub count_of : List ℕ → ℕ
count_of b = byte_at b (behind_name b 0)

abbrev pub parameter_places : List ℕ → List ℕ
parameter_places b = name_places (count_of b) b (behind_name b 0 + 1)

abbrev pub body_tokens : List ℕ → List ℕ
body_tokens b = drop (behind_names (count_of b) b (behind_name b 0 + 1)) b

unfoldable pub macro_of : List ℕ → Macro
unfolding name_places behind_names records_of
macro_of b = record { name = name_at b 0; parameters = map (name_at b) (parameter_places b); body = records_of (body_tokens b) }

-- ---- layout

-- the name's index among the names, or their count
unfoldable pub index_of : (name : List ℕ) → (names : List (List ℕ)) → ℕ
unfolding same_bytes
index_of n [] = 0
index_of n (m ∷ ms) = elim (same_bytes m n) [ true ↦ 0 | false ↦ suc (index_of n ms) ]

abbrev pub is_in : List ℕ → List (List ℕ) → Bool
is_in n ms = ltb (index_of n ms) (length ms)

-- "different parameters"
unfoldable pub different : List (List ℕ) → Bool
unfolding index_of
different [] = true
different (n ∷ ns) = not (is_in n ns) && different ns

-- "with no other Parameter": each Parameter of the body is one of the macro's
abbrev pub knows : (parameters : List (List ℕ)) → List ℕ → Bool
knows parameters t = not (is_parameter t) || is_in (text_of t 0) parameters

unfoldable pub known : (parameters body : List (List ℕ)) → Bool
unfolding index_of
known parameters [] = true
known parameters (t ∷ ts) = knows parameters t && known parameters ts

abbrev pub is_good : Option ℕ → Bool
is_good None = true
is_good (Some p) = false

-- "up to 8 different parameters"
abbrev pub names_ok : List ℕ → Bool
names_ok b =
    name_ok b 0 && ltb (behind_name b 0) (length b) && leb (count_of b) 8 && all (name_ok b) (parameter_places b) && different (map (name_at b) (parameter_places b))

unfoldable pub macro_ok : List ℕ → Bool
unfolding all name_places behind_names macro_of different known token_layout
macro_ok b = names_ok b && is_good (token_layout (body_tokens b)) && known (macro_of b).parameters (macro_of b).body

-- ---- the list

-- the body of the record at `at`
abbrev pub body_at : List ℕ → ℕ → List ℕ
body_at s at = part s (at + 4) (body_len s at)

unfoldable pub macro_at_ok : List ℕ → ℕ → Bool
unfolding macro_ok
macro_at_ok s at = whole s at && eqb (kind_at s at) 40 && macro_ok (body_at s at)

-- refusal 1: the first record that is not a macro
unfoldable pub macro_layout : List ℕ → Option ℕ
unfolding macro_at_ok first_bad places within_limit
macro_layout s = within_limit s (first_bad (macro_at_ok s) (places s))

-- the macros in the list's order
unfoldable pub macros_of : List ℕ → List Macro
unfolding macro_of places
macros_of s = map (λ (p : ℕ). macro_of (body_at s p)) (places s)

-- "Two macros of one name get refusal 2": the place of the later
abbrev pub same_macro : List ℕ → (p q : ℕ) → Bool
same_macro s p q = same_bytes (name_at (body_at s q) 0) (name_at (body_at s p) 0)

unfoldable pub macro_repeat : List ℕ → Option ℕ
unfolding first_later places
macro_repeat s = first_later (same_macro s) (places s) (places s)

-- where the parameters' names and the body stand in a macro's bytes
abbrev pub head_of : List ℕ → Head
head_of b = record { names = behind_name b 0 + 1; count = count_of b; body = behind_names (count_of b) b (behind_name b 0 + 1) }
