-- The definition, computed: what is written, and each refusal. Assumes nothing.
use Rattle.std.specs.Prelude.{ℕ, List, [], ◌∷◌, ◌++◌, reverse, ◌≡◌, refl, replicate, Err, Ok, Result}
use mathlib.Core.List.Memᴰ
use Rattle.record.specs.Bytes.{same_bytes, all}
use Rattle.record.specs.Records.{places_f, places_from, places, first_bad, within_limit}
use Rattle.record.specs.Stores.{le32_bytes, record_bytes, append}
use Rattle.record.specs.declared.Location.{Location}
use Rattle.names.specs.Names.{first_where, first_later}
use Rattle.refusal.specs.declared.Refusal.TheVariants.{BadLayout, DuplicateName, WrongArguments, NinthLevel, NoWrittenSpace}
use Rattle.lexer.specs.Tokens.{payload_of, payload_ok, token_ok, token_layout}
use Rattle.line_heads.specs.Lines.{records_of, lines, leads_from, leads}
use Rattle.macros.specs.Macros.{name_places, behind_names, macro_of, index_of, different, known, macro_ok, macro_at_ok, macro_layout, macros_of, macro_repeat}
use Rattle.written_out.specs.Written.{arguments, called, line_steps, lines_steps, replaced, written_out}
use Rattle.written_out.proofs.Levels.{Deep, flat, deeper}
use Rattle.written_out.specs.Outcome.{answer_from, bytes_of, write_out_stop, write_out_outcome}
use Rattle.refusal.specs.declared.Refusal.{Refusal}

-- ---- tokens: a kind, the index of a location in source 7, a payload

abbrev token : (kind index : ℕ) → List ℕ → List ℕ
token kind index payload = record_bytes kind (le32_bytes 7 ++ le32_bytes index ++ payload)

abbrev symbol : (name index : ℕ) → List ℕ
symbol name index = token 8 index (name ∷ [])

abbrev parameter : (name index : ℕ) → List ℕ
parameter name index = token 2 index (name ∷ [])

abbrev register : (number index : ℕ) → List ℕ
register number index = token 3 index (number ∷ [])

abbrev comment : ℕ → List ℕ
comment index = token 0 index (99 ∷ [])

abbrev comma : ℕ → List ℕ
comma index = token 11 index []

abbrev colon : ℕ → List ℕ
colon index = token 12 index []

abbrev new_line : ℕ → List ℕ
new_line index = token 13 index []

abbrev none : (name : ℕ) → List ℕ → List ℕ
none name body = record_bytes 40 (1 ∷ name ∷ 0 ∷ body)

abbrev one : (name p : ℕ) → List ℕ → List ℕ
one name p body = record_bytes 40 (1 ∷ name ∷ 1 ∷ 1 ∷ p ∷ body)

abbrev two : (name p q : ℕ) → List ℕ → List ℕ
two name p q body = record_bytes 40 (1 ∷ name ∷ 2 ∷ 1 ∷ p ∷ 1 ∷ q ∷ body)

abbrev at : ℕ → Location
at index = record { source = 7; index = index }

-- inner (i) has the parameter q and writes `a %q`; outer (o) has p and q: `i %q`, then `l %p`
abbrev macros : List ℕ
macros = one 105 113 (symbol 97 50 ++ parameter 113 51) ++ two 111 112 113 (symbol 105 60 ++ parameter 113 61 ++ new_line 62 ++ symbol 108 63 ++ parameter 112 64)

-- `#c x: o #c %q , $1 #c`, and a second line `o : l`
abbrev text : List ℕ
text =
    comment 0 ++ symbol 120 1 ++ colon 2 ++ symbol 111 3 ++ comment 4 ++ parameter 113 5 ++ comma 6 ++ register 1 7 ++ comment 8 ++ new_line 9
    ++ symbol 111 10 ++ colon 11 ++ symbol 108 12

-- A call within a call. The call's comments go, earlier ones stay. A Parameter argument named like another parameter is put in once and stays.
abbrev expected : List ℕ
expected =
    comment 0 ++ symbol 120 1 ++ colon 2 ++ symbol 97 50 ++ register 1 7 ++ new_line 62 ++ symbol 108 63 ++ parameter 113 5 ++ new_line 9 ++ symbol 111 10 ++ colon 11 ++ symbol 108 12

abbrev answer : (text macros : List ℕ) → (room : ℕ) → Result ℕ Refusal
answer text macros room = (write_out_outcome text macros (replicate room 0)).answer

-- bytes behind the fill stay
pub computed : write_out_outcome text macros (replicate 160 9) ≡ (record { answer = Ok 152; out = expected ++ replicate 8 9 })
unfolding write_out_outcome write_out_stop answer_from bytes_of written_out replaced lines_steps line_steps called arguments leads leads_from lines records_of
    macros_of macro_repeat macro_layout macro_at_ok macro_ok macro_of known different index_of name_places behind_names token_layout token_ok payload_ok payload_of
    first_later first_where same_bytes all within_limit first_bad places places_from places_f append
computed = refl

-- All is written if there is room. Otherwise 26 names the first token without room.
pub room : (answer text macros 152 ≡ Ok 152) × (answer text macros 151 ≡ Err (NoWrittenSpace (at 12))) × (answer text macros 37 ≡ Err (NoWrittenSpace (at 2))) × (answer text macros 50 ≡ Err (NoWrittenSpace (at 50)))
unfolding write_out_outcome write_out_stop answer_from bytes_of written_out replaced lines_steps line_steps called arguments leads leads_from lines records_of
    macros_of macro_repeat macro_layout macro_at_ok macro_ok macro_of known different index_of name_places behind_names token_layout token_ok payload_ok payload_of
    first_later first_where same_bytes all within_limit first_bad places places_from places_f append
room = (refl, refl, refl, refl)

-- 24 names the call, in the text and in a body. A comma is no argument; a sign is one.
pub count : (answer (symbol 105 3 ++ comma 4 ++ comment 5) macros 99 ≡ Err (WrongArguments (at 3))) × (answer (symbol 105 3 ++ token 10 4 [] ++ register 1 5) macros 99 ≡ Err (WrongArguments (at 3))) × (answer (symbol 105 3) (macros ++ none 110 (symbol 105 70)) 99 ≡ Err (WrongArguments (at 3))) × (answer (symbol 110 3) (macros ++ none 110 (symbol 105 70)) 99 ≡ Err (WrongArguments (at 70)))
unfolding write_out_outcome write_out_stop answer_from bytes_of written_out replaced lines_steps line_steps called arguments leads leads_from lines records_of
    macros_of macro_repeat macro_layout macro_at_ok macro_ok macro_of known different index_of name_places behind_names token_layout token_ok payload_ok payload_of
    first_later first_where same_bytes all within_limit first_bad places places_from places_f append
count = (refl, refl, refl, refl)

-- The earlier refusal wins: a 26 before a 24, or a 24 before a 26.
pub first : (answer (symbol 97 1 ++ new_line 2 ++ symbol 105 3) macros 24 ≡ Err (NoWrittenSpace (at 2))) × (answer (symbol 97 1 ++ new_line 2 ++ symbol 105 3) macros 25 ≡ Err (WrongArguments (at 3)))
unfolding write_out_outcome write_out_stop answer_from bytes_of written_out replaced lines_steps line_steps called arguments leads leads_from lines records_of
    macros_of macro_repeat macro_layout macro_at_ok macro_ok macro_of known different index_of name_places behind_names token_layout token_ok payload_ok payload_of
    first_later first_where same_bytes all within_limit first_bad places places_from places_f append
first = (refl, refl)

-- Macros A to I: A is given, and each other one calls the macro above it.
abbrev chain_on : List ℕ → List ℕ
chain_on a =
    a ++ none 66 (symbol 65 21) ++ none 67 (symbol 66 22) ++ none 68 (symbol 67 23) ++ none 69 (symbol 68 24) ++ none 70 (symbol 69 25) ++ none 71 (symbol 70 26)
    ++ none 72 (symbol 71 27) ++ none 73 (symbol 72 28)

abbrev chain : List ℕ
chain = chain_on (none 65 (symbol 97 20))

-- Eight levels are written. A ninth is refused at the call of A in the body of B; 24 goes before 25 there.
pub levels : (write_out_outcome (symbol 72 3) chain (replicate 13 0) ≡ (record { answer = Ok 13; out = symbol 97 20 })) × (answer (symbol 73 3) chain 99 ≡ Err (NinthLevel (at 21)))
    × (answer (symbol 73 3) (chain_on (one 65 112 [])) 99 ≡ Err (WrongArguments (at 21)))
unfolding write_out_outcome write_out_stop answer_from bytes_of written_out replaced lines_steps line_steps called arguments leads leads_from lines records_of
    macros_of macro_repeat macro_layout macro_at_ok macro_ok macro_of known different index_of name_places behind_names token_layout token_ok payload_ok payload_of
    first_later first_where same_bytes all within_limit first_bad places places_from places_f append
levels = (refl, refl, refl)

-- In a macro's body its own name, and any name below, is an ordinary mnemonic. A Symbol argument at a line's head calls a macro above.
pub ordinary : (write_out_outcome (symbol 65 3) (none 65 (symbol 66 20 ++ new_line 21 ++ symbol 65 22) ++ none 66 []) (replicate 38 0) ≡ (record { answer = Ok 38; out = symbol 66 20 ++ new_line 21 ++ symbol 65 22 })) × (answer (symbol 66 3 ++ symbol 65 4) (none 65 [] ++ one 66 112 (parameter 112 20)) 99 ≡ Ok 0)
unfolding write_out_outcome write_out_stop answer_from bytes_of written_out replaced lines_steps line_steps called arguments leads leads_from lines records_of
    macros_of macro_repeat macro_layout macro_at_ok macro_ok macro_of known different index_of name_places behind_names token_layout token_ok payload_ok payload_of
    first_later first_where same_bytes all within_limit first_bad places places_from places_f append
ordinary = (refl, refl)

-- No call: behind a Comma, behind a Colon without a label, behind a Symbol and a Colon with a comment between them, or before a Colon.
pub no_call : (answer (comma 1 ++ symbol 65 2) (none 65 []) 99 ≡ Ok 25) × (answer (colon 1 ++ symbol 65 2) (none 65 []) 99 ≡ Ok 25) × (answer (symbol 120 1 ++ comment 2 ++ colon 3 ++ symbol 65 4) (none 65 []) 99 ≡ Ok 51) × (answer (symbol 65 1 ++ colon 2) (none 65 []) 99 ≡ Ok 25)
unfolding write_out_outcome write_out_stop answer_from bytes_of written_out replaced lines_steps line_steps called arguments leads leads_from lines records_of
    macros_of macro_repeat macro_layout macro_at_ok macro_ok macro_of known different index_of name_places behind_names token_layout token_ok payload_ok payload_of
    first_later first_where same_bytes all within_limit first_bad places places_from places_f append
no_call = (refl, refl, refl, refl)

-- Refusal 1: a Parameter that the macro lacks, an empty name, two parameters of one name, a record of another kind. Then refusal 2.
pub layout : (answer [] (none 65 [] ++ none 66 (parameter 112 1)) 99 ≡ Err (BadLayout 1 7)) × (answer [] (record_bytes 40 (0 ∷ 0 ∷ [])) 99 ≡ Err (BadLayout 1 0)) × (answer [] (two 65 112 112 []) 99 ≡ Err (BadLayout 1 0)) × (answer [] (record_bytes 39 (1 ∷ 65 ∷ 0 ∷ [])) 99 ≡ Err (BadLayout 1 0)) × (answer [] (none 65 [] ++ none 66 [] ++ none 65 []) 99 ≡ Err (DuplicateName 1 14))
unfolding write_out_outcome write_out_stop answer_from bytes_of written_out replaced lines_steps line_steps called arguments leads leads_from lines records_of
    macros_of macro_repeat macro_layout macro_at_ok macro_ok macro_of known different index_of name_places behind_names token_layout token_ok payload_ok payload_of
    first_later first_where same_bytes all within_limit first_bad places places_from places_f append
layout = (refl, refl, refl, refl, refl)

-- The call of H is eight deep, the most that `eight_levels` in crates/written_out/proofs/Levels.antt allows.
pub eight_deep : Deep (records_of (symbol 72 3)) (reverse (macros_of chain)) 8
unfolding called arguments leads leads_from lines records_of macros_of macro_of index_of name_places behind_names same_bytes places places_from places_f
eight_deep =
    (deeper (record { line = record { tokens = symbol 72 3 ∷ []; end = [] }; listed = Memᴰ.head refl; name = symbol 72 3; rest = []; head = refl; symbol = refl; is = refl; given_is = refl })
    (deeper (record { line = record { tokens = symbol 71 27 ∷ []; end = [] }; listed = Memᴰ.head refl; name = symbol 71 27; rest = []; head = refl; symbol = refl; is = refl; given_is = refl })
    (deeper (record { line = record { tokens = symbol 70 26 ∷ []; end = [] }; listed = Memᴰ.head refl; name = symbol 70 26; rest = []; head = refl; symbol = refl; is = refl; given_is = refl })
    (deeper (record { line = record { tokens = symbol 69 25 ∷ []; end = [] }; listed = Memᴰ.head refl; name = symbol 69 25; rest = []; head = refl; symbol = refl; is = refl; given_is = refl })
    (deeper (record { line = record { tokens = symbol 68 24 ∷ []; end = [] }; listed = Memᴰ.head refl; name = symbol 68 24; rest = []; head = refl; symbol = refl; is = refl; given_is = refl })
    (deeper (record { line = record { tokens = symbol 67 23 ∷ []; end = [] }; listed = Memᴰ.head refl; name = symbol 67 23; rest = []; head = refl; symbol = refl; is = refl; given_is = refl })
    (deeper (record { line = record { tokens = symbol 66 22 ∷ []; end = [] }; listed = Memᴰ.head refl; name = symbol 66 22; rest = []; head = refl; symbol = refl; is = refl; given_is = refl })
    (deeper (record { line = record { tokens = symbol 65 21 ∷ []; end = [] }; listed = Memᴰ.head refl; name = symbol 65 21; rest = []; head = refl; symbol = refl; is = refl; given_is = refl })
    flat))))))))
