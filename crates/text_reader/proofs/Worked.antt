-- The definition, computed: texts that are read (one of them meets the theorems' premises), and each refusal. Assumes nothing.
use Rattle.std.specs.Prelude.{ℕ, [], ◌∷◌, ◌≡◌, refl, replicate, Err, Ok, Result}
use Prim.Native.String.{String}
use Rattle.record.specs.Texts.{bytes_of}
use Rattle.refusal.specs.declared.Refusal.TheVariants.{BadByte, BadToken, NoTokenSpace}
use Rattle.registers.specs.declared.RegisterSlot.TheVariants.{Temporary0}
use Rattle.lexer.specs.declared.Token.{Token}
use Rattle.lexer.specs.declared.TokenKind.{TokenKind}
use Rattle.lexer.specs.declared.TokenKind.TheVariants.{Comment, Directive, Register, IntegerLiteral, Symbol, Minus, Comma, NewLine}
use Rattle.text_pieces.specs.Pieces.{piece_at}
use Rattle.text_reader.specs.Reading.{location_of, reading_from, reading, tokens_of}
use Rattle.text_reader.specs.Outcome.{answer_of, answer_from, read_text}
use Rattle.refusal.specs.declared.Refusal.{Refusal}

abbrev token : ℕ → TokenKind → Token
token at kind = record { location = location_of 7 at; kind = kind }

-- `add.s` is a Symbol and a Directive
pub the_tokens : tokens_of (reading 7 (bytes_of "add.s $t0,-0x1f#n\n"))
    ≡ token 0 (Symbol (record { start = 0; len = 3 })) ∷ token 3 (Directive (record { start = 4; len = 1 })) ∷ token 6 (Register Temporary0) ∷ token 9 Comma
    ∷ token 10 Minus ∷ token 11 (IntegerLiteral 31) ∷ token 15 (Comment (record { start = 16; len = 1 })) ∷ token 17 NewLine ∷ []
unfolding reading_from piece_at
the_tokens = refl

-- `0X1` is the number 0 and the symbol X1
pub capital : tokens_of (reading 7 (bytes_of "0X1")) ≡ token 0 (IntegerLiteral 0) ∷ token 1 (Symbol (record { start = 1; len = 2 })) ∷ []
unfolding reading_from piece_at
capital = refl

abbrev answer : String → (room : ℕ) → Result ℕ Refusal
answer text room = answer_of (bytes_of text) 7 room

-- One record of 15 bytes and one of 12.
pub room_for_all : (answer "add\n" 27 ≡ Ok 27) × (answer "add\n" 26 ≡ Err (NoTokenSpace (location_of 7 3)))
unfolding answer_of answer_from reading_from piece_at
room_for_all = (refl, refl)

-- The premises of `reads_back` can be met.
pub premise_met : (read_text (bytes_of "add\n") 7 (replicate 27 0)).answer ≡ Ok 27
unfolding read_text answer_of answer_from reading_from piece_at
premise_met = refl

-- 21: a byte that starts no token; a tab in a comment; a string not closed on its line
pub refused_21 : (answer "a;" 99 ≡ Err (BadByte (location_of 7 1))) × (answer "#\t" 99 ≡ Err (BadByte (location_of 7 0))) × (answer "\"a\n\"" 99 ≡ Err (BadByte (location_of 7 0)))
unfolding answer_of answer_from reading_from piece_at
refused_21 = (refl, refl, refl)

-- 22: a parameter without a name; an unknown register; `0x` without a digit
pub refused_22 : (answer " %" 99 ≡ Err (BadToken (location_of 7 1))) × (answer "$f32" 99 ≡ Err (BadToken (location_of 7 0))) × (answer "0xg" 99 ≡ Err (BadToken (location_of 7 0)))
unfolding answer_of answer_from reading_from piece_at
refused_22 = (refl, refl, refl)

-- the greatest number of 64 bits, and one more
pub the_greatest : (answer "18446744073709551615" 99 ≡ Ok 20) × (answer "18446744073709551616" 99 ≡ Err (BadToken (location_of 7 0)))
unfolding answer_of answer_from reading_from piece_at
the_greatest = (refl, refl)

-- If there is no room, 21 and 22 still go before 23.
pub no_room : (answer "\"" 0 ≡ Err (BadByte (location_of 7 0))) × (answer "%" 0 ≡ Err (BadToken (location_of 7 0))) × (answer "+;" 0 ≡ Err (NoTokenSpace (location_of 7 0)))
unfolding answer_of answer_from reading_from piece_at
no_room = (refl, refl, refl)
