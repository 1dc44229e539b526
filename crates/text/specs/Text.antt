-- Text put into a lent buffer, numbers as text, and the line of a refusal (document 01, `finish`). Assumes nothing.
use Rattle.std.specs.Prelude.{ℕ, zero, suc, ◌+◌, ◌/◌, ◌%◌, ◌≤◌, ◌≡◌, true, false, List, [], ◌∷◌, ◌++◌, ltb, eqb, ℤ, pos, negsuc, length}
use Rattle.io.specs.Digits.{hex_digit_ascii, last_digits}
use Rattle.record.specs.Bytes.{le32}
use Rattle.record.specs.Stores.{append}
use Rattle.record.specs.declared.Location.{Location}
use Rattle.record.specs.Texts.{bytes_of}
use Rattle.refusal.specs.declared.Numbered.{Numbered}

-- xs is written into d at `at`: `e` is d afterwards, and `end` is where xs ends
pub record Put (d : List ℕ) (at : ℕ) (xs e : List ℕ) (end : ℕ) : Type 0 where
  pub fits : at + length xs ≤ length d
  pub ends : end ≡ at + length xs
  pub bytes : e ≡ append d at xs

-- a number in decimal; the first argument is the most digits that it may have
unfoldable pub decimal_in : ℕ → ℕ → List ℕ
decimal_in zero n = []
decimal_in (suc most) n = elim (ltb n 10) [ true ↦ hex_digit_ascii n ∷ [] | false ↦ decimal_in most (n / 10) ++ (hex_digit_ascii (n % 10) ∷ []) ]

-- a 64-bit number has at most 20 digits
abbrev pub decimal : ℕ → List ℕ
decimal n = decimal_in 20 n

-- bytes in hexadecimal, "two digits each"
unfoldable pub hex_bytes : List ℕ → List ℕ
hex_bytes [] = []
hex_bytes (b ∷ bs) = last_digits 16 2 b ++ hex_bytes bs

-- a word of an image: "eight lower-case hexadecimal digits" of the number, "(a last part word: its bytes, two digits each)"
unfoldable pub word_text : List ℕ → List ℕ
unfolding hex_bytes
word_text bytes = elim (eqb (length bytes) 4) [ true ↦ last_digits 16 8 (le32 bytes 0) | false ↦ hex_bytes bytes ]

-- a field with the blank before it: "single blanks between fields"
abbrev pub field : ℕ → List ℕ
field n = bytes_of " " ++ decimal n

-- a field with a minus if the number is negative; negsuc n is -1 - n
unfoldable pub signed_field : ℤ → List ℕ
signed_field (pos n) = field n
signed_field (negsuc n) = bytes_of " -" ++ decimal (n + 1)

-- the last field of a line, and the newline
abbrev pub last_field : ℕ → List ℕ
last_field n = field n ++ bytes_of "\n"

abbrev pub location_fields : Location → List ℕ
location_fields l = field l.source ++ field l.index

-- "refused" and number, source, index, a, b in decimal
unfoldable pub refused_line : Numbered → List ℕ
refused_line n = bytes_of "refused" ++ field n.number ++ location_fields n.location ++ signed_field n.a ++ last_field n.b
