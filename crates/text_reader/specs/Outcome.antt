-- What reading a text answers, and what it leaves in the token buffer (document 02, P7). Assumes nothing.
use Rattle.std.specs.Prelude.{ℕ, ◌+◌, List, [], ◌++◌, Bool, true, false, length, leb, ◌≡◌, Err, Ok, Result}
use Rattle.record.specs.Records.{limit}
use Rattle.record.specs.Stores.{append}
use Rattle.refusal.specs.declared.Refusal.TheVariants.{BadLayout, NoTokenSpace}
use Rattle.refusal.specs.Leaves.{leaves}
use Rattle.token_bytes.specs.TokenBytes.{token_bytes}
use Rattle.text_reader.specs.Reading.{Reading, End, Next, Fault, reading}
use Rattle.refusal.specs.declared.Refusal.{Refusal}

-- "The first faulty token in text order decides, 21 before 22 before 23": a token has room if its record ends within the buffer. `fill` is
-- where the record begins.
unfoldable pub answer_from : (text : List ℕ) → (room fill : ℕ) → Reading → Result ℕ Refusal
answer_from text room fill End = Ok fill
answer_from text room fill (Next t r) =
    elim (leb (fill + length (token_bytes text t)) room) [ true ↦ answer_from text room (fill + length (token_bytes text t)) r | false ↦ Err (NoTokenSpace t.location) ]
answer_from text room fill (Fault r) = Err r

-- the records of the tokens
unfoldable pub bytes_of : (text : List ℕ) → Reading → List ℕ
bytes_of text End = []
bytes_of text (Next t r) = token_bytes text t ++ bytes_of text r
bytes_of text (Fault r) = []

-- "A lent buffer is at most 65,536 bytes": refusal 1 for the text, buffer 0, and for the token buffer, 1
unfoldable pub answer_of : (text : List ℕ) → (source room : ℕ) → Result ℕ Refusal
answer_of text source room =
    elim (leb (length text) limit) [
      | true ↦ elim (leb room limit) [ true ↦ answer_from text room 0 (reading source text) | false ↦ Err (BadLayout 1 limit) ]
      | false ↦ Err (BadLayout 0 limit)
    ]

pub record TextOutcome : Type 0 where
  pub answer : Result ℕ Refusal
  pub tokens : List ℕ

abbrev pub outcome_of : Result ℕ Refusal → (records buffer : List ℕ) → TextOutcome
outcome_of answer records buffer = record { answer = answer; tokens = leaves answer records buffer }

unfoldable pub read_text : (text : List ℕ) → (source : ℕ) → (tokens : List ℕ) → TextOutcome
read_text text source tokens = outcome_of (answer_of text source (length tokens)) (bytes_of text (reading source text)) tokens

abbrev pub is_read : Result ℕ Refusal → Bool
is_read (Ok fill) = true
is_read (Err r) = false

-- only a text that is accepted may be written
abbrev pub Accepts : (writes : Bool) → Result ℕ Refusal → Type 0
Accepts true r = is_read r ≡ true
Accepts false r = Unit {0}

-- d' is d with the records written to its start, or d unchanged
abbrev pub Leaves : (writes : Bool) → (d d' records : List ℕ) → Type 0
Leaves true d d' records = d' ≡ append d 0 records
Leaves false d d' records = d' ≡ d
