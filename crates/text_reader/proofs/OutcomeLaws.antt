-- Laws of the answer and of the records, from a place of the text on. Assumes nothing.
use Rattle.std.specs.Prelude.{ℕ, ◌+◌, ◌≤◌, ◌<◌, Bool, true, false, ◌≡◌, refl, leb, Err, Ok, Result, is_ok}
use Rattle.std.proofs.Common.{arith, sym, subst, ◌∙◌, length-append}
use mathlib.Core.List.{List, [], ◌++◌}
use Rattle.std.proofs.lemmas.Bool.{false≢true}
use Rattle.std.proofs.Math.Path.{ap}
use Rattle.std.proofs.Math.ListN.{length}
use borrow.Author.Tests.{le-leb, lt-leb, leb-true, leb-false}
use Rattle.record.specs.Records.{limit}
use Rattle.record.specs.Stores.{append}
use Rattle.record.proofs.StoresLaws.{append_append}
use Rattle.refusal.specs.declared.Refusal.TheVariants.{BadLayout, BadByte as Refusal21, BadToken as Refusal22, NoTokenSpace}
use Rattle.refusal.specs.Leaves.{leaves}
use Rattle.lexer.specs.declared.Token.{Token as TokenRead}
use Rattle.lexer.specs.declared.TokenKind.{TokenKind}
use Rattle.token_bytes.specs.TokenBytes.{carried_by, carried_size, token_bytes}
use Rattle.token_bytes.proofs.TokenBytesLaws.{token_length}
use Rattle.record.specs.Bytes.{byte_at}
use Rattle.byte_class.specs.Class.{class_of, is_blank_class, blank_byte}
use Rattle.byte_class.specs.declared.Class.{Class}
use Rattle.byte_class.specs.declared.Class.TheVariants.{Blank as BlankClass, Newline, Digit, Letter, Mark, Nothing}
use Rattle.text_pieces.specs.Pieces.{piece_of, piece_at}
use Rattle.text_pieces.specs.declared.Piece.{Piece}
use Rattle.text_pieces.specs.declared.Piece.TheVariants.{Blank, Token, BadByte, BadToken}
use Rattle.text_reader.specs.Reading.{Reading, End, Next, Fault, location_of, reading, reading_from}
use Rattle.text_reader.proofs.ReadingLaws.{reading_end, reading_step}
use Rattle.text_reader.proofs.FitLaws.{Good, Stands, piece_good}
use Rattle.text_reader.specs.Outcome.{answer_from, bytes_of, answer_of, outcome_of, read_text, is_read}
use Rattle.refusal.specs.declared.Refusal.{Refusal}

-- A blank byte makes a blank.
pub blank_stands : (s : List ℕ) (at : ℕ) → blank_byte (byte_at s at) ≡ true → Blank ≡ piece_at s at
unfolding piece_at
blank_stands s at e = go (class_of (byte_at s at)) e
  where
    go : (k : Class) → is_blank_class k ≡ true → Blank ≡ piece_of k s at
    go BlankClass f = refl
    go Newline f = absurd (false≢true f)
    go Digit f = absurd (false≢true f)
    go Letter f = absurd (false≢true f)
    go (Mark m) f = absurd (false≢true f)
    go Nothing f = absurd (false≢true f)

-- how many bytes a token's record has
abbrev pub record_size : TokenKind → ℕ
record_size kind = 12 + carried_size (carried_by kind)

-- ---- the answer to a token and what follows it
module _ (text : List ℕ) (room fill : ℕ) (t : TokenRead) (r : Reading) where
  next_fits : fill + length (token_bytes text t) ≤ room → answer_from text room fill (Next t r) ≡ answer_from text room (fill + length (token_bytes text t)) r
  unfolding answer_from
  next_fits h = rw (le-leb (fill + length (token_bytes text t)) room h, answer_from)

  next_short : room < fill + length (token_bytes text t) → answer_from text room fill (Next t r) ≡ Err (NoTokenSpace t.location)
  unfolding answer_from
  next_short h = rw (lt-leb (fill + length (token_bytes text t)) room h, answer_from)

-- The records of an accepted reading end within the buffer; the answer is where they end.
pub read_fits : (text : List ℕ) (room fill : ℕ) (r : Reading) → fill ≤ room → is_read (answer_from text room fill r) ≡ true
    → (fill + length (bytes_of text r) ≤ room) × (answer_from text room fill r ≡ Ok (fill + length (bytes_of text r)))
unfolding answer_from bytes_of
read_fits text room fill End h e =
    let z : fill ≡ fill + 0 = omega arith in
    (omega arith, ap Ok z)
read_fits text room fill (Next t r) h e = go (leb (fill + length (token_bytes text t)) room) refl (read_fits text room (fill + length (token_bytes text t)) r)
  where
    go : (b : Bool) → leb (fill + length (token_bytes text t)) room ≡ b
        → (fill + length (token_bytes text t) ≤ room → is_read (answer_from text room (fill + length (token_bytes text t)) r) ≡ true
        → (fill + length (token_bytes text t) + length (bytes_of text r) ≤ room)
        × (answer_from text room (fill + length (token_bytes text t)) r ≡ Ok (fill + length (token_bytes text t) + length (bytes_of text r))))
        → (fill + length (bytes_of text (Next t r)) ≤ room) × (answer_from text room fill (Next t r) ≡ Ok (fill + length (bytes_of text (Next t r))))
    go true f ih =
        let l = leb-true (fill + length (token_bytes text t)) room f in
        let n = next_fits text room fill t r l in
        let x = ih l (sym (ap is_read n) ∙ e) in
        let m : fill + length (token_bytes text t) + length (bytes_of text r) ≡ fill + length (token_bytes text t ++ bytes_of text r) =
        omega (arith, length-append (token_bytes text t) (bytes_of text r)) in
        (omega arith, n ∙ x.1 ∙ ap Ok m)
    go false f ih = absurd (false≢true (sym (ap is_read (next_short text room fill t r (leb-false (fill + length (token_bytes text t)) room f))) ∙ e))
read_fits text room fill (Fault x) h e = absurd (false≢true e)

-- ---- from a place on, by the piece that stands there
module _ (source : ℕ) (text : List ℕ) (at : ℕ) where
  abbrev pub answer_at : (room fill : ℕ) → Result ℕ Refusal
  answer_at room fill = answer_from text room fill (reading_from source text at)

  abbrev pub bytes_at : List ℕ
  bytes_at = bytes_of text (reading_from source text at)

  pub answer_end : (room fill : ℕ) → length text ≤ at → answer_at room fill ≡ Ok fill
  unfolding answer_from
  answer_end room fill h = ap (answer_from text room fill) (reading_end source text at h)

  pub bytes_end : length text ≤ at → bytes_at ≡ []
  unfolding bytes_of
  bytes_end h = ap (bytes_of text) (reading_end source text at h)

module _ (source : ℕ) (text : List ℕ) (at : ℕ) (p : Piece) (h : at < length text) (e : p ≡ piece_at text at) where
  module _ (f : p ≡ Blank) where
    blank : reading_from source text at ≡ reading_from source text (at + 1)
    blank = reading_step source text at Blank h (sym f ∙ e)

    pub answer_blank : (room fill : ℕ) → answer_at source text at room fill ≡ answer_at source text (at + 1) room fill
    answer_blank room fill = ap (answer_from text room fill) blank

    pub bytes_blank : bytes_at source text at ≡ bytes_at source text (at + 1)
    bytes_blank = ap (bytes_of text) blank

  pub answer_byte : p ≡ BadByte → (room fill : ℕ) → answer_at source text at room fill ≡ Err (Refusal21 (location_of source at))
  unfolding answer_from
  answer_byte f room fill = ap (answer_from text room fill) (reading_step source text at BadByte h (sym f ∙ e))

  pub answer_bad : p ≡ BadToken → (room fill : ℕ) → answer_at source text at room fill ≡ Err (Refusal22 (location_of source at))
  unfolding answer_from
  answer_bad f room fill = ap (answer_from text room fill) (reading_step source text at BadToken h (sym f ∙ e))

  module _ (kind : TokenKind) (size : ℕ) (f : p ≡ Token kind size) where
    abbrev token : TokenRead
    token = record { location = location_of source at; kind = kind }

    pub stands : Stands text at kind size
    stands = subst (Good text at) (sym e ∙ f) (piece_good text at h)

    pub record_length : length (token_bytes text token) ≡ record_size kind
    record_length = token_length text token stands.carried_fits

    met : reading_from source text at ≡ Next token (reading_from source text (at + size))
    met = reading_step source text at (Token kind size) h (sym f ∙ e)

    pub answer_token : (room fill : ℕ) → fill + record_size kind ≤ room → answer_at source text at room fill ≡ answer_at source text (at + size) room (fill + record_size kind)
    answer_token room fill l =
        let rest = reading_from source text (at + size) in
        ap (answer_from text room fill) met
        ∙ next_fits text room fill token rest (omega (arith, record_length))
        ∙ ap (λ (n : ℕ). answer_from text room (fill + n) rest) record_length

    pub answer_short : (room fill : ℕ) → room < fill + record_size kind → answer_at source text at room fill ≡ Err (NoTokenSpace (location_of source at))
    answer_short room fill l = ap (answer_from text room fill) met ∙ next_short text room fill token (reading_from source text (at + size)) (omega (arith, record_length))

    bytes_token : bytes_at source text at ≡ token_bytes text token ++ bytes_at source text (at + size)
    unfolding bytes_of
    bytes_token = ap (bytes_of text) met

    -- In an accepted text, a token has room and what follows is accepted.
    pub token_read : (room fill : ℕ) → is_read (answer_at source text at room fill) ≡ true
        → (fill + record_size kind ≤ room) × (is_read (answer_at source text (at + size) room (fill + record_size kind)) ≡ true)
    token_read room fill a = go (leb (fill + record_size kind) room) refl
      where
        go : (b : Bool) → leb (fill + record_size kind) room ≡ b → (fill + record_size kind ≤ room) × (is_read (answer_at source text (at + size) room (fill + record_size kind)) ≡ true)
        go true g =
            let l = leb-true (fill + record_size kind) room g in
            (l, sym (ap is_read (answer_token room fill l)) ∙ a)
        go false g = absurd (false≢true (sym (ap is_read (answer_short room fill (leb-false (fill + record_size kind) room g))) ∙ a))

    -- one turn of the second pass
    pub write_turn : (d d' : List ℕ) (fill : ℕ) → is_read (answer_at source text at (length d) fill) ≡ true → d' ≡ append d fill (token_bytes text token)
        → append d fill (bytes_at source text at) ≡ append d' (fill + record_size kind) (bytes_at source text (at + size))
    write_turn d d' fill a w =
        let r = token_read (length d) fill a in
        let bound = (read_fits text (length d) (fill + record_size kind) (reading_from source text (at + size)) r.0 r.1).0 in
        ap (append d fill) bytes_token
        ∙ sym (append_append d fill (token_bytes text token) (bytes_at source text (at + size)) (fill + record_size kind) (ap (λ (n : ℕ). fill + n) record_length) bound)
        ∙ ap (λ (x : List ℕ). append x (fill + record_size kind) (bytes_at source text (at + size))) (sym w)

-- ---- the whole call
kept : (r : Result ℕ Refusal) (records buffer : List ℕ) → is_read r ≡ false → leaves r records buffer ≡ buffer
kept (Ok fill) records buffer e = absurd (false≢true (sym e))
kept (Err r) records buffer e = refl

written : (r : Result ℕ Refusal) (records buffer : List ℕ) → is_read r ≡ true → leaves r records buffer ≡ append buffer 0 records
written (Ok fill) records buffer e = refl
written (Err r) records buffer e = absurd (false≢true e)

module _ (text : List ℕ) (source : ℕ) (tokens : List ℕ) where
  pub over_text : limit < length text → answer_of text source (length tokens) ≡ Err (BadLayout 0 limit)
  unfolding answer_of
  over_text h = rw (lt-leb (length text) limit h, answer_of)

  pub over_tokens : length text ≤ limit → limit < length tokens → answer_of text source (length tokens) ≡ Err (BadLayout 1 limit)
  unfolding answer_of
  over_tokens h l = rw (le-leb (length text) limit h, lt-leb (length tokens) limit l, answer_of)

  pub within_limits : length text ≤ limit → length tokens ≤ limit → answer_of text source (length tokens) ≡ answer_from text (length tokens) 0 (reading source text)
  unfolding answer_of
  within_limits h l = rw (le-leb (length text) limit h, le-leb (length tokens) limit l, answer_of)

  -- A refusal leaves the buffer. Otherwise the records are written from its start on.
  outcome_is : (r : Result ℕ Refusal) (d : List ℕ) → answer_of text source (length tokens) ≡ r → leaves r (bytes_of text (reading source text)) tokens ≡ d
      → read_text text source tokens ≡ (record { answer = r; tokens = d })
  unfolding read_text
  outcome_is r d e f = ap (λ (x : Result ℕ Refusal). outcome_of x (bytes_of text (reading source text)) tokens) e ∙ ap (λ (x : List ℕ). record { answer = r; tokens = x }) f

  pub refused_outcome : (r : Result ℕ Refusal) → answer_of text source (length tokens) ≡ r → is_read r ≡ false → read_text text source tokens ≡ (record { answer = r; tokens = tokens })
  refused_outcome r e f = outcome_is r tokens e (kept r (bytes_of text (reading source text)) tokens f)

  pub read_outcome_lem : (r : Result ℕ Refusal) (d : List ℕ) → answer_of text source (length tokens) ≡ r → is_read r ≡ true → d ≡ append tokens 0 (bytes_of text (reading source text))
      → read_text text source tokens ≡ (record { answer = r; tokens = d })
  read_outcome_lem r d e f g = outcome_is r d e (written r (bytes_of text (reading source text)) tokens f ∙ sym g)

-- An answer is no refusal exactly if the text is accepted.
pub ok_is_read : (r : Result ℕ Refusal) → is_ok r ≡ is_read r
ok_is_read (Ok fill) = refl
ok_is_read (Err r) = refl
