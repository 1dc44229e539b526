-- One pass over a text; it writes, or only checks. Assumes nothing.
use Rattle.std.specs.Prelude.{ℕ, ◌+◌, ◌≤◌, ◌<◌, List, Bool, true, false, ◌≡◌, refl, length, Err}
use Rattle.std.proofs.lemmas.Bool.{false≢true}
use Rattle.std.proofs.Common.{sym, ap, ◌∙◌}
use Rattle.record.specs.Stores.{append}
use Rattle.record.proofs.StoresLaws.{append_none}
use Rattle.refusal.specs.declared.Refusal.{Refusal}
use Rattle.lexer.specs.declared.TokenKind.{TokenKind}
use Rattle.token_bytes.specs.TokenBytes.{token_bytes}
use Rattle.text_pieces.specs.Pieces.{piece_at}
use Rattle.text_pieces.specs.declared.Piece.{Piece}
use Rattle.text_pieces.specs.declared.Piece.TheVariants.{Blank, Token}
use Rattle.text_reader.specs.Reading.{location_of}
use Rattle.text_reader.specs.Outcome.{is_read, Accepts, Leaves}
use Rattle.text_reader.proofs.OutcomeLaws.{record_size, answer_at, bytes_at, bytes_end, answer_blank, bytes_blank, token_read, write_turn}

module _ (source : ℕ) (text d : List ℕ) where
  -- What holds during the pass.
  abbrev pub Going : (writes : Bool) → (d' : List ℕ) → (at fill : ℕ) → Type 0
  Going true d' at fill = (is_read (answer_at source text at (length d') fill) ≡ true) × (append d 0 (bytes_at source text 0) ≡ append d' fill (bytes_at source text at))
  Going false d' at fill = d' ≡ d

  pub going_start : (w : Bool) → Accepts w (answer_at source text 0 (length d) 0) → Going w d 0 0
  going_start true a = (a, refl)
  going_start false a = refl

  module _ (d' : List ℕ) (at fill : ℕ) where
    pub going_blank : (w : Bool) (p : Piece) → at < length text → p ≡ piece_at text at → p ≡ Blank → Going w d' at fill → Going w d' (at + 1) fill
    going_blank true p h e f g = (
      sym (ap is_read (answer_blank source text at p h e f (length d') fill)) ∙ g.0,
      g.1 ∙ ap (append d' fill) (bytes_blank source text at p h e f),
    )
    going_blank false p h e f g = g

    pub going_fault : (w : Bool) (r : Refusal) → answer_at source text at (length d') fill ≡ Err r → Going w d' at fill → Leaves w d d' (bytes_at source text 0)
    going_fault true r e g = absurd (false≢true (sym (ap is_read e) ∙ g.0))
    going_fault false r e g = g

    pub going_end : (w : Bool) → length text ≤ at → Going w d' at fill → Leaves w d d' (bytes_at source text 0)
    going_end true h g = sym (g.1 ∙ ap (append d' fill) (bytes_end source text at h) ∙ sym (append_none d' fill))
    going_end false h g = g

    pub going_put : (p : Piece) (h : at < length text) (e : p ≡ piece_at text at) (kind : TokenKind) (size : ℕ) (f : p ≡ Token kind size) (d'' : List ℕ) → length d'' ≡ length d'
        → d'' ≡ append d' fill (token_bytes text (record { location = location_of source at; kind = kind })) → Going true d' at fill → Going true d'' (at + size) (fill + record_size kind)
    going_put p h e kind size f d'' l w g = (
      ap (λ (n : ℕ). is_read (answer_at source text (at + size) n (fill + record_size kind))) l ∙ (token_read source text at p h e kind size f (length d') fill g.0).1,
      g.1 ∙ write_turn source text at p h e kind size f d' d'' fill g.0 w,
    )
