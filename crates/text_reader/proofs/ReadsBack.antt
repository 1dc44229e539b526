-- What `read_text` leaves is a token list of an emit call, and its tokens are those of the text (document 02, P7). Assumes nothing.
use Rattle.std.specs.Prelude.{ℕ, ◌+◌, ◌^◌, ◌≤◌, ◌<◌, List, Bool, true, false, ◌≡◌, refl, length, leb, Err, Ok, Result}
use Rattle.std.proofs.Common.{zero-add, arith, subst, ◌∙◌, leb-true, leb-false}
use Rattle.std.proofs.Math.Path.{sym, ap}
use Rattle.std.proofs.Math.ListN.{take}
use Rattle.record.specs.Records.{limit}
use Rattle.record.specs.Stores.{append}
use Rattle.record.proofs.StoresLaws.{filled_append}
use Rattle.refusal.specs.declared.Refusal.{Refusal}
use Rattle.refusal.specs.Leaves.{leaves}
use Rattle.token_bytes.proofs.Written.{list_bytes, AllFit, Written, written_reads_back}
use Rattle.text_reader.specs.Reading.{reading, tokens_of}
use Rattle.text_reader.specs.Outcome.{answer_of, bytes_of, read_text, is_read}
use Rattle.text_reader.proofs.OutcomeLaws.{read_fits, over_text, over_tokens, within_limits}
use Rattle.text_reader.proofs.TokensLaws.{tokens_all, bytes_are}

-- Each token fits its record.
all_fit : (source : ℕ) (text : List ℕ) → source < 2 ^ 32 → length text ≤ limit → AllFit text (tokens_of (reading source text))
all_fit source text h l =
    tokens_all source text (λ at ts. AllFit text ts) (λ at n. tt) (λ at ts e f. f)
    (λ at kind size ts b e stands f. (
      record {
        location_fits = record { source_fits = h; index_fits = omega arith };
        carried_fits = stands.carried_fits;
        float_fits = λ x g. absurd (stands.no_float x g);
      },
      f,
    ))

module _ (text : List ℕ) (source : ℕ) (tokens : List ℕ) (fill : ℕ) (read : answer_of text source (length tokens) ≡ Ok fill) where
  abbrev records : List ℕ
  records = bytes_of text (reading source text)

  -- The text and the buffer are within their limits.
  within : (length text ≤ limit) × (length tokens ≤ limit)
  within = go (leb (length text) limit) refl (leb (length tokens) limit) refl
    where
      refused : {r : Refusal} → answer_of text source (length tokens) ≡ Err r → ⊥
      refused e = let z : ◌≡◌ {A = ℕ} 0 1 = cc in omega arith

      go : (t : Bool) → leb (length text) limit ≡ t → (u : Bool) → leb (length tokens) limit ≡ u → (length text ≤ limit) × (length tokens ≤ limit)
      go false e u f = absurd (refused (over_text text source tokens (leb-false (length text) limit e)))
      go true e false f = absurd (refused (over_tokens text source tokens (leb-true (length text) limit e) (leb-false (length tokens) limit f)))
      go true e true f = (leb-true (length text) limit e, leb-true (length tokens) limit f)

  -- the fill is the records' length
  filled : (fill ≡ length records) × (length records ≤ limit)
  filled =
      let a = sym (within_limits text source tokens within.0 within.1) ∙ read in
      let f = read_fits text (length tokens) 0 (reading source text) (omega arith) (ap is_read a) in
      let n : fill ≡ 0 + length records = cc in
      (omega arith, omega (arith, f.0, within.1))

  list_is : take fill (read_text text source tokens).tokens ≡ list_bytes text (tokens_of (reading source text))
  unfolding read_text
  list_is =
      ap (λ (r : Result ℕ Refusal). take fill (leaves r records tokens)) read
      ∙ ap (λ (n : ℕ). take n (append tokens 0 records)) filled.0
      ∙ sym (ap (λ (n : ℕ). take n (append tokens 0 records)) (zero-add (length records)))
      ∙ filled_append tokens 0 records (omega arith)
      ∙ bytes_are text (reading source text)

-- the fill is within the token buffer
pub fill_within : (text : List ℕ) (source : ℕ) (tokens : List ℕ) (fill : ℕ) → (read_text text source tokens).answer ≡ Ok fill → fill ≤ length tokens
unfolding read_text
fill_within text source tokens fill read =
    let w = within text source tokens fill read in
    let a = sym (within_limits text source tokens w.0 w.1) ∙ read in
    omega (arith, read_fits text (length tokens) 0 (reading source text) (omega arith) (ap is_read a), (filled text source tokens fill read).0)

-- The filled part of the token buffer keeps the layout of an emit call's token list. Read as such a list, it gives the tokens of the text, each
-- with its location, kind and text.
pub reads_back : (text : List ℕ) (source : ℕ) (tokens : List ℕ) (fill : ℕ) → source < 2 ^ 32 → (read_text text source tokens).answer ≡ Ok fill
    → Written text (tokens_of (reading source text)) (take fill (read_text text source tokens).tokens)
unfolding read_text
reads_back text source tokens fill h read =
    let ts = tokens_of (reading source text) in
    let n = filled text source tokens fill read in
    let short : length (list_bytes text ts) ≤ limit = omega (arith, ap length (bytes_are text (reading source text))) in
    subst (Written text ts) (sym (list_is text source tokens fill read)) (written_reads_back text ts (all_fit source text h (within text source tokens fill read).0) short)
