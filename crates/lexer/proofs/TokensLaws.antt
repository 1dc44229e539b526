-- What a token's test says, fact by fact, and what holds of a list of tokens that keeps its layout. Assumes nothing.
use Rattle.std.specs.Prelude.{ℕ, ◌+◌, ◌≤◌, ◌<◌, min, List, Bool, true, false, ◌&&◌, ◌≡◌, refl, length, get_or, leb, eqb, None, Some}
use Rattle.std.proofs.Common.{arith, sym, ap, ◌∙◌, lit≤}
use Rattle.std.proofs.Math.Bool.{and-eq-true_iff}
use Rattle.std.proofs.Math.ListN.{get_or-eq_default}
use borrow.Author.Tests.{leb-true, leb-false, eqb-true}
use Rattle.record.specs.Bytes.{byte_at}
use Rattle.record.specs.Records.{body_len, kind_at, whole, places, first_bad, limit}
use Rattle.record.proofs.RecordsLaws.{layout_from, whole_is, places_all, limit_kept, limit_passed, limit_good, first_limit}
use Rattle.lexer.specs.declared.Payload.{Payload}
use Rattle.lexer.specs.declared.Payload.TheVariants.{Slot, Number, Unknown}
use Rattle.lexer.specs.Tokens.{TokenIs, payload_len, payloads, payload_of, payload_ok, token_ok, token_layout}

-- A number that does not fit a byte is past a list of kinds, as 255 is.
pub of_byte : {A : Type 0} (l : List A) (d : A) (kind : ℕ) → length l ≤ 255 → get_or l (min kind 255) d ≡ get_or l kind d
of_byte l d kind h = go (leb kind 255) refl
  where
    go : (b : Bool) → leb kind 255 ≡ b → get_or l (min kind 255) d ≡ get_or l kind d
    go true b =
        let k = leb-true kind 255 b in
        let e : min kind 255 ≡ kind = omega arith in
        ap (λ (n : ℕ). get_or l n d) e
    go false b =
        let k = leb-false kind 255 b in
        let e : length l ≤ min kind 255 = omega arith in
        get_or-eq_default l d e ∙ sym (get_or-eq_default l d (omega arith))

pub payload_of_byte : (kind : ℕ) → payload_of (min kind 255) ≡ payload_of kind
unfolding payload_of
payload_of_byte kind = of_byte payloads Unknown kind (lit≤ tt)

-- the payload of two neighbouring kinds
one_of : (first kind : ℕ) (p : Payload) → first ≤ kind → kind ≤ first + 1 → payload_of first ≡ p → payload_of (first + 1) ≡ p → payload_of kind ≡ p
one_of first kind p h i e f = go (leb kind first) refl
  where
    go : (b : Bool) → leb kind first ≡ b → payload_of kind ≡ p
    go true b = let k = leb-true kind first b in let s : kind ≡ first = omega arith in ap payload_of s ∙ e
    go false b = let k = leb-false kind first b in let s : kind ≡ first + 1 = omega arith in ap payload_of s ∙ f

slot_of : (kind : ℕ) → 3 ≤ kind → kind ≤ 4 → payload_of kind ≡ Slot
unfolding payload_of
slot_of kind h i = one_of 3 kind Slot h i refl refl

number_of : (kind : ℕ) → 5 ≤ kind → kind ≤ 6 → payload_of kind ≡ Number
unfolding payload_of
number_of kind h i = one_of 5 kind Number h i refl refl

module _ (s : List ℕ) (at : ℕ) where
  slot_len : payload_ok Slot s at ≡ true → payload_len s at ≡ 1
  unfolding payload_ok
  slot_len e = eqb-true (payload_len s at) 1 ((and-eq-true_iff (eqb (payload_len s at) 1) (leb (byte_at s (at + 12)) 31)).0 e).0

  number_len : payload_ok Number s at ≡ true → payload_len s at ≡ 8
  unfolding payload_ok
  number_len e = eqb-true (payload_len s at) 8 e

  -- The payload's test, once the sort of payload is known.
  ok_as : (p : Payload) → payload_of (kind_at s at) ≡ p → payload_ok (payload_of (kind_at s at)) s at ≡ true → payload_ok p s at ≡ true
  ok_as p e h = sym (ap (λ (q : Payload). payload_ok q s at) e) ∙ h

  pub token_is : token_ok s at ≡ true → TokenIs s at
  unfolding token_ok
  token_is e =
      let kind = kind_at s at in
      let ok = payload_ok (payload_of kind) s at in
      let w = (and-eq-true_iff (whole s at) (leb 8 (body_len s at) && ok)).0 e in
      let p = (and-eq-true_iff (leb 8 (body_len s at)) ok).0 w.1 in
      let r = whole_is s at w.0 in
      record {
        whole_at = w.0;
        head = r.0;
        body = r.1;
        least = leb-true 8 (body_len s at) p.0;
        slot = λ h i. omega (arith, slot_len (ok_as Slot (slot_of kind h i) p.1));
        number = λ h i. omega (arith, number_len (ok_as Number (number_of kind h i) p.1));
      }

-- the place of a token that breaks the layout
pub token_place : (s : List ℕ) (p : ℕ) → token_layout s ≡ Some p → p ≤ limit
unfolding token_layout
token_place s p e = first_limit (token_ok s) s p e

-- Within the limit, the layout is that of the records. A longer list breaks the layout at the limit.
pub token_kept : (s : List ℕ) → length s ≤ limit → token_layout s ≡ layout_from (token_ok s) s 0
unfolding token_layout
token_kept s h = limit_kept s (first_bad (token_ok s) (places s)) h ∙ ap (first_bad (token_ok s)) (places_all s)

pub token_passed : (s : List ℕ) → limit < length s → token_layout s ≡ Some limit
unfolding token_layout
token_passed s h = limit_passed s (first_bad (token_ok s) (places s)) h

pub token_good : (s : List ℕ) → token_layout s ≡ None → (length s ≤ limit) × (first_bad (token_ok s) (places s) ≡ None)
unfolding token_layout
token_good s g = limit_good s (first_bad (token_ok s) (places s)) g
