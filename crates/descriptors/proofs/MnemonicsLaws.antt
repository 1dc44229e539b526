-- What a mnemonic's test says, fact by fact, what holds of a list of one mnemonic, and its name byte by byte. Assumes nothing.
use Rattle.std.specs.Prelude.{ℕ, zero, suc, ◌+◌, ◌≤◌, ◌<◌, List, [], ◌∷◌, ◌++◌, map, Bool, ◌&&◌, ◌≡◌, length, take, set, replicate, leb, eqb, None, Some}
use Rattle.std.proofs.Common.{add-one, arith, sym, ap₂, ◌∙◌, take-suc, take-suc-set, get_or-set_other, leb-true, leb-false}
use Rattle.std.specs.Char.{to_ascii_lowercase}
use Rattle.std.proofs.lemmas.Bool.Decides.{nat_tests}
use Rattle.std.proofs.lemmas.List.{map-append}
use Rattle.std.proofs.Math.Bool.{true, false, and-eq-true_iff}
use Rattle.std.proofs.Math.Path.{refl, ap}
use Rattle.record.specs.Bytes.{byte_at, is_text, all}
use Rattle.record.specs.Records.{body_len, kind_at, next, whole, places, places_from, first_bad_of, limit, within_limit}
use Rattle.record.proofs.RecordsLaws.{places_all, places_step, places_cut, places_end, whole_is, good_ok, of_good, limit_kept, limit_passed, limit_good}
use Rattle.descriptors.specs.Mnemonics.{mnemonic_bytes, mnemonic_ok, one_mnemonic, mnemonic_layout, lower, ZeroFrom}

pub record MnemonicIs (s : List ℕ) (at : ℕ) : Type 0 where
  pub whole_at : whole s at ≡ true
  pub head : at + 4 ≤ length s
  pub body : next s at ≤ length s
  pub least : 8 ≤ body_len s at
  pub most : body_len s at ≤ 24

pub mnemonic_is : (s : List ℕ) (at : ℕ) → mnemonic_ok s at ≡ true → MnemonicIs s at
unfolding mnemonic_ok
mnemonic_is s at e =
    let n = body_len s at in
    let kind = eqb (kind_at s at) 32 in
    let text = all is_text (mnemonic_bytes s at) in
    let w = (and-eq-true_iff (whole s at) (kind && leb 8 n && leb n 24 && text)).0 e in
    let r = whole_is s at w.0 in
    let b = (and-eq-true_iff (kind && leb 8 n && leb n 24) text).0 w.1 in
    let m = (and-eq-true_iff (kind && leb 8 n) (leb n 24)).0 b.0 in
    record { whole_at = w.0; head = r.0; body = r.1; least = leb-true 8 n ((and-eq-true_iff kind (leb 8 n)).0 m.0).1; most = leb-true n 24 m.1 }

module _ (s : List ℕ) where
  -- The layout of a list past the limit, of an empty list, and of a list that has a record.
  pub mnemonic_passed : limit < length s → mnemonic_layout s ≡ Some limit
  unfolding mnemonic_layout
  mnemonic_passed h = limit_passed s (one_mnemonic s (places s)) h

  kept : length s ≤ limit → mnemonic_layout s ≡ one_mnemonic s (places_from s 0)
  unfolding mnemonic_layout
  kept h = limit_kept s (one_mnemonic s (places s)) h ∙ ap (one_mnemonic s) (places_all s)

  pub mnemonic_none : length s ≡ 0 → mnemonic_layout s ≡ Some 0
  unfolding one_mnemonic
  mnemonic_none e = kept (omega arith) ∙ ap (one_mnemonic s) (places_end s 0 (omega arith)) ∙ ap Some e

  pub mnemonic_first : 0 < length s → mnemonic_layout s ≡ within_limit s (first_bad_of 1 (mnemonic_ok s) (places s))
  unfolding mnemonic_layout one_mnemonic
  mnemonic_first h = ap (within_limit s) (go (whole s 0) refl)
    where
      first : (ps : List ℕ) → places_from s 0 ≡ 0 ∷ ps → one_mnemonic s (places s) ≡ first_bad_of 1 (mnemonic_ok s) (places s)
      first ps e = rw (places_all s ∙ e)

      go : (w : Bool) → whole s 0 ≡ w → one_mnemonic s (places s) ≡ first_bad_of 1 (mnemonic_ok s) (places s)
      go true e = first (places_from s (next s 0)) (places_step s 0 h e)
      go false e = first [] (places_cut s 0 h e)

  pub mnemonic_some : 0 < length s → length s ≤ limit → mnemonic_layout s ≡ first_bad_of 1 (mnemonic_ok s) (places_from s 0)
  mnemonic_some h k = mnemonic_first h ∙ limit_kept s (first_bad_of 1 (mnemonic_ok s) (places s)) k ∙ ap (first_bad_of 1 (mnemonic_ok s)) (places_all s)

  within : mnemonic_layout s ≡ None → length s ≤ limit
  unfolding mnemonic_layout
  within g = (limit_good s (one_mnemonic s (places s)) g).0

  -- a list that keeps its layout begins with a mnemonic
  pub mnemonic_good : mnemonic_layout s ≡ None → MnemonicIs s 0
  mnemonic_good g = go (leb (length s) 0) refl
    where
      go : (b : Bool) → leb (length s) 0 ≡ b → MnemonicIs s 0
      go true e =
          let h = leb-true (length s) 0 e in
          let b = mnemonic_none (omega arith) in
          let z : ◌≡◌ {A = ℕ} 0 1 = cc in
          absurd (omega arith)
      go false e =
          let h = leb-false (length s) 0 e in
          let o = of_good 1 (mnemonic_ok s) (places_from s 0) (sym (mnemonic_some h (within g)) ∙ g) in
          mnemonic_is s 0 (good_ok (mnemonic_ok s) s 0 h o.0)

-- one more byte of the name, in lower case
pub lowered_next : (bytes name : List ℕ) (i b : ℕ) → i < length bytes → i < length name → take i bytes ≡ map lower (take i name) → b ≡ lower (byte_at name i)
    → take (i + 1) (set bytes i b) ≡ map lower (take (i + 1) name)
lowered_next bytes name i b h k e f =
    let r : map lower (take (suc i) name) ≡ map lower (take i name) ++ (lower (byte_at name i) ∷ []) =
    ap (map lower) (take-suc name i 0 k) ∙ map-append lower (take i name) (byte_at name i ∷ []) in
    rw add-one (take-suc-set bytes i b h ∙ ap₂ (λ (u : List ℕ) (v : ℕ). u ++ (v ∷ [])) e f ∙ sym r)

-- a list of zeros, and one more byte before them
pub zeros : (n i : ℕ) → byte_at (replicate n 0) i ≡ 0
zeros zero i = refl
zeros (suc n) zero = refl
zeros (suc n) (suc i) = zeros n i

pub zero_next : (bytes : List ℕ) (i b : ℕ) → ZeroFrom i bytes → ZeroFrom (i + 1) (set bytes i b)
zero_next bytes i b h k g = get_or-set_other bytes i k b 0 (omega arith) ∙ h k (omega arith)

-- A name with zeros behind it, in lower case. The library's lower case is document 01's.
lowered : (b : ℕ) → to_ascii_lowercase b ≡ lower b
lowered b = grind (arith, nat_tests)

pub name_lowered : (name rest : List ℕ) (n : ℕ) → length name ≡ n → take n (map to_ascii_lowercase (name ++ rest)) ≡ map lower name
name_lowered [] rest zero e = refl
name_lowered [] rest (suc n) e = absurd (omega arith)
name_lowered (x ∷ xs) rest zero e = absurd (omega arith)
name_lowered (x ∷ xs) rest (suc n) e = ap₂ (λ (u : ℕ) (v : List ℕ). u ∷ v) (lowered x) (name_lowered xs rest n (omega arith))

zeros_lowered : (rest : List ℕ) → ((i : ℕ) → byte_at rest i ≡ 0) → (i : ℕ) → byte_at (map to_ascii_lowercase rest) i ≡ 0
zeros_lowered [] z i = refl
zeros_lowered (x ∷ xs) z zero = ap to_ascii_lowercase (z 0)
zeros_lowered (x ∷ xs) z (suc i) = zeros_lowered xs (λ k. z (suc k)) i

pub rest_lowered : (name rest : List ℕ) (n : ℕ) → length name ≡ n → ((i : ℕ) → byte_at rest i ≡ 0) → ZeroFrom n (map to_ascii_lowercase (name ++ rest))
rest_lowered [] rest n e z i h = zeros_lowered rest z i
rest_lowered (x ∷ xs) rest n e z zero h = absurd (omega arith)
rest_lowered (x ∷ xs) rest n e z (suc i) h = rest_lowered xs rest (length xs) refl z i (omega arith)
