-- Patches of regions up to the one that grows. Growing may come before or after writing them, and before or after putting them back.
-- What passed its checks still passes (document 02, P12). Assumes nothing.
use Rattle.std.specs.Prelude.{ℕ, ◌+◌, ◌≤◌, ◌<◌, List, ◌⊎◌, ◌≡◌, take}
use Rattle.std.proofs.Common.{arith, inl, inr, sym, ◌∙◌, length-take-le, get_or-take}
use Rattle.std.proofs.Math.Path.{ap}
use Rattle.std.proofs.Math.ListN.{length}
use Rattle.record.specs.Bytes.{byte_at, le32}
use Rattle.record.specs.Records.{body_len}
use Rattle.record.specs.Stores.{le16_bytes, append}
use Rattle.record_growth.proofs.PutLaws.{Out, put_length, put_in_lem, put_out, insert, insert_length, insert_before, put_put, put_insert, take_put, put_front, put_over}
use Rattle.patching_outcome.specs.Grown.{grown}

-- ---- a buffer that begins with a list of f bytes; its record at `from`, with a body of b bytes, grows
module _ (f from b : ℕ) (ws : List ℕ) (inner : from + 4 + b ≤ f) where
  abbrev to : ℕ
  to = from + 4 + b

  -- n bytes from i on that lie before the record, or inside it behind its length.
  abbrev pub Clear : (i n : ℕ) → Type 0
  Clear i n = ((from + 2 ≤ i) × (i + n ≤ from + 4 + b)) ⊎ (i + n ≤ from)

  pub record Fits (d : List ℕ) : Type 0 where
    pub room : f + length ws ≤ length d
    pub body : body_len (take f d) from ≡ b

  -- The buffer that a line leaves.
  abbrev pub grow : List ℕ → List ℕ
  grow d = append d 0 (grown (take f d) from ws)

  -- The grown list, with the place and the length given as numbers.
  abbrev grown_by : List ℕ → List ℕ
  grown_by s = append (insert s (from + 4 + b) ws) from (le16_bytes (b + length ws))

  by_numbers : (s : List ℕ) → body_len s from ≡ b → grown s from ws ≡ grown_by s
  unfolding grown
  by_numbers s e = ap (λ (n : ℕ). append (insert s (from + 4 + n) ws) from (le16_bytes (n + length ws))) e

  module _ (d : List ℕ) (fits : Fits d) where
    abbrev s : List ℕ
    s = take f d

    s_length : length s ≡ f
    s_length = length-take-le f d (omega (arith, fits.room))

    wide_length : length (insert s to ws) ≡ f + length ws
    wide_length = insert_length s to ws (omega (arith, s_length)) ∙ ap (λ (n : ℕ). n + length ws) s_length

    by_length : length (grown_by s) ≡ f + length ws
    by_length = put_length (insert s to ws) from (le16_bytes (b + length ws)) (omega (arith, wide_length)) ∙ wide_length

    grow_is : grow d ≡ append d 0 (grown_by s)
    grow_is = ap (append d 0) (by_numbers s fits.body)

    pub grow_length : length (grow d) ≡ length d
    grow_length = ap length grow_is ∙ put_length d 0 (grown_by s) (omega (arith, by_length, fits.room))

    -- a byte that is clear stays
    pub grow_byte : (j : ℕ) → Clear j 1 → byte_at (grow d) j ≡ byte_at d j
    grow_byte j c =
        let z : j ≡ 0 + j = omega arith in
        let l : j < f = low c in
        let k : j < to = below c in
        ap (λ (x : List ℕ). byte_at x j) grow_is ∙ ap (byte_at (append d 0 (grown_by s))) z ∙ put_in_lem d 0 (grown_by s) (omega (arith, by_length, fits.room)) j (omega (arith, by_length))
        ∙ put_out (insert s to ws) from (le16_bytes (b + length ws)) (omega (arith, wide_length)) j (out c)
        ∙ insert_before s to ws (omega (arith, s_length)) j k
        ∙ get_or-take f d j 0 l
      where
        low : Clear j 1 → j < f
        low (inl h) = omega arith
        low (inr h) = omega arith

        below : Clear j 1 → j < from + 4 + b
        below (inl h) = omega arith
        below (inr h) = omega arith

        out : Clear j 1 → Out j from 2
        out (inl h) = inr h.0
        out (inr h) = inl (omega arith)

    pub grow_word : (i : ℕ) → Clear i 4 → le32 (grow d) i ≡ le32 d i
    grow_word i c =
        omega (arith, grow_byte i (at 0 c), grow_byte (i + 1) (one (i + 1) c (omega arith) (omega arith)), grow_byte (i + 2) (one (i + 2) c (omega arith) (omega arith)), grow_byte (i + 3) (one (i + 3) c (omega arith) (omega arith)))
      where
        one : (j : ℕ) → Clear i 4 → i ≤ j → j < i + 4 → Clear j 1
        one j (inl h) x y = inl (omega arith, omega arith)
        one j (inr h) x y = inr (omega arith)

        at : ℕ → Clear i 4 → Clear i 1
        at n h = one i h (omega arith) (omega arith)

    -- Clear bytes are written.
    module _ (i : ℕ) (a : List ℕ) (clear : Clear i (length a)) where
      end : i + length a ≤ to
      end = go clear
        where
          go : Clear i (length a) → i + length a ≤ from + 4 + b
          go (inl h) = h.1
          go (inr h) = omega arith

      apart : (from + 2 ≤ i) ⊎ (i + length a ≤ from)
      apart = go clear
        where
          go : Clear i (length a) → (from + 2 ≤ i) ⊎ (i + length a ≤ from)
          go (inl h) = inl h.0
          go (inr h) = inr h

      pub put_taken : take f (append d i a) ≡ append s i a
      put_taken = take_put d f i a (omega (arith, end)) (omega (arith, fits.room))

      body_stays : body_len (append s i a) from ≡ b
      body_stays =
          omega (arith, put_out s i a (omega (arith, end, s_length)) from (out from apart (omega arith) (omega arith)), put_out s i a (omega (arith, end, s_length)) (from + 1) (out (from + 1) apart (omega arith) (omega arith)), fits.body)
        where
          out : (j : ℕ) → (from + 2 ≤ i) ⊎ (i + length a ≤ from) → from ≤ j → j < from + 2 → Out j i (length a)
          out j (inl h) x y = inl (omega arith)
          out j (inr h) x y = inr (omega arith)

      pub put_fits : Fits (append d i a)
      put_fits = record {
        room = omega (arith, put_length d i a (omega (arith, end, fits.room)), fits.room);
        body = ap (λ (x : List ℕ). body_len x from) put_taken ∙ body_stays;
      }

      pub put_grow : append (grow d) i a ≡ grow (append d i a)
      put_grow =
          let head = le16_bytes (b + length ws) in
          let wide = insert s to ws in
          let roomy : f + length ws ≤ length d = fits.room in
          ap (λ (x : List ℕ). append x i a) grow_is
          ∙ put_front d (grown_by s) i a (omega (arith, end, by_length)) (omega (arith, by_length, roomy))
          ∙ ap (append d 0)
          (put_put wide from head i a (omega (arith, wide_length)) (omega (arith, end, wide_length)) apart
          ∙ ap (λ (x : List ℕ). append x from head) (put_insert s to ws i a end (omega (arith, s_length))))
          ∙ sym (
          ap (λ (x : List ℕ). append (append d i a) 0 (grown x from ws)) put_taken
          ∙ ap (append (append d i a) 0) (by_numbers (append s i a) body_stays)
          ∙ put_over d (grown_by (append s i a)) i a (omega (arith, end, long)) (omega (arith, long, roomy))
          )
        where
          long : length (grown_by (append s i a)) ≡ f + length ws
          long =
              let l : length (append s i a) ≡ f = put_length s i a (omega (arith, end, s_length)) ∙ s_length in
              let w : length (insert (append s i a) to ws) ≡ f + length ws = insert_length (append s i a) to ws (omega (arith, l)) ∙ ap (λ (n : ℕ). n + length ws) l in
              put_length (insert (append s i a) to ws) from (le16_bytes (b + length ws)) (omega (arith, w)) ∙ w
