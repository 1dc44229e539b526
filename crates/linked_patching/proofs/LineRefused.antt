-- A refused line changes neither the caller's record nor any lent byte except the answer's. Assumes nothing.
use Rattle.std.specs.Prelude.{ℕ, suc, ◌+◌, ◌*◌, ◌%◌, ◌/◌, ◌≤◌, ◌<◌, ◌≡◌, List, [], ◌∷◌, ◌++◌, length, drop}
use Rattle.std.proofs.Common.{arith, sym, ap, ap₂, ◌∙◌, drop-cons, le-leb}
use Rattle.std.proofs.Math.Nat.{div-eq_of_lt-le}
use Rattle.jobs.specs.declared.Job.{Job}
use Rattle.record.specs.Bytes.{byte_at, le32}
use Rattle.record.specs.Stores.{le32_bytes, append}
use Rattle.refusal.specs.declared.Refusal.{Refusal}
use Rattle.refusal.specs.Numbers.{numbered}
use Rattle.finished_words.specs.Listed.{Bytes}
use Rattle.emit_bytes.specs.Appended.{word_bytes}
use Rattle.emit_outcome.specs.Answer.{refused_at}
use Rattle.linked_line.specs.LineWords.{emitted_words}
use Rattle.linked_answer.specs.Words.{answer_bytes, words_as_bytes}
use Rattle.patching_outcome.specs.Patching.{patching_of}
use Rattle.patching_outcome.specs.Line.{LineGiven, line_outcome}
use Rattle.patching_laws.proofs.LineLaws as line
use Rattle.linked_patching.specs.LinkedPatching.{state_bytes, state_at, state_words, linked_patch_line}

-- The bytes of the number that four bytes make are these four bytes.
word_back : (a b c d : ℕ) → a < 256 → b < 256 → c < 256 → d < 256 → le32_bytes (a + 256 * b + 65536 * c + 16777216 * d) ≡ a ∷ b ∷ c ∷ d ∷ []
word_back a b c d h₀ h₁ h₂ h₃ =
    let w = a + 256 * b + 65536 * c + 16777216 * d in
    let q₁ : w / 256 ≡ b + 256 * c + 65536 * d = div-eq_of_lt-le 256 (omega arith) (omega arith) in
    let q₂ : w / 65536 ≡ c + 256 * d = div-eq_of_lt-le 65536 (omega arith) (omega arith) in
    let q₃ : w / 16777216 ≡ d = div-eq_of_lt-le 16777216 (omega arith) (omega arith) in
    let m₁ : (b + 256 * c + 65536 * d) % 256 ≡ b = omega arith in
    let m₂ : (c + 256 * d) % 256 ≡ c = omega arith in
    let m₃ : d % 256 ≡ d = omega arith in
    let e₀ : w % 256 ≡ a = omega arith in
    let e₁ : w / 256 % 256 ≡ b = ap (λ (x : ℕ). x % 256) q₁ ∙ m₁ in
    let e₂ : w / 65536 % 256 ≡ c = ap (λ (x : ℕ). x % 256) q₂ ∙ m₂ in
    let e₃ : w / 16777216 % 256 ≡ d = ap (λ (x : ℕ). x % 256) q₃ ∙ m₃ in
    ap₂ (λ (x y : ℕ). x ∷ y ∷ w / 65536 % 256 ∷ w / 16777216 % 256 ∷ []) e₀ e₁ ∙ ap₂ (λ (x y : ℕ). a ∷ b ∷ x ∷ y ∷ []) e₂ e₃

module _ (state : List ℕ) (bytes : Bytes state) where
  -- A number is read, and its bytes are written where they stood.
  read_back : (i j : ℕ) → i + 4 ≡ j → j ≤ length state → le32_bytes (le32 state i) ++ drop j state ≡ drop i state
  read_back i j e h =
      let n₁ : suc i ≡ i + 1 = omega arith in
      let n₂ : suc (i + 1) ≡ i + 2 = omega arith in
      let n₃ : suc (i + 2) ≡ i + 3 = omega arith in
      let n₄ : suc (i + 3) ≡ j = omega arith in
      let d₀ : drop i state ≡ byte_at state i ∷ drop (i + 1) state = drop-cons state i 0 (omega arith) ∙ ap (λ (n : ℕ). byte_at state i ∷ drop n state) n₁ in
      let d₁ : drop (i + 1) state ≡ byte_at state (i + 1) ∷ drop (i + 2) state = drop-cons state (i + 1) 0 (omega arith) ∙ ap (λ (n : ℕ). byte_at state (i + 1) ∷ drop n state) n₂ in
      let d₂ : drop (i + 2) state ≡ byte_at state (i + 2) ∷ drop (i + 3) state = drop-cons state (i + 2) 0 (omega arith) ∙ ap (λ (n : ℕ). byte_at state (i + 2) ∷ drop n state) n₃ in
      let d₃ : drop (i + 3) state ≡ byte_at state (i + 3) ∷ drop j state = drop-cons state (i + 3) 0 (omega arith) ∙ ap (λ (n : ℕ). byte_at state (i + 3) ∷ drop n state) n₄ in
      ap (λ (l : List ℕ). l ++ drop j state) (word_back (byte_at state i) (byte_at state (i + 1)) (byte_at state (i + 2)) (byte_at state (i + 3)) (bytes i) (bytes (i + 1)) (bytes (i + 2)) (bytes (i + 3)))
      ∙ sym (d₀ ∙ ap (λ (l : List ℕ). byte_at state i ∷ l) (d₁ ∙ ap (λ (l : List ℕ). byte_at state (i + 1) ∷ l) (d₂ ∙ ap (λ (l : List ℕ). byte_at state (i + 2) ∷ l) d₃)))

  -- All five numbers are read and written back.
  state_back : state_bytes ≤ length state → append state 0 (words_as_bytes (state_words (state_at state))) ≡ state
  unfolding append word_bytes
  state_back h =
      ap (λ (l : List ℕ). le32_bytes (le32 state 0) ++ l)
      (ap (λ (l : List ℕ). le32_bytes (le32 state 4) ++ l)
      (ap (λ (l : List ℕ). le32_bytes (le32 state 8) ++ l)
      (ap (λ (l : List ℕ). le32_bytes (le32 state 12) ++ l)
      (read_back 16 20 (omega arith) (omega arith)) ∙ read_back 12 16 (omega arith) (omega arith))
      ∙ read_back 8 12 (omega arith) (omega arith))
      ∙ read_back 4 8 (omega arith) (omega arith))
      ∙ read_back 0 4 (omega arith) (omega arith)

-- The caller's record consists of bytes. The call writes its five numbers back as they were.
pub line_refused : (job : Job) (given : LineGiven) (regions pending breakpoints state answer : List ℕ) (r : Refusal) (p : ℕ)
    → answer_bytes ≤ length answer → state_bytes ≤ length state → Bytes state → (line_outcome job given (patching_of regions pending breakpoints [] (state_at state))).answer ≡ refused_at r p
    → linked_patch_line job given regions pending breakpoints state answer
    ≡ (record {
      result = (numbered r).number;
      regions = regions;
      pending = pending;
      breakpoints = breakpoints;
      state = state;
      answer = append answer 0 (words_as_bytes (emitted_words (refused_at r p)));
    })
unfolding linked_patch_line
line_refused job given regions pending breakpoints state answer r p h k bytes e =
    let q = patching_of regions pending breakpoints [] (state_at state) in
    rw (le-leb answer_bytes (length answer) h, le-leb state_bytes (length state) k, linked_patch_line, e, line.line_refused job given q r p e, state_back state bytes k)
