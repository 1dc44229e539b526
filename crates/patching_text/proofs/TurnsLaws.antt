-- Laws of a script's turns: how long their texts are, and the text of a script from its next turn on. Assumes nothing.
use Rattle.std.specs.Prelude.{ℕ, zero, suc, ◌+◌, ◌-◌, ◌*◌, ◌≤◌, ◌<◌, ◌≡◌, refl, Bool, true, false, ◌&&◌, List, [], ◌∷◌, ◌++◌, leb, ltb, eqb, length, drop, get_or, Err, Ok}
use Rattle.std.specs.Result.{is_ok}
use Rattle.std.proofs.Common.{arith, sym, ap, subst, ◌∙◌, append_assoc, length-append, leb-true, le-leb, ltb-true, ltb-false, lt-ltb, le-ltb, eq-eqb, ne_eqb}
use Rattle.std.proofs.lemmas.Bool.{lt-leb}
use Rattle.std.proofs.Math.Bool.{and-eq-true_iff}
use Rattle.io.specs.Digits.{last_digits}
use Rattle.jobs.specs.declared.Job.{Job}
use Rattle.record.specs.Texts.{bytes_of}
use Rattle.refusal.specs.Numbers.{numbered}
use Rattle.emit_outcome.specs.Answer.{EmitAnswer}
use Rattle.patching_outcome.specs.declared.PatchCounts.{PatchCounts}
use Rattle.patching_outcome.specs.declared.Progress.TheVariants.{Patched, Ended}
use Rattle.patching_outcome.specs.Patching.{Patching}
use Rattle.patching_outcome.specs.Step.{StepAnswer, StepOutcome, step_outcome}
use Rattle.patching_outcome.specs.Line.{LineGiven, LineOutcome, line_outcome}
use Rattle.patching_line.specs.Contract.{given_of}
use Rattle.labels.specs.Labels.{table_of}
use Rattle.input.specs.Input.{behind_lists, list_of, word_or_zero, half_or_zero}
use Rattle.text.specs.Text.{last_field, refused_line}
use Rattle.text.proofs.TextLaws.{digits_length, last_most, refused_most}
use Rattle.bytes_line.specs.BytesLine.{bytes_line}
use Rattle.bytes_line.proofs.BytesLineLaws.{bytes_length}
use Rattle.line_text.specs.Line.{position_line, answer_text, fills_line}
use Rattle.line_text.proofs.LineLaws.{position_most, fills_most}
use Rattle.patching_text.specs.Script.{step_text, line_text, state_text, fills_of, counts_text, end_text, Given, turn_byte, line_in, turned_by, step_turn, line_turn, turn_of, behind_turn, script_text, most_turns}
use Rattle.patching_text.specs.Turns.{Turns, goes_on}

-- ---- lengths

pub step_most : (a : StepAnswer) → length (step_text a) ≤ 144
step_most (Ok (Patched n)) = omega (arith, last_most n)
step_most (Ok (Ended address)) = omega (arith, length-append (bytes_of "ended " ++ last_digits 16 8 address) (bytes_of "\n"), length-append (bytes_of "ended ") (last_digits 16 8 address), digits_length 16 8 address)
step_most (Err r) = omega (arith, refused_most (numbered r))

pub line_most : (a : EmitAnswer) → length (line_text a) ≤ 144
line_most (Ok done) = omega (arith, position_most done.position)
line_most (Err refused) = omega (arith, length-append (refused_line (numbered refused.refusal)) (position_line refused.position), refused_most (numbered refused.refusal), position_most refused.position)

-- A line's text, from the text of its emit call's answer.
pub accepted_is : (a : EmitAnswer) → is_ok a ≡ true → line_text a ≡ bytes_of "accepted\n" ++ answer_text a
accepted_is (Ok done) e = refl
accepted_is (Err refused) e = let z : ◌≡◌ {A = ℕ} 0 1 = cc in absurd (omega arith)

pub refused_is : (a : EmitAnswer) → is_ok a ≡ false → line_text a ≡ answer_text a
refused_is (Ok done) e = let z : ◌≡◌ {A = ℕ} 0 1 = cc in absurd (omega arith)
refused_is (Err refused) e = refl

pub state_most : (state : ℕ) → length (state_text state) ≤ 14
state_most state = go (eqb state 0) (eqb state 1)
  where
    go : (a b : Bool) → length {A = ℕ} (elim a [ true ↦ bytes_of "state running\n" | false ↦ elim b [ true ↦ bytes_of "state ended\n" | false ↦ bytes_of "state refused\n" ] ]) ≤ 14
    go true b = omega arith
    go false true = omega arith
    go false false = omega arith

pub counts_length : (c : PatchCounts) → length (counts_text c) ≡ length (state_text c.state) + length (fills_line (fills_of c)) + length (bytes_of "patches" ++ last_field c.patches)
unfolding counts_text
counts_length c =
    omega (arith, length-append (state_text c.state ++ fills_line (fills_of c)) (bytes_of "patches" ++ last_field c.patches), length-append (state_text c.state) (fills_line (fills_of c)))

pub counts_most : (c : PatchCounts) → length (counts_text c) ≤ 112
counts_most c = omega (arith, counts_length c, state_most c.state, fills_most (fills_of c), last_most c.patches)

pub end_length : (c : PatchCounts) (regions pending breakpoints : List ℕ) → length (end_text c regions pending breakpoints)
    ≡ length (counts_text c) + length (bytes_line (bytes_of "regions ") regions) + length (bytes_line (bytes_of "pending ") pending) + length (bytes_line (bytes_of "breakpoints ") breakpoints)
unfolding end_text
end_length c regions pending breakpoints =
    let one = counts_text c ++ bytes_line (bytes_of "regions ") regions in
    let two = one ++ bytes_line (bytes_of "pending ") pending in
    omega (arith, length-append two (bytes_line (bytes_of "breakpoints ") breakpoints), length-append one (bytes_line (bytes_of "pending ") pending), length-append (counts_text c) (bytes_line (bytes_of "regions ") regions))

-- The text of the end, with buffers held up to one byte over the limit.
pub end_most : (c : PatchCounts) (regions pending breakpoints : List ℕ) → length regions ≤ 65537 → length pending ≤ 65537 → length breakpoints ≤ 65537
    → length (end_text c regions pending breakpoints) ≤ 400000
end_most c regions pending breakpoints r p b =
    omega (arith, end_length c regions pending breakpoints, counts_most c, bytes_length (bytes_of "regions ") regions, bytes_length (bytes_of "pending ") pending, bytes_length (bytes_of "breakpoints ") breakpoints, r, p, b)

-- ---- the byte of a turn

pub byte_none : (s : List ℕ) → length s ≡ 0 → turn_byte s ≡ 2
byte_none [] h = refl
byte_none (b ∷ bs) h = absurd (omega arith)

pub byte_there : (s : List ℕ) → 0 < length s → get_or s 0 0 ≡ turn_byte s
byte_there [] h = absurd (omega arith)
byte_there (b ∷ bs) h = refl

pub not_zero : (n : ℕ) → (n ≡ 0 → ⊥) → 0 < n
not_zero zero h = absurd (h refl)
not_zero (suc n) h = omega arith

-- A turn's byte is a byte of the script.
pub turn_there : (s : List ℕ) → leb (turn_byte s) 1 ≡ true → 1 ≤ length s
turn_there [] e = let z : ◌≡◌ {A = ℕ} 0 1 = cc in absurd (omega arith)
turn_there (b ∷ bs) e = omega arith

pub goes_yes : (turns : ℕ) (s : List ℕ) (b : ℕ) → turns < most_turns → b ≡ turn_byte s → leb b 1 ≡ goes_on turns s
goes_yes turns s b h e = rw (lt-ltb turns most_turns h, goes_on) (ap (λ (n : ℕ). leb n 1) e)

pub goes_no : (turns : ℕ) (s : List ℕ) → most_turns ≤ turns → false ≡ goes_on turns s
goes_no turns s h = rw (le-ltb turns most_turns h, goes_on)

-- ---- what is behind a turn

pub behind_step : (s rest : List ℕ) → turn_byte s ≡ 0 → rest ≡ drop 1 s → rest ≡ behind_turn s
unfolding behind_turn
behind_step s rest e f = rw (eq-eqb (turn_byte s) 0 e, behind_turn) f

pub behind_line : (s rest : List ℕ) → (turn_byte s ≡ 0 → ⊥) → rest ≡ drop 6 (behind_lists 2 (drop 1 s)) → rest ≡ behind_turn s
unfolding behind_turn
behind_line s rest e f = rw (ne_eqb (turn_byte s) 0 e, behind_turn) f

-- ---- the line of a script

pub line_given : (descriptors s tokens mnemonic numbers : List ℕ) (position region : ℕ) → tokens ≡ list_of 0 s → mnemonic ≡ list_of 1 s → numbers ≡ behind_lists 2 s
    → position ≡ word_or_zero numbers 0 → region ≡ half_or_zero numbers 4
    → given_of tokens mnemonic descriptors position region ≡ line_in descriptors s
line_given descriptors s tokens mnemonic numbers position region t m n p g =
    rw (t, m, p, g, n)

-- ---- a turn made

module _ {out out_after : List ℕ} where
  pub step_turns : (job : Job) (labels entry : List ℕ) (p : Patching) (a : StepAnswer) (q : Patching) → step_outcome job (table_of labels) entry p ≡ (record { answer = a; after = q })
      → out_after ≡ out ++ step_text a → Turns (step_turn job labels entry p) out out_after q
  unfolding step_turn
  step_turns job labels entry p a q e t =
      subst (λ (o : StepOutcome). Turns (turned_by (step_text o.answer) o.after) out out_after q) (sym e) (record { pushed = t; short = step_most a; left = refl })

  pub line_turns : (job : Job) (line line' : LineGiven) (p : Patching) (a : EmitAnswer) (q : Patching) → line' ≡ line → line_outcome job line' p ≡ (record { answer = a; after = q })
      → out_after ≡ out ++ line_text a → Turns (line_turn job line p) out out_after q
  unfolding line_turn
  line_turns job line line' p a q same e t =
      subst (λ (l : LineGiven). Turns (turned_by (line_text (line_outcome job l p).answer) (line_outcome job l p).after) out out_after q) same
      (subst (λ (o : LineOutcome). Turns (turned_by (line_text o.answer) o.after) out out_after q) (sym e) (record { pushed = t; short = line_most a; left = refl }))

  pub turn_step : (g : Given) (p : Patching) (s : List ℕ) (q : Patching) → turn_byte s ≡ 0 → Turns (step_turn g.job g.labels g.entry p) out out_after q
      → Turns (turn_of g p s) out out_after q
  unfolding turn_of
  turn_step g p s q e t = rw (eq-eqb (turn_byte s) 0 e, turn_of) t

  pub turn_line : (g : Given) (p : Patching) (s : List ℕ) (q : Patching) → (turn_byte s ≡ 0 → ⊥)
      → Turns (line_turn g.job (line_in g.descriptors (drop 1 s)) p) out out_after q → Turns (turn_of g p s) out out_after q
  unfolding turn_of
  turn_line g p s q e t = rw (ne_eqb (turn_byte s) 0 e, turn_of) t

-- ---- the text of a script, from its next turn on

module _ (g : Given) (p : Patching) (s : List ℕ) where
  abbrev end : List ℕ
  end = end_text p.counts p.regions p.pending p.breakpoints

  script_next : (n : ℕ) → leb (turn_byte s) 1 ≡ true → script_text (suc n) g p s ≡ (turn_of g p s).text ++ script_text n g (turn_of g p s).after (behind_turn s)
  unfolding script_text
  script_next n e = rw (e, script_text)

  script_over : (n : ℕ) → leb (turn_byte s) 1 ≡ false → script_text n g p s ≡ end_text p.counts p.regions p.pending p.breakpoints
  unfolding script_text
  script_over zero e = refl
  script_over (suc n) e = rw (e, script_text)

  pub script_end : (turns : ℕ) → goes_on turns s ≡ false → script_text (most_turns - turns) g p s ≡ end_text p.counts p.regions p.pending p.breakpoints
  unfolding script_text
  script_end turns e = go (ltb turns most_turns) refl e
    where
      go : (b : Bool) → ltb turns most_turns ≡ b → (b && leb (turn_byte s) 1) ≡ false → script_text (most_turns - turns) g p s ≡ end_text p.counts p.regions p.pending p.breakpoints
      go true b x = script_over (most_turns - turns) x
      go false b x =
          let h = ltb-false turns most_turns b in
          let z : most_turns - turns ≡ 0 = omega arith in
          ap (λ (n : ℕ). script_text n g p s) z

-- ---- where the loop is: what it has printed begins the whole text
pub record Here (whole : List ℕ) (g : Given) (p : Patching) (rest out : List ℕ) (turns : ℕ) : Type 0 where
  pub few : turns ≤ most_turns
  pub short : length out ≤ 144 * turns
  pub left : whole ≡ out ++ script_text (most_turns - turns) g p rest

pub here_first : (out : List ℕ) (g : Given) (p : Patching) (s : List ℕ) → out ≡ [] → Here (script_text most_turns g p s) g p s out 0
here_first out g p s e =
    let text = script_text most_turns g p s in
    record {
      few = omega arith;
      short = omega (arith, ap length e);
      left = ap (λ (l : List ℕ). l ++ text) (sym e);
    }

module _ {whole : List ℕ} {g : Given} {p : Patching} {rest out : List ℕ} {turns : ℕ} (h : Here whole g p rest out turns) where
  -- there is room for the lines of a turn and of the end
  pub here_room : length out + 400000 ≤ 1195960
  here_room = omega (arith, h.few, h.short)

  pub here_turn : goes_on turns rest ≡ true → (turns < most_turns) × (leb (turn_byte rest) 1 ≡ true)
  here_turn e = let b = (and-eq-true_iff (ltb turns most_turns) (leb (turn_byte rest) 1)).0 e in (ltb-true turns most_turns b.0, b.1)

  pub here_then : turns < most_turns → turn_byte rest ≤ 1 → (out_after : List ℕ) (p_after : Patching) → Turns (turn_of g p rest) out out_after p_after
      → Here whole g p_after (behind_turn rest) out_after (turns + 1)
  here_then few next out_after p_after t =
      let text = (turn_of g p rest).text in
      let then = script_text (most_turns - (turns + 1)) g p_after (behind_turn rest) in
      let n : most_turns - turns ≡ suc (most_turns - (turns + 1)) = omega (arith, few) in
      record {
        few = omega (arith, few);
        short = omega (arith, ap length t.pushed, length-append out text, t.short, h.short);
        left =
            h.left
            ∙ ap (λ (l : List ℕ). out ++ l)
            (ap (λ (m : ℕ). script_text m g p rest) n ∙ script_next g p rest (most_turns - (turns + 1)) (le-leb (turn_byte rest) 1 next) ∙ ap (λ (q : Patching). text ++ script_text (most_turns - (turns + 1)) g q (behind_turn rest)) t.left)
            ∙ sym (append_assoc out text then)
            ∙ ap (λ (l : List ℕ). l ++ then) (sym t.pushed);
      }

  pub here_next : goes_on turns rest ≡ true → (out_after : List ℕ) (p_after : Patching) → Turns (turn_of g p rest) out out_after p_after
      → Here whole g p_after (behind_turn rest) out_after (turns + 1)
  here_next e = let b = here_turn e in here_then b.0 (leb-true (turn_byte rest) 1 b.1)

  -- Behind the last turn only the end's lines are left: no turn follows, or the limit of turns is reached.
  pub here_over : 1 < turn_byte rest → whole ≡ out ++ end_text p.counts p.regions p.pending p.breakpoints
  here_over e = h.left ∙ ap (λ (l : List ℕ). out ++ l) (script_over g p rest (most_turns - turns) (lt-leb (turn_byte rest) 1 e))

  pub here_full : most_turns ≤ turns → whole ≡ out ++ end_text p.counts p.regions p.pending p.breakpoints
  unfolding script_text
  here_full e =
      let z : most_turns - turns ≡ 0 = omega arith in
      h.left ∙ ap (λ (l : List ℕ). out ++ l) (ap (λ (n : ℕ). script_text n g p rest) z)

  pub here_last : goes_on turns rest ≡ false → (out_after : List ℕ) → out_after ≡ out ++ end_text p.counts p.regions p.pending p.breakpoints → out_after ≡ whole
  here_last e out_after q =
      q ∙ ap (λ (l : List ℕ). out ++ l) (sym (script_end g p rest turns e)) ∙ sym h.left
