-- A call is met if it gives what is expected. Also what is held of a line's lists, and the tally of the first calls. Assumes nothing.
use Rattle.std.specs.Prelude.{ℕ, ◌+◌, ◌≤◌, List, Bool, true, false, ◌&&◌, ltb, ◌≡◌, refl}
use Rattle.std.proofs.Common.{arith, add-one, ◌∙◌}
use Rattle.emit_outcome.specs.declared.LinePlace.{LinePlace}
use Rattle.emit_outcome.specs.Call.{Lent, lent_of}
use Rattle.linked_build.specs.LinkedBuild.{LinkedBuild, linked_build}
use Rattle.linked_line.specs.LinkedLine.{LinkedLine, linked_line}
use Rattle.input.specs.Input.{word_or_zero, list_of, held}
use Rattle.replay_text.specs.declared.Tally.{Tally}
use Rattle.replay_text.specs.Replay.{answer_space, is_list, built_met, place_in, emitted_met, line_met, call_met, counted, tally_of, tally_text, replay_text}

pub build_met_lem : (s regions labels entry pending : List ℕ) (l : LinkedBuild) (a b m : Bool) → labels ≡ list_of 0 s → entry ≡ list_of 1 s → pending ≡ list_of 3 s
    → linked_build labels entry regions pending answer_space ≡ l → a ≡ is_list s 4 l.answer → b ≡ is_list s 5 l.regions → m ≡ (a && b) → m ≡ built_met s regions
build_met_lem s regions labels entry pending l a b m e0 e1 e3 e ea eb em =
    let g : linked_build (list_of 0 s) (list_of 1 s) regions (list_of 3 s) answer_space ≡ l = rw (← e0, ← e1, ← e3) e in
    em ∙ rw (ea, eb, g)

pub line_met_lem : (s : List ℕ) (lent : Lent) (counts token_list mnemonic descriptors : List ℕ) (place : LinePlace) (l : LinkedLine) (a b d p k m : Bool)
    → token_list ≡ list_of 0 s → mnemonic ≡ list_of 1 s → descriptors ≡ list_of 2 s → place ≡ place_in (list_of 7 s)
    → linked_line token_list mnemonic descriptors lent counts place answer_space ≡ l → a ≡ is_list s 8 l.answer → b ≡ is_list s 9 l.counts
    → d ≡ is_list s 10 l.lent.region_data → p ≡ is_list s 11 l.lent.pending → k ≡ is_list s 12 l.lent.breakpoints
    → m ≡ ((a && b) && ((d && p) && k)) → m ≡ emitted_met s lent counts
line_met_lem s lent counts token_list mnemonic descriptors place l a b d p k m e0 e1 e2 e7 e ea eb ed ep ek em =
    let g : linked_line (list_of 0 s) (list_of 1 s) (list_of 2 s) lent counts (place_in (list_of 7 s)) answer_space ≡ l = rw (← e0, ← e1, ← e2, ← e7) e in
    em ∙ rw (ea, eb, ed, ep, ek, g)

pub line_held : (s «data» pending breakpoints counts : List ℕ) (m : Bool) → «data» ≡ held (list_of 3 s) → pending ≡ held (list_of 4 s)
    → breakpoints ≡ held (list_of 5 s) → counts ≡ held (list_of 6 s) → m ≡ emitted_met s (lent_of «data» pending breakpoints) counts → m ≡ line_met s
line_held s «data» pending breakpoints counts m ed ep eb ec e = rw (ed, ep, eb, ec) at e

-- ---- a tally of the first n calls
pub record Tallied (builds n : ℕ) (s : List ℕ) (t : Tally) : Type 0 where
  pub most : t.differ ≤ n
  pub is : t ≡ tally_of builds n s

pub tally_first : (builds : ℕ) (s : List ℕ) → Tallied builds 0 s (record { differ = 0; last = 0 })
unfolding tally_of
tally_first builds s = record { most = omega arith; is = refl }

counted_most : (met : Bool) (n : ℕ) (t : Tally) → t.differ ≤ n → (counted met (n + 1) t).differ ≤ n + 1
counted_most true n t h = omega arith
counted_most false n t h = omega arith

counted_is : (builds n : ℕ) (s : List ℕ) → counted (call_met (ltb n builds) (list_of (n + 1) s)) (n + 1) (tally_of builds n s) ≡ tally_of builds (n + 1) s
unfolding tally_of
counted_is builds n s = rw (add-one n)

pub tally_next : (builds n : ℕ) (s : List ℕ) (t : Tally) (met : Bool) → Tallied builds n s t → met ≡ call_met (ltb n builds) (list_of (n + 1) s)
    → Tallied builds (n + 1) s (counted met (n + 1) t)
tally_next builds n s t met h e =
    record {
      most = counted_most met n t h.most;
      is = rw (h.is, e) (counted_is builds n s);
    }

pub replay_is : (s head : List ℕ) (builds calls : ℕ) (t : Tally) → head ≡ list_of 0 s → builds ≡ word_or_zero head 0 → calls ≡ word_or_zero head 4
    → t ≡ tally_of builds calls s → tally_text calls t ≡ replay_text s
unfolding replay_text
replay_is s head builds calls t eh eb ec et = rw (et, eb, ec, eh)
