-- What is printed depends only on the page buffer's length, and every length over the limit prints the same. Assumes nothing.
use Rattle.std.specs.Prelude.{ℕ, ◌+◌, ◌≤◌, ◌<◌, min, Bool, take, replicate, Err, Ok, Option}
use Rattle.std.proofs.Common.{arith, sym, ◌∙◌, length-take-le}
use mathlib.Core.List.{List, ◌++◌, append_assoc}
use Rattle.std.proofs.Math.Bool.{true, false}
use Rattle.std.proofs.Math.Path.{◌≡◌, refl, ap}
use Rattle.std.proofs.Math.Dec.{leb}
use Rattle.std.proofs.Math.ListN.{length, drop, length-take, take-append-drop}
use Rattle.std.proofs.lemmas.List.{length-replicate, drop-append-le}
use Rattle.std.proofs.Math.Seq.{take-append_seam}
use borrow.Author.Tests.{leb-true, leb-false, le-leb, lt-leb}
use Rattle.record.specs.Bytes.{le32}
use Rattle.record.specs.Stores.{append}
use Rattle.refusal.specs.Verdicts.{and_then, layout_verdict, name_verdict, Verdict}
use Rattle.refusal.proofs.VerdictsLaws.{both_pass}
use Rattle.refusal.specs.Numbers.{numbered}
use Rattle.refusal.specs.declared.Refusal.{Refusal}
use Rattle.refusal.specs.declared.Refusal.TheVariants.{BadLayout, NoPageSpace}
use Rattle.labels.specs.Labels.{label_layout, label_repeat}
use Rattle.regions.specs.Regions.{region_layout}
use Rattle.text.specs.Text.{Put, refused_line}
use Rattle.page_outcome.specs.Page.{page_of}
use Rattle.page_outcome.specs.Outcome.{PageOutcome, page_limit, layout_verdicts, room_verdict, page_verdict, outcome_by, page_outcome}
use Rattle.page_core.proofs.ChecksLaws.{page_long}
use Rattle.page_text.specs.PageText.{length_in, outcome_text}

-- ---- the length of the page buffer
pub length_missing : (rest : List ℕ) → length rest < 4 → page_limit ≡ length_in rest
length_missing rest h = rw (lt-leb 4 (length rest) h, length_in)

pub length_there : (rest : List ℕ) → 4 ≤ length rest → le32 rest 0 ≡ length_in rest
length_there rest h = rw (le-leb 4 (length rest) h, length_in)

-- ---- the text by the verdict
abbrev text_by : Verdict → (text : List ℕ) → List ℕ
text_by (Ok tt) text = text
text_by (Err r) text = refused_line (numbered r)

text_by_lem : (v : Verdict) (text page : List ℕ) → outcome_text (outcome_by v text page) ≡ text_by v text
unfolding append
text_by_lem (Ok tt) text page = take-append_seam text _
text_by_lem (Err r) text page = refl

-- a text put into the first bytes of a space
append_part : (space text : List ℕ) (room : ℕ) → length text ≤ length (take room space) → append (take room space) 0 text ++ drop room space ≡ append space 0 text
unfolding append
append_part space text room h =
    append_assoc text (drop (0 + length text) (take room space)) (drop room space)
    ∙ ap (λ (l : List ℕ). text ++ l) (sym (drop-append-le (0 + length text) (take room space) (drop room space) (omega arith)) ∙ ap (drop (0 + length text)) (take-append-drop room space))

-- A refusal of the page ends the checks.
stopped : (a b : Verdict) (r : Refusal) (x y : Verdict) → and_then (and_then a (and_then b (Err r))) x ≡ and_then (and_then a (and_then b (Err r))) y
stopped (Ok _) (Ok _) r x y = refl
stopped (Ok _) (Err q) r x y = refl
stopped (Err q) b r x y = refl

module _ (labels regions : List ℕ) where
  text_is : (page : List ℕ) → outcome_text (page_outcome labels regions page) ≡ text_by (page_verdict labels regions (length page)) (page_of labels regions)
  unfolding page_outcome
  text_is page = text_by_lem (page_verdict labels regions (length page)) (page_of labels regions) page

  -- ---- over the limit the length does not matter
  abbrev lists : Verdict → Verdict
  lists page = and_then (layout_verdict 0 (label_layout labels)) (and_then (layout_verdict 1 (region_layout regions)) page)

  abbrev behind : (size : ℕ) → Verdict
  behind size = and_then (name_verdict 0 (label_repeat labels)) (room_verdict (page_of labels regions) size)

  over : (size : ℕ) → page_limit < size → page_verdict labels regions size ≡ and_then (lists (Err (BadLayout 2 page_limit))) (behind size)
  unfolding page_verdict layout_verdicts
  over size h = ap (λ (c : Option ℕ). and_then (lists (layout_verdict 2 c)) (behind size)) (page_long size h)

  over_limit : (m n : ℕ) → page_limit < m → page_limit < n → page_verdict labels regions m ≡ page_verdict labels regions n
  over_limit m n h k =
      over m h ∙ stopped (layout_verdict 0 (label_layout labels)) (layout_verdict 1 (region_layout regions)) (BadLayout 2 page_limit) (behind m) (behind n) ∙ sym (over n k)

  -- ---- the part of a buffer that there is room for
  pub held_text : (space : List ℕ) (n room : ℕ) → length space ≡ 1195960 → room ≡ min n 1195960
      → outcome_text (page_outcome labels regions (take room space)) ≡ outcome_text (page_outcome labels regions (replicate n 0))
  held_text space n room z e =
      text_is (take room space) ∙ ap (λ (v : Verdict). text_by v (page_of labels regions)) (go (leb n page_limit) refl) ∙ sym (text_is (replicate n 0))
    where
      t : length (take room space) ≡ room
      t = length-take-le room space (omega arith)

      u : length (replicate {A = ℕ} n 0) ≡ n
      u = length-replicate {A = ℕ} n 0

      go : (b : Bool) → leb n page_limit ≡ b → page_verdict labels regions (length (take room space)) ≡ page_verdict labels regions (length (replicate {A = ℕ} n 0))
      go true f = let h = leb-true n page_limit f in ap (page_verdict labels regions) (omega (arith, t, u))
      go false f = let h = leb-false n page_limit f in over_limit (length (take room space)) (length (replicate {A = ℕ} n 0)) (omega (arith, t)) (omega (arith, u))

  -- ---- a page that is laid out is within its buffer
  pass_room : (size : ℕ) → page_verdict labels regions size ≡ Ok tt → length (page_of labels regions) ≤ size
  unfolding page_verdict
  pass_room size e = go (leb (length (page_of labels regions)) size) refl (both_pass (name_verdict 0 (label_repeat labels)) _ (both_pass (layout_verdicts labels regions size) _ e).1).1
    where
      go : (b : Bool) → leb (length (page_of labels regions)) size ≡ b → room_verdict (page_of labels regions) size ≡ Ok tt → length (page_of labels regions) ≤ size
      go true f p = leb-true (length (page_of labels regions)) size f
      go false f p =
          let q : room_verdict (page_of labels regions) size ≡ Err NoPageSpace = rw (f, room_verdict) in
          let z : ◌≡◌ {A = ℕ} 0 1 = cc in
          absurd (omega arith)

  pub page_within : (page part : List ℕ) (n : ℕ) → page_outcome labels regions page ≡ (record { answer = Ok n; page = part }) → n ≤ length page
  unfolding page_outcome
  page_within page part n e = go (page_verdict labels regions (length page)) refl e
    where
      go : (v : Verdict) → page_verdict labels regions (length page) ≡ v → outcome_by v (page_of labels regions) page ≡ (record { answer = Ok n; page = part }) → n ≤ length page
      go (Ok tt) f g =
          let q = ap (λ (o : PageOutcome). o.answer) g in
          let a : length (page_of labels regions) ≡ n = cc q in
          omega (arith, pass_room (length page) f)
      go (Err r) f g =
          let q = ap (λ (o : PageOutcome). o.answer) g in
          let z : ◌≡◌ {A = ℕ} 0 1 = cc q in
          absurd (omega arith)

  -- ---- the whole space, of which the page buffer is the first part
  -- a page that is laid out is put there
  pub page_put : (space part : List ℕ) (room n : ℕ) → room ≤ length space → page_outcome labels regions (take room space) ≡ (record { answer = Ok n; page = part })
      → Put space 0 (outcome_text (page_outcome labels regions (take room space))) (part ++ drop room space) n
  unfolding page_outcome
  page_put space part room n h e = go (page_verdict labels regions (length (take room space))) refl e
    where
      go : (v : Verdict) → page_verdict labels regions (length (take room space)) ≡ v → outcome_by v (page_of labels regions) (take room space) ≡ (record { answer = Ok n; page = part })
          → Put space 0 (outcome_text (outcome_by v (page_of labels regions) (take room space))) (part ++ drop room space) n
      go (Ok tt) f g =
          let l = pass_room (length (take room space)) f in
          let q = ap (λ (o : PageOutcome). o.answer) g in
          let a : length (page_of labels regions) ≡ n = cc q in
          let b = ap (λ (o : PageOutcome). o.page) g in
          rw (text_by_lem (Ok tt) (page_of labels regions) (take room space))
          (record {
            fits = omega (arith, l, length-take room space);
            ends = omega arith;
            bytes = ap (λ (q : List ℕ). q ++ drop room space) (sym b) ∙ append_part space (page_of labels regions) room l;
          })
      go (Err r) f g =
          let q = ap (λ (o : PageOutcome). o.answer) g in
          let z : ◌≡◌ {A = ℕ} 0 1 = cc q in
          absurd (omega arith)

  -- a refusal leaves it, and is printed alone
  pub page_refused : (space part : List ℕ) (room : ℕ) (r : Refusal) → page_outcome labels regions (take room space) ≡ (record { answer = Err r; page = part })
      → (part ++ drop room space ≡ space) × (outcome_text (page_outcome labels regions (take room space)) ≡ refused_line (numbered r))
  unfolding page_outcome
  page_refused space part room r e = (go (page_verdict labels regions (length (take room space))) e, ap outcome_text e)
    where
      go : (v : Verdict) → outcome_by v (page_of labels regions) (take room space) ≡ (record { answer = Err r; page = part }) → part ++ drop room space ≡ space
      go (Ok tt) g =
          let q = ap (λ (o : PageOutcome). o.answer) g in
          let z : ◌≡◌ {A = ℕ} 0 1 = cc q in
          absurd (omega arith)
      go (Err s) g = ap (λ (l : List ℕ). l ++ drop room space) (sym (ap (λ (o : PageOutcome). o.page) g)) ∙ take-append-drop room space
