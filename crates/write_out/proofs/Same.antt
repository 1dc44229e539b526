-- Writing the remaining steps from a fill on is writing all steps: what a loop keeps. Assumes nothing.
use Rattle.std.specs.Prelude.{ℕ, ◌≤◌, List, [], ◌++◌, Bool, ◌≡◌, refl, length, Err, Ok, Result}
use Rattle.std.proofs.Common.{arith, append-nil, sym, ap, ◌∙◌}
use Rattle.record.specs.Stores.{append}
use Rattle.refusal.specs.declared.Refusal.{Refusal}
use Rattle.written_out.specs.Written.{Step}
use Rattle.written_out.specs.Outcome.{answer_from}
use Rattle.macro_tokens.specs.Places.{only}
use Rattle.write_out.specs.Body.{written_from}
use Rattle.write_out.proofs.FillLaws.{answer_none, written_none, then_answer, then_bytes, both, fill_written, split_only, none_only}

-- All steps, from `from` on in the buffer; `really` says if they are written.
module _ (really : Bool) (out₀ : List ℕ) (from : ℕ) (all : List Step) where
  abbrev room : ℕ
  room = length out₀

  pub record Same (out : List ℕ) (fill : ℕ) (steps : List Step) : Type 0 where
    pub within : fill ≤ length out₀
    pub kept : length out ≡ length out₀
    pub answer : answer_from room from all ≡ answer_from room fill steps
    pub bytes : append out₀ from (only really (written_from room from all)) ≡ append out fill (only really (written_from room fill steps))

  -- How the loop ends.
  pub record Ends (r : Result ℕ Refusal) (out : List ℕ) : Type 0 where
    pub answered : r ≡ answer_from room from all
    pub left : out ≡ append out₀ from (only really (written_from room from all))

  pub same_first : from ≤ length out₀ → Same out₀ from all
  same_first h = record { within = h; kept = refl; answer = refl; bytes = refl }

  module _ (out : List ℕ) (fill : ℕ) (steps : List Step) (s : Same out fill steps) where
    abbrev shown : List Step → List ℕ
    shown x = append out fill (only really (written_from room fill x))

    -- The next part of the steps, with its own answer.
    module _ (part on : List Step) (e : steps ≡ part ++ on) (r : Result ℕ Refusal) (out' : List ℕ) (a : r ≡ answer_from (length out) fill part)
        (w : out' ≡ append out fill (only really (written_from (length out) fill part))) where
      a' : answer_from room fill part ≡ r
      a' = sym (a ∙ ap (λ (n : ℕ). answer_from n fill part) s.kept)

      w' : out' ≡ append out fill (only really (written_from room fill part))
      w' = w ∙ ap (λ (n : ℕ). append out fill (only really (written_from n fill part))) s.kept

      answer_on : answer_from room from all ≡ then_answer r (λ f. answer_from room f on)
      answer_on = s.answer ∙ ap (answer_from room fill) e ∙ (both room fill part on).answers ∙ ap (λ (x : Result ℕ Refusal). then_answer x (λ f. answer_from room f on)) a'

      bytes_on : append out₀ from (only really (written_from room from all)) ≡ append out fill (only really (written_from room fill part ++ then_bytes r (λ f. written_from room f on)))
      bytes_on =
          s.bytes ∙ ap shown e
          ∙ ap (λ (x : List ℕ). append out fill (only really x))
          ((both room fill part on).writes ∙ ap (λ (x : Result ℕ Refusal). written_from room fill part ++ then_bytes x (λ f. written_from room f on)) a')

      pub same_call : (f : ℕ) → r ≡ Ok f → length out' ≡ length out → Same out' f on
      same_call f g l =
          let q = fill_written room fill f part s.within (a' ∙ g) in
          record {
            within = q.1;
            kept = l ∙ s.kept;
            answer = answer_on ∙ ap (λ (x : Result ℕ Refusal). then_answer x (λ f. answer_from room f on)) g;
            bytes = bytes_on ∙ ap (λ (x : Result ℕ Refusal). append out fill (only really (written_from room fill part ++ then_bytes x (λ f. written_from room f on)))) g
                ∙ split_only really out fill (written_from room fill part) (written_from room f on) f q.0 (omega (arith, s.within, s.kept))
                ∙ ap (λ (x : List ℕ). append x f (only really (written_from room f on))) (sym w');
          }

      pub ends_call : (x : Refusal) → r ≡ Err x → Ends (Err x) out'
      ends_call x g = record {
        answered = sym (answer_on ∙ ap (λ (y : Result ℕ Refusal). then_answer y (λ f. answer_from room f on)) g);
        left = w' ∙ ap (λ (y : List ℕ). append out fill (only really y)) (sym (append-nil (written_from room fill part)))
            ∙ sym (bytes_on ∙ ap (λ (y : Result ℕ Refusal). append out fill (only really (written_from room fill part ++ then_bytes y (λ f. written_from room f on)))) g);
      }

    -- nothing is left
    pub ends_all : steps ≡ [] → Ends (Ok fill) out
    ends_all e = record {
      answered = sym (s.answer ∙ ap (answer_from room fill) e ∙ answer_none room fill);
      left = none_only really out fill ∙ sym (s.bytes ∙ ap (λ (x : List ℕ). append out fill (only really x)) (ap (written_from room fill) e ∙ written_none room fill));
    }
