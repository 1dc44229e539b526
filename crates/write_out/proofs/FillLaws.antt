-- Laws of the fill: steps one after the other, with their answer and the records that they write. Assumes nothing.
use Rattle.std.specs.Prelude.{ℕ, ◌+◌, ◌≤◌, ◌<◌, List, [], ◌∷◌, ◌++◌, Bool, true, false, ◌≡◌, refl, take, drop, leb, Err, Ok, Result}
use Rattle.std.proofs.Common.{arith, append_assoc, append-nil, sym, ap, ap₂, ◌∙◌, length-append, length-take, drop-drop, take_at, le-leb}
use Rattle.std.proofs.Math.ListN.{length}
use Rattle.std.proofs.Math.Seq.{drop-append-add}
use Rattle.std.proofs.lemmas.Bool.{lt-leb}
use Rattle.record.specs.Bytes.{location_at}
use Rattle.record.specs.Stores.{append}
use Rattle.record.proofs.StoresLaws.{append_none}
use Rattle.refusal.specs.declared.Refusal.{Refusal}
use Rattle.refusal.specs.declared.Refusal.TheVariants.{NoWrittenSpace}
use Rattle.written_out.specs.Written.{Step, write, stop}
use Rattle.written_out.specs.Outcome.{answer_from, bytes_of}
use Rattle.written_out.proofs.KeepsLayout.{fill_is}
use Rattle.macro_tokens.specs.Places.{only}
use Rattle.write_out.specs.Body.{written_from}

-- ---- one step
module _ (room fill : ℕ) (t : List ℕ) (steps : List Step) where
  pub answer_write : fill + length t ≤ room → answer_from room fill (write t ∷ steps) ≡ answer_from room (fill + length t) steps
  unfolding answer_from
  answer_write h = rw (le-leb (fill + length t) room h, answer_from)

  pub answer_short : room < fill + length t → answer_from room fill (write t ∷ steps) ≡ Err (NoWrittenSpace (location_at t 4))
  unfolding answer_from
  answer_short h = rw (lt-leb (fill + length t) room h, answer_from)

  pub written_write : fill + length t ≤ room → written_from room fill (write t ∷ steps) ≡ t ++ written_from room (fill + length t) steps
  unfolding written_from
  written_write h = rw (le-leb (fill + length t) room h, written_from)

  pub written_short : room < fill + length t → written_from room fill (write t ∷ steps) ≡ []
  unfolding written_from
  written_short h = rw (lt-leb (fill + length t) room h, written_from)

pub answer_stop_lem : (room fill : ℕ) (r : Refusal) (steps : List Step) → answer_from room fill (stop r ∷ steps) ≡ Err r
unfolding answer_from
answer_stop_lem room fill r steps = refl

pub written_stop : (room fill : ℕ) (r : Refusal) (steps : List Step) → written_from room fill (stop r ∷ steps) ≡ []
unfolding written_from
written_stop room fill r steps = refl

pub answer_none : (room fill : ℕ) → answer_from room fill [] ≡ Ok fill
unfolding answer_from
answer_none room fill = refl

pub written_none : (room fill : ℕ) → written_from room fill [] ≡ []
unfolding written_from
written_none room fill = refl

-- ---- steps and then others
abbrev pub then_answer : Result ℕ Refusal → (ℕ → Result ℕ Refusal) → Result ℕ Refusal
then_answer (Ok f) k = k f
then_answer (Err r) k = Err r

abbrev pub then_bytes : Result ℕ Refusal → (ℕ → List ℕ) → List ℕ
then_bytes (Ok f) k = k f
then_bytes (Err r) k = []

pub record Both (room fill : ℕ) (xs ys : List Step) : Type 0 where
  pub answers : answer_from room fill (xs ++ ys) ≡ then_answer (answer_from room fill xs) (λ f. answer_from room f ys)
  pub writes : written_from room fill (xs ++ ys) ≡ written_from room fill xs ++ then_bytes (answer_from room fill xs) (λ f. written_from room f ys)

pub both : (room fill : ℕ) (xs ys : List Step) → Both room fill xs ys
unfolding answer_from written_from
both room fill [] ys = record { answers = refl; writes = refl }
both room fill (stop r ∷ xs) ys = record { answers = refl; writes = refl }
both room fill (write t ∷ xs) ys = go (leb (fill + length t) room) refl (both room (fill + length t) xs ys)
  where
    go : (b : Bool) → leb (fill + length t) room ≡ b → Both room (fill + length t) xs ys → Both room fill (write t ∷ xs) ys
    go true e ih = record {
      answers = rw (e, answer_from) ih.answers;
      writes = rw (e, answer_from, written_from) (ap (λ (x : List ℕ). t ++ x) ih.writes ∙ sym (append_assoc t (written_from room (fill + length t) xs) _));
    }
    go false e ih = record { answers = rw (e, answer_from); writes = rw (e, answer_from, written_from) }

-- If all steps are accepted, all their records are written.
pub written_all : (room fill f : ℕ) (steps : List Step) → answer_from room fill steps ≡ Ok f → written_from room fill steps ≡ bytes_of steps
unfolding answer_from written_from bytes_of
written_all room fill f [] e = refl
written_all room fill f (stop r ∷ steps) e = refl
written_all room fill f (write t ∷ steps) e = go (leb (fill + length t) room) refl (written_all room (fill + length t) f steps)
  where
    go : (b : Bool) → leb (fill + length t) room ≡ b → (answer_from room (fill + length t) steps ≡ Ok f → written_from room (fill + length t) steps ≡ bytes_of steps)
        → written_from room fill (write t ∷ steps) ≡ t ++ bytes_of steps
    go true b ih = rw (b, written_from) (ap (λ (x : List ℕ). t ++ x) (ih (sym (rw (b, answer_from)) ∙ e)))
    go false b ih =
        let n : answer_from room fill (write t ∷ steps) ≡ Err (NoWrittenSpace (location_at t 4)) = rw (b, answer_from) in
        let z : ◌≡◌ {A = ℕ} 0 1 = cc in
        absurd (omega arith)

pub fill_written : (room fill f : ℕ) (steps : List Step) → fill ≤ room → answer_from room fill steps ≡ Ok f
    → (fill + length (written_from room fill steps) ≡ f) × (f ≤ room)
fill_written room fill f steps h e =
    let r = fill_is room fill f steps h e in
    (omega (arith, r.0, ap length (written_all room fill f steps e)), r.1)

-- ---- the buffer
split : (d : List ℕ) (at : ℕ) (bs cs : List ℕ) (k : ℕ) → at + length bs ≡ k → at ≤ length d → append d at (bs ++ cs) ≡ append (append d at bs) k cs
unfolding append
split d at bs cs k e h =
    let p : List ℕ = take at d ++ bs in
    let q : List ℕ = drop (at + length bs) d in
    let lp : length p ≡ k = simp (length-append, length-take) (omega arith) in
    let n : at + length bs + length cs ≡ at + length (bs ++ cs) = simp length-append (omega arith) in
    sym
    (ap₂ (λ (a b : List ℕ). a ++ cs ++ b) (take_at p q k lp)
    (ap (λ (n : ℕ). drop (n + length cs) (p ++ q)) (sym lp) ∙ drop-append-add p q (length cs) ∙ drop-drop (length cs) (at + length bs) d)
    ∙ ap₂ (λ (a : List ℕ) (n : ℕ). a ++ drop n d) (append_assoc (take at d) bs cs) n)

-- Bytes and then more bytes, whether they are really written or not.
pub split_only : (really : Bool) (d : List ℕ) (at : ℕ) (bs cs : List ℕ) (k : ℕ) → at + length bs ≡ k → at ≤ length d
    → append d at (only really (bs ++ cs)) ≡ append (append d at (only really bs)) k (only really cs)
split_only true d at bs cs k e h = split d at bs cs k e h
split_only false d at bs cs k e h = append_none (append d at []) k

pub none_only : (really : Bool) (d : List ℕ) (at : ℕ) → d ≡ append d at (only really [])
none_only true d at = append_none d at
none_only false d at = append_none d at

-- ---- one token, and none
module _ (really : Bool) (d : List ℕ) (fill : ℕ) (t : List ℕ) where
  abbrev one : List Step
  one = write t ∷ []

  pub one_answered : fill + length t ≤ length d → answer_from (length d) fill one ≡ Ok (fill + length t)
  one_answered h = answer_write (length d) fill t [] h ∙ answer_none (length d) (fill + length t)

  pub one_left : fill + length t ≤ length d → append d fill (only really t) ≡ append d fill (only really (written_from (length d) fill one))
  one_left h =
      ap (λ (x : List ℕ). append d fill (only really x))
      (sym (append-nil t) ∙ sym (written_write (length d) fill t [] h ∙ ap (λ (x : List ℕ). t ++ x) (written_none (length d) (fill + length t))))

  pub short_left : length d < fill + length t → d ≡ append d fill (only really (written_from (length d) fill one))
  short_left h = none_only really d fill ∙ ap (λ (x : List ℕ). append d fill (only really x)) (sym (written_short (length d) fill t [] h))

pub none_left : (really : Bool) (d : List ℕ) (fill : ℕ) → d ≡ append d fill (only really (written_from (length d) fill []))
none_left really d fill = none_only really d fill ∙ ap (λ (x : List ℕ). append d fill (only really x)) (sym (written_none (length d) fill))

pub stop_left : (really : Bool) (d : List ℕ) (fill : ℕ) (r : Refusal) (steps : List Step) → steps ≡ stop r ∷ []
    → (Err r ≡ answer_from (length d) fill steps) × (d ≡ append d fill (only really (written_from (length d) fill steps)))
stop_left really d fill r steps e = (
  sym (ap (answer_from (length d) fill) e ∙ answer_stop_lem (length d) fill r []),
  none_only really d fill ∙ ap (λ (x : List ℕ). append d fill (only really x)) (sym (ap (written_from (length d) fill) e ∙ written_stop (length d) fill r [])),
)
