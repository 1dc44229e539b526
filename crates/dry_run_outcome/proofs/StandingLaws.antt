-- Words that stand in an image one after the other, and a dry run through them. Assumes nothing.
use Rattle.std.specs.Prelude.{ℕ, suc, ◌+◌, ◌*◌, ◌%◌, ◌^◌, ◌<◌, ◌≡◌, refl, List, [], ◌∷◌, ◌++◌, length, Some}
use Rattle.std.proofs.Common.{suc-add, zero-add, arith, sym, ap, ◌∙◌}
use Rattle.loading.specs.Run.{Registers, Outcome, ran, failed, step as load_step, run as load_run}
use Rattle.reading.specs.Reading.{Image}
use Rattle.machine.specs.Instructions.{opcode, rs}
use Rattle.machine.specs.Effects.{next_pc}
use Rattle.machine.specs.Step.{goes, stops, at, step_word}
use Rattle.machine.proofs.LoadingAgrees.{agrees}
use Rattle.machine.specs.declared.Machine.{Machine}
use Rattle.machine.specs.declared.Reason.{Reason}
use Rattle.dry_run_outcome.specs.Fetch.{fetch}
use Rattle.dry_run_outcome.specs.Run.{step, ended, later, run}
use Rattle.dry_run_outcome.proofs.RunLaws.{later_later, later_none, run_goes, run_stops}

pub data Standing : Image → (pc : ℕ) → List ℕ → Type 0 where
  none : {image : Image} {pc : ℕ} → Standing image pc []
  next : {image : Image} {pc w : ℕ} {ws : List ℕ} → fetch image pc ≡ Some w → Standing image (next_pc pc) ws → Standing image pc (w ∷ ws)

-- the pc behind the words
abbrev pub pc_behind : List ℕ → ℕ → ℕ
pc_behind [] pc = pc
pc_behind (w ∷ ws) pc = pc_behind ws (next_pc pc)

pub behind_is : (ws : List ℕ) (pc : ℕ) → pc < 2 ^ 32 → pc_behind ws pc ≡ (pc + 4 * length ws) % 2 ^ 32
behind_is [] pc h = omega arith
behind_is (w ∷ ws) pc h = behind_is ws (next_pc pc) (omega arith) ∙ omega arith

pub standing_left : {image : Image} {pc : ℕ} (ws vs : List ℕ) → Standing image pc (ws ++ vs) → Standing image pc ws
standing_left [] vs s = none
standing_left {image = image} {pc = pc} (w ∷ ws) vs (next f s) = next f (standing_left {image = image} {pc = next_pc pc} ws vs s)

pub standing_right : {image : Image} {pc : ℕ} (ws vs : List ℕ) → Standing image pc (ws ++ vs) → Standing image (pc_behind ws pc) vs
standing_right [] vs s = s
standing_right {image = image} {pc = pc} (w ∷ ws) vs (next f s) = standing_right {image = image} {pc = next_pc pc} ws vs s

-- ---- one word

module _ (image : Image) (w : ℕ) (m : Machine) (f : fetch image m.pc ≡ Some w) where
  pub step_there : step image m ≡ step_word w m
  unfolding step
  step_there = rw f

  pub word_goes : (n : ℕ) (m' : Machine) → step_word w m ≡ goes m' → run (suc n) image m ≡ later 1 (run n image m')
  word_goes n m' e = run_goes n image m m' (step_there ∙ e)

  pub word_stops : (n : ℕ) (reason : Reason) → step_word w m ≡ stops reason → run (suc n) image m ≡ ended m reason
  word_stops n reason e = run_stops n image m reason (step_there ∙ e)

-- ---- words that load a constant (crate loading): the dry run changes the registers as the loading run does

-- each lui has 0 in rs
abbrev pub LuisPlain : List ℕ → Type 0
LuisPlain [] = Unit {0}
LuisPlain (w ∷ ws) = (opcode w ≡ 15 → rs w ≡ 0) × LuisPlain ws

-- A loading run runs the first word, and then the rest.
load_cons : (w : ℕ) (ws : List ℕ) (g g' : Registers) → load_run (w ∷ ws) g ≡ ran g' → (h : Registers) × (load_step w g ≡ ran h) × (load_run ws h ≡ ran g')
unfolding load_run
load_cons w ws g g' e = go (load_step w g) refl
  where
    go : (o : Outcome) → load_step w g ≡ o → (h : Registers) × (load_step w g ≡ ran h) × (load_run ws h ≡ ran g')
    go (ran h) f = (h, f, rw (f, load_run) at e)
    go failed f =
        let x : failed ≡ ran g' = rw (f, load_run) at e in
        let y : ◌≡◌ {A = ℕ} 0 1 = cc in
        absurd (omega arith)

pub loads_run : (image : Image) (ws : List ℕ) (pc : ℕ) (g g' : Registers) → Standing image pc ws → LuisPlain ws → load_run ws g ≡ ran g'
    → (n : ℕ) → run (length ws + n) image (at pc g) ≡ later (length ws) (run n image (at (pc_behind ws pc) g'))
unfolding load_run
loads_run image [] pc g g' s l e n =
    let k : g ≡ g' = cc in
    rw (zero-add, k) (sym (later_none (run n image (at pc g'))))
loads_run image (w ∷ ws) pc g g' (next f s) l e n =
    let x = load_cons w ws g g' e in
    let h = x.0 in
    ap (λ (k : ℕ). run k image (at pc g)) (suc-add (length ws) n)
    ∙ word_goes image w (at pc g) f (length ws + n) (at (next_pc pc) h) (agrees w (at pc g) h x.1 l.0)
    ∙ ap (later 1) (loads_run image ws (next_pc pc) h g' s l.1 x.2 n)
    ∙ later_later 1 (length ws) (run n image (at (pc_behind ws (next_pc pc)) g'))
    ∙ ap (λ (k : ℕ). later k (run n image (at (pc_behind ws (next_pc pc)) g'))) (omega arith)
