-- What holds for every pending list that emit calls leave: the three premises of the tender that are about patches alone. Assumes nothing.
use Rattle.std.specs.Prelude.{ℕ, ◌%◌, ◌≡◌, List}
use Rattle.pending.specs.Pendings.{pending_at}
use Rattle.pending.specs.declared.InstructionLabelKind.TheVariants.{Lower, Upper, Full}
use Rattle.finished_words.specs.Listed.{In, Apart}
use Rattle.reading.specs.Premises.{SharedTarget, Pair}

pub record Tidy (pending : List ℕ) : Type 0 where
  -- "patch addresses multiples of four", if their regions' addresses are
  pub on_words : (p : ℕ) → In pending p → (pending_at pending p).offset % 4 ≡ 0
  -- "patches not overlapping"
  pub apart : Apart pending
  -- "every half in a pair"
  pub upper_paired : (p : ℕ) → In pending p → (pending_at pending p).kind ≡ Upper → (q : ℕ) × Pair SharedTarget pending p q
  pub lower_paired : (q : ℕ) → In pending q → (pending_at pending q).kind ≡ Lower → (p : ℕ) × Pair SharedTarget pending p q
  -- no word of a line waits for a whole address
  pub none_full : (p : ℕ) → In pending p → (pending_at pending p).kind ≡ Full → ⊥
