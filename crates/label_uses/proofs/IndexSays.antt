-- The uses that are made pending by pending say what `Says` asks. A reader may believe this and `only_index`, and need not read how they are made.
-- Assumes nothing.
use Rattle.std.specs.Prelude.{ℕ, List}
use Rattle.label_uses.specs.Uses.{uses_of}
use Rattle.label_uses.specs.Says.{Says}
use Rattle.label_uses.proofs.SaysLaws.{says_all, to_says}

pub index_says : (labels pending : List ℕ) → Says labels pending (uses_of labels pending)
index_says labels pending = to_says labels pending (uses_of labels pending) (says_all labels pending)
