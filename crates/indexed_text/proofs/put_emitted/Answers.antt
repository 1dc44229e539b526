-- Five texts, each behind the one before.
use Rattle.std.proofs.Common.{append_assoc}
use Rattle.indexed_text.specs.IndexedText.{outcome_text}
use Rattle.indexed_text.proofs.put_emitted.Goals as goal

pub returns : goal.returns
unfolding outcome_text
returns g c = simp (c.push_bytes-4.ensures, c.push_bytes-3.ensures, c.push_bytes-2.ensures, c.push_bytes.ensures, c.put_head.ensures, append_assoc)
