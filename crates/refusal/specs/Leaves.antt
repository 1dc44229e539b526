-- What a call that lists records leaves in a lent buffer (document 02, P7 and P8). Assumes nothing.
use Rattle.std.specs.Prelude.{ℕ, List, Err, Ok, Result}
use Rattle.record.specs.Stores.{append}
use Rattle.refusal.specs.declared.Refusal.{Refusal}

-- the records go to the buffer's start, and the bytes after them stay; a refusal changes no byte
abbrev pub leaves : Result ℕ Refusal → (records buffer : List ℕ) → List ℕ
leaves (Ok fill) records buffer = append buffer 0 records
leaves (Err r) records buffer = buffer
