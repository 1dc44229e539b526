-- The lists and numbers of an input (document 01, `finish`). Assumes nothing.
use Rattle.std.specs.Prelude.{ℕ, zero, suc, ◌+◌, List, true, false, leb, length, take, drop}
use Rattle.record.specs.Bytes.{le16, le32}

-- "each after its 4-byte byte count. A missing count is 0, and a list cut short ends there": nothing comes after a missing count
abbrev pub list_end : List ℕ → ℕ
list_end s = 4 + le32 s 0

abbrev pub list_in : List ℕ → List ℕ
list_in s = take (le32 s 0) (drop 4 s)

abbrev pub behind_list : List ℕ → List ℕ
behind_list s = drop (list_end s) s

-- the bytes after the first lists, as many as the number says
unfoldable pub behind_lists : ℕ → List ℕ → List ℕ
behind_lists zero s = s
behind_lists (suc n) s = behind_list (behind_lists n s)

-- the list with this number, counted from 0
abbrev pub list_of : ℕ → List ℕ → List ℕ
list_of n s = list_in (behind_lists n s)

-- a copy of a list that a call may change, cut one byte over the limit. That is as good as the whole list, as one over the limit is refused.
abbrev pub held : List ℕ → List ℕ
held s = take 65537 s

-- a number with a missing byte is 0
unfoldable pub word_or_zero : List ℕ → ℕ → ℕ
word_or_zero s at = elim (leb (at + 4) (length s)) [ true ↦ le32 s at | false ↦ 0 ]

unfoldable pub half_or_zero : List ℕ → ℕ → ℕ
half_or_zero s at = elim (leb (at + 2) (length s)) [ true ↦ le16 s at | false ↦ 0 ]
