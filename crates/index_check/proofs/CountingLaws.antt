-- The check of a record's numbers, one after the other: all are right exactly if the numbers left are right. Assumes nothing.
use Rattle.std.specs.Prelude.{ℕ, ◌+◌, ◌*◌, ◌-◌, ◌≤◌, ◌<◌, List, Bool, true, false, ◌≡◌, length, Option}
use Rattle.std.specs.Option.{ForSome, is_some, unwrap_or}
use Rattle.std.proofs.Common.{arith, sym, subst}
use Rattle.record.specs.Bytes.{le16}
use Rattle.label_uses.specs.Uses.{UseKey, key_for}
use Rattle.label_uses.specs.ReadUse.{count_at, key_read}
use Rattle.use_adding.specs.Adding.{UseAt}
use Rattle.index_check.specs.Checks.{StandsFrom, NumbersFrom}
use Rattle.index_check.proofs.NumbersLaws.{OneRight, numbers_end, numbers_open, numbers_shut}

-- If a source was looked up before, the name has the key there.
pub stands_some : (labels name : List ℕ) (key : UseKey) (last : Option ℕ) → StandsFrom (is_some last) (key_for labels (unwrap_or last 0) name) key → ForSome last (λ (known : ℕ). key_for labels known name ≡ key)
stands_some labels name key last h known e = subst (λ (o : Option ℕ). StandsFrom (is_some o) (key_for labels (unwrap_or o 0) name) key) e h

abbrev AllRight : (labels pending index : List ℕ) (at : ℕ) → Type 0
AllRight labels pending index at = NumbersFrom labels pending (key_read index at) index (count_at index at) (at + 7) 0

pub record Counting (labels pending index : List ℕ) (at : ℕ) (key : UseKey) (left from least : ℕ) (some : Bool) (source : ℕ) : Type 0 where
  pub room : from + 2 * left ≤ length index
  pub held : StandsFrom some (key_for labels source key.name) key
  pub onward : NumbersFrom labels pending (key_read index at) index (count_at index at) (at + 7) 0 → NumbersFrom labels pending key index left from least
  pub back : NumbersFrom labels pending key index left from least → NumbersFrom labels pending (key_read index at) index (count_at index at) (at + 7) 0

module _ (labels pending index : List ℕ) (at : ℕ) (key : UseKey) where
  pub counting_start : (count : ℕ) → UseAt index at → key ≡ key_read index at → count ≡ count_at index at
      → Counting labels pending index at key count (at + 7) 0 false 0
  counting_start count u k c =
      let whole : AllRight labels pending index at → NumbersFrom labels pending key index count (at + 7) 0 =
      λ h. subst (λ (x : ℕ). NumbersFrom labels pending key index x (at + 7) 0) (sym c)
      (subst (λ (x : UseKey). NumbersFrom labels pending x index (count_at index at) (at + 7) 0) (sym k) h) in
      let again : NumbersFrom labels pending key index count (at + 7) 0 → AllRight labels pending index at =
      λ h. subst (λ (x : UseKey). NumbersFrom labels pending x index (count_at index at) (at + 7) 0) k
      (subst (λ (x : ℕ). NumbersFrom labels pending key index x (at + 7) 0) c h) in
      record { room = omega (arith, u.room, u.within); held = tt; onward = whole; back = again }

  module _ (left from least : ℕ) (some : Bool) (source : ℕ) (c : Counting labels pending index at key left from least some source) where
    -- This number is not right.
    pub counting_no : 0 < left → (OneRight labels pending key index from least → ⊥) → AllRight labels pending index at → ⊥
    counting_no h n all = n (numbers_open labels pending key index left from least h (c.onward all)).0

    -- This number is right.
    pub counting_next : (n other : ℕ) → 0 < left → n ≡ le16 index from → OneRight labels pending key index from least → key_for labels other key.name ≡ key
        → Counting labels pending index at key (left - 1) (from + 2) (n + 1) true other
    counting_next n other h e o k =
        let to : NumbersFrom labels pending key index (left - 1) (from + 2) (le16 index from + 1) → NumbersFrom labels pending key index (left - 1) (from + 2) (n + 1) =
        subst (λ (x : ℕ). NumbersFrom labels pending key index (left - 1) (from + 2) (x + 1)) (sym e) in
        let fro : NumbersFrom labels pending key index (left - 1) (from + 2) (n + 1) → NumbersFrom labels pending key index (left - 1) (from + 2) (le16 index from + 1) =
        subst (λ (x : ℕ). NumbersFrom labels pending key index (left - 1) (from + 2) (x + 1)) e in
        record {
          room = omega (arith, c.room);
          held = k;
          onward = λ all. to (numbers_open labels pending key index left from least h (c.onward all)).1;
          back = λ r. c.back (numbers_shut labels pending key index left from least h o (fro r));
        }

    pub counting_end : left ≤ 0 → AllRight labels pending index at
    counting_end h = c.back (numbers_end labels pending key index left from least h)
