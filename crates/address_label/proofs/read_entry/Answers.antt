use Rattle.std.specs.Prelude.{None}
use Rattle.std.proofs.Common.{◌<◌, ◌≡◌, List, ℕ, length, eqb-true, sym, arith}
use Rattle.std.proofs.lemmas.Bool.{eqb-false}
use Rattle.record.proofs.RecordsLaws.{good_ok, places_all}
use Rattle.address_label.specs.Entries.{entry_ok, entry_layout}
use Rattle.address_label.proofs.EntriesLaws.{EntryIs, entry_is, entry_good, entry_none, entry_stated}
use Rattle.address_label.proofs.read_entry.Goals as goal

-- If the list has a record, the record is an entry.
first : (s : List ℕ) → entry_layout s ≡ None → 0 < length s → EntryIs s 0
first s g h = entry_is s 0 (good_ok (entry_ok s) s 0 h (rw (places_all s) at (entry_good s g).1))

pub returns-then-is_empty : goal.returns-then-is_empty
returns-then-is_empty c = sym (entry_none _ (omega (arith, eqb-true (length c.args.entry.now) 0 (sym c.if-is_empty.ensures))))

pub next-requires : goal.next-requires
next-requires c = omega (arith, first c.args.entry.now c.requires (omega (arith, eqb-false (length c.args.entry.now) 0 (sym c.if-is_empty.ensures))))

pub address_label_at-requires : goal.address_label_at-requires
address_label_at-requires c =
    omega (arith, c.next.ensures.0, first c.args.entry.now c.requires (omega (arith, eqb-false (length c.args.entry.now) 0 (sym c.if-is_empty.ensures))))

pub returns : goal.returns
returns c =
    let s = c.args.entry.now in
    let h : 0 < length s = omega (arith, eqb-false (length c.args.entry.now) 0 (sym c.if-is_empty.ensures)) in
    cc (entry_stated s h (first s c.requires h).whole_at)
