use Rattle.std.proofs.Common.{◌+◌, ◌≡◌, true, false, Bool, List, ℕ, length, take, sym, ap, subst}
use Rattle.label_uses.specs.Uses.{UseKey}
use Rattle.use_adding.specs.Adding.{IndexIn, Finds, Adds}
use Rattle.use_adding.proofs.AddingLaws.{part_in, found_room, found_adds, new_room, new_adds}
use Rattle.use_adding.proofs.add_use.Goals as goal

-- What is found in the filled part is found in the buffer.
found_in : (d part : List ℕ) (fill : ℕ) → part ≡ take fill d → (key : UseKey) (at : ℕ) (found : Bool) → Finds part (length part) key at found → Finds d fill key at found
found_in d part fill e key at found f us i = f us (subst (λ (s : List ℕ). IndexIn s (length s) us) (sym e) (part_in d fill us i))

pub put_number-requires : goal.put_number-requires
put_number-requires c =
    let a = c.args in
    let x = c.requires in
    found_room a.index.now a.fill a.key.now a.n x.us x.index_in c.in-Ok.at (found_in a.index.now c.new.result a.fill c.new.ensures a.key.now c.in-Ok.at true c.in-Ok.ensures x.us x.index_in) x.room

pub returns-in-Ok : goal.returns-in-Ok
returns-in-Ok c us i =
    let a = c.args in
    let x = c.requires in
    let at = c.in-Ok.at in
    let f = found_in a.index.now c.new.result a.fill c.new.ensures a.key.now at true c.in-Ok.ensures in
    let r = found_room a.index.now a.fill a.key.now a.n x.us x.index_in at (f x.us x.index_in) x.room in
    found_adds a.index.now a.fill a.key.now a.n us i at c.put_number.new.d (f us i) r.1 c.put_number.ensures

pub put_use-requires : goal.put_use-requires
put_use-requires c =
    let a = c.args in
    let x = c.requires in
    let at = c.in-Err.at in
    let f = found_in a.index.now c.new.result a.fill c.new.ensures a.key.now at false c.in-Err.ensures in
    let r = new_room a.index.now a.fill a.key.now a.n x.us x.index_in at (f x.us x.index_in) x.room in
    (r.0, r.1, x.index_in.limited)

pub returns-in-Err : goal.returns-in-Err
returns-in-Err c us i =
    let a = c.args in
    let x = c.requires in
    let at = c.in-Err.at in
    let f = found_in a.index.now c.new.result a.fill c.new.ensures a.key.now at false c.in-Err.ensures in
    let r = new_room a.index.now a.fill a.key.now a.n x.us x.index_in at (f x.us x.index_in) x.room in
    let e : a.fill + 13 + length c.key.inside.name.now ≡ a.fill + 13 + length a.key.now.name = ap (λ (k : UseKey). a.fill + 13 + length k.name) c.key.view_is in
    subst (λ (m : ℕ). Adds a.index.now c.put_use.new.d a.key.now a.n m us) (sym e) (new_adds a.index.now a.fill a.key.now a.n us i at c.put_use.new.d (f us i) r.1 c.put_use.ensures)
