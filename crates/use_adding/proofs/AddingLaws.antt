-- Laws of the walk to a key's place. Assumes nothing.
use Rattle.std.specs.Prelude.{ℕ, ◌+◌, ◌*◌, ◌-◌, ◌≤◌, ◌<◌, Bool, true, false, ltb, ◌≡◌, refl, length, take, drop}
use Rattle.std.proofs.Common.{arith, sym, ap, ap₂, ◌∙◌, subst, length-append, take-append-drop, length-take-le, take-take, ltb-true, ltb-false}
use Rattle.record.proofs.OneMoreLaws.{is_whole}
use mathlib.Core.List.Memᴰ
use mathlib.Core.List.{List, [], ◌∷◌, ◌++◌, append_assoc, Memᴰ}
use Rattle.record.specs.Bytes.{le16, part}
use Rattle.record.specs.Stores.{le16_bytes, le32_bytes, append}
use Rattle.record.proofs.StoresLaws.{append_then}
use Rattle.record.specs.Records.{next, body_len, whole, places_from}
use Rattle.record.proofs.RecordsLaws.{places_step, places_cut, places_cons}
use Rattle.label_uses.specs.Uses.{is_known, kept_of, UseKey, Use, use_order, one_use, more_use, insert_use}
use Rattle.label_uses.specs.UseBytes.{flag_of, numbers_bytes, use_body, uses_bytes, use_bytes}
use Rattle.label_uses.proofs.InsertLaws.{insert_less, insert_same, insert_none}
use Rattle.label_uses.proofs.UseBytesLaws.{cons_length, body_length, uses_none, uses_cons, uses_append, passed_behind, insert_behind}
use Rattle.label_uses.specs.Held.{Holds, Passed, none_passed}
use Rattle.label_uses.proofs.AddLaws.{put_record, put_number}
use Rattle.label_uses.specs.ReadUse.{count_at, owner_place, key_with, key_read}
use Rattle.label_uses.specs.declared.Standing.{Standing}
use Rattle.label_uses.proofs.ReadUseLaws.{UseFits, body_read, next_read, count_read, key_read_lem}
use Rattle.use_adding.specs.Adding.{IndexIn, Heads, PlaceIs, stands, missing, UseAt, Adds, grown_at}
use Rattle.std.specs.declared.cmp.Ordering.TheVariants.{Less, Equal, Greater}
use Rattle.std.specs.declared.cmp.Ordering.{Ordering}

-- ---- a record of the index, as it is read in the buffer
pub record UseHere (d : List ℕ) (fill at : ℕ) (u : Use) : Type 0 where
  pub key_is : key_read d at ≡ u.key
  pub body_is : body_len d at ≡ length (use_body u)
  pub count_is : count_at d at ≡ length u.numbers
  pub next_is : next d at ≡ at + length (use_bytes u)
  pub inside : next d at ≤ fill

pub use_here : (d : List ℕ) (fill : ℕ) (us l r : List Use) (u : Use) (at : ℕ) → IndexIn d fill us → us ≡ l ++ (u ∷ r) → at ≡ length (uses_bytes l) → UseHere d fill at u
use_here d fill us l r u at i e p =
    let a = uses_bytes l in
    let z = uses_bytes r ++ drop fill d in
    let bytes : uses_bytes us ≡ a ++ (use_bytes u ++ uses_bytes r) = ap uses_bytes e ∙ uses_append l (u ∷ r) ∙ ap (λ (x : List ℕ). a ++ x) (uses_cons u r) in
    let w : d ≡ a ++ (use_bytes u ++ z) =
    sym (take-append-drop fill d) ∙ ap (λ (x : List ℕ). x ++ drop fill d) (i.holds.filled ∙ bytes)
    ∙ append_assoc a (use_bytes u ++ uses_bytes r) (drop fill d) ∙ ap (λ (x : List ℕ). a ++ x) (append_assoc (use_bytes u) (uses_bytes r) (drop fill d)) in
    let n : length a + (length (use_bytes u) + length (uses_bytes r)) ≡ fill =
    omega (arith, ap length (i.holds.filled ∙ bytes), length-take-le fill d i.holds.within, length-append a (use_bytes u ++ uses_bytes r), length-append (use_bytes u) (uses_bytes r)) in
    let fits : UseFits u = record {
      body_fits = omega (arith, i.holds.within, i.limited);
      owner_fits = i.owners u (subst (Memᴰ u) (sym e) (Memᴰ.append_right l (Memᴰ.head refl)));
    } in
    let k : next d at ≡ at + length (use_bytes u) = ap (λ (x : List ℕ). next x at) w ∙ next_read a z u fits at p in
    record {
      key_is = ap (λ (x : List ℕ). key_read x at) w ∙ key_read_lem a z u fits at p;
      body_is = ap (λ (x : List ℕ). body_len x at) w ∙ body_read a z u fits at p;
      count_is = ap (λ (x : List ℕ). count_at x at) w ∙ count_read a z u fits at p;
      next_is = k;
      inside = omega arith;
    }

pub here_at : (d : List ℕ) (fill at : ℕ) (u : Use) → fill ≤ length d → UseHere d fill at u → UseAt d at
here_at d fill at u h x = record { room = omega (arith, x.count_is, x.next_is, body_length u); within = omega (arith, x.inside) }

-- ---- the walk: all uses before the place go before the key
pub record Reached (us : List Use) (key : UseKey) (at : ℕ) : Type 0 where
  pub before : List Use
  pub rest : List Use
  pub split : us ≡ before ++ rest
  pub passed : Passed key before
  pub place : at ≡ length (uses_bytes before)

pub reached_start : (us : List Use) (key : UseKey) → Reached us key 0
reached_start us key = record { before = []; rest = us; split = refl; passed = none_passed; place = sym (ap length uses_none) }

fill_is : (d : List ℕ) (fill : ℕ) (us l r : List Use) → IndexIn d fill us → us ≡ l ++ r → length (uses_bytes l) + length (uses_bytes r) ≡ fill
fill_is d fill us l r i e =
    omega (arith, ap length (i.holds.filled ∙ ap uses_bytes e ∙ uses_append l r), length-take-le fill d i.holds.within, length-append (uses_bytes l) (uses_bytes r))

-- At a place before the end, a record stands.
pub record Met (d : List ℕ) (fill : ℕ) (us : List Use) (key : UseKey) (at : ℕ) : Type 0 where
  pub before : List Use
  pub rest : List Use
  pub use_met : Use
  pub split : us ≡ before ++ (use_met ∷ rest)
  pub passed : Passed key before
  pub place : at ≡ length (uses_bytes before)
  pub here : UseHere d fill at use_met

module _ (d : List ℕ) (fill : ℕ) (us : List Use) (key : UseKey) (at : ℕ) (i : IndexIn d fill us) where
  pub met : Reached us key at → at < fill → Met d fill us key at
  met x h = go x.rest x.split
    where
      go : (r : List Use) → us ≡ x.before ++ r → Met d fill us key at
      go [] e = let n = fill_is d fill us x.before [] i e in absurd (omega (arith, x.place, ap length uses_none))
      go (u ∷ r) e = record { before = x.before; rest = r; use_met = u; split = e; passed = x.passed; place = x.place; here = use_here d fill us x.before r u at i e x.place }

  pub met_at : Reached us key at → at < fill → UseAt d at
  met_at x h = let m = met x h in here_at d fill at m.use_met i.holds.within m.here

  abbrev by_read : Met d fill us key at → Ordering → Type 0
  by_read m o = use_order key m.use_met.key ≡ o

  order_read : (m : Met d fill us key at) (o : Ordering) → use_order key (key_read d at) ≡ o → use_order key m.use_met.key ≡ o
  order_read m o e = ap (use_order key) (sym m.here.key_is) ∙ e

  pub reached_next : Reached us key at → at < fill → use_order key (key_read d at) ≡ Greater → Reached us key (next d at)
  reached_next x h e =
      let m = met x h in
      let u = m.use_met in
      let l = m.before in
      record {
        before = l ++ (u ∷ []);
        rest = m.rest;
        split = m.split ∙ sym (append_assoc l (u ∷ []) m.rest);
        passed = passed_behind key l u m.passed (order_read m Greater e);
        place = omega (
          arith,
          m.place,
          m.here.next_is,
          ap length (uses_append l (u ∷ []) ∙ ap (λ (y : List ℕ). uses_bytes l ++ y) (uses_cons u [])),
          length-append (uses_bytes l) (use_bytes u ++ uses_bytes []),
          length-append (use_bytes u) (uses_bytes []),
          ap length uses_none,
        );
      }

  pub reached_same : Reached us key at → at < fill → use_order key (key_read d at) ≡ Equal → PlaceIs us key at true
  reached_same x h e = let m = met x h in stands m.before m.rest m.use_met m.split m.passed m.place (order_read m Equal e)

  pub reached_less : Reached us key at → at < fill → use_order key (key_read d at) ≡ Less → PlaceIs us key at false
  reached_less x h e = let m = met x h in missing m.before (m.use_met ∷ m.rest) m.split m.passed m.place (order_read m Less e)

  pub reached_end : Reached us key at → fill ≤ at → PlaceIs us key at false
  reached_end x h = go x.rest x.split
    where
      go : (r : List Use) → us ≡ x.before ++ r → PlaceIs us key at false
      go [] e = missing x.before [] e x.passed x.place tt
      go (u ∷ r) e =
          let n = fill_is d fill us x.before (u ∷ r) i e in
          absurd (omega (arith, x.place, ap length (uses_cons u r), length-append (use_bytes u) (uses_bytes r)))

-- ---- the same over the places that a loop over the filled part has left
pub record Walked (s : List ℕ) (us : List Use) (key : UseKey) (left : List ℕ) : Type 0 where
  pub at : ℕ
  pub reached : Reached us key at
  pub left_are : left ≡ places_from s at

-- a loop's turn, which takes the place p
pub record WalkTurn (s : List ℕ) (us : List Use) (key : UseKey) (p : ℕ) (ps : List ℕ) : Type 0 where
  pub reached : Reached us key p
  pub within : p < length s
  pub first : places_from s p ≡ p ∷ ps

pub walk_turn : (s : List ℕ) (us : List Use) (key : UseKey) (p : ℕ) (left ps : List ℕ) → Walked s us key left → left ≡ p ∷ ps → WalkTurn s us key p ps
walk_turn s us key p left ps w e =
    let f : places_from s w.at ≡ p ∷ ps = sym w.left_are ∙ e in
    let c = places_cons s w.at p ps f in
    record {
      reached = subst (Reached us key) (sym c.1) w.reached;
      within = omega (arith, c.0, c.1);
      first = subst (λ (k : ℕ). places_from s k ≡ p ∷ ps) (sym c.1) f;
    }

-- The filled part, taken alone, is the same index.
pub filled_part : (d : List ℕ) (fill : ℕ) (us : List Use) → IndexIn d fill us → IndexIn (take fill d) fill us
filled_part d fill us i =
    let n = length-take-le fill d i.holds.within in
    record {
      holds = record { filled = take-take fill fill d (omega arith) ∙ i.holds.filled; within = omega arith };
      limited = omega (arith, i.holds.within, i.limited);
      owners = i.owners;
    }

pub part_in : (d : List ℕ) (fill : ℕ) (us : List Use) → IndexIn d fill us → IndexIn (take fill d) (length (take fill d)) us
part_in d fill us i = subst (λ (n : ℕ). IndexIn (take fill d) n us) (sym (length-take-le fill d i.holds.within)) (filled_part d fill us i)

-- Behind a record, the places go on where it ends.
pub left_behind : (s : List ℕ) (p : ℕ) (ps : List ℕ) → p < length s → whole s p ≡ true → places_from s p ≡ p ∷ ps → ps ≡ places_from s (next s p)
left_behind s p ps h w f = let e : p ∷ ps ≡ p ∷ places_from s (next s p) = sym f ∙ places_step s p h w in cc

-- Only at the end are no places left.
pub left_none : (s : List ℕ) (at : ℕ) → places_from s at ≡ [] → length s ≤ at
left_none s at e = go (ltb at (length s)) refl (whole s at) refl
  where
    go : (b : Bool) → ltb at (length s) ≡ b → (w : Bool) → whole s at ≡ w → length s ≤ at
    go false b w v = ltb-false at (length s) b
    go true b true v = let k : at ∷ places_from s (next s at) ≡ [] = sym (places_step s at (ltb-true at (length s) b) v) ∙ e in absurd cc
    go true b false v = let k : at ∷ [] ≡ [] = sym (places_cut s at (ltb-true at (length s) b) v) ∙ e in absurd cc

pub walk_next : (s : List ℕ) (fill : ℕ) (us : List Use) (key : UseKey) (p : ℕ) (ps : List ℕ) → IndexIn s fill us → length s ≡ fill → WalkTurn s us key p ps → use_order key (key_read s p) ≡ Greater
    → Walked s us key ps
walk_next s fill us key p ps i n t o =
    let h : p < fill = omega (arith, t.within) in
    let u : UseAt s p = met_at s fill us key p i t.reached h in
    record {
      at = next s p;
      reached = reached_next s fill us key p i t.reached h o;
      left_are = left_behind s p ps t.within (is_whole s p (omega (arith, u.room, u.within)) u.within) t.first;
    }

pub walk_end : (s : List ℕ) (us : List Use) (key : UseKey) {left : List ℕ} → IndexIn s (length s) us → Walked s us key left → left ≡ [] → PlaceIs us key (length s) false
walk_end s us key i w e =
    let h : length s ≤ w.at = left_none s w.at (sym w.left_are ∙ e) in
    let r = w.reached in
    let m = fill_is s (length s) us r.before r.rest i r.split in
    let k : w.at ≡ length s = omega (arith, r.place) in
    subst (λ (at : ℕ). PlaceIs us key at false) k (reached_end s (length s) us key w.at i r h)

-- ---- what is inserted at the place
pub insert_new : (key : UseKey) (n : ℕ) (us l r : List Use) → us ≡ l ++ r → Passed key l → Heads key r → insert_use key n us ≡ l ++ (one_use key n ∷ r)
insert_new key n us l r e p h = ap (insert_use key n) e ∙ insert_behind key n l r p ∙ ap (λ (x : List Use). l ++ x) (at_head r h)
  where
    at_head : (r : List Use) → Heads key r → insert_use key n r ≡ one_use key n ∷ r
    at_head [] h = insert_none key n
    at_head (u ∷ r) h = insert_less key n u r h

pub insert_old : (key : UseKey) (n : ℕ) (us l r : List Use) (u : Use) → us ≡ l ++ (u ∷ r) → Passed key l → use_order key u.key ≡ Equal → insert_use key n us ≡ l ++ (more_use u n ∷ r)
insert_old key n us l r u e p h = ap (insert_use key n) e ∙ insert_behind key n l (u ∷ r) p ∙ ap (λ (x : List Use). l ++ x) (insert_same key n u r h)

-- ---- a number put in, store by store
pub grown_by : (d d₁ d₂ d₃ d₄ : List ℕ) (fill at n len count : ℕ) → len ≡ le16 d at → count ≡ le16 d (at + 5)
    → d₁ ≡ append d (at + 7 + 2 * count + 2) (part d (at + 7 + 2 * count) (fill - (at + 7 + 2 * count)))
    → d₂ ≡ append d₁ (at + 7 + 2 * count) (le16_bytes n) → d₃ ≡ append d₂ at (le16_bytes (len + 2)) → d₄ ≡ append d₃ (at + 5) (le16_bytes (count + 1))
    → d₄ ≡ grown_at d fill at n (le16 d at) (le16 d (at + 5))
grown_by d d₁ d₂ d₃ d₄ fill at n len count l c e₁ e₂ e₃ e₄ =
    e₄
    ∙ ap (λ (x : List ℕ). append x (at + 5) (le16_bytes (count + 1)))
    (e₃ ∙ ap (λ (x : List ℕ). append x at (le16_bytes (len + 2))) (e₂ ∙ ap (λ (x : List ℕ). append x (at + 7 + 2 * count) (le16_bytes n)) e₁))
    ∙ ap₂ (grown_at d fill at n) l c

-- ---- a record put in, store by store
pub use_by_lem : (d d₁ d₂ d₃ d₄ d₅ d₆ name : List ℕ) (at n : ℕ) (standing : Standing) → at + 13 + length name ≤ length d
    → d₁ ≡ append d at (le16_bytes (9 + length name) ++ le16_bytes 39) → d₂ ≡ append d₁ (at + 4) (flag_of (is_known standing) ∷ []) → d₃ ≡ append d₂ (at + 5) (le16_bytes 1)
    → d₄ ≡ append d₃ (at + 7) (le16_bytes n) → d₅ ≡ append d₄ (at + 9) (le32_bytes (kept_of standing)) → d₆ ≡ append d₅ (at + 13) name
    → d₆ ≡ append d at (use_bytes (one_use (key_with name standing) n))
unfolding numbers_bytes
use_by_lem d d₁ d₂ d₃ d₄ d₅ d₆ name at n standing room e₁ e₂ e₃ e₄ e₅ e₆ =
    let head : List ℕ = le16_bytes (9 + length name) ++ le16_bytes 39 in
    let flag : List ℕ = flag_of (is_known standing) ∷ [] in
    let g₂ = append_then d at head (at + 4) flag e₁ e₂ refl (omega arith) in
    let g₃ = append_then d at (head ++ flag) (at + 5) (le16_bytes 1) g₂ e₃ refl (omega arith) in
    let g₄ = append_then d at (head ++ flag ++ le16_bytes 1) (at + 7) (le16_bytes n) g₃ e₄ refl (omega arith) in
    let g₅ = append_then d at (head ++ flag ++ le16_bytes 1 ++ le16_bytes n) (at + 9) (le32_bytes (kept_of standing)) g₄ e₅ refl (omega arith) in
    let g₆ = append_then d at (head ++ flag ++ le16_bytes 1 ++ le16_bytes n ++ le32_bytes (kept_of standing)) (at + 13) name g₅ e₆ refl (omega arith) in
    let key = key_with name standing in
    let b : 9 + length name ≡ length (use_body (one_use key n)) = omega (arith, body_length (one_use key n)) in
    g₆ ∙ ap (λ (m : ℕ). append d at (le16_bytes m ++ le16_bytes 39 ++ flag ++ le16_bytes 1 ++ le16_bytes n ++ le32_bytes (kept_of standing) ++ name)) b

-- ---- the whole of it
module _ (d : List ℕ) (fill : ℕ) (key : UseKey) (n : ℕ) (us : List Use) (i : IndexIn d fill us) where
  two : (l r : List Use) (u : Use) → length (uses_bytes (l ++ (u ∷ r))) ≡ length (uses_bytes l) + (11 + 2 * length u.numbers + length u.key.name + length (uses_bytes r))
  two l r u = ap length (uses_append l (u ∷ r)) ∙ length-append (uses_bytes l) (uses_bytes (u ∷ r)) ∙ ap (λ (m : ℕ). length (uses_bytes l) + m) (cons_length u r)

  filled_is : fill ≡ length (uses_bytes us)
  filled_is = omega (arith, ap length i.holds.filled, length-take-le fill d i.holds.within)

  more_length : (l r : List Use) (u : Use) → us ≡ l ++ (u ∷ r) → fill + 2 ≡ length (uses_bytes (l ++ (more_use u n ∷ r)))
  more_length l r u e = omega (arith, filled_is, ap (λ (x : List Use). length (uses_bytes x)) e, two l r u, two l r (more_use u n), length-append u.numbers (n ∷ []))

  new_length : (l r : List Use) → us ≡ l ++ r → fill + 13 + length key.name ≡ length (uses_bytes (l ++ (one_use key n ∷ r)))
  new_length l r e = omega (arith, fill_is d fill us l r i e, two l r (one_use key n))

  pub found_room : (at : ℕ) → PlaceIs us key at true → length (uses_bytes (insert_use key n us)) ≤ length d
      → (owner_place d at ≤ fill) × (fill + 2 ≤ length d) × (le16 d at + 2 < 65536) × (le16 d (at + 5) + 1 < 65536)
  found_room at (stands l r u e p q o) h =
      let x = use_here d fill us l r u at i e q in
      let m : fill + 2 ≤ length d = omega (arith, more_length l r u e, ap (λ (y : List Use). length (uses_bytes y)) (insert_old key n us l r u e p o)) in
      let k = i.limited in
      let b = body_length u in
      (omega (arith, x.count_is, x.next_is, x.inside), m, omega (arith, x.body_is, x.next_is, x.inside), omega (arith, x.count_is, x.next_is, x.inside))

  pub found_adds : (at : ℕ) (e : List ℕ) → PlaceIs us key at true → fill + 2 ≤ length d → e ≡ grown_at d fill at n (le16 d at) (le16 d (at + 5)) → Adds d e key n (fill + 2) us
  found_adds at e (stands l r u s p q o) room g =
      let x = use_here d fill us l r u at i s q in
      let v = insert_old key n us l r u s p o in
      let holds : Holds d fill (l ++ (u ∷ r)) = subst (Holds d fill) s i.holds in
      record {
        bytes = g ∙ ap₂ (grown_at d fill at n) x.body_is x.count_is ∙ put_number d fill l r u n at holds q room ∙ ap (λ (y : List Use). append d 0 (uses_bytes y)) (sym v);
        filled = more_length l r u s ∙ ap (λ (y : List Use). length (uses_bytes y)) (sym v);
      }

  pub new_room : (at : ℕ) → PlaceIs us key at false → length (uses_bytes (insert_use key n us)) ≤ length d → (at ≤ fill) × (fill + 13 + length key.name ≤ length d)
  new_room at (missing l r e p q o) h =
      let m = fill_is d fill us l r i e in
      (omega arith, omega (arith, new_length l r e, ap (λ (y : List Use). length (uses_bytes y)) (insert_new key n us l r e p o)))

  pub new_adds : (at : ℕ) (e : List ℕ) → PlaceIs us key at false → fill + 13 + length key.name ≤ length d
      → e ≡ append (append d (at + (13 + length key.name)) (part d at (fill - at))) at (use_bytes (one_use key n)) → Adds d e key n (fill + 13 + length key.name) us
  new_adds at e (missing l r s p q o) room g =
      let v = insert_new key n us l r s p o in
      let holds : Holds d fill (l ++ r) = subst (Holds d fill) s i.holds in
      let b : 13 + length key.name ≡ length (use_bytes (one_use key n)) = omega (arith, body_length (one_use key n)) in
      record {
        bytes = g ∙ ap (λ (m : ℕ). append (append d (at + m) (part d at (fill - at))) at (use_bytes (one_use key n))) b
            ∙ put_record d fill l r (one_use key n) at holds q (omega arith) ∙ ap (λ (y : List Use). append d 0 (uses_bytes y)) (sym v);
        filled = new_length l r s ∙ ap (λ (y : List Use). length (uses_bytes y)) (sym v);
      }

-- ---- how long the index will be, before anything is written
pub found_size : (d : List ℕ) (fill : ℕ) (key : UseKey) (n : ℕ) (us : List Use) → IndexIn d fill us → (at : ℕ) → PlaceIs us key at true → fill + 2 ≡ length (uses_bytes (insert_use key n us))
found_size d fill key n us i at (stands l r u e p q o) = more_length d fill key n us i l r u e ∙ ap (λ (y : List Use). length (uses_bytes y)) (sym (insert_old key n us l r u e p o))

pub new_size : (d : List ℕ) (fill : ℕ) (key : UseKey) (n : ℕ) (us : List Use) → IndexIn d fill us → (at : ℕ) → PlaceIs us key at false
    → fill + 13 + length key.name ≡ length (uses_bytes (insert_use key n us))
new_size d fill key n us i at (missing l r e p q o) = new_length d fill key n us i l r e ∙ ap (λ (y : List Use). length (uses_bytes y)) (sym (insert_new key n us l r e p o))
