-- The check of a whole index: the uses read so far pass, and their bytes are those read. If the buffer holds the index, each record passes.
-- Assumes nothing.
use Rattle.std.specs.Prelude.{ℕ, zero, suc, ◌+◌, ◌≤◌, ◌<◌, List, [], ◌∷◌, ◌++◌, Bool, true, false, ◌≡◌, refl, length, take, drop, get_or, eqb, None, Option}
use Rattle.std.proofs.Common.{arith, add-one, append_assoc, sym, ap, ap₂, ◌∙◌, subst, length-take-le, drop-cons, eqb-true, eq-eqb, ne_eqb}
use mathlib.Core.List.Memᴰ
use Rattle.std.proofs.Math.Seq.{drop-length}
use Rattle.std.proofs.lemmas.Bool.{eqb-false}
use Rattle.record.specs.Bytes.{byte_at, same_bytes}
use Rattle.record.proofs.BytesLaws.{same_eq, eq_same}
use Rattle.record.specs.Records.{next, places, places_from, first_bad}
use Rattle.record.proofs.RecordsLaws.{places_cons}
use Rattle.record.proofs.OneMoreLaws.{is_whole}
use Rattle.use_adding.proofs.AddingLaws.{left_behind}
use Rattle.address_label.proofs.AddressLabelsLaws.{at_constant, at_named}
use Rattle.pending.specs.Pendings.{label_of, pending_ok}
use Rattle.label_uses.specs.Uses.{UseKey, Use, use_order, uses_of}
use Rattle.label_uses.specs.UseBytes.{uses_bytes, index_of}
use Rattle.label_uses.proofs.UseBytesLaws.{uses_none}
use Rattle.label_uses.specs.Says.{key_in, key_at}
use Rattle.label_uses.specs.ReadUse.{count_at, key_read, use_read}
use Rattle.label_uses.proofs.CheckLaws.{halves_length}
use Rattle.label_uses.proofs.CountLaws.{sum_to, Seen, numbers_in, name_count, names_to}
use Rattle.label_uses.proofs.OneMoreLaws.{AllBytes}
use Rattle.label_uses.proofs.CheckedLaws.{AllBefore, before_none, before_next, seen_none, Fine, seen_behind, numbers_behind, read_behind, all_seen, Next, next_use, next_fine, end_count}
use Rattle.use_adding.specs.Adding.{UseAt}
use Rattle.index_check.specs.Checks.{RecordIn, RecordFine, names_in}
use Rattle.index_check.proofs.NumbersLaws.{seen_rightly, rightly_seen}
use Rattle.std.specs.declared.cmp.Ordering.TheVariants.{Less}

-- ---- the answer
pub same_no : (a b : List ℕ) → (a ≡ b → ⊥) → false ≡ same_bytes a b
same_no a b h = go (same_bytes a b) refl
  where
    go : (t : Bool) → same_bytes a b ≡ t → false ≡ same_bytes a b
    go true e = absurd (h (same_eq a b e))
    go false e = sym e

pub same_yes : (a b : List ℕ) → a ≡ b → true ≡ same_bytes a b
same_yes a b e = sym (ap (λ (l : List ℕ). same_bytes l b) e ∙ eq_same b)

-- If a record passes, its owner and its name lie within the list.
pub in_at : (s : List ℕ) (fill at : ℕ) → RecordIn s fill at → UseAt s at
in_at s fill at r = record { room = omega (arith, r.ok.room); within = r.ok.within }

-- The last of the uses read so far was read at `last`. At the start there is none.
pub data LastOf (s : List ℕ) (at last : ℕ) : List Use → Type 0 where
  at_start : at ≡ 0 → LastOf s at last []
  behind : (k : List Use) (w : Use) → 0 < at → AllBefore k w.key → w.key ≡ key_read s last → UseAt s last → LastOf s at last (k ++ (w ∷ []))

pub record Checked (labels pending s : List ℕ) (fill at last sum : ℕ) : Type 0 where
  pub uses_read : List Use
  pub seen : Seen (key_at labels pending) (length (places pending)) uses_read
  pub bytes : uses_bytes uses_read ≡ take at s
  pub within : at ≤ fill
  pub summed : sum ≡ numbers_in uses_read
  pub few : sum ≤ at
  pub last_is : LastOf s at last uses_read
  pub begins : take fill s ≡ index_of labels pending → (r : List Use) × (uses_of labels pending ≡ uses_read ++ r)

pub checked_start : (labels pending s : List ℕ) (fill : ℕ) → Checked labels pending s fill 0 0 0
unfolding numbers_in
checked_start labels pending s fill = record {
  uses_read = [];
  seen = seen_none (key_at labels pending) (length (places pending));
  bytes = uses_none;
  within = omega arith;
  summed = refl;
  few = omega arith;
  last_is = at_start refl;
  begins = λ h. (uses_of labels pending, refl);
}

last_at : (s : List ℕ) (at last : ℕ) (l : List Use) → LastOf s at last l → 0 < at → UseAt s last
last_at s at last l (at_start e) h = absurd (omega arith)
last_at s at last l (behind k w p a e u) h = u

-- If the next key is behind the last one, it is behind all of them.
all_before : (s : List ℕ) (at last : ℕ) (l : List Use) (key : UseKey) → LastOf s at last l → (0 < at → use_order (key_read s last) key ≡ Less) → AllBefore l key
all_before s at last l key (at_start e) h = before_none key
all_before s at last l key (behind k w p a e u) h = before_next k w key a (ap (λ (x : UseKey). use_order x key) e ∙ h p)

-- and the other way round
last_before : (s : List ℕ) (at last : ℕ) (l : List Use) (key : UseKey) → LastOf s at last l → AllBefore l key → 0 < at → use_order (key_read s last) key ≡ Less
last_before s at last l key (at_start e) h p = absurd (omega arith)
last_before s at last l key (behind k w q a e u) h p = ap (λ (x : UseKey). use_order x key) (sym e) ∙ h w (Memᴰ.append_right k (Memᴰ.head refl))

module _ (labels pending s : List ℕ) (fill at last sum : ℕ) (c : Checked labels pending s fill at last sum) where
  pub last_read : 0 < at → UseAt s last
  last_read = last_at s at last c.uses_read c.last_is

  abbrev u : Use
  u = use_read s at

  abbrev l : List Use
  l = c.uses_read

  abbrev key_at_lem : ℕ → Option UseKey
  key_at_lem = key_at labels pending

  abbrev total : ℕ
  total = length (places pending)

  fine_here : RecordFine labels pending s fill last at → Fine key_at_lem total l u
  fine_here f =
      let r = seen_rightly labels pending (key_read s at) s (count_at s at) (at + 7) 0 f.numbers_are in
      record {
        after = all_before s at last l (key_read s at) c.last_is f.rises;
        rising = (r.rising, omega (arith, halves_length s (count_at s at) (at + 7), f.record_in.counted));
        right = r.right;
      }

  module _ (lb : AllBytes labels) (pb : AllBytes pending) (g : first_bad (pending_ok 16 pending) (places pending) ≡ None) (pl : length pending ≤ 65536) (sl : length s ≤ 65536) (fl : fill ≤ length s) where
    place_is : length (uses_bytes l) ≡ at
    place_is = ap length c.bytes ∙ length-take-le at s (omega (arith, c.within))

    -- If the buffer held the index, the record would pass.
    next_passes : at < fill → (h : take fill s ≡ index_of labels pending) → Next labels pending s fill lb pb g pl sl fl h l at
    next_passes m h = let b = c.begins h in next_use labels pending s fill lb pb g pl sl fl h l b.0 at b.1 (sym place_is) m

    pub would_pass : at < fill → take fill s ≡ index_of labels pending → RecordFine labels pending s fill last at
    would_pass m h =
        let x = next_passes m h in
        let f = next_fine labels pending s fill lb pb g pl sl fl h l at x in
        record {
          record_in = record { ok = x.well; inside = x.inside; counted = omega (arith, halves_length s (count_at s at) (at + 7), f.rising.1) };
          rises = last_before s at last l (key_read s at) c.last_is f.after;
          numbers_are = rightly_seen labels pending (key_read s at) s (count_at s at) (at + 7) 0 (record { rising = f.rising.0; from_least = λ n k. omega arith; right = f.right });
        }

    pub checked_next : AllBytes s → at < fill → RecordFine labels pending s fill last at → Checked labels pending s fill (next s at) at (sum + count_at s at)
    checked_next sb m f = record {
      uses_read = l ++ (u ∷ []);
      seen = seen_behind key_at_lem total l u c.seen (fine_here f);
      bytes = read_behind s sb l at c.bytes f.record_in.ok;
      within = f.record_in.inside;
      summed = omega (arith, c.summed, numbers_behind l u, halves_length s (count_at s at) (at + 7));
      few = omega (arith, c.few, f.record_in.ok.room);
      last_is = behind l u (omega arith) (all_before s at last l (key_read s at) c.last_is f.rises) refl (in_at s fill at f.record_in);
      begins = λ h. let x = next_passes m h in (x.rest, x.split ∙ sym (append_assoc l (u ∷ []) x.rest));
    }

    -- The end: if there are as many numbers as names, the buffer holds the index.
    end_at : fill ≤ at → at ≡ fill
    end_at h = omega (arith, c.within)

    end_same : fill ≤ at → sum ≡ names_to (key_at labels pending) (length (places pending)) → take fill s ≡ index_of labels pending
    end_same h e = ap (λ (n : ℕ). take n s) (sym (end_at h)) ∙ sym c.bytes ∙ all_seen labels pending l c.seen (sym c.summed ∙ e)

    end_other : fill ≤ at → take fill s ≡ index_of labels pending → sum ≡ names_to (key_at labels pending) (length (places pending))
    end_other h k = let b = c.begins k in c.summed ∙ end_count labels pending s fill lb pb g pl sl fl k l b.0 b.1 (omega (arith, place_is))

    pub end_decides : fill ≤ at → (n : ℕ) → n ≡ names_to (key_at labels pending) (length (places pending)) → eqb sum n ≡ same_bytes (take fill s) (index_of labels pending)
    end_decides h n e = go (eqb sum n) refl
      where
        go : (b : Bool) → eqb sum n ≡ b → eqb sum n ≡ same_bytes (take fill s) (index_of labels pending)
        go true b = b ∙ same_yes (take fill s) (index_of labels pending) (end_same h (eqb-true sum n b ∙ e))
        go false b = b ∙ same_no (take fill s) (index_of labels pending) (λ k. eqb-false sum n b (end_other h k ∙ sym e))

-- ---- the same for the places that a loop over an index has left
pub record CheckedLeft (labels pending s : List ℕ) (last sum : ℕ) (left : List ℕ) : Type 0 where
  pub at : ℕ
  pub checked : Checked labels pending s (length s) at last sum
  pub left_are : left ≡ places_from s at

-- one turn of the loop, at the place p
pub record CheckedTurn (labels pending s : List ℕ) (last sum p : ℕ) (ps : List ℕ) : Type 0 where
  pub within : p < length s
  pub checked : Checked labels pending s (length s) p last sum
  pub first : places_from s p ≡ p ∷ ps

pub checked_turn : (labels pending s : List ℕ) (last sum p : ℕ) (left ps : List ℕ) → CheckedLeft labels pending s last sum left → left ≡ p ∷ ps → CheckedTurn labels pending s last sum p ps
checked_turn labels pending s last sum p left ps c e =
    let f : places_from s c.at ≡ p ∷ ps = sym c.left_are ∙ e in
    let w = places_cons s c.at p ps f in
    record {
      within = omega (arith, w.0, w.1);
      checked = subst (λ (k : ℕ). Checked labels pending s (length s) k last sum) (sym w.1) c.checked;
      first = subst (λ (k : ℕ). places_from s k ≡ p ∷ ps) (sym w.1) f;
    }

-- the places left behind a record that passes
pub fine_behind : (labels pending s : List ℕ) (last p : ℕ) (ps : List ℕ) → RecordFine labels pending s (length s) last p → p < length s → places_from s p ≡ p ∷ ps → ps ≡ places_from s (next s p)
fine_behind labels pending s last p ps f h e =
    let u : UseAt s p = in_at s (length s) p f.record_in in
    left_behind s p ps h (is_whole s p (omega (arith, u.room, u.within)) u.within) e

-- ---- how many pendings name a label
sum_first : (f : ℕ → ℕ) (n : ℕ) → sum_to f (suc n) ≡ f 0 + sum_to (λ (i : ℕ). f (suc i)) n
unfolding sum_to
sum_first f zero = omega arith
sum_first f (suc n) = omega (arith, sum_first f n)

one_name : (labels pending : List ℕ) (p : ℕ) → elim (eqb (byte_at pending (p + 19)) 0) [ true ↦ 0 | false ↦ 1 ] ≡ name_count (key_in labels pending (label_of pending p))
one_name labels pending p = go (eqb (byte_at pending (p + 19)) 0) refl
  where
    go : (b : Bool) → eqb (byte_at pending (p + 19)) 0 ≡ b → ◌≡◌ {A = ℕ} (elim b [ true ↦ 0 | false ↦ 1 ]) (name_count (key_in labels pending (label_of pending p)))
    go true e = sym (ap (λ x. name_count (key_in labels pending x)) (at_constant pending (p + 19) (next pending p) (eqb-true (byte_at pending (p + 19)) 0 e)))
    go false e = sym (ap (λ x. name_count (key_in labels pending x)) (at_named pending (p + 19) (next pending p) (eqb-false (byte_at pending (p + 19)) 0 e)))

names_from : (labels pending ps : List ℕ) → names_in pending ps ≡ sum_to (λ (i : ℕ). name_count (key_in labels pending (label_of pending (get_or ps i 0)))) (length ps)
unfolding names_in sum_to
names_from labels pending [] = refl
names_from labels pending (p ∷ ps) =
    ap₂ (λ (a b : ℕ). a + b) (one_name labels pending p) (names_from labels pending ps)
    ∙ sym (sum_first (λ (i : ℕ). name_count (key_in labels pending (label_of pending (get_or (p ∷ ps) i 0)))) (length ps))

-- ---- counted one place after the other
names_step : (pending ps : List ℕ) (i : ℕ) → i < length ps → names_in pending (drop i ps) ≡ elim (eqb (byte_at pending (get_or ps i 0 + 19)) 0) [ true ↦ 0 | false ↦ 1 ] + names_in pending (drop (i + 1) ps)
unfolding names_in
names_step pending ps i h = rw (add-one, drop-cons ps i 0)

pub names_constant : (pending ps : List ℕ) (i p : ℕ) → i < length ps → p ≡ get_or ps i 0 → byte_at pending (p + 19) ≡ 0 → names_in pending (drop i ps) ≡ 0 + names_in pending (drop (i + 1) ps)
names_constant pending ps i p h e z =
    names_step pending ps i h
    ∙ ap (λ (b : Bool). elim b [ true ↦ 0 | false ↦ 1 ] + names_in pending (drop (i + 1) ps)) (eq-eqb (byte_at pending (get_or ps i 0 + 19)) 0 (ap (λ (q : ℕ). byte_at pending (q + 19)) (sym e) ∙ z))

pub names_named : (pending ps : List ℕ) (i p : ℕ) → i < length ps → p ≡ get_or ps i 0 → (byte_at pending (p + 19) ≡ 0 → ⊥) → names_in pending (drop i ps) ≡ 1 + names_in pending (drop (i + 1) ps)
names_named pending ps i p h e z =
    names_step pending ps i h
    ∙ ap (λ (b : Bool). elim b [ true ↦ 0 | false ↦ 1 ] + names_in pending (drop (i + 1) ps)) (ne_eqb (byte_at pending (get_or ps i 0 + 19)) 0 (λ k. z (ap (λ (q : ℕ). byte_at pending (q + 19)) e ∙ k)))

pub names_end : (pending ps : List ℕ) (i : ℕ) → i ≡ length ps → names_in pending (drop i ps) ≡ 0
unfolding names_in
names_end pending ps i e = ap (λ (n : ℕ). names_in pending (drop n ps)) e ∙ ap (names_in pending) (drop-length ps)

pub names_are : (labels pending : List ℕ) → names_in pending (places pending) ≡ names_to (key_at labels pending) (length (places pending))
names_are labels pending = names_from labels pending (places pending)
