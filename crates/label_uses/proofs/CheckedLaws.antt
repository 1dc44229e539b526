-- The check of an index, record by record: the uses read so far pass, and their bytes are those read. If the buffer holds the index, they are its
-- first uses. Assumes nothing.
use Rattle.std.specs.Prelude.{ℕ, ◌+◌, ◌≤◌, ◌<◌, Bool, true, false, ◌≡◌, refl, length, take, drop, None, Option, Some}
use Rattle.std.proofs.Common.{arith, ⊎_elim, sym, ap, ap₂, ◌∙◌, subst, length-append, take-append-drop, length-take-le, take-add}
use mathlib.Core.List.{List, [], ◌∷◌, ◌++◌, append_assoc, append-nil, Memᴰ}
use Rattle.record.specs.Bytes.{byte_at}
use Rattle.record.specs.Records.{next, body_len, kind_at, places, first_bad}
use Rattle.record.proofs.BehindLaws.{byte_behind, le16_behind}
use Rattle.pending.specs.Pendings.{pending_ok}
use Rattle.label_uses.specs.Uses.{is_known, UseKey, Use, use_order, uses_of}
use Rattle.label_uses.specs.UseBytes.{flag_of, uses_bytes, index_of, use_bytes}
use Rattle.label_uses.proofs.UseBytesLaws.{body_length, uses_none, uses_cons, uses_append}
use Rattle.label_uses.proofs.InsertLaws.{Below, Rises, none_left, one_left, below_none}
use Rattle.label_uses.proofs.UseOrderLaws.{use_trans}
use Rattle.label_uses.specs.Says.{key_at, NumbersRise}
use Rattle.label_uses.proofs.SaysLaws.{SaysTo, says_all}
use Rattle.label_uses.proofs.OnlyLaws.{says_once}
use Rattle.label_uses.proofs.CountLaws.{Seen, numbers_in, names_to, counted_says, says_counted}
use Rattle.label_uses.proofs.OneMoreLaws.{AllBytes, owners_fit, numbers_fit}
use Rattle.label_uses.specs.ReadUse.{count_at, use_read, RecordOk}
use Rattle.label_uses.proofs.ReadUseLaws.{UseFits, body_read, next_read, count_read, use_read_lem}
use Rattle.label_uses.proofs.CheckLaws.{record_back}
use Rattle.std.specs.declared.cmp.Ordering.TheVariants.{Less}

-- ---- a use more behind those seen
abbrev pub AllBefore : List Use → UseKey → Type 0
AllBefore l key = (v : Use) → Memᴰ v l → use_order v.key key ≡ Less

pub before_none : (key : UseKey) → AllBefore [] key
before_none key v m = absurd (mathlib.Core.List.Memᴰ.not-nil m)

-- Only the last use has to be compared.
pub before_next : (l : List Use) (w : Use) (key : UseKey) → AllBefore l w.key → use_order w.key key ≡ Less → AllBefore (l ++ (w ∷ [])) key
before_next l w key h e v m =
    ⊎_elim
    (λ (i : Memᴰ v l). use_trans v.key w.key key (h v i) e)
    (λ (i : Memᴰ v (w ∷ [])). ⊎_elim (λ (j : v ≡ w). ap (λ (x : Use). use_order x.key key) j ∙ e) (λ t. absurd (mathlib.Core.List.Memᴰ.not-nil t)) (mathlib.Core.List.Memᴰ.cases_cons i))
    (mathlib.Core.List.Memᴰ.append_cases l m)

rises_behind : (l : List Use) (u : Use) → Rises l → AllBefore l u.key → Rises (l ++ (u ∷ []))
rises_behind [] u r h = one_left (below_none u.key) none_left
rises_behind (v ∷ l) u (one_left b r) h = one_left below (rises_behind l u r (λ w m. h w (mathlib.Core.List.Memᴰ.tail m)))
  where
    below : Below v.key (l ++ (u ∷ []))
    below w m =
        ⊎_elim
        (λ (i : Memᴰ w l). b w i)
        (λ (i : Memᴰ w (u ∷ [])).
        ⊎_elim (λ (j : w ≡ u). ap (λ (x : Use). use_order v.key x.key) j ∙ h v (mathlib.Core.List.Memᴰ.head refl)) (λ t. absurd (mathlib.Core.List.Memᴰ.not-nil t)) (mathlib.Core.List.Memᴰ.cases_cons i))
        (mathlib.Core.List.Memᴰ.append_cases l m)

module _ (key_at_lem : ℕ → Option UseKey) (total : ℕ) where
  pub seen_none : Seen key_at_lem total []
  seen_none = record { rises = none_left; in_order = λ u m. absurd (mathlib.Core.List.Memᴰ.not-nil m); sound = λ u m. absurd (mathlib.Core.List.Memᴰ.not-nil m) }

  -- what a check finds of one record
  pub record Fine (l : List Use) (u : Use) : Type 0 where
    pub after : AllBefore l u.key
    pub rising : NumbersRise u.numbers × (0 < length u.numbers)
    pub right : (n : ℕ) → Memᴰ n u.numbers → (n < total) × (key_at_lem n ≡ Some u.key)

  pub seen_behind : (l : List Use) (u : Use) → Seen key_at_lem total l → Fine l u → Seen key_at_lem total (l ++ (u ∷ []))
  seen_behind l u s f = record { rises = rises_behind l u s.rises f.after; in_order = orders; sound = sounds }
    where
      which : (P : Use → Type 0) → ((v : Use) → Memᴰ v l → P v) → P u → (v : Use) → Memᴰ v (l ++ (u ∷ [])) → P v
      which P a b v m =
          ⊎_elim
          (λ (i : Memᴰ v l). a v i)
          (λ (i : Memᴰ v (u ∷ [])). ⊎_elim (λ (j : v ≡ u). subst P (sym j) b) (λ t. absurd (mathlib.Core.List.Memᴰ.not-nil t)) (mathlib.Core.List.Memᴰ.cases_cons i))
          (mathlib.Core.List.Memᴰ.append_cases l m)

      orders : (v : Use) → Memᴰ v (l ++ (u ∷ [])) → NumbersRise v.numbers × (0 < length v.numbers)
      orders = which (λ (v : Use). NumbersRise v.numbers × (0 < length v.numbers)) s.in_order f.rising

      sounds : (v : Use) → Memᴰ v (l ++ (u ∷ [])) → (n : ℕ) → Memᴰ n v.numbers → (n < total) × (key_at_lem n ≡ Some v.key)
      sounds = which (λ (v : Use). (n : ℕ) → Memᴰ n v.numbers → (n < total) × (key_at_lem n ≡ Some v.key)) s.sound f.right

  -- The other way round: if the uses say what an index says, each of them is fine behind those before it.
  pub fine_in : (us l r : List Use) (u : Use) → SaysTo key_at_lem total us → us ≡ l ++ (u ∷ r) → Fine l u
  fine_in us l r u s e =
      let m : Memᴰ u us = subst (Memᴰ u) (sym e) (mathlib.Core.List.Memᴰ.append_right l (mathlib.Core.List.Memᴰ.head refl)) in
      record { after = before l (subst Rises e s.rises); rising = s.in_order u m; right = s.sound u m }
    where
      before : (l : List Use) → Rises (l ++ (u ∷ r)) → AllBefore l u.key
      before [] x v m = absurd (mathlib.Core.List.Memᴰ.not-nil m)
      before (w ∷ l) (one_left b x) v m =
          ⊎_elim
          (λ (j : v ≡ w). ap (λ (y : Use). use_order y.key u.key) j ∙ b u (mathlib.Core.List.Memᴰ.append_right l (mathlib.Core.List.Memᴰ.head refl)))
          (λ (i : Memᴰ v l). before l x v i)
          (mathlib.Core.List.Memᴰ.cases_cons m)

pub numbers_behind : (l : List Use) (u : Use) → numbers_in (l ++ (u ∷ [])) ≡ numbers_in l + length u.numbers
unfolding numbers_in
numbers_behind [] u = omega arith
numbers_behind (v ∷ l) u = omega (arith, numbers_behind l u)

-- ---- if the check says yes
module _ (s : List ℕ) (sb : AllBytes s) where
  pub read_behind : (l : List Use) (at : ℕ) → uses_bytes l ≡ take at s → RecordOk s at → uses_bytes (l ++ (use_read s at ∷ [])) ≡ take (next s at) s
  read_behind l at e ok =
      let u = use_read s at in
      let n : at + (4 + body_len s at) ≡ next s at = omega arith in
      uses_append l (u ∷ [])
      ∙ ap₂ (λ (x y : List ℕ). x ++ y) e (uses_cons u [] ∙ ap (λ (x : List ℕ). use_bytes u ++ x) uses_none ∙ append-nil (use_bytes u) ∙ record_back s sb at ok)
      ∙ sym (take-add at (4 + body_len s at) s)
      ∙ ap (λ (m : ℕ). take m s) n

pub all_seen : (labels pending : List ℕ) (l : List Use) → Seen (key_at labels pending) (length (places pending)) l
    → numbers_in l ≡ names_to (key_at labels pending) (length (places pending)) → uses_bytes l ≡ index_of labels pending
unfolding index_of
all_seen labels pending l s n =
    ap uses_bytes (says_once (key_at labels pending) (length (places pending)) l (uses_of labels pending) (counted_says (key_at labels pending) (length (places pending)) l s n) (says_all labels pending))

-- ---- if it says no: had the buffer held the index, the record would have passed
module _ (labels pending s : List ℕ) (fill : ℕ) (lb : AllBytes labels) (pb : AllBytes pending) (g : first_bad (pending_ok 16 pending) (places pending) ≡ None)
    (pl : length pending ≤ 65536) (sl : length s ≤ 65536) (fl : fill ≤ length s) (held : take fill s ≡ index_of labels pending) where
  uses_are : take fill s ≡ uses_bytes (uses_of labels pending)
  unfolding index_of
  uses_are = held

  pub record Next (l : List Use) (at : ℕ) : Type 0 where
    pub rest : List Use
    pub split : uses_of labels pending ≡ l ++ (use_read s at ∷ rest)
    pub well : RecordOk s at
    pub inside : next s at ≤ fill

  pub next_use : (l r : List Use) (at : ℕ) → uses_of labels pending ≡ l ++ r → at ≡ length (uses_bytes l) → at < fill → Next l at
  next_use l [] at e p h =
      absurd (omega (arith, ap length (uses_are ∙ ap uses_bytes (e ∙ append-nil l)), length-take-le fill s fl))
  next_use l (u ∷ r) at e p h =
      let a = uses_bytes l in
      let z = uses_bytes r ++ drop fill s in
      let bytes : uses_bytes (uses_of labels pending) ≡ a ++ (use_bytes u ++ uses_bytes r) = ap uses_bytes e ∙ uses_append l (u ∷ r) ∙ ap (λ (x : List ℕ). a ++ x) (uses_cons u r) in
      let w : s ≡ a ++ (use_bytes u ++ z) =
      sym (take-append-drop fill s) ∙ ap (λ (x : List ℕ). x ++ drop fill s) (uses_are ∙ bytes)
      ∙ append_assoc a (use_bytes u ++ uses_bytes r) (drop fill s) ∙ ap (λ (x : List ℕ). a ++ x) (append_assoc (use_bytes u) (uses_bytes r) (drop fill s)) in
      let n : length a + (length (use_bytes u) + length (uses_bytes r)) ≡ fill =
      omega (arith, ap length (uses_are ∙ bytes), length-take-le fill s fl, length-append a (use_bytes u ++ uses_bytes r), length-append (use_bytes u) (uses_bytes r)) in
      let m : Memᴰ u (uses_of labels pending) = subst (Memᴰ u) (sym e) (mathlib.Core.List.Memᴰ.append_right l (mathlib.Core.List.Memᴰ.head refl)) in
      let fits : UseFits u = record { body_fits = omega arith; owner_fits = owners_fit labels pending lb pb u m } in
      let read : use_read s at ≡ u = ap (λ (x : List ℕ). use_read x at) w ∙ use_read_lem a z u fits (numbers_fit labels pending g pl u m) at p in
      let k : next s at ≡ at + length (use_bytes u) = ap (λ (x : List ℕ). next x at) w ∙ next_read a z u fits at p in
      let b : body_len s at ≡ _ = ap (λ (x : List ℕ). body_len x at) w ∙ body_read a z u fits at p in
      let c : count_at s at ≡ length u.numbers = ap (λ (x : List ℕ). count_at x at) w ∙ count_read a z u fits at p in
      let kind : kind_at s at ≡ 39 = ap (λ (x : List ℕ). kind_at x at) w ∙ le16_behind a (use_bytes u ++ z) 2 (at + 2) (omega arith) in
      let flag : byte_at s (at + 4) ≡ flag_of (is_known u.key.standing) = ap (λ (x : List ℕ). byte_at x (at + 4)) w ∙ byte_behind a (use_bytes u ++ z) 4 (at + 4) (omega arith) in
      record {
        rest = r;
        split = e ∙ ap (λ (x : Use). l ++ (x ∷ r)) (sym read);
        well = record { within = omega arith; kind_is = kind; flag_is = omega (arith, flag_most (is_known u.key.standing)); room = omega (arith, body_length u) };
        inside = omega arith;
      }
    where
      flag_most : (b : Bool) → flag_of b ≤ 1
      flag_most true = omega arith
      flag_most false = omega arith

  -- its keys and numbers too
  pub next_fine : (l : List Use) (at : ℕ) → Next l at → Fine (key_at labels pending) (length (places pending)) l (use_read s at)
  next_fine l at x = fine_in (key_at labels pending) (length (places pending)) (uses_of labels pending) l x.rest (use_read s at) (says_all labels pending) x.split

  -- At the end there would be as many numbers as names.
  pub end_count : (l r : List Use) → uses_of labels pending ≡ l ++ r → fill ≤ length (uses_bytes l) → numbers_in l ≡ names_to (key_at labels pending) (length (places pending))
  end_count l [] e h =
      ap numbers_in (sym (e ∙ append-nil l)) ∙ says_counted (key_at labels pending) (length (places pending)) (uses_of labels pending) (says_all labels pending)
  end_count l (u ∷ r) e h =
      absurd (omega (
        arith,
        ap length (uses_are ∙ ap uses_bytes e ∙ uses_append l (u ∷ r) ∙ ap (λ (x : List ℕ). uses_bytes l ++ x) (uses_cons u r)),
        length-take-le fill s fl,
        length-append (uses_bytes l) (use_bytes u ++ uses_bytes r),
        length-append (use_bytes u) (uses_bytes r),
      ))
