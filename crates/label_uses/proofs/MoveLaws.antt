-- Laws of bytes moved up in a buffer and of bytes put in between: for crates/record. Assumes nothing.
use Rattle.std.specs.Prelude.{ℕ, suc, ◌+◌, ◌-◌, ◌≤◌, ◌<◌, List, [], ◌∷◌, ◌++◌, ◌≡◌, refl, length, get_or, set, take, drop}
use Rattle.std.proofs.Common.{arith, append_assoc, sym, ap, ap₂, ◌∙◌, length-append, length-take, take-append-drop, length-take-le, take-take, take_at, drop_at, get_or-take, drop-cons}
use Rattle.std.proofs.Math.ListN.{get_or-append}
use Rattle.std.proofs.lemmas.List.{take-append-le}
use Rattle.record.specs.Bytes.{part}
use Rattle.record.specs.Stores.{append}
use Rattle.record.proofs.StoresLaws.{append_none, one_store}

-- Writing bytes behind a known start is writing both at 0.
pub append_start : (d l bs : List ℕ) (at : ℕ) → take at d ≡ l → length l ≡ at → append d at bs ≡ append d 0 (l ++ bs)
unfolding append
append_start d l bs at e n =
    let k : at + length bs ≡ 0 + length (l ++ bs) = omega (arith, length-append l bs) in
    ap₂ (λ (a : List ℕ) (m : ℕ). a ++ bs ++ drop m d) e k

-- Writing bytes directly before bytes just written is one write of both.
pub append_under : (d : List ℕ) (at : ℕ) (bs cs : List ℕ) (k : ℕ) → at + length bs ≡ k → k + length cs ≤ length d
    → append (append d k cs) at bs ≡ append d at (bs ++ cs)
unfolding append
append_under d at bs cs k e h =
    let q = drop (k + length cs) d in
    let n : length (take k d) ≡ k = length-take-le k d (omega arith) in
    let a : take at (take k d ++ cs ++ q) ≡ take at d =
    ap (take at) (append_assoc (take k d) cs q) ∙ take-append-le at (take k d) (cs ++ q) (omega arith) ∙ take-take at k d (omega arith) in
    let b : drop (at + length bs) (take k d ++ cs ++ q) ≡ cs ++ q =
    ap (λ (m : ℕ). drop m (take k d ++ cs ++ q)) e ∙ ap (drop k) (append_assoc (take k d) cs q) ∙ drop_at (take k d) (cs ++ q) k n in
    let m : k + length cs ≡ at + length (bs ++ cs) = omega (arith, length-append bs cs) in
    ap₂ (λ (x y : List ℕ). x ++ bs ++ y) a b
    ∙ sym (append_assoc (take at d ++ bs) cs q)
    ∙ ap₂ (λ (x : List ℕ) (i : ℕ). x ++ drop i d) (append_assoc (take at d) bs cs) m

-- Bytes in the middle are replaced by as many others.
pub append_over : (d p q r s : List ℕ) (at : ℕ) → length p ≡ at → length q ≡ length r → append (append d 0 (p ++ (q ++ s))) at r ≡ append d 0 (p ++ (r ++ s))
unfolding append
append_over d p q r s at e f =
    let z = drop (0 + length (p ++ (q ++ s))) d in
    let w : p ++ (q ++ s) ++ z ≡ p ++ (q ++ (s ++ z)) = append_assoc p (q ++ s) z ∙ ap (λ (x : List ℕ). p ++ x) (append_assoc q s z) in
    let v : p ++ (q ++ s) ++ z ≡ p ++ q ++ (s ++ z) = w ∙ sym (append_assoc p q (s ++ z)) in
    let n : length (p ++ q) ≡ at + length r = omega (arith, length-append p q) in
    let m : length (p ++ (q ++ s)) ≡ length (p ++ (r ++ s)) = omega (arith, length-append p (q ++ s), length-append p (r ++ s), length-append q s, length-append r s) in
    ap₂ (λ (x y : List ℕ). x ++ r ++ y) (ap (take at) w ∙ take_at p (q ++ (s ++ z)) at e) (ap (drop (at + length r)) v ∙ drop_at (p ++ q) (s ++ z) (at + length r) n)
    ∙ append_assoc p r (s ++ z)
    ∙ ap (λ (x : List ℕ). p ++ x) (sym (append_assoc r s z))
    ∙ sym (append_assoc p (r ++ s) z)
    ∙ ap (λ (i : ℕ). p ++ (r ++ s) ++ drop (0 + i) d) m

-- the filled part, split in two
module _ (d p q : List ℕ) (at fill : ℕ) (e : take fill d ≡ p ++ q) (n : length p ≡ at) (h : fill ≤ length d) where
  whole_list : d ≡ p ++ (q ++ drop fill d)
  whole_list = sym (take-append-drop fill d) ∙ ap (λ (x : List ℕ). x ++ drop fill d) e ∙ append_assoc p q (drop fill d)

  pub filled_length : at + length q ≡ fill
  filled_length = omega (arith, ap length e, length-append p q, length-take-le fill d h)

  pub filled_first : take at d ≡ p
  filled_first = ap (take at) whole_list ∙ take_at p (q ++ drop fill d) at n

  pub filled_rest : part d at (fill - at) ≡ q
  filled_rest =
      let k : length q ≡ fill - at = omega (arith, filled_length) in
      ap (λ (x : List ℕ). take (fill - at) (drop at x)) whole_list
      ∙ ap (take (fill - at)) (drop_at p (q ++ drop fill d) at n)
      ∙ take_at q (drop fill d) (fill - at) k

  -- the rest moves up and the bytes are put in before it
  pub put_between : (bs : List ℕ) → fill + length bs ≤ length d
      → append (append d (at + length bs) (part d at (fill - at))) at bs ≡ append d 0 (p ++ (bs ++ q))
  put_between bs r =
      let l = filled_length in
      ap (λ (x : List ℕ). append (append d (at + length bs) x) at bs) filled_rest
      ∙ append_under d at bs q (at + length bs) refl (omega arith)
      ∙ append_start d p (bs ++ q) at filled_first n

-- ---- moved up byte by byte, the last first
abbrev pub moved_from : (d : List ℕ) (i fill n : ℕ) → List ℕ
moved_from d i fill n = append d (i + n) (part d i (fill - i))

pub moved_start : (d : List ℕ) (fill n : ℕ) → d ≡ moved_from d fill fill n
moved_start d fill n =
    let z : fill - fill ≡ 0 = omega arith in
    append_none d (fill + n) ∙ ap (λ (m : ℕ). append d (fill + n) (take m (drop fill d))) (sym z)

-- what stands before the written bytes is as it was
byte_kept : (d bs : List ℕ) (k j : ℕ) → j < k → k ≤ length d → get_or (append d k bs) j 0 ≡ get_or d j 0
unfolding append
byte_kept d bs k j h l =
    let n = length-take-le k d l in
    get_or-append (take k d ++ bs) (drop (k + length bs) d) 0 j (omega (arith, length-append (take k d) bs))
    ∙ get_or-append (take k d) bs 0 j (omega arith)
    ∙ get_or-take k d j 0 h

pub moved_next : (d e : List ℕ) (j fill n : ℕ) → j < fill → fill + n ≤ length d → length e ≡ length d → e ≡ moved_from d (suc j) fill n → set e (j + n) (get_or e j 0) ≡ moved_from d j fill n
moved_next d e j fill n h l len q =
    let cs = part d (suc j) (fill - suc j) in
    let b : get_or e j 0 ≡ get_or d j 0 = ap (λ (x : List ℕ). get_or x j 0) q ∙ byte_kept d cs (suc j + n) j (omega arith) (omega arith) in
    let m : length cs ≤ fill - suc j = omega (arith, length-take (fill - suc j) (drop (suc j) d)) in
    let k : fill - j ≡ suc (fill - suc j) = omega arith in
    let r : get_or d j 0 ∷ cs ≡ part d j (fill - j) =
    ap (λ (x : List ℕ). take (suc (fill - suc j)) x) (sym (drop-cons d j 0 (omega arith))) ∙ ap (λ (x : ℕ). take x (drop j d)) (sym k) in
    one_store e (j + n) (get_or e j 0) (omega arith)
    ∙ ap₂ (λ (x : List ℕ) (y : ℕ). append x (j + n) (y ∷ [])) q b
    ∙ append_under d (j + n) (get_or d j 0 ∷ []) cs (suc j + n) (omega arith) (omega arith)
    ∙ ap (append d (j + n)) r
