use Rattle.std.specs.Prelude.{Err}
use Rattle.std.proofs.Common.{◌≡◌, ℕ, List, ◌+◌, ◌≤◌, Bool, true, false, length, refl, sym, ap, ap₂, subst, ◌∙◌, arith}
use Rattle.record.specs.Stores.{append}
use Rattle.record.specs.declared.Location.{Location}
use Rattle.refusal.specs.declared.Refusal.TheVariants.{BadByte, BadToken, NoTokenSpace}
use Rattle.token_bytes.specs.TokenBytes.{carried_by, carried_size, token_bytes}
use Rattle.text_reader.proofs.FitLaws.{Stands, stands_small}
use Rattle.text_reader.proofs.OutcomeLaws.{blank_stands, record_size, answer_at, answer_end, answer_blank, answer_byte, answer_bad, answer_token, answer_short, stands}
use Rattle.text_reader.proofs.PassLaws.{Going, going_blank, going_fault, going_end, going_put}
use Rattle.text_reader.proofs.pass.Goals as goal
use Rattle.text_reader.proofs.pass.Goals.{In-Token, then-writes, else-writes}

-- the token lies in the text
token : (c : In-Token) → Stands c.args.text.now c.loop-at.at c.in-Token.kind c.in-Token.size
token c = stands c.args.source c.args.text.now c.loop-at.at _ c.loop-at-test.true c.piece_at.ensures _ _ c.in-Token.is

small : (c : In-Token) → carried_size (carried_by c.in-Token.kind) ≤ 64
small c = stands_small _ _ _ _ (token c)

-- The answer continues behind a token that has room.
onward : (c : In-Token) → c.loop-at.fill + record_size c.in-Token.kind ≤ length c.loop-at.tokens
    → answer_at c.args.source c.args.text.now 0 (length c.args.tokens.now) 0
    ≡ answer_at c.args.source c.args.text.now (c.loop-at.at + c.in-Token.size) (length c.loop-at.tokens) (c.loop-at.fill + record_size c.in-Token.kind)
onward c r =
    let l = c.loop-at in
    l.invariant.4 ∙ answer_token c.args.source c.args.text.now l.at _ c.loop-at-test.true c.piece_at.ensures _ _ c.in-Token.is (length l.tokens) l.fill r

pub loop-at-preserved-then-is_blank : goal.loop-at-preserved-then-is_blank
loop-at-preserved-then-is_blank c =
    let l = c.loop-at in
    let a = c.args in
    let h = c.loop-at-test.true in
    let e = blank_stands a.text.now l.at (sym c.if-is_blank.ensures) in (
      omega arith,
      l.invariant.1,
      l.invariant.2,
      l.invariant.3,
      l.invariant.4 ∙ answer_blank a.source a.text.now l.at _ h e refl (length l.tokens) l.fill,
      going_blank a.source a.text.now a.tokens.now l.tokens l.at l.fill a.writes _ h e refl l.invariant.5,
    )

pub loop-at-preserved-in-Blank : goal.loop-at-preserved-in-Blank
loop-at-preserved-in-Blank c =
    let l = c.loop-at in
    let a = c.args in
    let h = c.loop-at-test.true in
    let e = c.in-Blank.ensures in (
      omega arith,
      l.invariant.1,
      l.invariant.2,
      l.invariant.3,
      l.invariant.4 ∙ answer_blank a.source a.text.now l.at _ h e refl (length l.tokens) l.fill,
      going_blank a.source a.text.now a.tokens.now l.tokens l.at l.fill a.writes _ h e refl l.invariant.5,
    )

pub record_size-requires : goal.record_size-requires
record_size-requires c = small (goal.at.record_size-requires c).In-Token

pub overflow_add-end : goal.overflow_add-end
overflow_add-end c = omega (arith, c.record_size.ensures, small (goal.at.overflow_add-end c).In-Token)

pub returns-then-room-end : goal.returns-then-room-end
returns-then-room-end c =
    let l = c.loop-at in
    let a = c.args in
    let s = answer_short a.source a.text.now l.at _ c.loop-at-test.true c.piece_at.ensures _ _ c.in-Token.is (length l.tokens) l.fill
    (omega (arith, c.record_size.ensures, l.invariant.3)) in (
      ap (λ (x : Location). Err (NoTokenSpace x)) c.location_of.ensures ∙ sym (l.invariant.4 ∙ s),
      going_fault a.source a.text.now a.tokens.now l.tokens l.at l.fill a.writes _ s l.invariant.5,
    )

pub put_token-requires-clause-carried_fits : goal.put_token-requires-clause-carried_fits
put_token-requires-clause-carried_fits c = (token (goal.at.put_token-requires-clause-carried_fits c).In-Token).carried_fits

pub loop-at-smaller : goal.loop-at-smaller
loop-at-smaller c =
    let t = token (goal.at.loop-at-smaller c).In-Token in
    omega (arith, t.within, t.least)

pub returns-in-BadByte : goal.returns-in-BadByte
returns-in-BadByte c =
    let l = c.loop-at in
    let a = c.args in
    let s = answer_byte a.source a.text.now l.at _ c.loop-at-test.true c.in-BadByte.ensures refl (length l.tokens) l.fill in (
      ap (λ (x : Location). Err (BadByte x)) c.location_of-in-BadByte.ensures ∙ sym (l.invariant.4 ∙ s),
      going_fault a.source a.text.now a.tokens.now l.tokens l.at l.fill a.writes _ s l.invariant.5,
    )

pub returns-in-BadToken : goal.returns-in-BadToken
returns-in-BadToken c =
    let l = c.loop-at in
    let a = c.args in
    let s = answer_bad a.source a.text.now l.at _ c.loop-at-test.true c.in-BadToken.ensures refl (length l.tokens) l.fill in (
      ap (λ (x : Location). Err (BadToken x)) c.location_of-in-BadToken.ensures ∙ sym (l.invariant.4 ∙ s),
      going_fault a.source a.text.now a.tokens.now l.tokens l.at l.fill a.writes _ s l.invariant.5,
    )

pub returns : goal.returns
returns c =
    let l = c.loop-at in
    let a = c.args in (
      sym (l.invariant.4 ∙ answer_end a.source a.text.now l.at (length l.tokens) l.fill c.loop-at-test.false),
      going_end a.source a.text.now a.tokens.now l.tokens l.at l.fill a.writes c.loop-at-test.false l.invariant.5,
    )

pub overflow_add-at-in-Token : goal.overflow_add-at-in-Token
overflow_add-at-in-Token c = omega (arith, (token (goal.at.overflow_add-at-in-Token c).In-Token).within)

pub loop-at-preserved : goal.loop-at-preserved
loop-at-preserved c =
    let l = c.loop-at in
    let a = c.args in
    let kind = c.in-Token.kind in
    let size = c.in-Token.size in
    let d = c.if-writes.tokens in
    let kept : length d ≡ length l.tokens = c.if-writes.auto.tokens in
    let n : c.record_size.result ≡ record_size kind = c.record_size.ensures in
    let r : l.fill + record_size kind ≤ length l.tokens = omega (arith, n, l.invariant.3) in
    let t = (goal.at.loop-at-preserved c).In-Token in
    let going : Bool → List ℕ → Type 0 = λ b x. Going a.source a.text.now a.tokens.now b x (l.at + size) (l.fill + record_size kind) in
    let before : (b : Bool) → a.writes ≡ b → Going a.source a.text.now a.tokens.now b l.tokens l.at l.fill =
    λ b e. subst (λ (b : Bool). Going a.source a.text.now a.tokens.now b l.tokens l.at l.fill) e l.invariant.5 in
    let g : going a.writes d =
    elim c.if-writes.branch [
      | then-writes w ↦
          subst (λ (b : Bool). going b d) (sym w.if-writes.true)
          (going_put a.source a.text.now a.tokens.now l.tokens l.at l.fill _ c.loop-at-test.true c.piece_at.ensures kind size c.in-Token.is d kept
          (w.tokens-is
          ∙ w.put_token.ensures
          ∙ ap (λ (x : Location). append l.tokens l.fill (token_bytes a.text.now (record { location = x; kind = kind }))) w.location_of-location.ensures)
          (before true w.if-writes.true))
      | else-writes w ↦
          subst (λ (b : Bool). going b d) (sym w.if-writes.false) (subst (going false) (sym w.tokens-is) (before false w.if-writes.false))
    ] in (
      (token t).within,
      omega (arith, r, n, kept),
      kept ∙ l.invariant.2,
      kept ∙ l.invariant.3,
      onward t r ∙ ap₂ (λ (r m : ℕ). answer_at a.source a.text.now (l.at + size) r (l.fill + m)) (sym kept) (sym n),
      subst (λ (m : ℕ). Going a.source a.text.now a.tokens.now a.writes d (l.at + size) (l.fill + m)) (sym n) g,
    )
