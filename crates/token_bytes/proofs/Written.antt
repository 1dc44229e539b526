-- Token records one behind the other: the list keeps its layout, and its tokens mean what was written (document 01, 'Tokens').
-- Assumes nothing.
use Rattle.std.specs.Prelude.{ℕ, ◌≤◌, List, [], ◌∷◌, ◌++◌, map, ◌≡◌, refl, length, None}
use Rattle.std.proofs.Common.{arith, ap, ap₂, ◌∙◌, length-append}
use Rattle.std.proofs.lemmas.Simd.{map-map}
use Rattle.record.specs.Bytes.{all}
use Rattle.record.specs.Stores.{LocationFits}
use Rattle.record.specs.Records.{places, places_from, first_bad, limit}
use Rattle.record.proofs.RecordsLaws.{places_all, places_step, first_pass, limit_kept}
use Rattle.record.specs.declared.Location.{Location}
use Rattle.registers.specs.declared.RegisterSlot.TheVariants.{Temporary0}
use Rattle.lexer.specs.Tokens.{strip, token_ok, token_layout, token_at, tokens}
use Rattle.lexer.specs.declared.Token.{Token}
use Rattle.lexer.specs.declared.TokenKind.TheVariants.{Register, Symbol, Comma}
use Rattle.token_bytes.specs.TokenBytes.{token_bytes, TokenFits}
use Rattle.token_bytes.specs.Meant.{Meant, meant}
use Rattle.token_bytes.proofs.BehindLaws.{behind, places_behind, good_behind, all_behind}
use Rattle.token_bytes.proofs.WrittenLaws.{whole_first, next_is, first_passes, first_read}

-- the records of tokens whose texts stand in `texts`
unfoldable pub list_bytes : (texts : List ℕ) → List Token → List ℕ
list_bytes texts [] = []
list_bytes texts (t ∷ ts) = token_bytes texts t ++ list_bytes texts ts

abbrev pub AllFit : (texts : List ℕ) → List Token → Type 0
AllFit texts [] = Unit {0}
AllFit texts (t ∷ ts) = TokenFits texts t × AllFit texts ts

pub record Written (texts : List ℕ) (ts : List Token) (list : List ℕ) : Type 0 where
  pub keeps : token_layout list ≡ None
  pub reads : map (meant list) (tokens list) ≡ map (meant texts) ts

-- ---- by the records' places
record Held (texts : List ℕ) (ts : List Token) (list : List ℕ) : Type 0 where
  passes : first_bad (token_ok list) (places_from list 0) ≡ None
  means : map (λ (p : ℕ). meant list (token_at list p)) (places_from list 0) ≡ map (meant texts) ts

one_more : (texts : List ℕ) (t : Token) (ts : List Token) (r : List ℕ) → TokenFits texts t → Held texts ts r → Held texts (t ∷ ts) (token_bytes texts t ++ r)
one_more texts t ts r f h =
    let l = token_bytes texts t in
    let s = l ++ r in
    let ps = places_from r 0 in
    let placed : places_from s 0 ≡ 0 ∷ map (behind l r) ps =
    places_step s 0 (omega (arith, length-append l r)) (whole_first texts t f r)
    ∙ ap (λ (k : ℕ). 0 ∷ places_from s k) (next_is texts t f r)
    ∙ ap (λ (qs : List ℕ). 0 ∷ qs) (places_behind l r) in
    record {
      passes = ap (first_bad (token_ok s)) placed ∙ first_pass (token_ok s) 0 (map (behind l r) ps) (first_passes texts t f r) ∙ good_behind l r ps h.passes;
      means = ap (map (λ (p : ℕ). meant s (token_at s p))) placed
          ∙ ap₂ (λ (x : Meant) (xs : List Meant). x ∷ xs) (first_read texts t f r) (all_behind l r ps ∙ h.means);
    }

held : (texts : List ℕ) (ts : List Token) → AllFit texts ts → Held texts ts (list_bytes texts ts)
unfolding list_bytes places_from first_bad
held texts [] f = record { passes = refl; means = refl }
held texts (t ∷ ts) f = one_more texts t ts (list_bytes texts ts) f.0 (held texts ts f.1)

pub written_reads_back : (texts : List ℕ) (ts : List Token) → AllFit texts ts → length (list_bytes texts ts) ≤ limit → Written texts ts (list_bytes texts ts)
unfolding token_layout tokens
written_reads_back texts ts f h =
    let list = list_bytes texts ts in
    let x = held texts ts f in
    record {
      keeps = limit_kept list (first_bad (token_ok list) (places list)) h ∙ ap (first_bad (token_ok list)) (places_all list) ∙ x.passes;
      reads = map-map (meant list) (token_at list) (places list) ∙ ap (map (λ (p : ℕ). meant list (token_at list p))) (places_all list) ∙ x.means;
    }

-- the premises can be met: `loop,$t0`
abbrev name : List ℕ
name = 0x6C ∷ 0x6F ∷ 0x6F ∷ 0x70 ∷ []

abbrev spot : Location
spot = record { source = 7; index = 9 }

fits_spot : LocationFits spot
fits_spot = record { source_fits = omega arith; index_fits = omega arith }

pub some_fit : AllFit name
    ((record { location = spot; kind = Symbol (record { start = 0; len = 4 }) }) ∷ (record { location = spot; kind = Comma }) ∷ (record { location = spot; kind = Register Temporary0 }) ∷ [])
unfolding all
some_fit = (
  record {
    location_fits = fits_spot;
    carried_fits = (record { within = omega arith; most = omega arith; text = refl }, omega arith);
    float_fits = λ x e. let k = ap strip e in absurd (omega arith);
  },
  (record { location_fits = fits_spot; carried_fits = tt; float_fits = λ x e. let k = ap strip e in absurd (omega arith) }, (record { location_fits = fits_spot; carried_fits = omega arith; float_fits = λ x e. let k = ap strip e in absurd (omega arith) }, tt)),
)
