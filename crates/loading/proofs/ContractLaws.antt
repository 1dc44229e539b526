-- What `load_immediate` promises, for each form that it reports. Assumes nothing.
use Rattle.std.specs.Prelude.{◌≡◌, refl, List, ℕ, ◌<◌, length, take}
use Rattle.std.proofs.Common.{sym, ap, ap₂, ◌∙◌}
use Rattle.loading.specs.declared.LoadForm.{LoadForm}
use Rattle.loading.specs.declared.LoadForm.TheVariants.{Nothing, Addiu, Ori, Lui, BothHalves}
use Rattle.loading.specs.Load.{form_of, form_words}
use Rattle.loading.proofs.LoadLaws.{words_by}
use Rattle.loading.specs.Run.{run}
use Rattle.loading.proofs.Loading.{loading_runs}
use Rattle.loading.specs.Contract.{padded, LoadedIs}

-- a form's words are what stands before the padding
before_padding : (f : LoadForm) (c t : ℕ) → take (length (form_words f c t)) (padded (form_words f c t)) ≡ form_words f c t
before_padding Nothing c t = refl
before_padding Addiu c t = refl
before_padding Ori c t = refl
before_padding Lui c t = refl
before_padding BothHalves c t = refl

pub loaded_by : (c t : ℕ) {words : List ℕ} {count : ℕ} {form : LoadForm} (f : LoadForm) → t < 32 → form_of c ≡ f
    → words ≡ padded (form_words f c t) → count ≡ length (form_words f c t) → form ≡ f → LoadedIs c t words count form
loaded_by c t f ht e p q r =
    let w = words_by c t e in
    record {
      words_are = p ∙ ap padded (sym w);
      count_is = q ∙ ap length (sym w);
      form_is = r ∙ sym e;
      runs = λ g hg. ap (λ (l : List ℕ). run l g) (ap₂ take q p ∙ before_padding f c t ∙ sym w) ∙ loading_runs c t g ht hg;
    }
