-- The words that load a constant (document 01, 'Words'). Assumes nothing.
use Rattle.std.specs.Prelude.{ℕ, ◌-◌, ◌/◌, ◌%◌, ◌^◌, List, [], ◌∷◌, Bool, true, false, ◌||◌, leb, ltb, eqb}
use Rattle.word.specs.Layout.{immediate_layout}
use Rattle.loading.specs.declared.LoadForm.{LoadForm}
use Rattle.loading.specs.declared.LoadForm.TheVariants.{Nothing, Addiu, Ori, Lui, BothHalves}

-- "Loading a constant takes its low 32 bits."
abbrev pub low32 : ℕ → ℕ
low32 c = c % 2 ^ 32

abbrev pub upper_half : ℕ → ℕ
upper_half c = low32 c / 65536

abbrev pub lower_half : ℕ → ℕ
lower_half c = low32 c % 65536

-- "Read signed, -32,768 to 32,767 gives addiu."
unfoldable pub is_small : ℕ → Bool
is_small c = ltb (low32 c) 32768 || leb (2 ^ 32 - 32768) (low32 c)

-- The form of a loaded constant (document 02, P2: "addiu alone, ori alone, lui alone, or both halves"), by document 01's rule: "Read signed,
-- -32,768 to 32,767 gives addiu. Otherwise lui if the upper half is nonzero, then ori if the lower is." A constant that is not small and has
-- no upper half has a lower one.
unfoldable pub form_of : ℕ → LoadForm
unfolding is_small
form_of c =
    elim (is_small c) [
      | true ↦ Addiu
      | false ↦ elim (eqb (upper_half c) 0) [ true ↦ Ori | false ↦ elim (eqb (lower_half c) 0) [ true ↦ Lui | false ↦ BothHalves ] ]
    ]

-- "A loading word's t is the chosen register, its s $zero, or t for ori after lui, its n the upper half for lui and else the lower."
abbrev pub addiu_word : ℕ → ℕ → ℕ
addiu_word t c = immediate_layout 9 0 t (lower_half c)

abbrev pub lui_word : ℕ → ℕ → ℕ
lui_word t c = immediate_layout 15 0 t (upper_half c)

abbrev pub ori_word : ℕ → ℕ → ℕ → ℕ
ori_word s t c = immediate_layout 13 s t (lower_half c)

-- the words of a form: none for Nothing, two for both halves, else one
abbrev pub form_words : LoadForm → ℕ → ℕ → List ℕ
form_words Nothing c t = []
form_words Addiu c t = addiu_word t c ∷ []
form_words Ori c t = ori_word 0 t c ∷ []
form_words Lui c t = lui_word t c ∷ []
form_words BothHalves c t = lui_word t c ∷ ori_word t t c ∷ []

-- the words that load a constant: the words of its form
unfoldable pub load_words : ℕ → ℕ → List ℕ
unfolding form_of
load_words c t = form_words (form_of c) c t
