-- The image of a finished region list: each region's address and its words, region by region. Assumes nothing.
use Rattle.std.specs.Prelude.{ℕ, zero, suc, ◌+◌, ◌-◌, ◌<◌, ◌≤◌, List, [], ◌∷◌, map, ◌≡◌, refl, length, drop, get_or}
use Rattle.std.proofs.Common.{arith, add_assoc, add-one, sym, ap, ap₂, ◌∙◌, length-take, length-drop, drop_of_length-le, drop-cons, get_or-take, get_or-drop}
use Rattle.std.proofs.lemmas.List.{length-map}
use Rattle.field.specs.Wrap.{wrap32}
use Rattle.record.specs.Bytes.{byte_at, le32, part}
use Rattle.record.specs.Records.{body_len, places}
use Rattle.regions.specs.declared.Region.{Region}
use Rattle.regions.specs.Regions.{region_count, region_place, region_at}
use Rattle.regions.proofs.RegionsLaws.{RegionIs, region_is, region_place_ok}
use Rattle.pending.specs.declared.Pending.{Pending}
use Rattle.patch.specs.Patches.{pc_of, region_for}
use Rattle.build_outcome.proofs.KeptLaws.{Kept, region_same}
use Rattle.reading.specs.Reading.{ImageRegion, image_region, image_of, missing_region, region_in, pc_in, word_in}

get_d_map : {A : Type 0} (f : ℕ → A) (l : List ℕ) (n : ℕ) (d : A) → n < length l → get_or (map f l) n d ≡ f (get_or l n 0)
get_d_map f [] n d h = absurd (omega arith)
get_d_map f (x ∷ xs) zero d h = refl
get_d_map f (x ∷ xs) (suc n) d h = get_d_map f xs n d (omega arith)

part_byte : (s : List ℕ) (i n o : ℕ) → o < n → byte_at (part s i n) o ≡ byte_at s (i + o)
part_byte s i n o h = rw (get_or-take, get_or-drop)

-- a word of a part
pub part_word : (s : List ℕ) (i n o : ℕ) → o + 4 ≤ n → le32 (part s i n) o ≡ le32 s (i + o)
part_word s i n o h =
    let b₁ : byte_at (part s i n) (o + 1) ≡ byte_at s (i + o + 1) = part_byte s i n (o + 1) (omega arith) ∙ ap (byte_at s) (sym (add_assoc i o 1)) in
    let b₂ : byte_at (part s i n) (o + 2) ≡ byte_at s (i + o + 2) = part_byte s i n (o + 2) (omega arith) ∙ ap (byte_at s) (sym (add_assoc i o 2)) in
    let b₃ : byte_at (part s i n) (o + 3) ≡ byte_at s (i + o + 3) = part_byte s i n (o + 3) (omega arith) ∙ ap (byte_at s) (sym (add_assoc i o 3)) in
    omega (arith, part_byte s i n o (omega arith), b₁, b₂, b₃)

region_of_image : (s : List ℕ) (n : ℕ) → n < length (places s) → region_in (image_of s) n ≡ image_region s (get_or (places s) n 0)
unfolding image_of
region_of_image s n h = get_d_map (image_region s) (places s) n missing_region h

-- ---- the regions from a number on
image_length : (s : List ℕ) → length (image_of s) ≡ region_count s
unfolding image_of
image_length s = length-map (places s) (image_region s)

pub image_next : (s : List ℕ) (n : ℕ) → n < region_count s → drop n (image_of s) ≡ image_region s (region_place s n) ∷ drop (n + 1) (image_of s)
image_next s n h =
    let l : n < length (image_of s) = rw (image_length s) h in
    drop-cons (image_of s) n missing_region l
    ∙ ap₂ (λ (r : ImageRegion) (k : ℕ). r ∷ drop k (image_of s)) (region_of_image s n h) (sym (add-one n))

pub image_end : (s : List ℕ) (n : ℕ) → region_count s ≤ n → drop n (image_of s) ≡ []
image_end s n h =
    let l : length (image_of s) ≤ n = rw (image_length s) h in
    drop_of_length-le (image_of s) l

-- ---- the words of a region of a finished list

module _ (regions d : List ℕ) (k : Kept regions d) (r : ℕ) (h : r < region_count regions) where
  pub image_listed : r < length (image_of d)
  image_listed = rw (image_length d, k.places_same) h

  here : region_in (image_of d) r ≡ image_region d (region_place d r)
  here = region_of_image d r (rw k.places_same h)

  pub image_address : (region_in (image_of d) r).address ≡ (region_at regions (region_place regions r)).address
  image_address =
      ap (λ (g : ImageRegion). g.address) here ∙ ap (λ (g : Region). g.address) (region_same regions d k r h)

  pub image_size : length (region_in (image_of d) r).bytes ≡ (region_at regions (region_place regions r)).size
  image_size =
      let p = region_place d r in
      let f : RegionIs d p = region_is d p (region_place_ok d r k.layout_good (rw k.places_same h)) in
      let e : length (part d (p + 8) (body_len d p - 4)) ≡ body_len d p - 4 = simp (length-take, length-drop) (omega (arith, f.body, f.least)) in
      ap (λ (g : ImageRegion). length g.bytes) here ∙ e ∙ ap (λ (g : Region). g.size) (region_same regions d k r h)

  pub image_word : (o : ℕ) → o + 4 ≤ (region_at regions (region_place regions r)).size → word_in (image_of d) r o ≡ le32 d ((region_at regions (region_place regions r)).start + o)
  image_word o l =
      let s : (region_at d (region_place d r)).size ≡ (region_at regions (region_place regions r)).size = ap (λ (g : Region). g.size) (region_same regions d k r h) in
      let p : (region_at d (region_place d r)).start ≡ (region_at regions (region_place regions r)).start = ap (λ (g : Region). g.start) (region_same regions d k r h) in
      ap (λ (g : ImageRegion). le32 g.bytes o) here
      ∙ part_word d (region_place d r + 8) (body_len d (region_place d r) - 4) o (omega arith)
      ∙ ap (λ (x : ℕ). le32 d (x + o)) p

pub image_pc : (regions d : List ℕ) (p : Pending) → Kept regions d → p.region < region_count regions → pc_in (image_of d) p ≡ pc_of (region_for regions p) p
image_pc regions d p k h = ap (λ (x : ℕ). wrap32 (x + p.offset)) (image_address regions d k p.region h)
