-- Pages computed: two regions (one wraps its pc and ends in a part word); labels: both kinds at one pc, one inside a word, one at a region's
-- end, names of 20 and 21 bytes. The exact length is accepted, a longer one too; one byte short gives 18; 2 comes before 18. Assumes nothing.
use Rattle.std.specs.Prelude.{ℕ, ◌≡◌, refl, replicate, Err, Ok}
use mathlib.Core.List.{List, [], ◌∷◌, ◌++◌, flatten}
use Rattle.record.specs.Bytes.{all, same_bytes}
use Rattle.record.specs.Records.{places_f, places_from, places, first_bad, first_bad_of, within_limit}
use Rattle.record.specs.Stores.{le32_bytes, record_bytes, append}
use Rattle.record.specs.Texts.{bytes_of}
use Rattle.refusal.specs.declared.Refusal.TheVariants.{BadLayout, DuplicateName, NoPageSpace}
use Rattle.names.specs.Names.{first_where, first_later}
use Rattle.name_order.specs.Order.{order}
use Rattle.labels.specs.Labels.{label_ok, label_layout}
use Rattle.regions.specs.Regions.{region_ok, region_records, region_layout}
use Rattle.finished_words.specs.Listed.{Bytes}
use Rattle.finished_words.proofs.ListedLaws.{of_bytes}
use Rattle.reading.specs.Reading.{image_of}
use Rattle.reading.specs.Rows.{rows}
use Rattle.text.specs.Text.{hex_bytes, word_text}
use Rattle.page_outcome.specs.Page.{blanks, region_line, word_line, names_at, smaller, smallest, label_at, page_lines, page_of}
use Rattle.page_outcome.specs.Outcome.{page_layout, layout_verdicts, page_verdict, page_outcome}
use Rattle.page_outcome.proofs.Determined.{SameData, page_determines}

abbrev for_all : (address : ℕ) (name : List ℕ) → List ℕ
for_all address name = record_bytes 34 (le32_bytes address ++ name)

abbrev owned : (address owner : ℕ) (name : List ℕ) → List ℕ
owned address owner name = record_bytes 41 (le32_bytes address ++ le32_bytes owner ++ name)

abbrev labels : List ℕ
labels =
    for_all 0x00400000 (bytes_of "main")
    ++ owned 0x00400000 2 (bytes_of "loop")
    ++ for_all 0x00400000 (bytes_of "loops")
    ++ owned 0x00400006 1 (bytes_of "loop")
    ++ for_all 0x00400008 (bytes_of "end")
    ++ for_all 0xFFFFFFFC (bytes_of "abcdefghijklmnopqrst")
    ++ for_all 0 (bytes_of "abcdefghijklmnopqrsuA")
    ++ for_all 0 (bytes_of "abcdefghijklmnopqrstu")
    ++ for_all 4 (bytes_of "~end of it")

abbrev regions : List ℕ
regions =
    record_bytes 35 (le32_bytes 0xFFFFFFFC ++ (0x78 ∷ 0x56 ∷ 0x34 ∷ 0x12 ∷ 0xEF ∷ 0xCD ∷ 0xAB ∷ 0x00 ∷ 0x01 ∷ 0xFE ∷ 0x30 ∷ []))
    ++ record_bytes 35 (le32_bytes 0x00400000 ++ (0x25 ∷ 0x40 ∷ 0x09 ∷ 0x00 ∷ 0x00 ∷ 0x00 ∷ 0x00 ∷ 0x00 ∷ []))

abbrev text : List ℕ
text =
    bytes_of "00                                                                      \n"
    ++ bytes_of "fffffffc  12345678  abcdefghijklmnopqrst                                \n"
    ++ bytes_of "00000000  00abcdef  abcdefghijklmnopqrs~                                \n"
    ++ bytes_of "00000004  01fe30    ~end of it                                          \n"
    ++ bytes_of "01                                                                      \n"
    ++ bytes_of "00400000  00094025  loop                                                \n"
    ++ bytes_of "00400004  00000000                                                      \n"

-- A page buffer of n bytes, each 7.
abbrev sevens : ℕ → List ℕ
sevens n = replicate n 7

pub page : page_of labels regions ≡ text
unfolding page_of flatten page_lines label_at names_at smallest smaller order rows word_text word_line region_line blanks image_of places places_from places_f hex_bytes
page = refl

pub record Worked : Type 0 where
  pub laid_out : page_outcome labels regions (sevens 514) ≡ record { answer = Ok 511; page = text ++ sevens 3 }
  pub exact : page_outcome labels regions (sevens 511) ≡ record { answer = Ok 511; page = text }
  pub one_short : page_outcome labels regions (sevens 510) ≡ record { answer = Err NoPageSpace; page = sevens 510 }
  -- One shared name twice, and no room for the page: refusal 2 comes first.
  pub twice : page_outcome (for_all 0 (bytes_of "a") ++ for_all 4 (bytes_of "a")) regions (sevens 1) ≡ record { answer = Err (DuplicateName 0 9); page = sevens 1 }
  pub no_region : page_outcome labels [] (sevens 1) ≡ record { answer = Err (BadLayout 1 0); page = sevens 1 }

pub worked : Worked
unfolding page_outcome page_verdict layout_verdicts page_layout append page_of flatten page_lines label_at names_at smallest smaller order rows word_text word_line region_line blanks image_of places places_from places_f hex_bytes label_layout label_ok region_layout region_records region_ok first_bad first_bad_of within_limit first_later first_where all same_bytes
worked = record { laid_out = refl; exact = refl; one_short = refl; twice = refl; no_region = refl }

-- ---- two lists of bytes with one page: a region without data does not show its address
abbrev no_data : (address : ℕ) → List ℕ
no_data address = record_bytes 35 (le32_bytes address)

same_page : page_of labels (no_data 0x00400000) ≡ page_of [] (no_data 4)
unfolding page_of flatten page_lines rows region_line blanks image_of places places_from places_f
same_page = refl

no_data_bytes : Bytes (no_data 0x00400000) × Bytes (no_data 4)
unfolding all
no_data_bytes = (of_bytes (no_data 0x00400000) refl, of_bytes (no_data 4) refl)

pub instance_determines : SameData (image_of (no_data 0x00400000)) (image_of (no_data 4))
instance_determines = page_determines labels [] (no_data 0x00400000) (no_data 4) no_data_bytes.0 no_data_bytes.1 same_page
