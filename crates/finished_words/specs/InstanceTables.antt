-- Lists that meet the theorems' premises: four label tables, an entry record, two regions, seven pendings. Assumes nothing.
use Rattle.std.specs.Prelude.{ℕ, ◌/◌, ◌%◌, List, [], ◌∷◌, ◌++◌, length}

-- ---- numbers and records as document 01 lays them out
abbrev two : ℕ → List ℕ
two n = n % 256 ∷ n / 256 % 256 ∷ []

abbrev four : ℕ → List ℕ
four n = two n ++ two (n / 65536)

abbrev eight : ℕ → List ℕ
eight n = four n ++ four (n / 4294967296)

abbrev kinded : ℕ → List ℕ → List ℕ
kinded kind body = two (length body) ++ two kind ++ body

abbrev label : ℕ → List ℕ → List ℕ
label address name = kinded 34 (four address ++ name)

abbrev owned : (address owner : ℕ) → List ℕ → List ℕ
owned address owner name = kinded 41 (four address ++ four owner ++ name)

abbrev region : ℕ → List ℕ → List ℕ
region address words = kinded 35 (four address ++ words)

abbrev pub loop : List ℕ
loop = 0x6C ∷ 0x6F ∷ 0x6F ∷ 0x70 ∷ []

abbrev pub main : List ℕ
main = 0x6D ∷ 0x61 ∷ 0x69 ∷ 0x6E ∷ []

-- form, value, location and name, for a constant or for a name with an offset; the name's location is a source and index 2
abbrev constant : ℕ → List ℕ
constant value = 0 ∷ eight value ++ four 0 ++ four 0

abbrev named : (source : ℕ) → List ℕ → ℕ → List ℕ
named source name offset = 1 ∷ eight offset ++ four source ++ four 2 ++ name

-- region, offset, location 1, 1, patch kind, target
abbrev patch : ℕ → ℕ → ℕ → List ℕ → List ℕ
patch number offset kind target = kinded 36 (two number ++ four offset ++ four 1 ++ four 1 ++ kind ∷ target)

-- ---- the lists

-- Each table has a `loop` for all files, one for file 1, one for file 2, and `main`. Tables 2 to 4 each move one label of the first: the `loop` for
-- all, which nothing resolves to; file 1's `loop`, which pendings resolve to; and `main`, which only the entry names.
abbrev labelled : (for_all for_first for_second start : ℕ) → List ℕ
labelled for_all for_first for_second start = label for_all loop ++ owned for_first 1 loop ++ owned for_second 2 loop ++ label start main

unfoldable pub labels₁ : List ℕ
labels₁ = labelled 0x00001000 0x00400008 0x00400010 0x00400004

unfoldable pub labels₂ : List ℕ
labels₂ = labelled 0x00002000 0x00400008 0x00400010 0x00400004

unfoldable pub labels₃ : List ℕ
labels₃ = labelled 0x00001000 0x0040000C 0x00400010 0x00400004

unfoldable pub labels₄ : List ℕ
labels₄ = labelled 0x00001000 0x00400008 0x00400010 0x0040000C

unfoldable pub entry : List ℕ
entry = kinded 38 (named 1 main 0)

unfoldable pub regions : List ℕ
regions =
    region 0x00400000 (four 0x10000000 ++ four 0 ++ four 0x08000000 ++ four 0x15090000 ++ four 0x11090000)
    ++ region 0x10010000 (four 0x3C010000 ++ four 0x34210000 ++ four 0)

-- Seven patches, in regions 1, 0, 1, 1, 0, 0, 0: a Lower to file 1's loop + 0xC000; a Branch forward to that loop; a Full to the low 32 bits of its
-- constant; the Lower's Upper; a Jump to file 2's loop - 4, whose sum wraps; a Branch 32,768 words back and one 32,767 words ahead, each to a
-- constant.
unfoldable pub pending : List ℕ
pending =
    patch 1 4 2 (named 1 loop 0xC000)
    ++ patch 0 0 0 (named 1 loop 0)
    ++ patch 1 8 4 (constant 0xFFFFFFFF12345678)
    ++ patch 1 0 3 (named 1 loop 0xC000)
    ++ patch 0 8 1 (named 2 loop 0xFFFFFFFFFFFFFFFC)
    ++ patch 0 12 0 (constant 0x003E0010)
    ++ patch 0 16 0 (constant 0x00420010)

-- the regions after the build with the first table, the second or the fourth
unfoldable pub finished : List ℕ
finished =
    region 0x00400000 (four 0x10000001 ++ four 0 ++ four 0x08100003 ++ four 0x15098000 ++ four 0x11097FFF)
    ++ region 0x10010000 (four 0x3C010040 ++ four 0x3421C008 ++ four 0x12345678)

-- document 01's example: "region 0x00400000 with bytes 00 00 00 10, and one Branch pending at 0 to constant 0x00400000"
unfoldable pub example_regions : List ℕ
example_regions = region 0x00400000 (0 ∷ 0 ∷ 0 ∷ 0x10 ∷ [])

unfoldable pub example_pending : List ℕ
example_pending = kinded 36 (two 0 ++ four 0 ++ four 0 ++ four 0 ++ 0 ∷ constant 0x00400000)

-- "00400000 1000ffff"
unfoldable pub example_finished : List ℕ
example_finished = region 0x00400000 (four 0x1000FFFF)

-- ---- without owners: one `loop`, for all files, and a pair whose names stand in two files, the Lower's in file 2 and the Upper's in file 1
unfoldable pub straight_labels : List ℕ
straight_labels = label 0x00400008 loop

unfoldable pub straight_regions : List ℕ
straight_regions = region 0x10010000 (four 0x3C010000 ++ four 0x34210000)

unfoldable pub straight_pending : List ℕ
straight_pending = patch 0 4 2 (named 2 loop 0xC000) ++ patch 0 0 3 (named 1 loop 0xC000)
