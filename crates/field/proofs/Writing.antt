-- Field writing, once for every word, offset, width and value together. Assumes nothing.
use Rattle.std.specs.Prelude.{◌≡◌, ℕ, ◌+◌, ◌/◌, ◌%◌, ◌^◌, ◌≤◌, ◌<◌}
use Rattle.std.specs.Int.Bits.{bit_or}
use Rattle.field.specs.Field.{get_field, set_field, or_field}
use Rattle.field.proofs.FieldLaws.{or_get, or_below, or_above, or_is_set, get_set_same, get_set_below, get_set_above}

-- What clearing a field and OR-ing a value in does.
pub record Written (w off width v : ℕ) : Type 0 where
  -- The field holds the value's low digits, and so the value itself if it fits.
  pub reads : get_field (or_field w off width v) off width ≡ v % 2 ^ width
  -- each field below is as it was
  pub below : (o n : ℕ) → o + n ≤ off → get_field (or_field w off width v) o n ≡ get_field w o n
  -- The digits above are OR-ed with the part of the value for which the field has no room.
  pub above : or_field w off width v / 2 ^ (off + width) ≡ bit_or (w / 2 ^ (off + width)) (v / 2 ^ width)

pub written : (w off width v : ℕ) → Written w off width v
written w off width v = record {
  reads = or_get w off width v;
  below = or_below w off width v;
  above = or_above w off width v;
}

-- What writing a value that fits does: the field holds the value, and each other field is as it was.
pub record Fitted (w off width v : ℕ) : Type 0 where
  pub same : or_field w off width v ≡ set_field w off width v
  pub reads : get_field (set_field w off width v) off width ≡ v
  pub below : (o n : ℕ) → o + n ≤ off → get_field (set_field w off width v) o n ≡ get_field w o n
  pub above : (o n : ℕ) → off + width ≤ o → get_field (set_field w off width v) o n ≡ get_field w o n

pub fitted : (w off width v : ℕ) → v < 2 ^ width → Fitted w off width v
fitted w off width v h = record {
  same = or_is_set w off width v h;
  reads = get_set_same w off width v h;
  below = λ o n k. get_set_below w off width v o n k;
  above = λ o n k. get_set_above w off width v o n h k;
}
