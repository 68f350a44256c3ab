-- The declaration of a number that fits a project is what its tables say of the number.
use Rattle.std.proofs.Common.{◌≡◌, ◌<◌, ◌≤◌, ℕ, zero, suc, List, [], ◌∷◌, length, Option, Some, None, true, refl, ap}
use Rattle.std.proofs.Common.{arith}
use Rattle.std.proofs.lemmas.Bool.{ltb-true}
use Rattle.std.proofs.lemmas.Option.{slice_get_past}
use Rattle.std.specs.Option.{option_map}
use Rattle.std.specs.Prelude.{slice_get}
use Rattle.ck_passages.specs.Points.{declared_at}
use Rattle.ck_tables.specs.Entries as entries
use Rattle.ck_tables.specs.Numbers.{numbers, fits_if_any, entry_fits}
use Rattle.ck_tables.specs.Program.{read, no_entry, entry_of, entry_readings, readings}
use Rattle.ck_tables.specs.Readings.{plain_entry}
use Rattle.ck_tables.specs.declared.facts.EntryId.{EntryId}
use Rattle.ck_tables.specs.declared.program.Linked.{Linked}

got-within : {X Y : Type 0} (none : Y) (plain : X → Y) (xs : List X) (i : ℕ) → i < length xs →
    option_map plain (slice_get xs i) ≡ Some (read none plain xs i)
got-within none plain [] i h = absurd (omega (arith, h))
got-within none plain (x ∷ xs) zero h = refl
got-within none plain (x ∷ xs) (suc i) h = got-within none plain xs i (omega (arith, h))

module _ (l : Linked) where
  pub declared-within : (id : EntryId) → id.0 < length l.entries.rows.items →
      declared_at l (Some id) ≡ Some (entry_of l id.0)
  declared-within id h = got-within no_entry (entries.plain_entry (entry_readings l)) l.entries.rows.items id.0 h

  pub declared-past : (id : EntryId) → length l.entries.rows.items ≤ id.0 → declared_at l (Some id) ≡ None
  declared-past id h =
      ap (option_map (entries.plain_entry (entry_readings l))) (slice_get_past l.entries.rows.items id.0 h)

  pub declared-fits : (function : Option EntryId) → fits_if_any (entry_fits (numbers l)) function ≡ true →
      declared_at l function ≡ plain_entry (readings l) function
  declared-fits None h = refl
  declared-fits (Some id) h = declared-within id (ltb-true id.0 (length l.entries.rows.items) h)
