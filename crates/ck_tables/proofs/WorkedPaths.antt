-- Worked paths: parts 2 and 3 of a whole object, part 5 of the first of them, and part 0 of that.
use Rattle.std.proofs.Common.{◌≡◌, ℕ, List, [], ◌∷◌, refl}
use Rattle.std.specs.Prelude.{false, Option, Some, None}
use Rattle.ck_tables.specs.SubobjectTable.{path_at, reads_below, IsOrdered}
use Rattle.ck_tables.specs.Tables.{tree_in}
use Rattle.ck_tables.specs.declared.subobjects.Subobject.{Subobject}
use Rattle.ck_tables.specs.declared.subobjects.SubobjectId.{SubobjectId}

abbrev part_in : Option SubobjectId → ℕ → Subobject
part_in around number = record { within = around; number = number }

abbrev part_of : ℕ → Option SubobjectId
part_of n = Some (record { 0 = n })

abbrev rows : List Subobject
rows = part_in None 2 ∷ part_in None 3 ∷ part_in (part_of 0) 5 ∷ part_in (part_of 2) 0 ∷ []

of-the-whole : path_at rows 1 ≡ 3 ∷ []
unfolding tree_in
of-the-whole = refl

of-a-part : path_at rows 2 ≡ 2 ∷ 5 ∷ []
unfolding tree_in
of-a-part = refl

of-a-part-of-a-part : path_at rows 3 ≡ 2 ∷ 5 ∷ 0 ∷ []
unfolding tree_in
of-a-part-of-a-part = refl

rows-are-ordered : IsOrdered rows
rows-are-ordered = refl

not-of-itself : reads_below 2 (part_in (part_of 2) 0) ≡ false
not-of-itself = refl
