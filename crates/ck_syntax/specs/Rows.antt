-- Lists of the program as plain lists: each element puts itself before what follows it.
use Rattle.std.specs.Prelude.{List, [], ◌∷◌}

abbrev pub row_before : {X Y : Type 0} → (X → Y → Y) → List X → Y → Y
row_before before [] rest = rest
row_before before (x ∷ xs) rest = before x (row_before before xs rest)
