-- The elements of an array, beside the items that they stand for.
use Rattle.std.proofs.Common.{◌≡◌, List, [], ◌∷◌, map, refl, ap}
use Rattle.toml.specs.declared.value.Value.{Value}
use Rattle.toml.specs.View.{view, items_view}
use Rattle.ck_settings.specs.Values.{data_of}

pub data_of_items : (vs : List Value) → data_of (items_view vs) ≡ map view vs
data_of_items [] = refl
data_of_items (v ∷ vs) = ap (λ ds. view v ∷ ds) (data_of_items vs)
