-- The names of functions by their numbers, and their rows.
use Rattle.std.proofs.Common.{◌≡◌, ◌<◌, ℕ, List, length, map, Some, sym, ap, ◌∙◌, arith}
use Rattle.std.proofs.lemmas.List.{length-map}
use Rattle.std.proofs.lemmas.Option.{slice_get-map, slice_get_within, get_or_from_slice_get}
use Rattle.std.specs.Option.{option_map}
use Rattle.std.specs.Prelude.{slice_get}
use Rattle.ck_tables.specs.Rows.{IsRow}

module _ {X Y : Type 0} (f : X → Y) (xs : List X) (i : ℕ) where
  -- the row of a number is what stands there
  pub row-of : (x : X) (y : Y) → slice_get xs i ≡ Some x → IsRow (map f xs) i y → y ≡ f x
  row-of x y there row =
      sym (row.is y)
      ∙ get_or_from_slice_get (map f xs) i (f x) y (slice_get-map f xs i ∙ ap (option_map f) there)

  pub got-within : (y : Y) → slice_get (map f xs) i ≡ Some y → i < length xs
  got-within y there =
      let h = slice_get_within (map f xs) i y there in
      omega (arith, h, length-map xs f)

pub row-got : {X : Type 0} (xs : List X) (i : ℕ) (x : X) → slice_get xs i ≡ Some x → IsRow xs i x
row-got xs i x there =
    record { within = slice_get_within xs i x there; is = λ d. get_or_from_slice_get xs i x d there }
