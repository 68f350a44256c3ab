-- The places that maps give, and what ends a segment, as the code finds them. Private contracts alone speak of these;
-- proofs/ join them with the definition.
use Rattle.std.specs.Prelude.{ℕ, Bool, true, false, ◌&&◌, nat_le, if◌then◌else◌, List, [], ◌∷◌, Option, None, Some}
use Rattle.std.specs.Prelude.{slice_get, slice_index_or, codes}
use Rattle.ck_base.specs.declared.refusals.Spot.{Spot}
use Rattle.ck_base.specs.declared.refusals.Spot.TheVariants as spot
use Rattle.ck_base.specs.declared.spans.Span.{Span}
use Rattle.ck_lexer.specs.PlaceMaps.{names_of, place_on}
use Rattle.ck_lexer.specs.Places.{Place}
use Rattle.ck_lexer.specs.declared.places.Line.{Line}
use Rattle.ck_lexer.specs.declared.places.PlaceMap.{PlaceMap}
use Rattle.ck_segments.specs.declared.segments.Step.{Step}
use Rattle.ck_segments.specs.declared.segments.Step.TheVariants.{Edge, Call, Enter}
use Rattle.ck_texts.specs.Lines.{place_text}
use Rattle.ck_texts.specs.Views.{File}

-- a line, where it starts at an offset or before it and no earlier than one that was found before
abbrev pub later : ℕ → Line → Line → Line
later offset found line = if nat_le line.start offset && nat_le found.start line.start then line else found

-- the latest of these lines, and of one found before, that starts at an offset or before it
abbrev pub latest : ℕ → Line → List Line → Line
latest offset found [] = found
latest offset found (line ∷ lines) = latest offset (later offset found line) lines

abbrev pub first_of_file : Line
first_of_file = record { start = 0; number = 1; name = 0 }

unfoldable pub place_in : PlaceMap → ℕ → Place
place_in map offset = place_on (names_of map.names.items) (latest offset first_of_file map.lines.items) offset

-- where a span begins
unfoldable pub place_by : List PlaceMap → Span → Place
place_by maps span = place_or_none (slice_get maps span.file) where
  place_or_none : Option PlaceMap → Place
  place_or_none None = record { name = []; line = 0; column = 0 }
  place_or_none (Some map) = place_in map span.start

abbrev pub file_name_of : List File → ℕ → List ℕ
file_name_of files n = (slice_index_or files n (record { name = []; bytes = [] })).name

-- what is printed for a spot
abbrev pub spot_text : List File → List PlaceMap → Spot → List ℕ
spot_text files maps spot.Nowhere = codes "-"
spot_text files maps (spot.File n) = file_name_of files n
spot_text files maps (spot.At span) = place_text (place_by maps span)

-- a step goes into a call
abbrev pub enters : Step → Bool
enters (Edge k) = false
enters (Call target segment) = false
enters (Enter target) = true
