-- The places that maps give are those of the definition.
use Rattle.std.proofs.Common.{◌≡◌, ℕ, zero, suc, ◌+◌, ◌<◌, ◌≤◌, Bool, true, false, ◌&&◌, ◌⊎◌, inl, inr, List, [], ◌∷◌}
use Rattle.std.proofs.Common.{length, get_or, slice_index, leb, cond, Some, refl, sym, ap, ◌∙◌, subst, arith}
use Rattle.std.specs.Prelude.{slice_get}
use Rattle.std.specs.List.{Contains}
use Rattle.std.proofs.lemmas.Bool.{cases_Bool}
use Rattle.std.proofs.lemmas.Bool.Decides.{nat_tests}
use Rattle.std.proofs.lemmas.List.Elements.{All-contains}
use Rattle.std.proofs.lemmas.Option.{get_or_from_slice_get, slice_get-get_or, slice_get_cases, slice_get_within}
use Rattle.ck_base.specs.declared.refusals.Spot.{Spot}
use Rattle.ck_base.specs.declared.refusals.Spot.TheVariants as spot
use Rattle.ck_base.specs.declared.spans.Span.{Span}
use Rattle.ck_lexer.specs.Bytes.{is_line_feed}
use Rattle.ck_lexer.specs.PlaceMaps.{HasStart, IsLineOf, IsPlaceMapOf, NoFeeds, names_of, start_of}
use Rattle.ck_lexer.specs.Places.{Place, IsPlace}
use Rattle.ck_lexer.specs.declared.places.Line.{Line}
use Rattle.ck_lexer.specs.declared.places.PlaceMap.{PlaceMap}
use Rattle.ck_lexer.proofs.OnePlace.{one_place}
use Rattle.ck_texts.specs.Placed.{AreMapsOf, HasPlace, IsMapped, IsSpotOf, IsSpotText, SaysPlaces, nowhere, of_file}
use Rattle.ck_texts.specs.Placed.{at_place}
use Rattle.ck_texts.specs.Printing.{first_of_file, later, latest, place_in, place_by, spot_text}
use Rattle.ck_texts.specs.Views.{File}

-- ---- The latest line

later-by : (offset : ℕ) (found line : Line) → found.start ≤ offset → (later offset found line).start ≤ offset
later-by offset found line by = elim (cases_Bool (leb line.start offset && leb found.start line.start)) [
  | inl holds ↦ grind (arith, nat_tests)
  | inr fails ↦ grind (arith, nat_tests)
]

later-up : (offset : ℕ) (found line : Line) → found.start ≤ (later offset found line).start
later-up offset found line = grind (arith, nat_tests)

later-here : (offset : ℕ) (found line : Line) → line.start ≤ offset → line.start ≤ (later offset found line).start
later-here offset found line by = grind (arith, nat_tests)

later-is : (offset : ℕ) (found line : Line) → (later offset found line ≡ found) ⊎ (later offset found line ≡ line)
later-is offset found line = elim (cases_Bool (leb line.start offset && leb found.start line.start)) [
  | inl holds ↦ inr (ap (λ b. cond b line found) holds)
  | inr fails ↦ inl (ap (λ b. cond b line found) fails)
]

later-line : (offset : ℕ) (found line : Line) → found.start ≤ line.start → line.start ≤ offset
    → later offset found line ≡ line
later-line offset found line up by =
    let test : (leb line.start offset && leb found.start line.start) ≡ true = grind (arith, nat_tests) in
    ap (λ b. cond b line found) test

latest-by : (offset : ℕ) (found : Line) (lines : List Line) → found.start ≤ offset
    → (latest offset found lines).start ≤ offset
latest-by offset found [] by = by
latest-by offset found (line ∷ lines) by =
    latest-by offset (later offset found line) lines (later-by offset found line by)

latest-up : (offset : ℕ) (found : Line) (lines : List Line) → found.start ≤ (latest offset found lines).start
latest-up offset found [] = omega arith
latest-up offset found (line ∷ lines) =
    omega (arith, later-up offset found line, latest-up offset (later offset found line) lines)

-- no line that starts by the offset starts after it
latest-last : (offset : ℕ) (found : Line) (lines : List Line) (k : ℕ) (d : Line) → k < length lines
    → start_of (get_or lines k d) ≤ offset → start_of (get_or lines k d) ≤ (latest offset found lines).start
latest-last offset found [] k d below by = absurd (omega (arith, below))
latest-last offset found (line ∷ lines) zero d below by =
    omega (arith, later-here offset found line by, latest-up offset (later offset found line) lines)
latest-last offset found (line ∷ lines) (suc k) d below by =
    latest-last offset (later offset found line) lines k d (omega (arith, below)) by

Contains-more : (line : Line) (lines : List Line) (x : Line) → Contains lines x → Contains (line ∷ lines) x
Contains-more line lines x has = (suc has.0, omega (arith, has.1), has.2)

latest-is : (offset : ℕ) (found : Line) (lines : List Line) → (latest offset found lines ≡ found)
    ⊎ Contains lines (latest offset found lines)
latest-is offset found [] = inl refl
latest-is offset found (line ∷ lines) = elim (latest-is offset (later offset found line) lines) [
  | inl same ↦ elim (later-is offset found line) [
    | inl old ↦ inl (same ∙ old)
    | inr new ↦ inr (0, omega arith, sym (same ∙ new))
  ]
  | inr has ↦ inr (Contains-more line lines (latest offset (later offset found line) lines) has)
]

-- where a line starts by the offset, and no earlier than the one found before, the latest is among the lines
latest-among : (offset : ℕ) (found : Line) (lines : List Line) (k : ℕ) (d : Line) → k < length lines
    → found.start ≤ start_of (get_or lines k d) → start_of (get_or lines k d) ≤ offset
    → Contains lines (latest offset found lines)
latest-among offset found [] k d below up by = absurd (omega (arith, below))
latest-among offset found (line ∷ lines) zero d below up by = elim (latest-is offset (later offset found line) lines) [
  | inl same ↦ (0, omega arith, sym (same ∙ later-line offset found line up by))
  | inr has ↦ Contains-more line lines (latest offset (later offset found line) lines) has
]
latest-among offset found (line ∷ lines) (suc k) d below up by = elim (later-is offset found line) [
  | inl old ↦ Contains-more line lines (latest offset (later offset found line) lines)
      (latest-among offset (later offset found line) lines k d (omega (arith, below))
      (omega (arith, ap start_of old, up)) by)
  | inr new ↦ elim (latest-is offset (later offset found line) lines) [
    | inl same ↦ (0, omega arith, sym (same ∙ new))
    | inr has ↦ Contains-more line lines (latest offset (later offset found line) lines) has
  ]
]

-- ---- The place on it

not_true : (b : Bool) → (b ≡ true → ⊥) → b ≡ false
not_true b never = elim (cases_Bool b) [ inl holds ↦ absurd (never holds) | inr fails ↦ fails ]

no_feeds : (name bytes : List ℕ) (m : PlaceMap) (offset : ℕ) → IsPlaceMapOf name bytes m → offset ≤ length bytes
    → NoFeeds bytes (latest offset first_of_file m.lines.items).start offset
no_feeds name bytes m offset is within at low high = not_true (is_line_feed (slice_index bytes at)) (λ feed.
    let has : HasStart m.lines.items (at + 1) = is.next at (omega arith) feed in
    let start : start_of (get_or m.lines.items has.0 first_of_file) ≡ at + 1 = has.2 first_of_file in
    let up : start_of (get_or m.lines.items has.0 first_of_file) ≤ (latest offset first_of_file m.lines.items).start =
    latest-last offset first_of_file m.lines.items has.0 first_of_file has.1 (omega arith) in
    omega arith)

-- the place that a map gives an offset of its file
pub place_in-is : (name bytes : List ℕ) (m : PlaceMap) (offset : ℕ) → IsPlaceMapOf name bytes m
    → offset ≤ length bytes → IsPlace name bytes offset (place_in m offset)
unfolding place_in
place_in-is name bytes m offset is within =
    let lines : List Line = m.lines.items in
    let zero_start : start_of (get_or lines is.first.0 first_of_file) ≡ 0 = is.first.2 first_of_file in
    let among : Contains lines (latest offset first_of_file lines) =
    latest-among offset first_of_file lines is.first.0 first_of_file is.first.1 (omega arith) (omega arith) in
    let of_line : IsLineOf name bytes (names_of m.names.items) (latest offset first_of_file lines) =
    All-contains (IsLineOf name bytes (names_of m.names.items)) lines (latest offset first_of_file lines)
    is.lines among in
    of_line.places offset (latest-by offset first_of_file lines (omega arith)) within
    (no_feeds name bytes m offset is within)

-- where a span begins whose file has this map
place_by-map : (maps : List PlaceMap) (span : Span) (m : PlaceMap) → slice_get maps span.file ≡ Some m
    → place_by maps span ≡ place_in m span.start
unfolding place_by
place_by-map maps span m there = rw there refl

-- the place that is found by the map is the one that the map gives
pub place_by-found : (maps : List PlaceMap) (span : Span) (m : PlaceMap) (found : Place) → HasPlace maps span
    → m ≡ get_or maps span.file m
    → ((name bytes : List ℕ) → IsPlaceMapOf name bytes m → span.start ≤ length bytes
    → IsPlace name bytes span.start found)
    → found ≡ place_by maps span
place_by-found maps span m found has at is =
    let same : m ≡ has.places = at ∙ get_or_from_slice_get maps span.file has.places m has.there in
    let right : IsPlace has.file.name has.file.bytes span.start found =
    is has.file.name has.file.bytes (subst (IsPlaceMapOf has.file.name has.file.bytes) (sym same) has.is)
    has.within in
    one_place has.file.name has.file.bytes span.start found (place_in has.places span.start) right
    (place_in-is has.file.name has.file.bytes has.places span.start has.is has.within)
    ∙ sym (place_by-map maps span has.places has.there)

-- ---- Places of files

-- the maps of files say where each span within them is
pub maps_say : (files : List File) (maps : List PlaceMap) → AreMapsOf files maps → SaysPlaces files (place_by maps)
maps_say files maps are span within =
    let below : span.file < length files = slice_get_within files span.file within.file within.there in
    elim (slice_get_cases maps span.file).1 [
      | inl some ↦ record {
        file = within.file;
        there = within.there;
        is = subst (IsPlace within.file.name within.file.bytes span.start)
            (sym (place_by-map maps span some.0 some.2))
            (place_in-is within.file.name within.file.bytes some.0 span.start
            (are.each span.file within.file some.0 within.there some.2) within.within);
      }
      | inr none ↦ absurd (omega (arith, below, are.same, none.0))
    ]

-- a span that its file and its map are there for has its place by the map
pub HasPlace-mapped : (files : List File) (maps : List PlaceMap) (span : Span) → IsMapped files maps span
    → HasPlace maps span
HasPlace-mapped files maps span has = record {
  file = has.file;
  places = has.places;
  there = has.mapped;
  is = has.is;
  within = has.within;
}

-- what is printed for a spot is its text
pub spot_text-is : (files : List File) (maps : List PlaceMap) (at : Spot) → IsSpotOf files maps at
    → IsSpotText files at (spot_text files maps at)
spot_text-is files maps spot.Nowhere is = nowhere
spot_text-is files maps (spot.File n) is =
    let none : File = record { name = []; bytes = [] } in
    of_file n (get_or files n none) (slice_get-get_or files n none is)
spot_text-is files maps (spot.At span) is =
    at_place span (place_by maps span) (record {
      file = is.file;
      there = is.there;
      is = subst (IsPlace is.file.name is.file.bytes span.start) (sym (place_by-map maps span is.places is.mapped))
          (place_in-is is.file.name is.file.bytes is.places span.start is.is is.within);
    })
