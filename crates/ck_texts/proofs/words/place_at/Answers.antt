use Rattle.ck_lexer.specs.PlaceMaps.{place_of}
use Rattle.ck_texts.proofs.PlaceLemmas.{place_by-found}
use Rattle.ck_texts.proofs.words.place_at.Goals as goal

pub returns : goal.returns
returns c =
    place_by-found c.args.maps.now c.args.span c.index-maps-span.result (place_of c.place.result) c.requires
    c.index-maps-span.is c.place.ensures
