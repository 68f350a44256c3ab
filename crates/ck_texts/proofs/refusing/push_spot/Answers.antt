use Rattle.std.proofs.Common.{subst}
use Rattle.std.specs.Prelude.{map}
use Rattle.ck_texts.specs.Placed.{IsSpotOf}
use Rattle.ck_texts.specs.Views.{file_of}
use Rattle.ck_texts.proofs.PlaceLemmas.{HasPlace-mapped}
use Rattle.ck_texts.proofs.refusing.push_spot.Goals as goal

pub place_at-requires : goal.place_at-requires
place_at-requires c =
    HasPlace-mapped (map file_of c.args.files.now) c.args.maps.now c.in-At.span
    (subst (IsSpotOf (map file_of c.args.files.now) c.args.maps.now) c.in-At.is c.requires)
