-- The grammar's word for where specifiers are.
use Rattle.ck_grammar.specs.Specified as specified
use Rattle.ck_tallies.specs.declared.places.Place.{Place}
use Rattle.ck_tallies.specs.declared.places.Place.TheVariants.{InType, InParameter, InBlock, InFile}

abbrev pub place_word : Place → specified.Place
place_word InType = specified.InType
place_word InParameter = specified.InParameter
place_word InBlock = specified.InBlock
place_word InFile = specified.InFile
