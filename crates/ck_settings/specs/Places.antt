-- The prefix of the keys of a table of the document, where a fault is told.
use Rattle.std.specs.Prelude.{ℕ, List, []}
use Rattle.ck_settings.specs.declared.section.Place.{Place}
use Rattle.ck_settings.specs.declared.section.Place.TheVariants.{Document, Element}
use Rattle.ck_settings.specs.Faults.{element_prefix}

abbrev pub prefix_of : Place → List ℕ
prefix_of Document = []
prefix_of (Element list number) = element_prefix list.now number
