use Rattle.std.proofs.Common.{◌≡◌, [], codes}
use Rattle.ck_settings.specs.Values.{vector_view}
use Rattle.ck_settings.specs.Reading.{element, vector}
use Rattle.ck_settings.proofs.Loops.{rest}
use Rattle.ck_settings.proofs.lists.vectors_of.Given as goal

-- what is left to read completes the list
abbrev pub invariant-elements : goal.invariant-elements
invariant-elements l = rest vector_view (element (codes "vector") vector) l.vectors.items l.elements l.element-index
    ≡ rest vector_view (element (codes "vector") vector) [] l.elements 0
