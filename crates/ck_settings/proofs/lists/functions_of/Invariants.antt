use Rattle.std.proofs.Common.{◌≡◌, [], codes}
use Rattle.ck_settings.specs.Values.{function_view}
use Rattle.ck_settings.specs.Reading.{element, function}
use Rattle.ck_settings.proofs.Loops.{rest}
use Rattle.ck_settings.proofs.lists.functions_of.Given as goal

-- what is left to read completes the list
abbrev pub invariant-elements : goal.invariant-elements
invariant-elements l = rest function_view (element (codes "function") function) l.functions.items l.elements
    l.element-index ≡ rest function_view (element (codes "function") function) [] l.elements 0
