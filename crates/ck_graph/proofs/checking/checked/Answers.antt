use Rattle.ck_graph.proofs.PartLemmas.{IsSmall-from_parts}
use Rattle.ck_graph.proofs.checking.checked.Goals as goal

pub returns-else-points_are_sound-clause-fault : goal.returns-else-points_are_sound-clause-fault
returns-else-points_are_sound-clause-fault c = elim c.else-points_are_sound.branch [
  | goal.else-points_are_sound-via-then-points_are_sound+else-functions_are_sound w ↦ w.if-functions_are_sound.ensures
  | goal.else-points_are_sound-via-else-points_are_sound w ↦ w.if-points_are_sound.ensures
]

pub invariant_of-result : goal.invariant_of-result
invariant_of-result c = record {
  points = c.if-points_are_sound.ensures;
  functions = c.if-functions_are_sound.ensures;
  small = IsSmall-from_parts c.args.parts c.requires.points c.requires.functions c.requires.edges;
}
