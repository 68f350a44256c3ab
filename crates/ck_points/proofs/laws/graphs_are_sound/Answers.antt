use Rattle.ck_points.proofs.SoundGraphs.{graphs_are_sound}
use Rattle.ck_points.proofs.laws.graphs_are_sound.Goals as goal

pub returns : goal.returns
returns c = graphs_are_sound
