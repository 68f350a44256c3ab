use Rattle.ck_contexts.proofs.SoundTargets.{filled-sound}
use Rattle.ck_contexts.proofs.laws.filled_is_sound.Goals as goal

pub returns : goal.returns
returns c = filled-sound
