-- The walk from its first call on: the first alarm, with the calls before it.
-- proofs/WalkLemmas.antt joins it with Walk.
use Rattle.std.specs.Prelude.{List, [], ◌∷◌, ◌++◌, Option, Some, None}
use Rattle.ck_base.specs.declared.states.State.{State}
use Rattle.ck_base.specs.declared.states.Kind.{Kind}
use Rattle.ck_base.specs.declared.states.Outcome.{Outcome}
use Rattle.ck_base.specs.declared.states.Outcome.TheVariants.{Next, Alarm, End}
use Rattle.ck_base.specs.Act.{act}
use Rattle.ck_cli.specs.declared.form.Call.{Call}
use Rattle.ck_cli.specs.Calls.{op_of}

abbrev pub walk_on : Outcome
    → (State → Option (List Call × Call × Kind)) → List Call → Call → Option (List Call × Call × Kind)
walk_on (Next next) on before c = on next
walk_on (Alarm kind) on before c = Some (before, c, kind)
walk_on End on before c = None

abbrev pub walk : State → List Call → List Call → Option (List Call × Call × Kind)
walk state before [] = None
walk state before (c ∷ calls) = walk_on (act (op_of c.call) state) (λ next. walk next (before ++ c ∷ []) calls) before c
