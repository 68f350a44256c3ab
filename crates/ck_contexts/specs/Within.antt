-- The places to which a step leads are places of its function.
use Rattle.std.specs.Prelude.{◌≤◌, ◌+◌, ◌*◌}
use Rattle.ck_contexts.specs.declared.placing.Placing.{Placing}
use Rattle.ck_contexts.specs.declared.steps.Step.{Step}
use Rattle.ck_contexts.specs.declared.steps.Step.TheVariants.{Act, Call, Pick}

-- the points to which a step leads are at most the exit; the parts of a pick end at or before it
abbrev pub LeadsWithin : Placing → Step → Type 0
LeadsWithin at (Act op name next) = at.first + next ≤ at.exit
LeadsWithin at (Call number f next) = at.first + next ≤ at.exit
LeadsWithin at (Pick after part size functions) =
    (at.first + after ≤ at.exit) × (at.first + (part + size * functions) ≤ at.exit)
