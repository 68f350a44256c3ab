use Rattle.std.proofs.Common.{◌≡◌, map, Some}
use Rattle.std.specs.Prelude.{slice_get}
use Rattle.ck_drafts.specs.Drafts.{plain_draft}
use Rattle.ck_kinds.specs.Callers.{tables, draft_of}
use Rattle.ck_prog.specs.TypedBodies.{TypedFunction}
use Rattle.ck_tables.specs.Program.{functions}
use Rattle.ck_kinds.proofs.callers.Caller.drafts.Given as goal

abbrev pub invariant-points : goal.invariant-points
invariant-points l =
    (f : TypedFunction) → slice_get (functions (tables l.self)) l.self.function.0 ≡ Some f →
    map plain_draft l.drafts.items ≡ map (draft_of l.self f) l.yielded
