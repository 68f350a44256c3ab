-- What the rules allow, and when a table has all of it.
use Rattle.std.proofs.Common.{ℕ, ◌<◌, Some, ap, ◌∙◌}
use Rattle.std.specs.List.{Contains}
use Rattle.std.proofs.lemmas.List.Elements.{All-contains}
use Rattle.std.proofs.lemmas.Option.{slice_get-get_or}
use Rattle.ck_reaching.specs.declared.rules.Names.{Names}
use Rattle.ck_reaching.specs.declared.rules.Flows.{Flows}
use Rattle.ck_reaching.specs.declared.rules.Call.{Call}
use Rattle.ck_reaching.specs.declared.work.Work.{Work}
use Rattle.ck_reaching.specs.Rules.{System, IsInRange, IsNameWithin, function_count}
use Rattle.ck_reaching.specs.Reaching.{Reaches, IsTarget, ByName, ByFlow, ByArgument, ByResult, Reached as reached}
use Rattle.ck_reaching.specs.Reached.{Holds, IsSolution}
use Rattle.ck_reaching.specs.Listing.{IsListed}
use Rattle.ck_reaching.specs.Work.{HasEdge}
use Rattle.ck_reaching.specs.Solving.{IsWorkOf, IsClosedBut, IsConnected}

-- what reaches a cell is a function of the rules
pub reaches-below : (s : System) → IsInRange s → (c f : ℕ) → Reaches s c f → f < function_count s
reaches-below s inside c f (ByName n there) =
    (All-contains (IsNameWithin s.cells (function_count s)) s.names n inside.names there).function
reaches-below s inside c f (ByFlow w there r) = reaches-below s inside w.from.0 f r
reaches-below s inside c f (ByArgument {a = a} call callee place there t at arg param r) =
    reaches-below s inside a.0 f r
reaches-below s inside c f (ByResult {r = r} call callee there t at back out reach) =
    reaches-below s inside r.0 f reach

module _ (s : System) (w : Work)
    (none : (c : ℕ) → IsListed w.known.listed c → ⊥)
    (names : (n : Names) → Contains s.names n → Holds w.known.reached n.to.0 n.function.0)
    (flows : (v : Flows) → Contains s.flows v → HasEdge w.edges v.from.0 v.to.0)
    (closed : IsClosedBut s w) where
  mutual
    -- with nothing listed, whatever reaches a cell is known
    complete : (c f : ℕ) → Reaches s c f → Holds w.known.reached c f
    complete c f (ByName n there) = names n there
    complete c f (ByFlow v there r) =
        closed.along v.from.0 v.to.0 (none v.from.0) (flows v there) f (complete v.from.0 f r)
    complete c f (ByArgument {target = target} {a = a} {p = p} call callee place there t at arg param r) =
        closed.along a.0 p.0 (none a.0) ((connected call target there t).arguments callee at place a p arg param) f
        (complete a.0 f r)
    complete c f (ByResult {target = target} {r = r} {p = p} call callee there t at back out reach) =
        closed.along r.0 p.0 (none r.0) ((connected call target there t).results callee at r p back out) f
        (complete r.0 f reach)

    connected : (call : Call) (target : ℕ) → Contains s.calls call → IsTarget s call target →
        IsConnected s w.edges call target
    connected call target there (reached kind r) =
        closed.calls there.0 call (slice_get-get_or s.calls there.0 call there.1 ∙ ap Some there.2)
        (none call.called.0) target (complete call.called.0 target r) kind

  pub solution : IsWorkOf s w → IsSolution s w.known.reached
  solution work c f = (work.reached c f, complete c f)
