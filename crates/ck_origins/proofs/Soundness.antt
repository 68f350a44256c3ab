-- Where rules follow from a project, what reaches a cell comes from what the cell stands for.
use Rattle.std.proofs.Common.{◌≡◌, ℕ, Some, slice_get, refl, sym, ap, ◌∙◌, subst}
use Rattle.std.specs.List.{Contains}
use Rattle.std.proofs.lemmas.List.Elements.{All-contains}
use Rattle.ck_prog.specs.Calls.{CallSite}
use Rattle.ck_prog.specs.TypedBodies.{TypedFunction}
use Rattle.ck_prog.specs.TypedTrees.{Typed}
use Rattle.ck_reaching.specs.Reaching as rules
use Rattle.ck_reaching.specs.Rules.{System}
use Rattle.ck_reaching.specs.declared.rules.Call.{Call}
use Rattle.ck_reaching.specs.declared.rules.Callee.{Callee}
use Rattle.ck_reaching.specs.declared.rules.CellId.{CellId}
use Rattle.ck_slots.specs.Givens.{TypedProject, by_target, functions, listed, parameters, passed_to, result_of}
use Rattle.ck_slots.specs.Holders.{Holder}
use Rattle.ck_slots.specs.Origins.{Origin, origin}
use Rattle.ck_slots.specs.Reaching as slots
use Rattle.ck_slots.specs.Reaching.{Reaches, ComesFrom, IsTarget}
use Rattle.ck_origins.specs.CalleeRules.{HasCell, IsCalleeOf, holder_of_result, parameter_holders}
use Rattle.ck_origins.specs.Following.{CallFollows, Feeds, FlowFollows, Follow, NameFollows}
use Rattle.ck_origins.specs.Following as following
use Rattle.ck_origins.specs.Meanings.{Meanings, origin_at, type_at}
use Rattle.ck_origins.specs.SiteRules.{IsArgument, IsCallOfOne}
use Rattle.ck_origins.proofs.Cells.{held_reaches, holder_of_cell, kind_callable}
use Rattle.ck_origins.proofs.Passing.{gift, passed_there}
use Rattle.ck_origins.proofs.Zips.{zip_left}

module _ (p : TypedProject) where
  fed : (f : ℕ) (a o : Origin) → Feeds p a o → ComesFrom p f a → ComesFrom p f o
  fed f a o following.Itself from = from
  fed f a o (following.ToHolder g at) from = slots.ByRead (slots.ByGiven g at from)
  fed f a o following.ToFirst from = slots.ByFirst from
  fed f a o following.ToSecond from = slots.BySecond from

  -- a call's argument is passed to the parameter of its place of each target
  passed : (site : CallSite) (target : ℕ) (function : TypedFunction) (place : ℕ) (h : Holder) (x : Typed)
      → slice_get (functions p) target ≡ Some function
      → slice_get (parameter_holders p.all function) place ≡ Some (Some h)
      → slice_get (listed site.arguments) place ≡ Some x
      → Contains (by_target p target site) (gift h (origin p.all x))
  passed site target function place h x at parameter argument =
      subst (λ f. Contains (passed_to p.all f (listed site.arguments)) (gift h (origin p.all x))) (sym at)
      (passed_there p.all (parameters p.all function) (listed site.arguments) place h x parameter argument)

module _ (p : TypedProject) (m : Meanings) (s : System) (follow : Follow p m s) where
  -- the function of a callee's number
  callee_of : (target : ℕ) (callee : Callee) → slice_get s.callees target ≡ Some callee
      → (f : TypedFunction) × (slice_get (functions p) target ≡ Some f) × IsCalleeOf p m f callee
  callee_of target callee at = zip_left (IsCalleeOf p m) (functions p) s.callees follow.callees target callee at

  call_follows : (call : Call) → Contains s.calls call → CallFollows p m call
  call_follows call there = All-contains (CallFollows p m) s.calls call follow.calls there

  argument : (f target : ℕ) (a q : CellId) (call : Call) (callee : Callee) (place : ℕ) → IsCallOfOne p m call
      → slice_get s.callees target ≡ Some callee → slice_get call.arguments.items place ≡ Some (Some a)
      → slice_get callee.parameters.items place ≡ Some (Some q)
      → IsTarget p (type_at m call.kind.0) (origin_at m call.called.0) target → ComesFrom p f (origin_at m a.0)
      → ComesFrom p f (origin_at m q.0)
  argument f target a q call callee place (site, there, is) at passing receiving reached from =
      let x = zip_left (IsArgument p m) (listed site.arguments) call.arguments.items is.arguments place (Some a)
      passing in
      let function = callee_of target callee at in
      let to = zip_left (HasCell m) (parameter_holders p.all function.0) callee.parameters.items
      function.2.parameters place (Some q) receiving in
      let h = holder_of_cell m to.0 (Some q) q to.2 refl in
      let called = subst (λ o. IsTarget p (type_at m call.kind.0) o target) is.calls.called reached in
      let typed = subst (λ t. IsTarget p t (origin p.all site.called) target) is.calls.kind called in
      let there_too = passed p site target function.0 place h.0 x.0 function.1 (to.1 ∙ ap Some h.1) x.1 in
      let comes = subst (ComesFrom p f) x.2 from in
      subst (ComesFrom p f) (sym h.2)
      (slots.ByRead (slots.ByArgument site (gift h.0 (origin p.all x.0)) there typed there_too comes))

  outcome : (f target : ℕ) (r q : CellId) (call : Call) (callee : Callee) → CallFollows p m call
      → slice_get s.callees target ≡ Some callee → callee.result ≡ Some r → call.result ≡ Some q
      → IsTarget p (type_at m call.kind.0) (origin_at m call.called.0) target → ComesFrom p f (origin_at m r.0)
      → ComesFrom p f (origin_at m q.0)
  outcome f target r q call callee follows at back out reached from =
      let function = callee_of target callee at in
      let h = holder_of_cell m (holder_of_result p.all function.0) callee.result r function.2.outcome back in
      let has = ap (result_of p.all) function.1 ∙ h.1 in
      let reaches = held_reaches p f h.0 (subst (ComesFrom p f) h.2 from) in
      subst (ComesFrom p f) (sym (follows.outcome q out)) (slots.ByResult reached has reaches)

  mutual
    pub sound : (c f : ℕ) → rules.Reaches s c f → ComesFrom p f (origin_at m c)
    sound c f (rules.ByName n there) =
        let follows = All-contains (NameFollows p m) s.names n follow.names there in
        fed p n.function.0 _ _ follows.feeds (slots.ByName follows.function follows.number)
    sound c f (rules.ByFlow w there from) =
        fed p f _ _ (All-contains (FlowFollows p m) s.flows w follow.flows there) (sound w.from.0 f from)
    sound c f (rules.ByArgument {target = target} {a = a} {p = q} call callee place there t at passing to from) =
        argument f target a q call callee place ((call_follows call there).arguments place a passing) at passing to
        (target_sound call target t) (sound a.0 f from)
    sound c f (rules.ByResult {target = target} {r = r} {p = q} call callee there t at back out from) =
        outcome f target r q call callee (call_follows call there) at back out (target_sound call target t)
        (sound r.0 f from)

    pub target_sound : (call : Call) (target : ℕ) → rules.IsTarget s call target
        → IsTarget p (type_at m call.kind.0) (origin_at m call.called.0) target
    target_sound call target (rules.Reached kind from) =
        slots.ByType (kind_callable p m s follow.kinds call.kind.0 target kind) (sound call.called.0 target from)
