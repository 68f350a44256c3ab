-- Where rules model a project, what comes from somewhere reaches the cells that stand for it.
use Rattle.std.proofs.Common.{◌≡◌, ℕ, true, Some, None, Option, slice_get, refl, sym, ap, ◌∙◌, subst, inl, inr}
use Rattle.std.proofs.Common.{arith}
use Rattle.std.specs.List.{Contains}
use Rattle.std.proofs.lemmas.Bool.{cases_lt}
use Rattle.std.proofs.lemmas.List.Elements.{All-contains}
use Rattle.ck_prog.specs.Calls.{CallSite, function_number}
use Rattle.ck_prog.specs.Declarations.{Entry}
use Rattle.ck_prog.specs.TypedBodies.{TypedFunction}
use Rattle.ck_prog.specs.TypedTrees.{Typed, facts}
use Rattle.ck_reaching.specs.Reaching as rules
use Rattle.ck_reaching.specs.Rules.{System}
use Rattle.ck_reaching.specs.declared.rules.Call.{Call}
use Rattle.ck_reaching.specs.declared.rules.Callee.{Callee}
use Rattle.ck_reaching.specs.declared.rules.CellId.{CellId}
use Rattle.ck_slots.specs.Givens.{TypedProject, Given, by_target, calls_through, functions, givens, listed}
use Rattle.ck_slots.specs.Givens.{may_be_called, result_holder}
use Rattle.ck_slots.specs.Holders.{Holder}
use Rattle.ck_slots.specs.Origins.{Origin, Nowhere, Named, Held, Either, ResultOf, called_type, origin}
use Rattle.ck_slots.specs.Reaching as slots
use Rattle.ck_slots.specs.Reaching.{Reaches, ComesFrom, IsTarget}
use Rattle.ck_origins.specs.CalleeRules.{HasCell, IsCalleeOf, holder_of_result, parameter_holders}
use Rattle.ck_origins.specs.Covering.{Arrives, Brings, Cover, HasResult, IsFed, IsNamed, IsServed}
use Rattle.ck_origins.specs.Covering as covering
use Rattle.ck_origins.specs.Meanings.{Meanings, origin_at, type_at}
use Rattle.ck_origins.specs.Modelling.{Models}
use Rattle.ck_origins.specs.SiteRules.{IsArgument}
use Rattle.ck_origins.proofs.Cells.{callable_kind, cell_of_holder, get_or_past, named_number}
use Rattle.ck_origins.proofs.Passing.{passed_to_one, result_of_one}
use Rattle.ck_origins.proofs.Zips.{zip_right}
use Rattle.ck_types.specs.Types.{CType}

module _ (p : TypedProject) (m : Meanings) (s : System) where
  -- what reaches the cells of an origin reaches what it is brought to
  named : (f : ℕ) (e : Entry) (c : ℕ) → IsNamed p s e c → function_number (functions p) e ≡ Some f → rules.Reaches s c f
  named f e c is number =
      let at = is f number in
      subst (λ d. rules.Reaches s d f) at.to
      (subst (rules.Reaches s at.name.to.0) at.function (rules.ByName at.name at.there))

  brought : (f : ℕ) (o : Origin) (c : ℕ) → Brings p m s o c → ComesFrom p f o
      → ((d : ℕ) → origin_at m d ≡ o → rules.Reaches s d f) → rules.Reaches s c f
  brought f o c (covering.Needless empty) from there = absurd (empty f from)
  brought f o c (covering.OfName {e = e} is) from there = named f e c is (named_number p f e from)
  brought f o c (covering.AlongFlow w) from there =
      subst (λ d. rules.Reaches s d f) w.to (rules.ByFlow w.flow w.there (there w.flow.from.0 w.from))

module _ (p : TypedProject) (m : Meanings) (s : System) (models : Models p m s) where
  fed_at : (c : ℕ) → IsFed p m s (origin_at m c) c
  fed_at c = elim (cases_lt c s.cells) [
    | inl below ↦ models.stand.cover.cells c below
    | inr past ↦ subst (λ o. IsFed p m s o c)
        (sym (get_or_past m.cells c Nowhere (omega (arith, past, models.stand.follow.cell_count)))) tt
  ]

  fed : (c : ℕ) (o : Origin) → origin_at m c ≡ o → IsFed p m s o c
  fed c o is = subst (λ x. IsFed p m s x c) is (fed_at c)

  callee_of : (target : ℕ) (f : TypedFunction) → slice_get (functions p) target ≡ Some f
      → (callee : Callee) × (slice_get s.callees target ≡ Some callee) × IsCalleeOf p m f callee
  callee_of target f at = zip_right (IsCalleeOf p m) (functions p) s.callees models.stand.follow.callees target f at

  -- an argument has a cell, where a function comes from it
  argument_cell : (f : ℕ) (x : Typed) (c : Option CellId) → IsArgument p m x c → ComesFrom p f (origin p.all x)
      → (a : CellId) × (c ≡ Some a) × (origin_at m a.0 ≡ origin p.all x)
  argument_cell f x None empty from = absurd (empty f from)
  argument_cell f x (Some a) is from = (a, refl, is)

  argument : (f target : ℕ) (site : CallSite) (g : Given) (c : ℕ) → IsServed p m s site
      → ((call : Call) → type_at m call.kind.0 ≡ called_type (facts site.called)
      → origin_at m call.called.0 ≡ origin p.all site.called → rules.IsTarget s call target)
      → Contains (by_target p target site) g → ComesFrom p f g.from
      → ((d : ℕ) → origin_at m d ≡ g.from → rules.Reaches s d f) → origin_at m c ≡ Held g.to → rules.Reaches s c f
  argument f target site g c served reached at from there is =
      let one = passed_to_one p.all (slice_get (functions p) target) (listed site.arguments) g at in
      let by = one.2 in
      let callee = callee_of target one.0 one.1 in
      let to = zip_right (HasCell m) (parameter_holders p.all one.0) callee.0.parameters.items callee.2.parameters
      by.place (Some g.to) by.to in
      let q = cell_of_holder m (Some g.to) to.0 g.to to.2 refl in
      let passing = zip_right (IsArgument p m) (listed site.arguments) served.call.arguments.items
      served.is_of.arguments by.place by.argument by.at in
      let a = argument_cell f by.argument passing.0 passing.2 (subst (ComesFrom p f) by.from from) in
      let reaches = there a.0.0 (a.2 ∙ sym by.from) in
      let calls = reached served.call served.is_of.calls.kind served.is_of.calls.called in
      subst (λ d. rules.Reaches s d f) (models.stand.follow.holders q.0.0 c g.to q.2 is)
      (rules.ByArgument served.call callee.0 by.place served.there calls callee.1 (passing.1 ∙ ap Some a.1)
      (to.1 ∙ ap Some q.1) reaches)

  outcome : (f target : ℕ) (type : Option CType) (called : Origin) (h : Holder) (c : ℕ) → HasResult m s type called c
      → ((call : Call) → type_at m call.kind.0 ≡ type → origin_at m call.called.0 ≡ called
      → rules.IsTarget s call target)
      → result_holder p target ≡ Some h → ((d : ℕ) → origin_at m d ≡ Held h → rules.Reaches s d f)
      → rules.Reaches s c f
  outcome f target type called h c has reached result_at there =
      let one = result_of_one p.all (slice_get (functions p) target) h result_at in
      let callee = callee_of target one.0 one.1 in
      let r = cell_of_holder m (holder_of_result p.all one.0) callee.0.result h callee.2.outcome one.2 in
      let q = has.outcome in
      subst (λ d. rules.Reaches s d f) q.2
      (rules.ByResult has.call callee.0 has.there (reached has.call has.kind has.from) callee.1 r.1 q.1
      (there r.0.0 r.2))

  mutual
    pub complete : (f : ℕ) (h : Holder) → Reaches p f h → (c : ℕ) → origin_at m c ≡ Held h → rules.Reaches s c f
    complete f h (slots.ByGiven g at from) c is =
        brought p m s f g.from c (All-contains (Arrives p m s) (givens p) g models.stand.cover.givens at c is) from
        (comes f g.from from)
    complete f h (slots.ByArgument {m = target} site g there reached at from) c is =
        argument f target site g c
        (All-contains (IsServed p m s) (calls_through p) site models.stand.cover.calls there)
        (target_of _ _ target reached) at from (comes f g.from from) is

    pub comes : (f : ℕ) (o : Origin) → ComesFrom p f o → (c : ℕ) → origin_at m c ≡ o → rules.Reaches s c f
    comes f o (slots.ByName e number) c is = named p m s f e c (fed c (Named e) is) number
    comes f o (slots.ByRead {h = h} reaches) c is = complete f h reaches c is
    comes f o (slots.ByFirst {a = a} {b = b} from) c is =
        brought p m s f a c (fed c (Either a b) is).0 from (comes f a from)
    comes f o (slots.BySecond {a = a} {b = b} from) c is =
        brought p m s f b c (fed c (Either a b) is).1 from (comes f b from)
    comes f o (slots.ByResult {m = target} {type = type} {called = called} {h = h} reached has reaches) c is =
        outcome f target type called h c (fed c (ResultOf type called) is) (target_of type called target reached) has
        (complete f h reaches)

    pub target_of : (type : Option CType) (called : Origin) (target : ℕ) → IsTarget p type called target → (call : Call)
        → type_at m call.kind.0 ≡ type → origin_at m call.called.0 ≡ called → rules.IsTarget s call target
    target_of type called target (slots.ByType typed from) call kind is =
        let callable = subst (λ t. may_be_called p t target ≡ true) (sym kind) typed in
        rules.Reached (callable_kind p m s models.stand.follow.kinds call.kind.0 target callable)
        (comes target called from call.called.0 is)
