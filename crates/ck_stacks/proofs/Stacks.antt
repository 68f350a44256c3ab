-- Bare stacks meet the laws that the world asks of the C side, and so the two laws of this crate hold.
use Rattle.std.proofs.Common.{◌≡◌, ℕ, zero, suc, Bool, true, false, List, [], ◌∷◌, Option, Some, None, slice_get, refl}
use Rattle.std.proofs.Common.{sym, ap, ◌∙◌, subst, subst₂, arith}
use Rattle.std.specs.Option.{unwrap_or}
use Rattle.std.specs.Prelude.{option_map}
use Rattle.std.specs.List.{Contains}
use Rattle.ck_base.specs.declared.ops.Op.{Op}
use Rattle.ck_base.specs.declared.ops.Op.TheVariants.{RestoreStatus}
use Rattle.ck_base.specs.declared.states.State.{State}
use Rattle.ck_base.specs.declared.states.State.TheVariants.{TI, TN, XL, NL, NP, OX, ON}
use Rattle.ck_base.specs.Act.{act}
use Rattle.ck_base.specs.Counters.{status_of}
use Rattle.ck_graph.specs.declared.points.Edge.{Edge}
use Rattle.ck_graph.specs.declared.points.ActName.{ActName}
use Rattle.ck_graph.specs.declared.points.PointKind.{PointKind}
use Rattle.ck_graph.specs.declared.points.PointKind.TheVariants.{Plain, Act, Call, Exit}
use Rattle.ck_graph.specs.declared.entries.Root.{Root}
use Rattle.ck_graph.specs.Flow.{Flow, point_at}
use Rattle.ck_graph.specs.Walk.{Configuration}
use Rattle.ck_graph.specs.Steps.{kind_at}
use Rattle.ck_graph.specs.Forbidden.{AreAlarms}
use Rattle.ck_sound.specs.Choices.{first, later}
use Rattle.ck_sound.specs.Kernel.{Request, Creates}
use Rattle.ck_sound.specs.Laws.{AreLaws}
use Rattle.ck_sound.specs.Side.{Handler, Place, AtAct, MovesTo, Asks}
use Rattle.ck_sound.specs.Sound.{IsSource, LockOf, IsRestored, RestoredBy}
use Rattle.ck_sound.specs.SystemStates.{IsAllowed, IsNext, after_outcome, entry_state}
use Rattle.ck_sound.specs.World.{kept_by}
use Rattle.ck_sound.proofs.Worlds.{first-sound, after-sound, sound-no_bad_halt}
use Rattle.ck_stacks.specs.BareStacks.{Stack, NoMemory, stack_of, start_of, place_by, place_of, along, moved_of}
use Rattle.ck_stacks.specs.BareStacks.{finished_of, is_thread_entry, creates_by, creates, any_request, restores}
use Rattle.ck_stacks.specs.BareStacks.{asked_at, Numbers, is_handler_entry, is_fast_root, source_of, handler_by}
use Rattle.ck_stacks.specs.BareStacks.{handler_of, bare_stacks}
use Rattle.ck_stacks.specs.Projects.{IsProject}
use Rattle.ck_stacks.specs.Promise.{KeepsStatus, Covered, Within, Covers, start_world, world_after, NoBadHalt}
use Rattle.ck_stacks.specs.Promise.{StaysSound}
use Rattle.ck_stacks.proofs.Statuses.{status_kept, kept-is, keeps-status}
use Rattle.ck_stacks.proofs.Walks.{From, starts, covered-moves, covered-acts, allowed-at}

contains-get : (roots : List Root) (n : ℕ) (root : Root) → slice_get roots n ≡ Some root → Contains roots root
contains-get [] n root e = absurd (cc)
contains-get (x ∷ xs) zero root e = (zero, omega arith, cc)
contains-get (x ∷ xs) (suc n) root e = let h = contains-get xs n root e in (suc h.0, omega (arith, h.1), h.2)

record IsActAt (kind : PointKind) (op : Op) : Type 0 where
  name : ActName
  is : kind ≡ Act op name

act-at : (kind : PointKind) (below : List ℕ) (op : Op) → place_by kind below ≡ AtAct op → IsActAt kind op
act-at (Act other name) below op e = record {
  name = name;
  is = let same : other ≡ op = cc in ap (λ o. Act o name) same;
}
act-at Exit [] op e = absurd (cc)
act-at Exit (x ∷ below) op e = absurd (cc)
act-at Plain below op e = absurd (cc)
act-at (Call call) below op e = absurd (cc)

-- a restore is given what its pair kept
restored-by : (s : State) (status : Option Bool) (request : Request Stack) (choices left : List ℕ) →
    KeepsStatus (status_of s) status → restores status choices ≡ Asks request left → IsRestored s request
restored-by s None request choices left keeps e = absurd (cc)
restored-by XL (Some locked) request choices left keeps e = cc
restored-by NL (Some locked) request choices left keeps e = cc
restored-by NP (Some locked) request choices left keeps e = cc
restored-by OX (Some locked) request choices left keeps e = cc
restored-by ON (Some locked) request choices left keeps e = cc
restored-by _ (Some locked) request choices left keeps e = tt

module _ (flow : Flow) (roots : List Root) (numbers : Numbers) (main : Root)
    (project : IsProject flow roots numbers main) (none : AreAlarms flow roots []) where
  abbrev Is : Stack → State → Type 0
  Is stack state = Covered flow roots stack state

  moves-on : (stack stack' : Stack) (state : State) (choice : ℕ) (m m' : NoMemory) → Is stack state →
      MovesTo m (moved_of flow stack choice) ≡ MovesTo m' stack' → Is stack' state
  moves-on stack stack' state choice m m' h e =
      let same : moved_of flow stack choice ≡ stack' = cc in
      let at : Is (moved_of flow stack choice) h.c.state =
      subst (λ st. Is (moved_of flow st choice) h.c.state) h.stack_is
      (covered-moves flow roots h.c stack.root stack.status choice (h.listed, h.reached) h.status_is) in
      subst₂ Is same h.state_is at

  act-here : (stack : Stack) (state : State) (op : Op) (h : Is stack state) → place_of flow stack ≡ AtAct op →
      IsActAt (kind_at flow h.c.top.point) op
  act-here stack state op h is =
      let at : place_of flow (stack_of stack.root stack.status h.c) ≡ AtAct op =
      subst (λ st. place_of flow st ≡ AtAct op) (sym h.stack_is) is in
      act-at (kind_at flow h.c.top.point) (stack_of stack.root stack.status h.c).below op at

  allowed-on : (stack : Stack) (state : State) (op : Op) → Is stack state → place_of flow stack ≡ AtAct op →
      IsAllowed (act op state)
  allowed-on stack state op h is =
      let a : IsActAt (kind_at flow h.c.top.point) op = act-here stack state op h is in
      subst (λ s. IsAllowed (act op s)) h.state_is
      (allowed-at flow roots h.c stack.root op a.name none (h.listed, h.reached) a.is)

  finishes-edge : (c : Configuration) (root : Root) (status : Option Bool) (op : Op) (edge : Edge) (o : Option Edge) →
      slice_get (point_at flow c.top.point).edges 0 ≡ o → o ≡ Some edge →
      Is (along (stack_of root status c) edge) (after_outcome (act op c.state) c.state) →
      Is (finished_of flow (stack_of root status c)) (after_outcome (act op c.state) c.state)
  finishes-edge c root status op edge o is e h =
      subst
      (λ o. Is (unwrap_or (option_map (along (stack_of root status c)) o) (stack_of root status c))
      (after_outcome (act op c.state) c.state))
      (sym (is ∙ e)) h

  finishes-at : (c : Configuration) (root : Root) (status : Option Bool) (op : Op) (lock : ℕ) →
      From flow roots root c → KeepsStatus (status_of c.state) status → IsActAt (kind_at flow c.top.point) op →
      LockOf op c.state lock → IsNext (act op c.state) →
      Is (finished_of flow (stack_of root (status_kept op lock status) c)) (after_outcome (act op c.state) c.state)
  finishes-at c root status op lock r keeps a is_lock next =
      let e = project.act_edges c.top.point op a.name a.is in
      finishes-edge c root (status_kept op lock status) op e.0 (Some e.0) e.1 refl
      (covered-acts flow roots c root (status_kept op lock status) op a.name e.0 r a.is next e.1
      (keeps-status op c.state lock status is_lock next keeps))

  finishes-on : (stack : Stack) (state : State) (op : Op) (lock : ℕ) → Is stack state →
      place_of flow stack ≡ AtAct op → LockOf op state lock → IsNext (act op state) →
      Is (finished_of flow (kept_by (bare_stacks flow roots numbers) op lock stack))
      (after_outcome (act op state) state)
  finishes-on stack state op lock h is is_lock next =
      let c : Configuration = h.c in
      let kept : Option Bool = status_kept op lock stack.status in
      let at = finishes-at c stack.root stack.status op lock (h.listed, h.reached) h.status_is
      (act-here stack state op h is)
      (subst (λ s. LockOf op s lock) (sym h.state_is) is_lock) (subst (λ s. IsNext (act op s)) (sym h.state_is) next) in
      let same : stack_of stack.root kept c ≡ kept_by (bare_stacks flow roots numbers) op lock stack =
      ap (λ (st : Stack). record st { status = kept }) h.stack_is ∙ sym (kept-is flow roots numbers op lock stack) in
      subst₂ (λ st s. Is (finished_of flow st) (after_outcome (act op s) s)) same h.state_is at

  covered-root : (number : ℕ) (root : Root) (state : State) → slice_get roots number ≡ Some root →
      root.start ≡ state → KeepsStatus (status_of state) None → Is (start_of flow root) state
  covered-root number root state e is keeps = starts flow roots root state (contains-get roots number root e) is keeps

  created :
      (number : ℕ) (root : Root) (b : Bool) (choices left : List ℕ) (new : Stack) (priority : ℕ) (suspended : Bool) →
      slice_get roots number ≡ Some root → is_thread_entry root.entry ≡ b →
      creates_by b (start_of flow root) choices ≡ Asks (Creates new priority suspended) left → Is new TN
  created number root false choices left new priority suspended e is asks = absurd (cc)
  created number root true choices left new priority suspended e is asks =
      let same : start_of flow root ≡ new = cc in
      subst (λ st. Is st TN) same (covered-root number root TN e ((project.each_root number root e).thread is) tt)

  creates-on : (number : ℕ) (o : Option Root) (choices left : List ℕ) (new : Stack) (priority : ℕ) (suspended : Bool) →
      slice_get roots number ≡ o → creates flow o choices ≡ Asks (Creates new priority suspended) left → Is new TN
  creates-on number None choices left new priority suspended e asks = absurd (cc)
  creates-on number (Some root) choices left new priority suspended e asks =
      created number root (is_thread_entry root.entry) choices left new priority suspended e refl asks

  any-creates : (n : ℕ) (choices left : List ℕ) (new : Stack) (priority : ℕ) (suspended : Bool) →
      any_request flow roots n choices ≡ Asks (Creates new priority suspended) left → Is new TN
  any-creates zero choices left new priority suspended e = absurd (cc)
  any-creates (suc zero) choices left new priority suspended e =
      creates-on (first choices) (slice_get roots (first choices)) (later choices) left new priority suspended refl e
  any-creates (suc (suc n)) choices left new priority suspended e = absurd (cc)

  restores-none : (status : Option Bool) (choices left : List ℕ) (new : Stack) (priority : ℕ) (suspended : Bool) →
      restores status choices ≡ Asks (Creates new priority suspended) left → Is new TN
  restores-none None choices left new priority suspended e = absurd (cc)
  restores-none (Some locked) choices left new priority suspended e = absurd (cc)

  asks-create :
      (place : Place) (status : Option Bool) (choices left : List ℕ) (new : Stack) (priority : ℕ) (suspended : Bool) →
      asked_at flow roots place status choices ≡ Asks (Creates new priority suspended) left → Is new TN
  asks-create (AtAct RestoreStatus) status choices left new priority suspended e =
      restores-none status choices left new priority suspended e
  asks-create _ status choices left new priority suspended e =
      any-creates (first choices) (later choices) left new priority suspended e

  asks-restore : (op : Op) (s : State) (status : Option Bool) (choices left : List ℕ) (request : Request Stack) →
      KeepsStatus (status_of s) status → asked_at flow roots (AtAct op) status choices ≡ Asks request left →
      RestoredBy op s request
  asks-restore RestoreStatus s status choices left request keeps e = restored-by s status request choices left keeps e
  asks-restore _ s status choices left request keeps e = tt

  restores-on : (stack : Stack) (state : State) (op : Op) (choices left : List ℕ) (request : Request Stack) →
      Is stack state → place_of flow stack ≡ AtAct op →
      asked_at flow roots (place_of flow stack) stack.status choices ≡ Asks request left → RestoredBy op state request
  restores-on stack state op choices left request h is e =
      asks-restore op state stack.status choices left request
      (subst (λ s. KeepsStatus (status_of s) stack.status) h.state_is h.status_is)
      (subst (λ p. asked_at flow roots p stack.status choices ≡ Asks request left) is e)

  record IsEntry (number : ℕ) (h : Handler Stack) : Type 0 where
    source : h.source ≡ source_of numbers number
    covers : Is h.stack (entry_state h.source.fast)

  entry-keeps : (fast : Bool) → KeepsStatus (status_of (entry_state fast)) None
  entry-keeps true = tt
  entry-keeps false = tt

  entry-by : (number : ℕ) (root : Root) (b : Bool) (h : Handler Stack) → slice_get roots number ≡ Some root →
      is_handler_entry root.entry ≡ b → handler_by b flow numbers number root ≡ Some h → IsEntry number h
  entry-by number root false h e is some = absurd (cc)
  entry-by number root true h e is some =
      let fast : Bool = is_fast_root numbers number in
      let entry : Handler Stack = record { source = source_of numbers number; stack = start_of flow root } in
      let same : entry ≡ h = cc in
      subst (IsEntry number) same (record {
        source = refl;
        covers =
            covered-root number root (entry_state fast) e ((project.each_root number root e).handler is)
            (entry-keeps fast);
      })

  entry-of : (number : ℕ) (o : Option Root) (h : Handler Stack) → slice_get roots number ≡ o →
      handler_of flow numbers number o ≡ Some h → IsEntry number h
  entry-of number None h e some = absurd (cc)
  entry-of number (Some root) h e some = entry-by number root (is_handler_entry root.entry) h e refl some

  pub stacks-laws : AreLaws numbers.kernel_priority (bare_stacks flow roots numbers) Within (Covers flow roots)
  stacks-laws = record {
    moves = λ m stack state choices m' stack' w h is e. record {
      within = tt;
      kept = λ other its g. g;
      covers = moves-on stack stack' state (first choices) m m' h e;
    };
    allowed = λ m stack state op w h is. allowed-on stack state op h is;
    finishes = λ m stack state op lock choices w h is is_lock next. record {
      within = tt;
      kept = λ other its g. g;
      covers = finishes-on stack state op lock h is is_lock next;
    };
    restores = λ m stack state op choices request left w h is e. restores-on stack state op choices left request h is e;
    creates = λ m stack state op choices new priority suspended left w h is e.
        asks-create (place_of flow stack) stack.status choices left new priority suspended e;
    enters = λ m number h w e. (entry-of number (slice_get roots number) h refl e).covers;
    sources = λ number h e.
        subst (IsSource numbers.kernel_priority) (sym (entry-of number (slice_get roots number) h refl e).source)
        (record { number = refl; room = project.in_range number });
  }

pub stays-sound : StaysSound
stays-sound flow roots numbers main project none events =
    let laws : AreLaws numbers.kernel_priority (bare_stacks flow roots numbers) Within (Covers flow roots) =
    stacks-laws flow roots numbers main project none in
    after-sound numbers.kernel_priority (bare_stacks flow roots numbers) Within (Covers flow roots) laws
    (start_world flow main) events
    (first-sound numbers.kernel_priority (bare_stacks flow roots numbers) Within (Covers flow roots) laws (record {})
    (start_of flow main) tt
    (starts flow roots main TI project.main_listed project.main_start tt))

pub no-bad_halt : NoBadHalt
no-bad_halt flow roots numbers main project none events =
    sound-no_bad_halt numbers.kernel_priority (bare_stacks flow roots numbers) Within (Covers flow roots)
    (stacks-laws flow roots numbers main project none) (world_after flow roots numbers main events)
    (stays-sound flow roots numbers main project none events)
