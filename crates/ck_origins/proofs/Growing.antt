-- Each step by which rules grow keeps what stands.
use Rattle.std.proofs.Common.{◌≡◌, ◌+◌, [], ◌∷◌, length, get_or}
use Rattle.std.proofs.Common.{refl, sym, ap, ◌∙◌, subst, inl, inr, arith, length-append}
use Rattle.std.specs.List.{All, AllZip}
use Rattle.std.proofs.lemmas.Bool.{cases_lt}
use Rattle.std.proofs.lemmas.List.Elements.{All-nil, All-push, Contains-get_or}
use Rattle.ck_reaching.specs.Rules.{System}
use Rattle.ck_slots.specs.Givens.{TypedProject, functions}
use Rattle.ck_slots.specs.Origins.{Nowhere}
use Rattle.ck_origins.specs.CalleeRules.{AreCallable, IsCalleeOf}
use Rattle.ck_origins.specs.Covering.{Arrives, IsFed, IsServed}
use Rattle.ck_origins.specs.Following.{CallFollows, FlowFollows, Follow, NameFollows}
use Rattle.ck_origins.specs.Meanings.{Meanings, origin_at}
use Rattle.ck_origins.specs.Steps.{Always, BareRulesStand, BringsStays, CallAdded, CallDone, CellAdded, CellDone}
use Rattle.ck_origins.specs.Steps.{FlowAdded, GivenDone, KindAdded, NameAdded, NumbersStay, bare, no_rules}
use Rattle.ck_origins.specs.Steps.{with_call, with_cell, with_flow, with_kind, with_name, with_origin, with_type}
use Rattle.ck_origins.proofs.Keeping.{Keeps, brings, call_follows, cover, flow_follows, is_callee_of, keeps_same}
use Rattle.ck_origins.proofs.Keeping.{name_follows}
use Rattle.ck_origins.proofs.Pushes.{get_or_left, grow_call, grow_cell, grow_flow, grow_kind, grow_name}
use Rattle.ck_origins.proofs.Pushes.{held_still, keeps_origin, keeps_type}
use Rattle.ck_origins.proofs.Zips.{zip_length, zip_push, zip_weaker}

-- rules -------------------------------------------------------------------------------------------------------------

pub name_is_added : Always NameAdded
name_is_added p given sites fed m s stand name follows = record {
  follow = record {
    cell_count = stand.follow.cell_count;
    holders = stand.follow.holders;
    callees = stand.follow.callees;
    kinds = stand.follow.kinds;
    names = All-push (NameFollows p m) s.names name stand.follow.names follows;
    flows = stand.follow.flows;
    calls = stand.follow.calls;
  };
  cover = cover p m m s (keeps_same m s) (with_name s name) (grow_name s name) given sites fed stand.cover
      (λ c below. refl);
}

pub flow_is_added : Always FlowAdded
flow_is_added p given sites fed m s stand flow follows = record {
  follow = record {
    cell_count = stand.follow.cell_count;
    holders = stand.follow.holders;
    callees = stand.follow.callees;
    kinds = stand.follow.kinds;
    names = stand.follow.names;
    flows = All-push (FlowFollows p m) s.flows flow stand.follow.flows follows;
    calls = stand.follow.calls;
  };
  cover = cover p m m s (keeps_same m s) (with_flow s flow) (grow_flow s flow) given sites fed stand.cover
      (λ c below. refl);
}

pub call_is_added : Always CallAdded
call_is_added p given sites fed m s stand call follows = record {
  follow = record {
    cell_count = stand.follow.cell_count;
    holders = stand.follow.holders;
    callees = stand.follow.callees;
    kinds = stand.follow.kinds;
    names = stand.follow.names;
    flows = stand.follow.flows;
    calls = All-push (CallFollows p m) s.calls call stand.follow.calls follows;
  };
  cover = cover p m m s (keeps_same m s) (with_call s call) (grow_call s call) given sites fed stand.cover
      (λ c below. refl);
}

-- meanings -----------------------------------------------------------------------------------------------------------

module _ (p : TypedProject) (m n : Meanings) (s : System) (keeps : Keeps m n s) (follow : Follow p m s) where
  callees_kept : AllZip (IsCalleeOf p n) (functions p) s.callees
  callees_kept =
      zip_weaker (IsCalleeOf p m) (IsCalleeOf p n) (functions p) s.callees
      (λ f callee at is. is_callee_of p m n s keeps f callee is) follow.callees

  names_kept : All (NameFollows p n) s.names
  names_kept k d below =
      name_follows p m n s keeps (get_or s.names k d) (Contains-get_or s.names k d below) (follow.names k d below)

  flows_kept : All (FlowFollows p n) s.flows
  flows_kept k d below =
      flow_follows p m n s keeps (get_or s.flows k d) (Contains-get_or s.flows k d below) (follow.flows k d below)

  calls_kept : All (CallFollows p n) s.calls
  calls_kept k d below =
      call_follows p m n s keeps (get_or s.calls k d) (Contains-get_or s.calls k d below) (follow.calls k d below)

pub kind_is_added : Always KindAdded
kind_is_added p given sites fed m s stand inside type functions callable =
    let count = sym (zip_length (AreCallable p) m.kinds s.kinds stand.follow.kinds) in
    let keeps = keeps_type m s inside type count in
    record {
      follow = record {
        cell_count = stand.follow.cell_count;
        holders = stand.follow.holders;
        callees = callees_kept p m (with_type m type) s keeps stand.follow;
        kinds = zip_push (AreCallable p) m.kinds s.kinds type functions stand.follow.kinds callable;
        names = names_kept p m (with_type m type) s keeps stand.follow;
        flows = flows_kept p m (with_type m type) s keeps stand.follow;
        calls = calls_kept p m (with_type m type) s keeps stand.follow;
      };
      cover = cover p m (with_type m type) s keeps (with_kind s functions) (grow_kind s functions) given sites
          fed stand.cover (λ c below. refl);
    }

pub cell_is_added : Always CellAdded
cell_is_added p given sites fed m s stand inside all o other =
    let count = stand.follow.cell_count in
    let keeps = keeps_origin m s inside o other count in
    record {
      follow = record {
        cell_count = ap (λ k. k + 1) count ∙ sym (length-append m.cells (o ∷ []));
        holders = λ c d h at too. stand.follow.holders c d h (keeps.held_before c h at) (keeps.held_before d h too);
        callees = callees_kept p m (with_origin m o) s keeps stand.follow;
        kinds = stand.follow.kinds;
        names = names_kept p m (with_origin m o) s keeps stand.follow;
        flows = flows_kept p m (with_origin m o) s keeps stand.follow;
        calls = calls_kept p m (with_origin m o) s keeps stand.follow;
      };
      cover = cover p m (with_origin m o) s keeps (with_cell s) (grow_cell s) given sites fed stand.cover
          (λ c below. get_or_left m.cells (o ∷ []) c Nowhere (omega (arith, below, all, count)));
    }

-- what is done -------------------------------------------------------------------------------------------------------

pub cell_is_done : Always CellDone
cell_is_done p given sites fed m s stand is = record {
  follow = stand.follow;
  cover = record {
    cells = λ c below. elim (cases_lt c fed) [
      | inl lt ↦ stand.cover.cells c lt
      | inr past ↦
          let same : fed ≡ c = omega (arith, below, past) in
          subst (λ k. IsFed p m s (origin_at m k) k) same is
    ];
    givens = stand.cover.givens;
    calls = stand.cover.calls;
  };
}

pub given_is_done : Always GivenDone
given_is_done p given sites fed m s stand g arrives = record {
  follow = stand.follow;
  cover = record {
    cells = stand.cover.cells;
    givens = All-push (Arrives p m s) given g stand.cover.givens arrives;
    calls = stand.cover.calls;
  };
}

pub call_is_done : Always CallDone
call_is_done p given sites fed m s stand site served = record {
  follow = stand.follow;
  cover = record {
    cells = stand.cover.cells;
    givens = stand.cover.givens;
    calls = All-push (IsServed p m s) sites site stand.cover.calls served;
  };
}

-- the first, and what stays ------------------------------------------------------------------------------------------

pub bare_rules_stand : BareRulesStand
bare_rules_stand p cells callees holders differ are = record {
  follow = record {
    cell_count = refl;
    holders = differ;
    callees = are;
    kinds = tt;
    names = All-nil (NameFollows p (bare cells));
    flows = All-nil (FlowFollows p (bare cells));
    calls = All-nil (CallFollows p (bare cells));
  };
  cover = record {
    cells = λ c below.
        let at = holders c Nowhere below in
        subst (λ o. IsFed p (bare cells) (no_rules (length cells) callees) o c) (sym at.1) tt;
    givens = All-nil (Arrives p (bare cells) (no_rules (length cells) callees));
    calls = All-nil (IsServed p (bare cells) (no_rules (length cells) callees));
  };
}

pub bringing_stays : BringsStays
bringing_stays p m old new grow o cell is = brings p m m old (keeps_same m old) new grow o cell is

pub numbers_stay : NumbersStay
numbers_stay p m o are = record {
  of_slots = λ slot there. held_still m o _ _ (are.of_slots slot there);
  threads = held_still m o _ _ are.threads;
  timers = held_still m o _ _ are.timers;
}
