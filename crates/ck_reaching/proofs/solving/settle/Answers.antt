use Rattle.std.proofs.Common.{◌≡◌, refl, inl, inr}
use Rattle.ck_reaching.specs.declared.work.Work.{Work}
use Rattle.ck_reaching.proofs.LookLemmas.{closed-look, IsWorkOf-taken}
use Rattle.ck_reaching.proofs.solving.settle.Goals as goal

pub looks-preserved : goal.looks-preserved
looks-preserved c =
    let s = c.args.rules.now in
    let number = c.in-Some.number in
    let before : Work = c.looks.work in
    let new : Work = c.look.new.work in
    let taken : Work = record {
      known = record { reached = before.known.reached; listed = c.take.new.self };
      edges = before.edges;
      scratch = before.scratch;
    } in
    let look = c.in_ok-look.ensures in
    let grows = look.advances.grows in
    record {
      work = look.advances.work;
      kept = λ k f h. grows.gains.kept k f (c.looks.invariant.kept k f h);
      edges = λ from to e. grows.edges from to (c.looks.invariant.edges from to e);
      sized = look.sized;
      connected = look.connected;
      closed = closed-look s number c.look.new.seen before taken new refl refl
          (λ q l. elim (c.in-Some.ensures.others q l) [
            | inl t ↦ inl t
            | inr e ↦ inr (let same : number ≡ q = cc in same)
          ]) c.looks.invariant.closed look;
    }

pub returns : goal.returns
returns c =
    let none = c.in_default.ensures.taken in
    let closed = c.looks.invariant.closed in
    record {
      work = IsWorkOf-taken c.args.rules.now c.looks.work c.take.new.self c.in_default.ensures.size
          c.looks.invariant.work;
      kept = c.looks.invariant.kept;
      edges = c.looks.invariant.edges;
      closed = record {
        along = λ from to un e f h. closed.along from to (none from) e f h;
        calls = λ number call is un f h kind. closed.calls number call is (none call.called.0) f h kind;
      };
      none = λ n l. none n (c.in_default.ensures.no_other n l);
    }
