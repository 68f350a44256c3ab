use Rattle.std.proofs.Common.{◌≡◌, ◌≤◌, ◌+◌, refl, sym, ap, subst, inl, inr, arith}
use Rattle.std.proofs.lemmas.Bool.{cases_lt}
use Rattle.ck_reaching.specs.Rules.{function_count}
use Rattle.ck_reaching.specs.Reaching.{IsTarget, Reached}
use Rattle.ck_reaching.proofs.TargetLists.{AreTargetsBelow, kind-target, reaches-target}
use Rattle.ck_reaching.proofs.TargetLists.{targets-more, targets-gap, targets-from_all}
use Rattle.ck_reaching.proofs.reached.Reached.targets.Goals as goal
use Rattle.ck_reaching.proofs.reached.Reached.targets.Goals.{then-is_of_kind+in_ok-push, else-is_of_kind}

pub functions-preserved : goal.functions-preserved
functions-preserved c =
    let s = c.args.rules.now in
    let call = c.args.call.now in
    let old = c.functions.targets.items in
    let g = c.in-Some.function in
    let found = c.in-Some.ensures in
    let solved = c.requires.solved call.called.0 in
    let before : AreTargetsBelow s call g.0 old = targets-gap s call c.functions.number g.0 old found.0
    (λ f up below target. found.3 f up below ((solved f).1 (reaches-target s call f target))) c.functions.invariant in
    elim c.if-is_of_kind.branch [
      | then-is_of_kind+in_ok-push w ↦
          subst (AreTargetsBelow s call (g.0 + 1)) (sym (ap (λ v. v.items) w.targets-is))
          (targets-more s call g.0 g old w.push.new.self.items refl w.in_ok-push.ensures.items
          (Reached (c.is_of_kind.ensures.0 w.if-is_of_kind.true) ((solved g.0).0 found.2)) before)
      | else-is_of_kind w ↦
          subst (AreTargetsBelow s call (g.0 + 1)) (sym (ap (λ v. v.items) w.targets-is))
          (targets-gap s call g.0 (g.0 + 1) old (omega arith)
          (λ f up below target.
          let e : f ≡ g.0 = omega (arith, up, below) in
          let told = c.is_of_kind.ensures.1 (kind-target s call g.0 (subst (IsTarget s call) e target)) in
          absurd (cc (told, w.if-is_of_kind.false))) before)
    ]

pub returns : goal.returns
returns c =
    let s = c.args.rules.now in
    let call = c.args.call.now in
    let targets = c.functions.targets.items in
    let n = c.functions.number in
    let m = c.functions-functions.result in
    let in_range = c.functions-functions.ensures.in_range in
    let all : function_count s ≤ m = omega (arith, c.functions-functions.ensures.count) in
    elim (cases_lt n m) [
      | inl lt ↦ targets-from_all s call m targets in_range all
          (targets-gap s call n m targets (omega (arith, lt))
          (λ f up below target. c.in_default.ensures f up below
          ((c.requires.solved call.called.0 f).1 (reaches-target s call f target))) c.functions.invariant)
      | inr past ↦ targets-from_all s call n targets in_range (omega (arith, all, past)) c.functions.invariant
    ]
