use Rattle.std.proofs.Common.{◌≡◌, ◌∷◌, [], ◌++◌, map, length, vec_len, ap, sym, ◌∙◌, arith}
use Rattle.std.proofs.lemmas.Iterator.Adapters.{YieldsList-from_vec}
use Rattle.std.proofs.lemmas.List.{map_push}
use Rattle.ck_drafts.specs.Drafts.{plain_draft}
use Rattle.ck_kinds.specs.Callers.{draft_of}
use Rattle.ck_kinds.proofs.Drafted.{ended}
use Rattle.ck_kinds.proofs.callers.Caller.drafts.Goals as goal

pub points-init : goal.points-init
points-init c = λ f there. ap (map plain_draft) c.new-drafts.ensures.items

pub points-preserved : goal.points-preserved
points-preserved c = λ f there.
    let s = c.args.self.now in
    let d = c.draft.result in
    ap (map plain_draft) c.in_ok-push.ensures.items ∙ map_push plain_draft c.points.drafts.items d
    ∙ ap (λ ds. ds ++ plain_draft d ∷ []) (c.points.invariant f there)
    ∙ ap (λ e. map (draft_of s f) c.points.yielded ++ e ∷ []) (c.draft.ensures f there)
    ∙ sym (map_push (draft_of s f) c.points.yielded c.in-Some.point)

pub returns : goal.returns
returns c = λ f there.
    let points = c.args.points.items in
    let long : vec_len c.args.points ≡ length points = grind arith in
    let given = c.into_iter-point-iterator.ensures.into_iter_gives in
    let road = YieldsList-from_vec points given.0 (given.1 ∙ long) in
    c.points.invariant f there
    ∙ ap (map (draft_of c.args.self.now f))
    (ended road c.points.yielded c.points.point-iterator c.points.yielded_by c.next.result c.next.new.self
    c.in-None.is c.next.ensures.steps)
