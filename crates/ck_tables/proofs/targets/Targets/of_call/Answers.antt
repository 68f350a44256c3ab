use Rattle.std.proofs.Common.{◌≡◌, ◌<◌, length, subst, sym, arith}
use Rattle.ck_tables.specs.Targets.{of_call}
use Rattle.ck_tables.proofs.TargetLemmas.{names_list, reads_list}
use Rattle.ck_tables.proofs.targets.Targets.of_call.Goals as goal

pub index-requires-2 : goal.index-requires-2
index-requires-2 c =
    let known = subst (λ t. c.args.call < length t.calls) (sym c.self.view_is) c.requires in
    let less = names_list c.self.inside.lists.items c.self.inside.calls.items c.args.call c.index.result.now
    c.index.ensures known
    c.self.invariant.calls in
    grind (arith, less)

pub returns : goal.returns
returns c =
    let vs = c.self.inside.lists.items in
    let ls = c.self.inside.calls.items in
    let list = c.index.result.now in
    let known = subst (λ t. c.args.call < length t.calls) (sym c.self.view_is) c.requires in
    let less = names_list vs ls c.args.call list c.index.ensures known c.self.invariant.calls in
    subst (λ t. c.as_slice.result.now ≡ of_call t c.args.call) c.self.view_is
    (reads_list vs ls c.args.call list c.index-2.result.now c.as_slice.result.now c.index.ensures known less
    c.index-2.ensures c.as_slice.ensures.value)
