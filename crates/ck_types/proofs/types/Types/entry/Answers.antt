use Rattle.std.proofs.Common.{true, [], take, ◌≡◌, ◌<◌, length, subst, sym}
use Rattle.ck_types.specs.TypeTable.{IsTable, fits}
use Rattle.ck_types.specs.declared.types.Node.TheVariants as nodes
use Rattle.ck_types.proofs.OneNumber.{node-fits}
use Rattle.ck_types.proofs.types.Types.entry.Goals as goal

pub returns-clause-smaller : goal.returns-clause-smaller
returns-clause-smaller c =
    let ns = c.self.inside.nodes.keys in
    let i = c.args.number in
    let all : ns ≡ c.args.self.now = c.self.view_is in
    let within : i < length ns = subst (λ ms. i < length ms) (sym all) c.requires in
    let table : IsTable ns = c.self.invariant in
    let none = nodes.NoParameters in
    subst (λ ms. fits (take i ms) c.node_at.result ≡ true) all
    (subst (λ n. fits (take i ns) n ≡ true) (c.node_at.ensures.is none) (node-fits [] ns i none within table.fitting))
