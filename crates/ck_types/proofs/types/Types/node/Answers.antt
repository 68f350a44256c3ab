use Rattle.std.proofs.Common.{true, [], take, ◌≡◌, subst, sym, ◌∙◌, ap}
use Rattle.ck_types.specs.TypeTable.{IsNode, IsTable, fits, is_type, names_type, type_node}
use Rattle.ck_types.specs.declared.types.Node.TheVariants as nodes
use Rattle.ck_types.proofs.OneNumber.{node-fits}
use Rattle.ck_types.proofs.Tables.{is-node, type-named, type-there}
use Rattle.ck_types.proofs.types.Types.node.Goals as goal

pub node_at-requires : goal.node_at-requires
node_at-requires c = type-there c.self.inside.nodes.keys c.args.id.0
    (subst (λ ns. names_type ns c.args.id.0 ≡ true) (sym c.self.view_is) c.requires)

pub returns-clause-smaller : goal.returns-clause-smaller
returns-clause-smaller c =
    let ns = c.self.inside.nodes.keys in
    let i = c.args.id.0 in
    let all : ns ≡ c.args.self.now = c.self.view_is in
    let named : names_type ns i ≡ true = subst (λ ms. names_type ms i ≡ true) (sym all) c.requires in
    let none = nodes.NoParameters in
    let kind : is_type c.node_at.result ≡ true =
    ap is_type (sym (c.node_at.ensures.is none)) ∙ type-named ns i none named in
    let table : IsTable ns = c.self.invariant in
    subst (λ ms. fits (take i ms) (type_node c.type_in.result) ≡ true) all
    (subst (λ n. fits (take i ns) n ≡ true) (c.node_at.ensures.is none ∙ sym (c.type_in.ensures kind))
    (node-fits [] ns i none (type-there ns i named) table.fitting))

pub returns-clause-node : goal.returns-clause-node
returns-clause-node c =
    let ns = c.self.inside.nodes.keys in
    let i = c.args.id.0 in
    let all : ns ≡ c.args.self.now = c.self.view_is in
    let named : names_type ns i ≡ true = subst (λ ms. names_type ms i ≡ true) (sym all) c.requires in
    let none = nodes.NoParameters in
    let kind : is_type c.node_at.result ≡ true =
    ap is_type (sym (c.node_at.ensures.is none)) ∙ type-named ns i none named in
    subst (λ ms. IsNode ms i (type_node c.type_in.result)) all
    (is-node ns i none (type_node c.type_in.result) (type-there ns i named)
    (c.node_at.ensures.is none ∙ sym (c.type_in.ensures kind)))
