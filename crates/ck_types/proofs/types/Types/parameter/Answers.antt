use Rattle.std.proofs.Common.{true, false, ◌≡◌, subst, sym, ◌∙◌, ap}
use Rattle.ck_types.specs.TypeTable.{IsNode, is_type, names_list, list_node}
use Rattle.ck_types.specs.declared.types.Node.TheVariants as nodes
use Rattle.ck_types.proofs.Tables.{is-node, list-named, list-there}
use Rattle.ck_types.proofs.types.Types.parameter.Goals as goal

pub node_at-requires : goal.node_at-requires
node_at-requires c = list-there c.self.inside.nodes.keys c.args.list.0
    (subst (λ ns. names_list ns c.args.list.0 ≡ true) (sym c.self.view_is) c.requires)

pub returns-clause-node : goal.returns-clause-node
returns-clause-node c =
    let ns = c.self.inside.nodes.keys in
    let i = c.args.list.0 in
    let all : ns ≡ c.args.self.now = c.self.view_is in
    let named : names_list ns i ≡ true = subst (λ ms. names_list ms i ≡ true) (sym all) c.requires in
    let none = nodes.NoParameters in
    let kind : is_type c.node_at.result ≡ false =
    ap is_type (sym (c.node_at.ensures.is none)) ∙ list-named ns i none named in
    subst (λ ms. IsNode ms i (list_node c.list_in.result)) all
    (is-node ns i none (list_node c.list_in.result) (list-there ns i named)
    (c.node_at.ensures.is none ∙ sym (c.list_in.ensures kind)))
