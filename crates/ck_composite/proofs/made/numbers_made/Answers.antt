use Rattle.std.proofs.Common.{◌≡◌, length, sym, subst, ap, ◌∙◌, arith, true}
use Rattle.ck_composite.specs.Made.{AreMade, node_made}
use Rattle.ck_composite.proofs.Numbers.{all-kept, grown-more, longer, made-fits, made-more, step-of}
use Rattle.ck_composite.proofs.PairOrder.{next-pair}
use Rattle.ck_types.specs.TypeTable.{IsNode, fits}
use Rattle.ck_composite.proofs.made.numbers_made.Goals as goal

pub entry-one-requires : goal.entry-one-requires
entry-one-requires c =
    let here = next-pair c.args.pairs.now.keys c.making.made.items c.len.result c.in-Some.pair (omega arith)
    (sym c.get_index.ensures.key ∙ sym c.copied.ensures ∙ c.in-Some.is) in
    longer c.args.types.now c.making.types c.in-Some.pair.0 c.making.invariant.grown.kept
    (c.requires.settled (length c.making.made.items) c.in-Some.pair here).one_is.within

pub entry-other-requires : goal.entry-other-requires
entry-other-requires c =
    let here = next-pair c.args.pairs.now.keys c.making.made.items c.len.result c.in-Some.pair (omega arith)
    (sym c.get_index.ensures.key ∙ sym c.copied.ensures ∙ c.in-Some.is) in
    longer c.args.types.now c.making.types c.in-Some.pair.1 c.making.invariant.grown.kept
    (c.requires.settled (length c.making.made.items) c.in-Some.pair here).other_is.within

pub number_of-requires : goal.number_of-requires
number_of-requires c =
    let here = next-pair c.args.pairs.now.keys c.making.made.items c.len.result c.in-Some.pair (omega arith)
    (sym c.get_index.ensures.key ∙ sym c.copied.ensures ∙ c.in-Some.is) in
    let step = step-of c.args.types.now c.making.types c.args.pairs.now.keys c.in-Some.pair.0 c.in-Some.pair.1
    c.entry-one.result c.entry-other.result c.making.invariant.grown.kept
    (c.requires.settled (length c.making.made.items) c.in-Some.pair here) c.entry-one.ensures.node
    c.entry-other.ensures.node in
    let node : c.node_made-node.result
    ≡ node_made c.args.pairs.now.keys c.making.made.items c.entry-one.result c.entry-other.result =
    c.node_made-node.ensures
    ∙ ap (λ ms. node_made c.args.pairs.now.keys ms c.entry-one.result c.entry-other.result) c.deref.ensures.value in
    subst (λ n. fits c.making.types n ≡ true) (sym node)
    (made-fits c.args.types.now c.args.pairs.now.keys c.requires c.making.made.items c.in-Some.pair.0 c.in-Some.pair.1
    here c.entry-one.result c.entry-other.result step c.making.types c.making.invariant.grown c.making.invariant.made)

pub making-preserved : goal.making-preserved
making-preserved c =
    let here = next-pair c.args.pairs.now.keys c.making.made.items c.len.result c.in-Some.pair (omega arith)
    (sym c.get_index.ensures.key ∙ sym c.copied.ensures ∙ c.in-Some.is) in
    let step = step-of c.args.types.now c.making.types c.args.pairs.now.keys c.in-Some.pair.0 c.in-Some.pair.1
    c.entry-one.result c.entry-other.result c.making.invariant.grown.kept
    (c.requires.settled (length c.making.made.items) c.in-Some.pair here) c.entry-one.ensures.node
    c.entry-other.ensures.node in
    let node : c.node_made-node.result
    ≡ node_made c.args.pairs.now.keys c.making.made.items c.entry-one.result c.entry-other.result =
    c.node_made-node.ensures
    ∙ ap (λ ms. node_made c.args.pairs.now.keys ms c.entry-one.result c.entry-other.result) c.deref.ensures.value in
    let grown = grown-more c.args.types.now c.making.types c.number_of.new.types c.making.invariant.grown
    c.in_ok-number.ensures.kept c.in_ok-number.ensures.types c.in_ok-number.ensures.lists
    c.in_ok-number.ensures.table in
    record {
      grown = grown;
      made = subst (AreMade c.args.types.now c.number_of.new.types c.args.pairs.now.keys)
          (sym c.in_ok-push.ensures.items)
          (made-more c.args.types.now c.args.pairs.now.keys c.requires c.making.made.items c.in-Some.pair.0
          c.in-Some.pair.1 here c.entry-one.result c.entry-other.result step c.number_of.new.types grown
          (all-kept c.args.types.now c.making.types c.number_of.new.types c.args.pairs.now.keys c.making.made.items
          c.in_ok-number.ensures.kept c.in_ok-number.ensures.types c.in_ok-number.ensures.lists
          c.making.invariant.made)
          c.in_ok-number.number
          (subst (IsNode c.number_of.new.types c.in_ok-number.number) node c.in_ok-number.ensures.number));
    }
