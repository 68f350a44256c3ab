use Rattle.std.proofs.Common.{◌*◌, ◌^◌, ◌-◌, sym, ◌∙◌, ap, arith}
use Rattle.std.specs.Prelude.{min}
use Rattle.ck_types.specs.Elements.{element_count, times}
use Rattle.ck_types.specs.TypeTable.{entries_of, type_at}
use Rattle.ck_types.proofs.Arrays.{Counted, array-fits, count-inner, count-own, counted-all, counted-more, counted-none}
use Rattle.ck_types.proofs.Arrays.{counted-unknown, type-is}
use Rattle.ck_types.proofs.types.Types.element_count.Goals as goal

pub loop-of-init : goal.loop-of-init
loop-of-init c = record {
  named = c.requires;
  same = λ identity. counted-none (element_count (type_at (entries_of identity c.args.self.now) c.args.id.0));
  small = omega arith;
}

pub node-requires : goal.node-requires
node-requires c = c.loop-of.invariant.named

pub loop-of-preserved : goal.loop-of-preserved
loop-of-preserved c =
    let ns = c.args.self.now in
    let at = c.loop-of.at.0 in
    let parts = sym c.array_of.ensures ∙ c.in-Some.is in
    let fits = array-fits ns at c.node.result c.in-Some.of c.in-Some.count parts c.node.ensures.smaller in
    let e = c.loop-of.elements in
    let n = c.in-Some-count.count in
    let product = c.saturating_mul-elements.ensures ∙ ap (λ m. min (e * m) (2 ^ 64 - 1)) c.from.ensures in
    record {
      named = fits.0;
      same = λ identity. let rest = element_count (type_at (entries_of identity ns) c.in-Some.of.0) in
          c.loop-of.invariant.same identity
          ∙ ap (λ t. Counted e (element_count t)) (type-is identity ns at c.node.result c.node.ensures.table
          c.node.ensures.node)
          ∙ ap (Counted e)
          (count-inner identity (entries_of identity ns) c.node.result c.in-Some.of c.in-Some.count parts)
          ∙ ap (λ m. Counted e (times m rest)) c.in-Some-count.is ∙ counted-more e n rest
          ∙ ap (λ m. Counted m rest) (sym product);
      small = omega (arith, c.saturating_mul-elements.ensures);
    }

pub loop-of-smaller : goal.loop-of-smaller
loop-of-smaller c =
    let ns = c.args.self.now in
    let at = c.loop-of.at.0 in
    let parts = sym c.array_of.ensures ∙ c.in-Some.is in
    (array-fits ns at c.node.result c.in-Some.of c.in-Some.count parts c.node.ensures.smaller).1

pub returns-in-None : goal.returns-in-None
returns-in-None c =
    let ns = c.args.self.now in
    let at = c.loop-of.at.0 in
    let parts = sym c.array_of.ensures ∙ c.in-Some.is in
    let e = c.loop-of.elements in
    λ identity. let rest = element_count (type_at (entries_of identity ns) c.in-Some.of.0) in
    sym (c.loop-of.invariant.same identity
    ∙ ap (λ t. Counted e (element_count t)) (type-is identity ns at c.node.result c.node.ensures.table
    c.node.ensures.node)
    ∙ ap (Counted e) (count-inner identity (entries_of identity ns) c.node.result c.in-Some.of c.in-Some.count parts)
    ∙ ap (λ m. Counted e (times m rest)) c.in-None.is ∙ counted-unknown e rest)

pub returns : goal.returns
returns c =
    let ns = c.args.self.now in
    let at = c.loop-of.at.0 in
    let e = c.loop-of.elements in
    λ identity. sym (c.loop-of.invariant.same identity
    ∙ ap (λ t. Counted e (element_count t)) (type-is identity ns at c.node.result c.node.ensures.table
    c.node.ensures.node)
    ∙ ap (Counted e) (count-own identity (entries_of identity ns) c.node.result
    (sym c.array_of.ensures ∙ c.in_default.is)) ∙ counted-all e c.loop-of.invariant.small)
