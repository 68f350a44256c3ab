use Rattle.std.proofs.Common.{refl, sym, ◌∙◌, ap}
use Rattle.ck_types.specs.Elements.{element_type}
use Rattle.ck_types.specs.TypeTable.{entries_of}
use Rattle.ck_types.proofs.Arrays.{array-fits, element-inner, element-own, type-is}
use Rattle.ck_types.proofs.types.Types.element_type.Goals as goal

pub loop-of-init : goal.loop-of-init
loop-of-init c = record { named = c.requires; same = λ identity. refl }

pub node-requires : goal.node-requires
node-requires c = c.loop-of.invariant.named

pub loop-of-preserved : goal.loop-of-preserved
loop-of-preserved c =
    let ns = c.args.self.now in
    let at = c.loop-of.at.0 in
    let parts = sym c.array_of.ensures ∙ c.in-Some.is in
    let fits = array-fits ns at c.node.result c.in-Some.of c.in-Some._count parts c.node.ensures.smaller in
    record {
      named = fits.0;
      same = λ identity. sym (ap element_type (type-is identity ns at c.node.result c.node.ensures.table
          c.node.ensures.node) ∙ element-inner identity (entries_of identity ns) c.node.result c.in-Some.of
          c.in-Some._count parts) ∙ c.loop-of.invariant.same identity;
    }

pub loop-of-smaller : goal.loop-of-smaller
loop-of-smaller c =
    let ns = c.args.self.now in
    let at = c.loop-of.at.0 in
    let parts = sym c.array_of.ensures ∙ c.in-Some.is in
    (array-fits ns at c.node.result c.in-Some.of c.in-Some._count parts c.node.ensures.smaller).1

pub returns-clause-named : goal.returns-clause-named
returns-clause-named c = c.loop-of.invariant.named

pub returns-clause-element : goal.returns-clause-element
returns-clause-element c =
    let ns = c.args.self.now in
    let at = c.loop-of.at.0 in
    λ identity. let here = type-is identity ns at c.node.result c.node.ensures.table c.node.ensures.node in
    here ∙ sym (element-own identity (entries_of identity ns) c.node.result (sym c.array_of.ensures ∙ c.in_default.is))
    ∙ ap element_type (sym here) ∙ c.loop-of.invariant.same identity
