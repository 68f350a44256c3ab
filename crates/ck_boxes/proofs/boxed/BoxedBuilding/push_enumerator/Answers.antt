use Rattle.std.proofs.Common.{subst, sym}
use Rattle.ck_boxes.specs.Depths.{NestBefore}
use Rattle.ck_grammar.specs.Nesting.{enumerators_nesting}
use Rattle.ck_boxes.proofs.boxed.BoxedBuilding.push_enumerator.Goals as goal

pub push-requires : goal.push-requires
push-requires g c =
    subst (λ f. NestBefore enumerators_nesting f c.args.next.depth) (sym c.new.ensures)
    (c.args.next.before c.args.comma)
