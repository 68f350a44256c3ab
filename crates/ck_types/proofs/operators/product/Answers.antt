use mir.Syntax.{w128}
use Rattle.std.proofs.lemmas.Int.{to_z-of_z}
use Rattle.ck_types.proofs.Products.{product-fits}
use Rattle.ck_types.proofs.operators.product.Goals as goal

-- src/operators.rt:237:9
pub returns : goal.returns
returns c =
    rw (to_z-of_z w128 c.args.x c.ranges.x, to_z-of_z w128 c.args.y c.ranges.y)
    (to_z-of_z w128 _ (product-fits c.args.x c.args.y c.requires.left c.requires.right))
