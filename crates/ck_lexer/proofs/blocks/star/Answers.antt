use Rattle.std.proofs.Common.{ℕ, refl, arith}
use Rattle.std.proofs.lemmas.Simd.{zip2_splat}
use Rattle.ck_lexer.specs.Runs.{is_out}
use Rattle.ck_lexer.specs.declared.runs.Class.TheVariants.{NotStar}
use Rattle.ck_lexer.proofs.BlockLemmas.{mask-lanes}
use Rattle.ck_lexer.proofs.blocks.star.Goals as goal

pub returns : goal.returns
returns c =
    let v = c.args.block in
    mask-lanes (is_out NotStar) _ v _ (omega arith) c.fits-block.1 (zip2_splat {Y = ℕ} _ v 32 42 c.fits-block.0) refl
