use Rattle.std.proofs.Common.{ℕ, leb, cond, bit_and, refl, arith}
use Rattle.std.proofs.lemmas.Simd.{splat_is_map, zip2_splat}
use Rattle.ck_lexer.specs.Runs.{is_out}
use Rattle.ck_lexer.specs.declared.runs.Class.TheVariants.{Name}
use Rattle.ck_lexer.proofs.BlockLemmas.{joined, mask-lanes}
use Rattle.ck_lexer.proofs.blocks.not_name.Goals as goal

abbrev at_most : ℕ → ℕ → ℕ
at_most a b = cond (leb a b) 255 0

pub returns : goal.returns
returns c =
    let v = c.args.block in
    let long = c.fits-block.0 in
    mask-lanes (is_out Name) _ v _ (omega arith) c.fits-block.1
    (joined bit_and _ _ v
    (joined bit_and _ _ v
    (joined at_most (λ _. 26) _ v (splat_is_map v 32 26 long)
    (joined _ _ _ v (zip2_splat {Y = ℕ} _ v 32 32 long) (splat_is_map v 32 97 long)))
    (joined at_most (λ _. 10) _ v (splat_is_map v 32 10 long) (zip2_splat {Y = ℕ} _ v 32 48 long)))
    (zip2_splat {Y = ℕ} _ v 32 95 long))
    refl
