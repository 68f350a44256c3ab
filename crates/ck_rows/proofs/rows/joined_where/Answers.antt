use Rattle.std.proofs.Common.{ap}
use Rattle.std.specs.Int.Bits.{bit_or}
use Rattle.std.specs.Simd.Lanes.{zip2}
use Rattle.ck_rows.proofs.Compositions.{taken_lanes}
use Rattle.ck_rows.proofs.rows.joined_where.Goals as goal

pub returns : goal.returns
returns c =
    ap (zip2 bit_or c.args.masks) (taken_lanes c.args.chosen 16 c.args.j c.args.step c.fits-chosen.0 c.ranges.step.fits)
