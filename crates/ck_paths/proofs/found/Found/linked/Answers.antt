use Rattle.std.proofs.Common.{◌-◌, length, refl, arith}
use Rattle.std.proofs.lemmas.Option.{slice_get_read}
use Rattle.ck_paths.specs.Found.{IsAt}
use Rattle.ck_paths.proofs.found.Found.linked.Goals as goal

pub returns-clause-at : goal.returns-clause-at
returns-clause-at c = slice_get_read c.args.self.now.places.items (length c.args.self.now.places.items)
    (c.args.link - 1) c.index.result.now refl (omega (arith, c.requires.some, c.requires.within)) c.index.ensures

pub returns-clause-back : goal.returns-clause-back
returns-clause-back c =
    let at : IsAt c.args.self.now.places.items (c.args.link - 1) c.index.result.now =
    slice_get_read c.args.self.now.places.items (length c.args.self.now.places.items) (c.args.link - 1)
    c.index.result.now refl (omega (arith, c.requires.some, c.requires.within)) c.index.ensures in
    omega (arith, c.requires.linked.back (c.args.link - 1) c.index.result.now at, c.requires.some)
