use Rattle.ck_conversions.proofs.Looks.{grown, pointer_made}
use Rattle.ck_conversions.proofs.values.pointer_to.Goals as goal

pub returns-in_err-made-clause-grown : goal.returns-in_err-made-clause-grown
returns-in_err-made-clause-grown c =
    let e = c.in_err-made.ensures in grown c.args.types.now c.intern.new.self e.kept e.types e.lists

pub returns-clause-grown : goal.returns-clause-grown
returns-clause-grown c =
    let e = c.in_ok-made.ensures in grown c.args.types.now c.intern.new.self e.kept e.types e.lists

pub returns-clause-made : goal.returns-clause-made
returns-clause-made c = λ identity.
    let e = c.in_ok-made.ensures in
    pointer_made identity c.args.types.now c.intern.new.self c.in_ok-made.made c.args.to c.args.qualifiers
    (grown c.args.types.now c.intern.new.self e.kept e.types e.lists) e.table e.number c.requires
