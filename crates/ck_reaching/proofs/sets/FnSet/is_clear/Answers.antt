use Rattle.std.proofs.Common.{◌/◌, ◌%◌, get_or, ap, sym, subst, arith}
use Rattle.std.proofs.lemmas.Bool.{eqb-true}
use Rattle.ck_reaching.specs.Sets.{Has}
use Rattle.ck_reaching.proofs.SetLemmas.{Has-past, clear-line}
use Rattle.ck_reaching.proofs.sets.FnSet.is_clear.Goals as goal

pub returns-then-line-len : goal.returns-then-line-len
returns-then-line-len c = λ t f e h.
    Has-past c.self.inside.blocks.items f
    (omega (arith, c.if-line-len.true, c.len.ensures, ap (λ l. l / 16) e)) (subst (λ s. Has s f) (sym c.self.view_is) h)

pub returns : goal.returns
returns c = λ t f e h.
    let number = c.args.number in
    let mask = get_or c.index.result.now.mask (number / 16 % 16) 0 in
    clear-line c.self.inside.blocks.items f number c.index.result.now
    (omega (arith, c.if-line-len.false, c.len.ensures)) c.index.ensures (eqb-true mask 0 t) e
    (subst (λ s. Has s f) (sym c.self.view_is) h)
