use Rattle.std.proofs.Common.{◌∙◌, length, get_or, ap, sym, subst, arith}
use Rattle.std.proofs.lemmas.List.Elements.{Contains-get_or}
use Rattle.std.proofs.lemmas.Option.{slice_get-get_or}
use Rattle.std.specs.List.{Contains}
use Rattle.ck_reaching.specs.Work.{HasEdge}
use Rattle.ck_reaching.proofs.WorkLemmas.{spread-none, spread-more, IsSpread-from}
use Rattle.ck_reaching.proofs.work.Work.spread.Goals as goal

pub add-requires-clause-cell : goal.add-requires-clause-cell
add-requires-clause-cell c =
    let tos = c.at-to-items.result.now in
    let to = get_or tos c.loop-to.to-index 0 in
    let edge : HasEdge c.args.self.now.edges c.args.cell.0 to =
    subst (λ xs. Contains xs to) c.at-to-items.ensures (Contains-get_or tos c.loop-to.to-index 0 c.loop-to-test.true) in
    let below = c.requires.shaped.inside c.args.cell.0 to edge in
    omega (arith, below, c.requires.shaped.count, c.loop-to.invariant.gains.sizes.count)

pub add-requires-clause-size : goal.add-requires-clause-size
add-requires-clause-size c =
    let tos = c.at-to-items.result.now in
    let to = get_or tos c.loop-to.to-index 0 in
    let edge : HasEdge c.args.self.now.edges c.args.cell.0 to =
    subst (λ xs. Contains xs to) c.at-to-items.ensures (Contains-get_or tos c.loop-to.to-index 0 c.loop-to-test.true) in
    ap length c.copy_to.ensures ∙ (c.requires.shaped.sets c.args.cell.0 c.requires.cell ∙
    sym (c.loop-to.invariant.gains.sizes.sets to ∙
    c.requires.shaped.sets to (c.requires.shaped.inside c.args.cell.0 to edge)))

pub add-requires-clause-listed : goal.add-requires-clause-listed
add-requires-clause-listed c =
    c.loop-to.invariant.gains.size ∙ (c.requires.shaped.listed ∙ (sym c.requires.shaped.count ∙
    sym c.loop-to.invariant.gains.sizes.count))

pub loop-to-init : goal.loop-to-init
loop-to-init c = spread-none c.at-to-items.result.now c.copy_to.new.into c.args.self.now.known

pub loop-to-preserved : goal.loop-to-preserved
loop-to-preserved c =
    let tos = c.at-to-items.result.now in
    let n = c.loop-to.to-index in
    spread-more tos n (get_or tos n 0) c.copy_to.new.into c.args.self.now.known c.loop-to.known c.add.new.self
    (slice_get-get_or tos n 0 c.loop-to-test.true) c.loop-to.invariant c.in_ok-add.ensures

pub returns : goal.returns
returns c =
    IsSpread-from c.args.cell.0 c.loop-to.to-index c.args.self.now c.loop-to.known c.at-to-items.result.now
    c.copy_to.new.into c.requires.shaped c.requires.cell c.loop-to-test.false c.at-to-items.ensures c.copy_to.ensures
    c.loop-to.invariant
