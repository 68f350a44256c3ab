use Rattle.std.proofs.Common.{◌≡◌, length, sym, ◌∙◌, subst}
use Rattle.ck_graph.specs.declared.points.PointKind.TheVariants.{Act}
use Rattle.ck_graph.specs.Faults.{FitsKind}
use Rattle.ck_graph.specs.Steps.{kind_at}
use Rattle.ck_summary.specs.Solution.{rows_at}
use Rattle.ck_summary.specs.Growth.{work, IsAddition, LeadsTo}
use Rattle.ck_summary.proofs.PointLemmas.{edges_at, growth-plain, looked-plain, growth-act, looked-act, looked-call}
use Rattle.ck_summary.proofs.PointLemmas.{looked-exit}
use Rattle.ck_summary.proofs.passing.pass_on.Goals as goal

pub returns-in-Plain-clause-growth : goal.returns-in-Plain-clause-growth
unfolding rows_at
returns-in-Plain-clause-growth c =
    let old = work c.args.table.now c.args.listed.now in
    let new = work c.spread.new.table c.spread.new.listed in
    growth-plain c.args.graph.now c.args.point.0 old new (sym c.kind.ensures ∙ c.in-Plain.is)
    (subst (λ edges. IsAddition (LeadsTo edges (length edges)) (rows_at c.args.table.now c.args.point.0) old new)
    c.edges.ensures c.spread.ensures)

pub returns-in-Plain-clause-looked : goal.returns-in-Plain-clause-looked
unfolding rows_at
returns-in-Plain-clause-looked c =
    let old = work c.args.table.now c.args.listed.now in
    let new = work c.spread.new.table c.spread.new.listed in
    looked-plain c.args.graph.now c.requires.sound c.args.point.0 old new (sym c.kind.ensures ∙ c.in-Plain.is)
    (subst (λ edges. IsAddition (LeadsTo edges (length edges)) (rows_at c.args.table.now c.args.point.0) old new)
    c.edges.ensures c.spread.ensures)

pub returns-in-Act-clause-growth : goal.returns-in-Act-clause-growth
unfolding rows_at
returns-in-Act-clause-growth c =
    let flow = c.args.graph.now in
    let p = c.args.point.0 in
    let old = work c.args.table.now c.args.listed.now in
    let new = work c.spread-in-Act.new.table c.spread-in-Act.new.listed in
    let is : kind_at flow p ≡ Act c.in-Act.op c.in-Act.field-1 = sym c.kind.ensures ∙ c.in-Act.is in
    let one : length (edges_at flow p) ≡ 1 =
    subst (λ kind. FitsKind kind (length (edges_at flow p))) is (c.requires.sound.points p c.requires.point).fits in
    growth-act flow p c.in-Act.op c.in-Act.field-1 c.step_of.result c.image-there.result old new is one
    c.step_of.ensures
    (record { composed = c.image-there.ensures.composed; only = c.image-there.ensures.only })
    (subst (λ edges. IsAddition (LeadsTo edges (length edges)) c.image-there.result old new) c.edges-in-Act.ensures
    c.spread-in-Act.ensures)

pub returns-in-Act-clause-looked : goal.returns-in-Act-clause-looked
unfolding rows_at
returns-in-Act-clause-looked c =
    let flow = c.args.graph.now in
    let p = c.args.point.0 in
    let old = work c.args.table.now c.args.listed.now in
    let new = work c.spread-in-Act.new.table c.spread-in-Act.new.listed in
    looked-act flow c.requires.sound p c.in-Act.op c.in-Act.field-1 c.step_of.result c.image-there.result old new
    (sym c.kind.ensures ∙ c.in-Act.is) c.step_of.ensures
    (record { composed = c.image-there.ensures.composed; only = c.image-there.ensures.only })
    (subst (λ edges. IsAddition (LeadsTo edges (length edges)) c.image-there.result old new) c.edges-in-Act.ensures
    c.spread-in-Act.ensures)

pub returns-in-Call-clause-looked : goal.returns-in-Call-clause-looked
returns-in-Call-clause-looked c =
    looked-call c.args.graph.now c.requires.sound c.args.point.0 c.in-Call.field-0 c.args.table.now
    c.pass_call.new.table (sym c.kind.ensures ∙ c.in-Call.is) c.pass_call.ensures.entered
    c.pass_call.ensures.returned

pub returns-in-Exit-clause-looked : goal.returns-in-Exit-clause-looked
returns-in-Exit-clause-looked c =
    looked-exit c.args.graph.now c.args.point.0 c.args.table.now c.pass_exit.new.table
    (sym c.kind.ensures ∙ c.in-Exit.is) c.pass_exit.ensures.returned
