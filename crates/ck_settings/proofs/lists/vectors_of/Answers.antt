use Rattle.std.proofs.Common.{codes, map}
use Rattle.std.proofs.lemmas.Result.{err_from_is_err_and}
use Rattle.toml.specs.View.{view}
use Rattle.ck_settings.specs.Values.{vector_view}
use Rattle.ck_settings.specs.Reading.{element, vector, vector_elements}
use Rattle.ck_settings.proofs.Loops.{goes_on, ends, is_done}
use Rattle.ck_settings.proofs.lists.vectors_of.Goals as goal

pub returns-in_err-vector : goal.returns-in_err-vector
returns-in_err-vector c =
    let p = err_from_is_err_and c.from_residual.result c.from_residual.ensures.1 in
    rw (p.1, p.2) (ends vector_view (element (codes "vector") vector) c.elements.vectors.items c.deref.result.now
    c.args.elements.now c.elements.element-index c.element-item.result c.in_err-vector.field-0.0
    (vector_elements (map view c.args.elements.now))
    c.elements-test.true c.deref.ensures.value c.element-item.is c.in_err-vector.ensures c.elements.invariant)

pub elements-preserved : goal.elements-preserved
elements-preserved c =
    goes_on vector_view (element (codes "vector") vector) c.elements.vectors.items c.deref.result.now
    c.push.new.self.items c.args.elements.now c.elements.element-index c.element-item.result c.in_ok-vector.vector
    (vector_elements (map view c.args.elements.now))
    c.elements-test.true c.deref.ensures.value c.element-item.is c.in_ok-push.ensures.items c.in_ok-vector.ensures
    c.elements.invariant

pub returns : goal.returns
returns c =
    is_done vector_view (element (codes "vector") vector) c.elements.vectors.items c.args.elements.now
    c.elements.element-index (vector_elements (map view c.args.elements.now)) c.elements-test.false
    c.elements.invariant
