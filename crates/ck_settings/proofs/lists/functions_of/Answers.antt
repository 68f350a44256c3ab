use Rattle.std.proofs.Common.{codes, map}
use Rattle.std.proofs.lemmas.Result.{err_from_is_err_and}
use Rattle.toml.specs.View.{view}
use Rattle.ck_settings.specs.Values.{function_view}
use Rattle.ck_settings.specs.Reading.{element, function, function_elements}
use Rattle.ck_settings.proofs.Loops.{goes_on, ends, is_done}
use Rattle.ck_settings.proofs.lists.functions_of.Goals as goal

pub returns-in_err-function : goal.returns-in_err-function
returns-in_err-function c =
    let p = err_from_is_err_and c.from_residual.result c.from_residual.ensures.1 in
    rw (p.1, p.2) (ends function_view (element (codes "function") function) c.elements.functions.items
    c.deref.result.now c.args.elements.now c.elements.element-index c.element-item.result
    c.in_err-function.field-0.0 (function_elements (map view c.args.elements.now))
    c.elements-test.true c.deref.ensures.value c.element-item.is c.in_err-function.ensures c.elements.invariant)

pub elements-preserved : goal.elements-preserved
elements-preserved c =
    goes_on function_view (element (codes "function") function) c.elements.functions.items c.deref.result.now
    c.push.new.self.items c.args.elements.now c.elements.element-index c.element-item.result
    c.in_ok-function.function (function_elements (map view c.args.elements.now))
    c.elements-test.true c.deref.ensures.value c.element-item.is c.in_ok-push.ensures.items c.in_ok-function.ensures
    c.elements.invariant

pub returns : goal.returns
returns c =
    is_done function_view (element (codes "function") function) c.elements.functions.items c.args.elements.now
    c.elements.element-index (function_elements (map view c.args.elements.now)) c.elements-test.false
    c.elements.invariant
