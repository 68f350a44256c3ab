use Rattle.std.proofs.Common.{codes, map}
use Rattle.std.proofs.lemmas.Result.{err_from_is_err_and}
use Rattle.toml.specs.View.{view}
use Rattle.ck_settings.specs.Values.{callback_view}
use Rattle.ck_settings.specs.Reading.{element, callback, callback_elements}
use Rattle.ck_settings.proofs.Loops.{goes_on, ends, is_done}
use Rattle.ck_settings.proofs.lists.callbacks_of.Goals as goal

pub returns-in_err-callback : goal.returns-in_err-callback
returns-in_err-callback c =
    let p = err_from_is_err_and c.from_residual.result c.from_residual.ensures.1 in
    rw (p.1, p.2) (ends callback_view (element (codes "callback") (callback c.args.has_locked c.args.kernel_priority))
    c.elements.callbacks.items c.deref.result.now c.args.elements.now c.elements.element-index c.element-item.result
    c.in_err-callback.field-0.0 (callback_elements c.args.has_locked c.args.kernel_priority
    (map view c.args.elements.now))
    c.elements-test.true c.deref.ensures.value c.element-item.is c.in_err-callback.ensures c.elements.invariant)

pub elements-preserved : goal.elements-preserved
elements-preserved c =
    goes_on callback_view (element (codes "callback") (callback c.args.has_locked c.args.kernel_priority))
    c.elements.callbacks.items c.deref.result.now c.push.new.self.items c.args.elements.now c.elements.element-index
    c.element-item.result c.in_ok-callback.callback
    (callback_elements c.args.has_locked c.args.kernel_priority (map view c.args.elements.now))
    c.elements-test.true c.deref.ensures.value c.element-item.is c.in_ok-push.ensures.items c.in_ok-callback.ensures
    c.elements.invariant

pub returns : goal.returns
returns c =
    is_done callback_view (element (codes "callback") (callback c.args.has_locked c.args.kernel_priority))
    c.elements.callbacks.items c.args.elements.now c.elements.element-index
    (callback_elements c.args.has_locked c.args.kernel_priority (map view c.args.elements.now))
    c.elements-test.false c.elements.invariant
