use Rattle.std.proofs.Common.{◌∙◌, ap, sym}
use Rattle.std.specs.Prelude.{slice_get}
use Rattle.ck_readers.proofs.LookLemmas.{pair_at, seen_pair, looked_past, got, got_none}
use Rattle.ck_readers.proofs.sources.Source.seen_at.Goals as goal

pub returns : goal.returns
returns c =
    let token = c.in-Some.ensures.lookup in
    let look = c.in-Some-get.ensures.lookup in
    seen_pair _ _ _ _ _ _ _ _ _ c.self.view_is
    (pair_at _ _ _ c.self.inside.looked.items _ _ c.in-Some-get.look.now c.self.invariant.looks
    (got _ _ _ token.3.0 token.1)
    (ap (λ ls. slice_get ls c.args.at) (sym c.deref.ensures.value) ∙ got _ _ _ look.3.0 look.1))
    (λ kind text is. c.seen_by.ensures _ _ kind text (c.deref-2.ensures.value ∙ c.self.invariant.types_are) is)

pub returns-in_default-get : goal.returns-in_default-get
returns-in_default-get c =
    rw (← c.self.view_is)
    (looked_past _ _ _ c.self.inside.looked.items _ c.self.invariant.looks
    (ap (λ ls. slice_get ls c.args.at) (sym c.deref.ensures.value) ∙ got_none _ _ c.in_default-get.ensures.lookup.3))
