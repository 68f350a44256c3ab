use Rattle.std.proofs.Common.{◌∙◌, ap}
use Rattle.ck_readers.specs.NameSet.{with_tokens}
use Rattle.ck_readers.proofs.LookLemmas.{view_added}
use Rattle.ck_readers.proofs.NameLemmas.{with_tokens-last, types_renamed}
use Rattle.ck_readers.proofs.sources.Source.add_typedef.Goals as goal

pub invariant_of-self-2 : goal.invariant_of-self-2
invariant_of-self-2 c = record {
  looks = c.self.invariant.looks;
  types_are =
      types_renamed c.self.inside.bytes.now c.self.inside.added.items c.push.new.self.items c.args.token
      c.self.inside.earlier.now _ _ _ (c.add_type.ensures _ c.self.invariant.types_are) c.text.ensures
      c.in_ok-push.ensures.items;
  distinct = c.self.invariant.distinct;
}

pub returns-clause-added : goal.returns-clause-added
returns-clause-added c =
    view_added _ _ _ _ _ c.args.token c.self.view_is
    (ap (λ ts. with_tokens c.self.inside.bytes.now ts c.self.inside.earlier.now) c.in_ok-push.ensures.items
    ∙ with_tokens-last c.self.inside.bytes.now c.self.inside.added.items c.args.token c.self.inside.earlier.now)
