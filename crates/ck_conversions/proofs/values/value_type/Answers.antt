use Rattle.std.proofs.Common.{◌∙◌, ap, sym}
use Rattle.std.specs.Prelude.{take}
use Rattle.ck_conversions.proofs.Looks.{grown_none, named_or, some_of, value_is}
use Rattle.ck_conversions.specs.Parts.{IsNamedOr, type_in, value_by}
use Rattle.ck_tables.specs.Entries.{plain_made}
use Rattle.ck_types.specs.TypeTable.{entries_of, type_at}
use Rattle.ck_conversions.proofs.values.value_type.Goals as goal

pub pointer_to-requires : goal.pointer_to-requires
pointer_to-requires c =
    let before = take c.args.id.0 c.args.types.now in
    named_or c.args.types.now c.args.id c.in-Some.to c.requires
    (some_of (λ to. IsNamedOr before c.args.id to.type_id) c.pointer_of_value.result c.in-Some.to c.in-Some.is
    (c.pointer_of_value.ensures.named before c.node.ensures.smaller))

pub returns-in_ok-made-in-Some-clause-value : goal.returns-in_ok-made-in-Some-clause-value
returns-in_ok-made-in-Some-clause-value c = λ identity.
    let ns = c.args.types.now in
    let es = entries_of identity ns in
    c.in_ok-made-in-Some.ensures.made identity
    ∙ ap (λ found. value_by (plain_made (type_at es) found) (type_in identity ns c.args.id)) (sym c.in-Some.is)
    ∙ value_is identity ns c.args.id c.node.result c.pointer_of_value.result c.node.ensures.table c.node.ensures.node
    (c.pointer_of_value.ensures.value identity es)

pub returns-in-None : goal.returns-in-None
returns-in-None c = record {
  grown = grown_none c.args.types.now;
  named = c.requires;
  value = λ identity.
      let ns = c.args.types.now in
      let es = entries_of identity ns in
      ap (λ found. value_by (plain_made (type_at es) found) (type_in identity ns c.args.id)) (sym c.in-None.is)
      ∙ value_is identity ns c.args.id c.node.result c.pointer_of_value.result c.node.ensures.table
      c.node.ensures.node (c.pointer_of_value.ensures.value identity es);
}
