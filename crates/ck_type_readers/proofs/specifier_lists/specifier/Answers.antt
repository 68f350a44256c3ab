use Rattle.ck_readers.specs.SourceView.{words}
use Rattle.ck_type_readers.proofs.SpecifierSteps.{struct_specified, enum_specified, name_specified, word_specified}
use Rattle.ck_type_readers.proofs.specifier_lists.specifier.Goals as goal

pub returns-in_ok-next-in-StructWord : goal.returns-in_ok-next-in-StructWord
returns-in_ok-next-in-StructWord g c inside listed structs enums =
    rw c.named.ensures (struct_specified (words c.args.source.now) _ _ c.args.tally inside listed c.in-Some.ensures
    c.in-StructWord.is c.in_ok-next-in-StructWord.next (c.in_ok-next-in-StructWord.ensures inside structs))

pub returns-in_ok-next-in-EnumWord : goal.returns-in_ok-next-in-EnumWord
returns-in_ok-next-in-EnumWord g c inside listed structs enums =
    rw c.named-in-EnumWord.ensures (enum_specified (words c.args.source.now) _ _ c.args.tally inside listed
    c.in-Some.ensures c.in-EnumWord.is c.in_ok-next-in-EnumWord.next (c.in_ok-next-in-EnumWord.ensures listed enums))

pub returns-in-TypeName : goal.returns-in-TypeName
returns-in-TypeName g c inside listed structs enums =
    name_specified (words c.args.source.now) _ _ c.args.tally inside listed c.in-Some.ensures c.in-TypeName.is
    c.typedef_name.result (c.typedef_name.ensures (words c.args.source.now) c.args.source.now.tokens)

pub returns-in_default-sort : goal.returns-in_default-sort
returns-in_default-sort g c inside listed structs enums =
    word_specified (words c.args.source.now) _ _ c.args.tally inside listed c.in-Some.ensures
    c.in_default-sort.not-StructWord c.in_default-sort.not-EnumWord c.in_default-sort.not-TypeName c.word.result
    c.word.ensures
