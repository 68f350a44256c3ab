use Rattle.std.proofs.Common.{◌≡◌}
use Rattle.std.specs.Prelude.{take, map}
use Rattle.ck_grammar.specs.Words.{is_one_of}
use Rattle.ck_readers.specs.Looks.{names_of}
use Rattle.ck_readers.proofs.sources.types_of.Given as goal

abbrev pub invariant-names : goal.invariant-names
invariant-names l = l.types.items ≡ map (is_one_of l.earlier) (names_of (take l.name-index l.name-items))
