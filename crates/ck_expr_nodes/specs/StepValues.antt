-- The value of a row of suffixes up to one of them, which is kept with it (C99 6.5.2).
use Rattle.ck_tables.specs.declared.exprs.Step.{Step}
use Rattle.ck_tables.specs.declared.exprs.Step.TheVariants.{Index, Call, Access, PostIncrement}
use Rattle.ck_tables.specs.declared.facts.Facts.{Facts}

abbrev pub value_in : Step → Facts
value_in (Index opening index facts) = facts
value_in (Call opening function arguments facts) = facts
value_in (Access is_dot name member facts) = facts
value_in (PostIncrement token operator facts) = facts
