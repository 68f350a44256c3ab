-- The sense that the numbers of a value stand for, where the numbers of types and values are read.
use Rattle.std.specs.Prelude.{Bool, false, List, [], ◌∷◌, Option}
use Rattle.ck_base.specs.declared.tokens.Token.{Token}
use Rattle.ck_prog.specs.Senses as senses
use Rattle.ck_prog.specs.TypedTrees as typed
use Rattle.ck_prog.specs.declared.operators.Role.{Role}
use Rattle.ck_tables.specs.Readings.{Readings, plain_type, plain_qualifiers, plain_constancy}
use Rattle.ck_tables.specs.declared.facts.Constancy.TheVariants.{Varying}
use Rattle.ck_tables.specs.declared.facts.Facts.{Facts}
use Rattle.ck_types.specs.declared.types.TypeId.{TypeId}
use Rattle.ck_expr_nodes.specs.declared.senses.Sense.{Sense}

abbrev pub plain_sense : Readings → Sense → senses.Sense
plain_sense w s =
    record {
      type = plain_type w s.type_id;
      qualifiers = plain_qualifiers s.qualifiers;
      lvalue = s.lvalue;
      constancy = plain_constancy w s.constancy;
      null = s.null;
      fixed = s.fixed;
      register = s.register;
    }

-- those of the arguments of a call
abbrev pub plain_senses : Readings → List Sense → List senses.Sense
plain_senses w [] = []
plain_senses w (s ∷ ss) = plain_sense w s ∷ plain_senses w ss

-- the sense of an expression with these facts
abbrev pub sense_in : Facts → Sense
sense_in f =
    record {
      type_id = f.type_id;
      qualifiers = f.qualifiers;
      lvalue = f.lvalue;
      constancy = f.constancy;
      null = f.null;
      fixed = f.fixed;
      register = f.register;
    }

-- what is known of an expression with a sense
abbrev pub known_facts : Role → Token → senses.Sense → Bool → typed.Facts
known_facts role first sense holds_call =
    record { sense = sense; role = role; first = first; holds_call = holds_call }

-- of a value of which its type alone is known
abbrev pub type_alone : Option TypeId → Sense
type_alone t =
    record {
      type_id = t;
      qualifiers = record { constant = false; volatile = false };
      lvalue = false;
      constancy = Varying;
      null = false;
      fixed = false;
      register = false;
    }
