-- What a table's values stand for, where the numbers of types, declarations and members are read.
use Rattle.std.specs.Prelude.{ℕ, ℤ, List, Option, Some, None}
use Rattle.ck_types.specs.Types.{CType, Qualifiers}
use Rattle.ck_types.specs.declared.types.Qualifiers.{Qualifiers as Written}
use Rattle.ck_types.specs.declared.types.TypeId.{TypeId}
use Rattle.ck_prog.specs.Declarations as plain
use Rattle.ck_prog.specs.Declarations.{Entry, MemberOf}
use Rattle.ck_prog.specs.Senses as senses
use Rattle.ck_prog.specs.TypeClasses.{Qualified}
use Rattle.ck_prog.specs.TypedBodies.{TypedInitialiser, TypedDeclaration}
use Rattle.ck_prog.specs.TypedTrees as trees
use Rattle.ck_prog.specs.TypedTrees.{Typed}
use Rattle.ck_tables.specs.declared.facts.Constancy.{Constancy}
use Rattle.ck_tables.specs.declared.facts.Constancy.TheVariants as constancies
use Rattle.ck_tables.specs.declared.facts.DeclaratorFacts.{DeclaratorFacts}
use Rattle.ck_tables.specs.declared.facts.EntryId.{EntryId}
use Rattle.ck_tables.specs.declared.facts.Facts.{Facts}
use Rattle.ck_tables.specs.declared.facts.Layout.{Layout}
use Rattle.ck_tables.specs.declared.facts.MemberId.{MemberId}
use Rattle.ck_tables.specs.declared.facts.Owner.{Owner}
use Rattle.ck_tables.specs.declared.facts.Owner.TheVariants as owners
use Rattle.ck_tables.specs.declared.facts.QualifiedType.{QualifiedType}
use Rattle.ck_tables.specs.declared.facts.ValueId.{ValueId}

-- what the numbers of a project's other tables stand for
pub record Readings : Type 0 where
  pub type_of : ℕ → CType
  pub entry_of : ℕ → Entry
  pub member_of : ℕ → MemberOf
  pub name_of : ℕ → List ℕ
  pub value_of : ℕ → ℤ
  -- the path to a part of an object that is initialised
  pub path_of : ℕ → List ℕ

-- and those of its expressions, initialisers and declarations
pub record BodyReadings : Type 0 where
  pub readings : Readings
  pub expr_of : ℕ → Typed
  pub init_of : ℕ → TypedInitialiser
  pub declaration_of : ℕ → TypedDeclaration

abbrev pub plain_qualifiers : Written → Qualifiers
plain_qualifiers q = record { constant = q.constant; volatile = q.volatile }

abbrev pub plain_type : Readings → Option TypeId → Option CType
plain_type w None = None
plain_type w (Some t) = Some (w.type_of t.0)

abbrev pub plain_entry : Readings → Option EntryId → Option Entry
plain_entry w None = None
plain_entry w (Some e) = Some (w.entry_of e.0)

abbrev pub plain_member : Readings → Option MemberId → Option MemberOf
plain_member w None = None
plain_member w (Some m) = Some (w.member_of m.0)

abbrev pub plain_value : Readings → Option ValueId → Option ℤ
plain_value w None = None
plain_value w (Some v) = Some (w.value_of v.0)

abbrev pub plain_constancy : Readings → Constancy → senses.Constancy
plain_constancy w constancies.Varying = senses.Varying
plain_constancy w constancies.Valueless = senses.Valueless
plain_constancy w (constancies.Known value) = senses.Known (w.value_of value.0)

abbrev pub plain_facts : Readings → Facts → trees.Facts
plain_facts w f =
    record {
      sense =
          record {
            type = plain_type w f.type_id;
            qualifiers = plain_qualifiers f.qualifiers;
            lvalue = f.lvalue;
            constancy = plain_constancy w f.constancy;
            null = f.null;
            fixed = f.fixed;
            register = f.register;
          };
      role = f.role;
      first = f.first;
      holds_call = f.holds_call;
    }

abbrev pub plain_layout : Option Layout → Option plain.Layout
plain_layout None = None
plain_layout (Some l) = Some (record { size = l.size; alignment = l.alignment })

abbrev pub plain_qualified : Readings → Option QualifiedType → Option Qualified
plain_qualified w None = None
plain_qualified w (Some t) =
    Some (record { qualifiers = plain_qualifiers t.qualifiers; type = w.type_of t.type_id.0 })

abbrev pub plain_owner : Owner → trees.Owner
plain_owner owners.TypeName = trees.OfTypeName
plain_owner owners.Member = trees.OfMember
plain_owner (owners.Parameter defining) = trees.OfParameter defining
plain_owner owners.Declaration = trees.OfDeclaration

abbrev pub plain_declarator : Readings → DeclaratorFacts → trees.DeclaratorFacts
plain_declarator w d =
    record {
      owner = plain_owner d.owner;
      spot = d.spot;
      first = d.first;
      type = plain_qualified w d.made;
      impossible = d.impossible;
      complete = d.complete;
    }
