-- What a number stands for, by its node; and what stays when a table grows.
use Rattle.std.proofs.Common.{◌≡◌, ℕ, true, List, [], ◌++◌, ap, refl, sym, subst, inl, inr, ◌∙◌}
use Rattle.std.proofs.lemmas.List.{append-nil, append_assoc}
use Rattle.std.specs.Prelude.{take, IfSome, Option, Some, None}
use Rattle.ck_types.specs.TypeTable.{IsNode, IsTable, KeepsLists, KeepsTypes, Extends, as_type, entries_of}
use Rattle.ck_types.specs.TypeTable.{names_type, plain_qualifiers, type_at, type_node, type_of}
use Rattle.ck_types.specs.Types.{CType, StructIdentity, Pointer}
use Rattle.ck_types.specs.declared.types.CType.{CType as TypeNode}
use Rattle.ck_types.specs.declared.types.CType.TheVariants as types
use Rattle.ck_types.specs.declared.types.Node.{Node}
use Rattle.ck_types.specs.declared.types.Qualifiers.{Qualifiers}
use Rattle.ck_types.specs.declared.types.TypeId.{TypeId}
use Rattle.ck_types.proofs.Arrays.{type-is}
use Rattle.ck_types.proofs.Entries.{numbers-kept}
use Rattle.ck_types.proofs.OneNumber.{list-among, type-among}
use Rattle.ck_types.proofs.Tables.{type-there}
use Rattle.ck_conversions.specs.Parts.{Grown, IsNamedOr, NamesSignature, type_in, value_by}
use Rattle.ck_conversions.specs.declared.parts.Signature.{Signature}
use Rattle.ck_prog.specs.TypeClasses.{as_value}
use Rattle.ck_tables.specs.Entries.{plain_made}
use Rattle.ck_tables.specs.declared.facts.QualifiedType.{QualifiedType}

-- what is asked of a node is asked of the type that its number stands for
pub looked : {X : Type 0} (f : CType → X) (identity : ℕ → StructIdentity) (ns : List Node) (id : TypeId) (t : TypeNode)
    → IsTable ns → IsNode ns id.0 (type_node t)
    → f (type_of identity (entries_of identity ns) t) ≡ f (type_in identity ns id)
looked f identity ns id t table node = ap f (sym (type-is identity ns id.0 t table node))

pub grown : (old new : List Node) → Extends old new → KeepsTypes old new → KeepsLists old new → Grown old new
grown old new kept types lists = record {
  kept = kept;
  types = types;
  lists = lists;
  same = λ identity i named. ap as_type (numbers-kept identity old new i kept (type-there old i named));
}

pub grown_none : (ns : List Node) → Grown ns ns
grown_none ns = record {
  kept = record { more = []; is = sym (append-nil ns) };
  types = λ i h. h;
  lists = λ i h. h;
  same = λ identity i named. refl;
}

pub grown_twice : (old mid new : List Node) → Grown old mid → Grown mid new → Grown old new
grown_twice old mid new first second = record {
  kept = record {
    more = first.kept.more ++ second.kept.more;
    is = second.kept.is ∙ ap (λ ns. ns ++ second.kept.more) first.kept.is
        ∙ append_assoc old first.kept.more second.kept.more;
  };
  types = λ i h. second.types i (first.types i h);
  lists = λ i h. second.lists i (first.lists i h);
  same = λ identity i named. second.same identity i (first.types i named) ∙ first.same identity i named;
}

-- a type that is made over a table is what its node says
pub type_made : (identity : ℕ → StructIdentity) (ns : List Node) (made : TypeId) (t : TypeNode) → IsTable ns
    → IsNode ns made.0 (type_node t) → type_in identity ns made ≡ type_of identity (entries_of identity ns) t
type_made identity ns made t table node = type-is identity ns made.0 t table node

-- what a node names is a type of the table
pub named_among : (ns : List Node) (i : ℕ) (found : Option QualifiedType)
    → IfSome found (λ to. names_type (take i ns) to.type_id.0 ≡ true)
    → IfSome found (λ to. names_type ns to.type_id.0 ≡ true)
named_among ns i None h = h
named_among ns i (Some to) h = (type-among ns i to.type_id.0 h).0

pub signature_among : (ns : List Node) (i : ℕ) (found : Option Signature)
    → IfSome found (λ s. NamesSignature (take i ns) s) → IfSome found (λ s. NamesSignature ns s)
signature_among ns i None h = h
signature_among ns i (Some s) h = record {
  result = (type-among ns i s.result.0 h.result).0;
  parameters = (list-among ns i s.parameters.0 h.parameters).0;
}

pub some_of : {X : Type 0} (P : X → Type 0) (found : Option X) (x : X) → found ≡ Some x → IfSome found P → P x
some_of P found x is h = subst (λ f. IfSome f P) is h

pub named_or : (ns : List Node) (id : TypeId) (to : QualifiedType) → names_type ns id.0 ≡ true
    → IsNamedOr (take id.0 ns) id to.type_id → names_type ns to.type_id.0 ≡ true
named_or ns id to named (inl same) = subst (λ t. names_type ns t.0 ≡ true) (sym same) named
named_or ns id to named (inr among) = (type-among ns id.0 to.type_id.0 among).0

-- a pointer that is made over a table that has grown
pub pointer_made : (identity : ℕ → StructIdentity) (old new : List Node) (made to : TypeId) (q : Qualifiers)
    → Grown old new → IsTable new → IsNode new made.0 (type_node (types.Pointer q to))
    → names_type old to.0 ≡ true
    → type_in identity new made ≡ Pointer (plain_qualifiers q) (type_in identity old to)
pointer_made identity old new made to q grows table node named =
    type-is identity new made.0 (types.Pointer q to) table node
    ∙ ap (Pointer (plain_qualifiers q)) (grows.same identity to.0 named)

-- the pointer that a value is, or the value itself
pub value_is : (identity : ℕ → StructIdentity) (ns : List Node) (id : TypeId) (t : TypeNode)
    (found : Option QualifiedType) → IsTable ns → IsNode ns id.0 (type_node t)
    → (type_at (entries_of identity ns) id.0 ≡ type_of identity (entries_of identity ns) t
    → value_by (plain_made (type_at (entries_of identity ns)) found) (type_of identity (entries_of identity ns) t)
    ≡ as_value (type_of identity (entries_of identity ns) t))
    → value_by (plain_made (type_at (entries_of identity ns)) found) (type_in identity ns id)
    ≡ as_value (type_in identity ns id)
value_is identity ns id t found table node says =
    let here = type-is identity ns id.0 t table node in
    ap (value_by (plain_made (type_at (entries_of identity ns)) found)) here ∙ says here
    ∙ looked as_value identity ns id t table node

-- how tables grow
pub ruleset growing = (grown, grown_none, grown_twice)
