use Rattle.std.proofs.Common.{◌≡◌, ℕ, true}
use Rattle.ck_types.specs.Elements.{element_type}
use Rattle.ck_types.specs.TypeTable.{entries_of, names_type, type_at}
use Rattle.ck_types.specs.Types.{StructIdentity}
use Rattle.ck_types.proofs.types.Types.element_type.Given as goal

abbrev pub invariant-loop-of : goal.invariant-loop-of
invariant-loop-of l = record {
  named : names_type l.self l.at.0 ≡ true;
  same : (identity : ℕ → StructIdentity) → element_type (type_at (entries_of identity l.self) l.at.0)
      ≡ element_type (type_at (entries_of identity l.self) l.fn.id.0);
}

abbrev pub decreases-loop-of : goal.decreases-loop-of
decreases-loop-of l = l.at.0
