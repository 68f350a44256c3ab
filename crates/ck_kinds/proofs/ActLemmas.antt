-- What a call by a name is, and what an act does.
use Rattle.std.proofs.Common.{◌≡◌, ℕ, zero, suc, ◌<◌, Bool, true, List, [], ◌∷◌, map}
use Rattle.std.proofs.Common.{Option, Some, None, sym, ap, arith}
use Rattle.std.specs.List.{slice_get, slice_index_or}
use Rattle.std.specs.Option.{option_map, IfSome}
use Rattle.std.specs.Prelude.{nat_lt}
use Rattle.std.proofs.lemmas.Bool.{and_parts, ltb-true}
use Rattle.std.proofs.lemmas.Option.{same_Some}
use Rattle.ck_base.specs.declared.ops.Op.{Op}
use Rattle.ck_base.specs.declared.ops.Op.TheVariants.{Neutral}
use Rattle.ck_graph.specs.declared.points.ActName.{ActName}
use Rattle.ck_kernel.specs.KernelTable.{KernelCall}
use Rattle.ck_points.specs.Graphs.{op_in_row}
use Rattle.ck_tables.specs.Numbers.{fits_if_any}
use Rattle.ck_tables.specs.ProgramRows.{act_fits, outside_count, use_fits, use_row_fits}
use Rattle.ck_tables.specs.Rows.{IsRow}
use Rattle.ck_call_rows.specs.TypedRows.{outside_ops, op_of_outside}
use Rattle.ck_tables.specs.declared.program.Linked.{Linked}
use Rattle.ck_tables.specs.declared.program_rows.OutsideInfo.{OutsideInfo}
use Rattle.ck_tables.specs.declared.program_rows.ProgramRows.{ProgramRows}
use Rattle.ck_tables.specs.declared.program_rows.UseInfo.{UseInfo}

pub below : (m n : ℕ) → nat_lt m n ≡ true → m < n
below m n e = ltb-true m n e

pub row-get : {X : Type 0} (xs : List X) (i : ℕ) (x : X) → IsRow xs i x → slice_get xs i ≡ Some x
row-get [] i x row = let h = row.within in absurd (omega (arith, h))
row-get (y ∷ ys) zero x row = ap Some (row.is y)
row-get (y ∷ ys) (suc i) x row = let h = row.within in row-get ys i x (record { within = omega arith; is = row.is })

if_some : (fits : ActName → Bool) (act : Option ActName) → fits_if_any fits act ≡ true
    → IfSome act (λ a. fits a ≡ true)
if_some fits None e = tt
if_some fits (Some a) e = e

pub act-fits : (l : Linked) (r : ProgramRows) (u : UseInfo) → use_row_fits l r u ≡ true
    → IfSome u.act (λ a. act_fits (outside_count r) a ≡ true)
unfolding use_fits
act-fits l r u e = if_some (act_fits (outside_count r)) u.act (and_parts _ _ e).0

pub op-row : (row : Option KernelCall) (op : Op) → option_map (λ c. c.op) row ≡ Some op → op ≡ op_in_row row
op-row None op e = absurd (cc)
op-row (Some row) op e = sym (same_Some row.op op e)

outside-op : (os : List OutsideInfo) (i : ℕ) (o : OutsideInfo) → IsRow os i o
    → o.op ≡ slice_index_or (map op_of_outside os) i Neutral
outside-op [] i o row = let h = row.within in absurd (omega (arith, h))
outside-op (p ∷ os) zero o row = sym (ap op_of_outside (row.is p))
outside-op (p ∷ os) (suc i) o row =
    let h = row.within in outside-op os i o (record { within = omega arith; is = row.is })

pub op_of_row : (r : ProgramRows) (i : ℕ) (o : OutsideInfo) → IsRow r.outside.rows.items i o
    → o.op ≡ slice_index_or (outside_ops r) i Neutral
op_of_row r i o row = outside-op r.outside.rows.items i o row
