-- The laws of the table.
use Rattle.std.proofs.Common.{◌≡◌, ◌≢◌, ◌<◌, true, Some, length, get_or, refl, sym, ◌∙◌, ap, inl, inr, lit<, arith}
use Rattle.std.specs.Prelude.{IsTrue, Any, position}
use Rattle.std.specs.Option.{option_map}
use Rattle.std.specs.Str.{bytes_eq}
use Rattle.std.proofs.lemmas.Bool.{both_ways}
use Rattle.std.proofs.lemmas.List.{get_or_default}
use Rattle.std.proofs.lemmas.List.Elements.{All-from_get_or}
use Rattle.std.proofs.lemmas.Option.{slice_get-get_or}
use Rattle.std.proofs.lemmas.Slice.Eq.{bytes_eq-Decides}
use Rattle.ck_base.specs.declared.ops.Op.{Op}
use Rattle.ck_base.specs.declared.ops.Op.TheVariants.{Init, Halt, Disable, Suspend, Enable, Lock, Unlock, LockIsr}
use Rattle.ck_base.specs.declared.ops.Op.TheVariants.{UnlockIsr, Prologue, Epilogue, IQuiet, IWakes, SPlain, SWakes}
use Rattle.ck_base.specs.declared.ops.Op.TheVariants.{SSettles, Normal, ExitNormal, ExitS, Free, GetStatus}
use Rattle.ck_base.specs.declared.ops.Op.TheVariants.{RestoreStatus}
use Rattle.ck_kernel.specs.KernelTable.{kernel_table, row_numbered}
use Rattle.ck_kernel.specs.Laws.{NamesDiffer, RowsHaveTheirNames, NamesHaveTheirRows, OthersHaveNone, OpsHaveCalls}
use Rattle.ck_kernel.specs.Laws.{EntriesAreParameters, is_of_calls, is_parameter}
use Rattle.ck_kernel.proofs.Searching.{position_cases}
use Rattle.ck_kernel.proofs.RowLemmas.{blank, at_each, at_row, position_of_row}

pub names_differ : NamesDiffer
names_differ i j d less within same =
    let earlier : i < length kernel_table = omega arith in
    let one = get_or_default kernel_table i d blank earlier in
    let other = get_or_default kernel_table j d blank within in
    let named : (get_or kernel_table i blank).name ≡ (get_or kernel_table j blank).name = rw (one, other) at same in
    let there : Some i ≡ Some j =
    sym (position_of_row i earlier)
    ∙ (ap (λ text. position (λ c. bytes_eq c.name text) kernel_table) named ∙ position_of_row j within) in
    let equal : i ≡ j = cc in
    absurd (omega arith)

pub rows_have_their_names : RowsHaveTheirNames
rows_have_their_names row within =
    rw (slice_get-get_or kernel_table row.0 blank within) (ap (option_map row_numbered) (position_of_row row.0 within))

pub names_have_their_rows : NamesHaveTheirRows
names_have_their_rows text = elim (position_cases (λ c. bytes_eq c.name text) kernel_table blank) [
  | inl (i, found, within, passes) ↦
      rw (found, slice_get-get_or kernel_table i blank within) (ap Some ((bytes_eq-Decides _ _).0 passes))
  | inr (none, other) ↦ rw none tt
]

pub others_have_none : OthersHaveNone
others_have_none text = elim (position_cases (λ c. bytes_eq c.name text) kernel_table blank) [
  | inl (i, found, within, passes) ↦ rw found tt
  | inr (none, other) ↦
      rw none
      (All-from_get_or (λ c. c.name ≢ text) kernel_table blank
      (λ k h same. both_ways _ (other k h) ((bytes_eq-Decides _ _).1 same)))
]

entries : at_each (λ k c. is_parameter c.parameters c.entry) ≡ true
unfolding kernel_table
entries = refl

pub entries_are_parameters : EntriesAreParameters
entries_are_parameters =
    All-from_get_or (λ c. IsTrue (is_parameter c.parameters c.entry)) kernel_table blank
    (λ k h. at_row (λ k c. is_parameter c.parameters c.entry) k entries h)

-- whether an op has a call: the index of the first one
first_call : (op : Op) → IsTrue (is_of_calls op) → Any (λ c. c.op ≡ op) kernel_table
unfolding kernel_table
first_call Init h = (0, _, lit< tt, refl, refl)
first_call Disable h = (1, _, lit< tt, refl, refl)
first_call Suspend h = (2, _, lit< tt, refl, refl)
first_call Enable h = (3, _, lit< tt, refl, refl)
first_call Lock h = (4, _, lit< tt, refl, refl)
first_call Unlock h = (5, _, lit< tt, refl, refl)
first_call LockIsr h = (6, _, lit< tt, refl, refl)
first_call UnlockIsr h = (7, _, lit< tt, refl, refl)
first_call Prologue h = (8, _, lit< tt, refl, refl)
first_call Epilogue h = (9, _, lit< tt, refl, refl)
first_call Halt h = (10, _, lit< tt, refl, refl)
first_call Normal h = (11, _, lit< tt, refl, refl)
first_call ExitNormal h = (67, _, lit< tt, refl, refl)
first_call ExitS h = (68, _, lit< tt, refl, refl)
first_call IWakes h = (69, _, lit< tt, refl, refl)
first_call IQuiet h = (88, _, lit< tt, refl, refl)
first_call SSettles h = (102, _, lit< tt, refl, refl)
first_call SWakes h = (106, _, lit< tt, refl, refl)
first_call SPlain h = (107, _, lit< tt, refl, refl)
first_call Free h = (119, _, lit< tt, refl, refl)
first_call GetStatus h = (134, _, lit< tt, refl, refl)
first_call RestoreStatus h = (135, _, lit< tt, refl, refl)
first_call _ h = absurd (cc)

ops : at_each (λ k c. is_of_calls c.op) ≡ true
unfolding kernel_table
ops = refl

of_calls : (op : Op) → Any (λ c. c.op ≡ op) kernel_table → IsTrue (is_of_calls op)
of_calls op (k, c, within, is, has) =
    let here : (get_or kernel_table k blank).op ≡ op =
    ap (λ d. d.op) (get_or_default kernel_table k blank c within ∙ is) ∙ has in
    rw here at (at_row (λ k c. is_of_calls c.op) k ops within)

pub ops_have_calls : OpsHaveCalls
ops_have_calls op = (first_call op, of_calls op)
