-- A row of a table whose rows fit fits, and stands for what its table's row of its number stands for.
use Rattle.std.proofs.Common.{◌≡◌, ℕ, zero, suc, ◌<◌, List, [], ◌∷◌, length, map, refl, ap, subst, ◌∙◌, arith}
use Rattle.std.specs.Prelude.{Bool, true, false, ◌&&◌, Option}
use Rattle.std.specs.List.{list_all}
use Rattle.ck_base.specs.declared.spans.SlotId.{SlotId}
use Rattle.ck_tables.specs.Entries.{plain_entry}
use Rattle.ck_tables.specs.Numbers.{numbers, all_hold, closed_tests, is_closed, member_row_fits, entry_row_fits}
use Rattle.ck_tables.specs.Numbers.{expression_node_fits, initialiser_node_fits, declaration_row_fits}
use Rattle.ck_tables.specs.Numbers.{statement_node_fits, body_fits, entry_fits}
use Rattle.ck_tables.specs.Program.{read, no_entry, entry_readings, entry_of, functions, plain_body}
use Rattle.ck_tables.specs.ProgramRows.{row_tests, are_rows, call_fits, call_of, IsCall, slot_row_fits, slot_of, IsSlot}
use Rattle.ck_tables.specs.ProgramRows.{outside_name, IsOutside, use_row_fits, member_slot_fits, slot_count}
use Rattle.ck_tables.specs.ProgramRows.{struct_row_fits, members_of, struct_members, members_fit, status_fits}
use Rattle.ck_tables.specs.ProgramRows.{outside_fits, function_name, function_names}
use Rattle.ck_tables.specs.Rows.{IsRow}
use Rattle.ck_tables.specs.Tables.{nth}
use Rattle.ck_tables.specs.declared.entries.EntryInfo.{EntryInfo}
use Rattle.ck_tables.specs.declared.entries.MemberInfo.{MemberInfo}
use Rattle.ck_tables.specs.declared.exprs.ExprNode.{ExprNode}
use Rattle.ck_tables.specs.declared.facts.EntryId.{EntryId}
use Rattle.ck_tables.specs.declared.inits.InitNode.{InitNode}
use Rattle.ck_tables.specs.declared.program.Body.{Body}
use Rattle.ck_tables.specs.declared.program.Linked.{Linked}
use Rattle.ck_tables.specs.declared.program.SlotInfo.{SlotInfo}
use Rattle.ck_tables.specs.declared.program_rows.CallInfo.{CallInfo}
use Rattle.ck_tables.specs.declared.program_rows.OutsideInfo.{OutsideInfo}
use Rattle.ck_tables.specs.declared.program_rows.ProgramRows.{ProgramRows}
use Rattle.ck_tables.specs.declared.program_rows.StructInfo.{StructInfo}
use Rattle.ck_tables.specs.declared.program_rows.UseInfo.{UseInfo}
use Rattle.ck_tables.specs.declared.stmts.Declaration.{Declaration}
use Rattle.ck_tables.specs.declared.stmts.StmtNode.{StmtNode}

-- tests ---------------------------------------------------------------------------------------------------------------

first : (a b : Bool) → (a && b) ≡ true → a ≡ true
first true b h = refl
first false b h = h

second : (a b : Bool) → (a && b) ≡ true → b ≡ true
second true b h = h
second false b h = grind arith

holds : (tests : List Bool) (i : ℕ) → all_hold tests ≡ true → nth true tests i ≡ true
holds [] i h = refl
holds (test ∷ tests) zero h = first test (all_hold tests) h
holds (test ∷ tests) (suc i) h = holds tests i (second test (all_hold tests) h)

-- rows ----------------------------------------------------------------------------------------------------------------

module _ {X : Type 0} where
  fits-at : (test : X → Bool) (xs : List X) (i : ℕ) (x : X) → list_all test xs ≡ true → IsRow xs i x → test x ≡ true
  fits-at test [] i x all row = let h = row.within in grind arith
  fits-at test (y ∷ ys) zero x all row = subst (λ z. test z ≡ true) (row.is y) (first (test y) (list_all test ys) all)
  fits-at test (y ∷ ys) (suc i) x all row =
      let h = row.within in
      let later : IsRow ys i x = record { within = omega arith; is = row.is } in
      fits-at test ys i x (second (test y) (list_all test ys) all) later

  pub row-mapped : {Y : Type 0} (f : X → Y) (xs : List X) (i : ℕ) (x : X) → IsRow xs i x → IsRow (map f xs) i (f x)
  row-mapped f [] i x row = let h = row.within in grind arith
  row-mapped f (y ∷ ys) zero x row = record { within = omega arith; is = λ d. ap f (row.is y) }
  row-mapped f (y ∷ ys) (suc i) x row =
      let h = row.within in
      let earlier : IsRow ys i x = record { within = omega arith; is = row.is } in
      let later = row-mapped f ys i x earlier in
      let less = later.within in
      record { within = omega arith; is = later.is }

  read-row : {Y : Type 0} (none : Y) (plain : X → Y) (xs : List X) (i : ℕ) (x : X) → IsRow xs i x
      → read none plain xs i ≡ plain x
  read-row none plain [] i x row = let h = row.within in grind arith
  read-row none plain (y ∷ ys) zero x row = ap plain (row.is y)
  read-row none plain (y ∷ ys) (suc i) x row =
      let h = row.within in
      let earlier : IsRow ys i x = record { within = omega arith; is = row.is } in
      read-row none plain ys i x earlier

  pub length_mapped : {Y : Type 0} (f : X → Y) (xs ys : List X) → ys ≡ xs → length ys ≡ length (map f xs)
  length_mapped f [] ys same = ap length same
  length_mapped f (x ∷ xs) ys same = ap length same ∙ ap suc (length_mapped f xs xs refl)

-- linked tables -----------------------------------------------------------------------------------------------------

module _ (l : Linked) where
  closed-at : (i : ℕ) → is_closed l ≡ true → nth true (closed_tests l) i ≡ true
  unfolding is_closed
  closed-at i h = holds (closed_tests l) i h

  pub member_of_closed : (i : ℕ) (m : MemberInfo) → is_closed l ≡ true → IsRow l.members.rows.items i m
      → member_row_fits (numbers l) m ≡ true
  member_of_closed i m h row = fits-at (member_row_fits (numbers l)) l.members.rows.items i m (closed-at 1 h) row

  pub entry_of_closed : (i : ℕ) (e : EntryInfo) → is_closed l ≡ true → IsRow l.entries.rows.items i e
      → entry_row_fits (numbers l) e ≡ true
  entry_of_closed i e h row = fits-at (entry_row_fits (numbers l)) l.entries.rows.items i e (closed-at 2 h) row

  pub expression_of_closed : (i : ℕ) (x : ExprNode) → is_closed l ≡ true → IsRow l.exprs i x
      → expression_node_fits (numbers l) x ≡ true
  expression_of_closed i x h row = fits-at (expression_node_fits (numbers l)) l.exprs i x (closed-at 3 h) row

  pub initialiser_of_closed : (i : ℕ) (x : InitNode) → is_closed l ≡ true → IsRow l.inits i x
      → initialiser_node_fits (numbers l) x ≡ true
  initialiser_of_closed i x h row = fits-at (initialiser_node_fits (numbers l)) l.inits i x (closed-at 4 h) row

  pub declaration_of_closed : (i : ℕ) (d : Declaration) → is_closed l ≡ true → IsRow l.declarations.rows.items i d
      → declaration_row_fits (numbers l) d ≡ true
  declaration_of_closed i d h row =
      fits-at (declaration_row_fits (numbers l)) l.declarations.rows.items i d (closed-at 5 h) row

  pub statement_of_closed : (i : ℕ) (s : StmtNode) → is_closed l ≡ true → IsRow l.stmts i s
      → statement_node_fits (numbers l) s ≡ true
  statement_of_closed i s h row = fits-at (statement_node_fits (numbers l)) l.stmts i s (closed-at 6 h) row

  pub body_of_closed : (i : ℕ) (b : Body) → is_closed l ≡ true → IsRow l.bodies.rows.items i b
      → body_fits (numbers l) b ≡ true
  body_of_closed i b h row = fits-at (body_fits (numbers l)) l.bodies.rows.items i b (closed-at 7 h) row

  -- the declaration of a function's name
  pub name_of_body : (b : Body) → body_fits (numbers l) b ≡ true → b.declared.entry.0 < length l.entries.rows.items
  unfolding body_fits
  name_of_body b h = let less = first (entry_fits (numbers l) b.declared.entry) _ h in grind (arith, less)

  pub entry_is : (i : ℕ) (e : EntryInfo) → IsRow l.entries.rows.items i e
      → entry_of l i ≡ plain_entry (entry_readings l) e
  entry_is i e row = read-row no_entry (plain_entry (entry_readings l)) l.entries.rows.items i e row

  pub function_is : (i : ℕ) (b : Body) → IsRow l.bodies.rows.items i b → IsRow (functions l) i (plain_body l b)
  function_is i b row = row-mapped (plain_body l) l.bodies.rows.items i b row

  pub function_name_is : (i : ℕ) (b : Body) → IsRow l.bodies.rows.items i b
      → IsRow (function_names l) i (entry_of l b.declared.entry.0).at
  function_name_is i b row = row-mapped function_name (functions l) i (plain_body l b) (function_is i b row)

-- rows of numbers -----------------------------------------------------------------------------------------------------

module _ (l : Linked) (r : ProgramRows) where
  rows-at : (i : ℕ) → are_rows l r ≡ true → nth true (row_tests l r) i ≡ true
  unfolding are_rows
  rows-at i h = holds (row_tests l r) i h

  pub as_many_uses : are_rows l r ≡ true → length r.uses.rows.items ≡ length l.entries.rows.items
  as_many_uses h = let e = rows-at 0 h in grind (arith, e)

  pub as_many_member_slots : are_rows l r ≡ true → length r.member_slots.rows.items ≡ length l.members.rows.items
  as_many_member_slots h = let e = rows-at 1 h in grind (arith, e)

  pub as_many_structs : are_rows l r ≡ true → length r.structs.rows.items ≡ length l.structs.rows.items
  as_many_structs h = let e = rows-at 2 h in grind (arith, e)

  pub as_many_statuses : are_rows l r ≡ true → length r.statuses.rows.items ≡ length l.bodies.rows.items
  as_many_statuses h = let e = rows-at 3 h in grind (arith, e)

  pub call_of_rows : (i : ℕ) (c : CallInfo) → are_rows l r ≡ true → IsRow r.calls.rows.items i c
      → call_fits l c ≡ true
  call_of_rows i c h row = fits-at (call_fits l) r.calls.rows.items i c (rows-at 4 h) row

  pub slot_of_rows : (i : ℕ) (s : SlotInfo) → are_rows l r ≡ true → IsRow r.slots.rows.items i s
      → slot_row_fits (numbers l) s ≡ true
  slot_of_rows i s h row = fits-at (slot_row_fits (numbers l)) r.slots.rows.items i s (rows-at 5 h) row

  pub use_of_rows : (i : ℕ) (u : UseInfo) → are_rows l r ≡ true → IsRow r.uses.rows.items i u
      → use_row_fits l r u ≡ true
  use_of_rows i u h row = fits-at (use_row_fits l r) r.uses.rows.items i u (rows-at 6 h) row

  pub member_slot_of_rows : (i : ℕ) (s : Option SlotId) → are_rows l r ≡ true → IsRow r.member_slots.rows.items i s
      → member_slot_fits (slot_count r) s ≡ true
  member_slot_of_rows i s h row =
      fits-at (member_slot_fits (slot_count r)) r.member_slots.rows.items i s (rows-at 7 h) row

  pub members_of_rows : (i : ℕ) (s : StructInfo) → are_rows l r ≡ true → IsRow r.structs.rows.items i s
      → members_fit (numbers l) s.members.items ≡ true
  members_of_rows i s h row = fits-at (struct_row_fits (numbers l)) r.structs.rows.items i s (rows-at 8 h) row

  pub status_of_rows : (i : ℕ) (e : Option EntryId) → are_rows l r ≡ true → IsRow r.statuses.rows.items i e
      → status_fits (numbers l) e ≡ true
  status_of_rows i e h row = fits-at (status_fits (numbers l)) r.statuses.rows.items i e (rows-at 9 h) row

  pub outside_of_rows : (i : ℕ) (o : OutsideInfo) → are_rows l r ≡ true → IsRow r.outside.rows.items i o
      → outside_fits (numbers l) o ≡ true
  outside_of_rows i o h row = fits-at (outside_fits (numbers l)) r.outside.rows.items i o (rows-at 10 h) row

  pub call_is : (i : ℕ) (c : CallInfo) → IsRow r.calls.rows.items i c → IsCall l r i c
  call_is i c row = row-mapped (call_of l) r.calls.rows.items i c row

  pub outside_is : (i : ℕ) (o : OutsideInfo) → IsRow r.outside.rows.items i o → IsOutside l r i o
  outside_is i o row = row-mapped (outside_name l) r.outside.rows.items i o row

  pub slot_is : (i : ℕ) (s : SlotInfo) → IsRow r.slots.rows.items i s → IsSlot l r i s
  slot_is i s row = row-mapped (slot_of l) r.slots.rows.items i s row

pub struct_members_are : (r : ProgramRows) (i : ℕ) (s : StructInfo) → IsRow r.structs.rows.items i s
    → IsRow (struct_members r) i s.members.items
struct_members_are r i s row = row-mapped members_of r.structs.rows.items i s row
