-- What names, members and the results of named functions give, by the rows of a typed project.
use Rattle.std.proofs.Common.{◌≡◌, ◌<◌, ◌≤◌, ℕ, zero, suc, Bool, true, List, [], ◌∷◌, map, length, Option, Some, None}
use Rattle.std.proofs.Common.{refl, sym, ap, ◌∙◌, subst, arith}
use Rattle.std.proofs.lemmas.Bool.{and_parts, ltb-true}
use Rattle.std.proofs.lemmas.Option.{none-some, same_Some}
use Rattle.std.specs.List.{slice_get}
use Rattle.std.specs.Option.{option_map}
use Rattle.ck_base.specs.declared.spans.FnId.{FnId}
use Rattle.ck_base.specs.declared.spans.SlotId.{SlotId}
use Rattle.ck_call_rows.specs.TypedRows.{declarations, number_of_function}
use Rattle.ck_prog.specs.Calls.{function_number, functions_of}
use Rattle.ck_prog.specs.Declarations as plain
use Rattle.ck_prog.specs.Declarations.{Entry, Meaning}
use Rattle.ck_prog.specs.Slots.{Slot, slot_of_name, slot_of_result, slot_of_variable}
use Rattle.ck_prog.specs.TypedBodies.{TypedFunction}
use Rattle.ck_prog.specs.TypedExpressions.{is_function_named}
use Rattle.ck_reaching.specs.Rules.{System}
use Rattle.ck_slots.specs.Givens.{TypedProject}
use Rattle.ck_slots.specs.Holders.{holder, of_slot, slot_of_member_meant}
use Rattle.ck_slots.specs.Origins as origins
use Rattle.ck_slots.specs.Origins.{Origin, Named, Held, held, origin_by, origin_of_member, origin_of_name}
use Rattle.ck_slots.specs.Reaching as reaching
use Rattle.ck_slots.specs.Reaching.{ComesFrom}
use Rattle.ck_origins.specs.Meanings.{IsEmpty}
use Rattle.ck_pointers.specs.ExpressionSources.{AreMeant, AreReady, StandsAlways, project, rows, source_of_function}
use Rattle.ck_pointers.specs.ExpressionSources.{source_of_name}
use Rattle.ck_pointers.specs.ExpressionSources.{source_of_slot, tables}
use Rattle.ck_pointers.specs.Sources.{StandsFor}
use Rattle.ck_pointers.specs.TypedSlots.{AreTyped, slot_named}
use Rattle.ck_pointers.specs.declared.expressions.Callables.{Callables}
use Rattle.ck_pointers.specs.declared.sources.Source.{Source}
use Rattle.ck_pointers.specs.declared.sources.Source.TheVariants.{Nowhere, Function, Cell}
use Rattle.ck_tables.specs.Entries as entries
use Rattle.ck_tables.specs.Numbers.{fits_if_any, function_fits, numbers}
use Rattle.ck_tables.specs.Program.{entry_of, entry_readings, functions, member_of}
use Rattle.ck_tables.specs.ProgramRows.{slot_count, slot_fits, slot_of, slots, use_fits, use_row_fits}
use Rattle.ck_tables.specs.ProgramRows.{act_fits, member_slot_fits, outside_count}
use Rattle.ck_tables.specs.Rows.{IsRow}
use Rattle.ck_tables.specs.declared.entries.EntryInfo.{EntryInfo}
use Rattle.ck_tables.specs.declared.entries.MeaningInfo.{MeaningInfo}
use Rattle.ck_tables.specs.declared.entries.MeaningInfo.TheVariants as meanings
use Rattle.ck_tables.specs.declared.program_rows.UseInfo.{UseInfo}

-- rows ----------------------------------------------------------------------------------------------------------------

pub row_get : {X : Type 0} (xs : List X) (i : ℕ) (x : X) → IsRow xs i x → slice_get xs i ≡ Some x
row_get [] i x row = let h = row.within in absurd (omega (arith, h))
row_get (y ∷ ys) zero x row = ap Some (row.is y)
row_get (y ∷ ys) (suc i) x row = let h = row.within in row_get ys i x (record { within = omega arith; is = row.is })

-- an element of a number that a list has
there_is : {X Y : Type 0} (f : X → Y) (xs : List X) (i : ℕ) → i < length xs → slice_get (map f xs) i ≡ None → ⊥
there_is f [] i below is = absurd (omega (arith, below))
there_is f (x ∷ xs) zero below is = none-some (f x) (sym is)
there_is f (x ∷ xs) (suc i) below is = there_is f xs i (omega (arith, below)) is

nothing_comes : (p : TypedProject) (f : ℕ) (o : Origin) → ComesFrom p f o → o ≡ origins.Nowhere → ⊥
nothing_comes p f o (reaching.ByName e number) is = absurd (cc)
nothing_comes p f o (reaching.ByRead reaches) is = absurd (cc)
nothing_comes p f o (reaching.ByFirst from) is = absurd (cc)
nothing_comes p f o (reaching.BySecond from) is = absurd (cc)
nothing_comes p f o (reaching.ByResult target at reaches) is = absurd (cc)

nowhere_empty : (p : TypedProject) → IsEmpty p origins.Nowhere
nowhere_empty p f from = nothing_comes p f origins.Nowhere from refl

module _ (c : Callables) where
  pub nowhere_stands : StandsAlways c origins.Nowhere Nowhere
  nowhere_stands = record { within = λ s ready. tt; stands = λ m meant. nowhere_empty (project c) }

  -- slots -------------------------------------------------------------------------------------------------------------

  no_slot : (o : Option Slot) → None ≡ o → StandsAlways c (held (holder o)) Nowhere
  no_slot None is = nowhere_stands
  no_slot (Some x) is = absurd (none-some x is)

  slot_at_row : (o : Option Slot) (s : SlotId) → s.0 < slot_count (rows c)
      → slice_get (slots (tables c) (rows c)) s.0 ≡ o
      → StandsAlways c (held (holder o)) (Cell (record { 0 = s.0 }))
  slot_at_row None s below is = absurd (there_is (slot_of (tables c)) (rows c).slots.rows.items s.0 below is)
  slot_at_row (Some x) s below is = record {
    within = λ m ready. let more = ready.cells in omega (arith, below, more);
    stands = λ m meant. meant.cells s.0 x is;
  }

  pub slot_stands : (o : Option Slot) (s : Option SlotId) → fits_if_any (slot_fits (slot_count (rows c))) s ≡ true
      → slot_named (slots (tables c) (rows c)) s ≡ o → StandsAlways c (held (holder o)) (source_of_slot s)
  slot_stands o None fits is = no_slot o is
  slot_stands o (Some s) fits is = slot_at_row o s (ltb-true s.0 (slot_count (rows c)) fits) is

  -- functions ---------------------------------------------------------------------------------------------------------

  module _ (typed : AreTyped (tables c) (rows c)) (e : Entry) where
    number_there : function_number (functions_of (project c).files) e ≡ function_number (functions (tables c)) e
    number_there = ap (λ fs. function_number fs e) typed.slots_are.by_number

    none_comes : None ≡ function_number (functions (tables c)) e → IsEmpty (project c) (Named e)
    none_comes is f (reaching.ByName _ number) = none-some f (is ∙ (sym number_there ∙ number))

    function_stands : (f : Option FnId) → fits_if_any (function_fits (numbers (tables c))) f ≡ true
        → option_map number_of_function f ≡ function_number (functions (tables c)) e
        → StandsAlways c (Named e) (source_of_function f)
    function_stands None fits is = record { within = λ s ready. tt; stands = λ m meant. none_comes is }
    function_stands (Some f) fits is =
        let below = ltb-true f.0 (numbers (tables c)).functions fits in
        record {
          within = λ s ready. let count = ready.functions in omega (arith, below, count);
          stands = λ m meant. (e, refl, number_there ∙ sym is);
        }

  use_parts : (u : UseInfo) → use_row_fits (tables c) (rows c) u ≡ true
      → (fits_if_any (function_fits (numbers (tables c))) u.function ≡ true)
      × (fits_if_any (slot_fits (slot_count (rows c))) u.slot ≡ true)
  unfolding use_fits
  use_parts u fits = and_parts _ _ (and_parts _ _ fits).1

  -- names -------------------------------------------------------------------------------------------------------------

  module _ (typed : AreTyped (tables c) (rows c)) (i : ℕ) (u : UseInfo)
      (there : slice_get (rows c).uses.rows.items i ≡ Some u) (fits : use_row_fits (tables c) (rows c) u ≡ true) where
    all : List Entry
    all = declarations (tables c)

    by_meaning : (m : MeaningInfo) (d : Meaning) → d ≡ entries.plain_meaning (entry_readings (tables c)) m
        → (entry_of (tables c) i).meaning ≡ d
        → StandsAlways c (origin_by (declarations (tables c)) (entry_of (tables c) i) d) (source_of_name u m)
    by_meaning (meanings.Function _ _ _) d is meant =
        subst (λ x. StandsAlways c (origin_by (declarations (tables c)) (entry_of (tables c) i) x)
        (source_of_function u.function)) (sym is)
        (function_stands typed (entry_of (tables c) i) u.function (use_parts u fits).0
        (typed.calls.names i u there).function)
    by_meaning (meanings.Variable _ _ _ _) d is meant =
        let e = entry_of (tables c) i in
        subst (λ x. StandsAlways c (origin_by (declarations (tables c)) (entry_of (tables c) i) x)
        (source_of_slot u.slot)) (sym is)
        (slot_stands (slot_of_variable (declarations (tables c)) e) u.slot (use_parts u fits).1
        (typed.slots_are.names i u there
        ∙ ap (slot_of_name (declarations (tables c)) e) (meant ∙ is)))
    by_meaning _ d is meant =
        subst (λ y. StandsAlways c (origin_by (declarations (tables c)) (entry_of (tables c) i) y) Nowhere) (sym is)
        nowhere_stands

    pub name_stands : (info : EntryInfo)
        → entry_of (tables c) i ≡ entries.plain_entry (entry_readings (tables c)) info
        → StandsAlways c (origin_of_name (declarations (tables c)) (Some (entry_of (tables c) i)))
        (source_of_name u info.meaning)
    name_stands info is =
        by_meaning info.meaning (entry_of (tables c) i).meaning (ap (λ e. e.meaning) is) refl

    of_function : (d : Meaning) → is_function_named d ≡ true
        → slot_of_name (declarations (tables c)) (entry_of (tables c) i) d
        ≡ slot_of_result (declarations (tables c)) (entry_of (tables c) i)
    of_function (plain.FunctionNamed t l d) is = refl
    of_function _ is = absurd (cc)

    pub result_stands : is_function_named (entry_of (tables c) i).meaning ≡ true
        → StandsAlways c (held (holder (slot_of_result (declarations (tables c)) (entry_of (tables c) i))))
        (source_of_slot u.slot)
    result_stands is =
        slot_stands (slot_of_result (declarations (tables c)) (entry_of (tables c) i)) u.slot (use_parts u fits).1
        (typed.slots_are.names i u there ∙ of_function (entry_of (tables c) i).meaning is)

  -- members -----------------------------------------------------------------------------------------------------------

  pub member_stands : AreTyped (tables c) (rows c) → (i : ℕ) (s : Option SlotId)
      → IsRow (rows c).member_slots.rows.items i s → member_slot_fits (slot_count (rows c)) s ≡ true
      → StandsAlways c (origin_of_member (declarations (tables c)) (Some (member_of (tables c) i))) (source_of_slot s)
  unfolding member_slot_fits
  member_stands typed i s row fits =
      slot_stands (slot_of_member_meant (declarations (tables c)) (member_of (tables c) i)) s fits
      (typed.slots_are.members i s (row_get (rows c).member_slots.rows.items i s row))
