-- The rules of WorkedModel model a project that is read from its text.
use Rattle.std.proofs.Common.{◌≡◌, ℕ, Bool, true, false, List, [], ◌∷◌, map, length, get_or, Option, Some, None}
use Rattle.std.proofs.Common.{refl, sym, ap, ap₂, subst, arith}
use Rattle.std.specs.List.{AllZip}
use Rattle.std.proofs.lemmas.Option.{none-some}
use Rattle.std.specs.declared.alloc.Global.{Global}
use Rattle.std.specs.declared.vec.Vec.{Vec}
use Rattle.ck_kernel.specs.KernelTable.{kernel_table}
use Rattle.ck_prog.specs.Calls.{function_number}
use Rattle.ck_prog.specs.Declarations.{Entry}
use Rattle.ck_prog.specs.Slots.{slots}
use Rattle.ck_prog.specs.TypedFiles.{ReadFile, declarations, typed_files}
use Rattle.ck_prog.proofs.ProjectTexts.{read_from}
use Rattle.ck_reaching.specs.declared.rules.Callee.{Callee}
use Rattle.ck_reaching.specs.declared.rules.CellId.{CellId}
use Rattle.ck_slots.specs.Givens.{TypedProject, Given, calls_through, functions, givens}
use Rattle.ck_slots.specs.Holders.{Holder, InSlot, ThreadSink, of_slot}
use Rattle.ck_slots.specs.Origins.{Origin, Nowhere, Named, Either}
use Rattle.ck_origins.specs.CalleeRules.{HasCell, IsCalleeOf}
use Rattle.ck_origins.specs.Modelling.{Models, slot_cell}
use Rattle.ck_origins.proofs.Passing.{gift}
use Rattle.ck_origins.proofs.WorkedModel.{meanings, models, rules}

abbrev of_files : Option (List ReadFile) → TypedProject
of_files None = record { all = []; files = [] }
of_files (Some fs) = record { all = declarations fs; files = typed_files fs }

project : TypedProject
unfolding kernel_table
project =
    of_files (read_from 0
    (("void a ( void ) { } void b ( void ) { } void ( * p ) ( void ) ; void use ( int n ) { p = n ? a : b ; }" ∷ [])
    ∷ []))

-- what is given, in short --------------------------------------------------------------------------------------------

abbrev holder_of : Given → Holder
holder_of g = g.to

abbrev is_nowhere : Origin → Bool
is_nowhere Nowhere = true
is_nowhere _ = false

abbrev comes_from_nowhere : Given → Bool
comes_from_nowhere g = is_nowhere g.from

-- the numbers of two functions of which one is given
abbrev first_number : TypedProject → Origin → Option ℕ
first_number p (Either (Named a) (Named b)) = function_number (functions p) a
first_number p _ = None

abbrev second_number : TypedProject → Origin → Option ℕ
second_number p (Either (Named a) (Named b)) = function_number (functions p) b
second_number p _ = None

abbrev first_of : TypedProject → Given → Option ℕ
first_of p g = first_number p g.from

abbrev second_of : TypedProject → Given → Option ℕ
second_of p g = second_number p g.from

-- as it says of what is given ----------------------------------------------------------------------------------------

record AreNames (p : TypedProject) (o : Origin) (n m : ℕ) : Type 0 where
  first : Entry
  second : Entry
  is : o ≡ Either (Named first) (Named second)
  of_first : function_number (functions p) first ≡ Some n
  of_second : function_number (functions p) second ≡ Some m

names : (p : TypedProject) (o : Origin) (n m : ℕ) → first_number p o ≡ Some n → second_number p o ≡ Some m
    → AreNames p o n m
names p (Either (Named a) (Named b)) n m first second =
    record { first = a; second = b; is = refl; of_first = first; of_second = second }
names p _ n m first second = absurd (none-some n first)

nowhere : (o : Origin) → is_nowhere o ≡ true → o ≡ Nowhere
nowhere Nowhere is = refl
nowhere _ is = absurd (cc)

record IsGiven (p : TypedProject) (gs : List Given) (h : Holder) : Type 0 where
  a : Entry
  b : Entry
  is : gs ≡ gift ThreadSink Nowhere ∷ gift h (Either (Named a) (Named b)) ∷ []
  of_a : function_number (functions p) a ≡ Some 0
  of_b : function_number (functions p) b ≡ Some 1

all_given : (p : TypedProject) (gs : List Given) (h : Holder) → map holder_of gs ≡ ThreadSink ∷ h ∷ []
    → map comes_from_nowhere gs ≡ true ∷ false ∷ [] → map (first_of p) gs ≡ None ∷ Some 0 ∷ []
    → map (second_of p) gs ≡ None ∷ Some 1 ∷ [] → IsGiven p gs h
all_given p [] h to from first second = let count = ap length to in absurd (omega (arith, count))
all_given p (x ∷ []) h to from first second = let count = ap length to in absurd (omega (arith, count))
all_given p (x ∷ y ∷ []) h to from first second =
    let are = names p y.from 0 1 (ap (λ ns. get_or ns 1 None) first) (ap (λ ns. get_or ns 1 None) second) in
    let none : x ≡ gift ThreadSink Nowhere =
    ap₂ gift (ap (λ hs. get_or hs 0 h) to) (nowhere x.from (ap (λ bs. get_or bs 0 false) from)) in
    let one : y ≡ gift h (Either (Named are.first) (Named are.second)) =
    ap₂ gift (ap (λ hs. get_or hs 1 h) to) are.is in
    record {
      a = are.first;
      b = are.second;
      is = ap₂ (λ u v. u ∷ v ∷ []) none one;
      of_a = are.of_first;
      of_b = are.of_second;
    }
all_given p (x ∷ y ∷ z ∷ gs) h to from first second = let count = ap length to in absurd (omega (arith, count))

-- computed -----------------------------------------------------------------------------------------------------------

given : IsGiven project (givens project) (InSlot 0 49)
unfolding project kernel_table
given = all_given project (givens project) (InSlot 0 49) refl refl refl refl

no_calls : calls_through project ≡ []
unfolding project kernel_table
no_calls = refl

numbers : map (slot_cell project) (slots project.all) ≡ 0 ∷ []
unfolding project kernel_table
numbers = refl

holders : map of_slot (slots project.all) ≡ InSlot 0 49 ∷ []
unfolding project kernel_table
holders = refl

-- the cells of functions of which none has a parameter with a slot
module _ (none one : Vec (Option CellId) Global) (is_none : none.items ≡ []) (is_one : one.items ≡ None ∷ []) where
  callee : Vec (Option CellId) Global → Callee
  callee parameters = record { parameters = parameters; result = None }

  callees : List Callee
  callees = callee none ∷ callee none ∷ callee one ∷ []

  fit : (a b : Entry) → AllZip (IsCalleeOf project (meanings 0 49 a b)) (functions project) callees
  unfolding project kernel_table callees callee
  fit a b =
      let m = meanings 0 49 a b in
      let empty : AllZip (HasCell m) [] none.items = subst (AllZip (HasCell m) []) (sym is_none) tt in
      let single : AllZip (HasCell m) (None ∷ []) one.items =
      subst (AllZip (HasCell m) (None ∷ [])) (sym is_one) (tt, tt) in (
        record { parameters = empty; outcome = tt },
        (record { parameters = empty; outcome = tt }, (record { parameters = single; outcome = tt }, tt)),
      )

  modelled : Models project (meanings 0 49 given.a given.b)
      (rules project 0 49 given.a given.b given.is no_calls given.of_a given.of_b numbers holders callees
      (fit given.a given.b))
  modelled =
      models project 0 49 given.a given.b given.is no_calls given.of_a given.of_b numbers holders callees
      (fit given.a given.b)
