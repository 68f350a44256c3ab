-- The slots of a project that is read from its text, by hand: a variable, a member and a parameter, each at its number,
-- and which of its names have them.
use Rattle.std.proofs.Common.{◌≡◌, ℕ, zero, suc, List, [], ◌∷◌, map, length, reverse, Option, Some, None, refl, sym, ap}
use Rattle.std.proofs.Common.{◌∙◌, subst, arith}
use Rattle.std.proofs.lemmas.List.Elements.{All-cons, All-contains, All-nil}
use Rattle.std.proofs.lemmas.Option.{none-some, same_Some}
use Rattle.std.specs.List.{All, Contains, slice_get, slice_index_or}
use Rattle.std.specs.Option.{option_map}
use Rattle.ck_kernel.specs.KernelTable.{kernel_table}
use Rattle.ck_prog.specs.Declarations.{Entry}
use Rattle.ck_prog.specs.Slots.{OfVariable, Slot, slot_number, slot_of_name, slots}
use Rattle.ck_prog.specs.TypedFiles.{ReadFile, declarations, typed_files}
use Rattle.ck_prog.proofs.ProjectTexts.{read_from}
use Rattle.ck_pointers.specs.TypedSlots.{AreSlots}
use Rattle.ck_slots.specs.Givens.{TypedProject}
use Rattle.ck_tables.specs.ExprTable.{no_token}

abbrev of_files : Option (List ReadFile) → TypedProject
of_files None = record { all = []; files = [] }
of_files (Some fs) = record { all = declarations fs; files = typed_files fs }

project : TypedProject
unfolding kernel_table
project =
    of_files (read_from 0
    (("void ( * p ) ( void ) ; struct s { void ( * m ) ( void ) ; } ; void set ( void ( * f ) ( void ) ) { p = f ; }"
    ∷ []) ∷ []))

-- the latest comes first in the list of slots, and last in their order
abbrev rows : List Slot
rows = reverse (slots project.all)

numbers : map (slot_number (slots project.all)) rows ≡ 0 ∷ 1 ∷ 2 ∷ []
unfolding kernel_table project
numbers = refl

-- the number of what a declaration names
abbrev number_named : Entry → Option ℕ
number_named e = option_map (slot_number (slots project.all)) (slot_of_name project.all e e.meaning)

names : map number_named (reverse project.all) ≡ Some 0 ∷ None ∷ Some 1 ∷ None ∷ None ∷ None ∷ Some 2 ∷ []
unfolding kernel_table project
names = refl

-- as it is said of a project's rows -----------------------------------------------------------------------------------

module _ (all : List Entry) (a b d : Slot) (are : slots all ≡ d ∷ b ∷ a ∷ []) (first : slot_number (slots all) a ≡ 0)
    (second : slot_number (slots all) b ≡ 1) (third : slot_number (slots all) d ≡ 2) where
  found : (i : ℕ) (x s : Slot) → x ≡ s → Contains (d ∷ b ∷ a ∷ []) x → slot_number (slots all) x ≡ i
      → Contains (slots all) s × (slot_number (slots all) s ≡ i)
  found i x s same there number = (
    subst (λ ys. Contains ys s) (sym are) (subst (Contains (d ∷ b ∷ a ∷ [])) same there),
    ap (slot_number (slots all)) (sym same) ∙ number,
  )

  at_numbers : (i : ℕ) (s : Slot) → slice_get (a ∷ b ∷ d ∷ []) i ≡ Some s
      → Contains (slots all) s × (slot_number (slots all) s ≡ i)
  at_numbers zero s is = found 0 a s (same_Some a s is) (2, omega arith, refl) first
  at_numbers (suc zero) s is = found 1 b s (same_Some b s is) (1, omega arith, refl) second
  at_numbers (suc (suc zero)) s is = found 2 d s (same_Some d s is) (0, omega arith, refl) third
  at_numbers (suc (suc (suc i))) s is = absurd (none-some s is)

  there_too : All (Contains (a ∷ b ∷ d ∷ [])) (d ∷ b ∷ a ∷ [])
  there_too =
      All-cons (Contains (a ∷ b ∷ d ∷ [])) d (b ∷ a ∷ []) (2, omega arith, refl)
      (All-cons (Contains (a ∷ b ∷ d ∷ [])) b (a ∷ []) (1, omega arith, refl)
      (All-cons (Contains (a ∷ b ∷ d ∷ [])) a [] (0, omega arith, refl) (All-nil (Contains (a ∷ b ∷ d ∷ [])))))

  are_slots : AreSlots all (a ∷ b ∷ d ∷ [])
  are_slots = record {
    count = sym (ap length are);
    each = λ s there.
        All-contains (Contains (a ∷ b ∷ d ∷ [])) (d ∷ b ∷ a ∷ []) s there_too (subst (λ ys. Contains ys s) are there);
    at_numbers = at_numbers;
  }

abbrev row : ℕ → Slot
row i = slice_index_or rows i (record { of = OfVariable; at = no_token })

worked : AreSlots project.all (row 0 ∷ row 1 ∷ row 2 ∷ [])
unfolding kernel_table project
worked = are_slots project.all (row 0) (row 1) (row 2) refl refl refl refl
