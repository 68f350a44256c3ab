-- Worked slots.
use Rattle.std.proofs.Common.{◌≡◌, refl}
use Rattle.std.specs.Prelude.{ℕ, [], ◌∷◌, List, Option, Some, None, codes, map}
use Rattle.std.specs.Str.{bytes_eq}
use Rattle.ck_prog.specs.Declarations.{Entry, latest}
use Rattle.ck_prog.specs.Slots.{Slot, slots, slot_of_name, earliest}
use Rattle.ck_prog.specs.TypedFiles.{ReadFile, declarations}
use Rattle.ck_prog.proofs.ProjectTexts.{File, read_from}

abbrev all_of : Option (List ReadFile) → List Entry
all_of None = []
all_of (Some fs) = declarations fs

abbrev get_files : List File
get_files = ("void ( * get ( void ) ) ( void ) ; void ( * get ( void ) ) ( void ) { return 0 ; }" ∷ []) ∷ []

abbrev all : List Entry
all = all_of (read_from 0 get_files)

abbrev start_of : Option Slot → Option ℕ
start_of None = None
start_of (Some s) = Some s.at.span.start

abbrev slot_meant : Option Entry → Option Slot
slot_meant None = None
slot_meant (Some e) = slot_of_name all e e.meaning

-- the slot of the result is at the name in the definition
result_slots : map (λ s. s.at.span.start) (slots all) ≡ 44 ∷ []
result_slots = refl

-- the definition means that slot
slot_by_definition : start_of (slot_meant (latest (λ e. bytes_eq e.name (codes "get")) all)) ≡ Some 44
slot_by_definition = refl

-- the prototype means that slot
slot_by_prototype : start_of (slot_meant (earliest (λ e. bytes_eq e.name (codes "get")) all)) ≡ Some 44
slot_by_prototype = refl

-- a struct without a tag in the body of another has its members once, also where two files have the header
abbrev header_files : List File
header_files =
    ("struct s { struct { void ( * cb ) ( void ) ; } in ; } ;" ∷ [])
    ∷ ("struct s { struct { void ( * cb ) ( void ) ; } in ; } ;" ∷ [])
    ∷ []

member_slots : map (λ s. s.at.span.file) (slots (all_of (read_from 0 header_files))) ≡ 0 ∷ []
member_slots = refl
