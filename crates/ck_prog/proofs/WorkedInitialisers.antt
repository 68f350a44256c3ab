-- Worked initialisers: the path and the type of each value, and what is in an object, computed on the definitions.
use Rattle.std.proofs.Common.{◌≡◌, refl}
use Rattle.std.specs.Prelude.{ℕ, ℤ, Bool, true, false, ◌&&◌, List, [], ◌∷◌, map, Option, Some, None, pos, if◌then◌else◌}
use Rattle.std.specs.Prelude.{codes}
use Rattle.std.specs.Option.{is_some}
use Rattle.std.specs.Str.{bytes_eq}
use Rattle.ck_types.specs.Types.{CType, Pointer, Array, Struct, ByTag}
use Rattle.ck_prog.specs.Senses.{Constancy, Known}
use Rattle.ck_prog.specs.TypeClasses.{plain, int, char}
use Rattle.ck_prog.specs.TypedBodies as bodies
use Rattle.ck_prog.specs.TypedBodies.{TypedFile, TypedExternal, TypedDeclarators, TypedDeclaration}
use Rattle.ck_prog.specs.TypedFiles.{ReadFile, typed_files}
use Rattle.ck_prog.specs.TypedInitialisers.{InitialisedPart, parts}
use Rattle.ck_prog.specs.TypedTrees.{Typed, facts}
use Rattle.ck_prog.proofs.ProjectTexts.{File, read_from}
use Prim.Native.String.{String}

abbrev files_or_nothing : Option (List ReadFile) → List ReadFile
files_or_nothing None = []
files_or_nothing (Some fs) = fs

abbrev typed : List File → List TypedFile
typed fs = typed_files (files_or_nothing (read_from 0 fs))

abbrev parts_given : Option bodies.TypedInitialiser → List InitialisedPart
parts_given None = []
parts_given (Some i) = parts i

abbrev parts_of_first : TypedDeclarators → List InitialisedPart
parts_of_first bodies.NoDeclared = []
parts_of_first (bodies.Declared written f i rest) = parts_given i

abbrev parts_in_declaration : TypedDeclaration → List InitialisedPart
parts_in_declaration (bodies.Declaration first written ds) = parts_of_first ds

abbrev parts_in_last : List TypedExternal → List InitialisedPart
parts_in_last [] = []
parts_in_last (bodies.FileDeclaration d ∷ []) = parts_in_declaration d
parts_in_last (x ∷ xs) = parts_in_last xs

abbrev parts_in_files : List TypedFile → List InitialisedPart
parts_in_files [] = []
parts_in_files (f ∷ fs) = parts_in_last f.externals

-- of the initialiser in the last declaration
abbrev initialised : String → List InitialisedPart
initialised line = parts_in_files (typed ((line ∷ []) ∷ []))

-- the path of each value, and its type
abbrev placed : List InitialisedPart → List (List ℕ × Option CType)
placed [] = []
placed (i ∷ is) = if is_some i.value then (i.object.path, i.object.type) ∷ placed is else placed is

-- what is in an object of integers, at these paths, after its initialiser
abbrev known_value : Constancy → ℤ → ℤ
known_value (Known v) other = v
known_value _ other = other

abbrev value_by : Option Typed → ℤ
value_by None = pos 0
value_by (Some x) = known_value (facts x).sense.constancy (pos 0)

abbrev begins_with : List ℕ → List ℕ → Bool
begins_with [] path = true
begins_with (k ∷ ks) [] = false
begins_with (k ∷ ks) (n ∷ ns) = bytes_eq (k ∷ []) (n ∷ []) && begins_with ks ns

abbrev value_after : ℤ → List ℕ → List InitialisedPart → ℤ
value_after v path [] = v
value_after v path (i ∷ is) = value_after (if begins_with i.object.path path then value_by i.value else v) path is

abbrev values : String → List (List ℕ) → List ℤ
values line paths = map (λ path. value_after (pos 0) path (initialised line)) paths

-- 6.7.8, example 3: rows with and without braces
rows : placed (initialised "int y [ 4 ] [ 3 ] = { { 1 , 3 } , 2 , 4 , 6 , [ 3 ] = { 7 } } ;")
    ≡ (0 ∷ 0 ∷ [], Some int) ∷ (0 ∷ 1 ∷ [], Some int) ∷ (1 ∷ 0 ∷ [], Some int) ∷ (1 ∷ 1 ∷ [], Some int)
    ∷ (1 ∷ 2 ∷ [], Some int) ∷ (3 ∷ 0 ∷ [], Some int) ∷ []
rows = refl

-- 6.7.8, example 10: a struct of arrays in an array
nested : placed (initialised "struct { int a [ 3 ] , b ; } w [ ] = { { 1 } , 2 } ;")
    ≡ (0 ∷ 0 ∷ 0 ∷ [], Some int) ∷ (1 ∷ 0 ∷ 0 ∷ [], Some int) ∷ []
nested = refl

-- a string for a row, a character, a pointer
strings : placed (initialised "struct { char s [ 4 ] ; char c ; const char * p ; } w = { \"ab\" , 'c' , \"d\" } ;")
    ≡ (0 ∷ [], Some (Array plain char (Some 4))) ∷ (1 ∷ [], Some char)
    ∷ (2 ∷ [], Some (Pointer (record { constant = true; volatile = false }) char)) ∷ []
strings = refl

-- after a designated part comes the next one around it
designated : placed (initialised
    "struct t { struct { int a , b ; } p [ 2 ] ; int q ; } w = { . p [ 1 ] . b = 3 , 4 , . p = { 1 } } ;")
    ≡ (0 ∷ 1 ∷ 1 ∷ [], Some int) ∷ (1 ∷ [], Some int) ∷ (0 ∷ 0 ∷ 0 ∷ [], Some int) ∷ []
designated = refl

-- a part of an incomplete type isn't gone into, and the next value is for the part after it
incomplete_part : placed (initialised
    "struct s { int n ; int a [ ] ; } ; struct { struct s b ; int c ; } x = { 1 , 2 } ;")
    ≡ (0 ∷ [], Some (Struct (ByTag (codes "s")))) ∷ (1 ∷ [], Some int) ∷ []
incomplete_part = refl

complete_part : placed (initialised
    "struct s { int n ; int a [ 1 ] ; } ; struct { struct s b ; int c ; } x = { 1 , 2 } ;")
    ≡ (0 ∷ 0 ∷ [], Some int) ∷ (0 ∷ 1 ∷ 0 ∷ [], Some int) ∷ []
complete_part = refl

-- integers in arrays and structs, with left-out braces, designators and both: what is at each path (6.7.8). Compilers
-- give the same.
mixed_1 : values "int w [ 3 ] = { [ 0 ] = 1 , [ 0 ] = { 2 } , 3 , [ 0 ] = 4 } ;"
    ((0 ∷ []) ∷ (1 ∷ []) ∷ (2 ∷ []) ∷ [])
    ≡ pos 4 ∷ pos 3 ∷ pos 0 ∷ []
mixed_1 = refl

mixed_2 : values "struct { int m0 ; } w [ 2 ] [ 3 ] = { 1 , [ 0 ] [ 0 ] . m0 = 2 } ;"
    ((0 ∷ 0 ∷ 0 ∷ []) ∷ (0 ∷ 1 ∷ 0 ∷ []) ∷ (0 ∷ 2 ∷ 0 ∷ []) ∷ (1 ∷ 0 ∷ 0 ∷ []) ∷ (1 ∷ 1 ∷ 0 ∷ [])
    ∷ (1 ∷ 2 ∷ 0 ∷ []) ∷ [])
    ≡ pos 2 ∷ pos 0 ∷ pos 0 ∷ pos 0 ∷ pos 0 ∷ pos 0 ∷ []
mixed_2 = refl

mixed_3 : values "int w [ 2 ] [ 2 ] = { 1 , [ 0 ] [ 0 ] = 2 , [ 1 ] = { 3 , 4 , 5 } } ;"
    ((0 ∷ 0 ∷ []) ∷ (0 ∷ 1 ∷ []) ∷ (1 ∷ 0 ∷ []) ∷ (1 ∷ 1 ∷ []) ∷ [])
    ≡ pos 2 ∷ pos 0 ∷ pos 3 ∷ pos 4 ∷ []
mixed_3 = refl

mixed_4 : values "struct { int m0 [ 2 ] ; } w [ ] = { [ 0 ] . m0 = { [ 1 ] = 1 } } ;"
    ((0 ∷ 0 ∷ 0 ∷ []) ∷ (0 ∷ 0 ∷ 1 ∷ []) ∷ [])
    ≡ pos 0 ∷ pos 1 ∷ []
mixed_4 = refl

mixed_5 : values "struct { int m0 [ 3 ] [ 2 ] ; } w = { . m0 [ 1 ] [ 0 ] = 1 , 2 , 3 , 4 } ;"
    ((0 ∷ 0 ∷ 0 ∷ []) ∷ (0 ∷ 0 ∷ 1 ∷ []) ∷ (0 ∷ 1 ∷ 0 ∷ []) ∷ (0 ∷ 1 ∷ 1 ∷ []) ∷ (0 ∷ 2 ∷ 0 ∷ [])
    ∷ (0 ∷ 2 ∷ 1 ∷ []) ∷ [])
    ≡ pos 0 ∷ pos 0 ∷ pos 1 ∷ pos 2 ∷ pos 3 ∷ pos 4 ∷ []
mixed_5 = refl

mixed_6 : values "int w [ 2 ] [ 3 ] = { [ 0 ] = 1 , [ 0 ] = 2 , 3 , [ 1 ] [ 0 ] = 4 } ;"
    ((0 ∷ 0 ∷ []) ∷ (0 ∷ 1 ∷ []) ∷ (0 ∷ 2 ∷ []) ∷ (1 ∷ 0 ∷ []) ∷ (1 ∷ 1 ∷ []) ∷ (1 ∷ 2 ∷ []) ∷ [])
    ≡ pos 2 ∷ pos 3 ∷ pos 0 ∷ pos 4 ∷ pos 0 ∷ pos 0 ∷ []
mixed_6 = refl

mixed_7 : values "int w [ 2 ] [ 2 ] [ 2 ] = { [ 0 ] [ 1 ] [ 1 ] = 1 , 2 , { { 3 } } } ;"
    ((0 ∷ 0 ∷ 0 ∷ []) ∷ (0 ∷ 0 ∷ 1 ∷ []) ∷ (0 ∷ 1 ∷ 0 ∷ []) ∷ (0 ∷ 1 ∷ 1 ∷ []) ∷ (1 ∷ 0 ∷ 0 ∷ [])
    ∷ (1 ∷ 0 ∷ 1 ∷ []) ∷ (1 ∷ 1 ∷ 0 ∷ []) ∷ (1 ∷ 1 ∷ 1 ∷ []) ∷ [])
    ≡ pos 0 ∷ pos 0 ∷ pos 0 ∷ pos 1 ∷ pos 2 ∷ pos 3 ∷ pos 0 ∷ pos 0 ∷ []
mixed_7 = refl

mixed_8 : values "struct { int m0 [ 2 ] ; } w [ 2 ] = { [ 1 ] = { . m0 = 1 , . m0 = { 2 , 3 } } , 4 } ;"
    ((0 ∷ 0 ∷ 0 ∷ []) ∷ (0 ∷ 0 ∷ 1 ∷ []) ∷ (1 ∷ 0 ∷ 0 ∷ []) ∷ (1 ∷ 0 ∷ 1 ∷ []) ∷ [])
    ≡ pos 0 ∷ pos 0 ∷ pos 2 ∷ pos 3 ∷ []
mixed_8 = refl

mixed_9 : values "struct { int m0 [ 2 ] [ 2 ] ; } w = { . m0 = 1 , 2 , . m0 [ 1 ] [ 0 ] = 3 , 4 } ;"
    ((0 ∷ 0 ∷ 0 ∷ []) ∷ (0 ∷ 0 ∷ 1 ∷ []) ∷ (0 ∷ 1 ∷ 0 ∷ []) ∷ (0 ∷ 1 ∷ 1 ∷ []) ∷ [])
    ≡ pos 1 ∷ pos 2 ∷ pos 3 ∷ pos 4 ∷ []
mixed_9 = refl

mixed_10 : values "struct { int m0 [ 2 ] ; } w [ 3 ] = { [ 2 ] . m0 [ 1 ] = 1 , [ 1 ] . m0 = 2 } ;"
    ((0 ∷ 0 ∷ 0 ∷ []) ∷ (0 ∷ 0 ∷ 1 ∷ []) ∷ (1 ∷ 0 ∷ 0 ∷ []) ∷ (1 ∷ 0 ∷ 1 ∷ []) ∷ (2 ∷ 0 ∷ 0 ∷ [])
    ∷ (2 ∷ 0 ∷ 1 ∷ []) ∷ [])
    ≡ pos 0 ∷ pos 0 ∷ pos 2 ∷ pos 0 ∷ pos 0 ∷ pos 1 ∷ []
mixed_10 = refl

mixed_11 : values "struct { int m0 [ 2 ] [ 2 ] ; } w = { 1 , . m0 [ 0 ] [ 0 ] = 2 , . m0 [ 0 ] = 3 , 4 } ;"
    ((0 ∷ 0 ∷ 0 ∷ []) ∷ (0 ∷ 0 ∷ 1 ∷ []) ∷ (0 ∷ 1 ∷ 0 ∷ []) ∷ (0 ∷ 1 ∷ 1 ∷ []) ∷ [])
    ≡ pos 3 ∷ pos 4 ∷ pos 0 ∷ pos 0 ∷ []
mixed_11 = refl

mixed_12 : values "struct { int m0 ; } w [ ] [ 2 ] = { [ 0 ] [ 1 ] = { . m0 = 1 } } ;"
    ((0 ∷ 0 ∷ 0 ∷ []) ∷ (0 ∷ 1 ∷ 0 ∷ []) ∷ [])
    ≡ pos 0 ∷ pos 1 ∷ []
mixed_12 = refl

mixed_13 : values "int w [ 2 ] [ 2 ] = { 1 , { 2 } , { [ 0 ] = 3 , 4 } , [ 0 ] = { 5 , 6 } , 7 } ;"
    ((0 ∷ 0 ∷ []) ∷ (0 ∷ 1 ∷ []) ∷ (1 ∷ 0 ∷ []) ∷ (1 ∷ 1 ∷ []) ∷ [])
    ≡ pos 5 ∷ pos 6 ∷ pos 7 ∷ pos 4 ∷ []
mixed_13 = refl
