-- Declarations of different files beside each other (C99 6.2.7, 6.9.2): which struct one is over all files, and which
-- type each declaration gives its object or function there. `all` are the declarations of the project.
use Rattle.std.specs.Prelude.{Bool, true, false, ◌&&◌, ◌==◌, not, List, [], ◌∷◌, Option, Some, None, if◌then◌else◌}
use Rattle.std.specs.List.{list_any}
use Rattle.std.specs.Option.{option_map}
use Rattle.ck_types.specs.Types.{StructIdentity, ByTag, ByPlace, ByMember, ByParameter, CType, Pointer, Array, Struct}
use Rattle.ck_types.specs.Types.{Function, Parameters, NoParameters, Parameter, compatible}
use Rattle.ck_prog.specs.Declarations.{Entry, is_file_scope}
use Rattle.ck_prog.specs.Linking.{are_one, type_of, joined_with}
use Rattle.ck_prog.specs.Projects.{is_tentative}
use Rattle.ck_prog.specs.Sizes.{completes}

module _ (all : List Entry) where
  -- types ------------------------------------------------------------------------------------------------------------

  -- 6.2.7: the struct of a parameter list is the one of its tag; with a body it is by its place
  abbrev pub struct_over_files : StructIdentity → StructIdentity
  struct_over_files (ByParameter tag file offset) =
      if list_any (λ d. completes (ByParameter tag file offset) d.meaning) all then ByPlace file offset else ByTag tag
  struct_over_files (ByMember of k) = ByMember (struct_over_files of) k
  struct_over_files s = s

  abbrev mutual
    pub type_over_files : CType → CType
    type_over_files (Pointer q t) = Pointer q (type_over_files t)
    type_over_files (Array q t n) = Array q (type_over_files t) n
    type_over_files (Struct s) = Struct (struct_over_files s)
    type_over_files (Function q t ps more) = Function q (type_over_files t) (parameters_over_files ps) more
    type_over_files t = t

    pub parameters_over_files : Parameters → Parameters
    parameters_over_files NoParameters = NoParameters
    parameters_over_files (Parameter t ps) = Parameter (type_over_files t) (parameters_over_files ps)

  -- 6.2.7: compatible types of different files
  abbrev pub compatible_over_files : CType → CType → Bool
  compatible_over_files t u = compatible (type_over_files t) (type_over_files u)

  -- declarations -----------------------------------------------------------------------------------------------------

  abbrev pub is_sized : Option CType → Bool
  is_sized (Some (Array q t (Some n))) = true
  is_sized _ = false

  -- a declaration of its file at file scope gives the array a size
  abbrev pub is_sized_in_file : Entry → Bool
  is_sized_in_file e =
      list_any (λ d. d.file == e.file && is_file_scope d.scope && are_one e d && is_sized (type_of d.meaning)) all

  abbrev pub with_one_element : Option CType → Option CType
  with_one_element (Some (Array q t None)) = Some (Array q t (Some 1))
  with_one_element t = t

  -- 6.9.2: an array that is defined tentatively, and to which its file gives no size, has one element
  abbrev pub type_given : Entry → Option CType
  type_given e =
      if is_tentative e.meaning && not (is_sized_in_file e) then with_one_element (type_of e.meaning)
      else type_of e.meaning

  abbrev pub given_over_files : Entry → Option CType
  given_over_files e = option_map type_over_files (type_given e)

-- 6.2.7: the type that declarations give together, the earliest of these first ---------------------------------------

abbrev pub joined_option : Option CType → Option CType → Option CType
joined_option before None = before
joined_option before (Some t) = Some (joined_with before t)

abbrev pub joined : (Entry → Option CType) → (Entry → Bool) → List Entry → Option CType
joined type test [] = None
joined type test (d ∷ ds) = if test d then joined_option (joined type test ds) (type d) else joined type test ds

-- those of a thing in its file, and those in all files
abbrev pub joined_in_file : Entry → List Entry → Option CType
joined_in_file e before = joined (λ d. type_of d.meaning) (λ d. d.file == e.file && are_one e d) before

abbrev pub joined_over : List Entry → Entry → List Entry → Option CType
joined_over all e before = joined (given_over_files all) (are_one e) before
