-- Which calls are acts: those of a kernel call of the table, and of a function that the settings name and that no file
-- defines. All others are calls of the project.
use Rattle.std.specs.Prelude.{ℕ, Bool, true, false, ◌&&◌, List, Option, Some, None, position}
use Rattle.std.specs.List.{list_any}
use Rattle.std.specs.Option.{option_map}
use Rattle.std.specs.Str.{bytes_eq}
use Rattle.ck_base.specs.declared.spans.RowId.{RowId}
use Rattle.ck_graph.specs.declared.points.ActName.{ActName}
use Rattle.ck_graph.specs.declared.points.ActName.TheVariants.{Kernel, Outside}
use Rattle.ck_kernel.specs.KernelTable.{row_named}
use Rattle.ck_prog.specs.Declarations.{Meaning, FunctionNamed, Entry}
use Rattle.ck_prog.specs.Linking.{are_one}
use Rattle.ck_prog.specs.declared.names.Defining.TheVariants.{Defines}

-- a project as far as its calls need it: the declarations of all files, and the names of the settings' functions
pub record Project : Type 0 where
  pub all : List Entry
  pub outside : List (List ℕ)

-- 6.9.1: a function with a body
abbrev pub is_body : Meaning → Bool
is_body (FunctionNamed t l Defines) = true
is_body _ = false

abbrev pub is_body_of : Entry → Entry → Bool
is_body_of e d = is_body d.meaning && are_one e d

abbrev pub has_body : List Entry → Entry → Bool
has_body all e = list_any (is_body_of e) all

-- the element of the settings' list with the name, counted from 0, where no file defines the function
abbrev pub outside_act : Project → Entry → Bool → Option ActName
outside_act k e true = None
outside_act k e false = option_map Outside (position (bytes_eq e.name) k.outside)

abbrev pub act_by : Project → Entry → Option RowId → Option ActName
act_by k e (Some row) = Some (Kernel row)
act_by k e None = outside_act k e (has_body k.all e)

-- the act that a call of a function by its name is, if it is one
abbrev pub act_of : Project → Option Entry → Option ActName
act_of k None = None
act_of k (Some e) = act_by k e (row_named e.name)
