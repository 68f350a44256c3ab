-- What the refusals know of a project: all declarations, the functions that its settings name, and its variables that
-- keep the kernel's status; which function has a body, and which kernel call a name is.
use Rattle.std.specs.Prelude.{ℕ, Bool, true, false, ◌&&◌, ◌||◌, ◌==◌, not, List, [], ◌∷◌, find, Option, Some, None}
use Rattle.std.specs.Prelude.{if◌then◌else◌}
use Rattle.std.specs.List.{list_any}
use Rattle.std.specs.Option.{is_some}
use Rattle.std.specs.Str.{bytes_eq}
use Rattle.ck_base.specs.KernelNames.{kernel_name}
use Rattle.ck_base.specs.declared.tokens.Token.{Token}
use Rattle.ck_kernel.specs.KernelTable.{KernelCall, kernel_table}
use Rattle.ck_prog.specs.Acts.{Project, has_body}
use Rattle.ck_prog.specs.Declarations.{Entry, Meaning, Variable, FunctionNamed, latest}
use Rattle.ck_prog.specs.Sights.{Sight, DeclaredName}
use Rattle.ck_prog.specs.TypedExpressions.{is_function_named}
use Rattle.ck_prog.specs.declared.names.Defining.TheVariants.{Defines, Tentative}

pub record Told : Type 0 where
  pub project : Project
  -- the declarations of variables that may keep the kernel's status
  pub statuses : List Entry

-- tokens and scopes --------------------------------------------------------------------------------------------------

abbrev pub same_token : Token → Token → Bool
same_token t u = t.span.file == u.span.file && t.span.start == u.span.start

-- the latest of these declarations that passes a test, but for one at the name itself: a name may be in the list twice
abbrev pub beside : Entry → (Entry → Bool) → List Entry → Option Entry
beside e test before = latest (λ d. not (same_token e.at d.at) && test d) before

-- 6.2.1: the outermost scope of a block is that of its function's parameters
abbrev pub outermost : List ℕ → List ℕ
outermost [] = []
outermost (n ∷ []) = n ∷ []
outermost (n ∷ (m ∷ ns)) = outermost (m ∷ ns)

abbrev pub of_one_function : Entry → Entry → Bool
of_one_function e d = e.file == d.file && bytes_eq (outermost e.scope) (outermost d.scope)

-- definitions --------------------------------------------------------------------------------------------------------

-- 6.9: it defines what it names
abbrev pub defines : Meaning → Bool
defines (Variable t l Defines s) = true
defines (FunctionNamed t l Defines) = true
defines _ = false

abbrev pub is_tentative : Meaning → Bool
is_tentative (Variable t l Tentative s) = true
is_tentative _ = false

abbrev pub may_define : Meaning → Bool
may_define m = defines m || is_tentative m

-- a function that the project declares and doesn't define
abbrev pub is_outside : Told → Entry → Bool
is_outside k e = is_function_named e.meaning && not (has_body k.project.all e)

-- kernel calls -------------------------------------------------------------------------------------------------------

abbrev pub kernel_call : List ℕ → Option KernelCall
kernel_call name = find (λ c. bytes_eq c.name name) kernel_table

abbrev pub is_kernel_call : List ℕ → Bool
is_kernel_call name = is_some (kernel_call name)

abbrev pub is_unknown_kernel_name : List ℕ → Bool
is_unknown_kernel_name name = kernel_name name && not (is_kernel_call name)

-- status variables ---------------------------------------------------------------------------------------------------

abbrev pub statuses_in : List Sight → List Entry
statuses_in [] = []
statuses_in (DeclaredName f i ∷ ss) = if f.status then f.entry ∷ statuses_in ss else statuses_in ss
statuses_in (s ∷ ss) = statuses_in ss

abbrev pub keeps_status : Told → Option Entry → Bool
keeps_status k None = false
keeps_status k (Some e) = list_any (λ d. same_token d.at e.at) k.statuses
