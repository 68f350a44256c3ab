-- What the declarators of a declaration and of a function definition declare (C99 6.7, 6.9.1).
use Rattle.std.specs.Prelude.{ℕ, Bool, true, false, List, [], ◌∷◌, Option, Some, None, if◌then◌else◌}
use Rattle.ck_base.specs.declared.tokens.Token.{Token}
use Rattle.ck_grammar.specs.Trees.{Specifiers, Declarator, Dims, Params, Abstract, Named, Nested, NoDims, Function}
use Rattle.ck_grammar.specs.Trees.{NoParams}
use Rattle.ck_types.specs.Types.{StructIdentity, ByTypedef}
use Rattle.ck_prog.specs.BaseTypes.{base_type}
use Rattle.ck_prog.specs.Declarations.{Place, text, declaring, inside}
use Rattle.ck_prog.specs.Derivations.{Derivation, FunctionOf, made}
use Rattle.ck_prog.specs.Linking.{StorageClass, TypedefClass, storage_class, declared_as}
use Rattle.ck_prog.specs.Linking.{function_declared}
use Rattle.ck_prog.specs.Tags.{Around, nothing_around}
use Rattle.ck_prog.specs.TypeClasses.{Qualified, is_function}
use Rattle.ck_prog.specs.Typing.{derivations, after_specifiers, after_declarator, after_params, name_of}
use Rattle.ck_prog.specs.declared.names.Defining.TheVariants.{Defines}

abbrev pub text_of_name : Place → Option Token → Option (List ℕ)
text_of_name p None = None
text_of_name p (Some name) = Some (text p name)

-- 6.7.2.3: specifiers without declarators
abbrev pub alone : Around
alone = record nothing_around { alone = true }

-- around specifiers before a first declarator: after `typedef` it declares their first typedef name, which names a
-- struct without a tag
abbrev pub by_typedef : Option (List ℕ) → Option StructIdentity
by_typedef None = None
by_typedef (Some name) = Some (ByTypedef name)

abbrev pub around_by : Place → StorageClass → Declarator → Around
around_by p TypedefClass d = record nothing_around { untagged = by_typedef (text_of_name p (name_of d)) }
around_by p class d = nothing_around

abbrev pub after_first_specifiers : Place → Specifiers → Declarator → Place
after_first_specifiers p s d = after_specifiers p (around_by p (storage_class p s) d) s

-- a declarator declares a function: by its type, or where that is missing by what it says of its name first
abbrev pub declares_function : List Derivation → Option Qualified → Bool
declares_function ds (Some t) = is_function t.type
declares_function (FunctionOf ps ∷ ds) None = true
declares_function ds None = false

abbrev pub with_declared : Place → StorageClass → Bool → Bool → Option Token → Option Qualified → Place
with_declared p class is_function initialised None t = p
with_declared p class is_function initialised (Some name) t =
    declaring p (text p name) name (declared_as p class is_function initialised (text p name) t)

-- 6.2.1: the place after a declarator, whose name is declared there, before an initialiser or not
abbrev pub after_declared : Place → StorageClass → Bool → Option Qualified → Declarator → Place
after_declared p class initialised base d =
    let q = after_declarator p d in
    let ds = derivations p d in
    let t = made q ds base in
    with_declared q class (declares_function ds t) initialised (name_of d) t

-- functions that are defined (6.9.1) ----------------------------------------------------------------------------------

abbrev pub with_defined : Place → StorageClass → Option Token → Option Qualified → Place
with_defined p class None t = p
with_defined p class (Some name) t =
    declaring p (text p name) name (function_declared p class Defines (text p name) t)

-- the place after the name of the function that is defined, before its parameters are declared again
abbrev pub after_function_name : Place → Specifiers → Declarator → Place
after_function_name p s d =
    let q = after_specifiers p nothing_around s in
    let r = after_declarator q d in
    with_defined r (storage_class p s) (name_of d) (made r (derivations q d) (base_type q s))

abbrev pub first_params : Dims → Params
first_params (Function opening ps closing rest) = ps
first_params _ = NoParams

-- a declarator in parentheses says nothing of its name but that
abbrev pub says_nothing : Declarator → Bool
says_nothing (Abstract [] NoDims) = true
says_nothing (Named [] name NoDims) = true
says_nothing (Nested [] opening d closing NoDims) = says_nothing d
says_nothing _ = false

-- the parameters next to the name, maybe outside its parentheses: `(f)(int a)`, `(*f(int a))(void)`
abbrev pub defined_params : Declarator → Params
defined_params (Abstract stars ds) = first_params ds
defined_params (Named stars name ds) = first_params ds
defined_params (Nested stars opening d closing ds) =
    if says_nothing d then first_params ds else defined_params d

-- the place where the body's items begin: its outermost scope is that of the parameters (6.2.1)
abbrev pub at_body : Place → Specifiers → Declarator → Place
at_body p s d = let q = after_function_name p s d in after_params Defines (inside q) (defined_params d)
