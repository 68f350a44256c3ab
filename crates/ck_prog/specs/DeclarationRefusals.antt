-- What is refused of a declaration beside those before it: U9, U10, U12, and U14 of an object that is never complete.
use Rattle.std.specs.Prelude.{ℕ, suc, pred, Bool, true, false, ◌&&◌, ◌||◌, ◌==◌, not, List, [], ◌∷◌, codes}
use Rattle.std.specs.Prelude.{Option, Some, None, if◌then◌else◌}
use Rattle.std.specs.List.{list_any}
use Rattle.std.specs.Option.{is_some}
use Rattle.std.specs.Str.{bytes_eq}
use Rattle.ck_base.specs.KernelNames.{kernel_name}
use Rattle.ck_kernel.specs.KernelTable.{KernelCall}
use Rattle.ck_kernel.specs.declared.entries.EntrySink.{EntrySink}
use Rattle.ck_kernel.specs.declared.entries.EntrySink.TheVariants.{Absent, Thread, Descriptor, Timer}
use Rattle.ck_types.specs.Types.{StructIdentity, CType, Parameters, Void, Pointer, Array, Struct, Function}
use Rattle.ck_types.specs.Types.{NoParameters}
use Rattle.ck_types.specs.Types.{Parameter, ByTag, ByTypedef, compatible, same_qualifiers, same_struct, same_truth}
use Rattle.ck_prog.specs.Declarations.{Entry, Meaning, Variable, FunctionNamed, TypeNamed, Enumerator, EnumTag}
use Rattle.ck_prog.specs.Declarations.{StructTag}
use Rattle.ck_prog.specs.Declarations.{Member, Completed, Label, Place, is_ordinary, is_tag}
use Rattle.ck_prog.specs.Linking.{is_linked, is_external, linkage_of, are_one, type_of}
use Rattle.ck_prog.specs.OverFiles.{compatible_over_files, given_over_files, joined_in_file, joined_over}
use Rattle.ck_prog.specs.Projects.{Told, same_token, beside, of_one_function, defines, is_tentative, may_define}
use Rattle.ck_prog.specs.Projects.{kernel_call}
use Rattle.ck_prog.specs.Sizes.{is_complete, is_member, is_tag_of, members_in, completes}
use Rattle.ck_prog.specs.TypeClasses.{Qualified, plain, is_integer}
use Rattle.ck_prog.specs.declared.names.Defining.TheVariants.{Tentative}

abbrev pub passes : (Entry → Bool) → Option Entry → Bool
passes test None = false
passes test (Some d) = test d

-- U9: defined twice --------------------------------------------------------------------------------------------------

abbrev pub in_one_scope : Entry → Entry → Bool
in_one_scope e d = e.file == d.file && bytes_eq e.scope d.scope && bytes_eq e.name d.name

-- 6.7: an identifier without linkage is declared once in a scope and name space
abbrev pub declared_twice : Entry → List Entry → Bool
declared_twice e before =
    is_ordinary e.meaning
    && passes (λ d. not (is_linked (linkage_of e.meaning) && is_linked (linkage_of d.meaning)))
    (beside e (λ d. is_ordinary d.meaning && in_one_scope e d) before)

-- both an object or both a function; an object for a function is U10
abbrev pub are_of_one_kind : Meaning → Meaning → Bool
are_of_one_kind (Variable t l d s) (Variable u m e r) = true
are_of_one_kind (FunctionNamed t l d) (FunctionNamed u m e) = true
are_of_one_kind _ _ = false

abbrev pub is_one_object : Entry → Entry → Bool
is_one_object e d = are_one e d && are_of_one_kind e.meaning d.meaning

-- 6.9: a function or an object is defined once in a file, and one with external linkage once in a project
abbrev pub is_defined_by : Entry → Entry → Bool
is_defined_by e d = is_one_object e d && (if e.file == d.file then defines d.meaning else may_define d.meaning)

-- 6.9.2: tentative definitions are a definition of their file where it has no other; the first one counts
abbrev pub is_only_tentative : Told → Entry → List Entry → Bool
is_only_tentative k e before =
    is_tentative e.meaning
    && not (list_any (λ d. is_one_object e d && d.file == e.file && is_tentative d.meaning) before)
    && not (list_any (λ d. is_one_object e d && d.file == e.file && defines d.meaning) k.project.all)

abbrev pub defined_twice : Told → Entry → List Entry → Bool
defined_twice k e before =
    (defines e.meaning && is_some (beside e (is_defined_by e) before))
    || (is_only_tentative k e before
    && list_any (λ d. is_one_object e d && not (d.file == e.file) && may_define d.meaning) before)

-- 6.7.2.1: two members of one struct
abbrev pub member_twice : Entry → Meaning → List Entry → Bool
member_twice e (Member m) before =
    is_some (beside e (λ d. d.file == e.file && bytes_eq d.name e.name && is_member m.of d.meaning) before)
member_twice e _ before = false

-- 6.7.2.3: two bodies of a tag in one scope, or bodies of both kinds
abbrev pub is_enum_tag : Meaning → Bool
is_enum_tag EnumTag = true
is_enum_tag _ = false

-- a struct's tag that has a body there, which completes it, maybe later
abbrev pub begins_body : Told → StructIdentity → Entry → Bool
begins_body k s e =
    is_tag_of s e.meaning && list_any (λ d. same_token d.at e.at && completes s d.meaning) k.project.all

abbrev pub body_twice : Told → Entry → Meaning → List Entry → Bool
body_twice k e EnumTag before = is_some (beside e (λ d. is_tag d.meaning && in_one_scope e d) before)
body_twice k e (StructTag s) before =
    passes (λ d. is_enum_tag d.meaning) (beside e (λ d. is_tag d.meaning && in_one_scope e d) before)
    || (begins_body k s e && is_some (beside e (λ d. d.file == e.file && begins_body k s d) before))
body_twice k e _ before = false

-- 6.8.1: label names are unique in a function
abbrev pub is_label : Meaning → Bool
is_label Label = true
is_label _ = false

abbrev pub label_twice : Entry → List Entry → Bool
label_twice e before =
    is_label e.meaning
    && is_some (beside e (λ d. is_label d.meaning && of_one_function e d && bytes_eq e.name d.name) before)

abbrev pub is_twice : Told → Entry → List Entry → Bool
is_twice k e before =
    declared_twice e before
    || defined_twice k e before
    || member_twice e e.meaning before
    || body_twice k e e.meaning before
    || label_twice e before

-- U10: types differ --------------------------------------------------------------------------------------------------

abbrev pub are_alike : Option CType → Option CType → Bool
are_alike (Some t) (Some u) = compatible t u
are_alike _ _ = true

abbrev pub same_qualifiers_of : Option Qualified → Option Qualified → Bool
same_qualifiers_of (Some p) (Some q) = same_qualifiers p.qualifiers q.qualifiers
same_qualifiers_of _ _ = true

-- 6.2.2, 6.2.7: both an object or both a function, with one linkage and the same qualifiers; what is declared without a
-- type may be either
abbrev pub agree : Meaning → Meaning → Bool
agree (Variable None l d s) m = true
agree m (Variable None l d s) = true
agree (Variable t l d s) (Variable u m e r) =
    same_truth (is_external l) (is_external m) && same_qualifiers_of t u
agree (FunctionNamed t l d) (FunctionNamed u m e) = same_truth (is_external l) (is_external m)
agree _ _ = false

-- beside the latest declaration of a thing, the type that those before in its file give it, and the one that all before
-- give it, over files
abbrev pub differs : Told → Entry → List Entry → Bool
differs k e before =
    passes (λ d. not (agree e.meaning d.meaning)) (beside e (are_one e) before)
    || not (are_alike (type_of e.meaning) (joined_in_file e before))
    || not (are_alike (given_over_files k.project.all e) (joined_over k.project.all e before))

-- kernel calls: as many parameters as the table says, and the parameter that becomes a thread or timer function. Calls
-- are typed by this prototype, as all are.
abbrev pub count : Parameters → ℕ
count NoParameters = 0
count (Parameter t ps) = suc (count ps)

abbrev pub parameter_at : Parameters → ℕ → Option CType
parameter_at NoParameters k = None
parameter_at (Parameter t ps) k = if k == 1 then Some t else parameter_at ps (pred k)

-- `void (*)(void *)`
abbrev pub entry_function : CType
entry_function = Pointer plain (Function plain Void (Parameter (Pointer plain Void) NoParameters) false)

abbrev pub descriptor : StructIdentity
descriptor = ByTag (codes "ch_thread_descriptor")

-- `const thread_descriptor_t *`
abbrev pub descriptor_pointer : CType
descriptor_pointer = Pointer (record plain { constant = true }) (Struct descriptor)

abbrev pub is_type : CType → Option CType → Bool
is_type t None = false
is_type t (Some u) = compatible t u

abbrev pub has_entry : EntrySink → Parameters → Bool
has_entry Absent ps = true
has_entry (Thread k) ps = is_type entry_function (parameter_at ps k)
has_entry (Timer k) ps = is_type entry_function (parameter_at ps k)
has_entry Descriptor ps = is_type descriptor_pointer (parameter_at ps 1)

abbrev pub is_of_call : KernelCall → CType → Bool
is_of_call c (Function q t ps more) = count ps == c.parameters && not more && has_entry c.entry ps
is_of_call c _ = false

abbrev pub is_meant_as_call : KernelCall → Meaning → Bool
is_meant_as_call c (FunctionNamed None l d) = true
is_meant_as_call c (FunctionNamed (Some t) l d) = is_of_call c t
is_meant_as_call c (Variable None l d s) = true
is_meant_as_call c _ = false

abbrev pub is_no_call : Option KernelCall → Meaning → Bool
is_no_call None m = false
is_no_call (Some c) m = is_linked (linkage_of m) && not (is_meant_as_call c m)

-- structs ------------------------------------------------------------------------------------------------------------

abbrev pub is_of_type : (CType → Bool) → Option Qualified → Bool
is_of_type test None = true
is_of_type test (Some t) = test t.type

-- it is compared at its body: else at its typedef name
abbrev pub is_compared_at_body : StructIdentity → Bool
is_compared_at_body (ByTypedef name) = false
is_compared_at_body s = true

-- 6.2.7: those of two files have the same members in order, with compatible types
abbrev pub member_type : Meaning → Option Qualified
member_type (Member m) = m.type
member_type _ = None

abbrev pub are_alike_qualified : List Entry → Option Qualified → Option Qualified → Bool
are_alike_qualified all (Some p) (Some q) =
    same_qualifiers p.qualifiers q.qualifiers && compatible_over_files all p.type q.type
are_alike_qualified all _ _ = true

abbrev pub same_members : List Entry → List Entry → List Entry → Bool
same_members all [] [] = true
same_members all (e ∷ es) (d ∷ ds) =
    bytes_eq e.name d.name
    && are_alike_qualified all (member_type e.meaning) (member_type d.meaning)
    && same_members all es ds
same_members all _ _ = false

abbrev pub is_known_in : ℕ → StructIdentity → List Entry → Bool
is_known_in file s before = list_any (λ d. d.file == file && completes s d.meaning) before

-- beside each of the files before that know the struct's members, since compatibility isn't transitive
abbrev pub has_other_members : List Entry → ℕ → StructIdentity → List Entry → Bool
has_other_members all file s before =
    list_any (λ d. not (d.file == file)
    && completes s d.meaning
    && not (same_members all (members_in file s before) (members_in d.file s before)))
    before

-- the members of a thread's descriptor that a create call reads
abbrev pub has_member : List ℕ → (CType → Bool) → List Entry → Bool
has_member name test es = list_any (λ e. bytes_eq e.name name && is_of_type test (member_type e.meaning)) es

abbrev pub is_no_descriptor : List Entry → Bool
is_no_descriptor members =
    not (has_member (codes "funcp") (compatible entry_function) members)
    || not (has_member (codes "arg") (compatible (Pointer plain Void)) members)
    || not (has_member (codes "prio") is_integer members)

-- a struct that a tag, or else its first typedef name, names, whatever is derived from it there, or one without both in
-- the body of another
abbrev pub is_other_struct : Told → Entry → Meaning → List Entry → Bool
is_other_struct k e (Completed s l c) before =
    (is_compared_at_body s && has_other_members k.project.all e.file s before)
    || (same_struct s descriptor && is_no_descriptor (members_in e.file s before))
is_other_struct k e (TypeNamed t) before =
    is_known_in e.file (ByTypedef e.name) before && has_other_members k.project.all e.file (ByTypedef e.name) before
is_other_struct k e _ before = false

abbrev pub is_different : Told → Entry → List Entry → Bool
is_different k e before =
    differs k e before
    || (kernel_name e.name && is_no_call (kernel_call e.name) e.meaning)
    || is_other_struct k e e.meaning before

-- U12: kernel name defined -------------------------------------------------------------------------------------------

abbrev pub makes_name : Meaning → Bool
makes_name (TypeNamed t) = true
makes_name (Enumerator v) = true
makes_name m = may_define m

abbrev pub is_kernel_defined : Entry → Bool
is_kernel_defined e = kernel_name e.name && makes_name e.meaning

-- U14: a tentative definition of an object whose type is complete nowhere in its file --------------------------------

-- 6.9.2: an array of unknown size has one element
abbrev pub may_be_object : Place → CType → Bool
may_be_object p (Array q t None) = is_complete p t
may_be_object p t = is_complete p t

abbrev pub at_end_of_file : Told → ℕ → Place
at_end_of_file k file = record { declared = k.project.all; file = file; bytes = []; scope = [] }

abbrev pub is_never_complete : Told → Entry → Meaning → Bool
is_never_complete k e (Variable (Some t) l Tentative s) = not (may_be_object (at_end_of_file k e.file) t.type)
is_never_complete k e _ = false
