-- What is refused of a project: U8 to U13 when files are linked, then U14 to U19 and U26 when they are typed; each is
-- one test on one sight, or on one declaration beside those before it. The first one by file, then by offset, then by
-- number is told.
use Rattle.std.specs.Prelude.{ℕ, Bool, true, false, ◌||◌, not, List, [], ◌∷◌, ◌++◌, Option, Some, None}
use Rattle.std.specs.Prelude.{if◌then◌else◌}
use Rattle.std.specs.List.{list_any}
use Rattle.std.specs.Cmp.Lexicographic.{slice_cmp}
use Rattle.std.specs.Option.{is_some}
use Rattle.std.specs.Ordering.{is_lt, nat_cmp}
use Rattle.ck_base.specs.Refusals.{refusal_number}
use Rattle.ck_base.specs.declared.refusals.Unsupported.{Unsupported}
use Rattle.ck_base.specs.declared.refusals.Unsupported.TheVariants.{U8, U9, U10, U11, U12, U13, U14, U15, U16, U17, U18}
use Rattle.ck_base.specs.declared.refusals.Unsupported.TheVariants.{U19, U26}
use Rattle.ck_base.specs.declared.tokens.Token.{Token}
use Rattle.ck_prog.specs.BodyRefusals.{is_unknown_enum, is_other_kind, is_no_enumerator, is_no_size, is_no_declarator}
use Rattle.ck_prog.specs.BodyRefusals.{is_wrong_value, is_no_static_value, is_no_element, is_unsized, is_wrong_status}
use Rattle.ck_prog.specs.BodyRefusals.{is_incomplete_object, is_initialised_in_block, is_no_test, is_no_switch}
use Rattle.ck_prog.specs.BodyRefusals.{is_wrong_result, same_label, is_label_of}
use Rattle.ck_prog.specs.DeclarationRefusals.{is_twice, is_different, is_kernel_defined, is_never_complete}
use Rattle.ck_prog.specs.Declarations.{Entry}
use Rattle.ck_prog.specs.ExpressionRefusals.{is_undeclared, is_untyped, is_outside_value, is_function_cast, is_too_deep}
use Rattle.ck_prog.specs.ExpressionRefusals.{is_whole, is_crowded, is_unnamed_call, is_function_passed, is_stray_status}
use Rattle.ck_prog.specs.ExpressionRefusals.{is_stray_pair}
use Rattle.ck_prog.specs.Linking.{unqualified_type}
use Rattle.ck_prog.specs.Projects.{Told, is_unknown_kernel_name, statuses_in}
use Rattle.ck_prog.specs.Senses.{is_known}
use Rattle.ck_prog.specs.Sights.{Sight, NameUse, ValueOf, PrimaryValue, CastOf, CallOf, MentionOf, StructOf}
use Rattle.ck_prog.specs.Sights.{EnumeratorOf, SizeOf, DeclaratorOf, ValueGiven, BracesGiven, MemberNamed, ElementNamed}
use Rattle.ck_prog.specs.Sights.{DeclaredName, DefinedName, TestOf, SwitchOn, CaseValue, SwitchLabel, RepeatedLabel}
use Rattle.ck_prog.specs.Sights.{GotoTo, JumpTo, Returned, in_files}
use Rattle.ck_prog.specs.Sizes.{is_large}
use Rattle.ck_prog.specs.TypedExpressions.{or_token}
use Rattle.ck_prog.specs.TypedFiles.{ReadFile, declarations, typed_files}

-- the tests of sights ------------------------------------------------------------------------------------------------

abbrev pub sight_test : Told → Unsupported → Sight → Bool
sight_test k U8 (NameUse f name e used) = is_undeclared name e
sight_test k U8 (MentionOf struct tag e) = is_unknown_enum struct e
sight_test k U9 (RepeatedLabel keyword label before) = list_any (same_label label) before
sight_test k U10 (MentionOf struct tag e) = is_other_kind struct e
sight_test k U11 (StructOf keyword layout) = is_large layout
sight_test k U11 (EnumeratorOf at v) = is_no_enumerator v
sight_test k U11 (SizeOf f large) = is_no_size f large
sight_test k U11 (CaseValue f) = not (is_known f.sense.constancy)
sight_test k U11 (ElementNamed opening of_array f found) = is_no_element of_array found
sight_test k U11 (ValueGiven i f string) = is_no_static_value i f
sight_test k U11 (DeclaredName f i) = is_unsized f.entry.meaning || f.large
sight_test k U13 (NameUse f name e used) = is_unknown_kernel_name name
sight_test k U14 (ValueOf f operands) = is_untyped f operands
sight_test k U14 (DeclaratorOf f) = is_no_declarator f
sight_test k U14 (ValueGiven i f string) = is_wrong_value i f string
sight_test k U14 (BracesGiven i) = not (is_some i.object)
sight_test k U14 (MemberNamed dot found) = not found
sight_test k U14 (ElementNamed opening of_array f found) = not of_array
sight_test k U14 (DeclaredName f i) = is_incomplete_object f f.entry.meaning || is_initialised_in_block f.entry i
sight_test k U14 (DefinedName f) = not f.complete
sight_test k U14 (TestOf f) = is_no_test f
sight_test k U14 (SwitchOn f) = is_no_switch f
sight_test k U14 (Returned result f) = is_wrong_result result f
sight_test k U15 (NameUse f name e used) = is_outside_value k f e
sight_test k U15 (CastOf f operand) = is_function_cast f operand
sight_test k U16 (ValueOf f operands) = is_too_deep (is_whole f.role) f.sense.type
sight_test k U16 (PrimaryValue f) = is_too_deep (is_whole f.role) f.sense.type
sight_test k U16 (DeclaratorOf f) = is_too_deep true (unqualified_type f.type)
sight_test k U17 (CallOf c) = is_crowded c
sight_test k U18 (NameUse f name e used) = is_unnamed_call k f e
sight_test k U18 (CallOf c) = is_function_passed k c c.function
sight_test k U19 (SwitchLabel keyword found) = not found
sight_test k U19 (GotoTo keyword name scope) = not (list_any (is_label_of keyword.span.file scope name) k.project.all)
sight_test k U19 (JumpTo keyword found) = not found
sight_test k U26 (NameUse f name e used) = is_stray_status k e used
sight_test k U26 (CallOf c) = is_stray_pair k c
sight_test k U26 (DeclaredName f i) = is_wrong_status k f i
sight_test k number s = false

-- their spots: of an expression its first token, of a declaration its name, else the keyword -------------------------

abbrev pub sight_spot : Unsupported → Sight → Token
sight_spot number (NameUse f name e used) = f.first
sight_spot number (ValueOf f operands) = f.first
sight_spot number (PrimaryValue f) = f.first
sight_spot number (CastOf f operand) = f.first
-- the name of the function that is called
sight_spot U18 (CallOf c) = or_token c.value.first c.name
sight_spot number (CallOf c) = c.value.first
sight_spot number (MentionOf struct tag e) = tag
sight_spot number (StructOf keyword layout) = keyword
sight_spot number (EnumeratorOf at v) = at
sight_spot number (SizeOf f large) = f.first
-- a declarator of this type is told at its own first token
sight_spot U16 (DeclaratorOf f) = f.first
sight_spot number (DeclaratorOf f) = f.spot
sight_spot number (ValueGiven i f string) = i.first
sight_spot number (BracesGiven i) = i.first
sight_spot number (MemberNamed dot found) = dot
sight_spot U11 (ElementNamed opening of_array f found) = f.first
sight_spot number (ElementNamed opening of_array f found) = opening
sight_spot number (DeclaredName f i) = f.entry.at
sight_spot number (DefinedName f) = f.entry.at
sight_spot number (TestOf f) = f.first
sight_spot number (SwitchOn f) = f.first
sight_spot number (CaseValue f) = f.first
sight_spot number (SwitchLabel keyword found) = keyword
sight_spot number (RepeatedLabel keyword label before) = keyword
sight_spot number (GotoTo keyword name scope) = keyword
sight_spot number (JumpTo keyword found) = keyword
sight_spot number (Returned result f) = f.first

-- the tests of declarations, each at its name ------------------------------------------------------------------------

abbrev pub entry_test : Told → Unsupported → Entry → List Entry → Bool
entry_test k U9 e before = is_twice k e before
entry_test k U10 e before = is_different k e before
entry_test k U12 e before = is_kernel_defined e
entry_test k U14 e before = is_never_complete k e e.meaning
entry_test k number e before = false

-- faults -------------------------------------------------------------------------------------------------------------

pub record RefusedAt : Type 0 where
  pub number : Unsupported
  pub at : Token

abbrev pub linking : List Unsupported
linking = U8 ∷ U9 ∷ U10 ∷ U11 ∷ U12 ∷ U13 ∷ []

abbrev pub typing : List Unsupported
typing = U14 ∷ U15 ∷ U16 ∷ U17 ∷ U18 ∷ U19 ∷ U26 ∷ []

abbrev pub refused_if : Bool → Unsupported → Token → List RefusedAt → List RefusedAt
refused_if test number at more = if test then record { number = number; at = at } ∷ more else more

abbrev pub of_sight : Told → List Unsupported → Sight → List RefusedAt → List RefusedAt
of_sight k [] s more = more
of_sight k (n ∷ ns) s more = refused_if (sight_test k n s) n (sight_spot n s) (of_sight k ns s more)

abbrev pub of_sights : Told → List Unsupported → List Sight → List RefusedAt
of_sights k numbers [] = []
of_sights k numbers (s ∷ ss) = of_sight k numbers s (of_sights k numbers ss)

abbrev pub of_entry : Told → List Unsupported → Entry → List Entry → List RefusedAt → List RefusedAt
of_entry k [] e before more = more
of_entry k (n ∷ ns) e before more = refused_if (entry_test k n e before) n e.at (of_entry k ns e before more)

abbrev pub of_entries : Told → List Unsupported → List Entry → List RefusedAt
of_entries k numbers [] = []
of_entries k numbers (e ∷ before) = of_entry k numbers e before (of_entries k numbers before)

-- the first of them --------------------------------------------------------------------------------------------------

-- by file, then by offset, then by number
abbrev pub rank_of : RefusedAt → List ℕ
rank_of r = r.at.span.file ∷ r.at.span.start ∷ refusal_number r.number ∷ []

abbrev pub comes_before : RefusedAt → RefusedAt → Bool
comes_before r s = is_lt (slice_cmp nat_cmp (rank_of r) (rank_of s))

abbrev pub earlier : RefusedAt → Option RefusedAt → Option RefusedAt
earlier r None = Some r
earlier r (Some s) = Some (if comes_before s r then s else r)

abbrev pub first_refused : List RefusedAt → Option RefusedAt
first_refused [] = None
first_refused (r ∷ rs) = earlier r (first_refused rs)

-- projects -----------------------------------------------------------------------------------------------------------

abbrev pub sights_of : List ReadFile → List Sight
sights_of fs = in_files (typed_files fs)

abbrev pub told_of : List (List ℕ) → List ReadFile → Told
told_of outside fs =
    record {
      project = record { all = declarations fs; outside = outside };
      statuses = statuses_in (sights_of fs);
    }

-- what of these numbers is refused in a project, where these are the functions that the settings name
abbrev pub refused : List Unsupported → List (List ℕ) → List ReadFile → List RefusedAt
refused numbers outside fs =
    let k = told_of outside fs in of_sights k numbers (sights_of fs) ++ of_entries k numbers k.project.all
