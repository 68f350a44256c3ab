-- The document of version 2 that is printed for settings has no fault, and writes them.
use Rattle.std.proofs.Common.{◌≡◌, ℕ, ◌+◌, ◌≤◌, pos, Bool, true, false, List, [], ◌∷◌, ◌++◌, length, map, Some, Ok}
use Rattle.std.proofs.Common.{refl, sym, ap, ◌∙◌, arith}
use Rattle.std.specs.Prelude.{nat_le}
use Rattle.std.specs.List.{list_any, AllByRecursion}
use Rattle.std.proofs.lemmas.Bool.{le-leb}
use Rattle.std.proofs.lemmas.List.{length-map, map_push}
use Rattle.toml.specs.Data.{Data, table, Members, members_depth, items_depth}
use Rattle.toml.specs.Parse.{parse_document}
use Rattle.std.specs.Str.{IsUtf8}
use Rattle.std.proofs.lemmas.Str.{is_utf8-from_IsUtf8}
use Rattle.toml.specs.View.{items_of}
use Rattle.ck_base.specs.declared.ops.Op.{Op}
use Rattle.ck_base.specs.declared.ops.Op.TheVariants.{IQuiet, IWakes, SPlain, SWakes, Normal, Free, Neutral}
use Rattle.ck_settings.specs.Keys.{ListRow, vector_list, callback_list, function_list}
use Rattle.ck_settings.specs.Classes.{op_of}
use Rattle.ck_settings.specs.Values.{Function, Values, data_of, vector_of, callback_of, function_of, members_in}
use Rattle.ck_settings.specs.Values.{values_of}
use Rattle.ck_settings.specs.Faults.{is_within, is_class, says_the_same, table_faults, elements_faults, faults_of}
use Rattle.ck_settings.specs.Documents.{read_members, settings_of, upgraded_values}
use Rattle.ck_settings.specs.Valid.{is_outside_op, IsVector, IsCallback, IsFunction, same_vector, same_callback}
use Rattle.ck_settings.specs.Valid.{same_function, AllNew, AreValid}
use Rattle.ck_settings.specs.Upgrading.{class_of, wakes_of, vector_members, callback_members, function_members}
use Rattle.ck_settings.specs.Upgrading.{upgraded_members}
use Rattle.ck_settings.proofs.Joined.{and_true, two_and_true}

data_of-items : (ds : List Data) → data_of (items_of ds) ≡ ds
data_of-items [] = refl
data_of-items (d ∷ ds) = ap (λ es. d ∷ es) (data_of-items ds)

within : (least n : ℕ) → least ≤ n → n ≤ 255 → is_within least 255 (pos n) ≡ true
within least n low high = rw (le-leb least n low, le-leb n 255 high) refl

-- ---- a list of tables

module _ {X : Type 0} (members : X → Members) where
  abbrev tabled : X → Data
  tabled x = table (members x)

  written : (value : Members → X) (P : X → Type 0) → ((x : X) → P x → value (members x) ≡ x) → (xs : List X) →
      AllByRecursion P xs →
      map (λ d. value (members_in d)) (map tabled xs) ≡ xs
  written value P back [] all = refl
  written value P back (x ∷ xs) (here, all) = rw (back x here, written value P back xs all) refl

  shallow : ((x : X) → members_depth (members x) ≡ 0) → (xs : List X) → items_depth (items_of (map tabled xs)) ≤ 1
  shallow flat [] = omega arith
  shallow flat (x ∷ xs) = omega (arith, flat x, shallow flat xs)

  module _ (kernel : ℕ) (list : ListRow) (P : X → Type 0) (same : X → X → Bool) where
    -- what is said of one table, after these
    abbrev Fine : Type 0
    Fine = (before : List X) (x : X) → P x → list_any (same x) before ≡ false →
        table_faults kernel list (map tabled before) (members x) ≡ []

    no_faults : Fine → (before xs : List X) → AllByRecursion P xs → AllNew same before xs →
        elements_faults kernel list (map tabled before) (map tabled xs) ≡ []
    no_faults fine before [] all new = refl
    no_faults fine before (x ∷ xs) (here, all) (other, new) =
        rw (fine before x here other, ← map_push tabled before x) (no_faults fine (before ++ x ∷ []) xs all new)

  -- a test on what was written before is the test on the tables
  tested_tables : (test : X → Bool) (says : Data → Bool) → ((y : X) → says (tabled y) ≡ test y) → (before : List X) →
      list_any says (map tabled before) ≡ list_any test before
  tested_tables test says h [] = refl
  tested_tables test says h (y ∷ ys) = rw (h y, tested_tables test says h ys) refl

-- ---- one table

vector_fine : (kernel : ℕ) → Fine vector_members kernel vector_list IsVector same_vector
vector_fine kernel before x is new =
    let again = tested_tables vector_members (same_vector x) (says_the_same vector_list.same (vector_members x))
    (λ y. sym (and_true _)) before ∙ new in
    rw (is.function, within 0 x.priority (omega arith) is.priority, again) refl

callback_fine : (version kernel : ℕ) → Fine callback_members kernel (callback_list true) (IsCallback version kernel)
    same_callback
callback_fine version kernel before x is new =
    let again = tested_tables callback_members (same_callback x)
    (says_the_same (callback_list true).same (callback_members x)) (λ y. sym (two_and_true _ _)) before ∙ new in
    rw (is.of_struct, is.member, within kernel x.priority is.priority.0 is.priority.1, again) refl

class_fine : (op : Op) → is_outside_op op ≡ true → is_class (class_of op) ≡ true
class_fine Normal h = refl
class_fine IQuiet h = refl
class_fine IWakes h = refl
class_fine SPlain h = refl
class_fine SWakes h = refl
class_fine Free h = refl
class_fine _ h = refl

wakes_fine : (op : Op) → is_outside_op op ≡ true → op_of (class_of op) (wakes_of op) ≡ Some op
wakes_fine Neutral h = refl
wakes_fine Normal h = refl
wakes_fine IQuiet h = refl
wakes_fine IWakes h = refl
wakes_fine SPlain h = refl
wakes_fine SWakes h = refl
wakes_fine Free h = refl
wakes_fine _ h = absurd (cc)

function_fine : (kernel : ℕ) → Fine function_members kernel function_list IsFunction same_function
function_fine kernel before x is new =
    let again = tested_tables function_members (same_function x) (says_the_same function_list.same (function_members x))
    (λ y. sym (and_true _)) before ∙ new in
    rw (is.name, class_fine x.op is.op, wakes_fine x.op is.op, again) refl

-- ---- the document

no_document_faults : (v : Values) → AreValid v → faults_of (upgraded_members v) ≡ []
no_document_faults v is =
    let vectors = no_faults vector_members v.kernel_priority vector_list IsVector same_vector
    (vector_fine v.kernel_priority) [] v.vectors is.vectors is.vectors_differ in
    let callbacks = no_faults callback_members v.kernel_priority (callback_list true)
    (IsCallback v.version v.kernel_priority) same_callback (callback_fine v.version v.kernel_priority) []
    v.callbacks is.callbacks is.callbacks_differ in
    let functions = no_faults function_members v.kernel_priority function_list IsFunction same_function
    (function_fine v.kernel_priority) [] v.functions is.functions is.functions_differ in
    let room : nat_le (length (map (λ x. table (vector_members x)) v.vectors) + length
    (map (λ x. table (callback_members x)) v.callbacks)) 240 ≡ true =
    rw (length-map v.vectors (λ x. table (vector_members x)), length-map v.callbacks (λ x. table (callback_members x)))
    (le-leb _ 240 is.handlers) in
    rw (
      within 0 v.kernel_priority (omega arith) is.kernel,
      within v.kernel_priority v.timer_priority is.timer.0 is.timer.1,
      data_of-items (map (λ x. table (vector_members x)) v.vectors),
      data_of-items (map (λ x. table (callback_members x)) v.callbacks),
      data_of-items (map (λ x. table (function_members x)) v.functions),
      vectors,
      room,
      callbacks,
      functions,
    ) refl

function_back : (f : Function) → IsFunction f → function_of (function_members f) ≡ f
function_back f is = rw (wakes_fine f.op is.op) refl

document_values : (v : Values) → AreValid v → values_of (upgraded_members v) ≡ upgraded_values v
document_values v is =
    let vectors = written vector_members vector_of IsVector (λ x h. refl) v.vectors is.vectors in
    let callbacks = written callback_members (callback_of true) (IsCallback v.version v.kernel_priority) (λ x h. refl)
    v.callbacks is.callbacks in
    let functions = written function_members function_of IsFunction function_back v.functions is.functions in
    rw (
      data_of-items (map (λ x. table (vector_members x)) v.vectors),
      data_of-items (map (λ x. table (callback_members x)) v.callbacks),
      data_of-items (map (λ x. table (function_members x)) v.functions),
      vectors,
      callbacks,
      functions,
    ) refl

upgrades : (v : Values) → AreValid v → read_members (Some (upgraded_members v)) ≡ Ok (upgraded_values v)
upgrades v is = rw (no_document_faults v is) (ap Ok (document_values v is))

depth : (v : Values) → members_depth (upgraded_members v) ≤ 80
depth v =
    let vectors = shallow vector_members (λ x. refl) v.vectors in
    let callbacks = shallow callback_members (λ x. refl) v.callbacks in
    let functions = shallow function_members (λ x. refl) v.functions in
    omega (arith, vectors, callbacks, functions)

-- the text of the document is read as the settings in version 2
pub text_upgrades : (v : Values) → AreValid v → (bytes : List ℕ) (ms : Members) → ms ≡ upgraded_members v →
    IsUtf8 bytes →
    (members_depth ms ≤ 80 → parse_document bytes ≡ Some ms) → settings_of bytes ≡ Ok (upgraded_values v)
unfolding settings_of
text_upgrades v is bytes ms same text reads =
    let parsed : parse_document bytes ≡ Some (upgraded_members v) = reads (rw same (depth v)) ∙ ap Some same in
    rw (is_utf8-from_IsUtf8 bytes text, parsed) (upgrades v is)
