-- Settings of a document without a fault are valid.
use Rattle.std.proofs.Common.{◌≡◌, ℕ, zero, suc, ◌+◌, ◌≤◌, ◌⊎◌, inl, inr, ◌&&◌, ℤ, pos, negsuc, Bool, true, false, not}
use Rattle.std.proofs.Common.{cond, List, [], ◌∷◌, ◌++◌, codes, length, map, Option, Some, None, Result, Ok, Err, refl}
use Rattle.std.proofs.Common.{subst, ◌∙◌, arith}
use Rattle.std.specs.Prelude.{nat_le, IfOk}
use Rattle.std.proofs.lemmas.Bool.{and_parts, false≢true, leb-true}
use Rattle.std.proofs.lemmas.List.{length-map, map_push}
use Rattle.std.specs.List.{list_any, AllByRecursion}
use Rattle.std.specs.Option.{option_map_or}
use Rattle.std.specs.Str.{bytes_eq, is_utf8}
use Rattle.toml.specs.Data.{Data, Members, no_members, get_member, as_integer, as_table}
use Rattle.toml.specs.Parse.{parse_document}
use Rattle.ck_base.specs.declared.ops.Op.{Op}
use Rattle.ck_base.specs.declared.ops.Op.TheVariants.{IQuiet, IWakes, SPlain, SWakes, Normal, Free, Neutral}
use Rattle.ck_base.specs.declared.settings_faults.SettingsKind.{SettingsKind}
use Rattle.ck_base.specs.declared.settings_faults.SettingsKind.TheVariants.{Missing, OutOfRange}
use Rattle.ck_settings.specs.declared.errors.ReadSettingsError.{ReadSettingsError}
use Rattle.ck_settings.specs.declared.settings.Settings.{Settings}
use Rattle.ck_settings.specs.Keys.{From, FromKernel, Number, Text, OutsideName, Needed, Optional, row, has_locked}
use Rattle.ck_settings.specs.Keys.{ListRow, vector_list, callback_list, function_list, document_rows}
use Rattle.ck_settings.specs.Classes.{op_of}
use Rattle.ck_settings.specs.Values.{Values, natural, number_in, text_at, truth_at, elements_at, members_in, vector_of}
use Rattle.ck_settings.specs.Values.{callback_of, function_of, version_of, kernel_priority_of, values_of, settings_view}
use Rattle.ck_settings.specs.Faults.{KeyFault, unless, at_most_one, judged, is_within, is_some_text, is_outside_name}
use Rattle.ck_settings.specs.Faults.{row_faults, rows_faults, unknown_faults, element_prefix, says_the_same}
use Rattle.ck_settings.specs.Faults.{repetition_faults, table_faults, element_faults, elements_faults, list_type_faults}
use Rattle.ck_settings.specs.Faults.{room_faults, list_faults, key_of, document_rows_faults, faults_of}
use Rattle.ck_settings.specs.Documents.{Gives, unless_faulty, not_toml, read_members, settings_of}
use Rattle.ck_settings.specs.Valid.{is_outside_op, IsVector, IsCallback, IsFunction, same_vector, same_callback}
use Rattle.ck_settings.specs.Valid.{same_function, AllNew, AreValid}
use Rattle.ck_settings.proofs.Joined.{passed, passed_test, and_true, two_and_true, repeats}

-- ---- where there is no fault

none_in : (a b : List KeyFault) → a ++ b ≡ [] → (a ≡ []) × (b ≡ [])
none_in [] b h = (refl, h)
none_in (f ∷ a) b h = absurd cc

held : (key : List ℕ) (kind : SettingsKind) (fine : Bool) → unless fine key kind ≡ [] → fine ≡ true
held key kind true h = refl
held key kind false h = absurd cc

not_held : (b : Bool) → not b ≡ true → b ≡ false
not_held true h = absurd (false≢true h)
not_held false h = refl

within : (least most : ℕ) (z : ℤ) → is_within least most z ≡ true → (least ≤ natural z) × (natural z ≤ most)
within least most (pos n) h =
    let (low, high) = and_parts (nat_le least n) (nat_le n most) h in
    (leb-true least n low, leb-true n most high)
within least most (negsuc n) h = absurd (false≢true h)

number_typed : (key : List ℕ) (least most : ℕ) (o : Option ℤ) → at_most_one key (judged o (is_within least most)) ≡ []
    → (least ≤ option_map_or natural o 0) × (option_map_or natural o 0 ≤ most)
number_typed key least most None h = absurd cc
number_typed key least most (Some z) h = within least most z (passed_test key (is_within least most z) h)

number_there : (key : List ℕ) (least most : ℕ) (o : Option Data) →
    at_most_one key (option_map_or (λ d. judged (as_integer d) (is_within least most)) o (Some Missing)) ≡ []
    → (least ≤ option_map_or number_in o 0) × (option_map_or number_in o 0 ≤ most)
number_there key least most None h = absurd cc
number_there key least most (Some d) h = number_typed key least most (as_integer d) h

number_or_default : (key : List ℕ) (least most : ℕ) (o : Option Data) → least ≤ most →
    at_most_one key (option_map_or (λ d. judged (as_integer d) (is_within least most)) o None) ≡ []
    → (least ≤ option_map_or number_in o least) × (option_map_or number_in o least ≤ most)
number_or_default key least most None some h = (omega arith, some)
number_or_default key least most (Some d) some h = number_typed key least most (as_integer d) h

-- ---- the op of a class

abbrev HasOp : Option Op → Type 0
HasOp o = is_outside_op (option_map_or (λ op. op) o Neutral) ≡ true

chosen : (b : Bool) (x y : Option Op) → HasOp x → HasOp y → HasOp (cond b x y)
chosen true x y p q = p
chosen false x y p q = q

op_of_class : (word : List ℕ) (wakes : Bool) → HasOp (op_of word wakes)
op_of_class word wakes =
    chosen (bytes_eq word (codes "neutral")) _ _ (chosen wakes None (Some Neutral) refl refl)
    (chosen (bytes_eq word (codes "normal")) _ _ (chosen wakes None (Some Normal) refl refl)
    (chosen (bytes_eq word (codes "I")) _ _ (chosen wakes (Some IWakes) (Some IQuiet) refl refl)
    (chosen (bytes_eq word (codes "S")) _ _ (chosen wakes (Some SWakes) (Some SPlain) refl refl)
    (chosen (bytes_eq word (codes "X")) (cond wakes None (Some Free)) None (chosen wakes None (Some Free) refl refl)
    refl))))

-- ---- elements

module _ {X : Type 0} (kernel : ℕ) (list : ListRow) (value : Members → X) where
  -- what holds of a table without a fault, after these elements
  abbrev pub Clean : (List Data → X → Type 0) → Type 0
  Clean P = (before : List Data) (ms : Members) → table_faults kernel list before ms ≡ [] → P before (value ms)

  one_clean : (P : List Data → X → Type 0) → Clean P → (before : List Data) (o : Option Members) →
      element_faults kernel list before o ≡ []
      → P before (value (option_map_or (λ ms. ms) o no_members))
  one_clean P h before None e = absurd cc
  one_clean P h before (Some ms) e = h before ms e

  pub all_clean : (P : X → Type 0) → Clean (λ _. P) → (before ds : List Data) → elements_faults kernel list before ds
      ≡ [] → AllByRecursion P (map (λ d. value (members_in d)) ds)
  all_clean P h before [] e = tt
  all_clean P h before (d ∷ ds) e =
      let (here, more) = none_in (element_faults kernel list before (as_table d))
      (elements_faults kernel list (before ++ d ∷ []) ds) e in
      (one_clean (λ _. P) h before (as_table d) here, all_clean P h (before ++ d ∷ []) ds more)

  abbrev pub New : (X → X → Bool) → List Data → X → Type 0
  New same before x = list_any (same x) (map (λ d. value (members_in d)) before) ≡ false

  pub all_new : (same : X → X → Bool) → Clean (New same) → (before ds : List Data) →
      elements_faults kernel list before ds ≡ []
      → AllNew same (map (λ d. value (members_in d)) before) (map (λ d. value (members_in d)) ds)
  all_new same h before [] e = tt
  all_new same h before (d ∷ ds) e =
      let (here, more) = none_in (element_faults kernel list before (as_table d))
      (elements_faults kernel list (before ++ d ∷ []) ds) e in
      let rest = all_new same h (before ++ d ∷ []) ds more in (
        one_clean (New same) h before (as_table d) here,
        subst (λ (xs : List X). AllNew same xs (map (λ d. value (members_in d)) ds))
            (map_push (λ d. value (members_in d)) before d) rest,
      )

  -- the parts of a table's faults
  pub parts : (before : List Data) (ms : Members) → table_faults kernel list before ms ≡ []
      → (rows_faults (element_prefix list.key (length before + 1)) kernel list.fields ms ≡ []) ×
      (list_any (says_the_same list.same ms) before ≡ false)
  parts before ms e =
      let prefix = element_prefix list.key (length before + 1) in
      let (_, rest) = none_in (unknown_faults prefix (map (λ r. r.key) list.fields) ms)
      (rows_faults prefix kernel list.fields ms ++ repetition_faults prefix list.same before ms) e in
      let (rows, again) = none_in (rows_faults prefix kernel list.fields ms)
      (repetition_faults prefix list.same before ms) rest in (
        rows,
        not_held (list_any (says_the_same list.same ms) before)
            (held _ _ (not (list_any (says_the_same list.same ms) before)) again),
      )

  -- the elements of a list without a fault
  pub listed : (ms : Members) → list_faults kernel list ms ≡ [] →
      (room_faults list.key list.room ms ≡ []) × (elements_faults kernel list [] (elements_at list.key ms) ≡ [])
  listed ms e =
      let (_, rest) = none_in (list_type_faults list.key (get_member list.key ms))
      (room_faults list.key list.room ms ++ elements_faults kernel list [] (elements_at list.key ms)) e in
      none_in (room_faults list.key list.room ms) (elements_faults kernel list [] (elements_at list.key ms)) rest

vector_clean : (kernel : ℕ) → Clean kernel vector_list vector_of (λ _. IsVector)
vector_clean kernel before ms e =
    let prefix = element_prefix (codes "vector") (length before + 1) in
    let (rows, _) = parts kernel vector_list vector_of before ms e in
    let (function, rest) = none_in (row_faults prefix kernel (row (codes "function") Needed Text) ms) _ rows in
    let (priority, _) = none_in (row_faults prefix kernel (row (codes "priority") Needed (Number (From 0) 255)) ms) _
    rest in
    record {
      function = passed (prefix ++ codes "function") is_some_text (get_member (codes "function") ms) function;
      priority = (number_there (prefix ++ codes "priority") 0 255 (get_member (codes "priority") ms) priority).1;
    }

vector_new : (kernel : ℕ) → Clean kernel vector_list vector_of (New kernel vector_list vector_of same_vector)
vector_new kernel before ms e =
    let (_, again) = parts kernel vector_list vector_of before ms e in
    repeats (same_vector (vector_of ms)) (λ d. vector_of (members_in d)) vector_list.same before ms (λ e. and_true _) ∙
    again

not_locked : (version : ℕ) (b : Bool) → version ≡ 1 → (has_locked version && b) ≡ false
not_locked version b e = rw e refl

callback_clean : (version kernel : ℕ) → Clean kernel (callback_list (has_locked version))
    (callback_of (has_locked version)) (λ _. IsCallback version kernel)
callback_clean version kernel before ms e =
    let prefix = element_prefix (codes "callback") (length before + 1) in
    let (rows, _) = parts kernel (callback_list (has_locked version)) (callback_of (has_locked version)) before ms e in
    let (of_struct, more) = none_in (row_faults prefix kernel (row (codes "struct") Needed Text) ms) _ rows in
    let (member, rest) = none_in (row_faults prefix kernel (row (codes "member") Needed Text) ms) _ more in
    let (priority, _) = none_in (row_faults prefix kernel (row (codes "priority") Needed (Number FromKernel 255)) ms) _
    rest in
    record {
      of_struct = passed (prefix ++ codes "struct") is_some_text (get_member (codes "struct") ms) of_struct;
      member = passed (prefix ++ codes "member") is_some_text (get_member (codes "member") ms) member;
      priority = number_there (prefix ++ codes "priority") kernel 255 (get_member (codes "priority") ms) priority;
      locked = not_locked version _;
    }

callback_new : (locked : Bool) (kernel : ℕ) →
    Clean kernel (callback_list locked) (callback_of locked)
    (New kernel (callback_list locked) (callback_of locked) same_callback)
callback_new locked kernel before ms e =
    let (_, again) = parts kernel (callback_list locked) (callback_of locked) before ms e in
    repeats (same_callback (callback_of locked ms)) (λ d. callback_of locked (members_in d)) (callback_list locked).same
    before ms (λ e. two_and_true _ _) ∙ again

function_clean : (kernel : ℕ) → Clean kernel function_list function_of (λ _. IsFunction)
function_clean kernel before ms e =
    let prefix = element_prefix (codes "function") (length before + 1) in
    let (rows, _) = parts kernel function_list function_of before ms e in
    let (name, _) = none_in (row_faults prefix kernel (row (codes "name") Needed OutsideName) ms) _ rows in
    record {
      name = passed (prefix ++ codes "name") is_outside_name (get_member (codes "name") ms) name;
      op = op_of_class (text_at (codes "class") ms) (truth_at (codes "wakes") ms);
    }

function_new : (kernel : ℕ) → Clean kernel function_list function_of
    (New kernel function_list function_of same_function)
function_new kernel before ms e =
    let (_, again) = parts kernel function_list function_of before ms e in
    repeats (same_function (function_of ms)) (λ d. function_of (members_in d)) function_list.same before ms
    (λ e. and_true _) ∙ again

-- ---- the document

one_or_two : (n : ℕ) → 1 ≤ n → n ≤ 2 → (n ≡ 1) ⊎ (n ≡ 2)
one_or_two zero low high = absurd (omega arith)
one_or_two (suc zero) low high = inl refl
one_or_two (suc (suc n)) low high = inr (omega arith)

document_valid : (ms : Members) → faults_of ms ≡ [] → AreValid (values_of ms)
document_valid ms e =
    let kernel = kernel_priority_of ms in
    let locked = has_locked (version_of ms) in
    let keys = document_rows (version_of ms) in
    let (_, rows) = none_in (unknown_faults [] (map key_of keys) ms) (document_rows_faults kernel keys ms) e in
    let (version, after_version) = none_in (row_faults [] kernel (row (codes "version") Needed (Number (From 1) 2)) ms)
    _ rows in
    let (kernel_there, after_kernel) = none_in (row_faults [] kernel
    (row (codes "kernel_priority") Needed (Number (From 0) 255)) ms) _ after_version in
    let (timer, after_timer) = none_in (row_faults [] kernel
    (row (codes "timer_priority") Optional (Number FromKernel 255)) ms) _ after_kernel in
    let (vectors, after_vectors) = none_in (list_faults kernel vector_list ms) _ after_timer in
    let (callbacks, after_callbacks) = none_in (list_faults kernel (callback_list locked) ms) _ after_vectors in
    let (functions, _) = none_in (list_faults kernel function_list ms) [] after_callbacks in
    let (_, each_vector) = listed kernel vector_list vector_of ms vectors in
    let (room, each_callback) = listed kernel (callback_list locked) (callback_of locked) ms callbacks in
    let (_, each_function) = listed kernel function_list function_of ms functions in
    let vs = elements_at (codes "vector") ms in
    let cs = elements_at (codes "callback") ms in
    let known = number_there (codes "version") 1 2 (get_member (codes "version") ms) version in
    let least = number_there (codes "kernel_priority") 0 255 (get_member (codes "kernel_priority") ms) kernel_there in
    let count : length vs + length cs ≤ 240 = leb-true _ _
    (held (codes "callback") OutOfRange (nat_le (length vs + length cs) 240) room) in
    record {
      version = one_or_two (version_of ms) known.0 known.1;
      kernel = least.1;
      timer = number_or_default (codes "timer_priority") kernel 255 (get_member (codes "timer_priority") ms) least.1
          timer;
      handlers = rw (
        length-map vs (λ d. vector_of (members_in d)),
        length-map cs
            (λ d. callback_of locked (members_in d)),
      ) count;
      vectors = all_clean kernel vector_list vector_of IsVector (vector_clean kernel) [] vs each_vector;
      callbacks = all_clean kernel (callback_list locked) (callback_of locked) (IsCallback (version_of ms) kernel)
          (callback_clean (version_of ms) kernel) [] cs each_callback;
      functions = all_clean kernel function_list function_of IsFunction (function_clean kernel) []
          (elements_at (codes "function") ms) each_function;
      vectors_differ = all_new kernel vector_list vector_of same_vector (vector_new kernel) [] vs each_vector;
      callbacks_differ = all_new kernel (callback_list locked) (callback_of locked) same_callback
          (callback_new locked kernel) [] cs each_callback;
      functions_differ = all_new kernel function_list function_of same_function (function_new kernel) []
          (elements_at (codes "function") ms) each_function;
    }

-- ---- the file

without_faults : (fs : List KeyFault) (x v : Values) → unless_faulty fs x ≡ Ok v → (fs ≡ []) × (x ≡ v)
without_faults [] x v e = (refl, cc)
without_faults (f ∷ fs) x v e = absurd cc

text_valid : (utf8 : Bool) (o : Option Members) (v : Values) → cond utf8 (read_members o) (Err not_toml) ≡ Ok v →
    AreValid v
text_valid true None v e = absurd cc
text_valid true (Some ms) v e =
    let (none, same) = without_faults (faults_of ms) (values_of ms) v e in
    subst (λ (x : Values). AreValid x) same (document_valid ms none)
text_valid false o v e = absurd cc

pub settings_valid : (bytes : List ℕ) (r : Result Settings ReadSettingsError) →
    Gives settings_view r (settings_of bytes) → IfOk r (λ s. AreValid (settings_view s))
unfolding settings_of
settings_valid bytes (Ok s) h = text_valid (is_utf8 bytes) (parse_document bytes) (settings_view s) h
settings_valid bytes (Err e) h = tt
