-- What is read from the first key on is what the table of keys says: the settings where the document has no fault, and
-- else its
-- first fault.
use Rattle.std.proofs.Common.{◌≡◌, ℕ, ◌+◌, Bool, true, false, not, ◌&&◌, List, [], ◌∷◌, ◌++◌, codes, length, map}
use Rattle.std.proofs.Common.{Option, Some, None, Result, Ok, Err, refl, sym, ap, ◌∙◌, append_assoc, append-nil}
use Rattle.std.proofs.lemmas.List.{length-map, map_push}
use Rattle.std.specs.Prelude.{nat_le, if◌then◌else◌}
use Rattle.std.specs.List.{list_any}
use Rattle.std.specs.Option.{option_map_or, is_some}
use Rattle.std.specs.Str.{is_utf8}
use Rattle.toml.specs.Data.{Data, Items, Members, no_members, get_member, as_str, as_integer, as_bool, as_array}
use Rattle.toml.specs.Data.{as_table}
use Rattle.toml.specs.Parse.{parse_document}
use Rattle.ck_base.specs.declared.ops.Op.{Op}
use Rattle.ck_base.specs.declared.ops.Op.TheVariants.{Neutral}
use Rattle.ck_base.specs.declared.settings_faults.SettingsKind.{SettingsKind}
use Rattle.ck_base.specs.declared.settings_faults.SettingsKind.TheVariants.{NotToml, Missing, WrongType, OutOfRange}
use Rattle.ck_base.specs.declared.settings_faults.SettingsKind.TheVariants.{Repeated}
use Rattle.ck_settings.specs.Keys.{From, FromKernel, Number, Text, OutsideName, ClassWord, WakesOfClass, Needed}
use Rattle.ck_settings.specs.Keys.{Optional, row, has_locked, locked_row, ListRow, vector_list, callback_list}
use Rattle.ck_settings.specs.Keys.{function_list, document_rows}
use Rattle.ck_settings.specs.Classes.{op_of}
use Rattle.ck_settings.specs.Values.{natural, number_in, text_in, truth_in, data_of, elements_in, number_at, text_at}
use Rattle.ck_settings.specs.Values.{elements_at, members_in, vector_of, callback_of, function_of, version_of}
use Rattle.ck_settings.specs.Values.{kernel_priority_of, values_of}
use Rattle.ck_settings.specs.Faults.{KeyFault, unless, at_most_one, judged, is_within, is_some_text, is_outside_name}
use Rattle.ck_settings.specs.Faults.{is_class, row_faults, rows_faults, unknown_faults, element_key, element_prefix}
use Rattle.ck_settings.specs.Faults.{says_the_same, repetition_faults, table_faults, element_faults, elements_faults}
use Rattle.ck_settings.specs.Faults.{list_type_faults, room_faults, list_faults, key_of, faults_of}
use Rattle.ck_settings.specs.Documents.{unless_faulty, not_toml, settings_of, read_members}
use Rattle.ck_settings.specs.Reading as reading
use Rattle.ck_settings.specs.Reading.{◌>>=◌, or_fault, require, locked_read, number_read, number_found, truth_found}
use Rattle.ck_settings.specs.Reading.{list_found, text_where, op_read, element, elements, fields_of, has_function}
use Rattle.ck_settings.specs.Reading.{has_member, has_name, only, toml, file, document}
use Rattle.ck_settings.proofs.Repeated.{list_any_map}

-- ---- one after another

-- faults and a value, and then more faults and a value
joined : {A B : Type 0} (fs gs : List KeyFault) (x : A) (y : B) (f : A → Result B KeyFault) →
    (fs ≡ [] → f x ≡ unless_faulty gs y)
    → (unless_faulty fs x >>= f) ≡ unless_faulty (fs ++ gs) y
joined [] gs x y f next = next refl
joined (e ∷ fs) gs x y f next = refl

-- the same, of a step that gives the first faults and value
step : {A B : Type 0} (r : Result A KeyFault) (fs gs : List KeyFault) (x : A) (y : B) (f : A → Result B KeyFault) → r
    ≡ unless_faulty fs x
    → (fs ≡ [] → f x ≡ unless_faulty gs y) → (r >>= f) ≡ unless_faulty (fs ++ gs) y
step r fs gs x y f is next = ap (λ s. s >>= f) is ∙ joined fs gs x y f next

required : {A : Type 0} (key : List ℕ) (kind : SettingsKind) (fine : Bool) (x : A) → require key kind fine x
    ≡ unless_faulty (unless fine key kind) x
required key kind true x = refl
required key kind false x = refl

-- ---- a value

tested : {A : Type 0} (key : List ℕ) (fine : Bool) (x : A) → require key OutOfRange fine x
    ≡ unless_faulty (at_most_one key (if fine then None else Some OutOfRange)) x
tested key true x = refl
tested key false x = refl

typed : {A B : Type 0} (key : List ℕ) (o : Option A) (fine : A → Bool) (value : A → B) (default : B)
    → (or_fault key WrongType o >>= λ x. require key OutOfRange (fine x) (value x))
    ≡ unless_faulty (at_most_one key (judged o fine)) (option_map_or value o default)
typed key None fine value default = refl
typed key (Some x) fine value default = tested key (fine x) (value x)

there : {B : Type 0} (key : List ℕ) (o : Option Data) (fault : Data → Option SettingsKind) (value : Data → B)
    (default : B) (read : Data → Result B KeyFault)
    → ((d : Data) → read d ≡ unless_faulty (at_most_one key (fault d)) (value d))
    → (or_fault key Missing o >>= read) ≡ unless_faulty (at_most_one key (option_map_or fault o (Some Missing)))
    (option_map_or value o default)
there key None fault value default read h = refl
there key (Some d) fault value default read h = h d

number_read_is : (key : List ℕ) (least most : ℕ) (d : Data) → number_read key least most d
    ≡ unless_faulty (at_most_one key (judged (as_integer d) (is_within least most))) (number_in d)
unfolding number_read
number_read_is key least most d = typed key (as_integer d) (is_within least most) natural 0

number_is : (prefix : List ℕ) (least most : ℕ) (key : List ℕ) (ms : Members)
    → reading.number prefix least most key ms ≡ unless_faulty
    (at_most_one (prefix ++ key) (option_map_or (λ d. judged (as_integer d) (is_within least most))
    (get_member key ms) (Some Missing))) (number_at 0 key ms)
unfolding reading.number
number_is prefix least most key ms =
    there (prefix ++ key) (get_member key ms) (λ d. judged (as_integer d) (is_within least most)) number_in 0
    (number_read (prefix ++ key) least most) (number_read_is (prefix ++ key) least most)

number_found_is : (key : List ℕ) (least most default : ℕ) (o : Option Data)
    → number_found key least most default o ≡ unless_faulty
    (at_most_one key (option_map_or (λ d. judged (as_integer d) (is_within least most)) o None))
    (option_map_or number_in o default)
number_found_is key least most default None = refl
number_found_is key least most default (Some d) = number_read_is key least most d

text_is : (fine : List ℕ → Bool) (prefix key : List ℕ) (ms : Members)
    → text_where fine prefix key ms ≡ unless_faulty
    (at_most_one (prefix ++ key) (option_map_or (λ d. judged (as_str d) fine) (get_member key ms) (Some Missing)))
    (text_at key ms)
unfolding text_where
text_is fine prefix key ms =
    there (prefix ++ key) (get_member key ms) (λ d. judged (as_str d) fine) text_in [] _
    (λ d. typed (prefix ++ key) (as_str d) fine (λ s. s) [])

-- ---- the class and `wakes`

op_there : (key : List ℕ) (o : Option Op) → is_some o ≡ true → or_fault key OutOfRange o
    ≡ Ok (option_map_or (λ op. op) o Neutral)
op_there key None h = absurd cc
op_there key (Some op) h = refl

op_found : (key : List ℕ) (o : Option Op) → or_fault key OutOfRange o
    ≡ unless_faulty (at_most_one key (if is_some o then None else Some OutOfRange)) (option_map_or (λ op. op) o Neutral)
op_found key None = refl
op_found key (Some op) = refl

wakes_typed : (key class : List ℕ) (o : Option Bool)
    → (or_fault key WrongType o >>= λ wakes. or_fault key OutOfRange (op_of class wakes))
    ≡ unless_faulty (at_most_one key (judged o (λ wakes. is_some (op_of class wakes))))
    (option_map_or (λ op. op) (op_of class (option_map_or (λ b. b) o false)) Neutral)
wakes_typed key class None = refl
wakes_typed key class (Some wakes) = op_found key (op_of class wakes)

wakes_is : (key class : List ℕ) (o : Option Data) → is_class class ≡ true
    → (truth_found key o >>= λ wakes. or_fault key OutOfRange (op_of class wakes))
    ≡ unless_faulty (at_most_one key (option_map_or (λ d. judged (as_bool d) (λ wakes. is_some (op_of class wakes))) o
    None)) (option_map_or (λ op. op) (op_of class (option_map_or truth_in o false)) Neutral)
wakes_is key class None h = op_there key (op_of class false) h
wakes_is key class (Some d) h = wakes_typed key class (as_bool d)

-- what a text is that has no fault
pub passed_test : (key : List ℕ) (b : Bool) → at_most_one key (if b then None else Some OutOfRange) ≡ [] → b ≡ true
passed_test key true h = refl
passed_test key false h = absurd cc

passed_typed : (key : List ℕ) (fine : List ℕ → Bool) (o : Option (List ℕ)) → at_most_one key (judged o fine) ≡ [] →
    fine (option_map_or (λ s. s) o []) ≡ true
passed_typed key fine None h = absurd cc
passed_typed key fine (Some s) h = passed_test key (fine s) h

pub passed : (key : List ℕ) (fine : List ℕ → Bool) (o : Option Data) →
    at_most_one key (option_map_or (λ d. judged (as_str d) fine) o (Some Missing)) ≡ [] →
    fine (option_map_or text_in o []) ≡ true
passed key fine None h = absurd cc
passed key fine (Some d) h = passed_typed key fine (as_str d) h

abbrev class_faults : List ℕ → Members → List KeyFault
class_faults prefix ms = row_faults prefix 0 (row (codes "class") Needed ClassWord) ms

abbrev wakes_faults : List ℕ → Members → List KeyFault
wakes_faults prefix ms = row_faults prefix 0 (row (codes "wakes") Optional WakesOfClass) ms

op_is : (prefix : List ℕ) (ms : Members) → op_read prefix ms
    ≡ unless_faulty (class_faults prefix ms ++ wakes_faults prefix ms) (function_of ms).op
unfolding op_read
op_is prefix ms =
    step (text_where is_class prefix (codes "class") ms) (class_faults prefix ms) (wakes_faults prefix ms)
    (text_at (codes "class") ms) (function_of ms).op _
    (text_is is_class prefix (codes "class") ms)
    (λ none. wakes_is (prefix ++ codes "wakes") (text_at (codes "class") ms) (get_member (codes "wakes") ms)
    (passed (prefix ++ codes "class") is_class (get_member (codes "class") ms) none))

-- ---- repetitions

list_any_same : {A : Type 0} (p q : A → Bool) (xs : List A) → ((x : A) → p x ≡ q x) → list_any p xs ≡ list_any q xs
list_any_same p q [] h = refl
list_any_same p q (x ∷ xs) h = rw (h x, list_any_same p q xs h) refl

pub and_true : (b : Bool) → b ≡ (b && true)
and_true true = refl
and_true false = refl

pub two_and_true : (a b : Bool) → (a && b) ≡ (a && (b && true))
two_and_true a true = refl
two_and_true a false = refl

-- the test on what was read before is the test on the elements before
pub repeats : {X : Type 0} (test : X → Bool) (value : Data → X) (same : List (List ℕ)) (before : List Data)
    (ms : Members)
    → ((e : Data) → test (value e) ≡ says_the_same same ms e) → list_any test (map value before)
    ≡ list_any (says_the_same same ms) before
repeats test value same before ms h = list_any_map test value before ∙ list_any_same (λ e. test (value e))
    (says_the_same same ms) before h

once : {X Y : Type 0} (key : List ℕ) (test : X → Bool) (value : Data → X) (same : List (List ℕ)) (before : List Data)
    (ms : Members) (y : Y)
    → ((e : Data) → test (value e) ≡ says_the_same same ms e)
    → require key Repeated (not (list_any test (map value before))) y
    ≡ unless_faulty (unless (not (list_any (says_the_same same ms) before)) key Repeated) y
once key test value same before ms y h =
    ap (λ b. require key Repeated (not b) y) (repeats test value same before ms h) ∙ required key Repeated
    (not (list_any (says_the_same same ms) before)) y

-- ---- the elements

two_rows : (a b c : List KeyFault) → a ++ (b ++ c) ≡ (a ++ (b ++ [])) ++ c
two_rows a b c = sym (append_assoc a (b ++ []) c ∙ ap (λ t. a ++ t) (append_assoc b [] c))

three_rows : (a b c d : List KeyFault) → a ++ (b ++ (c ++ d)) ≡ (a ++ (b ++ (c ++ []))) ++ d
three_rows a b c d = ap (λ t. a ++ t) (two_rows b c d) ∙ sym (append_assoc a (b ++ (c ++ [])) d)

rows_first : (a b c d e : List KeyFault) → a ++ (b ++ (c ++ (d ++ e))) ≡ (a ++ (b ++ (c ++ d))) ++ e
rows_first a b c d e = sym (append_assoc a (b ++ (c ++ d)) e ∙ ap (λ t. a ++ t)
    (append_assoc b (c ++ d) e ∙ ap (λ t. b ++ t) (append_assoc c d e)))

abbrev repeated : List ℕ → ListRow → List Data → Members → List KeyFault
repeated prefix list before ms = repetition_faults prefix list.same before ms

vector_is : (kernel : ℕ) (prefix : List ℕ) (before : List Data) (ms : Members)
    → reading.vector prefix (map (λ d. vector_of (members_in d)) before) ms
    ≡ unless_faulty (unknown_faults prefix (fields_of vector_list) ms ++
    (rows_faults prefix kernel vector_list.fields ms ++ repeated prefix vector_list before ms)) (vector_of ms)
unfolding reading.vector
vector_is kernel prefix before ms =
    let function = row_faults prefix kernel (row (codes "function") Needed Text) ms in
    let priority = row_faults prefix kernel (row (codes "priority") Needed (Number (From 0) 255)) ms in
    let again = repeated prefix vector_list before ms in
    step (only prefix (fields_of vector_list) ms) (unknown_faults prefix (fields_of vector_list) ms)
    (rows_faults prefix kernel vector_list.fields ms ++ again) (tt {0}) (vector_of ms) _ refl
    (λ _. step (text_where is_some_text prefix (codes "function") ms) function (priority ++ again)
    (text_at (codes "function") ms) (vector_of ms) _ (text_is is_some_text prefix (codes "function") ms)
    (λ _. step (reading.number prefix 0 255 (codes "priority") ms) priority again (number_at 0 (codes "priority") ms)
    (vector_of ms) _ (number_is prefix 0 255 (codes "priority") ms)
    (λ _. once (prefix ++ codes "function") (has_function (text_at (codes "function") ms))
    (λ d. vector_of (members_in d)) vector_list.same before ms (vector_of ms) (λ e. and_true _)))
    ∙ ap (λ fs. unless_faulty fs (vector_of ms)) (two_rows function priority again))

truth_is : (key : List ℕ) (o : Option Data)
    → truth_found key o ≡ unless_faulty (at_most_one key (option_map_or (λ d. judged (as_bool d) (λ _. true)) o None) ++
    []) (option_map_or truth_in o false)
truth_is key None = refl
truth_is key (Some d) = typed_truth key (as_bool d) where
  typed_truth : (key : List ℕ) (o : Option Bool)
      → or_fault key WrongType o ≡ unless_faulty (at_most_one key (judged o (λ _. true)) ++ [])
      (option_map_or (λ b. b) o false)
  typed_truth key None = refl
  typed_truth key (Some b) = refl

locked_is : (locked : Bool) (prefix : List ℕ) (kernel : ℕ) (ms : Members)
    → locked_read locked prefix ms ≡ unless_faulty (rows_faults prefix kernel (locked_row locked) ms)
    (callback_of locked ms).locked
locked_is true prefix kernel ms = truth_is (prefix ++ codes "locked") (get_member (codes "locked") ms)
locked_is false prefix kernel ms = refl

callback_is : (locked : Bool) (kernel : ℕ) (prefix : List ℕ) (before : List Data) (ms : Members)
    → reading.callback locked kernel prefix (map (λ d. callback_of locked (members_in d)) before) ms
    ≡ unless_faulty (unknown_faults prefix (fields_of (callback_list locked)) ms ++
    (rows_faults prefix kernel (callback_list locked).fields ms ++ repeated prefix (callback_list locked) before
    ms)) (callback_of locked ms)
unfolding reading.callback
callback_is locked kernel prefix before ms =
    let of_struct = row_faults prefix kernel (row (codes "struct") Needed Text) ms in
    let member = row_faults prefix kernel (row (codes "member") Needed Text) ms in
    let priority = row_faults prefix kernel (row (codes "priority") Needed (Number FromKernel 255)) ms in
    let rest = rows_faults prefix kernel (locked_row locked) ms in
    let list = callback_list locked in
    let again = repeated prefix list before ms in
    let value = callback_of locked ms in
    step (only prefix (fields_of list) ms) (unknown_faults prefix (fields_of list) ms)
    (rows_faults prefix kernel list.fields ms ++ again) (tt {0}) value _ refl
    (λ _. step (text_where is_some_text prefix (codes "struct") ms) of_struct (member ++ (priority ++ (rest ++ again)))
    (text_at (codes "struct") ms) value _ (text_is is_some_text prefix (codes "struct") ms)
    (λ _. step (text_where is_some_text prefix (codes "member") ms) member (priority ++ (rest ++ again))
    (text_at (codes "member") ms) value _ (text_is is_some_text prefix (codes "member") ms)
    (λ _. step (reading.number prefix kernel 255 (codes "priority") ms) priority (rest ++ again)
    (number_at 0 (codes "priority") ms) value _ (number_is prefix kernel 255 (codes "priority") ms)
    (λ _. step (locked_read locked prefix ms) rest again value.locked value _ (locked_is locked prefix kernel ms)
    (λ _. once (prefix ++ codes "member") (has_member (text_at (codes "struct") ms) (text_at (codes "member") ms))
    (λ d. callback_of locked (members_in d)) list.same before ms value
    (λ e. two_and_true _ _)))))
    ∙ ap (λ fs. unless_faulty fs value) (rows_first of_struct member priority rest again))

function_is : (kernel : ℕ) (prefix : List ℕ) (before : List Data) (ms : Members)
    → reading.function prefix (map (λ d. function_of (members_in d)) before) ms
    ≡ unless_faulty (unknown_faults prefix (fields_of function_list) ms ++
    (rows_faults prefix kernel function_list.fields ms ++ repeated prefix function_list before ms)) (function_of ms)
unfolding reading.function
function_is kernel prefix before ms =
    let name = row_faults prefix kernel (row (codes "name") Needed OutsideName) ms in
    let class = class_faults prefix ms in
    let wakes = wakes_faults prefix ms in
    let again = repeated prefix function_list before ms in
    step (only prefix (fields_of function_list) ms) (unknown_faults prefix (fields_of function_list) ms)
    (rows_faults prefix kernel function_list.fields ms ++ again) (tt {0}) (function_of ms) _ refl
    (λ _. step (text_where is_outside_name prefix (codes "name") ms) name ((class ++ wakes) ++ again)
    (text_at (codes "name") ms) (function_of ms) _ (text_is is_outside_name prefix (codes "name") ms)
    (λ _. step (op_read prefix ms) (class ++ wakes) again (function_of ms).op (function_of ms) _ (op_is prefix ms)
    (λ _. once (prefix ++ codes "name") (has_name (text_at (codes "name") ms)) (λ d. function_of (members_in d))
    function_list.same before ms (function_of ms) (λ e. and_true _)))
    ∙ ap (λ fs. unless_faulty (name ++ fs) (function_of ms)) (append_assoc class wakes again)
    ∙ ap (λ fs. unless_faulty fs (function_of ms)) (three_rows name class wakes again))

module _ {X : Type 0} (kernel : ℕ) (list : ListRow) (value : Members → X)
    (fields : List ℕ → List X → Members → Result X KeyFault) where
  abbrev of_data : Data → X
  of_data d = value (members_in d)

  abbrev TableRead : Type 0
  TableRead = (before : List Data) (ms : Members)
      → fields (element_prefix list.key (length before + 1)) (map of_data before) ms
      ≡ unless_faulty (table_faults kernel list before ms) (value ms)

  in_element : (before : List Data) (o : Option Members) → TableRead
      → (or_fault (element_key list.key (length before + 1)) WrongType o >>= λ ms. fields
      (element_prefix list.key (length before + 1)) (map of_data before) ms)
      ≡ unless_faulty (element_faults kernel list before o) (value (option_map_or (λ ms. ms) o no_members))
  in_element before None h = refl
  in_element before (Some ms) h = h before ms

  element_is : (before : List Data) (d : Data) → TableRead
      → element list.key fields (map of_data before) d
      ≡ unless_faulty (element_faults kernel list before (as_table d)) (of_data d)
  unfolding element
  element_is before d h = rw (length-map before of_data) (in_element before (as_table d) h)

  elements_are : (before ds : List Data) → TableRead
      → elements (element list.key fields) (map of_data before) ds
      ≡ unless_faulty (elements_faults kernel list before ds) (map of_data (before ++ ds))
  unfolding elements
  elements_are before [] h = ap (λ xs. Ok (map of_data xs)) (sym (append-nil before))
  elements_are before (d ∷ ds) h =
      let put : map of_data before ++ of_data d ∷ []
      ≡ map of_data (before ++ d ∷ []) = sym (map_push of_data before d) in
      let more : elements (element list.key fields) (map of_data before ++ of_data d ∷ []) ds
      ≡ unless_faulty (elements_faults kernel list (before ++ d ∷ []) ds) (map of_data (before ++ d ∷ ds)) =
      ap (λ xs. elements (element list.key fields) xs ds) put ∙ elements_are (before ++ d ∷ []) ds h
      ∙ ap (λ xs. unless_faulty (elements_faults kernel list (before ++ d ∷ []) ds) (map of_data xs))
      (append_assoc before (d ∷ []) ds) in
      step (element list.key fields (map of_data before) d) (element_faults kernel list before (as_table d))
      (elements_faults kernel list (before ++ d ∷ []) ds) (of_data d) (map of_data (before ++ d ∷ ds)) _
      (element_is before d h) (λ _. more)

-- ---- the lists

list_typed : (key : List ℕ) (d : Data) (o : Option Items) → (or_fault key WrongType o >>= λ items. Ok (data_of items))
    ≡ unless_faulty (unless (is_some o) key WrongType) (option_map_or data_of o [])
list_typed key d None = refl
list_typed key d (Some items) = refl

list_is : (key : List ℕ) (o : Option Data) → list_found key o
    ≡ unless_faulty (list_type_faults key o) (option_map_or elements_in o [])
list_is key None = refl
list_is key (Some d) = list_typed key d (as_array d)

vectors_are : (kernel : ℕ) (ms : Members) → reading.vectors ms
    ≡ unless_faulty (list_faults kernel vector_list ms) (values_of ms).vectors
unfolding reading.vectors
vectors_are kernel ms =
    let ds = elements_at (codes "vector") ms in
    step (reading.list [] (codes "vector") ms) (list_type_faults (codes "vector") (get_member (codes "vector") ms))
    (elements_faults kernel vector_list [] ds) ds (values_of ms).vectors _
    (list_is (codes "vector") (get_member (codes "vector") ms))
    (λ _. elements_are kernel vector_list vector_of reading.vector [] ds
    (λ before ms'. vector_is kernel (element_prefix (codes "vector") (length before + 1)) before ms'))

callbacks_are : (kernel : ℕ) (ms : Members)
    → reading.callbacks (has_locked (version_of ms)) kernel (length (values_of ms).vectors) ms
    ≡ unless_faulty (list_faults kernel (callback_list (has_locked (version_of ms))) ms) (values_of ms).callbacks
unfolding reading.callbacks
callbacks_are kernel ms =
    let locked = has_locked (version_of ms) in
    let list = callback_list locked in
    let key = codes "callback" in
    let vs = elements_at (codes "vector") ms in
    let ds = elements_at key ms in
    let types = list_type_faults key (get_member key ms) in
    let room = room_faults key list.room ms in
    let rest = elements_faults kernel list [] ds in
    rw (length-map vs (λ d. vector_of (members_in d)))
    (step (reading.list [] key ms) types (room ++ rest) ds (values_of ms).callbacks _ (list_is key (get_member key ms))
    (λ _. step (require key OutOfRange (nat_le (length vs + length ds) 240) (tt {0})) room rest (tt {0})
    (values_of ms).callbacks _ (required key OutOfRange (nat_le (length vs + length ds) 240) (tt {0}))
    (λ _. elements_are kernel list (callback_of locked) (reading.callback locked kernel) [] ds
    (λ before ms'. callback_is locked kernel (element_prefix key (length before + 1)) before ms'))))

functions_are : (kernel : ℕ) (ms : Members) → reading.functions ms
    ≡ unless_faulty (list_faults kernel function_list ms) (values_of ms).functions
unfolding reading.functions
functions_are kernel ms =
    let ds = elements_at (codes "function") ms in
    step (reading.list [] (codes "function") ms) (list_type_faults (codes "function")
    (get_member (codes "function") ms)) (elements_faults kernel function_list [] ds) ds (values_of ms).functions _
    (list_is (codes "function") (get_member (codes "function") ms))
    (λ _. elements_are kernel function_list function_of reading.function [] ds
    (λ before ms'. function_is kernel (element_prefix (codes "function") (length before + 1)) before ms'))

-- ---- the document and the file

document_is : (ms : Members) → document ms ≡ unless_faulty (faults_of ms) (values_of ms)
unfolding document
document_is ms =
    let kernel = kernel_priority_of ms in
    let version = row_faults [] kernel (row (codes "version") Needed (Number (From 1) 2)) ms in
    let kernel_priority = row_faults [] kernel (row (codes "kernel_priority") Needed (Number (From 0) 255)) ms in
    let timer_priority = row_faults [] kernel (row (codes "timer_priority") Optional (Number FromKernel 255)) ms in
    let vectors = list_faults kernel vector_list ms in
    let rows = document_rows (version_of ms) in
    let callbacks = list_faults kernel (callback_list (has_locked (version_of ms))) ms in
    let functions = list_faults kernel function_list ms ++ [] in
    let values = values_of ms in
    step (only [] (map key_of rows) ms) (unknown_faults [] (map key_of rows) ms)
    (version ++ (kernel_priority ++ (timer_priority ++ (vectors ++ (callbacks ++ functions))))) (tt {0}) values _
    refl
    (λ _. step (reading.number [] 1 2 (codes "version") ms) version
    (kernel_priority ++ (timer_priority ++ (vectors ++ (callbacks ++ functions)))) values.version values _
    (number_is [] 1 2 (codes "version") ms)
    (λ _. step (reading.number [] 0 255 (codes "kernel_priority") ms) kernel_priority
    (timer_priority ++ (vectors ++ (callbacks ++ functions))) kernel values _
    (number_is [] 0 255 (codes "kernel_priority") ms)
    (λ _. step (reading.number_or [] kernel 255 kernel (codes "timer_priority") ms) timer_priority
    (vectors ++ (callbacks ++ functions)) values.timer_priority values _
    (number_found_is (codes "timer_priority") kernel 255 kernel (get_member (codes "timer_priority") ms))
    (λ _. step (reading.vectors ms) vectors (callbacks ++ functions) values.vectors values _ (vectors_are kernel ms)
    (λ _. step (reading.callbacks (has_locked values.version) kernel (length values.vectors) ms) callbacks functions
    values.callbacks values _ (callbacks_are kernel ms)
    (λ _. step (reading.functions ms) (list_faults kernel function_list ms) [] values.functions values _
    (functions_are kernel ms) (λ _. refl)))))))

members_read : (o : Option Members) → (or_fault (codes "rtcheck.toml") NotToml o >>= document) ≡ read_members o
members_read None = refl
members_read (Some ms) = document_is ms

text_read : (utf8 : Bool) (o : Option Members)
    → ((if utf8 then or_fault (codes "rtcheck.toml") NotToml o else Err not_toml) >>= document)
    ≡ (if utf8 then read_members o else Err not_toml)
text_read true o = members_read o
text_read false o = refl

-- what is read of a file is what the file says
pub file_is : (bytes : List ℕ) → file bytes ≡ settings_of bytes
unfolding file toml settings_of
file_is bytes = text_read (is_utf8 bytes) (parse_document bytes)
