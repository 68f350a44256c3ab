-- The settings that a document writes, with the defaults where a key is left out. They mean something where the
-- document has no fault (specs/Faults.antt).
use Rattle.std.specs.Prelude.{ℕ, ℤ, pos, negsuc, Bool, false, ◌&&◌, List, [], ◌∷◌, codes, map, string_bytes}
use Rattle.std.specs.Option.{option_map_or}
use Rattle.toml.specs.Data.{Data, Items, no_items, item, Members, no_members, get_member, as_str, as_integer, as_bool}
use Rattle.toml.specs.Data.{as_array, as_table}
use Rattle.ck_base.specs.declared.ops.Op.{Op}
use Rattle.ck_base.specs.declared.ops.Op.TheVariants.{Neutral}
use Rattle.ck_settings.specs.Keys.{has_locked}
use Rattle.ck_settings.specs.Classes.{op_of}
use Rattle.ck_settings.specs.declared.settings.Settings.{Settings}
use Rattle.ck_settings.specs.declared.settings.VectorSetting.{VectorSetting}
use Rattle.ck_settings.specs.declared.settings.CallbackSetting.{CallbackSetting}
use Rattle.ck_settings.specs.declared.settings.FunctionSetting.{FunctionSetting}

-- an element of `vector`
pub record Vector : Type 0 where
  pub function : List ℕ
  pub priority : ℕ

-- an element of `callback`
pub record Callback : Type 0 where
  pub of_struct : List ℕ
  pub member : List ℕ
  pub priority : ℕ
  pub locked : Bool

-- an element of `function`
pub record Function : Type 0 where
  pub name : List ℕ
  pub op : Op

-- the settings, without where they lie in memory
pub record Values : Type 0 where
  pub version : ℕ
  pub kernel_priority : ℕ
  pub timer_priority : ℕ
  pub vectors : List Vector
  pub callbacks : List Callback
  pub functions : List Function

-- ---- what a document has at a key

abbrev pub natural : ℤ → ℕ
natural (pos n) = n
natural (negsuc n) = 0

-- a value as a number, a text, a truth value, a list
abbrev pub number_in : Data → ℕ
number_in d = option_map_or natural (as_integer d) 0

abbrev pub text_in : Data → List ℕ
text_in d = option_map_or (λ s. s) (as_str d) []

abbrev pub truth_in : Data → Bool
truth_in d = option_map_or (λ b. b) (as_bool d) false

abbrev pub data_of : Items → List Data
data_of no_items = []
data_of (item d ds) = d ∷ data_of ds

abbrev pub elements_in : Data → List Data
elements_in d = option_map_or data_of (as_array d) []

-- what is at a key: the number, or this default; the text; the truth value, or false; the elements of the list
abbrev pub number_at : ℕ → List ℕ → Members → ℕ
number_at default key ms = option_map_or number_in (get_member key ms) default

abbrev pub text_at : List ℕ → Members → List ℕ
text_at key ms = option_map_or text_in (get_member key ms) []

abbrev pub truth_at : List ℕ → Members → Bool
truth_at key ms = option_map_or truth_in (get_member key ms) false

abbrev pub elements_at : List ℕ → Members → List Data
elements_at key ms = option_map_or elements_in (get_member key ms) []

-- the members of an element
abbrev pub members_in : Data → Members
members_in d = option_map_or (λ ms. ms) (as_table d) no_members

-- ---- the settings

abbrev pub vector_of : Members → Vector
vector_of ms = record {
  function = text_at (codes "function") ms;
  priority = number_at 0 (codes "priority") ms;
}

-- Without the key `locked`, in a document of version 1, no callback is locked.
abbrev pub callback_of : Bool → Members → Callback
callback_of locked ms = record {
  of_struct = text_at (codes "struct") ms;
  member = text_at (codes "member") ms;
  priority = number_at 0 (codes "priority") ms;
  locked = locked && truth_at (codes "locked") ms;
}

abbrev pub function_of : Members → Function
function_of ms = record {
  name = text_at (codes "name") ms;
  op = option_map_or (λ op. op) (op_of (text_at (codes "class") ms) (truth_at (codes "wakes") ms)) Neutral;
}

abbrev pub version_of : Members → ℕ
version_of ms = number_at 0 (codes "version") ms

abbrev pub kernel_priority_of : Members → ℕ
kernel_priority_of ms = number_at 0 (codes "kernel_priority") ms

abbrev pub values_of : Members → Values
values_of ms = record {
  version = version_of ms;
  kernel_priority = kernel_priority_of ms;
  timer_priority = number_at (kernel_priority_of ms) (codes "timer_priority") ms;
  vectors = map (λ d. vector_of (members_in d)) (elements_at (codes "vector") ms);
  callbacks = map (λ d. callback_of (has_locked (version_of ms)) (members_in d)) (elements_at (codes "callback") ms);
  functions = map (λ d. function_of (members_in d)) (elements_at (codes "function") ms);
}

-- ---- the plain record of a `Settings`

abbrev pub vector_view : VectorSetting → Vector
vector_view v = record { function = string_bytes v.function; priority = v.priority }

abbrev pub callback_view : CallbackSetting → Callback
callback_view c = record {
  of_struct = string_bytes c.of_struct;
  member = string_bytes c.member;
  priority = c.priority;
  locked = c.locked;
}

abbrev pub function_view : FunctionSetting → Function
function_view f = record { name = string_bytes f.name; op = f.op }

abbrev pub settings_view : Settings → Values
settings_view s = record {
  version = s.version;
  kernel_priority = s.kernel_priority;
  timer_priority = s.timer_priority;
  vectors = map vector_view s.vectors.items;
  callbacks = map callback_view s.callbacks.items;
  functions = map function_view s.functions.items;
}
