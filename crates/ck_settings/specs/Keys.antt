-- The table of keys: each key of rtcheck.toml, what its value has to be, and whether it is needed. The order of the
-- rows is the order in which faults are told. docs/SETTINGS.md, "The keys", has the same rows.
use Rattle.std.specs.Prelude.{ℕ, ◌==◌, Bool, true, false, List, [], ◌∷◌, codes}

-- the greatest priority of an interrupt
abbrev pub greatest_priority : ℕ
greatest_priority = 255

-- how many vectors and callbacks there may be together
abbrev pub most_handlers : ℕ
most_handlers = 240

-- from where on a number may be: from this one, or from the document's kernel_priority
pub data Least : Type 0 where
  From : ℕ → Least
  FromKernel : Least

-- what a value has to be
pub data Form : Type 0 where
  Number : Least → ℕ → Form
  Truth : Form
  Text : Form
  OutsideName : Form
  ClassWord : Form
  WakesOfClass : Form

pub data Need : Type 0 where
  Needed : Need
  Optional : Need

-- a key with one value
pub record Row : Type 0 where
  pub key : List ℕ
  pub need : Need
  pub form : Form

-- how many elements a list may have: any number, or this many, together with those of another list
pub data Room : Type 0 where
  AnyNumber : Room
  Together : List ℕ → ℕ → Room

-- A key with a list of tables. Two elements whose texts at the keys of `same` are the same repeat each other, which is
-- a fault at the last of these keys.
pub record ListRow : Type 0 where
  pub key : List ℕ
  pub room : Room
  pub fields : List Row
  pub same : List (List ℕ)

pub data DocumentRow : Type 0 where
  Single : Row → DocumentRow
  Tables : ListRow → DocumentRow

abbrev pub row : List ℕ → Need → Form → Row
row key need form = record { key = key; need = need; form = form }

-- vector: the functions of interrupt vectors
abbrev pub vector_list : ListRow
vector_list = record {
  key = codes "vector";
  room = AnyNumber;
  fields =
      row (codes "function") Needed Text ∷
      row (codes "priority") Needed (Number (From 0) greatest_priority) ∷ [];
  same = codes "function" ∷ [];
}

-- whether the callbacks of a document of this version have the key `locked`
abbrev pub has_locked : ℕ → Bool
has_locked version = version == 2

abbrev pub locked_row : Bool → List Row
locked_row true = row (codes "locked") Optional Truth ∷ []
locked_row false = []

-- callback: the members that handlers call
abbrev pub callback_list : Bool → ListRow
callback_list locked = record {
  key = codes "callback";
  room = Together (codes "vector") most_handlers;
  fields =
      row (codes "struct") Needed Text ∷
      row (codes "member") Needed Text ∷
      row (codes "priority") Needed (Number FromKernel greatest_priority) ∷ locked_row locked;
  same = codes "struct" ∷ codes "member" ∷ [];
}

-- function: the functions that the project calls and has no body of
abbrev pub function_list : ListRow
function_list = record {
  key = codes "function";
  room = AnyNumber;
  fields =
      row (codes "name") Needed OutsideName ∷
      row (codes "class") Needed ClassWord ∷
      row (codes "wakes") Optional WakesOfClass ∷ [];
  same = codes "name" ∷ [];
}

-- the keys of a document of this version
abbrev pub document_rows : ℕ → List DocumentRow
document_rows version =
    Single (row (codes "version") Needed (Number (From 1) 2)) ∷
    Single (row (codes "kernel_priority") Needed (Number (From 0) greatest_priority)) ∷
    Single (row (codes "timer_priority") Optional (Number FromKernel greatest_priority)) ∷
    Tables vector_list ∷
    Tables (callback_list (has_locked version)) ∷
    Tables function_list ∷ []
