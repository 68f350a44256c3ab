-- The document of version 2 that says what some settings are, each key in its place in byte order. Private contracts
-- alone speak of it.
use Rattle.std.specs.Prelude.{ℕ, pos, Bool, true, false, List, codes, map}
use Rattle.toml.specs.Data.{Data, string, integer, boolean, array, table, Members, no_members, member}
use Rattle.std.specs.Ordering.{nat_cmp, match_ordering}
use Rattle.std.specs.Cmp.Lexicographic.{slice_cmp}
use Rattle.toml.specs.View.{items_of}
use Rattle.ck_base.specs.declared.ops.Op.{Op}
use Rattle.ck_base.specs.declared.ops.Op.TheVariants.{IQuiet, IWakes, SPlain, SWakes, Normal, Free}
use Rattle.ck_settings.specs.Values.{Vector, Callback, Function, Values}

-- the class and `wakes` of an op that an outside function may have
abbrev pub class_of : Op → List ℕ
class_of Normal = codes "normal"
class_of IQuiet = codes "I"
class_of IWakes = codes "I"
class_of SPlain = codes "S"
class_of SWakes = codes "S"
class_of Free = codes "X"
class_of _ = codes "neutral"

abbrev pub wakes_of : Op → Bool
wakes_of IWakes = true
wakes_of SWakes = true
wakes_of _ = false

abbrev pub vector_members : Vector → Members
vector_members v =
    member (codes "function") (string v.function) (member (codes "priority") (integer (pos v.priority)) no_members)

abbrev pub callback_members : Callback → Members
callback_members c =
    member (codes "locked") (boolean c.locked) (member (codes "member") (string c.member)
    (member (codes "priority") (integer (pos c.priority)) (member (codes "struct") (string c.of_struct) no_members)))

abbrev pub function_members : Function → Members
function_members f =
    member (codes "class") (string (class_of f.op)) (member (codes "name") (string f.name)
    (member (codes "wakes") (boolean (wakes_of f.op)) no_members))

-- a list of tables
abbrev pub tables : {X : Type 0} → (X → Members) → List X → Data
tables members xs = array (items_of (map (λ x. table (members x)) xs))

abbrev pub upgraded_members : Values → Members
upgraded_members v =
    member (codes "callback") (tables callback_members v.callbacks)
    (member (codes "function") (tables function_members v.functions)
    (member (codes "kernel_priority") (integer (pos v.kernel_priority))
    (member (codes "timer_priority") (integer (pos v.timer_priority))
    (member (codes "vector") (tables vector_members v.vectors)
    (member (codes "version") (integer (pos 2)) no_members)))))

-- the members, and this value at this key
abbrev pub put_member : List ℕ → Data → Members → Members
put_member k d no_members = member k d no_members
put_member k d (member l e ms) =
    match_ordering (slice_cmp nat_cmp k l) (member k d (member l e ms)) (member l d ms) (member l e (put_member k d ms))
