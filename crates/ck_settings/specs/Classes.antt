-- The classes of outside functions. docs/SETTINGS.md, "The classes", has the same rows.
use Rattle.std.specs.Prelude.{ℕ, Bool, if◌then◌else◌, List, [], ◌∷◌, codes, Option, Some, None}
use Rattle.std.specs.Str.{bytes_eq}
use Rattle.ck_base.specs.declared.ops.Op.{Op}
use Rattle.ck_base.specs.declared.ops.Op.TheVariants.{IQuiet, IWakes, SPlain, SWakes, Normal, Free, Neutral}

-- a class's word, its op, and its op where the function may wake a thread, if it may
pub record Class : Type 0 where
  pub word : List ℕ
  pub quiet : Op
  pub waking : Option Op

abbrev pub class : List ℕ → Op → Option Op → Class
class word quiet waking = record { word = word; quiet = quiet; waking = waking }

abbrev pub classes : List Class
classes =
    class (codes "neutral") Neutral None ∷
    class (codes "normal") Normal None ∷
    class (codes "I") IQuiet (Some IWakes) ∷
    class (codes "S") SPlain (Some SWakes) ∷
    class (codes "X") Free None ∷ []

-- the op of a word and of the value of `wakes`, among these classes
abbrev pub op_among : List Class → List ℕ → Bool → Option Op
op_among [] word wakes = None
op_among (c ∷ cs) word wakes =
    if bytes_eq word c.word then (if wakes then c.waking else Some c.quiet) else op_among cs word wakes

abbrev pub op_of : List ℕ → Bool → Option Op
op_of = op_among classes
