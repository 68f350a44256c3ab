-- Where the value of an expression comes from, if it is a function or a pointer to one (docs/FLOW.md): from functions
-- by their names, from slots that are read, and from calls.
use Rattle.std.specs.Prelude.{Bool, true, false, List, Option, Some, None, if◌then◌else◌}
use Rattle.ck_prog.specs.Declarations.{Entry, Meaning, Variable, FunctionNamed, MemberOf}
use Rattle.ck_prog.specs.Senses.{value_type}
use Rattle.ck_prog.specs.Slots.{slot_of_result, slot_of_variable}
use Rattle.ck_prog.specs.TypedTrees as trees
use Rattle.ck_prog.specs.TypedTrees.{Facts, Links, Steps, Typed, facts}
use Rattle.ck_prog.specs.declared.operators.Operator.{Operator}
use Rattle.ck_prog.specs.declared.operators.Operator.TheVariants.{Comma}
use Rattle.ck_prog.specs.declared.operators.Prefix.{Prefix}
use Rattle.ck_prog.specs.declared.operators.Prefix.TheVariants.{Address, Dereference}
use Rattle.ck_slots.specs.Holders.{Holder, holder, slot_of_member_meant}
use Rattle.ck_types.specs.Types.{CType}

pub data Origin : Type 0 where
  Nowhere : Origin
  -- a function, by its name
  Named : Entry → Origin
  -- what this holds
  Held : Holder → Origin
  -- either of two
  Either : Origin → Origin → Origin
  -- the result of a call of what has this type and comes from there
  ResultOf : Option CType → Origin → Origin

abbrev pub held : Option Holder → Origin
held None = Nowhere
held (Some h) = Held h

-- 6.5.17: no operator but the comma gives a function
abbrev pub is_comma : Operator → Bool
is_comma Comma = true
is_comma _ = false

-- 6.5.3.2: a function and a pointer to it stand for one function
abbrev pub goes_through : Prefix → Bool
goes_through Address = true
goes_through Dereference = true
goes_through _ = false

-- the type of a called expression
abbrev pub called_type : Facts → Option CType
called_type f = value_type f.sense

module _ (all : List Entry) where
  -- 6.5.1
  abbrev pub origin_by : Entry → Meaning → Origin
  origin_by e (FunctionNamed t l d) = Named e
  origin_by e (Variable t l d s) = held (holder (slot_of_variable all e))
  origin_by e _ = Nowhere

  abbrev pub origin_of_name : Option Entry → Origin
  origin_of_name None = Nowhere
  origin_of_name (Some e) = origin_by e e.meaning

  abbrev pub origin_of_member : Option MemberOf → Origin
  origin_of_member None = Nowhere
  origin_of_member (Some m) = held (holder (slot_of_member_meant all m))

  -- 6.5.2.2: of a function by its name, or of what the called expression gives
  abbrev pub origin_of_call : Option Entry → Option CType → Origin → Origin
  origin_of_call (Some e) type called = held (holder (slot_of_result all e))
  origin_of_call None type called = ResultOf type called

  abbrev mutual
    pub origin : Typed → Origin
    origin (trees.Name f e) = origin_of_name e
    origin (trees.Constant f) = Nowhere
    origin (trees.Strings f ts) = Nowhere
    origin (trees.Paren f x) = origin x
    origin (trees.Postfix x steps) = origin_after (facts x) (origin x) steps
    origin (trees.Unary f op x) = if goes_through op then origin x else Nowhere
    origin (trees.SizeofType f written) = Nowhere
    origin (trees.Cast f written x) = origin x
    origin (trees.Chain x links) = origin_of_last (origin x) links
    origin (trees.Conditional f test a b) = Either (origin a) (origin b)
    origin (trees.Assignment f op a b) = origin b

    -- 6.5.17: a comma has the value of its last operand
    pub origin_of_last : Origin → Links → Origin
    origin_of_last first trees.NoLinks = first
    origin_of_last first (trees.Link op x f rest) = origin_of_last (if is_comma op then origin x else Nowhere) rest

    -- after these suffixes of an expression; an array has one slot
    pub origin_after : Facts → Origin → Steps → Origin
    origin_after before from trees.NoSteps = from
    origin_after before from (trees.Index opening i f rest) = origin_after f from rest
    origin_after before from (trees.Call opening function es f rest) =
        origin_after f (origin_of_call function (called_type before) from) rest
    origin_after before from (trees.Access is_dot name m f rest) = origin_after f (origin_of_member m) rest
    origin_after before from (trees.PostIncrement t op f rest) = origin_after f Nowhere rest

-- 6.5.16: the holder that a left side designates
abbrev pub designated : Origin → Option Holder
designated (Held h) = Some h
designated _ = None
