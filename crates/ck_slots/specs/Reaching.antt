-- Which functions reach which holders of a project (docs/FLOW.md): the least relation with one rule for each way in
-- which a function pointer goes on. A function has its number.
use Rattle.std.specs.Prelude.{◌≡◌, ℕ, Some, true, Contains, Option}
use Rattle.ck_prog.specs.Calls.{CallSite, function_number}
use Rattle.ck_prog.specs.Declarations.{Entry}
use Rattle.ck_prog.specs.TypedTrees.{Typed, facts}
use Rattle.ck_slots.specs.Givens.{TypedProject, Given, functions, givens, calls_through, by_target, may_be_called}
use Rattle.ck_slots.specs.Givens.{result_holder}
use Rattle.ck_slots.specs.Holders.{Holder}
use Rattle.ck_slots.specs.Origins.{Origin, Named, Held, Either, ResultOf, origin, called_type}
use Rattle.ck_types.specs.Types.{CType}

module _ (p : TypedProject) where
  mutual
    -- a function reaches a holder
    pub data Reaches : ℕ → Holder → Type 0 where
      ByGiven : {n : ℕ} (g : Given) → Contains (givens p) g → ComesFrom n g.from → Reaches n g.to
      -- 6.5.2.2: a call through an expression gives its arguments to the parameters of each of its targets
      ByArgument : {n m : ℕ} (c : CallSite) (g : Given) → Contains (calls_through p) c
          → IsTarget (called_type (facts c.called)) (origin p.all c.called) m → Contains (by_target p m c) g
          → ComesFrom n g.from → Reaches n g.to

    -- a function is what comes from there
    pub data ComesFrom : ℕ → Origin → Type 0 where
      ByName : {n : ℕ} (e : Entry) → function_number (functions p) e ≡ Some n → ComesFrom n (Named e)
      ByRead : {n : ℕ} {h : Holder} → Reaches n h → ComesFrom n (Held h)
      ByFirst : {n : ℕ} {a b : Origin} → ComesFrom n a → ComesFrom n (Either a b)
      BySecond : {n : ℕ} {a b : Origin} → ComesFrom n b → ComesFrom n (Either a b)
      -- 6.5.2.2: such a call reads the results of its targets
      ByResult : {n m : ℕ} {type : Option CType} {called : Origin} {h : Holder} → IsTarget type called m
          → result_holder p m ≡ Some h → Reaches n h → ComesFrom n (ResultOf type called)

    -- a function is a target of the calls of what has this type and comes from there
    pub data IsTarget : Option CType → Origin → ℕ → Type 0 where
      ByType : {m : ℕ} {type : Option CType} {called : Origin} → may_be_called p type m ≡ true → ComesFrom m called
          → IsTarget type called m

  -- a function reaches an expression; it is a target of the calls of that
  abbrev pub ReachesExpression : ℕ → Typed → Type 0
  ReachesExpression n x = ComesFrom n (origin p.all x)

  abbrev pub IsTargetOf : Typed → ℕ → Type 0
  IsTargetOf x n = IsTarget (called_type (facts x)) (origin p.all x) n
