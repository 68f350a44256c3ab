-- Rules that model a small project, worked out by hand: `p = n ? a : b`, where `p` is the one holder, and no call goes
-- through it.
use Rattle.std.proofs.Common.{◌≡◌, ◌<◌, ◌+◌, ℕ, zero, suc, List, [], ◌∷◌, map, length, get_or, Some}
use Rattle.std.proofs.Common.{refl, sym, ap, ◌∙◌, subst, arith}
use Rattle.std.specs.List.{All, AllZip, Contains}
use Rattle.std.proofs.lemmas.List.{length-map}
use Rattle.std.proofs.lemmas.List.Elements.{All-cons, All-nil}
use Rattle.std.proofs.lemmas.Option.{same_Some}
use Rattle.ck_prog.specs.Calls.{function_number}
use Rattle.ck_prog.specs.Declarations.{Entry}
use Rattle.ck_prog.specs.Slots.{slots}
use Rattle.ck_reaching.specs.Rules.{System}
use Rattle.ck_reaching.specs.declared.rules.Callee.{Callee}
use Rattle.ck_reaching.specs.declared.rules.Flows.{Flows}
use Rattle.ck_reaching.specs.declared.rules.Names.{Names}
use Rattle.ck_slots.specs.Givens.{TypedProject, Given, calls_through, functions, givens}
use Rattle.ck_slots.specs.Holders.{Holder, InSlot, ThreadSink, TimerSink, of_slot}
use Rattle.ck_slots.specs.Origins.{Nowhere, Named, Held, Either}
use Rattle.ck_origins.specs.CalleeRules.{IsCalleeOf}
use Rattle.ck_origins.specs.Covering as covering
use Rattle.ck_origins.specs.Covering.{Arrives, IsFed, IsNamed, IsServed}
use Rattle.ck_origins.specs.Following as following
use Rattle.ck_origins.specs.Following.{CallFollows, FlowFollows, NameFollows}
use Rattle.ck_origins.specs.Meanings.{HoldersDiffer, Meanings, origin_at}
use Rattle.ck_origins.specs.Modelling.{AreNumbered, Models, slot_cell}
use Rattle.ck_origins.specs.Steps.{bare}
use Rattle.ck_origins.proofs.Cells.{nowhere_empty}
use Rattle.ck_origins.proofs.Passing.{gift}

-- lists of one element -----------------------------------------------------------------------------------------------

only_one : {X Y : Type 0} (f : X → Y) (xs : List X) (y : Y) → map f xs ≡ y ∷ [] → (x : X) → Contains xs x → f x ≡ y
only_one f [] y is x at = let below = at.1 in absurd (omega arith)
only_one f (z ∷ []) y is x (zero, below, same) = ap f (sym same) ∙ ap (λ ys. get_or ys 0 y) is
only_one f (z ∷ []) y is x (suc k, below, same) = absurd (omega arith)
only_one f (z ∷ w ∷ xs) y is x at = let more = ap length is in absurd (omega (arith, more))

-- the numbers of the rules -------------------------------------------------------------------------------------------

-- where each holder of the project is
number : Holder → ℕ
number (InSlot file start) = 0
number ThreadSink = 1
number TimerSink = 2

held_is : (g h : Holder) → Held g ≡ Held h → g ≡ h
held_is g h is = cc

name : ℕ → ℕ → Names
name function to = record { function = record { 0 = function }; to = record { 0 = to } }

flow : ℕ → ℕ → Flows
flow from to = record { from = record { 0 = from }; to = record { 0 = to } }

module _ (file start : ℕ) (a b : Entry) where
  -- `p`, threads, timers, and what is assigned
  pub meanings : Meanings
  meanings =
      bare (Held (InSlot file start) ∷ Held ThreadSink ∷ Held TimerSink ∷ Either (Named a) (Named b) ∷ [])

  abbrev pub to_p : Given
  to_p = gift (InSlot file start) (Either (Named a) (Named b))

  place : (c : ℕ) (h : Holder) → origin_at meanings c ≡ Held h → c ≡ number h
  unfolding meanings number
  place zero h is = ap number (held_is (InSlot file start) h is)
  place (suc zero) h is = ap number (held_is ThreadSink h is)
  place (suc (suc zero)) h is = ap number (held_is TimerSink h is)
  place (suc (suc (suc zero))) h is = absurd (cc)
  place (suc (suc (suc (suc c)))) h is = absurd (cc)

  differ : HoldersDiffer meanings
  differ c d h at too = place c h at ∙ sym (place d h too)

-- the rules of such a project ----------------------------------------------------------------------------------------

module _ (p : TypedProject) (file start : ℕ) (a b : Entry)
    (all_given : givens p ≡ gift ThreadSink Nowhere ∷ to_p file start a b ∷ []) (no_calls : calls_through p ≡ [])
    (number_of_a : function_number (functions p) a ≡ Some 0) (number_of_b : function_number (functions p) b ≡ Some 1)
    (numbers : map (slot_cell p) (slots p.all) ≡ 0 ∷ [])
    (holders : map of_slot (slots p.all) ≡ InSlot file start ∷ []) (callees : List Callee)
    (fit : AllZip (IsCalleeOf p (meanings file start a b)) (functions p) callees) where
  abbrev means : Meanings
  means = meanings file start a b

  pub rules : System
  rules = record {
    cells = 4;
    callees = callees;
    kinds = [];
    names = name 0 3 ∷ name 1 3 ∷ [];
    flows = flow 3 0 ∷ [];
    calls = [];
  }

  names_follow : All (NameFollows p means) rules.names
  unfolding rules name meanings
  names_follow =
      All-cons (NameFollows p means) (name 0 3) (name 1 3 ∷ [])
      (record { function = a; number = number_of_a; feeds = following.ToFirst })
      (All-cons (NameFollows p means) (name 1 3) []
      (record { function = b; number = number_of_b; feeds = following.ToSecond })
      (All-nil (NameFollows p means)))

  to_p_given : Contains (givens p) (to_p file start a b)
  to_p_given = subst (λ gs. Contains gs (to_p file start a b)) (sym all_given) (1, omega arith, refl)

  flows_follow : All (FlowFollows p means) rules.flows
  unfolding rules flow meanings
  flows_follow =
      All-cons (FlowFollows p means) (flow 3 0) [] (following.ToHolder (to_p file start a b) to_p_given)
      (All-nil (FlowFollows p means))

  a_is_named : IsNamed p rules a 3
  unfolding rules name
  a_is_named f number = record {
    name = name 0 3;
    there = (0, omega arith, refl);
    function = same_Some 0 f (sym number_of_a ∙ number);
    to = refl;
  }

  b_is_named : IsNamed p rules b 3
  unfolding rules name
  b_is_named f number = record {
    name = name 1 3;
    there = (1, omega arith, refl);
    function = same_Some 1 f (sym number_of_b ∙ number);
    to = refl;
  }

  fed : (c : ℕ) → c < 4 → IsFed p means rules (origin_at means c) c
  unfolding meanings
  fed zero below = tt
  fed (suc zero) below = tt
  fed (suc (suc zero)) below = tt
  fed (suc (suc (suc zero))) below = (covering.OfName a_is_named, covering.OfName b_is_named)
  fed (suc (suc (suc (suc c)))) below = tt

  nothing_arrives : Arrives p means rules (gift ThreadSink Nowhere)
  nothing_arrives c is = covering.Needless (nowhere_empty p)

  p_arrives : Arrives p means rules (to_p file start a b)
  unfolding rules flow meanings
  p_arrives c is =
      subst (covering.Brings p means rules (Either (Named a) (Named b)))
      (differ file start a b 0 c (InSlot file start) refl is)
      (covering.AlongFlow (record { flow = flow 3 0; there = (0, omega arith, refl); from = refl; to = refl }))

  all_arrive : All (Arrives p means rules) (givens p)
  all_arrive =
      subst (All (Arrives p means rules)) (sym all_given)
      (All-cons (Arrives p means rules) (gift ThreadSink Nowhere) (to_p file start a b ∷ []) nothing_arrives
      (All-cons (Arrives p means rules) (to_p file start a b) [] p_arrives (All-nil (Arrives p means rules))))

  all_served : All (IsServed p means rules) (calls_through p)
  all_served =
      subst (All (IsServed p means rules)) (sym no_calls) (All-nil (IsServed p means rules))

  numbered : AreNumbered p means
  unfolding meanings
  numbered =
      let count : length (slots p.all) ≡ 1 = sym (length-map (slots p.all) of_slot) ∙ ap length holders in
      record {
        of_slots = λ slot there.
            ap (origin_at means) (only_one (slot_cell p) (slots p.all) 0 numbers slot there)
            ∙ ap Held (sym (only_one of_slot (slots p.all) (InSlot file start) holders slot there));
        threads = ap (origin_at means) count;
        timers = ap (λ k. origin_at means (k + 1)) count;
      }

  pub models : Models p (meanings file start a b) rules
  unfolding rules meanings
  models = record {
    stand = record {
      follow = record {
        cell_count = refl;
        holders = differ file start a b;
        callees = fit;
        kinds = tt;
        names = names_follow;
        flows = flows_follow;
        calls = All-nil (CallFollows p means);
      };
      cover = record { cells = fed; givens = all_arrive; calls = all_served };
    };
    numbers = numbered;
  }
