-- Chains and rows of suffixes: their evaluations are the values up to their ends, which are made from the last operator
-- or suffix and the value before it.
use Rattle.std.proofs.Common.{◌≡◌, ℕ, suc, ◌+◌, ◌-◌, ◌*◌, List, [], ◌∷◌, ◌++◌, length}
use Rattle.std.proofs.Common.{refl, ap, ◌∙◌, arith}
use Rattle.ck_passages.specs.Operands.{tree, value, link_value, links_value, step_value, steps_value, argument_values}
use Rattle.ck_passages.specs.Operands.{chain_value, row_value}
use Rattle.ck_points.specs.Evaluations.{Node, Value, Call, after_links, after_steps, values_of, suffixed, called}
use Rattle.ck_points.specs.Evaluations.{unsequenced}
use Rattle.ck_prog.specs.Paths as part
use Rattle.ck_prog.specs.Paths.{Path, below}
use Rattle.ck_tables.specs.ExprFacts.{step_facts}
use Rattle.ck_tables.specs.ExprTable.{links_of, steps_of, arguments_of}
use Rattle.ck_tables.specs.Program.{readings}
use Rattle.ck_tables.specs.Readings.{plain_facts, plain_entry}
use Rattle.ck_tables.specs.declared.exprs.ExprId.{ExprId}
use Rattle.ck_tables.specs.declared.exprs.Link.{Link}
use Rattle.ck_tables.specs.declared.exprs.Step.{Step}
use Rattle.ck_tables.specs.declared.exprs.Step.TheVariants as steps
use Rattle.ck_tables.specs.declared.program.Linked.{Linked}

module _ (l : Linked) where
  -- evaluations -------------------------------------------------------------------------------------------------------

  pub after_links-value : (π : Path) (k : ℕ) (v : Value) (ls : List Link) →
      after_links π k v (links_of (readings l) (tree l) ls) ≡ (links_value l π k v ls).evaluation
  after_links-value π k v [] = refl
  after_links-value π k v (x ∷ ls) = after_links-value π (suc k) (link_value l π k v x) ls

  pub values_of-arguments : (π : Path) (k : ℕ) (xs : List ExprId) →
      values_of π k (arguments_of (tree l) xs) ≡ argument_values l π k xs
  values_of-arguments π k [] = refl
  values_of-arguments π k (x ∷ xs) =
      ap (λ vs. value l (below π (part.ArgumentOf k)) x ∷ vs) (values_of-arguments π (suc k) xs)

  pub after_steps-value : (π : Path) (k : ℕ) (v : Value) (ss : List Step) →
      after_steps π k v (steps_of (readings l) (tree l) ss) ≡ (steps_value l π k v ss).evaluation
  after_steps-value π k v [] = refl
  after_steps-value π k v (steps.Index opening index g ∷ ss) =
      after_steps-value π (suc k) (step_value l (below π (part.Suffix k)) v (steps.Index opening index g)) ss
  after_steps-value π k v (steps.Call opening function arguments g ∷ ss) =
      let here = below π (part.Suffix k) in
      let h = plain_facts (readings l) g in
      let n : Node = record { path = here; first = h.first } in
      let name = plain_entry (readings l) function in
      ap (λ vs. after_steps π (suc k) (suffixed here h (Call n name (unsequenced n (called name v vs))))
      (steps_of (readings l) (tree l) ss))
      (values_of-arguments here 0 arguments.items)
      ∙ after_steps-value π (suc k) (step_value l here v (steps.Call opening function arguments g)) ss
  after_steps-value π k v (steps.Access is_dot name member g ∷ ss) =
      after_steps-value π (suc k) (step_value l (below π (part.Suffix k)) v (steps.Access is_dot name member g)) ss
  after_steps-value π k v (steps.PostIncrement token operator g ∷ ss) =
      after_steps-value π (suc k) (step_value l (below π (part.Suffix k)) v (steps.PostIncrement token operator g)) ss

  -- the last operator or suffix ---------------------------------------------------------------------------------------

  pub links_value-last : (π : Path) (k m : ℕ) (v : Value) (ls : List Link) (x : Link) → m ≡ k + length ls →
      links_value l π k v (ls ++ (x ∷ [])) ≡ link_value l π m (links_value l π k v ls) x
  links_value-last π k m v [] x e = ap (λ j. link_value l π j v x) (omega arith)
  links_value-last π k m v (y ∷ ls) x e = links_value-last π (suc k) m (link_value l π k v y) ls x (omega arith)

  pub steps_value-last : (π : Path) (k m : ℕ) (v : Value) (ss : List Step) (s : Step) → m ≡ k + length ss →
      steps_value l π k v (ss ++ (s ∷ [])) ≡ step_value l (below π (part.Suffix m)) (steps_value l π k v ss) s
  steps_value-last π k m v [] s e = ap (λ j. step_value l (below π (part.Suffix j)) v s) (omega arith)
  steps_value-last π k m v (t ∷ ss) s e =
      steps_value-last π (suc k) m (step_value l (below π (part.Suffix k)) v t) ss s (omega arith)

  -- facts and paths ---------------------------------------------------------------------------------------------------

  pub chain_value-facts : (π : Path) (first : ExprId) (ls rest : List Link) (x : Link) → ls
      ≡ rest ++ (x ∷ []) →
      (chain_value l π first ls).facts ≡ plain_facts (readings l) x.facts
  chain_value-facts π first ls rest x same =
      ap (λ xs. (chain_value l π first xs).facts) same
      ∙ ap (λ v. v.facts)
      (links_value-last π 0 (length rest) (value l (below π (part.Operand 0)) first) rest x (omega arith))

  step_value-facts : (here : Path) (v : Value) (s : Step) →
      (step_value l here v s).facts ≡ plain_facts (readings l) (step_facts s)
  step_value-facts here v (steps.Index opening index g) = refl
  step_value-facts here v (steps.Call opening function arguments g) = refl
  step_value-facts here v (steps.Access is_dot name member g) = refl
  step_value-facts here v (steps.PostIncrement token operator g) = refl

  step_value-path : (here : Path) (v : Value) (s : Step) → (step_value l here v s).path ≡ here
  step_value-path here v (steps.Index opening index g) = refl
  step_value-path here v (steps.Call opening function arguments g) = refl
  step_value-path here v (steps.Access is_dot name member g) = refl
  step_value-path here v (steps.PostIncrement token operator g) = refl

  pub row_value-facts : (π : Path) (primary : ExprId) (ss rest : List Step) (s : Step) → ss
      ≡ rest ++ (s ∷ []) →
      (row_value l π primary ss).facts ≡ plain_facts (readings l) (step_facts s)
  row_value-facts π primary ss rest s same =
      ap (λ xs. (row_value l π primary xs).facts) same
      ∙ ap (λ v. v.facts)
      (steps_value-last π 0 (length rest) (value l (below π part.Primary) primary) rest s (omega arith))
      ∙ step_value-facts (below π (part.Suffix (length rest))) (row_value l π primary rest) s

  links_value-path : (π : Path) (k n : ℕ) (v : Value) (ls : List Link) → n + 1 ≡ length ls →
      (links_value l π k v ls).path ≡ π ++ (suc (2 * (k + n)) ∷ [])
  links_value-path π k n v [] h = absurd (omega arith)
  links_value-path π k n v (x ∷ []) h = ap (λ s. π ++ (s ∷ [])) (omega arith)
  links_value-path π k n v (x ∷ y ∷ ls) h =
      links_value-path π (suc k) (n - 1) (link_value l π k v x) (y ∷ ls) (omega arith)
      ∙ ap (λ s. π ++ (s ∷ [])) (omega arith)

  pub chain_value-path_first : (π : Path) (first : ExprId) (ls : List Link) → length ls ≡ 0 →
      (chain_value l π first ls).path ≡ π ++ (0 ∷ [])
  chain_value-path_first π first [] h = refl
  chain_value-path_first π first (x ∷ ls) h = absurd (omega arith)

  pub chain_value-path_last : (π : Path) (first : ExprId) (ls : List Link) (s : ℕ) → s + 1 ≡ 2 * length ls →
      (chain_value l π first ls).path ≡ π ++ (s ∷ [])
  chain_value-path_last π first [] s h = absurd (omega arith)
  chain_value-path_last π first (x ∷ ls) s h =
      links_value-path π 0 (length ls) (value l (below π (part.Operand 0)) first) (x ∷ ls) (omega arith)
      ∙ ap (λ j. π ++ (j ∷ [])) (omega arith)

  steps_value-path : (π : Path) (k n : ℕ) (v : Value) (ss : List Step) → n + 1 ≡ length ss →
      (steps_value l π k v ss).path ≡ π ++ (suc (k + n) ∷ [])
  steps_value-path π k n v [] h = absurd (omega arith)
  steps_value-path π k n v (s ∷ []) h =
      step_value-path (below π (part.Suffix k)) v s ∙ ap (λ j. π ++ (j ∷ [])) (omega arith)
  steps_value-path π k n v (s ∷ t ∷ ss) h =
      steps_value-path π (suc k) (n - 1) (step_value l (below π (part.Suffix k)) v s) (t ∷ ss) (omega arith)
      ∙ ap (λ j. π ++ (j ∷ [])) (omega arith)

  pub row_value-path : (π : Path) (primary : ExprId) (ss : List Step) →
      (row_value l π primary ss).path ≡ π ++ (length ss ∷ [])
  row_value-path π primary [] = refl
  row_value-path π primary (s ∷ ss) =
      steps_value-path π 0 (length ss) (value l (below π part.Primary) primary) (s ∷ ss) (omega arith)
      ∙ ap (λ j. π ++ (j ∷ [])) (omega arith)
