-- A typed tree has the sense of its expression.
use Rattle.std.proofs.Common.{◌≡◌, [], ◌∷◌, refl, ap, ◌∙◌}
use Rattle.std.specs.Prelude.{Option, None}
use Rattle.ck_grammar.specs.Trees.{Expr, Operands, Suffixes, Name, Constant, Strings, Paren, Postfix, Unary, SizeofType}
use Rattle.ck_grammar.specs.Trees.{Cast, Chain, Conditional, Assignment, NoOperands, Operand, NoSuffixes, Index}
use Rattle.ck_grammar.specs.Trees.{CallEmpty, Call, MemberAccess, PostIncrement}
use Rattle.ck_prog.specs.AssignmentSenses.{assignment_sense, choice_sense}
use Rattle.ck_prog.specs.BaseTypes.{base_type}
use Rattle.ck_prog.specs.BinarySenses.{binary_sense}
use Rattle.ck_prog.specs.Declarations.{Entry, Place, text, is_written}
use Rattle.ck_prog.specs.Derivations.{made}
use Rattle.ck_prog.specs.Linking.{unqualified_type}
use Rattle.ck_prog.specs.Operators.{operator, prefix, assigning}
use Rattle.ck_prog.specs.PostfixSenses.{element, result, access}
use Rattle.ck_prog.specs.Senses.{Sense}
use Rattle.ck_prog.specs.Tags.{nothing_around}
use Rattle.ck_prog.specs.TypedExpressions.{typed_expression, typed_links, typed_arguments, typed_steps, role_before}
use Rattle.ck_prog.specs.TypedExpressions.{role_in_chain, role_under, named_function, facts_of, call_facts, senses}
use Rattle.ck_prog.specs.TypedTrees.{Facts, Argument, facts, last_link, last_step, argument_facts}
use Rattle.ck_prog.specs.Typing.{sense, operands_sense, argument_senses, suffixes_sense, derivations, is_dereference}
use Rattle.ck_prog.specs.Typing.{after, after_operands, after_specifiers, after_declarator}
use Rattle.ck_prog.specs.UnarySenses.{prefix_sense, step, cast_sense}
use Rattle.ck_prog.specs.declared.operators.Role.{Role}
use Rattle.ck_prog.specs.declared.operators.Role.TheVariants.{Value}

-- the sense of the typed tree
abbrev sense_of : Place → Role → Expr → Sense
sense_of p role e = (facts (typed_expression p role e)).sense

mutual
  pub sense-typed : (p : Place) (role : Role) (e : Expr) → sense_of p role e ≡ sense p e
  sense-typed p role (Name t) = refl
  sense-typed p role (Constant t) = refl
  sense-typed p role (Strings t ts) = refl
  sense-typed p role (Paren opening e closing) = sense-typed p role e
  sense-typed p role (Postfix e suffixes) =
      let x = typed_expression p (role_before role suffixes) e in
      last_step-typed (after p e) role (named_function x) (facts x) suffixes
      ∙ ap (λ a. suffixes_sense (after p e) a suffixes) (sense-typed p (role_before role suffixes) e)
  sense-typed p role (Unary op e) =
      ap (prefix_sense p (is_dereference p e) (prefix (text p op))) (sense-typed p (role_under (prefix (text p op))) e)
  sense-typed p role (SizeofType keyword opening s d closing) = refl
  sense-typed p role (Cast opening s d closing e) =
      let q = after_specifiers p nothing_around s in
      let r = after_declarator q d in
      ap (cast_sense (unqualified_type (made r (derivations q d) (base_type q s)))) (sense-typed r Value e)
  sense-typed p role (Chain e operands) =
      let x = typed_expression p (role_in_chain role operands) e in
      last_link-typed (after p e) role (facts x) operands
      ∙ ap (λ a. operands_sense (after p e) a operands) (sense-typed p (role_in_chain role operands) e)
  sense-typed p role (Conditional test question a colon b) =
      let q = after p test in
      ap (λ x. choice_sense x (sense_of q Value a) (sense_of (after q a) Value b)) (sense-typed p Value test)
      ∙ ap (λ x. choice_sense (sense p test) x (sense_of (after q a) Value b)) (sense-typed q Value a)
      ∙ ap (choice_sense (sense p test) (sense q a)) (sense-typed (after q a) Value b)
  sense-typed p role (Assignment a op b) =
      ap (λ x. assignment_sense p (assigning (text p op)) x (sense_of (after p a) Value b)) (sense-typed p Value a)
      ∙ ap (assignment_sense p (assigning (text p op)) (sense p a)) (sense-typed (after p a) Value b)

  last_link-typed : (p : Place) (role : Role) (f : Facts) (operands : Operands)
      → (last_link f (typed_links p role f operands)).sense ≡ operands_sense p f.sense operands
  last_link-typed p role f NoOperands = refl
  last_link-typed p role f (Operand op e rest) =
      let x = facts (typed_expression p Value e) in
      let value =
      facts_of (role_in_chain role rest) f.first (binary_sense p (operator (text p op)) f.sense x.sense) (f ∷ x ∷ []) in
      last_link-typed (after p e) role value rest
      ∙ ap (λ b. operands_sense (after p e) (binary_sense p (operator (text p op)) f.sense b) rest)
      (sense-typed p Value e)

  senses-typed : (p : Place) (operands : Operands)
      → senses (argument_facts (typed_arguments p operands)) ≡ argument_senses p operands
  senses-typed p NoOperands = refl
  senses-typed p (Operand comma e rest) =
      ap (λ x. x ∷ senses (argument_facts (typed_arguments (after p e) rest))) (sense-typed p Value e)
      ∙ ap (λ xs. sense p e ∷ xs) (senses-typed (after p e) rest)

  last_step-typed : (p : Place) (role : Role) (function : Option Entry) (f : Facts) (suffixes : Suffixes)
      → (last_step f (typed_steps p role function f suffixes)).sense ≡ suffixes_sense p f.sense suffixes
  last_step-typed p role function f NoSuffixes = refl
  last_step-typed p role function f (Index opening e closing rest) =
      let x = facts (typed_expression p Value e) in
      let value = facts_of (role_before role rest) f.first (element p f.sense x.sense) (f ∷ x ∷ []) in
      last_step-typed (after p e) role None value rest
      ∙ ap (λ b. suffixes_sense (after p e) (element p f.sense b) rest) (sense-typed p Value e)
  last_step-typed p role function f (CallEmpty opening closing rest) =
      last_step-typed p role None (call_facts (role_before role rest) f.first (result p f.sense [])) rest
  last_step-typed p role function f (Call opening e others closing rest) =
      let q = after_operands (after p e) others in
      let es = Argument (typed_expression p Value e) (typed_arguments (after p e) others) in
      last_step-typed q role None
      (call_facts (role_before role rest) f.first (result p f.sense (senses (argument_facts es)))) rest
      ∙ ap (λ x. suffixes_sense q
      (result p f.sense (x ∷ senses (argument_facts (typed_arguments (after p e) others)))) rest)
      (sense-typed p Value e)
      ∙ ap (λ xs. suffixes_sense q (result p f.sense (sense p e ∷ xs)) rest) (senses-typed (after p e) others)
  last_step-typed p role function f (MemberAccess t name rest) =
      let sense = access p (is_written p t ".") f.sense (text p name) in
      last_step-typed p role None (facts_of (role_before role rest) f.first sense (f ∷ [])) rest
  last_step-typed p role function f (PostIncrement t rest) =
      last_step-typed p role None (facts_of (role_before role rest) f.first (step p f.sense) (f ∷ [])) rest
