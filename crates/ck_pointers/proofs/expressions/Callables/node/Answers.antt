use Rattle.std.proofs.Common.{◌≡◌, ℕ, Bool, true, length, sym, ap, subst, ◌∙◌}
use Rattle.std.proofs.lemmas.Bool.{and_parts}
use Rattle.std.proofs.lemmas.Result.{IfOk-weaker}
use Rattle.std.specs.Prelude.{◌&&◌, nat_lt}
use Rattle.std.specs.Result.{IfOk}
use Rattle.std.specs.List.{list_all}
use Rattle.ck_call_rows.specs.TypedRows.{declarations}
use Rattle.ck_slots.specs.Origins.{goes_through, origin}
use Rattle.ck_tables.specs.ExprTable.{links_below, reads_below}
use Rattle.ck_tables.specs.Numbers.{expression_node_fits, numbers, step_fits}
use Rattle.ck_pointers.specs.ExpressionSources.{IsLast, IsMade, source_through, tables, tree_of_node}
use Rattle.ck_pointers.specs.Sources.{IsEither, IsWithin}
use Rattle.ck_pointers.specs.declared.sources.Source.TheVariants.{Nowhere}
use Rattle.ck_pointers.proofs.MadeLemmas.{chain_made, either_made, known_made, through_made}
use Rattle.ck_pointers.proofs.RowLemmas.{name_fits, row_fits}
use Rattle.ck_pointers.proofs.expressions.Callables.node.Goals as goal

pub name-requires-clause-fits : goal.name-requires-clause-fits
name-requires-clause-fits c =
    let n = numbers (tables c.args.self.now) in
    name_fits n c.in-Name.facts c.in-Name.entry
    (subst (λ x. expression_node_fits n x ≡ true) c.in-Name.is c.requires.fits)

pub row-requires-clause-fits : goal.row-requires-clause-fits
row-requires-clause-fits c =
    let n = numbers (tables c.args.self.now) in
    subst (λ xs. list_all (step_fits n) xs ≡ true) (sym c.as_slice.ensures.value)
    (row_fits n c.in-Postfix.primary c.in-Postfix.steps
    (subst (λ x. expression_node_fits n x ≡ true) c.in-Postfix.is c.requires.fits))

pub either-requires-clause-first : goal.either-requires-clause-first
either-requires-clause-first c =
    let row = c.known-in-Conditional.ensures in
    subst (IsWithin c.args.rules.now) (row.is Nowhere)
    (c.requires.sources c.in-Conditional.second.0 Nowhere row.within)

pub either-requires-clause-second : goal.either-requires-clause-second
either-requires-clause-second c =
    let row = c.known-in-Conditional-2.ensures in
    subst (IsWithin c.args.rules.now) (row.is Nowhere)
    (c.requires.sources c.in-Conditional.third.0 Nowhere row.within)

pub returns-in-Paren : goal.returns-in-Paren
returns-in-Paren c =
    let s = c.args.self.now in
    subst (λ x. IsMade s c.args.sources.now (origin (declarations (tables s)) (tree_of_node s x)) c.known.result
    c.args.rules.now c.args.rules.now) (sym c.in-Paren.is)
    (known_made s c.args.sources.now c.in-Paren.inner.0 c.known.result c.args.rules.now c.requires.sources
    c.known.ensures)

pub returns-in-Unary : goal.returns-in-Unary
returns-in-Unary c =
    let s = c.args.self.now in
    let row = c.known-in-Unary.ensures in
    subst (λ x. IsMade s c.args.sources.now (origin (declarations (tables s)) (tree_of_node s x)) c.through.result
    c.args.rules.now c.args.rules.now) (sym c.in-Unary.is)
    (through_made s (goes_through c.in-Unary.operator) c.args.sources.now c.in-Unary.operand.0 c.args.rules.now
    row.within c.requires.sources c.requires.ready c.through.result
    (c.through.ensures ∙ ap (source_through (goes_through c.in-Unary.operator)) (sym (row.is Nowhere))))

pub returns-in-Cast : goal.returns-in-Cast
returns-in-Cast c =
    let s = c.args.self.now in
    subst (λ x. IsMade s c.args.sources.now (origin (declarations (tables s)) (tree_of_node s x))
    c.known-in-Cast.result c.args.rules.now c.args.rules.now) (sym c.in-Cast.is)
    (known_made s c.args.sources.now c.in-Cast.operand.0 c.known-in-Cast.result c.args.rules.now c.requires.sources
    c.known-in-Cast.ensures)

below : (limit x : ℕ) (rest : Bool) → (nat_lt x limit && rest) ≡ true → rest ≡ true
below limit x rest h = (and_parts (nat_lt x limit) rest h).1

pub returns-in-Chain : goal.returns-in-Chain
returns-in-Chain c =
    let s = c.args.self.now in
    let sources = c.args.sources.now in
    subst (λ x. IsMade s sources (origin (declarations (tables s)) (tree_of_node s x)) c.last.result
    c.args.rules.now c.args.rules.now) (sym c.in-Chain.is)
    (chain_made s sources c.args.rules.now c.requires.sources c.requires.ready c.in-Chain.first.0
    c.in-Chain.links.items c.last.result
    (below (length sources) c.in-Chain.first.0 (links_below (length sources) c.in-Chain.links.items)
    (subst (λ x. reads_below (length sources) x ≡ true) c.in-Chain.is c.requires.below))
    (subst (λ xs. IsLast sources c.in-Chain.first.0 xs c.last.result) c.as_slice-in-Chain.ensures c.last.ensures))

pub returns-in-Conditional : goal.returns-in-Conditional
returns-in-Conditional c =
    let s = c.args.self.now in
    let sources = c.args.sources.now in
    let new = c.either.new.rules in
    let one = c.known-in-Conditional in
    let two = c.known-in-Conditional-2 in
    subst (λ x. IfOk c.either.result
    (λ source. IsMade s sources (origin (declarations (tables s)) (tree_of_node s x)) source c.args.rules.now new))
    (sym c.in-Conditional.is)
    (IfOk-weaker c.either.result (λ source. IsEither one.result two.result source c.args.rules.now new)
    (λ source. IsMade s sources _ source c.args.rules.now new)
    (λ source is. either_made s sources c.in-Conditional.second.0 c.in-Conditional.third.0 one.result two.result source
    c.args.rules.now new one.ensures two.ensures is) c.either.ensures)

pub returns-in-Assignment : goal.returns-in-Assignment
returns-in-Assignment c =
    let s = c.args.self.now in
    subst (λ x. IsMade s c.args.sources.now (origin (declarations (tables s)) (tree_of_node s x))
    c.known-in-Assignment.result c.args.rules.now c.args.rules.now) (sym c.in-Assignment.is)
    (known_made s c.args.sources.now c.in-Assignment.value.0 c.known-in-Assignment.result c.args.rules.now
    c.requires.sources c.known-in-Assignment.ensures)
