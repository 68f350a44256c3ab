use Rattle.std.proofs.Common.{◌≡◌, ◌++◌, ℕ, List, [], ◌∷◌, length, reverse, sym, ap, ◌∙◌, subst, arith, length-append}
use Rattle.std.specs.Prelude.{IsTrue, false}
use Rattle.std.specs.List.{list_any}
use Rattle.std.specs.Ordering.{nat_cmp}
use Rattle.std.specs.BTreeMap.{is_at}
use Rattle.std.proofs.lemmas.List.{reverse-append, length-reverse}
use Rattle.ck_paths.specs.Citing.{IsIn, ArePending, AreExitsFor}
use Rattle.ck_paths.proofs.Pending.{pending-first, pending-there, pending-more, exits-whole}
use Rattle.ck_paths.proofs.exits.exits_for.Goals as goal

pub exits-init : goal.exits-init
exits-init c =
    let flow = c.args.graph.now in
    let places = c.args.found.now.places.items in
    let set = c.new-pending.result in
    let none : (x : ℕ) → IsIn set x → ⊥ =
    λ x h. let f : IsTrue false = subst (λ ks. IsTrue (list_any (is_at (nat_cmp x)) ks)) c.new-pending.ensures.empty
    h in absurd (cc) in
    let items : c.new-exits.result.items ≡ [] = c.new-exits.ensures.items in
    record {
      few = omega (arith, ap length items);
      pending =
          subst (λ (xs : List ℕ). ArePending flow places c.args.number (reverse xs) c.add_cited.new.pending) (sym items)
          (pending-first flow places c.args.number set c.add_cited.new.pending none c.in_ok-add_cited.ensures);
    }

pub add_cited-requires-in-Some-clause-there : goal.add_cited-requires-in-Some-clause-there
add_cited-requires-in-Some-clause-there c =
    pending-there c.args.graph.now c.args.roots.now c.args.found.now.places.items c.args.number c.in-Some.exit
    (reverse c.exits.exits.items) c.exits.pending c.requires.justified c.exits.invariant.pending c.in-Some.ensures.was

pub exits-preserved : goal.exits-preserved
exits-preserved c =
    let flow = c.args.graph.now in
    let places = c.args.found.now.places.items in
    let exit : ℕ = c.in-Some.exit in
    let old : List ℕ = c.exits.exits.items in
    let items : c.push.new.self.items ≡ old ++ exit ∷ [] = c.in_ok-push.ensures.items in
    let turned : reverse c.push.new.self.items ≡ exit ∷ reverse old =
    ap (λ (xs : List ℕ). reverse xs) items ∙ reverse-append old (exit ∷ []) in
    record {
      few = omega (arith, ap length items, length-append old (exit ∷ []), c.if-len.false, c.len.ensures);
      pending =
          subst (λ (xs : List ℕ). ArePending flow places c.args.number xs c.add_cited-in-Some.new.pending) (sym turned)
          (pending-more flow c.args.roots.now places c.args.number exit (reverse old) c.exits.pending
          c.take_greatest.new.pending c.add_cited-in-Some.new.pending c.requires.justified c.exits.invariant.pending
          c.in-Some.ensures c.in_ok-add_cited-2.ensures);
    }

pub returns : goal.returns
returns c =
    let flow = c.args.graph.now in
    let places = c.args.found.now.places.items in
    let taken : List ℕ = reverse c.exits.exits.items in
    subst (λ (xs : List ℕ). AreExitsFor flow places c.args.number xs) (sym c.reverse.ensures.items)
    (exits-whole flow c.args.roots.now places c.args.number taken c.exits.pending c.requires.justified
    c.exits.invariant.pending c.in_default.ensures
    (omega (arith, c.exits.invariant.few, length-reverse c.exits.exits.items)))
