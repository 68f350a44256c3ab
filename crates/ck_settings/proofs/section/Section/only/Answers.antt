use Rattle.std.proofs.Common.{◌≡◌, [], ◌∷◌, string_bytes, sym, ◌∙◌, refl, arith, true, false}
use Rattle.std.proofs.lemmas.Grind.{common_steps}
use Rattle.std.specs.List.{list_any}
use Rattle.std.specs.Str.{bytes_eq}
use Rattle.ck_settings.specs.Places.{prefix_of}
use Rattle.ck_settings.specs.Documents.{IsFault}
use Rattle.ck_settings.specs.Faults.{unknown_fault}
use Rattle.ck_settings.proofs.UnknownKeys.{refused, none_unknown, is_among_texts}
use Rattle.ck_settings.proofs.section.Section.only.Goals as goal

pub returns-then-not-is_known : goal.returns-then-not-is_known
returns-then-not-is_known c =
    let (can, finite, same) = c.members.invariant in
    let keys = c.args.keys.now in
    let key = c.in-Some.key.now in
    let iterator : c.members.key-iterator ≡ key ∷ c.next.new.self = grind (arith, common_steps) in
    let unknown : list_any (λ k. bytes_eq k.now (string_bytes key)) keys
    ≡ false = rw c.deref.ensures at (sym c.is_known.ensures ∙ c.if-not-is_known.true) in
    let fault : IsFault c.fault.result (unknown_fault (prefix_of c.args.self.now.place) (string_bytes key)) = rw
    c.deref-then-not-is_known.ensures at c.fault.ensures in
    refused (prefix_of c.args.self.now.place) keys c.args.self.now.table.now.entries key c.next.new.self c.fault.result
    c.keys-key-items.ensures.ordered (rw iterator at same) unknown fault

pub members-preserved : goal.members-preserved
members-preserved c =
    let (can, finite, same) = c.members.invariant in
    let keys = c.args.keys.now in
    let key = c.in-Some.key.now in
    let iterator : c.members.key-iterator ≡ key ∷ c.next.new.self = grind (arith, common_steps) in
    let known : list_any (λ k. bytes_eq k.now (string_bytes key)) keys
    ≡ true = rw c.deref.ensures at (sym c.is_known.ensures ∙ c.if-not-is_known.false) in
    (tt, tt, sym (rw (iterator, is_among_texts keys (string_bytes key), known) refl) ∙ same)

pub returns : goal.returns
returns c =
    let (can, finite, same) = c.members.invariant in
    let none : c.members.key-iterator ≡ [] = grind (arith, common_steps) in
    none_unknown (prefix_of c.args.self.now.place) c.args.keys.now c.args.self.now.table.now.entries (rw none at same)
