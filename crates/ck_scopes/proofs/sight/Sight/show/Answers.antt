use Rattle.std.proofs.Common.{ℕ, ◌<◌, length, ap, set, subst, sym, ◌∙◌}
use Rattle.std.specs.Prelude.{reverse, Some}
use Rattle.ck_scopes.specs.Indexed.{IsIndexed}
use Rattle.ck_scopes.specs.Seen.{head}
use Rattle.ck_scopes.specs.declared.sight.Shown.{Shown}
use Rattle.ck_scopes.proofs.IndexedLemmas.{indexed_room, pushed_indexed}
use Rattle.ck_scopes.proofs.sight.Sight.show.Goals as goal

pub invariant_of-self : goal.invariant_of-self
invariant_of-self c =
    indexed_room (reverse c.self.inside.shown.items) c.self.inside.heads c.make_room.new.self c.self.invariant
    c.make_room.ensures.kept c.make_room.ensures.longer

pub invariant_of-self-in_err-push : goal.invariant_of-self-in_err-push
invariant_of-self-in_err-push c =
    subst (λ xs. IsIndexed (reverse xs) c.make_room.new.self) (sym c.in_err-push.ensures.items)
    (indexed_room (reverse c.self.inside.shown.items) c.self.inside.heads c.make_room.new.self c.self.invariant
    c.make_room.ensures.kept c.make_room.ensures.longer)

pub invariant_of-self-2 : goal.invariant_of-self-2
invariant_of-self-2 c =
    let heads = c.make_room.new.self in
    let x : Shown =
    record { number = c.args.number; space = c.args.space; name = c.args.name; hides = c.at-hides.result } in
    let room =
    indexed_room (reverse c.self.inside.shown.items) c.self.inside.heads heads c.self.invariant
    c.make_room.ensures.kept c.make_room.ensures.longer in
    let within = subst (λ (k : ℕ). k < length heads) c.slot-place.ensures c.in_ok-make_room.ensures.room in
    let hides = c.at-hides.ensures ∙ ap (head heads) c.slot-place.ensures in
    subst (IsIndexed (reverse c.push.new.self.items))
    (sym (c.put.ensures ∙ ap (λ k. set heads k (Some c.args.number)) c.slot-place.ensures))
    (pushed_indexed c.self.inside.shown.items c.push.new.self.items heads x room c.in_ok-push.ensures.items within
    hides)
