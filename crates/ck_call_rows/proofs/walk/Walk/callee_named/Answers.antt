use Rattle.std.proofs.Common.{◌<◌, length, get_or, arith}
use Rattle.std.proofs.lemmas.List.{get_or_default}
use Rattle.ck_call_rows.proofs.CalleeLemmas.{callee_told}
use Rattle.ck_call_rows.proofs.walk.Walk.callee_named.Goals as goal

pub returns : goal.returns
returns c =
    let w = c.args.self.now in
    let fits = c.requires in
    let same = w.each in
    let low : c.args.entry.0 < length w.uses.now = grind (arith, fits, same) in
    callee_told w c.args.entry (get_or w.uses.now c.args.entry.0 _) _ low
    (get_or_default w.uses.now c.args.entry.0 _ _ low) c.callee_by.ensures
