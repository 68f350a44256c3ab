use Rattle.std.proofs.Common.{rules}
use Rattle.ck_types.proofs.NodeLemmas.{node-stored, placed}
use Rattle.ck_types.proofs.types.place.Goals as goal

pub returns-in-Ok-clause-types : goal.returns-in-Ok-clause-types
returns-in-Ok-clause-types c =
    (placed c.args.nodes.now.keys _ c.args.node c.in_ok-number.ensures.keys c.requires.table c.requires.fits).types

pub returns-in-Ok-clause-lists : goal.returns-in-Ok-clause-lists
returns-in-Ok-clause-lists c =
    (placed c.args.nodes.now.keys _ c.args.node c.in_ok-number.ensures.keys c.requires.table c.requires.fits).lists

pub returns-in-Ok-clause-table : goal.returns-in-Ok-clause-table
returns-in-Ok-clause-table c =
    (placed c.args.nodes.now.keys _ c.args.node c.in_ok-number.ensures.keys c.requires.table c.requires.fits).table

pub returns-in-Ok-clause-number : goal.returns-in-Ok-clause-number
returns-in-Ok-clause-number c =
    let s = c.in_ok-number.ensures.stored in
    let node = node-stored c.insert_full.new.self.keys c.in_ok-number.number c.args.node s.0 s.1 s.2 in
    search rules

pub returns-in-Err-clause-types : goal.returns-in-Err-clause-types
returns-in-Err-clause-types c =
    (placed c.args.nodes.now.keys _ c.args.node c.in_ok-number.ensures.keys c.requires.table c.requires.fits).types

pub returns-in-Err-clause-lists : goal.returns-in-Err-clause-lists
returns-in-Err-clause-lists c =
    (placed c.args.nodes.now.keys _ c.args.node c.in_ok-number.ensures.keys c.requires.table c.requires.fits).lists

pub returns-in-Err-clause-table : goal.returns-in-Err-clause-table
returns-in-Err-clause-table c =
    (placed c.args.nodes.now.keys _ c.args.node c.in_ok-number.ensures.keys c.requires.table c.requires.fits).table
