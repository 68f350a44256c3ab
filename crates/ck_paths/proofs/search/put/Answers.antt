use Rattle.ck_paths.proofs.Growing.{grows-added, has-added}
use Rattle.ck_paths.proofs.search.put.Goals as goal

pub returns-clause-grows : goal.returns-clause-grows
returns-clause-grows c =
    grows-added c.args.graph.now c.args.point c.args.from c.args.to c.args.reason c.args.found.now.places.items
    c.add.new.self.places.items c.args.found.now.last.items c.add.new.self.last.items c.requires.ready
    c.in_ok-add.ensures c.requires.holds

pub returns-clause-there : goal.returns-clause-there
returns-clause-there c = has-added c.args.point c.args.from c.args.to c.args.reason c.args.found.now.places.items
    c.add.new.self.places.items c.in_ok-add.ensures.added
