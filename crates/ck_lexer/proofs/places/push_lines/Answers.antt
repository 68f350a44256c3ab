use Rattle.std.proofs.Common.{◌≡◌, ◌<◌, length, ap, ◌∙◌, arith, subst}
use Rattle.std.specs.declared.alloc.Global.{Global}
use Rattle.std.specs.declared.vec.Vec.{Vec}
use Rattle.ck_lexer.specs.Mapping.{GoesOn}
use Rattle.ck_lexer.specs.declared.places.Line.{Line}
use Rattle.ck_lexer.proofs.LinesKept.{follows_byte, follows_feed, follows_start}
use Rattle.ck_lexer.proofs.Tests.{no-test, same-eqb, eqb-same}
use Rattle.ck_lexer.proofs.places.push_lines.Goals as goal
use Rattle.ck_lexer.proofs.places.push_lines.Goals.{then-bytes-feed-eq10+in_ok-push_line, else-bytes-feed-eq10}

pub loop-feed-init : goal.loop-feed-init
loop-feed-init c = follows_start c.args.bytes.now c.args.lines.now.items c.args.on c.args.at c.requires.numbered
    c.requires.begun

pub loop-feed-preserved : goal.loop-feed-preserved
loop-feed-preserved c =
    let bytes = c.args.bytes.now in
    let feed = c.loop-feed.feed in
    let lines = c.loop-feed.lines.items in
    let line = c.loop-feed.line in
    let after = c.if-bytes-feed-eq10.lines.items in
    let next = c.if-bytes-feed-eq10.line in
    let inside : feed < length bytes = omega arith in
    elim c.if-bytes-feed-eq10.branch [
      | then-bytes-feed-eq10+in_ok-push_line w ↦
          follows_feed bytes c.args.lines.now.items lines after c.args.on line next c.args.at feed
          c.loop-feed.invariant c.loop-feed.auto.feed inside
          (same-eqb _ 10 w.if-bytes-feed-eq10.true)
          (ap (λ (v : Vec Line Global). v.items) w.lines-is ∙ w.in_ok-push_line.ensures)
          w.line-is
      | else-bytes-feed-eq10 w ↦
          follows_byte bytes c.args.lines.now.items lines after c.args.on line next c.args.at feed
          c.loop-feed.invariant inside
          (no-test _ (λ same. w.if-bytes-feed-eq10.false (eqb-same _ 10 same)))
          (ap (λ (v : Vec Line Global). v.items) w.lines-is)
          w.line-is
    ]

pub returns-clause-lines : goal.returns-clause-lines
returns-clause-lines c =
    let e : c.loop-feed.feed ≡ c.args.end = omega (arith, c.loop-feed.auto.feed-end c.requires.rises) in
    subst (GoesOn c.args.bytes.now c.args.lines.now.items c.args.on c.args.at c.loop-feed.lines.items
    c.loop-feed.line) e c.loop-feed.invariant.found
