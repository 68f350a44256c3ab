use Rattle.ck_lexer.proofs.places.place_map.Goals as goal

pub loop-at-preserved : goal.loop-at-preserved
loop-at-preserved c =
    c.in_ok-next.ensures.lines c.args.name.now c.lexeme_at.result.lexeme c.lexeme_at.ensures.found c.loop-at.invariant
