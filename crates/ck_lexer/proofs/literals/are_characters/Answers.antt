use Rattle.std.proofs.Common.{◌≡◌, ◌-◌, length, take, drop, arith, ap, sym, ◌∙◌}
use Rattle.std.proofs.lemmas.List.{take_rest, length-drop}
use Rattle.ck_lexer.proofs.Characters.{characters-more, characters-stop}
use Rattle.ck_lexer.proofs.literals.are_characters.Goals as goal

pub loop-at-preserved : goal.loop-at-preserved
loop-at-preserved c =
    let text = c.args.text.now in
    let at = c.loop-at.at in
    let rest : take (length text - at) (drop at text) ≡ drop at text = take_rest text at in
    record {
      within = omega (arith, c.in-Some.ensures.within, ap length rest, length-drop at text);
      so_far = characters-more text (take (length text - at) (drop at text)) at c.in-Some.size rest
          (sym c.in-Some.ensures.size) c.in-Some.ensures.within c.in-Some.ensures.some ∙ c.loop-at.invariant.so_far;
    }

pub returns-in-None : goal.returns-in-None
returns-in-None c =
    let text = c.args.text.now in
    let at = c.loop-at.at in
    let rest : take (length text - at) (drop at text) ≡ drop at text = take_rest text at in
    sym (sym c.loop-at.invariant.so_far ∙ characters-stop text (take (length text - at) (drop at text)) at rest
    (omega (arith, c.loop-at-test.true, ap length rest, length-drop at text)) (sym c.in-None.ensures.size))
