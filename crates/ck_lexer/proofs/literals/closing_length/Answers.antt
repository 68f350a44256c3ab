use Rattle.std.proofs.Common.{◌≡◌, ◌-◌, length, take, drop, arith, ap, sym, ◌∙◌}
use Rattle.std.proofs.lemmas.List.{take_rest, length-drop}
use Rattle.ck_lexer.specs.Scanning.{literal_step}
use Rattle.ck_lexer.specs.declared.literals.Step.TheVariants.{On}
use Rattle.ck_lexer.proofs.Closing.{closing-on, closing-start, closing-end, closing-none, closing-more}
use Rattle.ck_lexer.proofs.literals.closing_length.Goals as goal

pub loop-length-init : goal.loop-length-init
loop-length-init c = record { within = omega arith; so_far = closing-start c.args.quote c.args.text.now }

pub loop-length-preserved : goal.loop-length-preserved
loop-length-preserved c =
    let text = c.args.text.now in
    let at = c.loop-length.length in
    let rest : take (length text - at) (drop at text) ≡ drop at text = take_rest text at in
    let step : literal_step c.args.quote (take (length text - at)
    (drop at text)) ≡ On c.in-On.size = sym c.in-On.ensures in
    let on = closing-on c.args.quote (take (length text - at) (drop at text)) c.in-On.size step in
    record {
      within = omega (arith, on.fits, ap length rest, length-drop at text);
      so_far = closing-more c.args.quote text (take (length text - at) (drop at text)) at c.in-On.size rest step
          ∙ c.loop-length.invariant.so_far;
    }

pub returns-in-Closed : goal.returns-in-Closed
returns-in-Closed c =
    let text = c.args.text.now in
    let at = c.loop-length.length in
    record {
      found = sym (closing-end c.args.quote text (take (length text - at) (drop at text)) at (take_rest text at)
          (sym c.in-Closed.ensures)) ∙ c.loop-length.invariant.so_far;
      within = (omega arith, omega arith);
    }

pub returns-in-Broken : goal.returns-in-Broken
returns-in-Broken c =
    let text = c.args.text.now in
    let at = c.loop-length.length in
    record {
      found = sym (closing-none c.args.quote text (take (length text - at) (drop at text)) at (take_rest text at)
          (sym c.in-Broken.ensures)) ∙ c.loop-length.invariant.so_far;
      within = tt;
    }
