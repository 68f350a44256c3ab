use Rattle.std.specs.Fmt.{decimal}
use Rattle.ck_texts.proofs.LineLemmas.{accepted_pieces}
use Rattle.ck_texts.proofs.reporting.accepted.Goals as goal

pub returns : goal.returns
returns c =
    accepted_pieces c.new-text.result.items c.push_line.new.text.items c.push_line-2.new.text.items
    c.push_number.new.text.items c.push_number-2.new.text.items c.push_number-3.new.text.items
    (decimal c.args.counts.files) (decimal c.args.counts.functions) (decimal c.args.counts.entries)
    c.new-text.ensures.items c.in_ok-push_line.ensures c.in_ok-push_line-2.ensures c.in_ok-push_number.ensures
    c.in_ok-push_number-2.ensures c.in_ok-push_number-3.ensures
