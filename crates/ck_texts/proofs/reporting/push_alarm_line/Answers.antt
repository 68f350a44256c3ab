use Rattle.std.proofs.Common.{◌++◌, ap, ◌∙◌}
use Rattle.std.specs.Fmt.{decimal}
use Rattle.ck_graph.specs.Flow.{point_at}
use Rattle.ck_texts.specs.Lines.{kind_text}
use Rattle.ck_texts.specs.Printing.{place_by}
use Rattle.ck_texts.specs.Report.{called_name, site}
use Rattle.ck_texts.specs.Views.{names_of}
use Rattle.ck_texts.proofs.LineLemmas.{alarm_pieces}
use Rattle.ck_texts.proofs.reporting.push_alarm_line.Goals as goal

pub returns : goal.returns
returns c =
    let names = names_of c.args.names.now in
    let maps = c.args.names.now.maps.items in
    alarm_pieces c.args.text.now.items c.push_number.new.text.items c.push_kind.new.text.items c.push.new.self.items
    c.push_site.new.text.items c.push-2.new.self.items c.extend_from_slice.new.self.items c.push-3.new.self.items
    (decimal c.args.number) (kind_text c.args.at.now.kind)
    (site c.args.graph.now (place_by maps) c.args.at.now.point.0)
    (called_name names (point_at c.args.graph.now c.args.at.now.point.0).kind)
    c.in_ok-push_number.ensures c.in_ok-push_kind.ensures c.in_ok-push.ensures.items c.in_ok-push_site.ensures
    c.in_ok-push-2.ensures.items
    (c.in_ok-extend_from_slice.ensures.items ∙ ap (λ n. c.push-2.new.self.items ++ n) c.called_name.ensures)
    c.in_ok-push-3.ensures.items
