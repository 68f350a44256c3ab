use Rattle.std.proofs.Common.{refl}
use Rattle.std.specs.Prelude.{codes}
use Rattle.std.specs.List.{flat_map}
use Rattle.ck_lexer.specs.PlaceMaps.{place_of}
use Rattle.ck_cli.specs.Texts.{first_line, line, alarm_line, entry_lines, act_line}
use Rattle.ck_cli.proofs.TextLemmas.{seven_pieces}
use Rattle.ck_cli.proofs.texts.rejected.Goals as goal

pub returns : goal.returns
returns c =
    let acts = c.in_ok-push_acts.ensures in
    let call = c.args.alarm.now.call in
    record {
      main_place = place_of c.place-2.result;
      of_main = c.place-2.ensures;
      acts = acts.acts;
      of_acts = acts.placed;
      last = record { call = call.call; place = place_of c.place.result };
      of_last = record { call = refl; place = c.place.ensures };
      written = seven_pieces c.new-text.result.items c.push_line.new.text.items c.push_line-2.new.text.items
          c.push_alarm.new.text.items c.push_entry.new.text.items c.push_line-3.new.text.items
          c.push_acts.new.text.items c.push_line-4.new.text.items
          first_line (line (codes "rejected 1")) (alarm_line (record {
            call = call.call;
            place = place_of
                c.place.result;
          }) c.args.alarm.now.kind) (entry_lines (place_of c.place-2.result))
          (line (codes "segment 2 main")) (flat_map act_line acts.acts) (line (codes "  alarm"))
          c.new-text.ensures.items c.in_ok-push_line.ensures c.in_ok-push_line-2.ensures c.in_ok-push_alarm.ensures
          c.in_ok-push_entry.ensures c.in_ok-push_line-3.ensures acts.written c.in_ok-push_line-4.ensures;
    }
