use Rattle.std.proofs.Common.{◌++◌, ap, ◌∙◌}
use Rattle.std.specs.Prelude.{codes, map}
use Rattle.std.specs.Fmt.{decimal}
use Rattle.ck_base.specs.Refusals.{refusal_number, refusal_words}
use Rattle.ck_texts.specs.Lines.{line}
use Rattle.ck_texts.specs.Printing.{spot_text}
use Rattle.ck_texts.specs.Views.{file_of}
use Rattle.ck_texts.proofs.LineLemmas.{refusal_pieces}
use Rattle.ck_texts.proofs.PlaceLemmas.{spot_text-is}
use Rattle.ck_texts.proofs.refusing.refusal_text.Goals as goal

pub returns : goal.returns
returns c =
    let files = map file_of c.args.files.now in
    let kind = c.args.refusal.now.kind in
    let place = spot_text files c.args.maps.now c.args.refusal.now.at in
    record {
      place = place;
      there = spot_text-is files c.args.maps.now c.args.refusal.now.at c.requires;
      written = refusal_pieces c.new-text.result.items c.push_line.new.text.items c.push_number.new.text.items
          c.push_spot.new.text.items c.push.new.self.items c.push_line-2.new.text.items
          (decimal (refusal_number kind)) place (refusal_words kind) c.new-text.ensures.items
          c.in_ok-push_line.ensures
          (c.in_ok-push_number.ensures ∙ ap (λ n. c.push_line.new.text.items
          ++ (codes "unsupported U" ++ (decimal n ++ codes " "))) c.number-number.ensures)
          c.in_ok-push_spot.ensures c.in_ok-push.ensures.items
          (c.in_ok-push_line-2.ensures ∙ ap (λ w. c.push.new.self.items ++ line w) c.words.ensures);
    }
