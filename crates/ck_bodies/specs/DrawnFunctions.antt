-- The points of whole functions, put from the last to the first.
use Rattle.std.specs.Prelude.{List, [], if◌then◌else◌}
use Rattle.ck_base.specs.declared.tokens.Token.{Token}
use Rattle.ck_passages.specs.Drawing.{put, put_passing}
use Rattle.ck_passages.specs.Points.{Drawn}
use Rattle.ck_points.specs.Functions.{entry, exit, pair_entered, pair_left, status_in}
use Rattle.ck_points.specs.Labels.{Labelled, labels_from}
use Rattle.ck_points.specs.Places.{Place, Passes, EntersPair, LeavesPair, Ends}
use Rattle.ck_prog.specs.TypedBodies.{TypedItems}
use Rattle.ck_bodies.specs.DrawnStatements.{Targets, draw_items}

-- jumps that lead out of a body
abbrev pub out_of_body : List Labelled → Place → Targets
out_of_body ls out = record { broken = out; continued = out; returned = out; labels = ls }

-- the items of a body, where `return` and the body's end lead to what comes next
unfoldable pub inside : List Labelled → TypedItems → Drawn → Drawn
inside ls is d = draw_items (out_of_body ls d.to) [] 0 is d

unfoldable pub ending : Token → Drawn
ending name = put exit Ends name.span [] []

-- a function that doesn't keep the kernel's status, and one that does
unfoldable pub plain_whole : Token → List Labelled → TypedItems → Drawn
plain_whole name ls is = put_passing entry Passes name.span (inside ls is (ending name))

unfoldable pub pair_whole : Token → List Labelled → TypedItems → Drawn
pair_whole name ls is =
    put_passing entry Passes name.span
    (put_passing pair_entered EntersPair name.span
    (inside ls is (put_passing pair_left LeavesPair name.span (ending name))))

abbrev pub draw_whole : Token → TypedItems → Drawn
draw_whole name is =
    if status_in is then pair_whole name (labels_from [] 0 is) is else plain_whole name (labels_from [] 0 is) is
