use Rattle.std.proofs.Common.{◌≡◌, OnOk, subst}
use Rattle.ck_passages.specs.Drawing.{put_call}
use Rattle.ck_passages.specs.Walks.{tables, made}
use Rattle.ck_passages.proofs.NamedEntries.{declared-fits}
use Rattle.ck_passages.proofs.walk.Walk.draw_call.Goals as goal

pub returns : goal.returns
returns c =
    let w = c.args.self.now in
    let l = tables w in
    let old = made w c.args.drawing.now in
    subst (λ e. OnOk c.put_call.result (made w c.put_call.new.self
    ≡ put_call c.args.here.now w.orders.now e c.args.site old)) (declared-fits l c.args.function c.requires)
    (c.put_call.ensures l)
