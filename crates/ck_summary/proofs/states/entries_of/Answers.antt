use Rattle.std.proofs.Common.{◌+◌, sym, subst}
use Rattle.std.proofs.lemmas.Bool.{false≢true}
use Rattle.ck_summary.proofs.StateLemmas.{EntriesSoFar, EntriesSoFar-reached, EntriesSoFar-left}
use Rattle.ck_summary.proofs.states.entries_of.Goals as goal
use Rattle.ck_summary.proofs.states.entries_of.Goals.{then-is_reached, else-is_reached}

pub numbers-preserved : goal.numbers-preserved
numbers-preserved c =
    let rows = c.args.rows.now in
    let to = c.numbers.to in
    elim c.if-is_reached.branch [
      | then-is_reached w ↦
          subst (λ entries. EntriesSoFar rows entries (to + 1)) (sym w.entries-is)
          (EntriesSoFar-reached rows c.numbers.entries w.add_pair.new.rows to
          (c.is_reached.ensures.0 w.if-is_reached.true) c.numbers.invariant
          (record { there = w.add_pair.ensures.there; kept = w.add_pair.ensures.kept; only = w.add_pair.ensures.only }))
      | else-is_reached w ↦
          subst (λ entries. EntriesSoFar rows entries (to + 1)) (sym w.entries-is)
          (EntriesSoFar-left rows c.numbers.entries to (λ a r. false≢true (w.if-is_reached.ensures.1 (a, r)))
          c.numbers.invariant)
    ]
