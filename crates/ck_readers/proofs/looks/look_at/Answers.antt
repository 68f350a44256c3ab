use Rattle.ck_readers.proofs.NameLemmas.{stored_name, distinct_inserted}
use Rattle.ck_readers.proofs.looks.look_at.Goals as goal

pub returns-in_ok-number-in-Word-clause-distinct : goal.returns-in_ok-number-in-Word-clause-distinct
returns-in_ok-number-in-Word-clause-distinct c =
    distinct_inserted (λ k. k.now) c.args.known.now.keys c.insert_full.new.self.keys c.args.text
    c.in_ok-number-in-Word.ensures.keys c.requires

pub returns-in_ok-number-in-Word-clause-told : goal.returns-in_ok-number-in-Word-clause-told
returns-in_ok-number-in-Word-clause-told c =
    let stored = c.in_ok-number-in-Word.ensures.stored in (
      c.in-Word.is,
      stored_name (λ k. k.now) c.insert_full.new.self.keys c.in_ok-number-in-Word.number c.args.text stored.0 stored.1
          stored.2,
    )

pub returns-in-Key-clause-told : goal.returns-in-Key-clause-told
returns-in-Key-clause-told c = c.fixed_look.ensures _ c.in-Key.is
