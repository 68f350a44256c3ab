use Rattle.ck_readers.proofs.sources.seen_by.Goals as goal

pub returns-in-Other : goal.returns-in-Other
returns-in-Other c names typedefs kind text same = rw c.in-Other.is (λ h. (text, h.0 typedefs, h.1))
