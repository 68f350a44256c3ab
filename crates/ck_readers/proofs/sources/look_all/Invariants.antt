use Rattle.std.specs.Prelude.{take}
use Rattle.ck_readers.specs.Looks.{AreLooks, AreDistinct, names_of}
use Rattle.ck_readers.proofs.sources.look_all.Given as goal

abbrev pub invariant-tokens : goal.invariant-tokens
invariant-tokens l =
    AreLooks l.bytes (names_of l.known.keys) (take l.token-index l.tokens) l.looked.items
    × AreDistinct (names_of l.known.keys)
