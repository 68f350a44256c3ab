-- What a sink took grows by one piece after another.
use Rattle.std.proofs.Common.{◌≡◌, ℕ, ◌+◌, ◌≤◌, List, take, drop, length, Option, Some, None, ap, append_assoc, arith}
use Rattle.std.proofs.Common.{length-drop}
use Rattle.std.proofs.Math.Seq.{take-add}
use Rattle.ck_io.specs.Environment.{Appends}

-- the first `n` bytes and then the next `m` are the first `n + m`
pub appends_more : (before between after : Option (List ℕ)) (bytes piece : List ℕ) (n m : ℕ)
    → Appends before between (take n bytes)
    → piece ≡ drop n bytes
    → Appends between after (take m piece)
    → Appends before after (take (n + m) bytes)
appends_more None (Some between) after bytes piece n m first same next = cc
appends_more None None after bytes piece n m first same next = next
appends_more (Some before) None after bytes piece n m first same next = cc
appends_more (Some before) (Some between) after bytes piece n m first same next =
    cc (take-add n m bytes, append_assoc before (take n bytes) (take m (drop n bytes)))

-- so many of the rest lie within the whole
pub within_more : (bytes piece : List ℕ) (n m : ℕ)
    → n ≤ length bytes → piece ≡ drop n bytes → m ≤ length piece → n + m ≤ length bytes
within_more bytes piece n m within same more = omega (arith, ap length same, length-drop n bytes)
