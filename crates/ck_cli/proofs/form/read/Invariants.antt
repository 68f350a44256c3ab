use Rattle.std.proofs.Common.{◌≡◌, take, Some}
use Rattle.ck_cli.specs.Reading.{beginning, over}
use Rattle.ck_cli.specs.Readers.{progress}
use Rattle.ck_cli.proofs.form.read.Given as goal

abbrev pub invariant-loop-token : goal.invariant-loop-token
invariant-loop-token l = over l.bytes (take l.token-index l.tokens) beginning ≡ Some (progress l.reader)
