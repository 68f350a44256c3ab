-- What a reader holds, as plain values.
use Rattle.ck_cli.specs.declared.form.Reader.{Reader}
use Rattle.ck_cli.specs.Reading.{Progress}

abbrev pub progress : Reader → Progress
progress r = record { position = r.position; declared = r.declared; main = r.main; calls = r.calls.items }
