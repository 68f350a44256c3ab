use Rattle.ck_settings.specs.Values.{settings_view}
use Rattle.ck_settings.specs.Documents.{Gives, settings_of}
use Rattle.ck_settings.proofs.Joined.{file_is}
use Rattle.ck_settings.proofs.ValidSettings.{settings_valid}
use Rattle.ck_settings.proofs.read.read_settings.Goals as goal

pub returns : goal.returns
returns c =
    let reads : Gives settings_view c.settings_of_file.result (settings_of c.args.bytes.now) = rw
    (← file_is c.args.bytes.now) c.settings_of_file.ensures in
    record { reads = reads; valid = settings_valid c.args.bytes.now c.settings_of_file.result reads }
