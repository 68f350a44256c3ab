-- Files, names, paths and verdicts as plain values, without where they lie in memory.
use Rattle.std.specs.Prelude.{ℕ, List, map, string_bytes}
use Rattle.ck_base.specs.declared.files.SourceFile.{SourceFile}
use Rattle.ck_segments.specs.Plain.{PlainSegments, segments_of}
use Rattle.ck_summary.specs.declared.reached.AlarmAt.{AlarmAt}
use Rattle.ck_texts.specs.declared.names.FunctionName.{FunctionName}
use Rattle.ck_texts.specs.declared.names.NameBook.{NameBook}
use Rattle.ck_texts.specs.declared.verdicts.Alarm.{Alarm}
use Rattle.ck_texts.specs.declared.verdicts.Counts.{Counts}
use Rattle.ck_texts.specs.declared.verdicts.Verdict.{Verdict}
use Rattle.ck_texts.specs.declared.verdicts.Verdict.TheVariants.{Accepted, Rejected}

-- a file of the project
pub record File : Type 0 where
  pub name : List ℕ
  pub bytes : List ℕ

abbrev pub file_of : SourceFile → File
file_of file = record { name = string_bytes file.name; bytes = file.bytes.items }

-- the names of the functions, by their numbers, and of the outside functions
pub record Names : Type 0 where
  pub functions : List (List ℕ)
  pub outside : List (List ℕ)

abbrev pub text_of : FunctionName → List ℕ
text_of name = string_bytes name.text

abbrev pub names_of : NameBook → Names
names_of book = record {
  functions = map text_of book.functions.items;
  outside = map string_bytes book.outside.items;
}

-- an alarm, and the path to it
pub record PathToAlarm : Type 0 where
  pub at : AlarmAt
  pub path : PlainSegments

abbrev pub path_of : Alarm → PathToAlarm
path_of alarm = record { at = alarm.at; path = segments_of alarm.path }

pub data Outcome : Type 0 where
  accepted : Counts → Outcome
  rejected : List PathToAlarm → Outcome

abbrev pub outcome_of : Verdict → Outcome
outcome_of (Accepted counts) = accepted counts
outcome_of (Rejected alarms) = rejected (map path_of alarms.items)
