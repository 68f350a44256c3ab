-- Where the files are accepted, the kernel's counters halt nowhere.
use Rattle.std.proofs.Common.{◌≡◌, ℕ, ◌+◌, ◌*◌, List, [], ◌∷◌, length, map, Option, Some, None, refl, ap, subst, arith}
use Rattle.ck_base.specs.declared.states.Kind.{Kind}
use Rattle.ck_base.specs.declared.states.State.TheVariants.{TI}
use Rattle.ck_base.specs.Counters.{counters_of}
use Rattle.ck_io.specs.Environment.{Files}
use Rattle.ck_cli.specs.declared.calls.KernelCall.{KernelCall}
use Rattle.ck_cli.specs.declared.form.Call.{Call}
use Rattle.ck_cli.specs.Calls.{op_of}
use Rattle.ck_base.specs.declared.tokens.Token.{Token}
use Rattle.ck_cli.specs.FileForm.{FileForm, made_calls, calls_from}
use Rattle.ck_cli.specs.Walk.{Passes}
use Rattle.ck_cli.specs.Walking.{walk}
use Rattle.ck_cli.specs.Kernel.{HaltsNowhere, KernelIsQuiet}
use Rattle.ck_cli.specs.Verdict.{IsVerdict, faulty, stray, accepted, rejected}
use Rattle.ck_cli.specs.declared.statuses.Status.{Status}
use Rattle.ck_cli.specs.declared.statuses.Status.TheVariants.{Accepted}
use Rattle.ck_cli.specs.Statuses.{code_of}
use Rattle.ck_cli.specs.Answer.{IsAnswer, no_main, too_large, judged}
use Rattle.ck_cli.specs.Promise.{Answers, IsQuietOn, KernelIsQuietOn}
use Rattle.ck_cli.proofs.KernelLemmas.{halts_nowhere}
use Rattle.ck_cli.proofs.WalkLemmas.{Alarms-from_walk}

ops_of-from : (tokens : List Token) (n : ℕ) (calls : List KernelCall)
    → map (λ c. op_of c.call) (calls_from tokens n calls) ≡ map op_of calls
ops_of-from tokens n [] = refl
ops_of-from tokens n (call ∷ calls) = ap (λ r. op_of call ∷ r) (ops_of-from tokens (n + 4) calls)

walk-passes_by : (calls : List Call) (found : Option (List Call × Call × Kind))
    → walk TI [] calls ≡ found → Passes calls → walk TI [] calls ≡ None
walk-passes_by calls None walked passes = walked
walk-passes_by calls (Some found) walked passes =
    absurd (passes found.0 found.1 found.2 (Alarms-from_walk calls found.0 found.1 found.2 walked))

-- calls that pass
quiet_form : (tokens : List Token) (form : FileForm)
    → Passes (made_calls form tokens) → HaltsNowhere (counters_of TI) (map op_of form.calls)
quiet_form tokens form passes =
    subst (HaltsNowhere (counters_of TI)) (ops_of-from tokens (6 * length form.prototypes + 6) form.calls)
    (halts_nowhere TI [] (made_calls form tokens) (walk-passes_by (made_calls form tokens)
    (walk TI [] (made_calls form tokens)) refl passes))

quiet_verdict : (bytes : List ℕ) (s : Status) (text : List ℕ)
    → IsVerdict bytes s text → s ≡ Accepted → KernelIsQuiet bytes
quiet_verdict bytes _ _ (accepted tokens form of_bytes spells passes) accepted_is =
    record {
      tokens = tokens;
      of_bytes = of_bytes;
      form = form;
      spelled = spells;
      halts_nowhere = quiet_form tokens
          form passes;
    }
quiet_verdict bytes _ text (faulty r x is_r at_x text_r) accepted_is = absurd (cc)
quiet_verdict bytes _ text (stray tokens n of_bytes is_n text_n) accepted_is = absurd (cc)
quiet_verdict bytes _ text (rejected tokens form before call kind of_bytes spells alarms text_f) accepted_is =
    absurd (cc)

pub quiet_answer : (files : Files) (s : Status) (text : List ℕ) → IsAnswer files s text → s ≡ Accepted → IsQuietOn files
quiet_answer files _ _ (no_main absent) accepted_is = absurd (cc)
quiet_answer files _ _ (too_large just bytes of_main long) accepted_is = absurd (cc)
quiet_answer files s text (judged just bytes of_main short verdict) accepted_is =
    rw of_main (quiet_verdict bytes s text verdict accepted_is)

pub quiet_told : (told : Option Files) (s : Status) (text : List ℕ)
    → Answers told s text → s ≡ Accepted → KernelIsQuietOn told
quiet_told None s text answers accepted_is = tt
quiet_told (Some files) s text answers accepted_is =
    subst IsQuietOn answers.told_files (quiet_answer answers.files s text answers.answer accepted_is)

-- the status of number 0
pub accepted_by_number : (s : Status) → code_of s ≡ 0 → s ≡ Accepted
accepted_by_number Accepted zero_is = refl
accepted_by_number _ zero_is = absurd (omega arith)
