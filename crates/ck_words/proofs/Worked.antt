-- Worked rows, computed on the definitions: words that are a command, and texts of the benchmark.
use Rattle.std.proofs.Common.{◌≡◌, [], ◌∷◌, length, inl, inr, refl, arith}
use Rattle.std.specs.Prelude.{codes}
use Rattle.std.specs.Fmt.{digits}
use Rattle.ck_words.specs.declared.commands.Command.TheVariants.{Check, Bench, Upgrade}
use Rattle.ck_words.specs.BenchText.{bench_lines, bench_text, caller_lines}
use Rattle.ck_words.specs.Commands.{IsCommand}

check : IsCommand (codes "rtcheck" ∷ codes "check" ∷ []) Check
check = refl

upgrade : IsCommand ([] ∷ codes "upgrade" ∷ []) Upgrade
upgrade = refl

bench : IsCommand (codes "rtcheck" ∷ codes "bench" ∷ codes "--number" ∷ codes "40" ∷ []) (Bench 40)
unfolding digits
bench = (omega arith, omega arith, inl refl)

bench_option_first : IsCommand (codes "rtcheck" ∷ codes "--number=8000" ∷ codes "bench" ∷ []) (Bench 8000)
unfolding digits
bench_option_first = (omega arith, omega arith, inr (inr (inr refl)))

-- the lines of the text for 2
bench_2 : bench_lines 2
    ≡ codes "void chSysInit(void);"
    ∷ codes "void chSysLock(void);"
    ∷ codes "void chSysUnlock(void);"
    ∷ codes "int v;"
    ∷ codes "void f0(void) { chSysLock(); chSysUnlock(); }"
    ∷ codes "void f1(void) { if (v) f0(); else f0(); }"
    ∷ codes "void f2(void) { if (v) f1(); else f1(); }"
    ∷ codes "int main(void) { chSysInit(); f2(); }"
    ∷ []
unfolding digits caller_lines
bench_2 = refl

size_of_bench_1 : length (bench_text 1) ≡ 201
unfolding digits caller_lines
size_of_bench_1 = refl

size_of_bench_40 : length (bench_text 40) ≡ 1931
unfolding digits caller_lines
size_of_bench_40 = refl
