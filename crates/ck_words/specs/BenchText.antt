-- The text of the one file of the benchmark for a number N (docs/COMMANDS.md, "The benchmark"): prototypes, a
-- variable, a function f0 that locks and unlocks, for each k from 1 to N a function fk that calls the one before it on
-- both ways of a test, and a main that calls fN.
use Rattle.std.specs.Prelude.{ℕ, zero, suc, List, [], ◌∷◌, ◌++◌, codes}
use Rattle.std.specs.List.{flat_map}
use Rattle.std.specs.Fmt.{decimal}

abbrev pub line : List ℕ → List ℕ
line text = text ++ codes "\n"

abbrev pub first_lines : List (List ℕ)
first_lines =
    codes "void chSysInit(void);"
    ∷ codes "void chSysLock(void);"
    ∷ codes "void chSysUnlock(void);"
    ∷ codes "int v;"
    ∷ codes "void f0(void) { chSysLock(); chSysUnlock(); }"
    ∷ []

abbrev pub caller_line : ℕ → ℕ → List ℕ
caller_line caller callee =
    codes "void f" ++ (decimal caller ++ (codes "(void) { if (v) f" ++ (decimal callee
    ++ (codes "(); else f" ++ (decimal callee ++ codes "(); }")))))

-- a line for each k from 1 to n
unfoldable pub caller_lines : ℕ → List (List ℕ)
caller_lines zero = []
caller_lines (suc k) = caller_lines k ++ caller_line (suc k) k ∷ []

abbrev pub main_line : ℕ → List ℕ
main_line n = codes "int main(void) { chSysInit(); f" ++ (decimal n ++ codes "(); }")

abbrev pub bench_lines : ℕ → List (List ℕ)
bench_lines n = first_lines ++ (caller_lines n ++ main_line n ∷ [])

abbrev pub bench_text : ℕ → List ℕ
bench_text n = flat_map line (bench_lines n)
