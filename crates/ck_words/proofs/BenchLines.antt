-- The lines of the benchmark, one after the other.
use Rattle.std.proofs.Common.{◌≡◌, ℕ, suc, ◌+◌, List, [], ◌∷◌, ◌++◌, refl, sym, ap, ◌∙◌}
use Rattle.std.proofs.Common.{append_assoc, add-one}
use Rattle.std.specs.Prelude.{codes}
use Rattle.std.specs.List.{flat_map}
use Rattle.std.proofs.lemmas.List.{append-nil}
use Rattle.std.proofs.lemmas.List.Concat.{flat_map-append}
use Rattle.ck_words.specs.BenchText.{caller_line, caller_lines, first_lines, line}

flat_map-line : (xs : List (List ℕ)) (x : List ℕ) → flat_map line (xs ++ x ∷ []) ≡ flat_map line xs ++ line x
flat_map-line xs x = flat_map-append line xs (x ∷ []) ∙ ap (λ t. flat_map line xs ++ t) (append-nil (line x))

-- the line of one caller more
pub more_callers : (n : ℕ) (first now next : List ℕ) → now ≡ first ++ flat_map line (caller_lines n)
    → next ≡ now ++ line (caller_line (n + 1) n) → next ≡ first ++ flat_map line (caller_lines (n + 1))
unfolding caller_lines
more_callers n first now next known more =
    let one : n + 1 ≡ suc n = add-one n in
    let one_more = rw one at more in
    rw one (one_more ∙ (ap (λ t. t ++ line (caller_line (suc n) n)) known
    ∙ (append_assoc first (flat_map line (caller_lines n)) (line (caller_line (suc n) n))
    ∙ ap (λ t. first ++ t) (sym (flat_map-line (caller_lines n) (caller_line (suc n) n))))))

-- the last line, after all the others
pub last_line : (first callers : List (List ℕ)) (main now next : List ℕ)
    → now ≡ flat_map line first ++ flat_map line callers → next ≡ now ++ line main
    → next ≡ flat_map line (first ++ (callers ++ main ∷ []))
last_line first callers main now next known more =
    more ∙ (ap (λ t. t ++ line main) known
    ∙ (append_assoc (flat_map line first) (flat_map line callers) (line main)
    ∙ (ap (λ t. flat_map line first ++ t) (sym (flat_map-line callers main))
    ∙ sym (flat_map-append line first (callers ++ main ∷ [])))))

-- nothing, and the first lines at once
pub first_text : (start text now : List ℕ) → start ≡ [] → text ≡ flat_map line first_lines
    → now ≡ start ++ text → now ≡ flat_map line first_lines ++ flat_map line (caller_lines 0)
unfolding caller_lines
first_text start text now e0 e1 e2 = rw (e2, e0, e1) refl

-- the line of main, formatted
pub main_text : (digits now main next : List ℕ)
    → main ≡ codes "int main(void) { chSysInit(); f" ++ (digits ++ codes "(); }\n") → next ≡ now ++ main
    → next ≡ now ++ line (codes "int main(void) { chSysInit(); f" ++ (digits ++ codes "(); }"))
main_text digits now main next e1 e2 = rw (e2, e1) (simp append_assoc)
