-- The words of the command line, and the statuses at which nothing is written.
use Rattle.std.proofs.Common.{◌≡◌, ℕ, ◌≤◌, Bool, List, [], ◌∷◌, length, get_or, map, sym, ap, ◌∙◌, arith}
use Rattle.std.specs.Prelude.{IsTrue, codes}
use Rattle.std.specs.Str.{bytes_eq}
use Rattle.std.proofs.lemmas.Slice.Eq.{bytes_eq-Decides}
use Rattle.ck_cli.specs.Promise.{IsCheck}
use Rattle.ck_cli.specs.Statuses.{IsSilent}

is_check_word : (name word : List ℕ) (r : Bool)
    → r ≡ bytes_eq word (codes "check")
    → (IsTrue r → IsCheck (name ∷ word ∷ [])) × (IsCheck (name ∷ word ∷ []) → IsTrue r)
is_check_word name word r is = (
  λ yes. (
    name,
    let same : word ≡ codes "check" = (bytes_eq-Decides word (codes "check")).0 (sym is ∙ yes) in ap
        (λ w. name ∷ w ∷ []) same,
  ),
  λ check. is ∙ (bytes_eq-Decides word (codes "check")).1 (let e = check.1 in cc),
)

pub check_words : {W : Type 0} (h : W → List ℕ) (words : List W) (word : W) (r : Bool)
    → length words ≡ 2 → word ≡ get_or words 1 word → r ≡ bytes_eq (h word) (codes "check")
    → (IsTrue r → IsCheck (map h words)) × (IsCheck (map h words) → IsTrue r)
check_words h [] word r two second is = absurd (omega arith)
check_words h (a ∷ []) word r two second is = absurd (omega arith)
check_words h (a ∷ b ∷ []) word r two second is =
    is_check_word (h a) (h b) r (is ∙ ap (λ w. bytes_eq (h w) (codes "check")) second)
check_words h (a ∷ b ∷ d ∷ words) word r two second is = absurd (omega arith)

pub low_is_not_silent : (n : ℕ) → n ≤ 2 → IsSilent n → ⊥
low_is_not_silent n low silent = grind arith
