-- Lines one after the other.
use Rattle.std.proofs.Common.{◌≡◌, ℕ, ◌+◌, ◌<◌, List, [], ◌∷◌, ◌++◌, length, take, get_or, sym, ap, ◌∙◌, arith}
use Rattle.std.proofs.Common.{append_assoc}
use Rattle.std.specs.Prelude.{codes, map}
use Rattle.std.proofs.lemmas.List.{append-nil, length-take-le, length-map, map-append, take_more}
use Rattle.ck_texts.specs.Lines.{first_line, line, numbered}

-- one thing more
numbered-push : {A : Type 0} (text : ℕ → A → List ℕ) (n : ℕ) (xs : List A) (x : A)
    → numbered text n (xs ++ x ∷ []) ≡ numbered text n xs ++ text (n + length xs) x
numbered-push {A} text n [] x =
    let number : n ≡ n + length {A = A} [] = omega arith in append-nil (text n x) ∙ ap (λ k. text k x) number
numbered-push text n (y ∷ xs) x =
    let rest : numbered text (n + 1) (xs ++ x ∷ []) ≡ numbered text (n + 1) xs ++ text (n + 1 + length xs) x =
    numbered-push text (n + 1) xs x in
    let number : n + 1 + length xs ≡ n + length (y ∷ xs) = omega arith in
    ap (λ t. text n y ++ t) rest
    ∙ (sym (append_assoc (text n y) (numbered text (n + 1) xs) (text (n + 1 + length xs) x))
    ∙ ap (λ k. (text n y ++ numbered text (n + 1) xs) ++ text k x) number)

-- a loop over things that are numbered from 1, one thing further
pub numbered-more : {X A : Type 0} (text : ℕ → A → List ℕ) (view : X → A) (xs : List X) (i : ℕ) (x : X)
    (start now next : List ℕ) → i < length xs → x ≡ get_or xs i x
    → now ≡ start ++ numbered text 1 (map view (take i xs)) → next ≡ now ++ text (i + 1) (view x)
    → next ≡ start ++ numbered text 1 (map view (take (i + 1) xs))
numbered-more text view xs i x start now next below is known more =
    let taken : take (i + 1) xs ≡ take i xs ++ get_or xs i x ∷ [] = take_more xs i x below in
    let seen : map view (take (i + 1) xs) ≡ map view (take i xs) ++ view x ∷ [] =
    ap (map view) taken ∙ (map-append view (take i xs) (get_or xs i x ∷ [])
    ∙ ap (λ y. map view (take i xs) ++ view y ∷ []) (sym is)) in
    let size : 1 + length (map view (take i xs)) ≡ i + 1 =
    omega (arith, length-map (take i xs) view, length-take-le i xs (omega arith)) in
    let pushed : numbered text 1 (map view (take i xs) ++ view x ∷ [])
    ≡ numbered text 1 (map view (take i xs)) ++ text (i + 1) (view x) =
    numbered-push text 1 (map view (take i xs)) (view x)
    ∙ ap (λ k. numbered text 1 (map view (take i xs)) ++ text k (view x)) size in
    more ∙ (ap (λ t. t ++ text (i + 1) (view x)) known
    ∙ (append_assoc start (numbered text 1 (map view (take i xs))) (text (i + 1) (view x))
    ∙ ap (λ t. start ++ t) (sym pushed ∙ ap (numbered text 1) (sym seen))))

-- ---- Pieces of a text, one after the other

pub accepted_pieces : (start s1 s2 s3 s4 s5 files functions entries : List ℕ) → start ≡ [] → s1 ≡ start ++ first_line
    → s2 ≡ s1 ++ line (codes "accepted") → s3 ≡ s2 ++ (codes "files " ++ (files ++ codes " "))
    → s4 ≡ s3 ++ (codes "functions " ++ (functions ++ codes " "))
    → s5 ≡ s4 ++ (codes "entries " ++ (entries ++ codes "\n"))
    → s5 ≡ first_line ++ (line (codes "accepted") ++ line (codes "files " ++ (files ++ (codes " functions " ++
    (functions ++ (codes " entries " ++ entries))))))
accepted_pieces start s1 s2 s3 s4 s5 files functions entries e0 e1 e2 e3 e4 e5 =
    rw (e5, e4, e3, e2, e1, e0) (simp append_assoc)

pub refusal_pieces : (start s1 s2 s3 s4 s5 number place words : List ℕ) → start ≡ [] → s1 ≡ start ++ first_line
    → s2 ≡ s1 ++ (codes "unsupported U" ++ (number ++ codes " ")) → s3 ≡ s2 ++ place → s4 ≡ s3 ++ codes " "
    → s5 ≡ s4 ++ line words
    → s5 ≡ first_line ++ line (codes "unsupported U" ++ (number ++ (codes " " ++ (place ++ (codes " " ++ words)))))
refusal_pieces start s1 s2 s3 s4 s5 number place words e0 e1 e2 e3 e4 e5 =
    rw (e5, e4, e3, e2, e1, e0) (simp append_assoc)

pub rejected_pieces : (start s1 s2 s3 number alarms : List ℕ) → start ≡ [] → s1 ≡ start ++ first_line
    → s2 ≡ s1 ++ (codes "rejected " ++ (number ++ codes "\n")) → s3 ≡ s2 ++ alarms
    → s3 ≡ first_line ++ (line (codes "rejected " ++ number) ++ alarms)
rejected_pieces start s1 s2 s3 number alarms e0 e1 e2 e3 = rw (e3, e2, e1, e0) (simp append_assoc)

pub alarm_pieces : (s0 s1 s2 s3 s4 s5 s6 s7 number kind site name : List ℕ)
    → s1 ≡ s0 ++ (codes "alarm " ++ (number ++ codes " ")) → s2 ≡ s1 ++ kind → s3 ≡ s2 ++ codes " " → s4 ≡ s3 ++ site
    → s5 ≡ s4 ++ codes " " → s6 ≡ s5 ++ name → s7 ≡ s6 ++ codes "\n"
    → s7 ≡ s0 ++ line (codes "alarm " ++ (number ++ (codes " " ++ (kind ++ (codes " " ++
    (site ++ (codes " " ++ name)))))))
alarm_pieces s0 s1 s2 s3 s4 s5 s6 s7 number kind site name e1 e2 e3 e4 e5 e6 e7 =
    rw (e7, e6, e5, e4, e3, e2, e1) (simp append_assoc)

pub segment_pieces : (s0 s1 s2 s3 s4 s5 number name steps end : List ℕ)
    → s1 ≡ s0 ++ (codes "segment " ++ (number ++ codes " ")) → s2 ≡ s1 ++ name → s3 ≡ s2 ++ codes "\n"
    → s4 ≡ s3 ++ steps → s5 ≡ s4 ++ end
    → s5 ≡ s0 ++ (line (codes "segment " ++ (number ++ (codes " " ++ name))) ++ (steps ++ end))
segment_pieces s0 s1 s2 s3 s4 s5 number name steps end e1 e2 e3 e4 e5 = rw (e5, e4, e3, e2, e1) (simp append_assoc)

pub call_pieces : (s0 s1 s2 site name number : List ℕ) → s1 ≡ s0 ++ (codes "  call " ++ (site ++ (codes " " ++ name)))
    → s2 ≡ s1 ++ (codes " " ++ (number ++ codes "\n"))
    → s2 ≡ s0 ++ line (codes "  call " ++ (site ++ (codes " " ++ (name ++ (codes " " ++ number)))))
call_pieces s0 s1 s2 site name number e1 e2 = rw (e2, e1) (simp append_assoc)

pub three_pieces : (s0 s1 s2 s3 a b c : List ℕ) → s1 ≡ s0 ++ a → s2 ≡ s1 ++ b → s3 ≡ s2 ++ c
    → s3 ≡ s0 ++ (a ++ (b ++ c))
three_pieces s0 s1 s2 s3 a b c e1 e2 e3 = rw (e3, e2, e1) (simp append_assoc)
