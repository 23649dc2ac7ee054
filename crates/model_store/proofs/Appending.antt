-- What stood in a slot stays its beginning while values are appended.
use Rattle.std.proofs.Common.{◌≡◌, ℕ, List, [], ◌∷◌, ◌++◌, length, take, drop, refl, sym, ap, ◌∙◌, append_assoc, arith}
use Rattle.std.proofs.lemmas.List.{take_all, take_at, take-append-drop}

pub kept_none : {X : Type 0} (xs : List X) → take (length xs) xs ≡ xs
kept_none xs = take_all (length xs) xs (omega arith)

pub kept_one : {X : Type 0} (xs : List X) (x : X) → take (length xs) (xs ++ x ∷ []) ≡ xs
kept_one xs x = take_at xs (x ∷ []) (length xs) refl

pub kept_more : {X : Type 0} (xs ys zs : List X) → take (length xs) ys ≡ xs → take (length ys) zs ≡ ys → take (length xs) zs ≡ xs
kept_more {X} xs ys zs a b =
    let first : ys ≡ xs ++ drop (length xs) ys = sym (take-append-drop (length xs) ys) ∙ ap (λ (l : List X). l ++ drop (length xs) ys) a in
    let second : zs ≡ ys ++ drop (length ys) zs = sym (take-append-drop (length ys) zs) ∙ ap (λ (l : List X). l ++ drop (length ys) zs) b in
    let whole : zs ≡ xs ++ (drop (length xs) ys ++ drop (length ys) zs) =
    second ∙ ap (λ (l : List X). l ++ drop (length ys) zs) first ∙ append_assoc xs (drop (length xs) ys) (drop (length ys) zs) in
    ap (take (length xs)) whole ∙ take_at xs (drop (length xs) ys ++ drop (length ys) zs) (length xs) refl
