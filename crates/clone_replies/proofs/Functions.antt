-- Counts of functions with a body are the same over other words for types.
use Rattle.std.proofs.Common.{◌≡◌, ◌∙◌, ℕ, ◌+◌, Bool, cond, List, [], ◌∷◌, map, count_by, refl, sym, ap}
use Rattle.std.proofs.lemmas.List.Sums.{sum_by-cons}
use Rattle.go_types.specs.Trees.{TypeTree}
use Rattle.go_types_relations.specs.Renaming.{renamed}
use Rattle.go_typed.specs.Contents.{FuncContent, func_content, func_renamed}
use Rattle.go_typed.specs.Funcs.{FuncView, tree_of}
use Rattle.go_typed.specs.Trees.{Typed, typed, none, more, skip, mapped}
use Rattle.clone_replies.specs.Numbers.{has_body}

count-mapped : {A B : Type 0} (g : A → B) (p : A → Bool) (q : B → Bool) → ((x : A) → q (g x) ≡ p x) → (xs : List A) → count_by q (map g xs) ≡ count_by p xs
count-mapped g p q same [] = refl
count-mapped g p q same (x ∷ xs) =
    sum_by-cons (λ y. cond (q y) 1 0) (g x) (map g xs)
    ∙ ap (λ b. cond b 1 0 + count_by q (map g xs)) (same x)
    ∙ ap (λ n. cond (p x) 1 0 + n) (count-mapped g p q same xs)
    ∙ sym (sum_by-cons (λ y. cond (p y) 1 0) x xs)

body-mapped : {T U : Type 0} (g : T → U) (x : Typed T) → has_body (mapped g x) ≡ has_body x
body-mapped g (typed f i j l none) = refl
body-mapped g (typed f i j l (more p ps)) = refl
body-mapped g (typed f i j l (skip ps)) = refl

abbrev pub with_body : List FuncContent → ℕ
with_body fs = count_by (λ f. has_body f.tree) fs

pub content-counted : (g : ℕ → TypeTree) (fs : List FuncView) → with_body (map (func_content g) fs) ≡ count_by (λ f. has_body (tree_of f)) fs
content-counted g fs = count-mapped (func_content g) (λ f. has_body (tree_of f)) (λ f. has_body f.tree) (λ f. body-mapped g (tree_of f)) fs

pub renamed-counted : (name : ℕ → ℕ) (fs : List FuncContent) → with_body (map (func_renamed name) fs) ≡ with_body fs
renamed-counted name fs = count-mapped (func_renamed name) (λ f. has_body f.tree) (λ f. has_body f.tree) (λ f. body-mapped (renamed name) f.tree) fs
