-- The program's bytes of maximal classes and covered statements are those of the definition.
use Rattle.std.proofs.Common.{◌≡◌, ◌∙◌, ℕ, List, [], ◌∷◌, ◌++◌, length, map, ap, refl, sym}
use Rattle.std.proofs.lemmas.List.{length-map}
use Rattle.std.specs.Prelude.{codes}
use Rattle.std.specs.Fmt.{decimal}
use Rattle.std.specs.List.{flat_map}
use Rattle.clone_script.specs.declared.maximal.NumberedClass.{NumberedClass}
use Rattle.clone_script.specs.Maximal as script
use Rattle.clone_script.specs.Maximal.{coverage_lines}
use Rattle.clone_replies.specs.Classes.{ShownClass}
use Rattle.clone_replies.specs.Maximal.{maximal_text, numbered, numbered_text}
use Rattle.clone_replies.proofs.Places.{class-shown}

classes-numbered : (names : List (List ℕ)) (xs : List NumberedClass) → flat_map (script.numbered_text names) xs ≡ flat_map (numbered_text names) (map numbered xs)
classes-numbered names [] = refl
classes-numbered names (x ∷ xs) =
    ap (λ bs. bs ++ flat_map (script.numbered_text names) xs) (class-shown names x.number x.class)
    ∙ ap (λ bs. numbered_text names (numbered x) ++ bs) (classes-numbered names xs)

text-numbered : (names : List (List ℕ)) (xs : List NumberedClass) (covered : List (ℕ × ℕ)) → script.maximal_reply names xs covered ≡ maximal_text names (map numbered xs) covered
text-numbered names xs covered =
    ap (λ k. codes "maximal " ++ decimal k ++ codes "\n" ++ flat_map (script.numbered_text names) xs ++ coverage_lines names 0 covered) (sym (length-map xs numbered))
    ∙ ap (λ bs. codes "maximal " ++ decimal (length (map numbered xs)) ++ codes "\n" ++ bs ++ coverage_lines names 0 covered) (classes-numbered names xs)

pub maximal-reply-of : (names told : List (List ℕ)) (xs : List NumberedClass) (ys : List (ℕ × ShownClass)) (covered : List (ℕ × ℕ)) → names ≡ told → map numbered xs ≡ ys →
    script.maximal_reply names xs covered ≡ maximal_text told ys covered
maximal-reply-of names told xs ys covered e f =
    text-numbered names xs covered
    ∙ ap (λ ns. maximal_text ns (map numbered xs) covered) e
    ∙ ap (λ zs. maximal_text told zs covered) f
