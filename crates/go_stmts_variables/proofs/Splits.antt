-- Rows that fall into names or targets, and values.
use Rattle.std.proofs.Common.{◌≡◌, ◌∙◌, suc, List, [], ◌∷◌, ◌++◌, length, take, drop, Some, None, refl, ap}
use Rattle.std.proofs.Math.Seq.{take-append_seam, drop-append_seam}
use Rattle.go_exprs_rules.specs.Settling.{Part, default}
use Rattle.go_exprs_rules.specs.Tables.{present}
use Rattle.go_stmts_defs.specs.Assigning.{Wanted, takes, type_or_default, values_take}
use Rattle.go_stmts_defs.specs.Rules.{split_at}
use Rattle.go_exprs_variables.specs.Variables.{Standins}
use Rattle.go_exprs_variables.proofs.Public.{all_new, each, present_each}
use Rattle.go_stmts_variables.proofs.Puts.{AllTake}

pub length_each : (xs : List Part) → length (each xs) ≡ length xs
length_each [] = refl
length_each (x ∷ xs) = ap suc (length_each xs)

pub present_two : (ns vs : List Part) → present (each ns ++ each vs) ≡ ns ++ vs
present_two [] vs = present_each vs
present_two (n ∷ ns) vs = ap (λ ys. n ∷ ys) (present_two ns vs)

pub split_two : {A : Type 0} (f : List Part → List Part → A) (ns vs : List Part) → split_at (length ns) f (each ns ++ each vs) ≡ f ns vs
split_two f ns vs =
    ap (λ ys. f (take (length ns) ys) (drop (length ns) ys)) (present_two ns vs)
    ∙ (ap (λ ys. f ys (drop (length ns) (ns ++ vs))) (take-append_seam ns vs) ∙ ap (f ns) (drop-append_seam ns vs))

module _ (w : Standins) where
  pub values_take_all : (ts : Wanted) (xs : List Part) → AllTake w (values_take ts xs)
  values_take_all ts [] = tt
  values_take_all [] (x ∷ xs) = values_take_all [] xs
  values_take_all (Some t ∷ ts) (x ∷ xs) = values_take_all ts xs
  values_take_all (None ∷ ts) (x ∷ xs) = values_take_all ts xs

  pub values_take_new : (ts : Wanted) (xs : List Part) → values_take ts (all_new w xs) ≡ values_take ts xs
  values_take_new ts [] = refl
  values_take_new [] (x ∷ xs) = ap (λ ks. takes default ∷ ks) (values_take_new [] xs)
  values_take_new (t ∷ ts) (x ∷ xs) = ap (λ ks. type_or_default t ∷ ks) (values_take_new ts xs)
