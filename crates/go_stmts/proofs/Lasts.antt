-- The first and the last of some parts.
use Rattle.std.proofs.Common.{◌≡◌, List, [], ◌∷◌, ◌++◌, map, Option, Some, refl}
use Rattle.go_grammar.specs.declared.kind.Kind.TheVariants as kind
use Rattle.go_typed.specs.declared.form.Form.TheVariants as form
use Rattle.go_typed.specs.Trees.{typed}
use Rattle.go_exprs_rules.specs.Settling.{Part}
use Rattle.go_exprs_rules.specs.Tables.{Parts}
use Rattle.go_stmts_defs.specs.Reading.{last_of_list, tag_behind, first_name, name_in}
use Rattle.go_stmts_defs.specs.Rows.{first_there}
use Rattle.go_stmts.specs.Tags.{part_tag}

pub last_listed : {A : Type 0} (f : A → Option Part) (ns : List A) (n : A) → last_of_list (map f (ns ++ n ∷ [])) ≡ f n
last_listed f [] n = refl
last_listed f (m ∷ []) n = refl
last_listed f (m ∷ k ∷ ns) n = last_listed f (k ∷ ns) n

pub tag_by : (x : Part) → tag_behind (Some x) ≡ part_tag x
tag_by (typed (form.Held kind.LateTag) i j l ps) = refl
tag_by (typed (form.Held kind.InitializedTag) i j l ps) = refl
tag_by x = refl

pub first_named : (xs : Parts) → first_name xs ≡ name_in (first_there xs)
first_named [] = refl
first_named (x ∷ xs) = refl
