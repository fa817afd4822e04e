-- What is known of a package at first has no right sides.
use Rattle.std.proofs.Common.{◌≡◌, ℕ, suc, Bool, true, false, cond, List, [], ◌∷◌, ◌++◌, map, None, refl, ap, ◌∙◌}
use Rattle.go_tree.specs.declared.context.Entity.{Entity}
use Rattle.go_tree.specs.declared.context.Entity.TheVariants as entity
use Rattle.go_tree.specs.declared.object.Declared.{Declared}
use Rattle.go_types.specs.Relations.{Rights}
use Rattle.go_package_defs.specs.Knowledge.{Outline, is_type, rights_among}
use Rattle.go_package_defs.specs.Sources.{Package}
use Rattle.go_package_defs.specs.Verdicts.{first_state, first_states}
use Rattle.go_package_types.specs.Numbers.{open_right, open_rights}

module _ (p : Package) where
  first_right : (n : ℕ) (e : Entity) → (first_state p n e).right ≡ None
  first_right n entity.Type = refl
  first_right n entity.Constant = refl
  first_right n entity.Variable = refl
  first_right n entity.Parameter = refl
  first_right n entity.Function = refl

  one_open : (b : Bool) (xs : Rights) → cond b (None ∷ xs) xs ≡ open_right b ++ xs
  one_open true xs = refl
  one_open false xs = refl

  pub first_open : (n : ℕ) (ds : List Declared) (f : Declared → Outline) → rights_among ds (first_states p n (map f ds)) ≡ open_rights ds
  first_open n [] f = refl
  first_open n (d ∷ ds) f =
      ap (λ r. cond (is_type d.entity) (r ∷ rights_among ds (first_states p (suc n) (map f ds))) (rights_among ds (first_states p (suc n) (map f ds)))) (first_right n (f d).specification.entity)
      ∙ one_open (is_type d.entity) (rights_among ds (first_states p (suc n) (map f ds))) ∙ ap (λ xs. open_right (is_type d.entity) ++ xs) (first_open (suc n) ds f)
