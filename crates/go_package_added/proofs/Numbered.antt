-- The numbers of the objects of a package by sort, where a function is put in.
use Rattle.std.proofs.Common.{◌≡◌, ◌∙◌, ℕ, suc, ◌+◌, ◌≤◌, List, [], ◌∷◌, ◌++◌, length, map, Option, Some, None, refl, sym, ap, arith}
use Rattle.std.specs.Prelude.{slice_get}
use Rattle.std.specs.Option.{option_map}
use Rattle.std.proofs.lemmas.Option.{slice_get-map}
use Rattle.go_tree.specs.declared.context.Entity.{Entity}
use Rattle.go_tree.specs.declared.context.Entity.TheVariants as entity
use Rattle.go_tree.specs.declared.object.Declared.{Declared}
use Rattle.go_tree.specs.Uses.{count_functions}
use Rattle.go_typed.specs.declared.form.Referent.{Referent}
use Rattle.go_typed.specs.declared.form.Referent.TheVariants as referent
use Rattle.go_typed.specs.Packages.{Counts, no_counts, referent_of, counted, referents_from, referents}
use Rattle.go_exprs_elsewhere.specs.Elsewhere.{referent_moved}
use Rattle.go_package_defs.specs.Knowledge.{referent_there, referent_at}
use Rattle.go_package_defs.specs.Sources.{Package}
use Rattle.go_heads_added.specs.Added.{Gap, beyond, longer_declared}
use Rattle.go_package_added.specs.OneMore.{inserted, function_moves}
use Rattle.go_package_added.proofs.Inserted.{other_there, mapped_count}
use Rattle.go_package_added.proofs.Rounds.{in_front, behind_it}

module _ (k end : ℕ) (g : Gap) where
  abbrev to : Declared → Declared
  to d = longer_declared k end d

  abbrev moved : Referent → Referent
  moved r = referent_moved (function_moves g) r

  -- one function was counted more
  abbrev more_functions : Counts → Counts
  more_functions c = record c { functions = suc c.functions }

  one_behind : (c : Counts) (e : Entity) → g.functions ≤ c.functions → referent_of (more_functions c) e ≡ moved (referent_of c e)
  one_behind c entity.Constant l = refl
  one_behind c entity.Type l = refl
  one_behind c entity.Variable l = refl
  one_behind c entity.Parameter l = refl
  one_behind c entity.Function l = ap referent.Function (sym (behind_it g.functions c.functions l))

  counted_behind : (c : Counts) (e : Entity) → counted (more_functions c) e ≡ more_functions (counted c e)
  counted_behind c entity.Constant = refl
  counted_behind c entity.Type = refl
  counted_behind c entity.Variable = refl
  counted_behind c entity.Parameter = refl
  counted_behind c entity.Function = refl

  counts_grow : (c : Counts) (e : Entity) → g.functions ≤ c.functions → g.functions ≤ (counted c e).functions
  counts_grow c entity.Constant l = l
  counts_grow c entity.Type l = l
  counts_grow c entity.Variable l = l
  counts_grow c entity.Parameter l = l
  counts_grow c entity.Function l = omega (arith, l)

  all_behind : (c : Counts) (ds : List Declared) → g.functions ≤ c.functions → referents_from (more_functions c) (map to ds) ≡ map moved (referents_from c ds)
  all_behind c [] l = refl
  all_behind c (d ∷ ds) l =
      ap (λ r. r ∷ referents_from (counted (more_functions c) d.entity) (map to ds)) (one_behind c d.entity l)
      ∙ ap (λ n. moved (referent_of c d.entity) ∷ referents_from n (map to ds)) (counted_behind c d.entity)
      ∙ ap (λ rs. moved (referent_of c d.entity) ∷ rs) (all_behind (counted c d.entity) ds (counts_grow c d.entity l))

  one_in_front : (c : Counts) (d : Declared) (ds : List Declared) → c.functions + count_functions (d ∷ ds) ≡ g.functions → referent_of c d.entity ≡ moved (referent_of c d.entity)
  one_in_front c d ds e = by d.entity e
    where
      by : (x : Entity) → c.functions + count_functions (record d { entity = x } ∷ ds) ≡ g.functions → referent_of c x ≡ moved (referent_of c x)
      by entity.Constant h = refl
      by entity.Type h = refl
      by entity.Variable h = refl
      by entity.Parameter h = refl
      by entity.Function h = ap referent.Function (sym (in_front g.functions c.functions (omega (arith, h))))

  still_in_front : (c : Counts) (d : Declared) (ds : List Declared) → c.functions + count_functions (d ∷ ds) ≡ g.functions → (counted c d.entity).functions + count_functions ds ≡ g.functions
  still_in_front c d ds e = by d.entity e
    where
      by : (x : Entity) → c.functions + count_functions (record d { entity = x } ∷ ds) ≡ g.functions → (counted c x).functions + count_functions ds ≡ g.functions
      by entity.Constant h = h
      by entity.Type h = h
      by entity.Variable h = h
      by entity.Parameter h = h
      by entity.Function h = omega (arith, h)

  module _ (function : Declared) (is_function : function.entity ≡ entity.Function) where
    put_in : (c : Counts) (xs ys : List Declared) → c.functions + count_functions xs ≡ g.functions
        → referents_from c (map to xs ++ function ∷ map to ys) ≡ inserted (length xs) (referent.Function g.functions) (map moved (referents_from c (xs ++ ys)))
    put_in c [] ys e =
        let same : c.functions ≡ g.functions = omega (arith, e) in
        ap (λ x. referent_of c x ∷ referents_from (counted c x) (map to ys)) is_function
        ∙ ap (λ n. referent.Function n ∷ referents_from (more_functions c) (map to ys)) same
        ∙ ap (λ rs. referent.Function g.functions ∷ rs) (all_behind c ys (omega (arith, same)))
    put_in c (x ∷ xs) ys e =
        ap (λ r. r ∷ referents_from (counted c x.entity) (map to xs ++ function ∷ map to ys)) (one_in_front c x xs e)
        ∙ ap (λ rs. moved (referent_of c x.entity) ∷ rs) (put_in (counted c x.entity) xs ys (still_in_front c x xs e))

    there_moved : (o : Option Referent) → referent_there (option_map moved o) ≡ moved (referent_there o)
    there_moved None = refl
    there_moved (Some r) = refl

    referents_count : (c : Counts) (ds : List Declared) → length (referents_from c ds) ≡ length ds
    referents_count c [] = refl
    referents_count c (d ∷ ds) = ap suc (referents_count (counted c d.entity) ds)

    pub referents_beyond : (p q : Package) (xs ys : List Declared) → p.uses.package_level ≡ xs ++ ys → q.uses.package_level ≡ map to xs ++ function ∷ map to ys → length xs ≡ g.shared
        → g.shared ≤ length p.uses.package_level → count_functions xs ≡ g.functions → (n : ℕ) → referent_at q (beyond g.shared n) ≡ referent_moved (function_moves g) (referent_at p n)
    referents_beyond p q xs ys were are place inside count n =
        let rs = map moved (referents p.uses.package_level) in
        ap (λ ds. referent_there (slice_get (referents ds) (beyond g.shared n))) are
        ∙ ap (λ zs. referent_there (slice_get zs (beyond g.shared n))) (put_in no_counts xs ys (omega (arith, count)))
        ∙ ap (λ ds. referent_there (slice_get (inserted (length xs) (referent.Function g.functions) (map moved (referents ds))) (beyond g.shared n))) (sym were)
        ∙ ap (λ a. referent_there (slice_get (inserted a (referent.Function g.functions) rs) (beyond g.shared n))) place
        ∙ ap referent_there (other_there g.shared (referent.Function g.functions) rs n (let c = mapped_count moved (referents p.uses.package_level) in let d = referents_count no_counts p.uses.package_level in omega (arith, c, d, inside)))
        ∙ ap referent_there (slice_get-map moved (referents p.uses.package_level) n)
        ∙ there_moved (slice_get (referents p.uses.package_level) n)
