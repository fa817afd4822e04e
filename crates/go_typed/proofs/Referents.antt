-- Objects are numbered each sort by itself.
use Rattle.std.proofs.Common.{◌≡◌, ◌∙◌, ℕ, suc, List, [], ◌∷◌, ◌++◌, map, ap, refl, sym}
use Rattle.go_tree.specs.declared.context.Entity.{Entity}
use Rattle.go_tree.specs.declared.context.Entity.TheVariants as entity
use Rattle.go_tree.specs.declared.object.Declared.{Declared}
use Rattle.go_typed.specs.declared.form.Referent.TheVariants as referent
use Rattle.go_typed.specs.Packages.{Counts, referent_of, counted, referents_from, counts_from, without_function}

apart : (ds : List Declared) (c : Counts) (n : ℕ) → map without_function (referents_from (record c { functions = n }) ds) ≡ map without_function (referents_from c ds)
apart [] c n = refl
apart (d ∷ ds) c n = one d.entity (apart ds) where
  one : (e : Entity) → ((k : Counts) (m : ℕ) → map without_function (referents_from (record k { functions = m }) ds) ≡ map without_function (referents_from k ds)) → map without_function (referent_of (record c { functions = n }) e ∷ referents_from (counted (record c { functions = n }) e) ds) ≡ map without_function (referent_of c e ∷ referents_from (counted c e) ds)
  one entity.Constant h = ap (λ rs. referent.Constant c.constants ∷ rs) (h (record c { constants = suc c.constants }) n)
  one entity.Type h = ap (λ rs. referent.Type c.types ∷ rs) (h (record c { types = suc c.types }) n)
  one entity.Variable h = ap (λ rs. referent.Variable c.variables ∷ rs) (h (record c { variables = suc c.variables }) n)
  one entity.Parameter h = ap (λ rs. referent.Variable c.variables ∷ rs) (h (record c { variables = suc c.variables }) n)
  one entity.Function h = ap (λ rs. referent.Function 0 ∷ rs) (h c (suc n) ∙ sym (h c (suc c.functions)))

pub functions_apart : (c : Counts) (ds : List Declared) → map without_function (referents_from (counted c entity.Function) ds) ≡ map without_function (referents_from c ds)
functions_apart c ds = apart ds c (suc c.functions)

pub referents_of_both : (c : Counts) (ds es : List Declared) → referents_from c (ds ++ es) ≡ referents_from c ds ++ referents_from (counts_from c ds) es
referents_of_both c [] es = refl
referents_of_both c (d ∷ ds) es = ap (λ rs. referent_of c d.entity ∷ rs) (referents_of_both (counted c d.entity) ds es)
