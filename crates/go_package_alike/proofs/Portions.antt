-- A scope that says at the tokens of a declaration what its package says, and the scope of its portion.
use Rattle.std.proofs.Common.{◌≡◌, ℕ, zero, suc, ◌+◌, ◌<◌, ◌++◌, List, Option, Some, None, refl, ap, sym, ◌∙◌, subst, length, arith}
use Rattle.std.proofs.lemmas.Bool.{ltb-true, lt-ltb}
use Rattle.std.specs.Prelude.{nat_lt, replicate, slice_get}
use Rattle.std.specs.Str.{chars}
use Rattle.go_grammar.specs.Trees.{Tree}
use Rattle.go_tree.specs.declared.object.Object.{Object}
use Rattle.go_tree.specs.declared.object.Object.TheVariants as object
use Rattle.go_tree.specs.Uses.{object_of, object_there}
use Rattle.go_types.specs.Relations.{Rights}
use Rattle.go_typed.specs.Trees as sort
use Rattle.go_exprs_rules.specs.Scopes.{Needed, Scope}
use Rattle.go_exprs_rules.specs.Sorts.{Stands}
use Rattle.go_package_defs.specs.Bodies.{Surroundings, own_object, texts_from, objects_from, based_tree, portion_of, stands_among, text_there, scope_of, count_types, local_type, function_in, function_with}
use Rattle.go_package_defs.specs.Bodies.{typed_function, types_in, variable_of, variables_by}
use Rattle.go_package_defs.specs.Declarations.{Specification}
use Rattle.go_package_defs.specs.Sources.{Package, text_at}
use Rattle.go_package_alike.specs.Portions.{width, SaysPortion, IsOver, IsWhole}
use Rattle.go_package_alike.specs.Scopes.{SaySame, StandSame}
use Rattle.go_package_alike.proofs.Functions.{function_same, variables_same}
use Rattle.go_package_alike.proofs.Objects.{mean_same}

-- ---- the lists of a portion

text_in : (p : Package) (n t k i : ℕ) → i < k → text_there (slice_get (texts_from p n t k) i) ≡ text_at p n (t + i)
text_in p n t zero i h = absurd (omega (arith, h))
text_in p n t (suc k) zero h = ap (text_at p n) (omega arith)
text_in p n t (suc k) (suc i) h = text_in p n (suc t) k i (omega (arith, h)) ∙ ap (text_at p n) (omega arith)

object_in : (p : Package) (n t k i : ℕ) → i < k → object_there (slice_get (objects_from p n t k) i) ≡ own_object (object_of p.uses n (t + i))
object_in p n t zero i h = absurd (omega (arith, h))
object_in p n t (suc k) zero h = ap (λ x. own_object (object_of p.uses n x)) (omega arith)
object_in p n t (suc k) (suc i) h = object_in p n (suc t) k i (omega (arith, h)) ∙ ap (λ x. own_object (object_of p.uses n x)) (omega arith)

-- ---- objects

own_again : (o : Option Object) → own_object (own_object o) ≡ own_object o
own_again None = refl
own_again (Some object.Import) = refl
own_again (Some (object.Predeclared p)) = refl
own_again (Some (object.Package n)) = refl
own_again (Some (object.Local f n)) = refl

abbrev stands_by : List Stands → Needed → Option Object → Stands
stands_by xs need (Some o) = stands_among xs need o
stands_by xs need None = sort.Unknown

stands_own : (xs : List Stands) (need : Needed) (o : Object) → stands_by xs need (own_object (Some o)) ≡ stands_among xs need o
stands_own xs need object.Import = refl
stands_own xs need (object.Predeclared p) = refl
stands_own xs need (object.Package n) = refl
stands_own xs need (object.Local f n) = refl

module _ (p : Package) (a : Surroundings) (known : Rights) (d : Specification) (s : Scope) (e : SaysPortion p a known d s) where
  stand : StandSame (scope_of a known (portion_of p d)) s
  stand = record {
    sorts = λ need o q h. e.sorts need q ∙ (sym (stands_own a.objects need q) ∙ (ap (stands_by a.objects need) h ∙ stands_own a.objects need o));
    referents = λ n. e.referents n;
  }

  object_same : (i : ℕ) → i < width d → own_object (s.objects i) ≡ own_object ((scope_of a known (portion_of p d)).objects i)
  object_same i h = e.objects i h ∙ (sym (own_again (object_of p.uses d.file (d.first + i))) ∙ ap own_object (sym (object_in p d.file d.first (width d) i h)))

  says_same : SaySame (λ i. nat_lt i (width d)) (scope_of a known (portion_of p d)) s
  says_same = record {
    rights = e.rights;
    iota = e.iota;
    needed = e.needed;
    limits = e.limits;
    tokens = record {
      texts = λ i h. e.texts i (ltb-true i (width d) h) ∙ sym (text_in p d.file d.first (width d) i (ltb-true i (width d) h));
      characters = λ i h. e.characters i (ltb-true i (width d) h) ∙ ap chars (sym (text_in p d.file d.first (width d) i (ltb-true i (width d) h)));
      objects = λ i h. mean_same (scope_of a known (portion_of p d)) s stand ((scope_of a known (portion_of p d)).objects i) (s.objects i) (object_same i (ltb-true i (width d) h));
    };
  }

  pub portion_same : (number count : ℕ) (types : ℕ → ℕ) (x : Tree) → IsOver (width d) (Some x) → function_in (scope_of a known (portion_of p d)) number count types x ≡ function_in s number count types x
  portion_same number count types x w =
      sym (function_same (λ i. nat_lt i (width d)) (scope_of a known (portion_of p d)) s number count types x says_same (λ i h. lt-ltb i (width d) (omega (arith, h, w.0))) w.1)

  tree_same : (o : Option Tree) → IsOver (width d) o → variables_by (scope_of a known (portion_of p d)) o ≡ variables_by s o
  tree_same None w = absurd w
  tree_same (Some x) w = sym (variables_same (λ i. nat_lt i (width d)) (scope_of a known (portion_of p d)) s (Some x) says_same w.1)

  pub variable_same : IsWhole d → variable_of a known (portion_of p d) ≡ variables_by s (based_tree d.first d.tree)
  variable_same w = tree_same (based_tree d.first d.tree) w

pub typed_same : (p : Package) (a : Surroundings) (rights : Rights) (number : ℕ) (d : Specification) (s : Scope) (x : Tree)
    → SaysPortion p a (rights ++ replicate (count_types (types_in p number)) None) d s → IsWhole d → based_tree d.first d.tree ≡ Some x
    → typed_function p a rights number d ≡ function_in s number (length (types_in p number)) (local_type (length rights) (types_in p number)) x
typed_same p a rights number d s x e w h =
    let which = types_in p number in
    ap (λ o. function_with a rights number which (portion_of p d) o) h
    ∙ portion_same p a (rights ++ replicate (count_types which) None) d s e number (length which) (local_type (length rights) which) x (subst (λ o. IsOver (width d) o) h w)
