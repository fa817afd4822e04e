-- What names mean in the scope that is made for a specification.
use Rattle.std.proofs.Common.{◌≡◌, ℕ, ◌+◌, Bool, List, [], ◌∷◌, Option, Some, None, refl, ap, sym, subst, ◌∙◌, arith}
use Rattle.std.specs.Prelude.{slice_get}
use Rattle.std.specs.Str.{chars}
use Rattle.go_tokens.specs.Tokens.{TokenList}
use Rattle.go_tree.specs.declared.context.Entity.{Entity}
use Rattle.go_tree.specs.declared.object.Object.{Object}
use Rattle.go_tree.specs.Units.{word}
use Rattle.go_tree.specs.Uses.{UsesView, object_of}
use Rattle.go_types.specs.Relations.{Rights}
use Rattle.go_types.specs.Tables.{Table, rights_of}
use Rattle.go_typed.specs.Packages.{referents}
use Rattle.go_typed.specs.Scopes.{EnvView, LocalsView}
use Rattle.go_exprs_rules.specs.Scopes.{Scope, Needed}
use Rattle.go_exprs_rules.specs.Sorts.{Stands}
use Rattle.go_exprs_types.specs.declared.scope.Scope as program
use Rattle.go_exprs_types.specs.declared.standing.Standing.{Standing}
use Rattle.go_exprs_types.specs.Naming.{names, text_in, object_in, stands_for, told_seen, sort_of_object, objects_seen, locals_seen, referent_in, need_seen, KnownScope}
use Rattle.go_package_defs.specs.Declarations.{Specification}
use Rattle.go_package_defs.specs.Knowledge.{State, need_in, stands_where, scope_where}
use Rattle.go_package_defs.specs.Knowledge as knowledge
use Rattle.go_package_defs.specs.Sources.{tokens_in, text_at, characters_at}
use Rattle.go_package_rounds.specs.declared.world.World.{World}
use Rattle.go_package_rounds.specs.World.{package_in, outlines_in, Fits, StandsFor, KnownStandings}

pub pointwise : {A B : Type 0} {f g : A → B} → ((x : A) → f x ≡ g x) → f ≡ g
pointwise h = λ i x. h x i

at_start : (b i : ℕ) → b ≡ 0 → b + i ≡ i
at_start b i e = omega (arith, e)

pub scope_texts : (s : program.Scope) (w : World) (file : ℕ) → s.base ≡ 0 → s.tokens.now ≡ tokens_in (package_in w) file → text_in s ≡ text_at (package_in w) file
scope_texts s w file b e = pointwise (λ i. ap (word s.tokens.now) (at_start s.base i b) ∙ ap (λ ts. word ts i) e)

module _ (s : program.Scope) (w : World) (is_uses : s.uses.now ≡ w.uses.now) (is_env : s.env.now ≡ w.env.now) (is_base : s.base ≡ 0) where
  objects_are : (file : ℕ) → s.tokens.now.file ≡ file → object_in s ≡ object_of w.uses.now file
  objects_are file e = pointwise (λ i. ap (object_of s.uses.now s.tokens.now.file) (at_start s.base i is_base) ∙ ap (λ u. object_of u s.tokens.now.file i) is_uses ∙ ap (λ n. object_of w.uses.now n i) e)

  module _ (t : Table) (fits : Fits t w) where
    env_is : s.env.now ≡ record { objects = []; referents = referents w.uses.now.package_level }
    env_is = is_env ∙ fits.env

    sorts_are : (told : List Standing) (test : State → Bool) (ss : List State) (iota : ℕ) → s.told.now ≡ told → s.locals.now ≡ record { sorts = []; iota = iota } → StandsFor t w test told ss → stands_for t s ≡ stands_where test (outlines_in w) ss
    sorts_are told test ss iota is_told is_locals stands = pointwise (λ n. pointwise (λ x.
        ap (λ xs. sort_of_object (told_seen t xs n) (objects_seen t s.env.now.objects) (locals_seen t s.locals.now.sorts) x) is_told
        ∙ ap (λ (e : EnvView). sort_of_object (told_seen t told n) (objects_seen t e.objects) (locals_seen t s.locals.now.sorts) x) env_is
        ∙ ap (λ (l : LocalsView). sort_of_object (told_seen t told n) [] (locals_seen t l.sorts) x) is_locals
        ∙ stands n x))

    abbrev made : Rights → ℕ → (ℕ → List ℕ) → (ℕ → Option Object) → (Needed → Object → Stands) → EnvView → Needed → Bool → Scope
    made rights n texts objects sorts e k b = record {
      rights = rights;
      iota = n;
      texts = texts;
      characters = λ i. chars (texts i);
      objects = objects;
      sorts = sorts;
      referents = referent_in e.referents;
      needed = k;
      limits = b;
    }

    pub scope_is : (told : List Standing) (test : State → Bool) (ss : List State) (d : Specification) (limits : Bool) → s.told.now ≡ told → StandsFor t w test told ss → rights_of t ≡ knowledge.rights_of (package_in w) ss
        → s.tokens.now ≡ tokens_in (package_in w) d.file → s.tokens.now.file ≡ d.file → s.locals.now ≡ record { sorts = []; iota = d.iota } → need_seen s.needed ≡ need_in d.entity → s.limits ≡ limits
        → names t s ≡ scope_where test limits (package_in w) (outlines_in w) ss d
    scope_is told test ss d limits is_told stands rights is_tokens number is_locals is_needed is_limits =
        ap (λ r. made r s.locals.now.iota (text_in s) (object_in s) (stands_for t s) s.env.now (need_seen s.needed) s.limits) rights
        ∙ ap (λ (l : LocalsView). made (knowledge.rights_of (package_in w) ss) l.iota (text_in s) (object_in s) (stands_for t s) s.env.now (need_seen s.needed) s.limits) is_locals
        ∙ ap (λ x. made (knowledge.rights_of (package_in w) ss) d.iota x (object_in s) (stands_for t s) s.env.now (need_seen s.needed) s.limits) (scope_texts s w d.file is_base is_tokens)
        ∙ ap (λ x. made (knowledge.rights_of (package_in w) ss) d.iota (text_at (package_in w) d.file) x (stands_for t s) s.env.now (need_seen s.needed) s.limits) (objects_are d.file number)
        ∙ ap (λ x. made (knowledge.rights_of (package_in w) ss) d.iota (text_at (package_in w) d.file) (object_of w.uses.now d.file) x s.env.now (need_seen s.needed) s.limits) (sorts_are told test ss d.iota is_told is_locals stands)
        ∙ ap (λ x. made (knowledge.rights_of (package_in w) ss) d.iota (text_at (package_in w) d.file) (object_of w.uses.now d.file) (stands_where test (outlines_in w) ss) x (need_seen s.needed) s.limits) env_is
        ∙ ap (λ k. made (knowledge.rights_of (package_in w) ss) d.iota (text_at (package_in w) d.file) (object_of w.uses.now d.file) (stands_where test (outlines_in w) ss) (record { objects = []; referents = referents w.uses.now.package_level }) k s.limits) is_needed
        ∙ ap (made (knowledge.rights_of (package_in w) ss) d.iota (text_at (package_in w) d.file) (object_of w.uses.now d.file) (stands_where test (outlines_in w) ss) (record { objects = []; referents = referents w.uses.now.package_level }) (need_in d.entity)) is_limits

module _ (s : program.Scope) (w : World) (is_env : s.env.now ≡ w.env.now) (t : Table) (fits : Fits t w) where
  pub scope_knows : (n : ℕ) (told : List Standing) → s.told.now ≡ told → s.locals.now.sorts ≡ [] → KnownStandings n told → KnownScope n s
  scope_knows n told is_told no_locals h = record {
    told = subst (KnownStandings n) (sym is_told) h;
    objects = λ k x e. (let none : slice_get [] k ≡ Some x = subst (λ (v : EnvView). slice_get v.objects k ≡ Some x) (is_env ∙ fits.env) e in cc);
    locals = λ k x e. (let none : slice_get [] k ≡ Some (Some x) = subst (λ ls. slice_get ls k ≡ Some (Some x)) no_locals e in cc);
  }
