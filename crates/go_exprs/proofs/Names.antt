-- What names mean in the scope that is made for an expression.
use Rattle.std.proofs.Common.{◌≡◌, ℕ, ◌+◌, ◌<◌, ◌≤◌, Bool, true, List, [], length, Option, Some, refl, ap, sym, subst, ◌∙◌, arith}
use Rattle.std.specs.Prelude.{slice_get}
use Rattle.std.specs.Str.{chars}
use Rattle.go_tokens.specs.Tokens.{TokenList}
use Rattle.go_tree.specs.declared.object.Object.{Object}
use Rattle.go_tree.specs.Units.{word}
use Rattle.go_tree.specs.Uses.{UsesView, object_of}
use Rattle.go_types.specs.Tables.{Table, IsTable, rights_of}
use Rattle.go_types_relations.specs.Extends.{Grows}
use Rattle.go_typed.specs.Scopes.{EnvView, LocalsView}
use Rattle.go_exprs_rules.specs.Scopes.{Scope, Needed, in_full, at_once, loosely}
use Rattle.go_exprs_rules.specs.Sorts.{Stands}
use Rattle.go_exprs_types.specs.declared.scope.Scope as program
use Rattle.go_exprs_types.specs.declared.standing.Needed.TheVariants as need
use Rattle.go_exprs_types.specs.Naming.{names, text_in, object_in, stands_for, told_seen, sort_of_object, objects_seen, locals_seen, referent_in, need_seen, KnownScope}
use Rattle.go_exprs_engine.proofs.Public.{sort_more, longer, names_stay}
use Rattle.go_exprs.specs.Expressions.{scope_of, KnownNames}

pointwise : {A B : Type 0} {f g : A → B} → ((x : A) → f x ≡ g x) → f ≡ g
pointwise h = λ i x. h x i

-- a scope in which tokens are counted from the file's first one, nothing is told, and all is needed in full
pub record IsPlain (s : program.Scope) : Type 0 where
  pub told : s.told.now ≡ []
  pub needed : s.needed ≡ need.InFull
  pub limits : s.limits ≡ true
  pub base : s.base ≡ 0

nothing_told : (t : Table) (n : Needed) → told_seen t [] n ≡ []
nothing_told t in_full = refl
nothing_told t at_once = refl
nothing_told t loosely = refl

module _ (s : program.Scope) (p : IsPlain s) where
  at_start : (i : ℕ) → s.base + i ≡ i
  at_start i = let b = p.base in omega (arith, b)

  pub texts_are : text_in s ≡ word s.tokens.now
  texts_are = pointwise (λ i. ap (word s.tokens.now) (at_start i))

  objects_are : object_in s ≡ object_of s.uses.now s.tokens.now.file
  objects_are = pointwise (λ i. ap (object_of s.uses.now s.tokens.now.file) (at_start i))

  abbrev plain_sorts : Table → Needed → Object → Stands
  plain_sorts t n o = sort_of_object [] (objects_seen t s.env.now.objects) (locals_seen t s.locals.now.sorts) o

  sorts_are : (t : Table) → stands_for t s ≡ plain_sorts t
  sorts_are t = pointwise (λ n. pointwise (λ o. ap (λ xs. sort_of_object xs (objects_seen t s.env.now.objects) (locals_seen t s.locals.now.sorts) o) (ap (λ xs. told_seen t xs n) p.told ∙ nothing_told t n)))

  abbrev made : Table → (ℕ → List ℕ) → (ℕ → Option Object) → (Needed → Object → Stands) → Needed → Bool → Scope
  made t texts objects sorts n b = record {
    rights = rights_of t;
    iota = s.locals.now.iota;
    texts = texts;
    characters = λ i. chars (texts i);
    objects = objects;
    sorts = sorts;
    referents = referent_in s.env.now.referents;
    needed = n;
    limits = b;
  }

  pub names_are : (t : Table) → names t s ≡ scope_of t s.tokens.now s.uses.now s.env.now s.locals.now
  names_are t =
      ap (λ x. made t x (object_in s) (stands_for t s) (need_seen s.needed) s.limits) texts_are
      ∙ ap (λ x. made t (word s.tokens.now) x (stands_for t s) (need_seen s.needed) s.limits) objects_are
      ∙ ap (λ x. made t (word s.tokens.now) (object_of s.uses.now s.tokens.now.file) x (need_seen s.needed) s.limits) (sorts_are t)
      ∙ ap (λ x. made t (word s.tokens.now) (object_of s.uses.now s.tokens.now.file) (plain_sorts t) (need_seen x) s.limits) p.needed
      ∙ ap (made t (word s.tokens.now) (object_of s.uses.now s.tokens.now.file) (plain_sorts t) in_full) p.limits

  pub names_known : (n : ℕ) → KnownNames n s.env.now s.locals.now → KnownScope n s
  names_known n h = record {
    told = λ k x e. (let none : slice_get [] k ≡ Some x = subst (λ xs. slice_get xs k ≡ Some x) p.told e in cc);
    objects = h.objects;
    locals = h.locals;
  }

-- ---- in a table with more types

pub known_more : (n m : ℕ) → n ≤ m → (e : EnvView) (l : LocalsView) → KnownNames n e l → KnownNames m e l
known_more n m le e l h =
    let f : (i : ℕ) → i < n → i < m = λ i lt. omega (arith, le, lt) in
    record { objects = λ k x is. sort_more f x (h.objects k x is); locals = λ k x is. sort_more f x (h.locals k x is) }

module _ (s : program.Scope) (p : IsPlain s) (ts : TokenList) (uses : UsesView) (env : EnvView) (locals : LocalsView)
    (is_ts : s.tokens.now ≡ ts) (is_uses : s.uses.now ≡ uses) (is_env : s.env.now ≡ env) (is_locals : s.locals.now ≡ locals) (old new : Table) (ok : IsTable old) (g : Grows old new) (h : KnownNames (length old.shapes) env locals) where
  of_scope : (n : ℕ) → KnownNames n env locals → KnownNames n s.env.now s.locals.now
  of_scope n k = subst (λ e. KnownNames n e s.locals.now) (sym is_env) (subst (KnownNames n env) (sym is_locals) k)

  pub scope_known_there : KnownScope (length new.shapes) s
  scope_known_there = names_known s p (length new.shapes) (of_scope (length new.shapes) (known_more (length old.shapes) (length new.shapes) (longer old new ok g.extends) env locals h))

  pub scope_is : names new s ≡ scope_of old ts uses env locals
  scope_is =
      names_stay old new ok g s (names_known s p (length old.shapes) (of_scope (length old.shapes) h))
      ∙ names_are s p old
      ∙ ap (λ x. scope_of old x s.uses.now s.env.now s.locals.now) is_ts
      ∙ ap (λ x. scope_of old ts x s.env.now s.locals.now) is_uses
      ∙ ap (λ x. scope_of old ts uses x s.locals.now) is_env
      ∙ ap (scope_of old ts uses env) is_locals
