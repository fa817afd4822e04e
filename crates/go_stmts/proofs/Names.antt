-- What names mean in the scope that is made in a body.
use Rattle.std.proofs.Common.{◌≡◌, ℕ, ◌+◌, Bool, true, List, [], length, Option, Some, refl, ap, sym, subst, ◌∙◌}
use Rattle.std.specs.Prelude.{slice_get}
use Rattle.std.specs.Str.{chars}
use Rattle.go_tokens.specs.Tokens.{TokenList}
use Rattle.go_tree.specs.declared.object.Object.{Object}
use Rattle.go_tree.specs.Units.{word}
use Rattle.go_tree.specs.Uses.{UsesView, object_of}
use Rattle.go_types.specs.Tables.{Table, rights_of}
use Rattle.go_typed.specs.Scopes.{EnvView, LocalsView, KnownLocals}
use Rattle.go_exprs_rules.specs.Scopes.{Scope, Needed, in_full, at_once, loosely}
use Rattle.go_exprs_rules.specs.Sorts.{Stands}
use Rattle.go_exprs_types.specs.declared.scope.Scope as program
use Rattle.go_exprs_types.specs.declared.standing.Needed.TheVariants as need
use Rattle.go_exprs_types.specs.Naming.{names, text_in, object_in, stands_for, told_seen, sort_of_object, objects_seen, locals_seen, referent_in, need_seen, KnownScope}
use Rattle.go_stmts.specs.declared.state.Surroundings.{Surroundings}
use Rattle.go_stmts.specs.State.{text_of, object_at, stands_in, names_in, KnownSurroundings}

pub pointwise : {A B : Type 0} {f g : A → B} → ((x : A) → f x ≡ g x) → f ≡ g
pointwise h = λ i x. h x i

nothing_told : (t : Table) (n : Needed) → told_seen t [] n ≡ []
nothing_told t in_full = refl
nothing_told t at_once = refl
nothing_told t loosely = refl

module _ (s : program.Scope) (o : Surroundings) (ls : LocalsView) (is_tokens : s.tokens.now ≡ o.tokens.now) (is_uses : s.uses.now ≡ o.uses.now) (is_env : s.env.now ≡ o.env.now) (is_locals : s.locals.now ≡ ls)
    (is_told : s.told.now ≡ []) (is_needed : s.needed ≡ need.InFull) (is_limits : s.limits ≡ true) (is_base : s.base ≡ o.base) where
  abbrev text_with : TokenList → ℕ → ℕ → List ℕ
  text_with ts b i = word ts (b + i)

  abbrev object_with : UsesView → TokenList → ℕ → ℕ → Option Object
  object_with u ts b i = object_of u ts.file (b + i)

  pub body_texts : text_in s ≡ text_of o
  body_texts = ap (λ ts. text_with ts s.base) is_tokens ∙ ap (text_with o.tokens.now) is_base

  objects_are : object_in s ≡ object_at o
  objects_are = ap (λ u. object_with u s.tokens.now s.base) is_uses ∙ ap (λ ts. object_with o.uses.now ts s.base) is_tokens ∙ ap (object_with o.uses.now o.tokens.now) is_base

  sorts_are : (t : Table) → stands_for t s ≡ stands_in t o ls
  sorts_are t = pointwise (λ n. pointwise (λ x.
      ap (λ xs. sort_of_object xs (objects_seen t s.env.now.objects) (locals_seen t s.locals.now.sorts) x) (ap (λ xs. told_seen t xs n) is_told ∙ nothing_told t n)
      ∙ ap (λ (e : EnvView). sort_of_object [] (objects_seen t e.objects) (locals_seen t s.locals.now.sorts) x) is_env
      ∙ ap (λ (l : LocalsView). sort_of_object [] (objects_seen t o.env.now.objects) (locals_seen t l.sorts) x) is_locals))

  abbrev made : Table → ℕ → (ℕ → List ℕ) → (ℕ → Option Object) → (Needed → Object → Stands) → EnvView → Needed → Bool → Scope
  made t n texts objects sorts e k b = record {
    rights = rights_of t;
    iota = n;
    texts = texts;
    characters = λ i. chars (texts i);
    objects = objects;
    sorts = sorts;
    referents = referent_in e.referents;
    needed = k;
    limits = b;
  }

  pub body_names : (t : Table) → names t s ≡ names_in t o ls
  body_names t =
      ap (λ (l : LocalsView). made t l.iota (text_in s) (object_in s) (stands_for t s) s.env.now (need_seen s.needed) s.limits) is_locals
      ∙ ap (λ x. made t ls.iota x (object_in s) (stands_for t s) s.env.now (need_seen s.needed) s.limits) body_texts
      ∙ ap (λ x. made t ls.iota (text_of o) x (stands_for t s) s.env.now (need_seen s.needed) s.limits) objects_are
      ∙ ap (λ x. made t ls.iota (text_of o) (object_at o) x s.env.now (need_seen s.needed) s.limits) (sorts_are t)
      ∙ ap (λ x. made t ls.iota (text_of o) (object_at o) (stands_in t o ls) x (need_seen s.needed) s.limits) is_env
      ∙ ap (λ x. made t ls.iota (text_of o) (object_at o) (stands_in t o ls) o.env.now (need_seen x) s.limits) is_needed
      ∙ ap (made t ls.iota (text_of o) (object_at o) (stands_in t o ls) o.env.now in_full) is_limits

  pub body_known : (t : Table) → KnownSurroundings t o → KnownLocals (length t.shapes) ls → KnownScope (length t.shapes) s
  body_known t h g = record {
    told = λ k x e. (let none : slice_get [] k ≡ Some x = subst (λ xs. slice_get xs k ≡ Some x) is_told e in cc);
    objects = λ k x e. h.objects k x (subst (λ (v : EnvView). slice_get v.objects k ≡ Some x) is_env e);
    locals = subst (KnownLocals (length t.shapes)) (sym is_locals) g;
  }
