-- Scopes that differ in what tokens say and mean: what names stand for in them.
use Rattle.std.proofs.Common.{◌≡◌, ℕ, Bool, Option, Some, None, refl, ap, ◌∙◌}
use Rattle.go_tree.specs.declared.object.Object.{Object}
use Rattle.go_tree.specs.declared.object.Object.TheVariants as object
use Rattle.go_typed.specs.declared.form.Form.TheVariants as form
use Rattle.go_typed.specs.declared.form.Referent.TheVariants as referent
use Rattle.go_exprs_rules.specs.Names.{predeclared_sort, object_sort, need_of, name_sort, object_form, declared_form, form_or_type, name_form}
use Rattle.go_exprs_rules.specs.Scopes.{Needed, Scope, Hint, declares, free}
use Rattle.go_stmts_defs.specs.Laying.{local_named}
use Rattle.go_package_alike.specs.Scopes.{Says, said, MeanSame, SaySame}

-- the scope in which tokens say and mean this
abbrev pub retold : Scope → Says → Scope
retold s m = record s { texts = m.texts; characters = m.characters; objects = m.objects; sorts = m.sorts; referents = m.referents }

-- Of two scopes that say the same, the second is the first one, told what tokens say.
pub is_told : (p : ℕ → Bool) (s t : Scope) → SaySame p s t → t ≡ retold s (said t)
is_told p s t a = λ k. record {
  rights = a.rights k;
  iota = a.iota k;
  texts = t.texts;
  characters = t.characters;
  objects = t.objects;
  sorts = t.sorts;
  referents = t.referents;
  needed = a.needed k;
  limits = a.limits k;
}

module _ (s : Scope) (m : Says) where
  pub sort_at : (need : Needed) (o q : Option Object) → MeanSame (said s) m o q → object_sort (retold s m) need q ≡ object_sort s need o
  sort_at need None None e = refl
  sort_at need (Some object.Import) (Some object.Import) e = refl
  sort_at need (Some (object.Predeclared a)) (Some (object.Predeclared b)) e = ap (predeclared_sort s.iota) e
  sort_at need (Some (object.Package a)) (Some (object.Package b)) e = e.0 need
  sort_at need (Some (object.Local f a)) (Some (object.Local g b)) e = e.0 need
  sort_at need o q e = absurd e

  pub form_at : (o q : Option Object) → MeanSame (said s) m o q → object_form (retold s m) q ≡ object_form s o
  form_at None None e = refl
  form_at (Some object.Import) (Some object.Import) e = refl
  form_at (Some (object.Predeclared a)) (Some (object.Predeclared b)) e = ap (λ x. form.Object (referent.Predeclared x)) e
  form_at (Some (object.Package a)) (Some (object.Package b)) e = ap (λ x. form.Object x) e.1
  form_at (Some (object.Local f a)) (Some (object.Local g b)) e = ap (λ x. form.Local x) e.1
  form_at o q e = absurd e

  pub declared_at : (o q : Option Object) → MeanSame (said s) m o q → declared_form (retold s m) q ≡ declared_form s o
  declared_at None None e = refl
  declared_at (Some object.Import) (Some object.Import) e = refl
  declared_at (Some (object.Predeclared a)) (Some (object.Predeclared b)) e = ap (λ x. form.Object (referent.Predeclared x)) e
  declared_at (Some (object.Package a)) (Some (object.Package b)) e = ap (λ x. form.Object x) e.1
  declared_at (Some (object.Local f a)) (Some (object.Local g b)) e = ap (λ x. form.Declared x) e.1
  declared_at o q e = absurd e

  pub name_sort_same : (h : Hint) (i : ℕ) → MeanSame (said s) m (s.objects i) (m.objects i) → name_sort (retold s m) h i ≡ name_sort s h i
  name_sort_same declares i e = refl
  name_sort_same free i e = refl
  name_sort_same h i e = sort_at (need_of s.needed h) (s.objects i) (m.objects i) e

  pub name_form_same : (h : Hint) (i : ℕ) → MeanSame (said s) m (s.objects i) (m.objects i) → name_form (retold s m) h i ≡ name_form s h i
  name_form_same declares i e = declared_at (s.objects i) (m.objects i) e
  name_form_same free i e = declared_at (s.objects i) (m.objects i) e
  name_form_same h i e = ap (λ x. form_or_type x (object_form (retold s m) (m.objects i))) (name_sort_same h i e) ∙ ap (form_or_type (name_sort s h i)) (form_at (s.objects i) (m.objects i) e)

-- the local that a token names
pub local_at : (a b : Says) (o q : Option Object) → MeanSame a b o q → local_named q ≡ local_named o
local_at a b None None e = refl
local_at a b (Some object.Import) (Some object.Import) e = refl
local_at a b (Some (object.Predeclared m)) (Some (object.Predeclared n)) e = refl
local_at a b (Some (object.Package m)) (Some (object.Package n)) e = refl
local_at a b (Some (object.Local f m)) (Some (object.Local g n)) e = ap (λ x. Some x) e.1
local_at a b o q e = absurd e
