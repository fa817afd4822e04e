-- Where right sides count that are reached alone.
use Rattle.std.proofs.Common.{◌≡◌, ◌∙◌, ℕ, zero, suc, Bool, true, [], ◌∷◌, ◌++◌, Option, Some, None, length, refl, sym, ap, subst}
use Rattle.go_grammar.specs.declared.kind.Kind.{Kind}
use Rattle.go_grammar.specs.declared.kind.Kind.TheVariants as kind
use Rattle.go_grammar.specs.Trees.{Tree, node, Trees, none, more, skip, kind_of}
use Rattle.go_tree.specs.declared.object.Object.{Object}
use Rattle.go_tree.specs.declared.object.Object.TheVariants as object
use Rattle.go_types.specs.Relations.{Rights}
use Rattle.go_types_relations.specs.Questions.{entry}
use Rattle.go_exprs_rules.specs.Names.{object_sort, need_of}
use Rattle.go_exprs_rules.specs.Scopes.{Needed, Scope, Hint, declares, free}
use Rattle.go_exprs_rules.specs.Tables.{Parts, hint, part_scope}
use Rattle.go_exprs_rules.specs.Typing.{typing}
use Rattle.go_package_laws.specs.Reach.{AgreeOn, StandsWithin, HintWithin, Standing, moved, ScopeWithin, NameAgrees, NamesAgree, PartsAgree}
use Rattle.go_package_laws.proofs.Public.{typed_so, predeclared_within}
use Rattle.go_renumbering.specs.Renumbered.{part_renamed, RenamedScopes, IsTypedRenamed}
use Rattle.go_renumbering.specs.Reached.{kept_right, kept, reached, IsClosed}
use Rattle.go_renumbering.proofs.Typing.{typing_kept, faults_kept}

-- ---- right sides

entry_kept : (p : ℕ → Bool) (rights : Rights) (n : ℕ) → p n ≡ true → entry (kept p rights) n ≡ entry rights n
entry_kept p [] n e = refl
entry_kept p (r ∷ rs) zero e = ap (λ b. kept_right b r) e
entry_kept p (r ∷ rs) (suc n) e = entry_kept (λ m. p (suc m)) rs n e

as_many : (p : ℕ → Bool) (rights : Rights) → length (kept p rights) ≡ length rights
as_many p [] = refl
as_many p (r ∷ rs) = ap suc (as_many (λ m. p (suc m)) rs)

kept_agree : (p : ℕ → Bool) (rights : Rights) → IsClosed p rights → AgreeOn p rights (kept p rights)
kept_agree p rights c = record { same = entry_kept p rights; closed = c; as_many = as_many p rights }

-- ---- names, where what is declared stands for types that are reached

module _ (p : ℕ → Bool) (new : Rights) (r : Standing) (w : (n : Needed) (o : Object) → StandsWithin p (r n o)) where
  object_same : (s : Scope) → s.sorts ≡ r → (n : Needed) (o : Option Object) → object_sort (moved s new r) n o ≡ object_sort s n o
  object_same s e n None = refl
  object_same s e n (Some object.Import) = refl
  object_same s e n (Some (object.Predeclared b)) = refl
  object_same s e n (Some (object.Package m)) = ap (λ f. f n (object.Package m)) (sym e)
  object_same s e n (Some (object.Local f m)) = ap (λ g. g n (object.Local f m)) (sym e)

  object_within : (s : Scope) → s.sorts ≡ r → (n : Needed) (o : Option Object) → StandsWithin p (object_sort s n o)
  object_within s e n None = tt
  object_within s e n (Some object.Import) = tt
  object_within s e n (Some (object.Predeclared b)) = predeclared_within p s.iota b
  object_within s e n (Some (object.Package m)) = subst (λ f. StandsWithin p (f n (object.Package m))) (sym e) (w n (object.Package m))
  object_within s e n (Some (object.Local f m)) = subst (λ g. StandsWithin p (g n (object.Local f m))) (sym e) (w n (object.Local f m))

  other_agrees : (s : Scope) → s.sorts ≡ r → (n : Needed) (o : Option Object) → (object_sort (moved s new r) n o ≡ object_sort s n o) × StandsWithin p (object_sort s n o)
  other_agrees s e n o = (object_same s e n o, object_within s e n o)

  own_name : (s : Scope) → s.sorts ≡ r → (h : Hint) (i : ℕ) → NameAgrees p s new r kind.Name h i
  own_name s e declares i = (refl, tt)
  own_name s e free i = (refl, tt)
  own_name s e h i = other_agrees s e (need_of s.needed h) (s.objects i)

  name_agrees : (s : Scope) → s.sorts ≡ r → (k : Kind) (h : Hint) (i : ℕ) → NameAgrees p s new r k h i
  name_agrees s e kind.Name h i = own_name s e h i
  name_agrees s e k h i = tt

  sorts_kept : (s : Scope) → s.sorts ≡ r → (k : Kind) (xs : Parts) → (part_scope s k xs).sorts ≡ r
  sorts_kept s e kind.SequenceType [] = e
  sorts_kept s e kind.SequenceType (x ∷ xs) = e
  sorts_kept s e k xs = e

  mutual
    names_agree : (s : Scope) → s.sorts ≡ r → (h : Hint) (x : Tree) → NamesAgree p s new r h x
    names_agree s e h (node k i j ps) = (name_agrees s e k h i, parts_agree s e k h ps [] ps)

    parts_agree : (s : Scope) → s.sorts ≡ r → (k : Kind) (h : Hint) (all : Trees) (xs : Parts) (ps : Trees) → PartsAgree p s new r k h all xs ps
    parts_agree s e k h all xs none = tt
    parts_agree s e k h all xs (skip ps) = parts_agree s e k h all (xs ++ None ∷ []) ps
    parts_agree s e k h all xs (more x ps) = (
      names_agree (part_scope s k xs) (sorts_kept s e k xs) (hint s k h all xs (kind_of x)) x,
      parts_agree s e k h all (xs ++ Some (typing (part_scope s k xs) (hint s k h all xs (kind_of x)) x) ∷ []) ps,
    )

pub reached_renamed : (p : ℕ → Bool) (name : ℕ → ℕ) (s t : Scope) (h : Hint) (x : Tree)
    → IsClosed p s.rights → ScopeWithin p s → HintWithin p h → RenamedScopes name (reached p s) t → IsTypedRenamed name s t h x
reached_renamed p name s t h x c w v r =
    let so = typed_so p (kept p s.rights) s.sorts s h x (kept_agree p s.rights c) (names_agree p (kept p s.rights) s.sorts w s refl h x) v in
    record {
      typed = typing_kept name (reached p s) t r h x ∙ ap (part_renamed name) so.typed;
      failing = faults_kept name (reached p s) t r h x ∙ so.failing;
    }
