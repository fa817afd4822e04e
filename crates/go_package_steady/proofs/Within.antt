-- What is typed stands for types that pass, where what is declared does and right sides name such types alone.
use Rattle.std.proofs.Common.{◌≡◌, ℕ, Bool, List, [], ◌∷◌, ◌++◌, Option, Some, None, refl, sym, ap, subst}
use Rattle.go_grammar.specs.declared.kind.Kind.{Kind}
use Rattle.go_grammar.specs.declared.kind.Kind.TheVariants as kind
use Rattle.go_grammar.specs.Trees.{Tree, node, Trees, none, more, skip, kind_of}
use Rattle.go_tree.specs.declared.object.Object.{Object}
use Rattle.go_tree.specs.declared.object.Object.TheVariants as object
use Rattle.go_types.specs.Trees.{TypeTree, function, TypeRow}
use Rattle.go_types.specs.Trees as types
use Rattle.go_types.specs.Relations.{Rights}
use Rattle.go_types_relations.specs.Questions.{entry}
use Rattle.go_types_relations.specs.Tests.{underlying_of}
use Rattle.go_typed.specs.Trees.{typed, Typeds, list_of, sort_of, form_of, parts_of, EveryPart}
use Rattle.go_typed.specs.Trees as sort
use Rattle.go_exprs_rules.specs.Calls.{results_of}
use Rattle.go_exprs_rules.specs.Names.{object_sort, need_of}
use Rattle.go_exprs_rules.specs.Scopes.{Needed, Scope, Hint, declares, free}
use Rattle.go_exprs_rules.specs.Settling.{Part}
use Rattle.go_exprs_rules.specs.Sorts.{Stands, named_type}
use Rattle.go_exprs_rules.specs.Tables.{Parts, hint, part_scope}
use Rattle.go_exprs_rules.specs.TypeNodes.{part_type, is_parameter, second, entry_type, entry_of, first_entry, entry_types, parts_in}
use Rattle.go_exprs_rules.specs.Typing.{typing}
use Rattle.go_stmts_defs.specs.Assigning.{types_in}
use Rattle.go_stmts_defs.specs.Reading.{head, first_parts}
use Rattle.go_package_laws.specs.Reach.{Within, RowWithin, MaybeWithin, AgreeOn, StandsWithin, PartWithin, MaybePart, PartsWithin, HintWithin, Standing, moved, ScopeWithin, NameAgrees, NamesAgree, PartsAgree}
use Rattle.go_package_laws.proofs.Public.{typed_so, predeclared_within, part_type_within, sort_within, branch, underlying_within}
use Rattle.go_stmts_steady.specs.Ordered.{ResultsWithin}

-- Right sides name such types alone.
abbrev pub RightsWithin : (ℕ → Bool) → Rights → Type 0
RightsWithin p rights = (n : ℕ) → MaybeWithin p (entry rights n)

agree_on : (p : ℕ → Bool) (rights : Rights) → RightsWithin p rights → AgreeOn p rights rights
agree_on p rights w = record { same = λ n e. refl; closed = λ n e. w n; as_many = refl }

-- ---- names

module _ (p : ℕ → Bool) (new : Rights) (r : Standing) (w : (n : Needed) (o : Object) → StandsWithin p (r n o)) where
  object_same : (s : Scope) → s.sorts ≡ r → (n : Needed) (o : Option Object) → object_sort (moved s new r) n o ≡ object_sort s n o
  object_same s e n None = refl
  object_same s e n (Some object.Import) = refl
  object_same s e n (Some (object.Predeclared b)) = refl
  object_same s e n (Some (object.Package m)) = ap (λ f. f n (object.Package m)) (sym e)
  object_same s e n (Some (object.Local f m)) = ap (λ g. g n (object.Local f m)) (sym e)

  object_within : (s : Scope) → s.sorts ≡ r → (n : Needed) (o : Option Object) → StandsWithin p (object_sort s n o)
  object_within s e n None = tt
  object_within s e n (Some object.Import) = tt
  object_within s e n (Some (object.Predeclared b)) = predeclared_within p s.iota b
  object_within s e n (Some (object.Package m)) = subst (λ f. StandsWithin p (f n (object.Package m))) (sym e) (w n (object.Package m))
  object_within s e n (Some (object.Local f m)) = subst (λ g. StandsWithin p (g n (object.Local f m))) (sym e) (w n (object.Local f m))

  other_agrees : (s : Scope) → s.sorts ≡ r → (n : Needed) (o : Option Object) → (object_sort (moved s new r) n o ≡ object_sort s n o) × StandsWithin p (object_sort s n o)
  other_agrees s e n o = (object_same s e n o, object_within s e n o)

  own_name : (s : Scope) → s.sorts ≡ r → (h : Hint) (i : ℕ) → NameAgrees p s new r kind.Name h i
  own_name s e declares i = (refl, tt)
  own_name s e free i = (refl, tt)
  own_name s e h i = other_agrees s e (need_of s.needed h) (s.objects i)

  name_agrees : (s : Scope) → s.sorts ≡ r → (k : Kind) (h : Hint) (i : ℕ) → NameAgrees p s new r k h i
  name_agrees s e kind.Name h i = own_name s e h i
  name_agrees s e k h i = tt

  sorts_kept : (s : Scope) → s.sorts ≡ r → (k : Kind) (xs : Parts) → (part_scope s k xs).sorts ≡ r
  sorts_kept s e kind.SequenceType [] = e
  sorts_kept s e kind.SequenceType (x ∷ xs) = e
  sorts_kept s e k xs = e

  mutual
    names_agree : (s : Scope) → s.sorts ≡ r → (h : Hint) (x : Tree) → NamesAgree p s new r h x
    names_agree s e h (node k i j ps) = (name_agrees s e k h i, parts_agree s e k h ps [] ps)

    parts_agree : (s : Scope) → s.sorts ≡ r → (k : Kind) (h : Hint) (all : Trees) (xs : Parts) (ps : Trees) → PartsAgree p s new r k h all xs ps
    parts_agree s e k h all xs none = tt
    parts_agree s e k h all xs (skip ps) = parts_agree s e k h all (xs ++ None ∷ []) ps
    parts_agree s e k h all xs (more x ps) = (
      names_agree (part_scope s k xs) (sorts_kept s e k xs) (hint s k h all xs (kind_of x)) x,
      parts_agree s e k h all (xs ++ Some (typing (part_scope s k xs) (hint s k h all xs (kind_of x)) x) ∷ []) ps,
    )

-- ---- parts

pub typed_within : (p : ℕ → Bool) (s : Scope) → RightsWithin p s.rights → ScopeWithin p s → (h : Hint) (t : Tree) → HintWithin p h → PartWithin p (typing s h t)
typed_within p s rights names h t w = (typed_so p s.rights s.sorts s h t (agree_on p s.rights rights) (names_agree p s.rights s.sorts names s refl h t) w).within

module _ (p : ℕ → Bool) where
  list_within : (ps : Typeds TypeTree) → EveryPart (Within p) ps → PartsWithin p (list_of ps)
  list_within sort.none w = tt
  list_within (sort.more x ps) w = (w.0, list_within ps w.1)
  list_within (sort.skip ps) w = (tt, list_within ps w)

  inner_within : (x : Part) → PartWithin p x → PartsWithin p (list_of (parts_of x))
  inner_within (typed f i j l ps) w = list_within ps w.1

  head_within : (xs : Parts) → PartsWithin p xs → MaybePart p (head xs)
  head_within [] w = tt
  head_within (x ∷ xs) w = w.0

  parts_within : (o : Option Part) → MaybePart p o → PartsWithin p (parts_in o)
  parts_within None w = tt
  parts_within (Some x) w = inner_within x w

  -- the parameters of a signature
  pub first_within : (x : Part) → PartWithin p x → PartsWithin p (first_parts (Some x))
  first_within x w = parts_within (head (list_of (parts_of x))) (head_within (list_of (parts_of x)) (inner_within x w))

  abbrev pub EntriesWithin : List (Option TypeTree) → Type 0
  EntriesWithin [] = Unit {0}
  EntriesWithin (o ∷ os) = MaybeWithin p o × EntriesWithin os

  second_within : (xs : Parts) → PartsWithin p xs → MaybePart p (second xs)
  second_within [] w = tt
  second_within (x ∷ []) w = tt
  second_within (x ∷ y ∷ ys) w = w.1.0

  named_within : (x : Stands) → StandsWithin p x → MaybeWithin p (named_type x)
  named_within (sort.IsType t) w = w
  named_within x w = tt

  entry_type_within : (x : Stands) (o : Option TypeTree) → StandsWithin p x → MaybeWithin p o → MaybeWithin p (entry_type x o)
  entry_type_within sort.Nothing o w h = h
  entry_type_within x o w h = named_within x w

  entry_within : (x : Part) (o : Option TypeTree) → PartWithin p x → MaybeWithin p o → MaybeWithin p (entry_of x o)
  entry_within x o w h =
      branch (MaybeWithin p) (is_parameter (form_of x)) (part_type (second (list_of (parts_of x)))) (entry_type (sort_of x) o)
      (part_type_within p (second (list_of (parts_of x))) (second_within (list_of (parts_of x)) (inner_within x w)))
      (entry_type_within (sort_of x) o (sort_within p x w) h)

  next_within : (os : List (Option TypeTree)) → EntriesWithin os → MaybeWithin p (first_entry os)
  next_within [] w = tt
  next_within (o ∷ os) w = w.0

  pub entries_within : (xs : Parts) → PartsWithin p xs → EntriesWithin (entry_types xs)
  entries_within [] w = tt
  entries_within (None ∷ xs) w = entries_within xs w.1
  entries_within (Some x ∷ xs) w = (entry_within x (first_entry (entry_types xs)) w.0 (next_within (entry_types xs) (entries_within xs w.1)), entries_within xs w.1)

  -- ---- results

  row_types : (ts : TypeRow) → RowWithin p ts → ResultsWithin p (types_in ts)
  row_types types.none w = tt
  row_types (types.more t ts) w = (w.0, row_types ts w.1)

  function_results : (o : Option TypeTree) → MaybeWithin p o → ResultsWithin p (types_in (results_of o))
  function_results None w = tt
  function_results (Some (function ps rs)) w = row_types rs w.1
  function_results (Some t) w = tt

  pub type_results : (rights : Rights) → RightsWithin p rights → (t : TypeTree) → Within p t → ResultsWithin p (types_in (results_of (underlying_of rights t)))
  type_results rights r t w = function_results (underlying_of rights t) (underlying_within p rights rights (agree_on p rights r) t w)
