-- A function that stays as it is has the same types where a function is appended.
use Rattle.std.proofs.Common.{◌≡◌, ◌∙◌, ℕ, zero, suc, ◌+◌, ◌-◌, ◌<◌, ◌≤◌, inl, inr, Bool, true, List, [], ◌∷◌, ◌++◌, length, map, Option, Some, None, refl, sym, ap, subst, arith}
use Rattle.std.specs.Prelude.{slice_get, replicate}
use Rattle.std.specs.Option.{option_map}
use Rattle.std.specs.Str.{chars}
use Rattle.go_grammar.specs.declared.kind.Kind.{Kind}
use Rattle.go_grammar.specs.declared.kind.Kind.TheVariants as kind
use Rattle.go_grammar.specs.declared.kind.Sort.TheVariants as declaring
use Rattle.go_grammar.specs.Trees.{Tree, node, Trees, none, more, skip, last}
use Rattle.go_rewriting.specs.Places.{carry}
use Rattle.go_tree.specs.declared.object.Object.{Object}
use Rattle.go_tree.specs.declared.object.Object.TheVariants as object
use Rattle.go_tree.specs.Uses.{object_of, object_there}
use Rattle.go_types.specs.Relations.{Rights}
use Rattle.go_exprs_rules.specs.Scopes.{Scope}
use Rattle.go_exprs_elsewhere.specs.Elsewhere.{Moves, KeepsSpelling}
use Rattle.go_stmts_defs.specs.Bodies.{start}
use Rattle.go_stmts_elsewhere.specs.Frames.{AlongFrames, ObjectAlong, PlaceKept, KeepsPlaces, AllKeepPlaces}
use Rattle.go_stmts_elsewhere.specs.Functions.{AlongFunctions, LocalsStand}
use Rattle.go_package_defs.specs.Bodies.{Surroundings, Portion, own_object, texts_from, objects_from, based_tree, portion_of, scope_of, text_there, count_types, local_type, function_in, function_with, function_of}
use Rattle.go_package_defs.specs.Declarations.{Specification}
use Rattle.go_package_defs.specs.Sources.{Package, text_at}
use Rattle.go_heads_added.specs.Added.{Gap, beyond, shifted, Stands}
use Rattle.go_package_added.specs.Unchanged.{SurroundsAlong, StandsWhole, last_in}
use Rattle.go_package_added.proofs.Assigned.{m}
use Rattle.go_package_added.proofs.Outlined.{stands_elsewhere}
use Rattle.go_package_added.proofs.Scopes.{KeepsWords, carried, keeps_last}

abbrev pub FunctionsElsewhere : Type 0
FunctionsElsewhere = (m : Moves) (l : ℕ → Bool) (s t : Scope) (count other : ℕ) (types others : ℕ → ℕ) (old number : ℕ) (x : Tree) →
    AlongFrames m l (start s count types) (start t other others) → LocalsStand s t → KeepsSpelling m x → KeepsPlaces m x →
    AlongFunctions m l (last x) number (function_in s old count types x) (function_in t number other others (carry m.token x))

module _ (g : Gap) where
  place_stays : (k : Kind) (i j : ℕ) → PlaceKept (m g) k i j
  place_stays (kind.Specification declaring.Type) i j = refl
  place_stays kind.FunctionDeclaration i j = refl
  place_stays k i j = tt

  mutual
    keeps_places : (x : Tree) → KeepsPlaces (m g) x
    keeps_places (node k i j ps) = (place_stays k i j, all_keep_places ps)

    all_keep_places : (ts : Trees) → AllKeepPlaces (m g) ts
    all_keep_places none = tt
    all_keep_places (more t ts) = (keeps_places t, all_keep_places ts)
    all_keep_places (skip ts) = all_keep_places ts

  -- the object of a token of a portion, by the new numbers of objects
  abbrev moved : Option Object → Option Object
  moved (Some (object.Package n)) = Some (object.Package (beyond g.shared n))
  moved o = o

  own_moved : (o : Option Object) → own_object (option_map (shifted g) o) ≡ moved (own_object o)
  own_moved None = refl
  own_moved (Some object.Import) = refl
  own_moved (Some (object.Predeclared w)) = refl
  own_moved (Some (object.Package n)) = refl
  own_moved (Some (object.Local f n)) = refl

  moved_there : (os : List (Option Object)) (t : ℕ) → object_there (slice_get (map moved os) t) ≡ moved (object_there (slice_get os t))
  moved_there [] t = refl
  moved_there (o ∷ os) zero = refl
  moved_there (o ∷ os) (suc t) = moved_there os t

  module _ (a b : Surroundings) (around : SurroundsAlong g a b) (rights : Rights) (o r : Portion) (texts : r.texts ≡ o.texts) (objects : r.objects ≡ map moved o.objects) where
    object_along : (z : Option Object) → ObjectAlong (m g) (λ n. true) (scope_of a rights o) (scope_of b rights r) z (moved z)
    object_along None = tt
    object_along (Some object.Import) = tt
    object_along (Some (object.Predeclared w)) = refl
    object_along (Some (object.Package n)) = ((λ need. around.objects n), around.referents n)
    object_along (Some (object.Local f n)) = (refl, refl)

    objects_there : (i : ℕ) → ObjectAlong (m g) (λ n. true) (scope_of a rights o) (scope_of b rights r) (object_there (slice_get o.objects i)) (object_there (slice_get r.objects i))
    objects_there i =
        subst (ObjectAlong (m g) (λ n. true) (scope_of a rights o) (scope_of b rights r) (object_there (slice_get o.objects i)))
        (sym (ap (λ zs. object_there (slice_get zs i)) objects ∙ moved_there o.objects i)) (object_along (object_there (slice_get o.objects i)))

    along : (count : ℕ) (types : ℕ → ℕ) → AlongFrames (m g) (λ n. true) (start (scope_of a rights o) count types) (start (scope_of b rights r) count types)
    along count types = record {
      rights = refl;
      iota = refl;
      needed = refl;
      limits = refl;
      texts = λ i e. ap (λ ws. text_there (slice_get ws i)) texts;
      characters = λ i e. ap (λ ws. chars (text_there (slice_get ws i))) texts;
      objects = objects_there;
      apart = λ n k e f h. h;
      room = λ n e. refl;
      locals = λ n e. refl;
      types = λ n e. refl;
      source = refl;
      repeats = tt;
      tag = refl;
      results = refl;
    }

    one_stays : FunctionsElsewhere → KeepsWords → (count : ℕ) (types : ℕ → ℕ) (old new : ℕ) (t : Tree)
        → AlongFunctions (m g) (λ n. true) (last t) new (function_in (scope_of a rights o) old count types t) (function_in (scope_of b rights r) new count types t)
    one_stays law keeps count types old new t =
        subst (λ z. AlongFunctions (m g) (λ n. true) (last t) new (function_in (scope_of a rights o) old count types t) (function_in (scope_of b rights r) new count types z)) (carried t)
        (law (m g) (λ n. true) (scope_of a rights o) (scope_of b rights r) count count types types old new t (along count types) (λ need c x d y. refl) (keeps (m g) t (λ i. refl) (keeps_last g t)) (keeps_places t))

  module _ (law : FunctionsElsewhere) (keeps : KeepsWords) (a b : Surroundings) (around : SurroundsAlong g a b) (rights : Rights) (old new : ℕ) (bs : List Bool) where
    tree_stays : (o r : Portion) → r.texts ≡ o.texts → r.objects ≡ map moved o.objects → (t : Option Tree)
        → AlongFunctions (m g) (λ n. true) (last_in t) new (function_with a rights old bs o t) (function_with b rights new bs r t)
    tree_stays o r e f None = λ order. refl
    tree_stays o r e f (Some t) = one_stays a b around (rights ++ replicate (count_types bs) None) o r e f law keeps (length bs) (local_type (length rights) bs) old new t

    module _ (k n : ℕ) (p q : Package) (texts : (i t : ℕ) → Stands k n i t → text_at q i t ≡ text_at p i t)
        (objects : (i t : ℕ) → Stands k n i t → object_of q.uses i t ≡ option_map (shifted g) (object_of p.uses i t)) where
      texts_same : (i t w : ℕ) → ((j : ℕ) → t ≤ j → j < t + w → Stands k n i j) → texts_from q i t w ≡ texts_from p i t w
      texts_same i t zero s = refl
      texts_same i t (suc w) s =
          ap (λ x. x ∷ texts_from q i (suc t) w) (texts i t (s t (omega arith) (omega arith))) ∙ ap (λ xs. text_at p i t ∷ xs) (texts_same i (suc t) w (λ j l u. s j (omega (arith, l)) (omega (arith, u))))

      objects_same : (i t w : ℕ) → ((j : ℕ) → t ≤ j → j < t + w → Stands k n i j) → objects_from q i t w ≡ map moved (objects_from p i t w)
      objects_same i t zero s = refl
      objects_same i t (suc w) s =
          ap (λ x. own_object x ∷ objects_from q i (suc t) w) (objects i t (s t (omega arith) (omega arith))) ∙ ap (λ x. x ∷ objects_from q i (suc t) w) (own_moved (object_of p.uses i t))
          ∙ ap (λ xs. moved (own_object (object_of p.uses i t)) ∷ xs) (objects_same i (suc t) w (λ j l u. s j (omega (arith, l)) (omega (arith, u))))

      each_stands : (d : Specification) → StandsWhole k n d → (j : ℕ) → d.first ≤ j → j < d.first + (d.last - d.first) → Stands k n d.file j
      each_stands d (inl e) j l u = stands_elsewhere k n d.file j e
      each_stands d (inr h) j l u = λ e. omega (arith, h, l, u)

      pub function_stays : (d : Specification) → StandsWhole k n d
          → AlongFunctions (m g) (λ n. true) (last_in (portion_of p d).tree) new (function_of a rights old bs (portion_of p d)) (function_of b rights new bs (portion_of q d))
      function_stays d w =
          tree_stays (portion_of p d) (portion_of q d) (texts_same d.file d.first (d.last - d.first) (each_stands d w)) (objects_same d.file d.first (d.last - d.first) (each_stands d w)) (based_tree d.first d.tree)
