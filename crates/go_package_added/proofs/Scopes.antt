-- The scopes of a specification in two packages, the second of which has one function more.
use Rattle.std.proofs.Common.{◌≡◌, ◌∙◌, ℕ, zero, suc, ◌≤◌, Bool, true, ◌&&◌, List, [], ◌∷◌, length, map, Option, Some, None, refl, sym, ap, subst, arith}
use Rattle.std.specs.Prelude.{if◌then◌else◌, slice_get}
use Rattle.std.specs.Option.{option_map}
use Rattle.std.specs.Str.{chars}
use Rattle.std.proofs.lemmas.Option.{slice_get-map}
use Rattle.go_grammar.specs.declared.kind.Kind.{Kind}
use Rattle.go_grammar.specs.declared.kind.Kind.TheVariants as kind
use Rattle.go_grammar.specs.Trees.{Tree, node, Trees, none, more, skip}
use Rattle.go_rewriting.specs.Places.{carry, carries}
use Rattle.go_tree.specs.declared.context.Entity.{Entity}
use Rattle.go_tree.specs.declared.context.Entity.TheVariants as entity
use Rattle.go_tree.specs.declared.object.Declared.{Declared}
use Rattle.go_tree.specs.declared.object.Object.{Object}
use Rattle.go_tree.specs.declared.object.Object.TheVariants as object
use Rattle.go_tree.specs.Uses.{object_of}
use Rattle.go_types.specs.Relations.{Rights}
use Rattle.go_typed.specs.declared.form.Form.TheVariants as form
use Rattle.go_exprs_rules.specs.Names.{object_sort, object_form, declared_form}
use Rattle.go_exprs_rules.specs.Scopes.{Needed, in_full, at_once, loosely, Scope, Hint}
use Rattle.go_exprs_rules.specs.Typing.{typing, faults}
use Rattle.go_exprs_rules.specs.declared.fault.TypeFault.{TypeFault}
use Rattle.go_package_alike.specs.Scopes.{AllTokens, SaySame, IsTypedSame, said, MeanSame}
use Rattle.go_package_defs.specs.Declarations.{Specification}
use Rattle.go_package_defs.specs.Knowledge.{is_type, Outline, outlines, State, state_of, state_there, all_pass, needs_of, passes, stands_if, stands_where, rights_among, rights_of, referent_at, scope_where}
use Rattle.go_package_defs.specs.Sources.{Package, text_at}
use Rattle.go_exprs_elsewhere.specs.Elsewhere.{Moves, Along, KeepsLast, LastKept, AllKeepLast, KeepsSpelling, IsTypedElsewhere, form_moved, fault_placed}
use Rattle.go_heads_added.specs.Added.{Gap, beyond, shifted}
use Rattle.go_package_added.specs.OneMore.{inserted, all_beyond, outline_beyond, IsKept, IsOneMore}
use Rattle.go_package_added.proofs.Inserted.{mapped_count, other_there}
use Rattle.go_package_added.proofs.Assigned.{m, fails_same}
use Rattle.go_package_added.proofs.Judged.{IsTypedAnew}

abbrev pub MovesTyped : Type 0
MovesTyped = (m : Moves) (s t : Scope) (h : Hint) (x : Tree) → Along m s t → KeepsSpelling m x → IsTypedElsewhere m s t h x

abbrev pub KeepsWords : Type 0
KeepsWords = (m : Moves) (x : Tree) → ((i : ℕ) → m.spelled i ≡ true) → KeepsLast m x → KeepsSpelling m x

abbrev pub FollowsTokens : Type 0
FollowsTokens = (p : ℕ → Bool) (s t : Scope) (h : Hint) (x : Tree) → SaySame p s t → AllTokens p x → IsTypedSame s t h x

-- ---- trees whose tokens stay

mutual
  pub carried : (x : Tree) → carry (λ (i : ℕ). i) x ≡ x
  carried (node k i j ps) = ap (node k i j) (all_carried ps)

  all_carried : (ps : Trees) → carries (λ (i : ℕ). i) ps ≡ ps
  all_carried none = refl
  all_carried (more t ts) = ap (λ u. more u (carries (λ (i : ℕ). i) ts)) (carried t) ∙ ap (more t) (all_carried ts)
  all_carried (skip ts) = ap skip (all_carried ts)

module _ (g : Gap) where
  last_stays : (k : Kind) (j : ℕ) → LastKept (m g) k j
  last_stays kind.Selector j = refl
  last_stays k j = tt

  mutual
    pub keeps_last : (x : Tree) → KeepsLast (m g) x
    keeps_last (node k i j ps) = (last_stays k j, all_keep_last ps)

    all_keep_last : (ts : Trees) → AllKeepLast (m g) ts
    all_keep_last none = tt
    all_keep_last (more t ts) = (keeps_last t, all_keep_last ts)
    all_keep_last (skip ts) = all_keep_last ts

  all_fails_same : (nodes : List (List TypeFault)) → map (λ (fs : List TypeFault). map (fault_placed (m g)) fs) nodes ≡ nodes
  all_fails_same [] = refl
  all_fails_same (fs ∷ nodes) = ap (λ gs. gs ∷ map (λ (fs : List TypeFault). map (fault_placed (m g)) fs) nodes) (fails_same g fs) ∙ ap (λ ns. fs ∷ ns) (all_fails_same nodes)

-- ---- states

abbrev rights_by : List Entity → List State → Rights
rights_by (e ∷ es) (s ∷ ss) = if is_type e then s.right ∷ rights_by es ss else rights_by es ss
rights_by _ _ = []

by_entities : (ds : List Declared) (ss : List State) → rights_among ds ss ≡ rights_by (map (λ (d : Declared). d.entity) ds) ss
by_entities [] ss = refl
by_entities (d ∷ ds) [] = refl
by_entities (d ∷ ds) (s ∷ ss) = ap (λ rs. if is_type d.entity then s.right ∷ rs else rs) (by_entities ds ss)

rights_beyond : (a : ℕ) (es : List Entity) (y : State) (ss : List State) → a ≤ length es → a ≤ length ss → rights_by (inserted a entity.Function es) (inserted a y ss) ≡ rights_by es ss
rights_beyond zero es y ss h k = refl
rights_beyond (suc a) [] y ss h k = absurd (omega (arith, h))
rights_beyond (suc a) (e ∷ es) y [] h k = absurd (omega (arith, k))
rights_beyond (suc a) (e ∷ es) y (s ∷ ss) h k = ap (λ rs. if is_type e then s.right ∷ rs else rs) (rights_beyond a es y ss (omega (arith, h)) (omega (arith, k)))

module _ (a : ℕ) (function : Outline) (xs : List Outline) (inside : a ≤ length xs) (y : State) (ss : List State) (as_many : a ≤ length ss) where
  abbrev pub all_outlines : List Outline
  all_outlines = inserted a function (map (outline_beyond a) xs)

  abbrev pub all_states : List State
  all_states = inserted a y ss

  pub state_beyond : (n : ℕ) → state_of all_states (beyond a n) ≡ state_of ss n
  state_beyond n = ap state_there (other_there a y ss n as_many)

  pub outline_there : (n : ℕ) → slice_get all_outlines (beyond a n) ≡ option_map (outline_beyond a) (slice_get xs n)
  outline_there n = other_there a function (map (outline_beyond a) xs) n (let e = mapped_count (outline_beyond a) xs in omega (arith, e, inside)) ∙ slice_get-map (outline_beyond a) xs n

  of_outline : (need : Needed) (o : Option Outline) → needs_of need (option_map (outline_beyond a) o) ≡ all_beyond a (needs_of need o)
  of_outline in_full None = refl
  of_outline in_full (Some o) = refl
  of_outline at_once None = refl
  of_outline at_once (Some o) = refl
  of_outline loosely None = refl
  of_outline loosely (Some o) = refl

  needs_beyond : (need : Needed) (n : ℕ) → needs_of need (slice_get all_outlines (beyond a n)) ≡ all_beyond a (needs_of need (slice_get xs n))
  needs_beyond need n = ap (needs_of need) (outline_there n) ∙ of_outline need (slice_get xs n)

  module _ (test : State → Bool) where
    pass_beyond : (ns : List ℕ) → all_pass test all_states (all_beyond a ns) ≡ all_pass test ss ns
    pass_beyond [] = refl
    pass_beyond (n ∷ ns) = ap (λ s. test s && all_pass test all_states (all_beyond a ns)) (state_beyond n) ∙ ap (λ b. test (state_of ss n) && b) (pass_beyond ns)

    pub passes_beyond : (need : Needed) (n : ℕ) → passes test all_outlines all_states need (beyond a n) ≡ passes test xs ss need n
    passes_beyond loosely n = refl
    passes_beyond in_full n = ap (λ ns. all_pass test all_states (beyond a n ∷ ns)) (needs_beyond in_full n) ∙ pass_beyond (n ∷ needs_of in_full (slice_get xs n))
    passes_beyond at_once n = ap (λ ns. all_pass test all_states (beyond a n ∷ ns)) (needs_beyond at_once n) ∙ pass_beyond (n ∷ needs_of at_once (slice_get xs n))

    pub stands_beyond : (need : Needed) (n : ℕ) → stands_where test all_outlines all_states need (object.Package (beyond a n)) ≡ stands_where test xs ss need (object.Package n)
    stands_beyond need n = ap (λ b. stands_if b (state_of all_states (beyond a n))) (passes_beyond need n) ∙ ap (stands_if (passes test xs ss need n)) (state_beyond n)

-- ---- a specification

module _ (moves : MovesTyped) (keeps : KeepsWords) (follows : FollowsTokens) (p q : Package) (ds es : List Specification) (g : Gap) (h : IsOneMore p q ds es g)
    (inside : g.shared ≤ length (outlines p ds)) (y : State) (ss : List State) (as_many : g.shared ≤ length ss) where
  abbrev xs : List Outline
  xs = outlines p ds

  abbrev pub ys : List Outline
  ys = all_outlines g.shared h.function (outlines p ds) inside y ss as_many

  abbrev pub ts : List State
  ts = all_states g.shared h.function (outlines p ds) inside y ss as_many

  pub rights_same : rights_of q ts ≡ rights_of p ss
  rights_same =
      by_entities q.uses.package_level ts ∙ ap (λ z. rights_by z ts) h.entities
      ∙ rights_beyond g.shared (map (λ (d : Declared). d.entity) p.uses.package_level) y ss
      (let e = mapped_count (λ (d : Declared). d.entity) p.uses.package_level in let l = h.place in omega (arith, e, l)) as_many
      ∙ sym (by_entities p.uses.package_level ss)

  -- the tokens of a specification say this, and mean this by the numbers of the first package
  module _ (test : State → Bool) (limits : Bool) (d : Specification) (pass : ℕ → Bool) (said_there : ℕ → List ℕ) (meant : ℕ → Option Object)
      (texts : (i : ℕ) → pass i ≡ true → text_at q d.file i ≡ said_there i) (objects : (i : ℕ) → pass i ≡ true → object_of q.uses d.file i ≡ option_map (shifted g) (meant i)) where
    abbrev old : Scope
    old = record (scope_where test limits p xs ss d) { texts = said_there; characters = λ i. chars (said_there i); objects = meant }

    abbrev new : Scope
    new = scope_where test limits q ys ts d

    -- the scope of the first package, by the numbers of the second one
    abbrev between : Scope
    between = record old { objects = λ i. option_map (shifted g) (meant i); sorts = stands_where test ys ts; referents = referent_at q }

    sort_same : (n : Needed) (o : Option Object) → object_sort between n (option_map (shifted g) o) ≡ object_sort old n o
    sort_same n None = refl
    sort_same n (Some object.Import) = refl
    sort_same n (Some (object.Predeclared w)) = refl
    sort_same n (Some (object.Package i)) = stands_beyond g.shared h.function xs inside y ss as_many test n i
    sort_same n (Some (object.Local f i)) = refl

    form_same : (o : Option Object) → object_form between (option_map (shifted g) o) ≡ form_moved (m g) (object_form old o)
    form_same None = refl
    form_same (Some object.Import) = refl
    form_same (Some (object.Predeclared w)) = refl
    form_same (Some (object.Package i)) = ap form.Object (h.referents i)
    form_same (Some (object.Local f i)) = refl

    declared_same : (o : Option Object) → declared_form between (option_map (shifted g) o) ≡ form_moved (m g) (declared_form old o)
    declared_same None = refl
    declared_same (Some object.Import) = refl
    declared_same (Some (object.Predeclared w)) = refl
    declared_same (Some (object.Package i)) = ap form.Object (h.referents i)
    declared_same (Some (object.Local f i)) = refl

    along : Along (m g) old between
    along = record {
      rights = refl;
      needed = refl;
      limits = refl;
      means = record {
        texts = λ i e. refl;
        characters = λ i e. refl;
        standing = λ n i. sort_same n (meant i);
        object = λ i. form_same (meant i);
        declared = λ i. declared_same (meant i);
      };
    }

    mean_alike : (o : Option Object) → MeanSame (said between) (said new) o o
    mean_alike None = tt
    mean_alike (Some object.Import) = tt
    mean_alike (Some (object.Predeclared w)) = refl
    mean_alike (Some (object.Package i)) = ((λ need. refl), refl)
    mean_alike (Some (object.Local f i)) = ((λ need. refl), refl)

    says : SaySame pass between new
    says = record {
      rights = rights_same;
      iota = refl;
      needed = refl;
      limits = refl;
      tokens = record {
        texts = texts;
        characters = λ i e. ap chars (texts i e);
        objects = λ i e. subst (MeanSame (said between) (said new) (option_map (shifted g) (meant i))) (sym (objects i e)) (mean_alike (option_map (shifted g) (meant i)));
      };
    }

    pub spoken_anew : IsTypedAnew g pass old new
    spoken_anew = record {
      rights = rights_same;
      typed = λ hint x w.
          (follows pass between new hint x says w).typed ∙ ap (typing between hint) (sym (carried x))
          ∙ (moves (m g) old between hint x along (keeps (m g) x (λ i. refl) (keeps_last g x))).typed;
      failing = λ hint x w.
          (follows pass between new hint x says w).failing ∙ ap (faults between hint) (sym (carried x))
          ∙ (moves (m g) old between hint x along (keeps (m g) x (λ i. refl) (keeps_last g x))).failing ∙ all_fails_same g (faults old hint x);
    }

  pub scopes_anew : (test : State → Bool) (limits : Bool) (d : Specification) (k : IsKept p q g d) → IsTypedAnew g k.test (scope_where test limits p xs ss d) (scope_where test limits q ys ts d)
  scopes_anew test limits d k = spoken_anew test limits d k.test (text_at p d.file) (object_of p.uses d.file) k.texts k.objects
