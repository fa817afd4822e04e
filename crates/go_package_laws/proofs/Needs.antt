-- What is known for good before a round is the same in that round.
use Rattle.std.proofs.Common.{◌≡◌, ℕ, zero, suc, ◌<◌, Bool, true, false, List, [], ◌∷◌, length, Option, Some, None, refl, sym, ap, ◌∙◌, arith}
use Rattle.std.specs.Prelude.{slice_get, if◌then◌else◌}
use Rattle.go_grammar.specs.declared.kind.Kind.{Kind}
use Rattle.go_grammar.specs.declared.kind.Kind.TheVariants as kind
use Rattle.go_grammar.specs.Trees.{Tree, node, Trees, none, more, skip, kind_of}
use Rattle.go_tree.specs.declared.object.Declared.{Declared}
use Rattle.go_tree.specs.declared.object.Object.{Object}
use Rattle.go_tree.specs.declared.object.Object.TheVariants as object
use Rattle.go_types.specs.Trees.{TypeTree, TypeRow}
use Rattle.go_types.specs.Trees as types
use Rattle.go_types.specs.Relations.{Rights}
use Rattle.go_types_relations.specs.Questions.{entry}
use Rattle.go_typed.specs.Trees as sort
use Rattle.go_exprs_rules.specs.Names.{need_of}
use Rattle.go_exprs_rules.specs.Scopes.{Needed, in_full, at_once, loosely, Hint}
use Rattle.go_exprs_rules.specs.Sorts.{Stands}
use Rattle.go_package_defs.specs.Knowledge.{Outline, State, state_of, is_type, all_pass, needs_of, stands_if, stands_where, rights_among, following}
use Rattle.go_package_laws.specs.Reach.{Within, RowWithin, MaybeWithin, StandsWithin}
use Rattle.go_package_laws.specs.Names.{NameHas, EachName, EachNameIn, is_of_types, is_sequence, told_in, Ways, EachNeed, NeedsIn, ObjectSame}
use Rattle.go_package_laws.specs.Ranks.{AllBefore, NeedBefore, type_object, number_or}

-- ---- names of a tree

module _ (P Q : ℕ → Type 0) (f : (i : ℕ) → P i → Q i) where
  has_more : (k : Kind) (i : ℕ) → NameHas P k i → NameHas Q k i
  has_more kind.Name i h = f i h
  has_more k i h = tt

  mutual
    pub each_more : (t : Tree) → EachName P t → EachName Q t
    each_more (node k i j ps) h = (has_more k i h.0, each_in_more ps h.1)

    pub each_in_more : (ts : Trees) → EachNameIn P ts → EachNameIn Q ts
    each_in_more none h = tt
    each_in_more (more t ts) h = (each_more t h.0, each_in_more ts h.1)
    each_in_more (skip ts) h = each_in_more ts h

module _ (v w : Ways) (f : (n : Needed) (i : ℕ) → v.named n i → w.named n i) (g : (i : ℕ) → v.counted i → w.counted i) (e : (i : ℕ) → v.anywhere i → w.anywhere i) where
  mutual
    pub needs_more : (h : Hint) (t : Tree) → EachNeed v h t → EachNeed w h t
    needs_more h (node k i j ps) m =
        (has_more (v.named (need_of at_once h)) (w.named (need_of at_once h)) (f (need_of at_once h)) k i m.0, needs_in_more k h ps true ps (is_of_types k) (is_sequence k) m.1)

    needs_in_more : (k : Kind) (h : Hint) (all : Trees) (b : Bool) (ts : Trees) (d l : Bool) → NeedsIn v k h all b ts d l → NeedsIn w k h all b ts d l
    needs_in_more k h all b ts false l m = each_in_more v.anywhere w.anywhere e ts m
    needs_in_more k h all b none true l m = tt
    needs_in_more k h all b (skip ts) true l m = needs_in_more k h all false ts true false m
    needs_in_more k h all b (more t ts) true true m = (each_more v.counted w.counted g t m.0, needs_in_more k h all false ts true false m.1)
    needs_in_more k h all b (more t ts) true false m = (needs_more (told_in k h all b (kind_of t)) t m.0, needs_in_more k h all false ts true false m.1)

-- ---- types that pass

module _ (p q : ℕ → Bool) (f : (n : ℕ) → p n ≡ true → q n ≡ true) where
  mutual
    pub within_more : (t : TypeTree) → Within p t → Within q t
    within_more types.boolean w = tt
    within_more types.text w = tt
    within_more (types.integer k) w = tt
    within_more (types.array n t) w = within_more t w
    within_more (types.slice t) w = within_more t w
    within_more (types.structure ns ts) w = row_more ts w
    within_more (types.function ps rs) w = (row_more ps w.0, row_more rs w.1)
    within_more (types.declared n) w = f n w

    row_more : (ts : TypeRow) → RowWithin p ts → RowWithin q ts
    row_more types.none w = tt
    row_more (types.more t ts) w = (within_more t w.0, row_more ts w.1)

  pub maybe_more : (o : Option TypeTree) → MaybeWithin p o → MaybeWithin q o
  maybe_more None w = tt
  maybe_more (Some t) w = within_more t w

  pub stands_more : (x : Stands) → StandsWithin p x → StandsWithin q x
  stands_more (sort.IsType t) w = within_more t w
  stands_more (sort.Value t) w = within_more t w
  stands_more (sort.Constant t c) w = within_more t w
  stands_more (sort.Results t) w = within_more t w
  stands_more x w = tt

-- ---- objects

module _ (os : List Outline) (old new : List State) (test : State → Bool) (f g : ℕ → ℕ) (k : ℕ)
    (tested : (n : ℕ) → f n < k → test (state_of new n) ≡ test (state_of old n)) (first : (n : ℕ) → f n < k → (state_of new n).stands ≡ (state_of old n).stands)
    (stood : (n : ℕ) → g n < k → (state_of new n).stands ≡ (state_of old n).stands) where
  all_pass_same : (ns : List ℕ) → AllBefore f k ns → all_pass test new ns ≡ all_pass test old ns
  all_pass_same [] b = refl
  all_pass_same (n ∷ ns) b = let e = tested n b.0 in let h = all_pass_same ns b.1 in cc

  if_same : (b : Bool) (s t : State) → s.stands ≡ t.stands → stands_if b s ≡ stands_if b t
  if_same true s t e = e
  if_same false s t e = refl

  needed_same : (ns : List ℕ) (m : ℕ) → AllBefore f k (m ∷ ns) → stands_if (all_pass test new (m ∷ ns)) (state_of new m) ≡ stands_if (all_pass test old (m ∷ ns)) (state_of old m)
  needed_same ns m b =
      ap (λ z. stands_if z (state_of new m)) (all_pass_same (m ∷ ns) b) ∙ if_same (all_pass test old (m ∷ ns)) (state_of new m) (state_of old m) (first m b.0)

  pub object_same : (n : Needed) (o : Option Object) → NeedBefore os f g k n o → ObjectSame (stands_where test os old) (stands_where test os new) n o
  object_same n None b = tt
  object_same n (Some object.Import) b = tt
  object_same n (Some (object.Predeclared i)) b = tt
  object_same n (Some (object.Local i m)) b = refl
  object_same loosely (Some (object.Package m)) b = stood m b
  object_same in_full (Some (object.Package m)) b = needed_same (needs_of in_full (slice_get os m)) m b
  object_same at_once (Some (object.Package m)) b = needed_same (needs_of at_once (slice_get os m)) m b

-- ---- right sides

abbrev pub right_there : List State → Option ℕ → Option TypeTree
right_there ss None = None
right_there ss (Some n) = (state_of ss n).right

following_right : (s : State) (ss : List State) (o : Option ℕ) → right_there (s ∷ ss) (following o) ≡ right_there ss o
following_right s ss None = refl
following_right s ss (Some n) = refl

by_type : (s : State) (ss : List State) (rs : Rights) (f : ℕ → Option ℕ) → ((t : ℕ) → entry rs t ≡ right_there ss (f t)) → (t : ℕ) (b : Bool)
    → entry (if b then s.right ∷ rs else rs) t ≡ right_there (s ∷ ss) (number_or b t f)
by_type s ss rs f e zero true = refl
by_type s ss rs f e (suc t) true = e t ∙ sym (following_right s ss (f t))
by_type s ss rs f e t false = e t ∙ sym (following_right s ss (f t))

pub right_entry : (ds : List Declared) (ss : List State) → length ss ≡ length ds → (t : ℕ) → entry (rights_among ds ss) t ≡ right_there ss (type_object ds t)
right_entry [] ss l t = refl
right_entry (d ∷ ds) [] l t = cc
right_entry (d ∷ ds) (s ∷ ss) l t = by_type s ss (rights_among ds ss) (λ u. type_object ds u) (right_entry ds ss (let e : length ss ≡ length ds = omega (arith, l) in e)) t (is_type d.entity)

pub as_many_rights : (ds : List Declared) (ss us : List State) → length ss ≡ length us → length (rights_among ds ss) ≡ length (rights_among ds us)
as_many_rights [] ss us l = refl
as_many_rights (d ∷ ds) [] [] l = refl
as_many_rights (d ∷ ds) [] (u ∷ us) l = cc
as_many_rights (d ∷ ds) (s ∷ ss) [] l = cc
as_many_rights (d ∷ ds) (s ∷ ss) (u ∷ us) l = by (is_type d.entity) (as_many_rights ds ss us (let e : length ss ≡ length us = omega (arith, l) in e))
  where
    by : (b : Bool) → length (rights_among ds ss) ≡ length (rights_among ds us)
        → length (if b then s.right ∷ rights_among ds ss else rights_among ds ss) ≡ length (if b then u.right ∷ rights_among ds us else rights_among ds us)
    by true e = ap suc e
    by false e = e
