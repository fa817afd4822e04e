-- Where no limit is judged, a type is typed the same whatever the right sides of the types that it names, but in lengths.
use Rattle.std.proofs.Common.{◌≡◌, ℕ, Bool, true, false, List, [], ◌∷◌, ◌++◌, Option, Some, None, refl, sym, ap, ◌∙◌, subst, cond}
use Rattle.go_ints.specs.declared.kinds.Kind.TheVariants as integer_kind
use Rattle.go_grammar.specs.declared.kind.Kind.{Kind}
use Rattle.go_grammar.specs.declared.kind.Kind.TheVariants as kind
use Rattle.go_grammar.specs.Grammar.{ends_named, is_name}
use Rattle.go_grammar.specs.Trees.{Tree, node, Trees, none, more, skip, kind_of}
use Rattle.go_tree.specs.declared.object.Object.{Object}
use Rattle.go_types.specs.Trees.{integer}
use Rattle.go_types.specs.Relations.{Rights}
use Rattle.go_typed.specs.Trees.{sort_of}
use Rattle.go_typed.specs.Trees as sort
use Rattle.go_exprs_rules.specs.declared.fault.TypeFault.{TypeFault}
use Rattle.go_exprs_rules.specs.Names.{need_of, name_sort, object_form, declared_form, name_form, place_failing}
use Rattle.go_exprs_rules.specs.Scopes.{Needed, in_full, at_once, Scope, Hint, value, type_place, loose, inside, loose_inside, declares, free, element, member}
use Rattle.go_exprs_rules.specs.Settling.{Part}
use Rattle.go_exprs_rules.specs.Sorts.{Stands}
use Rattle.go_exprs_rules.specs.Tables.{Parts, hint, in_parentheses, as_type_place, skips_first, part_scope, layout, form_by, failing, sort_by, takes, all_given, placing, own_faults, is_sound, made, built_by, built_on, built, found}
use Rattle.go_exprs_rules.specs.TypeNodes.{sequence_failing}
use Rattle.go_exprs_rules.specs.Typing.{typing, typings, faults, faults_of_parts}
use Rattle.go_package_laws.specs.Reach.{Within, AgreeOn, MaybePart, HintWithin, Standing, moved}
use Rattle.go_package_laws.specs.Names.{NameHas, EachName, is_of_types, is_sequence, told_in, Ways, EachNeed, NeedsIn, ObjectSame, ObjectAgrees, is_type_hint, IsSameType}
use Rattle.go_package_laws.proofs.Values.{branch, sort_within, whole_same, unrepresented_same}
use Rattle.go_package_laws.proofs.Typing.{scope_same, scope_agrees, typed_same, typed_within, faults_same, parts_same, part_faults_same}
use Rattle.go_package_laws.proofs.Names.{Of, name_same, expression_agrees, anys_agree, Front, behind, told_same, Counting, counting_first, counting_later, length_scope}

-- ---- what types are told

within_hint : (p : ℕ → Bool) (h : Hint) → is_type_hint h ≡ true → HintWithin p h
within_hint p (element t) e = absurd cc
within_hint p (member t) e = absurd cc
within_hint p h e = tt

inside_told : (h : Hint) → is_type_hint h ≡ true → is_type_hint (in_parentheses h) ≡ true
inside_told type_place e = refl
inside_told loose e = refl
inside_told inside e = refl
inside_told loose_inside e = refl
inside_told declares e = refl
inside_told free e = refl
inside_told h e = absurd cc

place_told : (h : Hint) → is_type_hint (as_type_place h) ≡ true
place_told loose = refl
place_told loose_inside = refl
place_told h = refl

abbrev IsTold : Hint → Type 0
IsTold h = is_type_hint h ≡ true

-- whether the next part, if it is no length, is told what a type is
abbrev Told : Kind → Bool → Bool → Type 0
Told k b true = Unit {0}
Told k true false = is_sequence k ≡ false
Told k false false = Unit {0}

told_first : (k : Kind) → Told k true (is_sequence k)
told_first kind.SequenceType = tt
told_first k = refl

names_told_so : (h : Hint) (b : Bool) (all : Trees) (n : Kind) → IsTold h → IsTold (told_in kind.Parameter h all b n)
names_told_so h true all n e = refl
names_told_so h false all n e = place_told h

told_so : (k : Kind) (h : Hint) (all : Trees) (b : Bool) (n : Kind) → is_of_types k ≡ true → Told k b false → IsTold h → IsTold (told_in k h all b n)
told_so kind.ParenthesizedType h all b n is t e = inside_told h e
told_so kind.SequenceType h all true n is t e = absurd cc
told_so kind.SequenceType h all false n is t e = branch IsTold (skips_first all) loose (as_type_place h) refl (place_told h)
told_so kind.FunctionType h all b n is t e = refl
told_so kind.StructType h all b n is t e = place_told h
told_so kind.Signature h all b n is t e = place_told h
told_so kind.Results h all b n is t e = place_told h
told_so kind.NameList h all b n is t e = refl
told_so kind.Parameters h all b n is t e = branch IsTold (ends_named all) (cond (is_name n) declares h) (as_type_place h) (branch IsTold (is_name n) declares h refl e) (place_told h)
told_so kind.Parameter h all b n is t e = names_told_so h b all n e
told_so kind.Fields h all b n is t e = names_told_so h b all n e
told_so k h all b n is t e = absurd cc

module _ (p : ℕ → Bool) (old r : Standing) (objects : ℕ → Option Object) (new : Rights) where
  abbrev full : ℕ → Type 0
  full i = ObjectAgrees p old r in_full (objects i)

  abbrev any : ℕ → Type 0
  any i = (n : Needed) → ObjectAgrees p old r n (objects i)

  abbrev Known : Scope → Type 0
  Known s = Of p old r objects new s at_once

  -- the ways in which a type needs what it names
  abbrev ways : Ways
  ways = record { named = λ n i. ObjectSame old r n (objects i); counted = full; anywhere = any }

  -- ---- a node

  module _ (s : Scope) where
    abbrev other : Scope
    other = moved s new r

    place_free : (h : Hint) (i j : ℕ) (x : Stands) → IsTold h → place_failing new h i j x ≡ place_failing s.rights h i j x
    place_free type_place i j x e = refl
    place_free loose i j x e = refl
    place_free inside i j x e = refl
    place_free loose_inside i j x e = refl
    place_free declares i j x e = refl
    place_free free i j x e = refl
    place_free h i j x e = absurd cc

    placing_free : (k : Kind) (h : Hint) (i j : ℕ) (x : Stands) → IsTold h → placing other k h i j x ≡ placing s k h i j x
    placing_free k h i j x e = let f = place_free h i j x e in cc

    module _ (k : Kind) (h : Hint) (i j : ℕ) (ys : Parts) (told : IsTold h)
        (forms : form_by other k h i j ys ≡ form_by s k h i j ys) (fails : failing other k h i j ys ≡ failing s k h i j ys)
        (stands : sort_by other k h i j ys ≡ sort_by s k h i j ys) (taken : takes other k h ys ≡ takes s k h ys) where
      own_free : own_faults other k h i j ys ≡ own_faults s k h i j ys
      own_free =
          let f : placing other k h i j (sort_by other k h i j ys) ≡ placing s k h i j (sort_by s k h i j ys) =
          ap (placing other k h i j) stands ∙ placing_free k h i j (sort_by s k h i j ys) told in
          cc

      by_free : (b : Bool) → built_by other k h i j ys b ≡ built_by s k h i j ys b
      by_free true =
          ap (λ f. made f i j (sort_by other k h i j ys) ys (all_given (takes other k h ys) ys)) forms
          ∙ ap (λ x. made (form_by s k h i j ys) i j x ys (all_given (takes other k h ys) ys)) stands
          ∙ ap (λ ks. made (form_by s k h i j ys) i j (sort_by s k h i j ys) ys (all_given ks ys)) taken
      by_free false = ap (λ f. made f i j sort.Unknown ys ys) forms

      on_free : built_on other k h i j ys ≡ built_on s k h i j ys
      on_free = ap (λ fs. built_by other k h i j ys (is_sound k ys fs)) own_free ∙ by_free (is_sound k ys (own_faults s k h i j ys))

    -- ---- names

    object_form_free : (o : Option Object) → object_form other o ≡ object_form s o
    object_form_free o = refl

    declared_form_free : (o : Option Object) → declared_form other o ≡ declared_form s o
    declared_form_free o = refl

    name_form_free : (h : Hint) (i : ℕ) → name_sort other h i ≡ name_sort s h i → name_form other h i ≡ name_form s h i
    name_form_free declares i e = declared_form_free (s.objects i)
    name_form_free free i e = declared_form_free (s.objects i)
    name_form_free h i e = let f = object_form_free (s.objects i) in cc

    name_built : (h : Hint) (i j : ℕ) (xs : Parts) → IsTold h → name_sort other h i ≡ name_sort s h i → built other kind.Name h i j xs ≡ built s kind.Name h i j xs
    name_built h i j xs told e = on_free kind.Name h i j xs told (name_form_free h i e) refl e refl

    name_found : (h : Hint) (i j : ℕ) (xs : Parts) → IsTold h → name_sort other h i ≡ name_sort s h i → found other kind.Name h i j xs ≡ found s kind.Name h i j xs
    name_found h i j xs told e = own_free kind.Name h i j xs told (name_form_free h i e) refl e refl

    -- ---- types

    forms_free : (k : Kind) (h : Hint) (i j : ℕ) (ys : Parts) → is_of_types k ≡ true → form_by other k h i j ys ≡ form_by s k h i j ys
    forms_free kind.Name h i j ys e = absurd cc
    forms_free kind.Selector h i j ys e = absurd cc
    forms_free kind.Keyed h i j ys e = absurd cc
    forms_free k h i j ys e = refl

    sorts_free : (k : Kind) (h : Hint) (i j : ℕ) (ys : Parts) → is_of_types k ≡ true → sort_by other k h i j ys ≡ sort_by s k h i j ys
    sorts_free kind.Name h i j ys e = absurd cc
    sorts_free (kind.Unary o) h i j ys e = absurd cc
    sorts_free (kind.Binary o) h i j ys e = absurd cc
    sorts_free kind.Selector h i j ys e = absurd cc
    sorts_free kind.Bracketed h i j ys e = absurd cc
    sorts_free kind.Call h i j ys e = absurd cc
    sorts_free k h i j ys e = refl

    takes_free : (k : Kind) (h : Hint) (ys : Parts) → is_of_types k ≡ true → takes other k h ys ≡ takes s k h ys
    takes_free (kind.Binary o) h ys e = absurd cc
    takes_free kind.Call h ys e = absurd cc
    takes_free kind.Composite h ys e = absurd cc
    takes_free kind.LiteralValue h ys e = absurd cc
    takes_free k h ys e = refl

    -- the first part stands for types that pass alone
    abbrev First : Parts → Type 0
    First [] = Unit {0}
    First (x ∷ xs) = MaybePart p x

    abbrev FirstOf : Kind → Parts → Type 0
    FirstOf kind.SequenceType xs = First xs
    FirstOf k xs = Unit {0}

    module _ (a : AgreeOn p s.rights new) (lim : s.limits ≡ false) where
      int_within : Within p (integer integer_kind.Int)
      int_within = tt

      sequence_unlimited : (b : Bool) (i j : ℕ) (x y : Option Part) → b ≡ false → MaybePart p x → sequence_failing new b i j x y ≡ sequence_failing s.rights b i j x y
      sequence_unlimited true i j x y e w = absurd cc
      sequence_unlimited false i j None y e w = refl
      sequence_unlimited false i j (Some n) y e w =
          let f = whole_same p s.rights new a (sort_of n) (sort_within p n w) in
          let g = unrepresented_same p s.rights new a (integer integer_kind.Int) int_within n in
          cc

      sequence_free : (h : Hint) (i j : ℕ) (ys : Parts) → First ys → failing other kind.SequenceType h i j ys ≡ failing s kind.SequenceType h i j ys
      sequence_free h i j (x ∷ y ∷ []) w = sequence_unlimited s.limits i j x y lim w
      sequence_free h i j [] w = refl
      sequence_free h i j (x ∷ []) w = refl
      sequence_free h i j (x ∷ y ∷ z ∷ ys) w = refl

      fails_free : (k : Kind) (h : Hint) (i j : ℕ) (ys : Parts) → is_of_types k ≡ true → FirstOf k ys → failing other k h i j ys ≡ failing s k h i j ys
      fails_free kind.SequenceType h i j ys e w = sequence_free h i j ys w
      fails_free (kind.Unary o) h i j ys e w = absurd cc
      fails_free (kind.Binary o) h i j ys e w = absurd cc
      fails_free kind.Selector h i j ys e w = absurd cc
      fails_free kind.Bracketed h i j ys e w = absurd cc
      fails_free kind.Call h i j ys e w = absurd cc
      fails_free kind.Composite h i j ys e w = absurd cc
      fails_free kind.LiteralValue h i j ys e w = absurd cc
      fails_free k h i j ys e w = refl

      laid_out : (k : Kind) (xs : Parts) → FirstOf k xs → FirstOf k (layout k xs)
      laid_out kind.SequenceType xs w = w
      laid_out k xs w = tt

      type_built : (k : Kind) (h : Hint) (i j : ℕ) (xs : Parts) → is_of_types k ≡ true → IsTold h → FirstOf k xs → built other k h i j xs ≡ built s k h i j xs
      type_built k h i j xs e told w =
          let ys = layout k xs in
          on_free k h i j ys told (forms_free k h i j ys e) (fails_free k h i j ys e (laid_out k xs w)) (sorts_free k h i j ys e) (takes_free k h ys e)

      type_found : (k : Kind) (h : Hint) (i j : ℕ) (xs : Parts) → is_of_types k ≡ true → IsTold h → FirstOf k xs → found other k h i j xs ≡ found s k h i j xs
      type_found k h i j xs e told w =
          let ys = layout k xs in
          own_free k h i j ys told (forms_free k h i j ys e) (fails_free k h i j ys e (laid_out k xs w)) (sorts_free k h i j ys e) (takes_free k h ys e)

  -- ---- the first part of an array type

  keeps_first : (s : Scope) (k : Kind) (h : Hint) (all : Trees) (x : Option Part) (xs : Parts) (ts : Trees) → MaybePart p x → First s (typings s k h all (x ∷ xs) ts)
  keeps_first s k h all x xs none w = w
  keeps_first s k h all x xs (skip ts) w = keeps_first s k h all x (xs ++ None ∷ []) ts w
  keeps_first s k h all x xs (more t ts) w = keeps_first s k h all x (xs ++ Some (typing (part_scope s k (x ∷ xs)) (hint s k h all (x ∷ xs) (kind_of t)) t) ∷ []) ts w

  first_is : (s : Scope) (h : Hint) (all ts : Trees) → Known s → AgreeOn p s.rights new → NeedsIn ways kind.SequenceType h all true ts true true → First s (typings s kind.SequenceType h all [] ts)
  first_is s h all none of a e = tt
  first_is s h all (skip ts) of a e = keeps_first s kind.SequenceType h all None [] ts tt
  first_is s h all (more t ts) of a e =
      let inner = part_scope s kind.SequenceType [] in
      keeps_first s kind.SequenceType h all (Some (typing inner (hint s kind.SequenceType h all [] (kind_of t)) t)) [] ts
      (typed_within p new r inner value t a (expression_agrees p old r objects new inner value t (length_scope p old r objects new s at_once kind.SequenceType [] of (refl, refl)) e.0) tt)

  first_of_kind : (s : Scope) (k : Kind) (h : Hint) (ps : Trees) → Known s → AgreeOn p s.rights new → is_of_types k ≡ true → NeedsIn ways k h ps true ps true (is_sequence k) → FirstOf s k (typings s k h ps [] ps)
  first_of_kind s kind.SequenceType h ps of a is e = first_is s h ps ps of a e
  first_of_kind s k h ps of a is e = tt

  -- ---- trees

  scope_plain : (s : Scope) (k : Kind) (xs : Parts) → Counting p old r objects new k xs false → part_scope (moved s new r) k xs ≡ moved s new r
  scope_plain s k xs c = c (moved s new r)

  hint_plain : (s : Scope) (k : Kind) (h : Hint) (all : Trees) (b : Bool) (xs : Parts) (n : Kind) → is_of_types k ≡ true → Front p old r objects new b xs → hint (moved s new r) k h all xs n ≡ hint s k h all xs n
  hint_plain s k h all b xs n is f = told_same p old r objects new (moved s new r) k h all b xs n is f ∙ sym (told_same p old r objects new s k h all b xs n is f)

  named : (s : Scope) (h : Hint) (i : ℕ) → Known s → ObjectSame old r (need_of at_once h) (objects i) → name_sort (moved s new r) h i ≡ name_sort s h i
  named s h i of e =
      name_same p old r objects new s h i
      (subst (λ m. ObjectSame s.sorts r (need_of m h) (s.objects i)) (sym of.need)
      (subst (λ (f : ℕ → Option Object). ObjectSame s.sorts r (need_of at_once h) (f i)) (sym of.name) (subst (λ (g : Standing). ObjectSame g r (need_of at_once h) (objects i)) (sym of.stand) e)))

  length_hint : (s : Scope) (k : Kind) (h : Hint) (all : Trees) (xs : Parts) (n : Kind) → Counting p old r objects new k xs true → HintWithin p (hint s k h all xs n)
  length_hint s k h all xs n c = subst (λ ys. HintWithin p (hint s k h all ys n)) (sym c.1) (subst (λ l. HintWithin p (hint s l h all [] n)) (sym c.0) tt)

  -- a part of a node of types, which is a length, or a type
  module _ (s : Scope) (k : Kind) (h : Hint) (all : Trees) (b : Bool) (xs : Parts) (t : Tree) (is : is_of_types k ≡ true) (f : Front p old r objects new b xs) (of : Known s) where
    abbrev tell : Hint
    tell = hint s k h all xs (kind_of t)

    abbrev named_in : Hint
    named_in = told_in k h all b (kind_of t)

    abbrev typed_in : Scope → Part
    typed_in z = typing (part_scope z k xs) (hint z k h all xs (kind_of t)) t

    abbrev faults_in : Scope → List (List TypeFault)
    faults_in z = faults (part_scope z k xs) (hint z k h all xs (kind_of t)) t

    counted_same : Counting p old r objects new k xs true → AgreeOn p s.rights new → EachName full t → typed_in (moved s new r) ≡ typed_in s
    counted_same c a e =
        let inner = part_scope s k xs in
        ap (λ z. typing z (hint (moved s new r) k h all xs (kind_of t)) t) (scope_same p new r s k xs)
        ∙ ap (λ z. typing (moved inner new r) z t) (hint_plain s k h all b xs (kind_of t) is f)
        ∙ typed_same p new r inner tell t (scope_agrees p new r s k xs a) (expression_agrees p old r objects new inner tell t (length_scope p old r objects new s at_once k xs of c) e)
        (length_hint s k h all xs (kind_of t) c)

    counted_faults : Counting p old r objects new k xs true → AgreeOn p s.rights new → EachName full t → faults_in (moved s new r) ≡ faults_in s
    counted_faults c a e =
        let inner = part_scope s k xs in
        ap (λ z. faults z (hint (moved s new r) k h all xs (kind_of t)) t) (scope_same p new r s k xs)
        ∙ ap (λ z. faults (moved inner new r) z t) (hint_plain s k h all b xs (kind_of t) is f)
        ∙ faults_same p new r inner tell t (scope_agrees p new r s k xs a) (expression_agrees p old r objects new inner tell t (length_scope p old r objects new s at_once k xs of c) e)
        (length_hint s k h all xs (kind_of t) c)

    plain_same : Counting p old r objects new k xs false → typing (moved s new r) named_in t ≡ typing s named_in t → typed_in (moved s new r) ≡ typed_in s
    plain_same c e =
        ap (λ z. typing z (hint (moved s new r) k h all xs (kind_of t)) t) (scope_plain s k xs c)
        ∙ ap (λ z. typing (moved s new r) z t) (told_same p old r objects new (moved s new r) k h all b xs (kind_of t) is f)
        ∙ e
        ∙ ap (λ z. typing s z t) (sym (told_same p old r objects new s k h all b xs (kind_of t) is f))
        ∙ ap (λ z. typing z tell t) (sym (c s))

    plain_faults : Counting p old r objects new k xs false → faults (moved s new r) named_in t ≡ faults s named_in t → faults_in (moved s new r) ≡ faults_in s
    plain_faults c e =
        ap (λ z. faults z (hint (moved s new r) k h all xs (kind_of t)) t) (scope_plain s k xs c)
        ∙ ap (λ z. faults (moved s new r) z t) (told_same p old r objects new (moved s new r) k h all b xs (kind_of t) is f)
        ∙ e
        ∙ ap (λ z. faults s z t) (sym (told_same p old r objects new s k h all b xs (kind_of t) is f))
        ∙ ap (λ z. faults z tell t) (sym (c s))

  -- a node, where its parts are typed the same if it is of types
  module _ (s : Scope) (h : Hint) (of : Known s) (lim : s.limits ≡ false) (a : AgreeOn p s.rights new) (told : IsTold h) where
    by_kind : (k : Kind) (i j : ℕ) (ps : Trees) (d : Bool) → is_of_types k ≡ d → NameHas (ways.named (need_of at_once h)) k i → NeedsIn ways k h ps true ps d (is_sequence k)
        → (is_of_types k ≡ true → NeedsIn ways k h ps true ps true (is_sequence k) → typings (moved s new r) k h ps [] ps ≡ typings s k h ps [] ps)
        → typing (moved s new r) h (node k i j ps) ≡ typing s h (node k i j ps)
    by_kind k i j ps true is n e inner = ap (built (moved s new r) k h i j) (inner is e) ∙ type_built s a lim k h i j (typings s k h ps [] ps) is told (first_of_kind s k h ps of a is e)
    by_kind kind.Name i j ps false is n e inner =
        ap (built (moved s new r) kind.Name h i j) (parts_same p new r s kind.Name h ps [] ps a (anys_agree p old r objects new s at_once kind.Name h ps [] ps of e) (within_hint p h told) tt)
        ∙ name_built s h i j (typings s kind.Name h ps [] ps) told (named s h i of n)
    by_kind k i j ps false is n e inner = typed_same p new r s h (node k i j ps) a (tt, anys_agree p old r objects new s at_once k h ps [] ps of e) (within_hint p h told)

    faults_by_kind : (k : Kind) (i j : ℕ) (ps : Trees) (d : Bool) → is_of_types k ≡ d → NameHas (ways.named (need_of at_once h)) k i → NeedsIn ways k h ps true ps d (is_sequence k)
        → (is_of_types k ≡ true → NeedsIn ways k h ps true ps true (is_sequence k) → typings (moved s new r) k h ps [] ps ≡ typings s k h ps [] ps)
        → (is_of_types k ≡ true → NeedsIn ways k h ps true ps true (is_sequence k) → faults_of_parts (moved s new r) k h ps [] ps ≡ faults_of_parts s k h ps [] ps)
        → faults (moved s new r) h (node k i j ps) ≡ faults s h (node k i j ps)
    faults_by_kind k i j ps true is n e inner fails =
        ap (λ fs. fs ++ found (moved s new r) k h i j (typings (moved s new r) k h ps [] ps) ∷ []) (fails is e)
        ∙ ap (λ xs. faults_of_parts s k h ps [] ps ++ found (moved s new r) k h i j xs ∷ []) (inner is e)
        ∙ ap (λ fs. faults_of_parts s k h ps [] ps ++ fs ∷ []) (type_found s a lim k h i j (typings s k h ps [] ps) is told (first_of_kind s k h ps of a is e))
    faults_by_kind kind.Name i j ps false is n e inner fails =
        let agree = anys_agree p old r objects new s at_once kind.Name h ps [] ps of e in
        ap (λ fs. fs ++ found (moved s new r) kind.Name h i j (typings (moved s new r) kind.Name h ps [] ps) ∷ []) (part_faults_same p new r s kind.Name h ps [] ps a agree (within_hint p h told) tt)
        ∙ ap (λ xs. faults_of_parts s kind.Name h ps [] ps ++ found (moved s new r) kind.Name h i j xs ∷ []) (parts_same p new r s kind.Name h ps [] ps a agree (within_hint p h told) tt)
        ∙ ap (λ fs. faults_of_parts s kind.Name h ps [] ps ++ fs ∷ []) (name_found s h i j (typings s kind.Name h ps [] ps) told (named s h i of n))
    faults_by_kind k i j ps false is n e inner fails = faults_same p new r s h (node k i j ps) a (tt, anys_agree p old r objects new s at_once k h ps [] ps of e) (within_hint p h told)

  mutual
    pub type_same : (s : Scope) (h : Hint) (t : Tree) → Known s → s.limits ≡ false → AgreeOn p s.rights new → IsTold h → EachNeed ways h t → typing (moved s new r) h t ≡ typing s h t
    type_same s h (node k i j ps) of lim a told e =
        by_kind s h of lim a told k i j ps (is_of_types k) refl e.0 e.1 (λ is needs. types_same s k h ps true [] ps (is_sequence k) is refl (counting_first p old r objects new k) (told_first k) of lim a told needs)

    types_same : (s : Scope) (k : Kind) (h : Hint) (all : Trees) (b : Bool) (xs : Parts) (ts : Trees) (l : Bool) → is_of_types k ≡ true → Front p old r objects new b xs → Counting p old r objects new k xs l → Told k b l
        → Known s → s.limits ≡ false → AgreeOn p s.rights new → IsTold h → NeedsIn ways k h all b ts true l → typings (moved s new r) k h all xs ts ≡ typings s k h all xs ts
    types_same s k h all b xs none l is f c m of lim a told e = refl
    types_same s k h all b xs (skip ts) l is f c m of lim a told e =
        types_same s k h all false (xs ++ None ∷ []) ts false is (behind p old r objects new b xs None) (counting_later p old r objects new k xs None) tt of lim a told e
    types_same s k h all b xs (more t ts) true is f c m of lim a told e =
        let x = Some (typing (part_scope s k xs) (hint s k h all xs (kind_of t)) t) in
        ap (λ z. typings (moved s new r) k h all (xs ++ Some z ∷ []) ts) (counted_same s k h all b xs t is f of c a e.0)
        ∙ types_same s k h all false (xs ++ x ∷ []) ts false is (behind p old r objects new b xs x) (counting_later p old r objects new k xs x) tt of lim a told e.1
    types_same s k h all b xs (more t ts) false is f c m of lim a told e =
        let x = Some (typing (part_scope s k xs) (hint s k h all xs (kind_of t)) t) in
        ap (λ z. typings (moved s new r) k h all (xs ++ Some z ∷ []) ts)
        (plain_same s k h all b xs t is f of c (type_same s (told_in k h all b (kind_of t)) t of lim a (told_so k h all b (kind_of t) is m told) e.0))
        ∙ types_same s k h all false (xs ++ x ∷ []) ts false is (behind p old r objects new b xs x) (counting_later p old r objects new k xs x) tt of lim a told e.1

  -- ---- and the rules that fail

  mutual
    pub type_faults_same : (s : Scope) (h : Hint) (t : Tree) → Known s → s.limits ≡ false → AgreeOn p s.rights new → IsTold h → EachNeed ways h t → faults (moved s new r) h t ≡ faults s h t
    type_faults_same s h (node k i j ps) of lim a told e =
        faults_by_kind s h of lim a told k i j ps (is_of_types k) refl e.0 e.1
        (λ is needs. types_same s k h ps true [] ps (is_sequence k) is refl (counting_first p old r objects new k) (told_first k) of lim a told needs)
        (λ is needs. types_faults_same s k h ps true [] ps (is_sequence k) is refl (counting_first p old r objects new k) (told_first k) of lim a told needs)

    types_faults_same : (s : Scope) (k : Kind) (h : Hint) (all : Trees) (b : Bool) (xs : Parts) (ts : Trees) (l : Bool) → is_of_types k ≡ true → Front p old r objects new b xs → Counting p old r objects new k xs l → Told k b l
        → Known s → s.limits ≡ false → AgreeOn p s.rights new → IsTold h → NeedsIn ways k h all b ts true l → faults_of_parts (moved s new r) k h all xs ts ≡ faults_of_parts s k h all xs ts
    types_faults_same s k h all b xs none l is f c m of lim a told e = refl
    types_faults_same s k h all b xs (skip ts) l is f c m of lim a told e =
        types_faults_same s k h all false (xs ++ None ∷ []) ts false is (behind p old r objects new b xs None) (counting_later p old r objects new k xs None) tt of lim a told e
    types_faults_same s k h all b xs (more t ts) true is f c m of lim a told e =
        let x = Some (typing (part_scope s k xs) (hint s k h all xs (kind_of t)) t) in
        let mine = faults (part_scope s k xs) (hint s k h all xs (kind_of t)) t in
        ap (λ fs. fs ++ faults_of_parts (moved s new r) k h all (xs ++ Some (typing (part_scope (moved s new r) k xs) (hint (moved s new r) k h all xs (kind_of t)) t) ∷ []) ts) (counted_faults s k h all b xs t is f of c a e.0)
        ∙ ap (λ z. mine ++ faults_of_parts (moved s new r) k h all (xs ++ Some z ∷ []) ts) (counted_same s k h all b xs t is f of c a e.0)
        ∙ ap (λ gs. mine ++ gs) (types_faults_same s k h all false (xs ++ x ∷ []) ts false is (behind p old r objects new b xs x) (counting_later p old r objects new k xs x) tt of lim a told e.1)
    types_faults_same s k h all b xs (more t ts) false is f c m of lim a told e =
        let x = Some (typing (part_scope s k xs) (hint s k h all xs (kind_of t)) t) in
        let mine = faults (part_scope s k xs) (hint s k h all xs (kind_of t)) t in
        let so = told_so k h all b (kind_of t) is m told in
        ap (λ fs. fs ++ faults_of_parts (moved s new r) k h all (xs ++ Some (typing (part_scope (moved s new r) k xs) (hint (moved s new r) k h all xs (kind_of t)) t) ∷ []) ts)
        (plain_faults s k h all b xs t is f of c (type_faults_same s (told_in k h all b (kind_of t)) t of lim a so e.0))
        ∙ ap (λ z. mine ++ faults_of_parts (moved s new r) k h all (xs ++ Some z ∷ []) ts) (plain_same s k h all b xs t is f of c (type_same s (told_in k h all b (kind_of t)) t of lim a so e.0))
        ∙ ap (λ gs. mine ++ gs) (types_faults_same s k h all false (xs ++ x ∷ []) ts false is (behind p old r objects new b xs x) (counting_later p old r objects new k xs x) tt of lim a told e.1)

  pub same_type : (s : Scope) (h : Hint) (t : Tree) → Known s → s.limits ≡ false → AgreeOn p s.rights new → IsTold h → EachNeed ways h t → IsSameType s new r h t
  same_type s h t of lim a told e = record { typed = type_same s h t of lim a told e; failing = type_faults_same s h t of lim a told e }
