-- Nodes over their parts: what parts are told, how they are laid out, which rules fail, and what the node stands for.
use Rattle.std.proofs.Common.{◌≡◌, ℕ, ◌-◌, Bool, true, false, List, [], ◌∷◌, ◌++◌, Option, Some, None, refl, ap, ◌∙◌, cond}
use Rattle.go_grammar.specs.declared.kind.Kind.{Kind}
use Rattle.go_grammar.specs.declared.kind.Kind.TheVariants as kind
use Rattle.go_grammar.specs.Grammar.{ends_named, is_name}
use Rattle.go_grammar.specs.Trees.{Trees}
use Rattle.go_tree.specs.declared.object.Object.{Object}
use Rattle.go_tree.specs.declared.object.Object.TheVariants as object
use Rattle.go_types.specs.Trees.{TypeTree, array, slice, structure}
use Rattle.go_types.specs.Relations.{Rights}
use Rattle.go_types_relations.specs.Tests.{underlying_of}
use Rattle.go_typed.specs.Trees.{typed, list_of, form_of, sort_of, parts_of}
use Rattle.go_typed.specs.Trees as sort
use Rattle.go_exprs_rules.specs.Calls.{call_failing, call_sort, call_takes}
use Rattle.go_exprs_rules.specs.Indexes.{selector_failing, selector_sort, index_failing, index_sort, slice_failing, slice_sort}
use Rattle.go_exprs_rules.specs.Literals.{literal_failing, literal_takes, literal_sort}
use Rattle.go_exprs_rules.specs.Names.{object_sort, need_of, name_sort, object_form, declared_form, name_form}
use Rattle.go_exprs_rules.specs.Operators.{unary_failing, unary_sort, unary_take, operation_failing, operation_sort, operation_takes}
use Rattle.go_exprs_rules.specs.Scopes.{Needed, Scope, Hint, value, type_place, loose, loose_inside, declares, free, element, member}
use Rattle.go_exprs_rules.specs.Settling.{Part, Take, stay, default, as_type}
use Rattle.go_exprs_rules.specs.Sorts.{Stands, int}
use Rattle.go_exprs_rules.specs.Tables.{Parts, in_parentheses, as_type_place, element_in, element_told, told_type, is_make, argument_told, call_told, composite_told, keyed_told, skips_first, sequence_told, names_told, parameter_told, hint, is_held, held, all_held, leaf, cut, first_cut, is_make_call, call_parts, has_no_low, bounds_of, bracketed_parts, selector_parts, behind_first, layout, present, on_one, on_two, on_first, on_bracketed, on_optional, literal_type, on_literal, key_form, selector_form, form_by, failing, sort_by, takes, take_optional, all_given, placing, own_faults, is_sound, made, built_by, built_on, built, found, is_type}
use Rattle.go_exprs_rules.specs.TypeNodes.{part_type, type_sort, sequence_failing, sequence_type, signature_type}
use Rattle.go_package_laws.specs.Reach.{Within, MaybeWithin, AgreeOn, StandsWithin, PartWithin, MaybePart, PartsWithin, ListWithin, HintWithin, ScopeWithin, Standing, moved, NameAgrees}
use Rattle.go_package_laws.proofs.Agreeing.{underlying_same, underlying_within}
use Rattle.go_package_laws.proofs.Values.{branch, named_within, sort_within, inner_within, list_within, row_within, part_type_within, predeclared_within, TakeWithin, given_within, type_sort_within, sequence_within, signature_within, structure_within, form_same, place_same, sequence_same}
use Rattle.go_package_laws.proofs.Operators.{TakesWithin, unary_take_within, unary_failing_same, unary_sort_same, unary_sort_within, operation_failing_same, operation_sort_same, operation_sort_within, operation_takes_same, operation_takes_within}
use Rattle.go_package_laws.proofs.Indexes.{slice_sort_within, selector_failing_same, selector_sort_same, selector_sort_within, index_failing_same, index_sort_same, index_sort_within, slice_failing_same}
use Rattle.go_package_laws.proofs.Calls.{literal_sort_within, call_failing_same, call_sort_same, call_sort_within, call_takes_same, call_takes_within, literal_failing_same, literal_takes_same, literal_takes_within}

module _ (p : ℕ → Bool) where
  -- ---- layout

  pub append_within : (xs ys : Parts) → PartsWithin p xs → PartsWithin p ys → PartsWithin p (xs ++ ys)
  append_within [] ys w h = h
  append_within (x ∷ xs) ys w h = (w.0, append_within xs ys w.1 h)

  held_within : (x : Option Part) → MaybePart p x → PartsWithin p (held x)
  held_within None w = (tt, tt)
  held_within (Some x) w = branch (PartsWithin p) (is_held (form_of x)) (list_of (parts_of x)) (Some x ∷ []) (list_within p (parts_of x) (inner_within p x w)) (w, tt)

  all_held_within : (xs : Parts) → PartsWithin p xs → PartsWithin p (all_held xs)
  all_held_within [] w = tt
  all_held_within (x ∷ xs) w = append_within (held x) (all_held xs) (held_within x w.0) (all_held_within xs w.1)

  leaf_within : (x : Part) → PartWithin p x → PartWithin p (leaf x)
  leaf_within (typed f i j l ps) w = (w.0, tt)

  cut_within : (x : Option Part) → MaybePart p x → MaybePart p (cut x)
  cut_within None w = tt
  cut_within (Some x) w = branch (MaybePart p) (is_type (sort_of x)) (Some (leaf x)) (Some x) (leaf_within x w) w

  first_cut_within : (xs : Parts) → PartsWithin p xs → PartsWithin p (first_cut xs)
  first_cut_within [] w = tt
  first_cut_within (x ∷ xs) w = (cut_within x w.0, w.1)

  call_parts_within : (xs : Parts) → PartsWithin p xs → PartsWithin p (call_parts xs)
  call_parts_within [] w = tt
  call_parts_within (f ∷ xs) w = branch (PartsWithin p) (is_make_call (f ∷ xs)) (f ∷ first_cut xs) (cut f ∷ xs) (w.0, first_cut_within xs w.1) (cut_within f w.0, w.1)

  bounds_within : (x : Option Part) → MaybePart p x → PartsWithin p (bounds_of x)
  bounds_within x w = branch (PartsWithin p) (has_no_low x) (None ∷ held x) (held x) (tt, held_within x w) (held_within x w)

  bracketed_within : (xs : Parts) → PartsWithin p xs → PartsWithin p (bracketed_parts xs)
  bracketed_within [] w = tt
  bracketed_within (x ∷ []) w = w
  bracketed_within (x ∷ y ∷ ys) w = (w.0, bounds_within y w.1.0)

  selector_within : (xs : Parts) → PartsWithin p xs → PartsWithin p (selector_parts xs)
  selector_within (Some x ∷ []) w = branch (PartsWithin p) _ [] (Some x ∷ []) tt w
  selector_within xs w = w

  behind_within : (xs : Parts) → PartsWithin p xs → PartsWithin p (behind_first xs)
  behind_within [] w = tt
  behind_within (x ∷ xs) w = w.1

  pub layout_within : (k : Kind) (xs : Parts) → PartsWithin p xs → PartsWithin p (layout k xs)
  layout_within kind.Selector xs w = selector_within xs w
  layout_within kind.Bracketed xs w = bracketed_within xs w
  layout_within kind.Call xs w = call_parts_within xs w
  layout_within kind.Composite xs w = first_cut_within xs w
  layout_within kind.LiteralValue xs w = (tt, w)
  layout_within kind.Keyed xs w = behind_within xs w
  layout_within kind.Fields xs w = all_held_within xs w
  layout_within kind.StructType xs w = all_held_within xs w
  layout_within k xs w = w

  present_within : (xs : Parts) → PartsWithin p xs → ListWithin p (present xs)
  present_within [] w = tt
  present_within (Some x ∷ xs) w = (w.0, present_within xs w.1)
  present_within (None ∷ xs) w = present_within xs w.1

  pub told_type_within : (h : Hint) → HintWithin p h → MaybeWithin p (told_type h)
  told_type_within (element t) w = w
  told_type_within h w = tt

  literal_type_within : (h : Hint) (t : Option Part) → HintWithin p h → MaybePart p t → MaybeWithin p (literal_type h t)
  literal_type_within h None hw w = told_type_within h hw
  literal_type_within h (Some x) hw w = named_within p (sort_of x) (sort_within p x w)

  -- ---- parts by their places

  module _ {A : Type 0} (P : A → Type 0) (d : A) (nothing : P d) where
    one_has : (f : Part → A) → ((x : Part) → PartWithin p x → P (f x)) → (xs : Parts) → PartsWithin p xs → P (on_one d f xs)
    one_has f h (Some x ∷ []) w = h x w.0
    one_has f h xs w = nothing

    two_have : (f : Part → Part → A) → ((x y : Part) → PartWithin p x → PartWithin p y → P (f x y)) → (xs : Parts) → PartsWithin p xs → P (on_two d f xs)
    two_have f h (Some x ∷ Some y ∷ []) w = h x y w.0 w.1.0
    two_have f h xs w = nothing

    first_has : (f : Part → List Part → A) → ((x : Part) (xs : List Part) → PartWithin p x → ListWithin p xs → P (f x xs)) → (xs : Parts) → PartsWithin p xs → P (on_first d f xs)
    first_has f h (Some x ∷ xs) w = h x (present xs) w.0 (present_within xs w.1)
    first_has f h xs w = nothing

    bracketed_has : (f : Part → Part → A) (g : Part → Option Part → Option Part → A) → ((x y : Part) → PartWithin p x → PartWithin p y → P (f x y))
        → ((x : Part) (y z : Option Part) → PartWithin p x → MaybePart p y → MaybePart p z → P (g x y z)) → (xs : Parts) → PartsWithin p xs → P (on_bracketed d f g xs)
    bracketed_has f g h k (Some x ∷ Some y ∷ []) w = h x y w.0 w.1.0
    bracketed_has f g h k (Some x ∷ y ∷ z ∷ []) w = k x y z w.0 w.1.0 w.1.1.0
    bracketed_has f g h k xs w = nothing

    optional_has : (f : Option Part → Option Part → A) → ((x y : Option Part) → MaybePart p x → MaybePart p y → P (f x y)) → (xs : Parts) → PartsWithin p xs → P (on_optional d f xs)
    optional_has f h (x ∷ y ∷ []) w = h x y w.0 w.1.0
    optional_has f h xs w = nothing

    literal_has : (h : Hint) → HintWithin p h → (f : Option TypeTree → List Part → A) → ((o : Option TypeTree) (xs : List Part) → MaybeWithin p o → ListWithin p xs → P (f o xs))
        → (xs : Parts) → PartsWithin p xs → P (on_literal d h f xs)
    literal_has h hw f k [] w = nothing
    literal_has h hw f k (t ∷ xs) w = k (literal_type h t) (present xs) (literal_type_within h t hw w.0) (present_within xs w.1)

  module _ {A : Type 0} (d : A) where
    one_same : (f g : Part → A) → ((x : Part) → PartWithin p x → f x ≡ g x) → (xs : Parts) → PartsWithin p xs → on_one d f xs ≡ on_one d g xs
    one_same f g h (Some x ∷ []) w = h x w.0
    one_same f g h xs w = refl

    two_same : (f g : Part → Part → A) → ((x y : Part) → PartWithin p x → PartWithin p y → f x y ≡ g x y) → (xs : Parts) → PartsWithin p xs → on_two d f xs ≡ on_two d g xs
    two_same f g h (Some x ∷ Some y ∷ []) w = h x y w.0 w.1.0
    two_same f g h xs w = refl

    first_same : (f g : Part → List Part → A) → ((x : Part) (xs : List Part) → PartWithin p x → ListWithin p xs → f x xs ≡ g x xs) → (xs : Parts) → PartsWithin p xs → on_first d f xs ≡ on_first d g xs
    first_same f g h (Some x ∷ xs) w = h x (present xs) w.0 (present_within xs w.1)
    first_same f g h xs w = refl

    bracketed_same : (f g : Part → Part → A) (k l : Part → Option Part → Option Part → A) → ((x y : Part) → PartWithin p x → PartWithin p y → f x y ≡ g x y)
        → ((x : Part) (y z : Option Part) → PartWithin p x → MaybePart p y → MaybePart p z → k x y z ≡ l x y z) → (xs : Parts) → PartsWithin p xs → on_bracketed d f k xs ≡ on_bracketed d g l xs
    bracketed_same f g k l h i (Some x ∷ Some y ∷ []) w = h x y w.0 w.1.0
    bracketed_same f g k l h i (Some x ∷ y ∷ z ∷ []) w = i x y z w.0 w.1.0 w.1.1.0
    bracketed_same f g k l h i xs w = refl

    optional_same : (f g : Option Part → Option Part → A) → ((x y : Option Part) → MaybePart p x → MaybePart p y → f x y ≡ g x y) → (xs : Parts) → PartsWithin p xs → on_optional d f xs ≡ on_optional d g xs
    optional_same f g h (x ∷ y ∷ []) w = h x y w.0 w.1.0
    optional_same f g h xs w = refl

    literal_same : (h : Hint) → HintWithin p h → (f g : Option TypeTree → List Part → A) → ((o : Option TypeTree) (xs : List Part) → MaybeWithin p o → ListWithin p xs → f o xs ≡ g o xs)
        → (xs : Parts) → PartsWithin p xs → on_literal d h f xs ≡ on_literal d h g xs
    literal_same h hw f g k [] w = refl
    literal_same h hw f g k (t ∷ xs) w = k (literal_type h t) (present xs) (literal_type_within h t hw w.0) (present_within xs w.1)

  -- ---- takes

  take_optional_within : (k : Take) (y : Option Part) → TakeWithin p k → MaybePart p y → MaybePart p (take_optional k y)
  take_optional_within k None h w = tt
  take_optional_within k (Some x) h w = given_within p k h x w

  pub all_given_within : (ks : List Take) (ys : Parts) → TakesWithin p ks → PartsWithin p ys → PartsWithin p (all_given ks ys)
  all_given_within (k ∷ ks) (y ∷ ys) h w = (take_optional_within k y h.0 w.0, all_given_within ks ys h.1 w.1)
  all_given_within [] ys h w = w
  all_given_within (k ∷ ks) [] h w = tt

  -- ---- names

  object_within : (s : Scope) → ScopeWithin p s → (n : Needed) (o : Option Object) → StandsWithin p (object_sort s n o)
  object_within s c n None = tt
  object_within s c n (Some object.Import) = tt
  object_within s c n (Some (object.Predeclared b)) = predeclared_within p s.iota b
  object_within s c n (Some o) = c n o

  name_within : (s : Scope) → ScopeWithin p s → (h : Hint) (i : ℕ) → StandsWithin p (name_sort s h i)
  name_within s c declares i = tt
  name_within s c free i = tt
  name_within s c h i = object_within s c (need_of s.needed h) (s.objects i)

  -- ---- what parts are told

  element_in_within : (t : TypeTree) (o : Option TypeTree) → Within p t → MaybeWithin p o → HintWithin p (element_in t o)
  element_in_within t (Some (array n e)) w h = h
  element_in_within t (Some (slice e)) w h = h
  element_in_within t (Some (structure ns ts)) w h = w
  element_in_within t o w h = tt

  inside_within : (h : Hint) → HintWithin p (in_parentheses h)
  inside_within loose = tt
  inside_within loose_inside = tt
  inside_within h = tt

  place_within : (h : Hint) → HintWithin p (as_type_place h)
  place_within loose = tt
  place_within loose_inside = tt
  place_within h = tt

  argument_within : (xs : Parts) → HintWithin p (argument_told xs)
  argument_within (Some f ∷ []) = branch (HintWithin p) (is_make (sort_of f)) type_place value tt tt
  argument_within xs = tt

  call_told_within : (xs : Parts) → HintWithin p (call_told xs)
  call_told_within [] = tt
  call_told_within (x ∷ xs) = argument_within (x ∷ xs)

  keyed_within : (h : Hint) (xs : Parts) → HintWithin p h → HintWithin p (keyed_told h xs)
  keyed_within h [] w = tt
  keyed_within h (x ∷ xs) w = w

  sequence_told_within : (h : Hint) (ps : Trees) (xs : Parts) → HintWithin p (sequence_told h ps xs)
  sequence_told_within h ps [] = tt
  sequence_told_within h ps (x ∷ xs) = branch (HintWithin p) (skips_first ps) loose (as_type_place h) tt (place_within h)

  names_told_within : (h : Hint) (xs : Parts) → HintWithin p (names_told h xs)
  names_told_within h [] = tt
  names_told_within h (x ∷ xs) = place_within h

  parameter_within : (h : Hint) (ps : Trees) (n : Kind) → HintWithin p h → HintWithin p (parameter_told h ps n)
  parameter_within h ps n w =
      branch (HintWithin p) (ends_named ps) (cond (is_name n) declares h) (as_type_place h) (branch (HintWithin p) (is_name n) declares h tt w) (place_within h)

module _ (p : ℕ → Bool) (old new : Rights) (a : AgreeOn p old new) where
  element_told_same : (o : Option TypeTree) → MaybeWithin p o → element_told new o ≡ element_told old o
  element_told_same None w = refl
  element_told_same (Some t) w = ap (element_in t) (underlying_same p old new a t w)

  element_told_within : (o : Option TypeTree) → MaybeWithin p o → HintWithin p (element_told old o)
  element_told_within None w = tt
  element_told_within (Some t) w = element_in_within p t (underlying_of old t) w (underlying_within p old new a t w)

  composite_same : (xs : Parts) → PartsWithin p xs → composite_told new xs ≡ composite_told old xs
  composite_same [] w = refl
  composite_same (t ∷ xs) w = element_told_same (part_type t) (part_type_within p t w.0)

  composite_within : (xs : Parts) → PartsWithin p xs → HintWithin p (composite_told old xs)
  composite_within [] w = tt
  composite_within (t ∷ xs) w = element_told_within (part_type t) (part_type_within p t w.0)

  key_form_same : (h : Hint) (name : List ℕ) → HintWithin p h → key_form new h name ≡ key_form old h name
  key_form_same (member t) name w = let e = underlying_same p old new a t w in cc
  key_form_same h name w = refl

  selector_form_same : (name : List ℕ) (xs : Parts) → PartsWithin p xs → selector_form new name xs ≡ selector_form old name xs
  selector_form_same name [] w = refl
  selector_form_same name (Some x ∷ []) w = let e = form_same p old new a (sort_of x) (sort_within p x w.0) in cc
  selector_form_same name (None ∷ xs) w = refl
  selector_form_same name (Some x ∷ y ∷ xs) w = refl

module _ (p : ℕ → Bool) (s : Scope) (new : Rights) (r : Standing) (a : AgreeOn p s.rights new) where
  abbrev other : Scope
  other = moved s new r

  -- ---- what parts are told

  pub hint_same : (k : Kind) (h : Hint) (all : Trees) (xs : Parts) (n : Kind) → HintWithin p h → PartsWithin p xs → hint other k h all xs n ≡ hint s k h all xs n
  hint_same kind.Composite h all xs n w v = composite_same p s.rights new a xs v
  hint_same kind.LiteralValue h all xs n w v = element_told_same p s.rights new a (told_type h) (told_type_within p h w)
  hint_same k h all xs n w v = refl

  pub hint_within : (k : Kind) (h : Hint) (all : Trees) (xs : Parts) (n : Kind) → HintWithin p h → PartsWithin p xs → HintWithin p (hint s k h all xs n)
  hint_within kind.Parenthesized h all xs n w v = inside_within p h
  hint_within kind.ParenthesizedType h all xs n w v = inside_within p h
  hint_within kind.Call h all xs n w v = call_told_within p xs
  hint_within kind.Composite h all xs n w v = composite_within p s.rights new a xs v
  hint_within kind.LiteralValue h all xs n w v = element_told_within p s.rights new a (told_type h) (told_type_within p h w)
  hint_within kind.Keyed h all xs n w v = keyed_within p h xs w
  hint_within kind.SequenceType h all xs n w v = sequence_told_within p h all xs
  hint_within kind.StructType h all xs n w v = place_within p h
  hint_within kind.Signature h all xs n w v = place_within p h
  hint_within kind.Results h all xs n w v = place_within p h
  hint_within kind.Parameters h all xs n w v = parameter_within p h all n w
  hint_within kind.Parameter h all xs n w v = names_told_within p h xs
  hint_within kind.Fields h all xs n w v = names_told_within p h xs
  hint_within k h all xs n w v = tt

  -- ---- names

  -- what a node of the kind stands for, if it is a name
  own_name : (h : Hint) (i : ℕ) → NameAgrees p s new r kind.Name h i → name_sort other h i ≡ name_sort s h i
  own_name h i e = e.0

  object_form_same : (o : Option Object) → object_form other o ≡ object_form s o
  object_form_same None = refl
  object_form_same (Some object.Import) = refl
  object_form_same (Some (object.Predeclared b)) = refl
  object_form_same (Some (object.Package m)) = refl
  object_form_same (Some (object.Local f m)) = refl

  declared_form_same : (o : Option Object) → declared_form other o ≡ declared_form s o
  declared_form_same None = refl
  declared_form_same (Some object.Import) = refl
  declared_form_same (Some (object.Predeclared b)) = refl
  declared_form_same (Some (object.Package m)) = refl
  declared_form_same (Some (object.Local f m)) = refl

  name_form_same : (h : Hint) (i : ℕ) → name_sort other h i ≡ name_sort s h i → name_form other h i ≡ name_form s h i
  name_form_same declares i e = declared_form_same (s.objects i)
  name_form_same free i e = declared_form_same (s.objects i)
  name_form_same h i e = let f = object_form_same (s.objects i) in cc

  -- ---- what nodes are

  form_by_same : (k : Kind) (h : Hint) (i j : ℕ) (ys : Parts) → NameAgrees p s new r k h i → HintWithin p h → PartsWithin p ys → form_by other k h i j ys ≡ form_by s k h i j ys
  form_by_same kind.Name h i j ys e w v = name_form_same h i e.0
  form_by_same kind.Selector h i j ys e w v = selector_form_same p s.rights new a (s.texts (j - 1)) ys v
  form_by_same kind.Keyed h i j ys e w v = key_form_same p s.rights new a h (s.texts i) w
  form_by_same k h i j ys e w v = refl

  failing_same : (k : Kind) (h : Hint) (i j : ℕ) (ys : Parts) → HintWithin p h → PartsWithin p ys → failing other k h i j ys ≡ failing s k h i j ys
  failing_same (kind.Unary o) h i j ys w v =
      one_same p [] (λ x. unary_failing new o i j (sort_of x)) (λ x. unary_failing s.rights o i j (sort_of x)) (λ x u. unary_failing_same p s.rights new a o i j (sort_of x) (sort_within p x u)) ys v
  failing_same (kind.Binary o) h i j ys w v =
      two_same p [] (operation_failing new o i j) (operation_failing s.rights o i j) (λ x y u q. operation_failing_same p s.rights new a o i j x y u q) ys v
  failing_same kind.Selector h i j ys w v =
      one_same p [] (λ x. selector_failing new i j (s.texts (j - 1)) (sort_of x)) (λ x. selector_failing s.rights i j (s.texts (j - 1)) (sort_of x))
      (λ x u. selector_failing_same p s.rights new a i j (s.texts (j - 1)) (sort_of x) (sort_within p x u)) ys v
  failing_same kind.Bracketed h i j ys w v =
      bracketed_same p [] (λ x n. index_failing new i j (sort_of x) n) (λ x n. index_failing s.rights i j (sort_of x) n)
      (λ x low high. slice_failing new i j (sort_of x) low high) (λ x low high. slice_failing s.rights i j (sort_of x) low high)
      (λ x n u q. index_failing_same p s.rights new a i j (sort_of x) n (sort_within p x u) q)
      (λ x low high u q r. slice_failing_same p s.rights new a i j (sort_of x) low high (sort_within p x u) q r) ys v
  failing_same kind.Call h i j ys w v =
      first_same p [] (λ f xs. call_failing new i j (sort_of f) xs) (λ f xs. call_failing s.rights i j (sort_of f) xs)
      (λ f xs u q. call_failing_same p s.rights new a i j (sort_of f) xs (sort_within p f u) q) ys v
  failing_same kind.Composite h i j ys w v =
      literal_same p [] h w (literal_failing new i j) (literal_failing s.rights i j) (λ o xs u q. literal_failing_same p s.rights new a i j o xs u q) ys v
  failing_same kind.LiteralValue h i j ys w v =
      literal_same p [] h w (literal_failing new i j) (literal_failing s.rights i j) (λ o xs u q. literal_failing_same p s.rights new a i j o xs u q) ys v
  failing_same kind.SequenceType h i j ys w v =
      optional_same p [] (sequence_failing new s.limits i j) (sequence_failing s.rights s.limits i j) (λ x y u q. sequence_same p s.rights new a s.limits i j x y u q) ys v
  failing_same k h i j ys w v = refl

  sort_by_same : (k : Kind) (h : Hint) (i j : ℕ) (ys : Parts) → NameAgrees p s new r k h i → HintWithin p h → PartsWithin p ys → sort_by other k h i j ys ≡ sort_by s k h i j ys
  sort_by_same kind.Name h i j ys e w v = e.0
  sort_by_same (kind.Unary o) h i j ys e w v =
      one_same p sort.Unknown (λ x. unary_sort new o (sort_of x)) (λ x. unary_sort s.rights o (sort_of x)) (λ x u. unary_sort_same p s.rights new a o (sort_of x) (sort_within p x u)) ys v
  sort_by_same (kind.Binary o) h i j ys e w v =
      two_same p sort.Unknown (λ x y. operation_sort new o (sort_of x) (sort_of y)) (λ x y. operation_sort s.rights o (sort_of x) (sort_of y))
      (λ x y u q. operation_sort_same p s.rights new a o (sort_of x) (sort_of y) (sort_within p x u) (sort_within p y q)) ys v
  sort_by_same kind.Selector h i j ys e w v =
      one_same p sort.Println (λ x. selector_sort new (s.texts (j - 1)) (sort_of x)) (λ x. selector_sort s.rights (s.texts (j - 1)) (sort_of x))
      (λ x u. selector_sort_same p s.rights new a (s.texts (j - 1)) (sort_of x) (sort_within p x u)) ys v
  sort_by_same kind.Bracketed h i j ys e w v =
      bracketed_same p sort.Unknown (λ x n. index_sort new (sort_of x)) (λ x n. index_sort s.rights (sort_of x)) (λ x low high. slice_sort (sort_of x)) (λ x low high. slice_sort (sort_of x))
      (λ x n u q. index_sort_same p s.rights new a (sort_of x) (sort_within p x u)) (λ x low high u q r. refl) ys v
  sort_by_same kind.Call h i j ys e w v =
      first_same p sort.Unknown (λ f xs. call_sort new (sort_of f) xs) (λ f xs. call_sort s.rights (sort_of f) xs)
      (λ f xs u q. call_sort_same p s.rights new a (sort_of f) xs (sort_within p f u) q) ys v
  sort_by_same k h i j ys e w v = refl

  takes_same : (k : Kind) (h : Hint) (ys : Parts) → HintWithin p h → PartsWithin p ys → takes other k h ys ≡ takes s k h ys
  takes_same (kind.Binary o) h ys w v =
      two_same p [] (λ x y. operation_takes new o (sort_of x) (sort_of y)) (λ x y. operation_takes s.rights o (sort_of x) (sort_of y))
      (λ x y u q. operation_takes_same p s.rights new a o (sort_of x) (sort_of y) (sort_within p x u) (sort_within p y q)) ys v
  takes_same kind.Call h ys w v =
      first_same p [] (λ f xs. stay ∷ call_takes new (sort_of f) xs) (λ f xs. stay ∷ call_takes s.rights (sort_of f) xs)
      (λ f xs u q. ap (λ ks. stay ∷ ks) (call_takes_same p s.rights new a (sort_of f) xs (sort_within p f u) q)) ys v
  takes_same kind.Composite h ys w v =
      literal_same p [] h w (λ t xs. stay ∷ literal_takes new t xs) (λ t xs. stay ∷ literal_takes s.rights t xs) (λ o xs u q. ap (λ ks. stay ∷ ks) (literal_takes_same p s.rights new a o xs u)) ys v
  takes_same kind.LiteralValue h ys w v =
      literal_same p [] h w (λ t xs. stay ∷ literal_takes new t xs) (λ t xs. stay ∷ literal_takes s.rights t xs) (λ o xs u q. ap (λ ks. stay ∷ ks) (literal_takes_same p s.rights new a o xs u)) ys v
  takes_same k h ys w v = refl

  int_taken : TakesWithin p (default ∷ as_type int ∷ as_type int ∷ [])
  int_taken = (tt, (tt, (tt, tt)))

  takes_within : (k : Kind) (h : Hint) (ys : Parts) → HintWithin p h → PartsWithin p ys → TakesWithin p (takes s k h ys)
  takes_within (kind.Unary o) h ys w v = one_has p (TakesWithin p) [] tt (λ x. unary_take (sort_of x) ∷ []) (λ x u. (unary_take_within p (sort_of x), tt)) ys v
  takes_within (kind.Binary o) h ys w v =
      two_have p (TakesWithin p) [] tt (λ x y. operation_takes s.rights o (sort_of x) (sort_of y))
      (λ x y u q. operation_takes_within p s.rights new a o (sort_of x) (sort_of y) (sort_within p x u) (sort_within p y q)) ys v
  takes_within kind.Bracketed h ys w v = int_taken
  takes_within kind.Call h ys w v =
      first_has p (TakesWithin p) [] tt (λ f xs. stay ∷ call_takes s.rights (sort_of f) xs) (λ f xs u q. (tt, call_takes_within p s.rights new a (sort_of f) xs (sort_within p f u) q)) ys v
  takes_within kind.Composite h ys w v =
      literal_has p (TakesWithin p) [] tt h w (λ t xs. stay ∷ literal_takes s.rights t xs) (λ o xs u q. (tt, literal_takes_within p s.rights new a o xs u)) ys v
  takes_within kind.LiteralValue h ys w v =
      literal_has p (TakesWithin p) [] tt h w (λ t xs. stay ∷ literal_takes s.rights t xs) (λ o xs u q. (tt, literal_takes_within p s.rights new a o xs u)) ys v
  takes_within k h ys w v = tt

  sort_by_within : (k : Kind) (h : Hint) (i j : ℕ) (ys : Parts) → NameAgrees p s new r k h i → HintWithin p h → PartsWithin p ys → StandsWithin p (sort_by s k h i j ys)
  sort_by_within kind.Name h i j ys e w v = e.1
  sort_by_within kind.Parenthesized h i j ys e w v = one_has p (StandsWithin p) sort.Unknown tt sort_of (sort_within p) ys v
  sort_by_within kind.ParenthesizedType h i j ys e w v = one_has p (StandsWithin p) sort.Unknown tt sort_of (sort_within p) ys v
  sort_by_within (kind.Unary o) h i j ys e w v =
      one_has p (StandsWithin p) sort.Unknown tt (λ x. unary_sort s.rights o (sort_of x)) (λ x u. unary_sort_within p s.rights new a o (sort_of x) (sort_within p x u)) ys v
  sort_by_within (kind.Binary o) h i j ys e w v =
      two_have p (StandsWithin p) sort.Unknown tt (λ x y. operation_sort s.rights o (sort_of x) (sort_of y))
      (λ x y u q. operation_sort_within p s.rights new a o (sort_of x) (sort_of y) (sort_within p x u) (sort_within p y q)) ys v
  sort_by_within kind.Selector h i j ys e w v =
      one_has p (StandsWithin p) sort.Println tt (λ x. selector_sort s.rights (s.texts (j - 1)) (sort_of x))
      (λ x u. selector_sort_within p s.rights new a (s.texts (j - 1)) (sort_of x) (sort_within p x u)) ys v
  sort_by_within kind.Bracketed h i j ys e w v =
      bracketed_has p (StandsWithin p) sort.Unknown tt (λ x n. index_sort s.rights (sort_of x)) (λ x low high. slice_sort (sort_of x))
      (λ x n u q. index_sort_within p s.rights new a (sort_of x) (sort_within p x u)) (λ x low high u q r. slice_sort_within p (sort_of x) (sort_within p x u)) ys v
  sort_by_within kind.Call h i j ys e w v =
      first_has p (StandsWithin p) sort.Unknown tt (λ f xs. call_sort s.rights (sort_of f) xs) (λ f xs u q. call_sort_within p s.rights new a (sort_of f) xs (sort_within p f u) q) ys v
  sort_by_within kind.Composite h i j ys e w v =
      literal_has p (StandsWithin p) sort.Unknown tt h w (λ t xs. literal_sort t) (λ o xs u q. literal_sort_within p o u) ys v
  sort_by_within kind.LiteralValue h i j ys e w v =
      literal_has p (StandsWithin p) sort.Unknown tt h w (λ t xs. literal_sort t) (λ o xs u q. literal_sort_within p o u) ys v
  sort_by_within kind.Keyed h i j ys e w v = one_has p (StandsWithin p) sort.Unknown tt sort_of (sort_within p) ys v
  sort_by_within kind.SequenceType h i j ys e w v =
      optional_has p (StandsWithin p) sort.Unknown tt (λ n e. type_sort (sequence_type n (part_type e)))
      (λ n e u q. type_sort_within p (sequence_type n (part_type e)) (sequence_within p n (part_type e) (part_type_within p e q))) ys v
  sort_by_within kind.FunctionType h i j ys e w v = one_has p (StandsWithin p) sort.Unknown tt sort_of (sort_within p) ys v
  sort_by_within kind.StructType h i j ys e w v = structure_within p s.texts ys v
  sort_by_within kind.Signature h i j ys e w v =
      optional_has p (StandsWithin p) sort.Unknown tt (λ ps rs. type_sort (signature_type ps rs)) (λ ps rs u q. type_sort_within p (signature_type ps rs) (signature_within p ps rs u q)) ys v
  sort_by_within k h i j ys e w v = tt

  -- ---- a node

  placing_same : (k : Kind) (h : Hint) (i j : ℕ) (x : Stands) → StandsWithin p x → placing other k h i j x ≡ placing s k h i j x
  placing_same k h i j x w = let e = place_same p s.rights new a h i j x w in cc

  own_faults_same : (k : Kind) (h : Hint) (i j : ℕ) (ys : Parts) → NameAgrees p s new r k h i → HintWithin p h → PartsWithin p ys → own_faults other k h i j ys ≡ own_faults s k h i j ys
  own_faults_same k h i j ys e w v =
      let g = failing_same k h i j ys w v in
      let f : placing other k h i j (sort_by other k h i j ys) ≡ placing s k h i j (sort_by s k h i j ys) =
      ap (placing other k h i j) (sort_by_same k h i j ys e w v) ∙ placing_same k h i j (sort_by s k h i j ys) (sort_by_within k h i j ys e w v) in
      cc

  built_by_same : (k : Kind) (h : Hint) (i j : ℕ) (ys : Parts) (b : Bool) → NameAgrees p s new r k h i → HintWithin p h → PartsWithin p ys → built_by other k h i j ys b ≡ built_by s k h i j ys b
  built_by_same k h i j ys true e w v =
      ap (λ f. made f i j (sort_by other k h i j ys) ys (all_given (takes other k h ys) ys)) (form_by_same k h i j ys e w v)
      ∙ ap (λ x. made (form_by s k h i j ys) i j x ys (all_given (takes other k h ys) ys)) (sort_by_same k h i j ys e w v)
      ∙ ap (λ ks. made (form_by s k h i j ys) i j (sort_by s k h i j ys) ys (all_given ks ys)) (takes_same k h ys w v)
  built_by_same k h i j ys false e w v = ap (λ f. made f i j sort.Unknown ys ys) (form_by_same k h i j ys e w v)

  built_on_same : (k : Kind) (h : Hint) (i j : ℕ) (ys : Parts) → NameAgrees p s new r k h i → HintWithin p h → PartsWithin p ys → built_on other k h i j ys ≡ built_on s k h i j ys
  built_on_same k h i j ys e w v =
      ap (λ fs. built_by other k h i j ys (is_sound k ys fs)) (own_faults_same k h i j ys e w v) ∙ built_by_same k h i j ys (is_sound k ys (own_faults s k h i j ys)) e w v

  built_by_within : (k : Kind) (h : Hint) (i j : ℕ) (ys : Parts) (b : Bool) → NameAgrees p s new r k h i → HintWithin p h → PartsWithin p ys → PartWithin p (built_by s k h i j ys b)
  built_by_within k h i j ys true e w v = (sort_by_within k h i j ys e w v, row_within p (all_given (takes s k h ys) ys) (all_given_within p (takes s k h ys) ys (takes_within k h ys w v) v))
  built_by_within k h i j ys false e w v = (tt, row_within p ys v)

  pub built_same : (k : Kind) (h : Hint) (i j : ℕ) (xs : Parts) → NameAgrees p s new r k h i → HintWithin p h → PartsWithin p xs → built other k h i j xs ≡ built s k h i j xs
  built_same k h i j xs e w v = built_on_same k h i j (layout k xs) e w (layout_within p k xs v)

  pub found_same : (k : Kind) (h : Hint) (i j : ℕ) (xs : Parts) → NameAgrees p s new r k h i → HintWithin p h → PartsWithin p xs → found other k h i j xs ≡ found s k h i j xs
  found_same k h i j xs e w v = own_faults_same k h i j (layout k xs) e w (layout_within p k xs v)

  pub built_within : (k : Kind) (h : Hint) (i j : ℕ) (xs : Parts) → NameAgrees p s new r k h i → HintWithin p h → PartsWithin p xs → PartWithin p (built s k h i j xs)
  built_within k h i j xs e w v = built_by_within k h i j (layout k xs) (is_sound k (layout k xs) (own_faults s k h i j (layout k xs))) e w (layout_within p k xs v)
