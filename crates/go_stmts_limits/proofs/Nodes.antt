-- Nodes over their parts: what parts are told, how they are laid out, what the node stands for, and what its parts take.
use Rattle.std.proofs.Common.{◌≡◌, ℕ, ◌-◌, Bool, true, false, List, [], ◌∷◌, ◌++◌, Option, Some, None, refl, cond}
use Rattle.go_grammar.specs.declared.kind.Kind.{Kind}
use Rattle.go_grammar.specs.declared.kind.Kind.TheVariants as kind
use Rattle.go_grammar.specs.Grammar.{ends_named, is_name}
use Rattle.go_grammar.specs.Trees.{Trees}
use Rattle.go_tree.specs.declared.object.Object.{Object}
use Rattle.go_tree.specs.declared.object.Object.TheVariants as object
use Rattle.go_types.specs.Trees.{TypeTree, array, slice, structure}
use Rattle.go_types.specs.Relations.{Rights}
use Rattle.go_types_relations.specs.Tests.{underlying_of}
use Rattle.go_typed.specs.Trees.{typed, list_of, form_of, sort_of, parts_of}
use Rattle.go_typed.specs.Trees as sort
use Rattle.go_exprs_rules.specs.Calls.{call_sort, call_takes}
use Rattle.go_exprs_rules.specs.Indexes.{selector_sort, index_sort, slice_sort}
use Rattle.go_exprs_rules.specs.Literals.{literal_takes, literal_sort}
use Rattle.go_exprs_rules.specs.Names.{object_sort, need_of, name_sort}
use Rattle.go_exprs_rules.specs.Operators.{unary_sort, unary_take, operation_sort, operation_takes}
use Rattle.go_exprs_rules.specs.Scopes.{Needed, Scope, Hint, value, type_place, loose, loose_inside, declares, free, element}
use Rattle.go_exprs_rules.specs.Settling.{Part, Take, stay, default, as_type}
use Rattle.go_exprs_rules.specs.Sorts.{int}
use Rattle.go_exprs_rules.specs.Tables.{Parts, in_parentheses, as_type_place, element_in, element_told, told_type, is_make, argument_told, call_told, composite_told, keyed_told, skips_first, sequence_told, names_told, parameter_told, hint, is_held, held, all_held, leaf, cut, first_cut, is_make_call, call_parts, has_no_low, bounds_of, bracketed_parts, selector_parts, behind_first, layout, present, on_one, on_two, on_first, on_bracketed, on_optional, literal_type, on_literal, sort_by, takes, take_optional, all_given, own_faults, is_sound, built_by, built, is_type, is_judged, failing, placing}
use Rattle.go_exprs_rules.specs.TypeNodes.{part_type, type_sort, sequence_failing, sequence_type, signature_type}
use Rattle.go_print_laws.specs.Reading.{IsWithin}
use Rattle.go_stmts_limits.specs.Limits.{StandsIsWithin, PartIsWithin, RightsAreWithin}
use Rattle.go_stmts_limits.proofs.Within.{MaybeWithin, MaybePart, PartsWithin, ListWithin, HintWithin}
use Rattle.go_stmts_limits.proofs.Values.{branch, named_within, sort_within, inner_within, list_within, row_within, part_type_within, predeclared_within, TakeWithin, given_within, type_sort_within, signature_within, structure_within, underlying_within}
use Rattle.go_stmts_limits.proofs.Operators.{TakesWithin, unary_take_within, unary_sort_within, operation_sort_within, operation_takes_within}
use Rattle.go_stmts_limits.proofs.Indexes.{slice_sort_within, selector_sort_within, index_sort_within}
use Rattle.go_stmts_limits.proofs.Arrays.{JudgesWithin, sequence_within, none_failing}
use Rattle.go_stmts_limits.proofs.Calls.{literal_sort_within, call_sort_within, call_takes_within, literal_takes_within}

module _ (limit : Scope) where
  -- ---- layout

  pub append_within : (xs ys : Parts) → PartsWithin limit xs → PartsWithin limit ys → PartsWithin limit (xs ++ ys)
  append_within [] ys w h = h
  append_within (x ∷ xs) ys w h = (w.0, append_within xs ys w.1 h)

  pub held_within : (x : Option Part) → MaybePart limit x → PartsWithin limit (held x)
  held_within None w = (tt, tt)
  held_within (Some x) w = branch (PartsWithin limit) (is_held (form_of x)) (list_of (parts_of x)) (Some x ∷ []) (list_within limit (parts_of x) (inner_within limit x w)) (w, tt)

  pub all_held_within : (xs : Parts) → PartsWithin limit xs → PartsWithin limit (all_held xs)
  all_held_within [] w = tt
  all_held_within (x ∷ xs) w = append_within (held x) (all_held xs) (held_within x w.0) (all_held_within xs w.1)

  leaf_within : (x : Part) → PartIsWithin limit x → PartIsWithin limit (leaf x)
  leaf_within (typed f i j l ps) w = (w.0, tt)

  cut_within : (x : Option Part) → MaybePart limit x → MaybePart limit (cut x)
  cut_within None w = tt
  cut_within (Some x) w = branch (MaybePart limit) (is_type (sort_of x)) (Some (leaf x)) (Some x) (leaf_within x w) w

  pub first_cut_within : (xs : Parts) → PartsWithin limit xs → PartsWithin limit (first_cut xs)
  first_cut_within [] w = tt
  first_cut_within (x ∷ xs) w = (cut_within x w.0, w.1)

  call_parts_within : (xs : Parts) → PartsWithin limit xs → PartsWithin limit (call_parts xs)
  call_parts_within [] w = tt
  call_parts_within (f ∷ xs) w = branch (PartsWithin limit) (is_make_call (f ∷ xs)) (f ∷ first_cut xs) (cut f ∷ xs) (w.0, first_cut_within xs w.1) (cut_within f w.0, w.1)

  bounds_within : (x : Option Part) → MaybePart limit x → PartsWithin limit (bounds_of x)
  bounds_within x w = branch (PartsWithin limit) (has_no_low x) (None ∷ held x) (held x) (tt, held_within x w) (held_within x w)

  bracketed_within : (xs : Parts) → PartsWithin limit xs → PartsWithin limit (bracketed_parts xs)
  bracketed_within [] w = tt
  bracketed_within (x ∷ []) w = w
  bracketed_within (x ∷ y ∷ ys) w = (w.0, bounds_within y w.1.0)

  selector_within : (xs : Parts) → PartsWithin limit xs → PartsWithin limit (selector_parts xs)
  selector_within (Some x ∷ []) w = branch (PartsWithin limit) _ [] (Some x ∷ []) tt w
  selector_within xs w = w

  pub behind_within : (xs : Parts) → PartsWithin limit xs → PartsWithin limit (behind_first xs)
  behind_within [] w = tt
  behind_within (x ∷ xs) w = w.1

  pub layout_within : (k : Kind) (xs : Parts) → PartsWithin limit xs → PartsWithin limit (layout k xs)
  layout_within kind.Selector xs w = selector_within xs w
  layout_within kind.Bracketed xs w = bracketed_within xs w
  layout_within kind.Call xs w = call_parts_within xs w
  layout_within kind.Composite xs w = first_cut_within xs w
  layout_within kind.LiteralValue xs w = (tt, w)
  layout_within kind.Keyed xs w = behind_within xs w
  layout_within kind.Fields xs w = all_held_within xs w
  layout_within kind.StructType xs w = all_held_within xs w
  layout_within k xs w = w

  pub present_within : (xs : Parts) → PartsWithin limit xs → ListWithin limit (present xs)
  present_within [] w = tt
  present_within (Some x ∷ xs) w = (w.0, present_within xs w.1)
  present_within (None ∷ xs) w = present_within xs w.1

  pub told_type_within : (h : Hint) → HintWithin limit h → MaybeWithin limit (told_type h)
  told_type_within (element t) w = w
  told_type_within h w = tt

  literal_type_within : (h : Hint) (t : Option Part) → HintWithin limit h → MaybePart limit t → MaybeWithin limit (literal_type h t)
  literal_type_within h None hw w = told_type_within h hw
  literal_type_within h (Some x) hw w = named_within limit (sort_of x) (sort_within limit x w)

  -- ---- parts by their places

  module _ {A : Type 0} (P : A → Type 0) (d : A) (nothing : P d) where
    one_has : (f : Part → A) → ((x : Part) → PartIsWithin limit x → P (f x)) → (xs : Parts) → PartsWithin limit xs → P (on_one d f xs)
    one_has f h (Some x ∷ []) w = h x w.0
    one_has f h xs w = nothing

    pub two_have : (f : Part → Part → A) → ((x y : Part) → PartIsWithin limit x → PartIsWithin limit y → P (f x y)) → (xs : Parts) → PartsWithin limit xs → P (on_two d f xs)
    two_have f h (Some x ∷ Some y ∷ []) w = h x y w.0 w.1.0
    two_have f h xs w = nothing

    first_has : (f : Part → List Part → A) → ((x : Part) (xs : List Part) → PartIsWithin limit x → ListWithin limit xs → P (f x xs)) → (xs : Parts) → PartsWithin limit xs → P (on_first d f xs)
    first_has f h (Some x ∷ xs) w = h x (present xs) w.0 (present_within xs w.1)
    first_has f h xs w = nothing

    bracketed_has : (f : Part → Part → A) (g : Part → Option Part → Option Part → A) → ((x y : Part) → PartIsWithin limit x → PartIsWithin limit y → P (f x y))
        → ((x : Part) (y z : Option Part) → PartIsWithin limit x → MaybePart limit y → MaybePart limit z → P (g x y z)) → (xs : Parts) → PartsWithin limit xs → P (on_bracketed d f g xs)
    bracketed_has f g h k (Some x ∷ Some y ∷ []) w = h x y w.0 w.1.0
    bracketed_has f g h k (Some x ∷ y ∷ z ∷ []) w = k x y z w.0 w.1.0 w.1.1.0
    bracketed_has f g h k xs w = nothing

    optional_has : (f : Option Part → Option Part → A) → ((x y : Option Part) → MaybePart limit x → MaybePart limit y → P (f x y)) → (xs : Parts) → PartsWithin limit xs → P (on_optional d f xs)
    optional_has f h (x ∷ y ∷ []) w = h x y w.0 w.1.0
    optional_has f h xs w = nothing

    literal_has : (h : Hint) → HintWithin limit h → (f : Option TypeTree → List Part → A) → ((o : Option TypeTree) (xs : List Part) → MaybeWithin limit o → ListWithin limit xs → P (f o xs))
        → (xs : Parts) → PartsWithin limit xs → P (on_literal d h f xs)
    literal_has h hw f k [] w = nothing
    literal_has h hw f k (t ∷ xs) w = k (literal_type h t) (present xs) (literal_type_within h t hw w.0) (present_within xs w.1)

  -- ---- takes

  take_optional_within : (k : Take) (y : Option Part) → TakeWithin limit k → MaybePart limit y → MaybePart limit (take_optional k y)
  take_optional_within k None h w = tt
  take_optional_within k (Some x) h w = given_within limit k h x w

  pub all_given_within : (ks : List Take) (ys : Parts) → TakesWithin limit ks → PartsWithin limit ys → PartsWithin limit (all_given ks ys)
  all_given_within (k ∷ ks) (y ∷ ys) h w = (take_optional_within k y h.0 w.0, all_given_within ks ys h.1 w.1)
  all_given_within [] ys h w = w
  all_given_within (k ∷ ks) [] h w = tt

  -- ---- names

  object_within : (s : Scope) → ((n : Needed) (o : Object) → StandsIsWithin limit (s.sorts n o)) → (n : Needed) (o : Option Object) → StandsIsWithin limit (object_sort s n o)
  object_within s c n None = tt
  object_within s c n (Some object.Import) = tt
  object_within s c n (Some (object.Predeclared b)) = predeclared_within limit s.iota b
  object_within s c n (Some o) = c n o

  pub name_within : (s : Scope) → ((n : Needed) (o : Object) → StandsIsWithin limit (s.sorts n o)) → (h : Hint) (i : ℕ) → StandsIsWithin limit (name_sort s h i)
  name_within s c declares i = tt
  name_within s c free i = tt
  name_within s c h i = object_within s c (need_of s.needed h) (s.objects i)

  -- ---- what parts are told

  element_in_within : (t : TypeTree) (o : Option TypeTree) → IsWithin limit t → MaybeWithin limit o → HintWithin limit (element_in t o)
  element_in_within t (Some (array n e)) w h = h.2
  element_in_within t (Some (slice e)) w h = h
  element_in_within t (Some (structure ns ts)) w h = w
  element_in_within t o w h = tt

  inside_within : (h : Hint) → HintWithin limit (in_parentheses h)
  inside_within loose = tt
  inside_within loose_inside = tt
  inside_within h = tt

  place_within : (h : Hint) → HintWithin limit (as_type_place h)
  place_within loose = tt
  place_within loose_inside = tt
  place_within h = tt

  argument_within : (xs : Parts) → HintWithin limit (argument_told xs)
  argument_within (Some f ∷ []) = branch (HintWithin limit) (is_make (sort_of f)) type_place value tt tt
  argument_within xs = tt

  call_told_within : (xs : Parts) → HintWithin limit (call_told xs)
  call_told_within [] = tt
  call_told_within (x ∷ xs) = argument_within (x ∷ xs)

  keyed_within : (h : Hint) (xs : Parts) → HintWithin limit h → HintWithin limit (keyed_told h xs)
  keyed_within h [] w = tt
  keyed_within h (x ∷ xs) w = w

  sequence_told_within : (h : Hint) (ps : Trees) (xs : Parts) → HintWithin limit (sequence_told h ps xs)
  sequence_told_within h ps [] = tt
  sequence_told_within h ps (x ∷ xs) = branch (HintWithin limit) (skips_first ps) loose (as_type_place h) tt (place_within h)

  names_told_within : (h : Hint) (xs : Parts) → HintWithin limit (names_told h xs)
  names_told_within h [] = tt
  names_told_within h (x ∷ xs) = place_within h

  parameter_within : (h : Hint) (ps : Trees) (n : Kind) → HintWithin limit h → HintWithin limit (parameter_told h ps n)
  parameter_within h ps n w =
      branch (HintWithin limit) (ends_named ps) (cond (is_name n) declares h) (as_type_place h) (branch (HintWithin limit) (is_name n) declares h tt w) (place_within h)

module _ (limit : Scope) (rights : Rights) (a : RightsAreWithin limit rights) where
  element_told_within : (o : Option TypeTree) → MaybeWithin limit o → HintWithin limit (element_told rights o)
  element_told_within None w = tt
  element_told_within (Some t) w = element_in_within limit t (underlying_of rights t) w (underlying_within limit rights a t w)

  composite_within : (xs : Parts) → PartsWithin limit xs → HintWithin limit (composite_told rights xs)
  composite_within [] w = tt
  composite_within (t ∷ xs) w = element_told_within (part_type t) (part_type_within limit t w.0)

module _ (limit s : Scope) (a : JudgesWithin limit s) where
  pub hint_within : (k : Kind) (h : Hint) (all : Trees) (xs : Parts) (n : Kind) → HintWithin limit h → PartsWithin limit xs → HintWithin limit (hint s k h all xs n)
  hint_within kind.Parenthesized h all xs n w v = inside_within limit h
  hint_within kind.ParenthesizedType h all xs n w v = inside_within limit h
  hint_within kind.Call h all xs n w v = call_told_within limit xs
  hint_within kind.Composite h all xs n w v = composite_within limit s.rights a.rights xs v
  hint_within kind.LiteralValue h all xs n w v = element_told_within limit s.rights a.rights (told_type h) (told_type_within limit h w)
  hint_within kind.Keyed h all xs n w v = keyed_within limit h xs w
  hint_within kind.SequenceType h all xs n w v = sequence_told_within limit h all xs
  hint_within kind.StructType h all xs n w v = place_within limit h
  hint_within kind.Signature h all xs n w v = place_within limit h
  hint_within kind.Results h all xs n w v = place_within limit h
  hint_within kind.Parameters h all xs n w v = parameter_within limit h all n w
  hint_within kind.Parameter h all xs n w v = names_told_within limit h xs
  hint_within kind.Fields h all xs n w v = names_told_within limit h xs
  hint_within k h all xs n w v = tt

  int_taken : TakesWithin limit (default ∷ as_type int ∷ as_type int ∷ [])
  int_taken = (tt, (tt, (tt, tt)))

  takes_within : (k : Kind) (h : Hint) (ys : Parts) → HintWithin limit h → PartsWithin limit ys → TakesWithin limit (takes s k h ys)
  takes_within (kind.Unary o) h ys w v = one_has limit (TakesWithin limit) [] tt (λ x. unary_take (sort_of x) ∷ []) (λ x u. (unary_take_within limit (sort_of x), tt)) ys v
  takes_within (kind.Binary o) h ys w v =
      two_have limit (TakesWithin limit) [] tt (λ x y. operation_takes s.rights o (sort_of x) (sort_of y))
      (λ x y u q. operation_takes_within limit s.rights a.rights o (sort_of x) (sort_of y) (sort_within limit x u) (sort_within limit y q)) ys v
  takes_within kind.Bracketed h ys w v = int_taken
  takes_within kind.Call h ys w v =
      first_has limit (TakesWithin limit) [] tt (λ f xs. stay ∷ call_takes s.rights (sort_of f) xs) (λ f xs u q. (tt, call_takes_within limit s.rights a.rights (sort_of f) xs (sort_within limit f u) q)) ys v
  takes_within kind.Composite h ys w v =
      literal_has limit (TakesWithin limit) [] tt h w (λ t xs. stay ∷ literal_takes s.rights t xs) (λ o xs u q. (tt, literal_takes_within limit s.rights a.rights o xs u)) ys v
  takes_within kind.LiteralValue h ys w v =
      literal_has limit (TakesWithin limit) [] tt h w (λ t xs. stay ∷ literal_takes s.rights t xs) (λ o xs u q. (tt, literal_takes_within limit s.rights a.rights o xs u)) ys v
  takes_within k h ys w v = tt

  sequence_sort_within : (i j : ℕ) (ys : Parts) → PartsWithin limit ys → on_optional [] (sequence_failing s.rights s.limits i j) ys ≡ []
      → StandsIsWithin limit (on_optional sort.Unknown (λ n e. type_sort (sequence_type n (part_type e))) ys)
  sequence_sort_within i j (x ∷ y ∷ []) v e = type_sort_within limit (sequence_type x (part_type y)) (sequence_within limit s a.judged a.counted i j x y (part_type_within limit y v.1.0) e)
  sequence_sort_within i j ys v e = tt

  abbrev Sound : Kind → Hint → ℕ → ℕ → Parts → Bool
  Sound k h i j ys = is_sound k ys (own_faults s k h i j ys)

  sort_by_within : (k : Kind) (h : Hint) (i j : ℕ) (ys : Parts) → Sound k h i j ys ≡ true → HintWithin limit h → PartsWithin limit ys → StandsIsWithin limit (sort_by s k h i j ys)
  sort_by_within kind.Name h i j ys e w v = name_within limit s a.objects h i
  sort_by_within kind.Parenthesized h i j ys e w v = one_has limit (StandsIsWithin limit) sort.Unknown tt sort_of (sort_within limit) ys v
  sort_by_within kind.ParenthesizedType h i j ys e w v = one_has limit (StandsIsWithin limit) sort.Unknown tt sort_of (sort_within limit) ys v
  sort_by_within (kind.Unary o) h i j ys e w v =
      one_has limit (StandsIsWithin limit) sort.Unknown tt (λ x. unary_sort s.rights o (sort_of x)) (λ x u. unary_sort_within limit s.rights a.rights o (sort_of x) (sort_within limit x u)) ys v
  sort_by_within (kind.Binary o) h i j ys e w v =
      two_have limit (StandsIsWithin limit) sort.Unknown tt (λ x y. operation_sort s.rights o (sort_of x) (sort_of y))
      (λ x y u q. operation_sort_within limit s.rights a.rights o (sort_of x) (sort_of y) (sort_within limit x u) (sort_within limit y q)) ys v
  sort_by_within kind.Selector h i j ys e w v =
      one_has limit (StandsIsWithin limit) sort.Println tt (λ x. selector_sort s.rights (s.texts (j - 1)) (sort_of x))
      (λ x u. selector_sort_within limit s.rights a.rights (s.texts (j - 1)) (sort_of x) (sort_within limit x u)) ys v
  sort_by_within kind.Bracketed h i j ys e w v =
      bracketed_has limit (StandsIsWithin limit) sort.Unknown tt (λ x n. index_sort s.rights (sort_of x)) (λ x low high. slice_sort (sort_of x))
      (λ x n u q. index_sort_within limit s.rights a.rights (sort_of x) (sort_within limit x u)) (λ x low high u q r. slice_sort_within limit (sort_of x) (sort_within limit x u)) ys v
  sort_by_within kind.Call h i j ys e w v =
      first_has limit (StandsIsWithin limit) sort.Unknown tt (λ f xs. call_sort s.rights (sort_of f) xs) (λ f xs u q. call_sort_within limit s.rights a.rights (sort_of f) xs (sort_within limit f u) q) ys v
  sort_by_within kind.Composite h i j ys e w v =
      literal_has limit (StandsIsWithin limit) sort.Unknown tt h w (λ t xs. literal_sort t) (λ o xs u q. literal_sort_within limit o u) ys v
  sort_by_within kind.LiteralValue h i j ys e w v =
      literal_has limit (StandsIsWithin limit) sort.Unknown tt h w (λ t xs. literal_sort t) (λ o xs u q. literal_sort_within limit o u) ys v
  sort_by_within kind.Keyed h i j ys e w v = one_has limit (StandsIsWithin limit) sort.Unknown tt sort_of (sort_within limit) ys v
  sort_by_within kind.SequenceType h i j ys e w v =
      sequence_sort_within i j ys v (none_failing (is_judged ys) (failing s kind.SequenceType h i j ys) (placing s kind.SequenceType h i j (sort_by s kind.SequenceType h i j ys)) e)
  sort_by_within kind.FunctionType h i j ys e w v = one_has limit (StandsIsWithin limit) sort.Unknown tt sort_of (sort_within limit) ys v
  sort_by_within kind.StructType h i j ys e w v = structure_within limit s.texts ys v
  sort_by_within kind.Signature h i j ys e w v =
      optional_has limit (StandsIsWithin limit) sort.Unknown tt (λ ps rs. type_sort (signature_type ps rs)) (λ ps rs u q. type_sort_within limit (signature_type ps rs) (signature_within limit ps rs u q)) ys v
  sort_by_within k h i j ys e w v = tt

  built_by_within : (k : Kind) (h : Hint) (i j : ℕ) (ys : Parts) (b : Bool) → Sound k h i j ys ≡ b → HintWithin limit h → PartsWithin limit ys → PartIsWithin limit (built_by s k h i j ys b)
  built_by_within k h i j ys true e w v = (sort_by_within k h i j ys e w v, row_within limit (all_given (takes s k h ys) ys) (all_given_within limit (takes s k h ys) ys (takes_within k h ys w v) v))
  built_by_within k h i j ys false e w v = (tt, row_within limit ys v)

  pub built_within : (k : Kind) (h : Hint) (i j : ℕ) (xs : Parts) → HintWithin limit h → PartsWithin limit xs → PartIsWithin limit (built s k h i j xs)
  built_within k h i j xs w v = built_by_within k h i j (layout k xs) (Sound k h i j (layout k xs)) refl w (layout_within limit k xs v)
