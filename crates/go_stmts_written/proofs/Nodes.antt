-- Nodes over their parts: what parts are told, how they are laid out, what the node stands for, and what its parts take.
use Rattle.std.proofs.Common.{◌≡◌, ℕ, ◌-◌, Bool, true, false, List, [], ◌∷◌, ◌++◌, Option, Some, None, refl, sym, subst, cond}
use Rattle.go_grammar.specs.declared.kind.Kind.{Kind}
use Rattle.go_grammar.specs.declared.kind.Kind.TheVariants as kind
use Rattle.go_grammar.specs.Grammar.{ends_named, is_name}
use Rattle.go_grammar.specs.Trees.{Trees}
use Rattle.go_tree.specs.declared.object.Object.{Object}
use Rattle.go_tree.specs.declared.object.Object.TheVariants as object
use Rattle.go_typed.specs.declared.form.Form.{Form}
use Rattle.go_typed.specs.declared.form.Form.TheVariants as form
use Rattle.go_exprs_rules.specs.Sorts.{Stands}
use Rattle.go_types.specs.Trees.{TypeTree, array, slice, structure}
use Rattle.go_types.specs.Relations.{Rights}
use Rattle.go_types_relations.specs.Tests.{underlying_of}
use Rattle.go_typed.specs.Trees.{typed, list_of, form_of, sort_of, parts_of}
use Rattle.go_typed.specs.Trees as sort
use Rattle.go_exprs_rules.specs.Calls.{call_sort, call_takes}
use Rattle.go_exprs_rules.specs.Indexes.{selector_sort, index_sort, slice_sort}
use Rattle.go_exprs_rules.specs.Literals.{literal_takes, literal_sort}
use Rattle.go_exprs_rules.specs.Names.{object_sort, need_of, name_sort, object_form, declared_form, form_or_type, name_form}
use Rattle.go_exprs_rules.specs.Operators.{unary_sort, unary_take, operation_sort, operation_takes}
use Rattle.go_exprs_rules.specs.Scopes.{Needed, Scope, Hint, value, type_place, loose, loose_inside, declares, free, element, member}
use Rattle.go_exprs_rules.specs.Settling.{Part, Take, stay, default, as_type}
use Rattle.go_exprs_rules.specs.Sorts.{int}
use Rattle.go_exprs_rules.specs.Tables.{Parts, in_parentheses, as_type_place, element_in, element_told, told_type, is_make, argument_told, call_told, composite_told, keyed_told, skips_first, sequence_told, names_told, parameter_told, hint, is_held, held, all_held, leaf, cut, first_cut, is_make_call, call_parts, has_no_low, bounds_of, bracketed_parts, selector_parts, behind_first, layout, present, on_one, on_two, on_first, on_bracketed, on_optional, literal_type, on_literal, sort_by, takes, take_optional, all_given, own_faults, is_sound, built_by, built, is_type, callee_form, key_form, selector_form, bracketed_form, form_by}
use Rattle.go_exprs_rules.specs.TypeNodes.{part_type, type_sort, sequence_type, signature_type, is_field_name, fields_from, structure_of}
use Rattle.go_stmts_written.specs.Named.{IsNamed}
use Rattle.go_stmts_written.specs.Named.{StandsIsNamed, RightsAreNamed, NodeIsNamed}
use Rattle.go_stmts_written.proofs.Said.{MaybeNamed, MaybePart, PartsNamed, ListNamed, HintNamed, PartIsNamed, FormIsNamed, IsNameWhere, TakeNamed, TakesNamed}
use Rattle.go_stmts_written.proofs.Values.{branch, named_named, sort_named, inner_named, list_named, row_named, part_type_named, predeclared_named, given_named, type_sort_named, signature_named, structure_named, underlying_named, sequence_named}
use Rattle.go_stmts_written.proofs.Operators.{unary_take_named, unary_sort_named, operation_sort_named, operation_takes_named}
use Rattle.go_stmts_written.proofs.Indexes.{slice_sort_named, selector_sort_named, index_sort_named}
use Rattle.go_stmts_written.proofs.Around.{ScopeIsNamed}
use Rattle.go_stmts_written.proofs.Calls.{literal_sort_named, call_sort_named, call_takes_named, literal_takes_named}

module _ (texts : ℕ → List ℕ) where
  -- ---- layout

  pub append_named : (xs ys : Parts) → PartsNamed texts xs → PartsNamed texts ys → PartsNamed texts (xs ++ ys)
  append_named [] ys w h = h
  append_named (x ∷ xs) ys w h = (w.0, append_named xs ys w.1 h)

  pub held_named : (x : Option Part) → MaybePart texts x → PartsNamed texts (held x)
  held_named None w = (tt, tt)
  held_named (Some x) w = branch (PartsNamed texts) (is_held (form_of x)) (list_of (parts_of x)) (Some x ∷ []) (list_named texts (parts_of x) (inner_named texts x w)) (w, tt)

  pub all_held_named : (xs : Parts) → PartsNamed texts xs → PartsNamed texts (all_held xs)
  all_held_named [] w = tt
  all_held_named (x ∷ xs) w = append_named (held x) (all_held xs) (held_named x w.0) (all_held_named xs w.1)

  leaf_named : (x : Part) → PartIsNamed texts x → PartIsNamed texts (leaf x)
  leaf_named (typed f i j l ps) w = (w.0, tt, tt)

  cut_named : (x : Option Part) → MaybePart texts x → MaybePart texts (cut x)
  cut_named None w = tt
  cut_named (Some x) w = branch (MaybePart texts) (is_type (sort_of x)) (Some (leaf x)) (Some x) (leaf_named x w) w

  pub first_cut_named : (xs : Parts) → PartsNamed texts xs → PartsNamed texts (first_cut xs)
  first_cut_named [] w = tt
  first_cut_named (x ∷ xs) w = (cut_named x w.0, w.1)

  call_parts_named : (xs : Parts) → PartsNamed texts xs → PartsNamed texts (call_parts xs)
  call_parts_named [] w = tt
  call_parts_named (f ∷ xs) w = branch (PartsNamed texts) (is_make_call (f ∷ xs)) (f ∷ first_cut xs) (cut f ∷ xs) (w.0, first_cut_named xs w.1) (cut_named f w.0, w.1)

  bounds_named : (x : Option Part) → MaybePart texts x → PartsNamed texts (bounds_of x)
  bounds_named x w = branch (PartsNamed texts) (has_no_low x) (None ∷ held x) (held x) (tt, held_named x w) (held_named x w)

  bracketed_named : (xs : Parts) → PartsNamed texts xs → PartsNamed texts (bracketed_parts xs)
  bracketed_named [] w = tt
  bracketed_named (x ∷ []) w = w
  bracketed_named (x ∷ y ∷ ys) w = (w.0, bounds_named y w.1.0)

  selector_named : (xs : Parts) → PartsNamed texts xs → PartsNamed texts (selector_parts xs)
  selector_named (Some x ∷ []) w = branch (PartsNamed texts) _ [] (Some x ∷ []) tt w
  selector_named xs w = w

  pub behind_named : (xs : Parts) → PartsNamed texts xs → PartsNamed texts (behind_first xs)
  behind_named [] w = tt
  behind_named (x ∷ xs) w = w.1

  pub layout_named : (k : Kind) (xs : Parts) → PartsNamed texts xs → PartsNamed texts (layout k xs)
  layout_named kind.Selector xs w = selector_named xs w
  layout_named kind.Bracketed xs w = bracketed_named xs w
  layout_named kind.Call xs w = call_parts_named xs w
  layout_named kind.Composite xs w = first_cut_named xs w
  layout_named kind.LiteralValue xs w = (tt, w)
  layout_named kind.Keyed xs w = behind_named xs w
  layout_named kind.Fields xs w = all_held_named xs w
  layout_named kind.StructType xs w = all_held_named xs w
  layout_named k xs w = w

  pub present_named : (xs : Parts) → PartsNamed texts xs → ListNamed texts (present xs)
  present_named [] w = tt
  present_named (Some x ∷ xs) w = (w.0, present_named xs w.1)
  present_named (None ∷ xs) w = present_named xs w.1

  pub told_type_named : (h : Hint) → HintNamed h → MaybeNamed (told_type h)
  told_type_named (element t) w = w
  told_type_named h w = tt

  literal_type_named : (h : Hint) (t : Option Part) → HintNamed h → MaybePart texts t → MaybeNamed (literal_type h t)
  literal_type_named h None hw w = told_type_named h hw
  literal_type_named h (Some x) hw w = named_named texts (sort_of x) (sort_named texts x w)

  -- ---- parts by their places

  module _ {A : Type 0} (P : A → Type 0) (d : A) (nothing : P d) where
    one_has : (f : Part → A) → ((x : Part) → PartIsNamed texts x → P (f x)) → (xs : Parts) → PartsNamed texts xs → P (on_one d f xs)
    one_has f h (Some x ∷ []) w = h x w.0
    one_has f h xs w = nothing

    pub two_have : (f : Part → Part → A) → ((x y : Part) → PartIsNamed texts x → PartIsNamed texts y → P (f x y)) → (xs : Parts) → PartsNamed texts xs → P (on_two d f xs)
    two_have f h (Some x ∷ Some y ∷ []) w = h x y w.0 w.1.0
    two_have f h xs w = nothing

    first_has : (f : Part → List Part → A) → ((x : Part) (xs : List Part) → PartIsNamed texts x → ListNamed texts xs → P (f x xs)) → (xs : Parts) → PartsNamed texts xs → P (on_first d f xs)
    first_has f h (Some x ∷ xs) w = h x (present xs) w.0 (present_named xs w.1)
    first_has f h xs w = nothing

    bracketed_has : (f : Part → Part → A) (g : Part → Option Part → Option Part → A) → ((x y : Part) → PartIsNamed texts x → PartIsNamed texts y → P (f x y))
        → ((x : Part) (y z : Option Part) → PartIsNamed texts x → MaybePart texts y → MaybePart texts z → P (g x y z)) → (xs : Parts) → PartsNamed texts xs → P (on_bracketed d f g xs)
    bracketed_has f g h k (Some x ∷ Some y ∷ []) w = h x y w.0 w.1.0
    bracketed_has f g h k (Some x ∷ y ∷ z ∷ []) w = k x y z w.0 w.1.0 w.1.1.0
    bracketed_has f g h k xs w = nothing

    optional_has : (f : Option Part → Option Part → A) → ((x y : Option Part) → MaybePart texts x → MaybePart texts y → P (f x y)) → (xs : Parts) → PartsNamed texts xs → P (on_optional d f xs)
    optional_has f h (x ∷ y ∷ []) w = h x y w.0 w.1.0
    optional_has f h xs w = nothing

    literal_has : (h : Hint) → HintNamed h → (f : Option TypeTree → List Part → A) → ((o : Option TypeTree) (xs : List Part) → MaybeNamed o → ListNamed texts xs → P (f o xs))
        → (xs : Parts) → PartsNamed texts xs → P (on_literal d h f xs)
    literal_has h hw f k [] w = nothing
    literal_has h hw f k (t ∷ xs) w = k (literal_type h t) (present xs) (literal_type_named h t hw w.0) (present_named xs w.1)

  -- ---- takes

  take_optional_named : (k : Take) (y : Option Part) → TakeNamed k → MaybePart texts y → MaybePart texts (take_optional k y)
  take_optional_named k None h w = tt
  take_optional_named k (Some x) h w = given_named texts k h x w

  pub all_given_named : (ks : List Take) (ys : Parts) → TakesNamed ks → PartsNamed texts ys → PartsNamed texts (all_given ks ys)
  all_given_named (k ∷ ks) (y ∷ ys) h w = (take_optional_named k y h.0 w.0, all_given_named ks ys h.1 w.1)
  all_given_named [] ys h w = w
  all_given_named (k ∷ ks) [] h w = tt

  -- ---- names

  object_named : (s : Scope) → ((n : Needed) (o : Object) → StandsIsNamed (s.sorts n o)) → (n : Needed) (o : Option Object) → StandsIsNamed (object_sort s n o)
  object_named s c n None = tt
  object_named s c n (Some object.Import) = tt
  object_named s c n (Some (object.Predeclared b)) = predeclared_named texts s.iota b
  object_named s c n (Some o) = c n o

  pub name_named : (s : Scope) → ((n : Needed) (o : Object) → StandsIsNamed (s.sorts n o)) → (h : Hint) (i : ℕ) → StandsIsNamed (name_sort s h i)
  name_named s c declares i = tt
  name_named s c free i = tt
  name_named s c h i = object_named s c (need_of s.needed h) (s.objects i)

  -- ---- what parts are told

  element_in_named : (t : TypeTree) (o : Option TypeTree) → IsNamed t → MaybeNamed o → HintNamed (element_in t o)
  element_in_named t (Some (array n e)) w h = h
  element_in_named t (Some (slice e)) w h = h
  element_in_named t (Some (structure ns ts)) w h = w
  element_in_named t o w h = tt

  inside_named : (h : Hint) → HintNamed (in_parentheses h)
  inside_named loose = tt
  inside_named loose_inside = tt
  inside_named h = tt

  place_named : (h : Hint) → HintNamed (as_type_place h)
  place_named loose = tt
  place_named loose_inside = tt
  place_named h = tt

  argument_named : (xs : Parts) → HintNamed (argument_told xs)
  argument_named (Some f ∷ []) = branch (HintNamed) (is_make (sort_of f)) type_place value tt tt
  argument_named xs = tt

  call_told_named : (xs : Parts) → HintNamed (call_told xs)
  call_told_named [] = tt
  call_told_named (x ∷ xs) = argument_named (x ∷ xs)

  keyed_named : (h : Hint) (xs : Parts) → HintNamed h → HintNamed (keyed_told h xs)
  keyed_named h [] w = tt
  keyed_named h (x ∷ xs) w = w

  sequence_told_named : (h : Hint) (ps : Trees) (xs : Parts) → HintNamed (sequence_told h ps xs)
  sequence_told_named h ps [] = tt
  sequence_told_named h ps (x ∷ xs) = branch (HintNamed) (skips_first ps) loose (as_type_place h) tt (place_named h)

  names_told_named : (h : Hint) (xs : Parts) → HintNamed (names_told h xs)
  names_told_named h [] = tt
  names_told_named h (x ∷ xs) = place_named h

  parameter_named : (h : Hint) (ps : Trees) (n : Kind) → HintNamed h → HintNamed (parameter_told h ps n)
  parameter_named h ps n w =
      branch (HintNamed) (ends_named ps) (cond (is_name n) declares h) (as_type_place h) (branch (HintNamed) (is_name n) declares h tt w) (place_named h)

module _ (texts : ℕ → List ℕ) (rights : Rights) (a : RightsAreNamed rights) where
  element_told_named : (o : Option TypeTree) → MaybeNamed o → HintNamed (element_told rights o)
  element_told_named None w = tt
  element_told_named (Some t) w = element_in_named texts t (underlying_of rights t) w (underlying_named texts rights a t w)

  composite_named : (xs : Parts) → PartsNamed texts xs → HintNamed (composite_told rights xs)
  composite_named [] w = tt
  composite_named (t ∷ xs) w = element_told_named (part_type t) (part_type_named texts t w.0)

module _ (texts : ℕ → List ℕ) (s : Scope) (a : ScopeIsNamed texts s) where
  pub hint_named : (k : Kind) (h : Hint) (all : Trees) (xs : Parts) (n : Kind) → HintNamed h → PartsNamed texts xs → HintNamed (hint s k h all xs n)
  hint_named kind.Parenthesized h all xs n w v = inside_named texts h
  hint_named kind.ParenthesizedType h all xs n w v = inside_named texts h
  hint_named kind.Call h all xs n w v = call_told_named texts xs
  hint_named kind.Composite h all xs n w v = composite_named texts s.rights a.rights xs v
  hint_named kind.LiteralValue h all xs n w v = element_told_named texts s.rights a.rights (told_type h) (told_type_named texts h w)
  hint_named kind.Keyed h all xs n w v = keyed_named texts h xs w
  hint_named kind.SequenceType h all xs n w v = sequence_told_named texts h all xs
  hint_named kind.StructType h all xs n w v = place_named texts h
  hint_named kind.Signature h all xs n w v = place_named texts h
  hint_named kind.Results h all xs n w v = place_named texts h
  hint_named kind.Parameters h all xs n w v = parameter_named texts h all n w
  hint_named kind.Parameter h all xs n w v = names_told_named texts h xs
  hint_named kind.Fields h all xs n w v = names_told_named texts h xs
  hint_named k h all xs n w v = tt

  int_taken : TakesNamed (default ∷ as_type int ∷ as_type int ∷ [])
  int_taken = (tt, (tt, (tt, tt)))

  takes_named : (k : Kind) (h : Hint) (ys : Parts) → HintNamed h → PartsNamed texts ys → TakesNamed (takes s k h ys)
  takes_named (kind.Unary o) h ys w v = one_has texts (TakesNamed) [] tt (λ x. unary_take (sort_of x) ∷ []) (λ x u. (unary_take_named texts (sort_of x), tt)) ys v
  takes_named (kind.Binary o) h ys w v =
      two_have texts (TakesNamed) [] tt (λ x y. operation_takes s.rights o (sort_of x) (sort_of y))
      (λ x y u q. operation_takes_named texts s.rights a.rights o (sort_of x) (sort_of y) (sort_named texts x u) (sort_named texts y q)) ys v
  takes_named kind.Bracketed h ys w v = int_taken
  takes_named kind.Call h ys w v =
      first_has texts (TakesNamed) [] tt (λ f xs. stay ∷ call_takes s.rights (sort_of f) xs) (λ f xs u q. (tt, call_takes_named texts s.rights a.rights (sort_of f) xs (sort_named texts f u) q)) ys v
  takes_named kind.Composite h ys w v =
      literal_has texts (TakesNamed) [] tt h w (λ t xs. stay ∷ literal_takes s.rights t xs) (λ o xs u q. (tt, literal_takes_named texts s.rights a.rights o xs u)) ys v
  takes_named kind.LiteralValue h ys w v =
      literal_has texts (TakesNamed) [] tt h w (λ t xs. stay ∷ literal_takes s.rights t xs) (λ o xs u q. (tt, literal_takes_named texts s.rights a.rights o xs u)) ys v
  takes_named k h ys w v = tt

  sequence_sort_named : (ys : Parts) → PartsNamed texts ys → StandsIsNamed (on_optional sort.Unknown (λ n e. type_sort (sequence_type n (part_type e))) ys)
  sequence_sort_named ys v = optional_has texts StandsIsNamed sort.Unknown tt (λ n e. type_sort (sequence_type n (part_type e))) (λ n e u q. type_sort_named texts (sequence_type n (part_type e)) (sequence_named texts n e (part_type_named texts e q))) ys v

  fields_sort_named : (ys : Parts) → PartsNamed texts ys → StandsIsNamed (sort.IsType (structure_of (fields_from s.texts [] ys)))
  fields_sort_named ys v = subst (λ f. StandsIsNamed (sort.IsType (structure_of (fields_from f [] ys)))) (sym a.same) (structure_named texts ys v)

  sort_by_named : (k : Kind) (h : Hint) (i j : ℕ) (ys : Parts) → HintNamed h → PartsNamed texts ys → StandsIsNamed (sort_by s k h i j ys)
  sort_by_named kind.Name h i j ys w v = name_named texts s a.objects h i
  sort_by_named kind.Parenthesized h i j ys w v = one_has texts (StandsIsNamed) sort.Unknown tt sort_of (sort_named texts) ys v
  sort_by_named kind.ParenthesizedType h i j ys w v = one_has texts (StandsIsNamed) sort.Unknown tt sort_of (sort_named texts) ys v
  sort_by_named (kind.Unary o) h i j ys w v =
      one_has texts (StandsIsNamed) sort.Unknown tt (λ x. unary_sort s.rights o (sort_of x)) (λ x u. unary_sort_named texts s.rights a.rights o (sort_of x) (sort_named texts x u)) ys v
  sort_by_named (kind.Binary o) h i j ys w v =
      two_have texts (StandsIsNamed) sort.Unknown tt (λ x y. operation_sort s.rights o (sort_of x) (sort_of y))
      (λ x y u q. operation_sort_named texts s.rights a.rights o (sort_of x) (sort_of y) (sort_named texts x u) (sort_named texts y q)) ys v
  sort_by_named kind.Selector h i j ys w v =
      one_has texts (StandsIsNamed) sort.Println tt (λ x. selector_sort s.rights (s.texts (j - 1)) (sort_of x))
      (λ x u. selector_sort_named texts s.rights a.rights (s.texts (j - 1)) (sort_of x) (sort_named texts x u)) ys v
  sort_by_named kind.Bracketed h i j ys w v =
      bracketed_has texts (StandsIsNamed) sort.Unknown tt (λ x n. index_sort s.rights (sort_of x)) (λ x low high. slice_sort (sort_of x))
      (λ x n u q. index_sort_named texts s.rights a.rights (sort_of x) (sort_named texts x u)) (λ x low high u q r. slice_sort_named texts (sort_of x) (sort_named texts x u)) ys v
  sort_by_named kind.Call h i j ys w v =
      first_has texts (StandsIsNamed) sort.Unknown tt (λ f xs. call_sort s.rights (sort_of f) xs) (λ f xs u q. call_sort_named texts s.rights a.rights (sort_of f) xs (sort_named texts f u) q) ys v
  sort_by_named kind.Composite h i j ys w v =
      literal_has texts (StandsIsNamed) sort.Unknown tt h w (λ t xs. literal_sort t) (λ o xs u q. literal_sort_named texts o u) ys v
  sort_by_named kind.LiteralValue h i j ys w v =
      literal_has texts (StandsIsNamed) sort.Unknown tt h w (λ t xs. literal_sort t) (λ o xs u q. literal_sort_named texts o u) ys v
  sort_by_named kind.Keyed h i j ys w v = one_has texts (StandsIsNamed) sort.Unknown tt sort_of (sort_named texts) ys v
  sort_by_named kind.SequenceType h i j ys w v = sequence_sort_named ys v
  sort_by_named kind.FunctionType h i j ys w v = one_has texts (StandsIsNamed) sort.Unknown tt sort_of (sort_named texts) ys v
  sort_by_named kind.StructType h i j ys w v = fields_sort_named ys v
  sort_by_named kind.Signature h i j ys w v =
      optional_has texts (StandsIsNamed) sort.Unknown tt (λ ps rs. type_sort (signature_type ps rs)) (λ ps rs u q. type_sort_named texts (signature_type ps rs) (signature_named texts ps rs u q)) ys v
  sort_by_named k h i j ys w v = tt

  object_plain : (o : Option Object) → is_field_name (object_form s o) ≡ false
  object_plain None = refl
  object_plain (Some object.Import) = refl
  object_plain (Some (object.Predeclared p)) = refl
  object_plain (Some (object.Package n)) = refl
  object_plain (Some (object.Local f n)) = refl

  declared_plain : (o : Option Object) → is_field_name (declared_form s o) ≡ false
  declared_plain None = refl
  declared_plain (Some object.Import) = refl
  declared_plain (Some (object.Predeclared p)) = refl
  declared_plain (Some (object.Package n)) = refl
  declared_plain (Some (object.Local f n)) = refl

  typed_plain : (x : Stands) (f : Form) → is_field_name f ≡ false → is_field_name (form_or_type x f) ≡ false
  typed_plain (sort.IsType t) f h = refl
  typed_plain x f h = h

  name_plain : (h : Hint) (i : ℕ) → is_field_name (name_form s h i) ≡ false
  name_plain declares i = declared_plain (s.objects i)
  name_plain free i = declared_plain (s.objects i)
  name_plain h i = typed_plain (name_sort s h i) (object_form s (s.objects i)) (object_plain (s.objects i))

  callee_plain : (x : Stands) → is_field_name (callee_form x) ≡ false
  callee_plain (sort.IsType t) = refl
  callee_plain x = refl

  call_plain : (ys : Parts) → is_field_name (on_first form.Call (λ f xs. callee_form (sort_of f)) ys) ≡ false
  call_plain (Some x ∷ ys) = callee_plain (sort_of x)
  call_plain ys = refl

  key_plain : (rights : Rights) (h : Hint) (name : List ℕ) → is_field_name (key_form rights h name) ≡ false
  key_plain rights (member t) name = refl
  key_plain rights h name = refl

  selector_plain : (rights : Rights) (name : List ℕ) (ys : Parts) → is_field_name (selector_form rights name ys) ≡ false
  selector_plain rights name [] = refl
  selector_plain rights name (None ∷ ys) = refl
  selector_plain rights name (Some x ∷ []) = refl
  selector_plain rights name (Some x ∷ y ∷ ys) = refl

  bracketed_plain : (ys : Parts) → is_field_name (bracketed_form ys) ≡ false
  bracketed_plain [] = refl
  bracketed_plain (x ∷ []) = refl
  bracketed_plain (x ∷ y ∷ []) = refl
  bracketed_plain (x ∷ y ∷ z ∷ ys) = refl

  plain_named : (f : Form) (i : ℕ) → is_field_name f ≡ false → FormIsNamed texts f i
  plain_named f i e = subst (λ b. IsNameWhere b (texts i)) (sym e) tt

  -- a node that only holds parts, of which a field's name is one
  pub held_form_named : (k : Kind) (i : ℕ) → NodeIsNamed texts k i → FormIsNamed texts (form.Held k) i
  held_form_named kind.DeclaredName i w = w
  held_form_named k i w = tt

  form_named : (k : Kind) (h : Hint) (i j : ℕ) (ys : Parts) → NodeIsNamed texts k i → FormIsNamed texts (form_by s k h i j ys) i
  form_named kind.Name h i j ys w = plain_named (name_form s h i) i (name_plain h i)
  form_named kind.Selector h i j ys w = plain_named (selector_form s.rights (s.texts (j - 1)) ys) i (selector_plain s.rights (s.texts (j - 1)) ys)
  form_named kind.Bracketed h i j ys w = plain_named (bracketed_form ys) i (bracketed_plain ys)
  form_named kind.Call h i j ys w = plain_named (on_first form.Call (λ f xs. callee_form (sort_of f)) ys) i (call_plain ys)
  form_named kind.Keyed h i j ys w = plain_named (key_form s.rights h (s.texts i)) i (key_plain s.rights h (s.texts i))
  form_named kind.DeclaredName h i j ys w = w
  form_named k h i j ys w = tt

  built_by_named : (k : Kind) (h : Hint) (i j : ℕ) (ys : Parts) (b : Bool) → NodeIsNamed texts k i → HintNamed h → PartsNamed texts ys → PartIsNamed texts (built_by s k h i j ys b)
  built_by_named k h i j ys true n w v =
      (sort_by_named k h i j ys w v, row_named texts (all_given (takes s k h ys) ys) (all_given_named texts (takes s k h ys) ys (takes_named k h ys w v) v), form_named k h i j ys n)
  built_by_named k h i j ys false n w v = (tt, row_named texts ys v, form_named k h i j ys n)

  pub built_named : (k : Kind) (h : Hint) (i j : ℕ) (xs : Parts) → NodeIsNamed texts k i → HintNamed h → PartsNamed texts xs → PartIsNamed texts (built s k h i j xs)
  built_named k h i j xs n w v =
      built_by_named k h i j (layout k xs) (is_sound k (layout k xs) (own_faults s k h i j (layout k xs))) n w (layout_named texts k xs v)
