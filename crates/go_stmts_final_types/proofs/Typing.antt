-- Expressions are sound, with no promise on faults: what has a fault stands for nothing known.
use Rattle.std.proofs.Common.{◌≡◌, ℕ, false, [], ◌∷◌, ◌++◌, Option, Some, None, refl, sym, subst, ◌∙◌, append_assoc, append-nil}
use Rattle.go_tokens.specs.declared.token.TokenKind.TheVariants as token
use Rattle.go_grammar.specs.declared.kind.Category.{Category}
use Rattle.go_grammar.specs.declared.kind.Category.TheVariants as category
use Rattle.go_grammar.specs.declared.kind.Kind.{Kind}
use Rattle.go_grammar.specs.declared.kind.Kind.TheVariants as kind
use Rattle.go_grammar.specs.declared.kind.Operator.{Operator}
use Rattle.go_grammar.specs.declared.kind.Place.{Place}
use Rattle.go_grammar.specs.declared.kind.Place.TheVariants as place
use Rattle.go_grammar.specs.declared.kind.Sign.{Sign}
use Rattle.go_grammar.specs.Categories.{place_of}
use Rattle.go_grammar.specs.Grammar.{any, rule}
use Rattle.go_grammar.specs.Rules.{Rule, End, Then, Maybe, Unless, Many, Lines, item}
use Rattle.go_grammar.specs.Trees.{Tree, node, Trees, none, more, skip, kind_of}
use Rattle.go_types.specs.Trees.{TypeTree}
use Rattle.go_typed.specs.declared.form.Form.TheVariants as form
use Rattle.go_typed.specs.Trees.{sort_of}
use Rattle.go_typed.specs.Trees as sort
use Rattle.go_exprs_rules.specs.Operators.{unary_sort, unary_take, operation_sort, operation_takes}
use Rattle.go_exprs_rules.specs.Scopes.{Scope, Hint}
use Rattle.go_exprs_rules.specs.Settling.{Part, given}
use Rattle.go_exprs_rules.specs.Tables.{Parts, hint, part_scope, sort_by, built, all_given, all_held, on_optional}
use Rattle.go_exprs_rules.specs.TypeNodes.{type_sort, sequence_type, signature_type, part_type}
use Rattle.go_exprs_rules.specs.Typing.{typing, typings}
use Rattle.go_stmts_final_types.specs.Shapes.{IsShaped, AreShaped}
use Rattle.go_stmts_final_types.proofs.Given.{is_valued}
use Rattle.go_stmts_final_types.proofs.Nodes.{Sound, other_sound, placed_sound}
use Rattle.go_stmts_final_types.proofs.Operators.{unary_slot, operation_slots}
use Rattle.go_stmts_final_types.proofs.Operands.{name_sound, integer_sound, rune_sound, text_sound, parenthesized_sound, parenthesized_type_sound, type_node_sound, selector_sound, bracketed_sound}
use Rattle.go_stmts_final_types.proofs.Rows.{IsBracket, bounds, KindFine, Fine, within_fine, RowFine}
use Rattle.go_stmts_final_types.proofs.Arguments.{many_sound}
use Rattle.go_stmts_final_types.proofs.Calls.{call_sound}
use Rattle.go_stmts_final_types.proofs.Composites.{composite_sound, literal_value_sound, keyed_sound}

type_valued : (o : Option TypeTree) → is_valued (type_sort o) ≡ false
type_valued None = refl
type_valued (Some t) = refl

optional_valued : (g : Option Part → Option Part → Option TypeTree) (ys : Parts) → is_valued (on_optional sort.Unknown (λ n e. type_sort (g n e)) ys) ≡ false
optional_valued g [] = refl
optional_valued g (x ∷ []) = refl
optional_valued g (x ∷ y ∷ []) = type_valued (g x y)
optional_valued g (x ∷ y ∷ z ∷ ys) = refl

-- ---- each kind of nodes

module _ (s : Scope) (h : Hint) (i j : ℕ) (p : Place) where
  name_fine : (xs : Parts) → RowFine (rule p kind.Name) xs → Sound (built s kind.Name h i j xs)
  name_fine [] r = name_sound s h i j
  name_fine (x ∷ xs) r = elim r [ ]

  integer_fine : (xs : Parts) → RowFine (rule p kind.Integer) xs → Sound (built s kind.Integer h i j xs)
  integer_fine [] r = integer_sound s h i j
  integer_fine (x ∷ xs) r = elim r [ ]

  rune_fine : (xs : Parts) → RowFine (rule p kind.Rune) xs → Sound (built s kind.Rune h i j xs)
  rune_fine [] r = rune_sound s h i j
  rune_fine (x ∷ xs) r = elim r [ ]

  text_fine : (xs : Parts) → RowFine (rule p kind.Text) xs → Sound (built s kind.Text h i j xs)
  text_fine [] r = text_sound s h i j
  text_fine (x ∷ xs) r = elim r [ ]

  parenthesized_fine : (xs : Parts) → RowFine (rule p kind.Parenthesized) xs → Sound (built s kind.Parenthesized h i j xs)
  parenthesized_fine [] r = elim r [ ]
  parenthesized_fine (None ∷ xs) r = elim r [ ]
  parenthesized_fine (Some x ∷ []) r = parenthesized_sound s h i j x r.0
  parenthesized_fine (Some x ∷ y ∷ ys) r = elim r.1 [ ]

  parenthesized_type_fine : (xs : Parts) → RowFine (rule p kind.ParenthesizedType) xs → Sound (built s kind.ParenthesizedType h i j xs)
  parenthesized_type_fine [] r = elim r [ ]
  parenthesized_type_fine (None ∷ xs) r = elim r [ ]
  parenthesized_type_fine (Some x ∷ []) r = parenthesized_type_sound s h i j x r.0
  parenthesized_type_fine (Some x ∷ y ∷ ys) r = elim r.1 [ ]

  unary_fine : (o : Sign) (xs : Parts) → RowFine (rule p (kind.Unary o)) xs → Sound (built s (kind.Unary o) h i j xs)
  unary_fine o [] r = elim r [ ]
  unary_fine o (None ∷ xs) r = elim r [ ]
  unary_fine o (Some x ∷ []) r = placed_sound s (kind.Unary o) h i j (Some x ∷ []) refl refl refl
      (λ m f. other_sound (form.Unary o) refl i j (unary_sort s.rights o (sort_of x)) _ _ (Some (given (unary_take (sort_of x)) x) ∷ []) (unary_slot s.rights o x r.0.settles, tt))
  unary_fine o (Some x ∷ y ∷ ys) r = elim r.1 [ ]

  binary_fine : (o : Operator) (xs : Parts) → RowFine (rule p (kind.Binary o)) xs → Sound (built s (kind.Binary o) h i j xs)
  binary_fine o [] r = elim r [ ]
  binary_fine o (None ∷ xs) r = elim r [ ]
  binary_fine o (Some x ∷ []) r = elim r.1 [ ]
  binary_fine o (Some x ∷ None ∷ ys) r = elim r.1 [ ]
  binary_fine o (Some x ∷ Some y ∷ []) r = placed_sound s (kind.Binary o) h i j (Some x ∷ Some y ∷ []) refl refl refl
      (λ m f.
      other_sound (form.Binary o) refl i j (operation_sort s.rights o (sort_of x) (sort_of y)) _ _ (all_given (operation_takes s.rights o (sort_of x) (sort_of y)) (Some x ∷ Some y ∷ []))
      (operation_slots s.rights o i j x y r.0.settles r.1.0.settles f))
  binary_fine o (Some x ∷ Some y ∷ z ∷ zs) r = elim r.1.1 [ ]

  selector_fine : (xs : Parts) → RowFine (rule p kind.Selector) xs → Sound (built s kind.Selector h i j xs)
  selector_fine [] r = elim r [ ]
  selector_fine (None ∷ xs) r = elim r [ ]
  selector_fine (Some x ∷ []) r = selector_sound s h i j x r.0
  selector_fine (Some x ∷ y ∷ ys) r = elim r.1 [ ]

  bracketed_fine : (xs : Parts) → RowFine (rule p kind.Bracketed) xs → Sound (built s kind.Bracketed h i j xs)
  bracketed_fine [] r = elim r [ ]
  bracketed_fine (None ∷ xs) r = elim r [ ]
  bracketed_fine (Some x ∷ []) r = elim r.1 [ ]
  bracketed_fine (Some x ∷ None ∷ ys) r = elim r.1 [ ]
  bracketed_fine (Some x ∷ Some y ∷ []) r = bracketed_sound s h i j x y r.0 r.1.0
  bracketed_fine (Some x ∷ Some y ∷ z ∷ zs) r = elim r.1.1 [ ]

  call_fine : (xs : Parts) → RowFine (rule p kind.Call) xs → Sound (built s kind.Call h i j xs)
  call_fine [] r = elim r [ ]
  call_fine (None ∷ xs) r = elim r [ ]
  call_fine (Some f ∷ xs) r =
      let m = many_sound (token.LeftParenthesis ∷ []) (Lines false (any place.Free) token.Comma token.RightParenthesis) (λ x g. g) xs r.1 in
      subst (λ ys. Sound (built s kind.Call h i j (Some f ∷ ys))) (sym m.1) (call_sound s h i j f m.0 r.0 m.2)

  composite_fine : (xs : Parts) → RowFine (rule p kind.Composite) xs → Sound (built s kind.Composite h i j xs)
  composite_fine [] r = elim r [ ]
  composite_fine (None ∷ xs) r = elim r [ ]
  composite_fine (Some t ∷ xs) r =
      let m = many_sound (token.LeftBrace ∷ []) (Lines false category.Element token.Comma token.RightBrace) (λ x g. g) xs r.1 in
      subst (λ ys. Sound (built s kind.Composite h i j (Some t ∷ ys))) (sym m.1) (composite_sound s h i j t m.0 m.2)

  literal_value_fine : (xs : Parts) → RowFine (rule p kind.LiteralValue) xs → Sound (built s kind.LiteralValue h i j xs)
  literal_value_fine xs r =
      let m = many_sound (token.LeftBrace ∷ []) (Lines false category.Element token.Comma token.RightBrace) (λ x g. g) xs r in
      subst (λ ys. Sound (built s kind.LiteralValue h i j ys)) (sym m.1) (literal_value_sound s h i j m.0 m.2)

  keyed_fine : (xs : Parts) → RowFine (rule p kind.Keyed) xs → Sound (built s kind.Keyed h i j xs)
  keyed_fine [] r = elim r [ ]
  keyed_fine (None ∷ xs) r = elim r [ ]
  keyed_fine (Some n ∷ []) r = elim r.1 [ ]
  keyed_fine (Some n ∷ None ∷ xs) r = elim r.1 [ ]
  keyed_fine (Some n ∷ Some v ∷ []) r = keyed_sound s h i j v r.1.0
  keyed_fine (Some n ∷ Some v ∷ z ∷ zs) r = elim r.1.1 [ ]

  bounds_fine : (xs : Parts) → RowFine (rule p kind.Bounds) xs → IsBracket (built s kind.Bounds h i j xs)
  bounds_fine [] r = elim r [ ]
  bounds_fine (None ∷ []) r = bounds None None refl tt tt
  bounds_fine (None ∷ y ∷ ys) r = elim r [ ]
  bounds_fine (Some x ∷ []) r = bounds None (Some x) refl tt r.0
  bounds_fine (Some x ∷ y ∷ ys) r = elim r.1 [ ]

  bounds_from_fine : (xs : Parts) → RowFine (rule p kind.BoundsFrom) xs → IsBracket (built s kind.BoundsFrom h i j xs)
  bounds_from_fine [] r = elim r [ ]
  bounds_from_fine (None ∷ xs) r = elim r [ ]
  bounds_from_fine (Some x ∷ []) r = elim r.1 [ ]
  bounds_from_fine (Some x ∷ None ∷ []) r = bounds (Some x) None refl r.0 tt
  bounds_from_fine (Some x ∷ None ∷ z ∷ zs) r = elim r.1 [ ]
  bounds_from_fine (Some x ∷ Some y ∷ []) r = bounds (Some x) (Some y) refl r.0 r.1.0
  bounds_from_fine (Some x ∷ Some y ∷ z ∷ zs) r = elim r.1.1 [ ]

  sequence_fine : (xs : Parts) → Sound (built s kind.SequenceType h i j xs)
  sequence_fine xs = placed_sound s kind.SequenceType h i j xs refl refl refl
      (λ m f. type_node_sound i j (sort_by s kind.SequenceType h i j xs) _ _ xs (optional_valued (λ n e. sequence_type n (part_type e)) xs))

  struct_fine : (xs : Parts) → Sound (built s kind.StructType h i j xs)
  struct_fine xs = placed_sound s kind.StructType h i j (all_held xs) refl refl refl (λ m f. type_node_sound i j (sort_by s kind.StructType h i j (all_held xs)) _ _ (all_held xs) refl)

  function_fine : (xs : Parts) → RowFine (rule p kind.FunctionType) xs → Sound (built s kind.FunctionType h i j xs)
  function_fine [] r = elim r [ ]
  function_fine (None ∷ xs) r = elim r [ ]
  function_fine (Some x ∷ []) r = placed_sound s kind.FunctionType h i j (Some x ∷ []) refl refl refl (λ m f. type_node_sound i j (sort_of x) _ _ (Some x ∷ []) r.0)
  function_fine (Some x ∷ y ∷ ys) r = elim r.1 [ ]

  signature_fine : (xs : Parts) → is_valued (sort_of (built s kind.Signature h i j xs)) ≡ false
  signature_fine xs = optional_valued signature_type xs

  node_fine : (k : Kind) (xs : Parts) → RowFine (rule p k) xs → KindFine k (built s k h i j xs)
  node_fine kind.Name xs r = name_fine xs r
  node_fine kind.Integer xs r = integer_fine xs r
  node_fine kind.Rune xs r = rune_fine xs r
  node_fine kind.Text xs r = text_fine xs r
  node_fine kind.Parenthesized xs r = parenthesized_fine xs r
  node_fine kind.ParenthesizedType xs r = parenthesized_type_fine xs r
  node_fine (kind.Unary o) xs r = unary_fine o xs r
  node_fine (kind.Binary o) xs r = binary_fine o xs r
  node_fine kind.Selector xs r = selector_fine xs r
  node_fine kind.Bracketed xs r = bracketed_fine xs r
  node_fine kind.Call xs r = call_fine xs r
  node_fine kind.Composite xs r = composite_fine xs r
  node_fine kind.LiteralValue xs r = literal_value_fine xs r
  node_fine kind.Keyed xs r = keyed_fine xs r
  node_fine kind.SequenceType xs r = sequence_fine xs
  node_fine kind.FunctionType xs r = function_fine xs r
  node_fine kind.StructType xs r = struct_fine xs
  node_fine kind.Bounds xs r = bounds_fine xs r
  node_fine kind.BoundsFrom xs r = bounds_from_fine xs r
  node_fine kind.Signature xs r = signature_fine xs
  node_fine k xs r = tt

-- ---- whole trees

-- the parts of a node that are typed behind those in front
abbrev pub behind : Scope → Kind → Hint → Trees → Parts → Trees → Parts
behind s k h all xs none = []
behind s k h all xs (more p ps) =
    Some (typing (part_scope s k xs) (hint s k h all xs (kind_of p)) p) ∷ behind s k h all (xs ++ Some (typing (part_scope s k xs) (hint s k h all xs (kind_of p)) p) ∷ []) ps
behind s k h all xs (skip ps) = None ∷ behind s k h all (xs ++ None ∷ []) ps

pub typings_are : (s : Scope) (k : Kind) (h : Hint) (all : Trees) (xs : Parts) (ps : Trees) → typings s k h all xs ps ≡ xs ++ behind s k h all xs ps
typings_are s k h all xs none = sym (append-nil xs)
typings_are s k h all xs (more p ps) =
    let x = Some (typing (part_scope s k xs) (hint s k h all xs (kind_of p)) p) in typings_are s k h all (xs ++ x ∷ []) ps ∙ append_assoc xs (x ∷ []) (behind s k h all (xs ++ x ∷ []) ps)
typings_are s k h all xs (skip ps) = typings_are s k h all (xs ++ None ∷ []) ps ∙ append_assoc xs (None ∷ []) (behind s k h all (xs ++ None ∷ []) ps)

mutual
  pub typing_fine : (s : Scope) (h : Hint) (c : Category) (t : Tree) → IsShaped c t → Fine c (typing s h t)
  typing_fine s h c (node k i j ps) w =
      let xs = typings s k h ps [] ps in
      within_fine c k (built s k h i j xs) w.0 (node_fine s h i j (place_of c) k xs (subst (RowFine (rule (place_of c) k)) (sym (typings_are s k h ps [] ps)) (row_fine s k h ps [] ps (rule (place_of c) k) w.1)))

  row_fine : (s : Scope) (k : Kind) (h : Hint) (all : Trees) (xs : Parts) (ps : Trees) (r : Rule) → AreShaped r ps → RowFine r (behind s k h all xs ps)
  row_fine s k h all xs none (End ws) w = tt
  row_fine s k h all xs none (Then ws c r) w = elim w [ ]
  row_fine s k h all xs none (Maybe ws c r) w = elim w [ ]
  row_fine s k h all xs none (Unless ws c us r) w = elim w [ ]
  row_fine s k h all xs none (Many ws l) w = tt
  row_fine s k h all xs (more p ps) (End ws) w = elim w [ ]
  row_fine s k h all xs (more p ps) (Then ws c r) w =
      (typing_fine (part_scope s k xs) (hint s k h all xs (kind_of p)) c p w.0, row_fine s k h all (xs ++ Some (typing (part_scope s k xs) (hint s k h all xs (kind_of p)) p) ∷ []) ps r w.1)
  row_fine s k h all xs (more p ps) (Maybe ws c r) w =
      (typing_fine (part_scope s k xs) (hint s k h all xs (kind_of p)) c p w.0, row_fine s k h all (xs ++ Some (typing (part_scope s k xs) (hint s k h all xs (kind_of p)) p) ∷ []) ps r w.1)
  row_fine s k h all xs (more p ps) (Unless ws c us r) w =
      (typing_fine (part_scope s k xs) (hint s k h all xs (kind_of p)) c p w.0, row_fine s k h all (xs ++ Some (typing (part_scope s k xs) (hint s k h all xs (kind_of p)) p) ∷ []) ps r w.1)
  row_fine s k h all xs (more p ps) (Many ws l) w =
      (typing_fine (part_scope s k xs) (hint s k h all xs (kind_of p)) (item l) p w.0, row_fine s k h all (xs ++ Some (typing (part_scope s k xs) (hint s k h all xs (kind_of p)) p) ∷ []) ps (Many ws l) w.1)
  row_fine s k h all xs (skip ps) (End ws) w = elim w [ ]
  row_fine s k h all xs (skip ps) (Then ws c r) w = elim w [ ]
  row_fine s k h all xs (skip ps) (Maybe ws c r) w = row_fine s k h all (xs ++ None ∷ []) ps r w
  row_fine s k h all xs (skip ps) (Unless ws c us r) w = row_fine s k h all (xs ++ None ∷ []) ps r w
  row_fine s k h all xs (skip ps) (Many ws l) w = elim w [ ]
