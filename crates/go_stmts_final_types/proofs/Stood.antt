-- What nodes of expressions stand for, over parts that are known, where no rule fails.
use Rattle.std.proofs.Common.{◌≡◌, ℕ, ◌-◌, Bool, true, false, cond, [], ◌∷◌, ◌++◌, List, Option, Some, None, pos, negsuc, refl, sym, subst}
use Rattle.std.specs.Prelude.{◌&&◌, ◌||◌, is_some}
use Rattle.std.specs.Option.{option_map}
use Rattle.go_base.specs.declared.fault.FaultCode.TheVariants as code
use Rattle.go_constants.specs.declared.values.Const.TheVariants as const
use Rattle.go_grammar.specs.declared.kind.Category.TheVariants as category
use Rattle.go_grammar.specs.declared.kind.Kind.{Kind}
use Rattle.go_grammar.specs.declared.kind.Kind.TheVariants as kind
use Rattle.go_grammar.specs.declared.kind.Operator.{Operator}
use Rattle.go_grammar.specs.declared.kind.Place.{Place}
use Rattle.go_grammar.specs.declared.kind.Place.TheVariants as place
use Rattle.go_grammar.specs.declared.kind.Sign.{Sign}
use Rattle.go_grammar.specs.Categories as categories
use Rattle.go_grammar.specs.Grammar.{any, rule, is_name}
use Rattle.go_grammar.specs.Rules.{Many, Lines}
use Rattle.go_grammar.specs.Trees.{Trees, none, more, skip, kind_of}
use Rattle.go_tokens.specs.declared.token.TokenKind.{TokenKind}
use Rattle.go_tokens.specs.declared.token.TokenKind.TheVariants as token
use Rattle.go_types.specs.Trees.{TypeTree, slice}
use Rattle.go_types.specs.Relations.{Rights}
use Rattle.go_types_relations.specs.Tests.{underlying_of}
use Rattle.go_typed.specs.Trees.{typed, sort_of}
use Rattle.go_typed.specs.Trees as sort
use Rattle.go_exprs_rules.specs.declared.family.Family.TheVariants as family
use Rattle.go_exprs_rules.specs.declared.fault.TypeFault.{TypeFault}
use Rattle.go_exprs_rules.specs.Indexes.{value_or_unknown, named_field, selector_failing, selector_sort, bound_failing, text_length, index_failing_in, index_failing, index_sort, whole_or_absent, slice_failing, slice_sort}
use Rattle.go_exprs_rules.specs.Literals.{literal_failing, literal_sort}
use Rattle.go_exprs_rules.specs.Names.{name_sort}
use Rattle.go_exprs_rules.specs.Scopes.{Scope, Hint, value, type_place, loose, callee, declares, free}
use Rattle.go_exprs_rules.specs.Settling.{Part, at_part}
use Rattle.go_exprs_rules.specs.Sorts.{Stands, is_unknown, family_of_const, family_of_type, constant_of, is_constant, is_whole, is_text, is_negative, value_type, form_of_value, element_of, slice_element, byte}
use Rattle.go_exprs_rules.specs.Tables.{Parts, as_type_place, in_length, layout, is_package, is_make, is_type, is_placed, leaf, cut, first_cut, present, bounds_of, call_told, argument_told, literal_type, failing, sort_by}
use Rattle.go_exprs_rules.specs.TypeNodes.{part_type, type_sort, length_in, length_failing, array_of, sequence_type, signature_type, function_of, all_types, entry_types, result_types, parts_in}
use Rattle.go_exprs_rules.specs.Typing.{typing, typings}
use Rattle.go_stmts_final_types.specs.Names.{Standing, alone, called, selected, is_fit, KeepsFamily, NameIsKnown, NodeIsKnown, selected_in}
use Rattle.go_stmts_final_types.specs.Shapes.{AreShaped}
use Rattle.go_stmts_final_types.proofs.Called.{AllKeep, call_stood}
use Rattle.go_stmts_final_types.proofs.Facts.{Fits, Facts, reads, fit_known, alone_fits, inside_fits, inside_reads, type_asked, type_named, type_known, typed_known, typed_keeps}
use Rattle.go_stmts_final_types.proofs.Families.{one_family}
use Rattle.go_stmts_final_types.proofs.Known.{AllKnown, known_sort}
use Rattle.go_stmts_final_types.proofs.Nodes.{and_first}
use Rattle.go_stmts_final_types.proofs.Operands.{lone}
use Rattle.go_stmts_final_types.proofs.Results.{Stood, operation_stood, unary_stood, counted}
use Rattle.go_stmts_final_types.proofs.Rows.{IsBracket, index, bounds}
use Rattle.go_stmts_final_types.proofs.Tests.{holds, holds_at, never_at}
use Rattle.go_stmts_final_types.proofs.Typing.{typing_fine, behind, typings_are}

pub stood_fits : (r : Standing) (rights : Rights) (x : Stands) → Stood rights x → Fits r rights x
stood_fits r rights x h = record { fit = alone_fits r x h.fit; family = h.family }

given_stood : (rights : Rights) (o : Option TypeTree) → is_some o ≡ true → Stood rights (value_or_unknown o)
given_stood rights (Some t) e = record { fit = refl; family = tt }
given_stood rights None e = cc

-- ---- selectors

selector_stood : (rights : Rights) (i j : ℕ) (name : List ℕ) (x : Stands) → is_package x ≡ false → selector_failing rights i j name x ≡ [] → Stood rights (selector_sort rights name x)
selector_stood rights i j name sort.Package p e = cc
selector_stood rights i j name x p e = given_stood rights (named_field (form_of_value rights x) name) (holds (is_some (named_field (form_of_value rights x) name)) [] _ e).0

package_called : (r : Standing) (b : Bool) (x : Stands) → is_package x ≡ true → is_fit (cond b (selected_in r) alone) x ≡ true → r ≡ called
package_called called true sort.Package p e = refl
package_called alone true sort.Package p e = cc
package_called selected true sort.Package p e = cc
package_called r false sort.Package p e = cc
package_called r b x p e = cc

called_fits : (r : Standing) (rights : Rights) → r ≡ called → Fits r rights sort.Println
called_fits r rights e = subst (λ q. Fits q rights sort.Println) (sym e) (record { fit = refl; family = tt })

-- ---- indexes and slices

index_stood : (rights : Rights) (i j : ℕ) (x : Stands) (n : Part) → index_failing rights i j x n ≡ [] → Stood rights (index_sort rights x)
index_stood rights i j x n e = by (is_text rights x) (holds (is_whole rights (sort_of n)) _ _ e).1
  where
    by : (b : Bool) → cond b (bound_failing rights (text_length (constant_of x)) n) (index_failing_in rights i j (form_of_value rights x) n) ≡ [] → Stood rights (cond b (sort.Value byte) (value_or_unknown (element_of (form_of_value rights x))))
    by true e = record { fit = refl; family = tt }
    by false e = given_stood rights (element_of (form_of_value rights x)) (holds (is_some (element_of (form_of_value rights x))) _ _ e).0

sliced_type : (rights : Rights) (x : Stands) → (is_text rights x || is_some (slice_element (form_of_value rights x))) ≡ true → is_some (value_type x) ≡ true
sliced_type rights (sort.Value t) e = refl
sliced_type rights (sort.Constant t c) e = refl
sliced_type rights (sort.Open u) e = refl
sliced_type rights (sort.OpenConstant c) e = refl
sliced_type rights x e = cc

slice_stood : (rights : Rights) (i j : ℕ) (x : Stands) (low high : Option Part) → slice_failing rights i j x low high ≡ [] → Stood rights (slice_sort x)
slice_stood rights i j x low high e =
    let first = is_text rights x || is_some (slice_element (form_of_value rights x)) in
    let t = (holds (first && whole_or_absent rights low && whole_or_absent rights high) _ _ e).0 in
    given_stood rights (value_type x) (sliced_type rights x (and_first first (whole_or_absent rights low) (and_first (first && whole_or_absent rights low) (whole_or_absent rights high) t)))

-- ---- literals

literal_stood : (rights : Rights) (i j : ℕ) (o : Option TypeTree) (xs : List Part) → literal_failing rights i j o xs ≡ [] → Stood rights (literal_sort o)
literal_stood rights i j (Some t) xs e = record { fit = refl; family = tt }
literal_stood rights i j None xs e = cc

-- ---- types

length_known : (rights : Rights) (a : Stands) → KeepsFamily rights a → (is_constant a && is_whole rights a) ≡ true → is_negative (constant_of a) ≡ false → is_some (length_in (constant_of a)) ≡ true
length_known rights (sort.Constant t c) k e n =
    let h = counted c (one_family (family_of_const c) family.Integers (family_of_type (underlying_of rights t)) k e) n in subst (λ z. is_some (length_in (Some z)) ≡ true) (sym h.2) refl
length_known rights (sort.OpenConstant (const.Int (pos n) r)) k e m = refl
length_known rights (sort.OpenConstant (const.Int (negsuc n) r)) k e m = cc
length_known rights (sort.OpenConstant (const.Bool b)) k e m = cc
length_known rights (sort.OpenConstant (const.Text s)) k e m = cc
length_known rights a k e n = cc

type_sort_is : (o : Option TypeTree) → is_some o ≡ true → is_type (type_sort o) ≡ true
type_sort_is (Some t) e = refl
type_sort_is None e = cc

slice_some : (o : Option TypeTree) → is_some o ≡ true → is_some (option_map slice o) ≡ true
slice_some (Some t) e = refl
slice_some None e = cc

array_some : (n : Option ℕ) (o : Option TypeTree) → is_some n ≡ true → is_some o ≡ true → is_some (array_of n o) ≡ true
array_some (Some n) (Some t) e f = refl
array_some (Some n) None e f = cc
array_some None o e f = cc

function_some : (ps rs : Option (List TypeTree)) → is_some ps ≡ true → is_some rs ≡ true → is_some (function_of ps rs) ≡ true
function_some (Some ps) (Some rs) e f = refl
function_some (Some ps) None e f = cc
function_some None rs e f = cc

array_typed : (rights : Rights) (limits : Bool) (i j : ℕ) (n : Part) (t : Option TypeTree) → KeepsFamily rights (sort_of n) → is_some t ≡ true → length_failing rights limits i j n t ≡ [] → is_some (sequence_type (Some n) t) ≡ true
array_typed rights limits i j n t k s e =
    let test = is_constant (sort_of n) && is_whole rights (sort_of n) in
    let h = holds_at test _ code.Operands n e in
    array_some (length_in (constant_of (sort_of n))) t (length_known rights (sort_of n) k h.0 (positive (is_negative (constant_of (sort_of n))) _ h.1)) s
  where
    positive : (b : Bool) (fs : List TypeFault) → cond b (at_part code.ConstIndex n) fs ≡ [] → b ≡ false
    positive true fs e = never_at code.ConstIndex n e
    positive false fs e = refl

-- ---- arguments

abbrev pub PartsKeep : Rights → Parts → Type 0
PartsKeep rights [] = Unit {0}
PartsKeep rights (None ∷ xs) = PartsKeep rights xs
PartsKeep rights (Some x ∷ xs) = KeepsFamily rights (sort_of x) × PartsKeep rights xs

keep_present : (rights : Rights) (xs : Parts) → PartsKeep rights xs → AllKeep rights (present xs)
keep_present rights [] h = tt
keep_present rights (None ∷ xs) h = keep_present rights xs h
keep_present rights (Some x ∷ xs) h = (h.0, keep_present rights xs h.1)

keep_leaf : (rights : Rights) (x : Part) → KeepsFamily rights (sort_of x) → KeepsFamily rights (sort_of (leaf x))
keep_leaf rights (typed f i j l ps) h = h

keep_cut : (rights : Rights) (b : Bool) (x : Part) (xs : Parts) → KeepsFamily rights (sort_of x) → PartsKeep rights xs → PartsKeep rights (cond b (Some (leaf x)) (Some x) ∷ xs)
keep_cut rights true x xs h g = (keep_leaf rights x h, g)
keep_cut rights false x xs h g = (h, g)

keep_first_cut : (rights : Rights) (xs : Parts) → PartsKeep rights xs → PartsKeep rights (first_cut xs)
keep_first_cut rights [] h = tt
keep_first_cut rights (None ∷ xs) h = h
keep_first_cut rights (Some x ∷ xs) h = keep_cut rights (is_type (sort_of x)) x xs h.0 h.1

argument_reads : (xs : Parts) → reads (argument_told xs) ≡ true
argument_reads [] = refl
argument_reads (None ∷ xs) = refl
argument_reads (Some f ∷ []) = by (is_make (sort_of f))
  where
    by : (b : Bool) → reads (cond b type_place value) ≡ true
    by true = refl
    by false = refl
argument_reads (Some f ∷ x ∷ xs) = refl

call_reads : (xs : Parts) → reads (call_told xs) ≡ true
call_reads [] = refl
call_reads (x ∷ xs) = argument_reads (x ∷ xs)

pub typed_fits : (r : Standing) (rights : Rights) (x : Stands) → is_type x ≡ true → Fits r rights x
typed_fits r rights x e = record { fit = alone_fits r x (typed_known x e); family = typed_keeps rights x e }

-- ---- each kind of nodes

module _ (r : Standing) (s : Scope) (h : Hint) (i j : ℕ) (p : Place) where
  -- what a node of the kind over these parts stands for
  abbrev pub sort_over : Kind → Trees → Stands
  sort_over k ps = sort_by s k h i j (layout k (typings s k h ps [] ps))

  abbrev pub Over : Kind → Trees → Type 0
  Over k ps = Facts r s k h ps [] ps (rule p k)

  abbrev pub Passes : Kind → Trees → Type 0
  Passes k ps = failing s k h i j (layout k (typings s k h ps [] ps)) ≡ []

  parenthesized_fits : (ps : Trees) → AreShaped (rule p kind.Parenthesized) ps → Over kind.Parenthesized ps → Fits r s.rights (sort_over kind.Parenthesized ps)
  parenthesized_fits none w f = elim w [ ]
  parenthesized_fits (skip ps) w f = elim w [ ]
  parenthesized_fits (more q none) w f = let c = f.0 (inside_reads h) in record { fit = inside_fits r _ c.fits.fit; family = c.fits.family }
  parenthesized_fits (more q (more o ps)) w f = elim w.1 [ ]
  parenthesized_fits (more q (skip ps)) w f = elim w.1 [ ]

  parenthesized_type_fits : (ps : Trees) → AreShaped (rule p kind.ParenthesizedType) ps → Over kind.ParenthesizedType ps → Fits r s.rights (sort_over kind.ParenthesizedType ps)
  parenthesized_type_fits none w f = elim w [ ]
  parenthesized_type_fits (skip ps) w f = elim w [ ]
  parenthesized_type_fits (more q none) w f = let c = f.0.0 (inside_reads h) in record { fit = alone_fits r _ c.fits.fit; family = c.fits.family }
  parenthesized_type_fits (more q (more o ps)) w f = elim w.1 [ ]
  parenthesized_type_fits (more q (skip ps)) w f = elim w.1 [ ]

  unary_fits : (o : Sign) (ps : Trees) → AreShaped (rule p (kind.Unary o)) ps → Over (kind.Unary o) ps → Passes (kind.Unary o) ps → Fits r s.rights (sort_over (kind.Unary o) ps)
  unary_fits o none w f e = elim w [ ]
  unary_fits o (skip ps) w f e = elim w [ ]
  unary_fits o (more q none) w f e = stood_fits r s.rights _ (unary_stood s.rights o i j (sort_of (typing s value q)) (f.0 refl).fits.family e)
  unary_fits o (more q (more t ps)) w f e = elim w.1 [ ]
  unary_fits o (more q (skip ps)) w f e = elim w.1 [ ]

  binary_fits : (o : Operator) (ps : Trees) → AreShaped (rule p (kind.Binary o)) ps → Over (kind.Binary o) ps → Passes (kind.Binary o) ps → Fits r s.rights (sort_over (kind.Binary o) ps)
  binary_fits o none w f e = elim w [ ]
  binary_fits o (skip ps) w f e = elim w [ ]
  binary_fits o (more q none) w f e = elim w.1 [ ]
  binary_fits o (more q (skip ps)) w f e = elim w.1 [ ]
  binary_fits o (more q (more t none)) w f e = stood_fits r s.rights _ (operation_stood s.rights o i j (typing s value q) (typing s value t) (f.0 refl).fits.family (f.1.0 refl).fits.family e)
  binary_fits o (more q (more t (more u ps))) w f e = elim w.1.1 [ ]
  binary_fits o (more q (more t (skip ps))) w f e = elim w.1.1 [ ]

  selector_by : (b : Bool) (x : Part) → is_fit (cond b (selected_in r) alone) (sort_of x) ≡ true → (d : Bool) → is_package (sort_of x) ≡ d → failing s kind.Selector h i j (cond d [] (Some x ∷ [])) ≡ [] → Fits r s.rights (sort_by s kind.Selector h i j (cond d [] (Some x ∷ [])))
  selector_by b x g true m e = called_fits r s.rights (package_called r b (sort_of x) m g)
  selector_by b x g false m e = stood_fits r s.rights _ (selector_stood s.rights i j (s.texts (j - 1)) (sort_of x) m e)

  selector_fits : (ps : Trees) → AreShaped (rule p kind.Selector) ps → Over kind.Selector ps → Passes kind.Selector ps → Fits r s.rights (sort_over kind.Selector ps)
  selector_fits none w f e = elim w [ ]
  selector_fits (skip ps) w f e = elim w [ ]
  selector_fits (more q none) w f e = let x = typing s value q in selector_by (is_name (kind_of q)) x (f.0 refl).fits.fit (is_package (sort_of x)) refl e
  selector_fits (more q (more o ps)) w f e = elim w.1 [ ]
  selector_fits (more q (skip ps)) w f e = elim w.1 [ ]

  slice_by : (x : Part) (low high : Option Part) → failing s kind.Bracketed h i j (Some x ∷ low ∷ high ∷ []) ≡ [] → Fits r s.rights (sort_by s kind.Bracketed h i j (Some x ∷ low ∷ high ∷ []))
  slice_by x (Some a) (Some b) e = stood_fits r s.rights _ (slice_stood s.rights i j (sort_of x) (Some a) (Some b) e)
  slice_by x (Some a) None e = stood_fits r s.rights _ (slice_stood s.rights i j (sort_of x) (Some a) None e)
  slice_by x None (Some b) e = stood_fits r s.rights _ (slice_stood s.rights i j (sort_of x) None (Some b) e)
  slice_by x None None e = stood_fits r s.rights _ (slice_stood s.rights i j (sort_of x) None None e)

  bracket_by : (x y : Part) → IsBracket y → failing s kind.Bracketed h i j (Some x ∷ bounds_of (Some y)) ≡ [] → Fits r s.rights (sort_by s kind.Bracketed h i j (Some x ∷ bounds_of (Some y)))
  bracket_by x y (index k) e =
      let same = lone y k.plain in
      subst (λ ys. Fits r s.rights (sort_by s kind.Bracketed h i j (Some x ∷ ys))) (sym same) (stood_fits r s.rights _ (index_stood s.rights i j (sort_of x) y (subst (λ ys. failing s kind.Bracketed h i j (Some x ∷ ys) ≡ []) same e)))
  bracket_by x y (bounds low high m l k) e = subst (λ ys. Fits r s.rights (sort_by s kind.Bracketed h i j (Some x ∷ ys))) (sym m) (slice_by x low high (subst (λ ys. failing s kind.Bracketed h i j (Some x ∷ ys) ≡ []) m e))

  bracketed_fits : (ps : Trees) → AreShaped (rule p kind.Bracketed) ps → Over kind.Bracketed ps → Passes kind.Bracketed ps → Fits r s.rights (sort_over kind.Bracketed ps)
  bracketed_fits none w f e = elim w [ ]
  bracketed_fits (skip ps) w f e = elim w [ ]
  bracketed_fits (more q none) w f e = elim w.1 [ ]
  bracketed_fits (more q (skip ps)) w f e = elim w.1 [ ]
  bracketed_fits (more q (more t none)) w f e = bracket_by (typing s value q) (typing s value t) (typing_fine s value category.Bracket t w.1.0) e
  bracketed_fits (more q (more t (more u ps))) w f e = elim w.1.1 [ ]
  bracketed_fits (more q (more t (skip ps))) w f e = elim w.1.1 [ ]

  -- arguments keep their families
  arguments_keep : (all : Trees) (ws : List TokenKind) (a : TokenKind) (b : TokenKind) (pre : Parts) (ps : Trees) → Facts r s kind.Call h all pre ps (Many ws (Lines false (any place.Free) a b)) → PartsKeep s.rights (behind s kind.Call h all pre ps)
  arguments_keep all ws a b pre none f = tt
  arguments_keep all ws a b pre (more q ps) f = ((f.0 (call_reads pre)).fits.family, arguments_keep all ws a b (pre ++ Some (typing s (call_told pre) q) ∷ []) ps f.1)
  arguments_keep all ws a b pre (skip ps) f = arguments_keep all ws a b (pre ++ None ∷ []) ps f

  callee_by : (c : Bool) (x : Part) (ws : Parts) → PartsKeep s.rights ws → failing s kind.Call h i j (cond c (Some (leaf x)) (Some x) ∷ ws) ≡ [] → Fits r s.rights (sort_by s kind.Call h i j (cond c (Some (leaf x)) (Some x) ∷ ws))
  callee_by true x ws k e = stood_fits r s.rights _ (call_stood s.rights i j (sort_of (leaf x)) (present ws) (keep_present s.rights ws k) e)
  callee_by false x ws k e = stood_fits r s.rights _ (call_stood s.rights i j (sort_of x) (present ws) (keep_present s.rights ws k) e)

  call_by : (b : Bool) (x : Part) (ws : Parts) → PartsKeep s.rights ws → failing s kind.Call h i j (cond b (Some x ∷ first_cut ws) (cut (Some x) ∷ ws)) ≡ [] → Fits r s.rights (sort_by s kind.Call h i j (cond b (Some x ∷ first_cut ws) (cut (Some x) ∷ ws)))
  call_by true x ws k e = stood_fits r s.rights _ (call_stood s.rights i j (sort_of x) (present (first_cut ws)) (keep_present s.rights (first_cut ws) (keep_first_cut s.rights ws k)) e)
  call_by false x ws k e = callee_by (is_type (sort_of x)) x ws k e

  call_fits : (ps : Trees) → AreShaped (rule p kind.Call) ps → Over kind.Call ps → Passes kind.Call ps → Fits r s.rights (sort_over kind.Call ps)
  call_fits none w f e = elim w [ ]
  call_fits (skip ps) w f e = elim w [ ]
  call_fits (more q ps) w f e =
      let x = typing s callee q in
      let same = typings_are s kind.Call h (more q ps) (Some x ∷ []) ps in
      let k = arguments_keep (more q ps) (token.LeftParenthesis ∷ []) token.Comma token.RightParenthesis (Some x ∷ []) ps f.1 in
      subst (λ xs. Fits r s.rights (sort_by s kind.Call h i j (layout kind.Call xs))) (sym same)
      (call_by (is_make (sort_of x)) x (behind s kind.Call h (more q ps) (Some x ∷ []) ps) k (subst (λ xs. failing s kind.Call h i j (layout kind.Call xs) ≡ []) same e))

  composite_fits : (ps : Trees) → AreShaped (rule p kind.Composite) ps → Passes kind.Composite ps → Fits r s.rights (sort_over kind.Composite ps)
  composite_fits none w e = elim w [ ]
  composite_fits (skip ps) w e = elim w [ ]
  composite_fits (more q ps) w e =
      let x = typing s type_place q in
      let same = typings_are s kind.Composite h (more q ps) (Some x ∷ []) ps in
      let ws = behind s kind.Composite h (more q ps) (Some x ∷ []) ps in
      subst (λ xs. Fits r s.rights (sort_by s kind.Composite h i j (layout kind.Composite xs))) (sym same)
      (stood_fits r s.rights _ (literal_stood s.rights i j (literal_type h (cut (Some x))) (present ws) (subst (λ xs. failing s kind.Composite h i j (layout kind.Composite xs) ≡ []) same e)))

  literal_value_fits : (ps : Trees) → Passes kind.LiteralValue ps → Fits r s.rights (sort_over kind.LiteralValue ps)
  literal_value_fits ps e = stood_fits r s.rights _ (literal_stood s.rights i j (literal_type h None) (present (typings s kind.LiteralValue h ps [] ps)) e)

  -- ---- types

  sequence_typed : (ps : Trees) → AreShaped (rule p kind.SequenceType) ps → Over kind.SequenceType ps → Passes kind.SequenceType ps → is_type (sort_over kind.SequenceType ps) ≡ true
  sequence_typed none w f e = elim w [ ]
  sequence_typed (skip none) w f e = elim w [ ]
  sequence_typed (skip (skip ps)) w f e = elim w [ ]
  sequence_typed (skip (more t none)) w f e = let x = typing s loose t in type_sort_is (option_map slice (part_type (Some x))) (slice_some (part_type (Some x)) (type_named (sort_of x) (f.0.1 refl)))
  sequence_typed (skip (more t (more u ps))) w f e = elim w.1 [ ]
  sequence_typed (skip (more t (skip ps))) w f e = elim w.1 [ ]
  sequence_typed (more q none) w f e = elim w.1 [ ]
  sequence_typed (more q (skip ps)) w f e = elim w.1 [ ]
  sequence_typed (more q (more t none)) w f e =
      let n = typing (in_length s []) value q in
      let x = typing s (as_type_place h) t in
      type_sort_is (sequence_type (Some n) (part_type (Some x))) (array_typed s.rights s.limits i j n (part_type (Some x)) (f.0 refl).fits.family (type_named (sort_of x) (f.1.0.1 (type_asked h))) e)
  sequence_typed (more q (more t (more u ps))) w f e = elim w.1.1 [ ]
  sequence_typed (more q (more t (skip ps))) w f e = elim w.1.1 [ ]

  function_typed : (ps : Trees) → AreShaped (rule p kind.FunctionType) ps → Over kind.FunctionType ps → is_type (sort_over kind.FunctionType ps) ≡ true
  function_typed none w f = elim w [ ]
  function_typed (skip ps) w f = elim w [ ]
  function_typed (more q none) w f = f.0
  function_typed (more q (more o ps)) w f = elim w.1 [ ]
  function_typed (more q (skip ps)) w f = elim w.1 [ ]

  pub signature_typed : (ps : Trees) → AreShaped (rule p kind.Signature) ps → Over kind.Signature ps → is_type (sort_over kind.Signature ps) ≡ true
  signature_typed none w f = elim w [ ]
  signature_typed (skip ps) w f = elim w [ ]
  signature_typed (more q none) w f = elim w.1 [ ]
  signature_typed (more q (skip none)) w f =
      let x = typing s (as_type_place h) q in
      type_sort_is (signature_type (Some x) None) (function_some (all_types (entry_types (parts_in (Some x)))) (all_types (result_types None)) (f.0 (type_asked h)) refl)
  signature_typed (more q (skip (more o ps))) w f = elim w.1 [ ]
  signature_typed (more q (skip (skip ps))) w f = elim w.1 [ ]
  signature_typed (more q (more t none)) w f =
      let x = typing s (as_type_place h) q in
      let y = typing s (as_type_place h) t in
      type_sort_is (signature_type (Some x) (Some y)) (function_some (all_types (entry_types (parts_in (Some x)))) (all_types (result_types (Some y))) (f.0 (type_asked h)) (f.1.0 (type_asked h)))
  signature_typed (more q (more t (more o ps))) w f = elim w.1.1 [ ]
  signature_typed (more q (more t (skip ps))) w f = elim w.1.1 [ ]

  -- ---- all kinds

  name_read : reads h ≡ true → NameIsKnown r s h i → Fits r s.rights (name_sort s h i)
  name_read e n = by h e n
    where
      by : (g : Hint) → reads g ≡ true → NameIsKnown r s g i → Fits r s.rights (name_sort s g i)
      by declares e n = cc
      by free e n = cc
      by g e n = record { fit = n.fit; family = n.family }

  name_known : NameIsKnown r s h i → is_unknown (name_sort s h i) ≡ false
  name_known n = by h n
    where
      by : (g : Hint) → NameIsKnown r s g i → is_unknown (name_sort s g i) ≡ false
      by declares n = refl
      by free n = refl
      by g n = fit_known r (name_sort s g i) n.fit

  pub node_fits : (k : Kind) (ps : Trees) → AreShaped (rule p k) ps → NodeIsKnown k r s h i → Over k ps → Passes k ps → is_placed k ≡ true → (is_name k ≡ true → reads h ≡ true) → Fits r s.rights (sort_over k ps)
  node_fits kind.Name ps w n f e m g = name_read (g refl) n
  node_fits kind.Integer ps w n f e m g = record { fit = refl; family = tt }
  node_fits kind.Rune ps w n f e m g = record { fit = refl; family = tt }
  node_fits kind.Text ps w n f e m g = record { fit = refl; family = tt }
  node_fits kind.Parenthesized ps w n f e m g = parenthesized_fits ps w f
  node_fits kind.ParenthesizedType ps w n f e m g = parenthesized_type_fits ps w f
  node_fits (kind.Unary o) ps w n f e m g = unary_fits o ps w f e
  node_fits (kind.Binary o) ps w n f e m g = binary_fits o ps w f e
  node_fits kind.Selector ps w n f e m g = selector_fits ps w f e
  node_fits kind.Bracketed ps w n f e m g = bracketed_fits ps w f e
  node_fits kind.Call ps w n f e m g = call_fits ps w f e
  node_fits kind.Composite ps w n f e m g = composite_fits ps w e
  node_fits kind.LiteralValue ps w n f e m g = literal_value_fits ps e
  node_fits kind.SequenceType ps w n f e m g = typed_fits r s.rights _ (sequence_typed ps w f e)
  node_fits kind.FunctionType ps w n f e m g = typed_fits r s.rights _ (function_typed ps w f)
  node_fits kind.StructType ps w n f e m g = record { fit = alone_fits r (sort_over kind.StructType ps) refl; family = tt }
  node_fits k ps w n f e m g = cc

  keyed_known : (ps : Trees) → AreShaped (rule p kind.Keyed) ps → AllKnown (typings s kind.Keyed h ps [] ps) → is_unknown (sort_over kind.Keyed ps) ≡ false
  keyed_known none w a = elim w [ ]
  keyed_known (skip ps) w a = elim w [ ]
  keyed_known (more q none) w a = elim w.1 [ ]
  keyed_known (more q (skip ps)) w a = elim w.1 [ ]
  keyed_known (more q (more t none)) w a = known_sort (typing s h t) a.1.0
  keyed_known (more q (more t (more o ps))) w a = elim w.1.1 [ ]
  keyed_known (more q (more t (skip ps))) w a = elim w.1.1 [ ]

  -- a node that is no name, of any kind
  fits_known : (x : Stands) → Fits r s.rights x → is_unknown x ≡ false
  fits_known x g = fit_known r x g.fit

  pub node_known : (k : Kind) (ps : Trees) → AreShaped (rule p k) ps → NodeIsKnown k r s h i → Over k ps → Passes k ps → AllKnown (typings s k h ps [] ps) → is_unknown (sort_over k ps) ≡ false
  node_known kind.Name ps w n f e a = name_known n
  node_known kind.Integer ps w n f e a = refl
  node_known kind.Rune ps w n f e a = refl
  node_known kind.Text ps w n f e a = refl
  node_known kind.Parenthesized ps w n f e a = fits_known _ (parenthesized_fits ps w f)
  node_known kind.ParenthesizedType ps w n f e a = fits_known _ (parenthesized_type_fits ps w f)
  node_known (kind.Unary o) ps w n f e a = fits_known _ (unary_fits o ps w f e)
  node_known (kind.Binary o) ps w n f e a = fits_known _ (binary_fits o ps w f e)
  node_known kind.Selector ps w n f e a = fits_known _ (selector_fits ps w f e)
  node_known kind.Bracketed ps w n f e a = fits_known _ (bracketed_fits ps w f e)
  node_known kind.Call ps w n f e a = fits_known _ (call_fits ps w f e)
  node_known kind.Composite ps w n f e a = fits_known _ (composite_fits ps w e)
  node_known kind.LiteralValue ps w n f e a = fits_known _ (literal_value_fits ps e)
  node_known kind.Keyed ps w n f e a = keyed_known ps w a
  node_known kind.SequenceType ps w n f e a = type_known (sort_over kind.SequenceType ps) (sequence_typed ps w f e)
  node_known kind.FunctionType ps w n f e a = type_known (sort_over kind.FunctionType ps) (function_typed ps w f)
  node_known kind.StructType ps w n f e a = refl
  node_known kind.Signature ps w n f e a = type_known (sort_over kind.Signature ps) (signature_typed ps w f)
  node_known k ps w n f e a = refl
