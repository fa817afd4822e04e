-- Composite literals: from the literal that fits to its elements, and the step.
use Rattle.std.proofs.Common.{◌≡◌, ◌∙◌, inr, ℕ, Bool, true, false, List, [], ◌∷◌, ◌++◌, Option, Some, None, refl, sym, ap, subst, IsTrue}
use Rattle.std.specs.Prelude.{◌||◌, not, if◌then◌else◌}
use Rattle.std.specs.List.{list_any}
use Rattle.go_grammar.specs.declared.kind.Category.TheVariants as category
use Rattle.go_grammar.specs.declared.kind.Kind.{Kind}
use Rattle.go_grammar.specs.declared.kind.Kind.TheVariants as kind
use Rattle.go_grammar.specs.declared.kind.Place.{Place}
use Rattle.go_grammar.specs.Categories.{within}
use Rattle.go_grammar.specs.Grammar.{rule}
use Rattle.go_grammar.specs.Rules.{Lines, Many}
use Rattle.go_grammar.specs.Trees.{Tree, node, Trees, none, more, skip, kind_of}
use Rattle.go_tokens.specs.declared.token.TokenKind.{TokenKind}
use Rattle.go_types.specs.Trees.{TypeTree, array, slice, structure}
use Rattle.go_types.specs.Relations.{Rights}
use Rattle.go_types_relations.specs.Tests.{underlying_of}
use Rattle.go_typed.specs.declared.form.Form.{Form}
use Rattle.go_typed.specs.declared.form.Form.TheVariants as form
use Rattle.go_typed.specs.Trees.{Sort, Label, typed, Typeds, sort_of, form_of, label_of, parts_of, row, first_of, last_of}
use Rattle.go_typed.specs.Trees as sort
use Rattle.go_exprs_rules.specs.Literals.{is_keyed, literal_failing, literal_takes, literal_sort}
use Rattle.go_exprs_rules.specs.Scopes.{Scope, Hint, type_place, free}
use Rattle.go_exprs_rules.specs.Settling.{Part, Take, stay}
use Rattle.go_exprs_rules.specs.Sorts.{Stands, is_constant, is_open, is_unknown, named_type}
use Rattle.go_exprs_rules.specs.Tables.{Parts, hint, part_scope, layout, leaf, cut, is_type, is_held, literal_type, element_told, element_in, told_type, composite_told, key_form, found, built, built_by, built_on, own_faults}
use Rattle.go_exprs_rules.specs.Tables.{failing, sort_by, takes, form_by, all_given, present, is_judged, is_lost, is_sound, label, made}
use Rattle.go_exprs_rules.specs.Tables as tables
use Rattle.go_exprs_rules.specs.TypeNodes.{part_type}
use Rattle.go_exprs_rules.specs.Typing.{typing, typings}
use Rattle.clone_window.specs.Masses as masses
use Rattle.go_exprs_variables.specs.Shapes.{IsShaped, AreShaped}
use Rattle.go_exprs_variables.specs.Stood.{Stood, as_before}
use Rattle.go_exprs_variables.specs.Variables as variables
use Rattle.go_exprs_variables.specs.Variables.{Standins, ends_at, expresses, is_naming, Proper, AllProper, begun, put, Fits, AllFit, WillFit}
use Rattle.go_exprs_variables.proofs.Agreeing.{is_keyed_kind, form_unkeyed, leaf_agrees}
use Rattle.go_exprs_variables.proofs.Assembly as assembly
use Rattle.go_exprs_variables.proofs.Assembly.{Become, left_out, one}
use Rattle.go_exprs_variables.proofs.Away.{Away, put_nothing, begun_nothing}
use Rattle.go_exprs_variables.proofs.BuiltinArguments.{leaf_sort}
use Rattle.go_exprs_variables.proofs.Constants.{literal_type_operand}
use Rattle.go_exprs_variables.proofs.Induction.{news, told, Follows, PartsFollow}
use Rattle.go_exprs_variables.proofs.Keys.{operand_unheld, value_operand, key_is}
use Rattle.go_exprs_variables.proofs.LiteralElements.{Element, an_operand, with_key, FineElement, elements_argued, unkeyed}
use Rattle.go_exprs_variables.proofs.Lists.{each, present_each, All, all_known, all_new, news_each, all_become, pass_known}
use Rattle.go_exprs_variables.proofs.Named.{is_named, is_operand, operand_kind}
use Rattle.go_exprs_variables.proofs.NodeSteps.{node_step, parts_fit, rule_of, stands_made}
use Rattle.go_exprs_variables.proofs.Quiet.{rights_kept}
use Rattle.go_exprs_variables.proofs.Ready.{Facts, top_ends, ends_tree, operand_facts, operand_follows, named_follows, still_follows}
use Rattle.go_exprs_variables.proofs.Standing.{part_of, behind, typings_are, still_free}
use Rattle.go_exprs_variables.proofs.Trees.{is_key}
use Rattle.go_exprs_variables.proofs.Waits.{judged, known_first}

-- ---- what elements are told

element_naming : (rights : Rights) (o : Option TypeTree) → is_naming (element_told rights o) ≡ false
element_naming rights None = refl
element_naming rights (Some t) = by_form (underlying_of rights t)
  where
    by_form : (u : Option TypeTree) → is_naming (element_in t u) ≡ false
    by_form (Some (array n e)) = refl
    by_form (Some (slice e)) = refl
    by_form (Some (structure ns ts)) = refl
    by_form u = refl

composite_naming : (rights : Rights) (xs : Parts) → is_naming (composite_told rights xs) ≡ false
composite_naming rights [] = refl
composite_naming rights (t ∷ xs) = element_naming rights (part_type t)

-- ---- elements of trees

never_true : IsTrue false → ⊥
never_true e = cc

element_kind : (k : Kind) → is_keyed_kind k ≡ false → IsTrue (within category.Element k) → is_operand k ≡ true
element_kind kind.LiteralValue n e = refl
element_kind (kind.Binary o) n e = operand_kind (kind.Binary o) e
element_kind kind.Name n e = refl
element_kind kind.Integer n e = refl
element_kind kind.Rune n e = refl
element_kind kind.Text n e = refl
element_kind kind.Parenthesized n e = refl
element_kind (kind.Unary o) n e = refl
element_kind kind.Selector n e = refl
element_kind kind.Bracketed n e = refl
element_kind kind.Call n e = refl
element_kind kind.Composite n e = refl
element_kind kind.SequenceType n e = refl
element_kind kind.FunctionType n e = refl
element_kind kind.StructType n e = refl
element_kind kind.Keyed n e = cc
element_kind k n e = cc

module _ (w : Standins) where
  node_unkeyed : (s : Scope) (g : Hint) (k : Kind) (a b : ℕ) (ps : Trees) → is_keyed_kind k ≡ false → is_key (form_of (typing s g (node k a b ps))) ≡ false
  node_unkeyed s g k a b ps e = let ys = layout k (typings s k g ps [] ps) in by_sound ys (is_sound k ys (own_faults s k g a b ys))
    where
      by_sound : (ys : Parts) (c : Bool) → is_key (form_of (built_by s k g a b ys c)) ≡ false
      by_sound ys true = form_unkeyed s k g a b ys e
      by_sound ys false = form_unkeyed s k g a b ys e

  element_facts : (s : Scope) (g : Hint) (q : Tree) → IsShaped category.Element q → Proper w q → Element w s.rights (typing s g q)
  element_facts s g (node kind.Keyed a b none) e pr = elim e.1 [ ]
  element_facts s g (node kind.Keyed a b (skip qs)) e pr = elim e.1 [ ]
  element_facts s g (node kind.Keyed a b (more n none)) e pr = elim e.1.1 [ ]
  element_facts s g (node kind.Keyed a b (more n (skip qs))) e pr = elim e.1.1 [ ]
  element_facts s g (node kind.Keyed a b (more n (more v (more q qs)))) e pr = elim e.1.1.1 [ ]
  element_facts s g (node kind.Keyed a b (more n (more v (skip qs)))) e pr = elim e.1.1.1 [ ]
  element_facts s g (node kind.Keyed a b (more n (more v none))) e pr =
      let m = key_is s.rights g (s.texts a) in
      let x = typing s g v in
      with_key m.0 a b x (ap (λ f. made f a b (sort_of x) (Some x ∷ []) (Some x ∷ [])) m.1)
      (operand_unheld w s g category.Value v e.1.1.0 (value_operand v e.1.1.0)) (operand_facts w s g category.Value v e.1.1.0 (value_operand v e.1.1.0) pr.2.1.0)
  element_facts s g (node k a b ps) e pr = an_operand (node_unkeyed s g k a b ps refl) (operand_facts w s g category.Element (node k a b ps) e (element_kind k refl e.0) pr)

  -- an element that fits follows
  element_follows : (s : Scope) (g : Hint) (q : Tree) → IsShaped category.Element q → is_naming g ≡ false → Proper w q → FineElement w s.rights (typing s g q) → Follows w s g q
  element_follows s g (node kind.Keyed a b none) e naming pr fine = elim e.1 [ ]
  element_follows s g (node kind.Keyed a b (skip qs)) e naming pr fine = elim e.1 [ ]
  element_follows s g (node kind.Keyed a b (more n none)) e naming pr fine = elim e.1.1 [ ]
  element_follows s g (node kind.Keyed a b (more n (skip qs))) e naming pr fine = elim e.1.1 [ ]
  element_follows s g (node kind.Keyed a b (more n (more v (more q qs)))) e naming pr fine = elim e.1.1.1 [ ]
  element_follows s g (node kind.Keyed a b (more n (more v (skip qs)))) e naming pr fine = elim e.1.1.1 [ ]
  element_follows s g (node kind.Keyed a b (more n (more v none))) e naming pr fine =
      let m = key_is s.rights g (s.texts a) in
      let x = typing s g v in
      let keyed : is_keyed (typing s g (node kind.Keyed a b (more n (more v none)))) ≡ true = ap (λ f. is_keyed (made f a b (sort_of x) (Some x ∷ []) (Some x ∷ []))) m.1 in
      let one = fine.value keyed x refl in (
        (category.Element, e),
        inr (inr (refl, (still_follows w s free category.Name n e.1.0 (still_free w s free n pr.1), (operand_follows w s g category.Value v e.1.1.0 (value_operand v e.1.1.0) naming pr.2.1.0 one.0 one.1, tt)))),
      )
  element_follows s g (node k a b ps) e naming pr fine =
      let one = fine.plain (unkeyed (typing s g (node k a b ps)) (node_unkeyed s g k a b ps refl)) in operand_follows w s g category.Element (node k a b ps) e (element_kind k refl e.0) naming pr one.0 one.1

  module _ (s : Scope) (k : Kind) (h : Hint) where
    many_elements : (all : Trees) (xs : Parts) (ps : Trees) (ws : List TokenKind) (b : Bool) (u v : TokenKind) → AreShaped (Many ws (Lines b category.Element u v)) ps → AllProper w ps
        → (vs : List Part) × (behind s k h all xs ps ≡ each vs) × All (Element w s.rights) vs
    many_elements all xs none ws b u v e p = ([], refl, tt)
    many_elements all xs (skip ps) ws b u v e p = elim e [ ]
    many_elements all xs (more q ps) ws b u v e p =
        let x = part_of s k h all xs q in
        let rest = many_elements all (xs ++ Some x ∷ []) ps ws b u v e.1 p.1 in
        (x ∷ rest.0, ap (λ ys. Some x ∷ ys) rest.1, (subst (λ r. Element w r x) (rights_kept s k xs) (element_facts (part_scope s k xs) (hint s k h all xs (kind_of q)) q e.0 p.0), rest.2))

    elements_follow : (all : Trees) (xs : Parts) (ps : Trees) (vs : List Part) (ws : List TokenKind) (b : Bool) (u v : TokenKind) → ((ys : Parts) (n : Kind) → is_naming (hint s k h all ys n) ≡ false)
        → AreShaped (Many ws (Lines b category.Element u v)) ps → AllProper w ps
        → behind s k h all xs ps ≡ each vs → All (FineElement w s.rights) vs → PartsFollow w s k h all xs ps
    elements_follow all xs none vs ws b u v naming e p is fine = tt
    elements_follow all xs (skip ps) vs ws b u v naming e p is fine = elim e [ ]
    elements_follow all xs (more q ps) [] ws b u v naming e p is fine = cc
    elements_follow all xs (more q ps) (y ∷ vs) ws b u v naming e p is fine =
        let x = part_of s k h all xs q in
        let first : x ≡ y = cc in
        let later : behind s k h all (xs ++ Some x ∷ []) ps ≡ each vs = cc in
        let at : FineElement w (part_scope s k xs).rights x = subst (λ r. FineElement w r x) (sym (rights_kept s k xs)) (subst (FineElement w s.rights) (sym first) fine.0) in
        (element_follows (part_scope s k xs) (told w s k h all xs q) q e.0 (naming xs (kind_of q)) p.0 at, elements_follow all (xs ++ Some x ∷ []) ps vs ws b u v naming e.1 p.1 later fine.1)

-- ---- the literal as it is laid out: its type, or none, and its elements

module _ (w : Standins) (s : Scope) (h : Hint) (i j : ℕ) where
  abbrev new : Part → Part
  new x = begun w false x

  -- literals with a type of their own and without one have the same tables
  pub record IsLiteral (k : Kind) : Type 0 where
    pub expressed : expresses k ≡ true
    pub failed : (d : Option Part) (xs : Parts) → failing s k h i j (d ∷ xs) ≡ literal_failing s.rights i j (literal_type h d) (present xs)
    pub stands : (d : Option Part) (xs : Parts) → sort_by s k h i j (d ∷ xs) ≡ literal_sort (literal_type h d)
    pub given : (d : Option Part) (xs : Parts) → takes s k h (d ∷ xs) ≡ stay ∷ literal_takes s.rights (literal_type h d) (present xs)
    pub formed : (d : Option Part) (xs : Parts) → form_by s k h i j (d ∷ xs) ≡ form.Composite

  typed_literal : IsLiteral kind.Composite
  typed_literal = record { expressed = refl; failed = λ d xs. refl; stands = λ d xs. refl; given = λ d xs. refl; formed = λ d xs. refl }

  untyped_literal : IsLiteral kind.LiteralValue
  untyped_literal = record { expressed = refl; failed = λ d xs. refl; stands = λ d xs. refl; given = λ d xs. refl; formed = λ d xs. refl }

  -- the type is there, or isn't, and stays as it is
  pub data Head : Option Part → Type 0 where
    no_head : Head None
    a_head : (y : Part) → is_unknown (sort_of y) ≡ false → put w false y ≡ y → Head (Some y)

  module _ (k : Kind) (table : IsLiteral k) (d : Option Part) (head : Head d) where
    abbrev laid : List Part → Parts
    laid xs = d ∷ each xs

    head_known : (xs : Parts) → is_judged (d ∷ xs) ≡ true → is_judged xs ≡ true
    head_known xs e = by_head d head xs e
      where
        by_head : (d : Option Part) → Head d → (xs : Parts) → is_judged (d ∷ xs) ≡ true → is_judged xs ≡ true
        by_head None no_head xs e = e
        by_head (Some y) (a_head y' m n) xs e = (known_first y xs e).1

    known_head : (xs : Parts) → list_any is_lost xs ≡ false → is_judged (d ∷ xs) ≡ true
    known_head xs e = by_head d head
      where
        by_head : (d : Option Part) → Head d → is_judged (d ∷ xs) ≡ true
        by_head None no_head = ap not e
        by_head (Some y) (a_head y' m n) = ap (λ b. not (b || list_any is_lost xs)) m ∙ ap not e

    head_becomes : (ys zs us vs : Parts) → Become s.rights w false None ys zs us vs → Become s.rights w false None (d ∷ ys) (d ∷ zs) (d ∷ us) (d ∷ vs)
    head_becomes ys zs us vs b = by_head d head
      where
        by_head : (d : Option Part) → Head d → Become s.rights w false None (d ∷ ys) (d ∷ zs) (d ∷ us) (d ∷ vs)
        by_head None no_head = left_out ys zs us vs b
        by_head (Some y) (a_head y' m n) = one y y y y ys zs us vs (sym n) refl refl b

    given_head : (ks : List Take) (xs : Parts) → all_given (stay ∷ ks) (d ∷ xs) ≡ d ∷ all_given ks xs
    given_head ks xs = by_head d
      where
        by_head : (d : Option Part) → all_given (stay ∷ ks) (d ∷ xs) ≡ d ∷ all_given ks xs
        by_head None = refl
        by_head (Some y) = refl

    abbrev own : Option TypeTree
    own = literal_type h d

    abbrev AtLiteral : List Part → Type 0
    AtLiteral xs = (own_faults s k h i j (laid xs) ≡ []) × WillFit s.rights w false (built_on s k h i j (laid xs))

    behind_fit : (d : Option Part) (zs : Parts) → AllFit w false (row (d ∷ zs)) → AllFit w false (row zs)
    behind_fit None zs f = f
    behind_fit (Some y) zs f = f.1

    sort_closed : (t : TypeTree) → own ≡ Some t → (xs : Parts) → sort_by s k h i j (d ∷ xs) ≡ sort.Value t
    sort_closed t e xs = table.stands d xs ∙ ap literal_sort e

    pub record LiteralArgued (xs : List Part) : Type 0 where
      pub fine : All (FineElement w s.rights) xs
      pub step : (own_faults s k h i j (laid (all_new w xs)) ≡ []) × (built_on s k h i j (laid (all_new w xs)) ≡ begun w false (built_on s k h i j (laid xs)))

    takes_are : (t : TypeTree) → own ≡ Some t → (xs : List Part) → all_given (takes s k h (laid xs)) (laid xs) ≡ d ∷ all_given (literal_takes s.rights (Some t) xs) (each xs)
    takes_are t e xs =
        ap (λ ks. all_given ks (laid xs)) (table.given d (each xs) ∙ ap (λ o. stay ∷ literal_takes s.rights o (present (each xs))) e ∙ ap (λ ys. stay ∷ literal_takes s.rights (Some t) ys) (present_each xs))
        ∙ given_head (literal_takes s.rights (Some t) xs) (each xs)

    argued_by : (xs : List Part) (t : TypeTree) → own ≡ Some t → All (Element w s.rights) xs → is_judged (laid xs) ≡ true → failing s k h i j (laid xs) ≡ [] → AtLiteral xs → LiteralArgued xs
    argued_by xs t e es js rule at =
        let news = all_new w xs in
        let ks = literal_takes s.rights (Some t) xs in
        let is = stands_made s k h i j (laid xs) js at.0 in
        let sort_old = sort_closed t e (each xs) in
        let sort_new = sort_closed t e (each news) in
        let plain : is_constant (sort_by s k h i j (laid xs)) ≡ false = ap is_constant sort_old in
        let closed : is_open (sort_by s k h i j (laid xs)) ≡ false = ap is_open sort_old in
        let f = form_by s k h i j (laid xs) in
        let all = parts_fit s.rights w false f i j (label f (sort_by s k h i j (laid xs)) (laid xs)) (row (all_given (takes s k h (laid xs)) (laid xs))) plain closed (subst (WillFit s.rights w false) is at.1) in
        let fits = behind_fit d (all_given ks (each xs)) (subst (λ zs. AllFit w false (row zs)) (takes_are t e xs) all) in
        let fails : literal_failing s.rights i j (Some t) xs ≡ [] = sym (table.failed d (each xs) ∙ ap (λ o. literal_failing s.rights i j o (present (each xs))) e ∙ ap (literal_failing s.rights i j (Some t)) (present_each xs)) ∙ rule in
        let a = elements_argued w s.rights i j (underlying_of s.rights t) xs es (all_known xs (head_known (each xs) js)) fails fits in
        let judged_now = known_head (each news) (pass_known w s.rights ks xs a.pass) in
        let same : sort_by s k h i j (laid news) ≡ sort_by s k h i j (laid xs) = sort_new ∙ sym sort_old in
        let after : all_given (takes s k h (laid news)) (laid news) ≡ d ∷ all_given ks (each news) = takes_are t e news ∙ ap (λ q. d ∷ all_given q (each news)) a.takes in
        let parts = head_becomes (each xs) (all_given ks (each xs)) (each news) (all_given ks (each news)) (all_become w s.rights ks xs a.pass) in
        let form_old = table.formed d (each xs) in
        let form_new = table.formed d (each news) in
        record {
          fine = a.fine;
          step = node_step s k h i j w false None (laid xs) (laid news) js judged_now (ap (assembly.is_some_row s.rights w false) after) at.0 plain
              (record { form = form_new ∙ sym form_old; key = ap is_key form_old; held = ap is_held form_old; name = λ z. ap (λ g. tables.is_variable_name g z) form_old })
              (record {
                failing = table.failed d (each news) ∙ ap (λ o. literal_failing s.rights i j o (present (each news))) e ∙ ap (literal_failing s.rights i j (Some t)) (present_each news) ∙ a.failing;
                stands = subst (Stood s.rights None (sort_by s k h i j (laid xs))) (sym same) (as_before None (sort_by s k h i j (laid xs)));
                wants = None;
                wanted = sym (ap (λ b. if b then variables.all_wanted w false (row (all_given (takes s k h (laid xs)) (laid xs))) else None) closed);
                sort = same;
                parts = subst (λ q. Become s.rights w false None (laid xs) q (laid news) (all_given (takes s k h (laid news)) (laid news))) (sym (takes_are t e xs))
                    (subst (λ q. Become s.rights w false None (laid xs) (d ∷ all_given ks (each xs)) (laid news) q) (sym after) parts);
              });
        }

    argued_type : (xs : List Part) (o : Option TypeTree) → own ≡ o → All (Element w s.rights) xs → is_judged (laid xs) ≡ true → failing s k h i j (laid xs) ≡ [] → AtLiteral xs → LiteralArgued xs
    argued_type xs (Some t) e es js rule at = argued_by xs t e es js rule at
    argued_type xs None e es js rule at =
        let fails : literal_failing s.rights i j None (present (each xs)) ≡ [] = sym (table.failed d (each xs) ∙ ap (λ o. literal_failing s.rights i j o (present (each xs))) e) ∙ rule in cc

    -- From the literal that fits to its elements, and the step.
    pub literal_argued : (xs : List Part) → All (Element w s.rights) xs → AtLiteral xs → LiteralArgued xs
    literal_argued xs es at =
        let js = judged w s h i j k (laid xs) table.expressed at.1 in argued_type xs own refl es js (rule_of s k h i j (laid xs) js at.0) at

  -- ---- literals of trees

  abbrev pub Step : Kind → Parts → Type 0
  Step k xs = (found s k h i j (news w xs) ≡ []) × (built s k h i j (news w xs) ≡ begun w false (built s k h i j xs))

  abbrev Both : Kind → Trees → Type 0
  Both k ps = PartsFollow w s k h ps [] ps × Step k (typings s k h ps [] ps)

  -- without a type
  pub value_both : (p : Place) (ps : Trees) → AreShaped (rule p kind.LiteralValue) ps → AllProper w ps → found s kind.LiteralValue h i j (typings s kind.LiteralValue h ps [] ps) ≡ []
      → WillFit s.rights w false (built s kind.LiteralValue h i j (typings s kind.LiteralValue h ps [] ps)) → Both kind.LiteralValue ps
  value_both p ps e pr f fits =
      let k = kind.LiteralValue in
      let vs = many_elements w s k h ps [] ps _ _ _ _ e pr in
      let is : typings s k h ps [] ps ≡ each vs.0 = typings_are s k h ps [] ps ∙ vs.1 in
      let a = literal_argued k untyped_literal None no_head vs.0 vs.2 (sym (ap (found s k h i j) is) ∙ f, subst (λ ys. WillFit s.rights w false (built s k h i j ys)) is fits) in
      let step : Step k (each vs.0) = (ap (λ ys. found s k h i j ys) (news_each w vs.0) ∙ a.step.0, ap (λ ys. built s k h i j ys) (news_each w vs.0) ∙ a.step.1) in
      (elements_follow w s k h ps [] ps vs.0 _ _ _ _ (λ ys n. element_naming s.rights (told_type h)) e pr vs.1 a.fine, subst (Step k) (sym is) step)

  leaf_away : (x : Part) → Away w false (leaf x)
  leaf_away (typed f a b l ps) = (refl, tt)

  abbrev Ends : Part → Type 0
  Ends x = ends_at (w (first_of x)) (last_of x) ≡ false

  leaf_ends : (x : Part) (t : TypeTree) → sort_of x ≡ sort.IsType t → Fits w false (leaf x) → Ends x
  leaf_ends (typed f a b l ps) t is fits = top_ends w form.Type a b l sort.none (ap masses.is_constant is) fits

  type_of : (z : Stands) → is_type z ≡ true → (t : TypeTree) × (z ≡ sort.IsType t)
  type_of (sort.IsType t) e = (t, refl)
  type_of z e = cc

  no_type : (z : Stands) → is_type z ≡ false → named_type z ≡ None
  no_type (sort.IsType t) e = cc
  no_type z e = refl

  laid_out : (y : Part) (xs : Parts) (b : Bool) → is_type (sort_of y) ≡ b → layout kind.Composite (Some y ∷ xs) ≡ (if b then Some (leaf y) else Some y) ∷ xs
  laid_out y xs b e = ap (λ c. (if c then Some (leaf y) else Some y) ∷ xs) e

  pub record TypedLiteral (y : Part) (vs : List Part) : Type 0 where
    pub named : is_named (sort_of y) ≡ true
    pub ends : Ends y
    pub fine : All (FineElement w s.rights) vs
    pub step : Step kind.Composite (Some y ∷ each vs)

  abbrev AtTyped : Part → List Part → Type 0
  AtTyped y vs = (found s kind.Composite h i j (Some y ∷ each vs) ≡ []) × WillFit s.rights w false (built s kind.Composite h i j (Some y ∷ each vs))

  first_fits : (f : Form) (l : Label TypeTree) (y : Part) (qs : Typeds TypeTree) → is_constant l.sort ≡ false → is_open l.sort ≡ false → WillFit s.rights w false (typed f i j l (sort.more y qs)) → Fits w false y
  first_fits f l y qs plain closed fits = (parts_fit s.rights w false f i j l (sort.more y qs) plain closed fits).0

  typed_by : (y : Part) (vs : List Part) (b : Bool) → is_type (sort_of y) ≡ b → Facts w s.rights y → All (Element w s.rights) vs → AtTyped y vs → TypedLiteral y vs
  typed_by y vs false e facts es at =
      let l = laid_out y (each vs) false e in
      let fits = subst (λ ys. WillFit s.rights w false (built_on s kind.Composite h i j ys)) l at.1 in
      let old = sym (ap (own_faults s kind.Composite h i j) l) ∙ at.0 in
      let js = judged w s h i j kind.Composite (Some y ∷ each vs) refl fits in
      let rule : literal_failing s.rights i j None (present (each vs)) ≡ [] = sym (ap (λ o. literal_failing s.rights i j o (present (each vs))) (no_type (sort_of y) e)) ∙ rule_of s kind.Composite h i j (Some y ∷ each vs) js old in
      cc
  typed_by y vs true e facts es at =
      let made = type_of (sort_of y) e in
      let x = leaf y in
      let x_is : sort_of x ≡ sort.IsType made.0 = leaf_sort w s.rights y ∙ made.1 in
      let l = laid_out y (each vs) true e in
      let fits = subst (λ ys. WillFit s.rights w false (built_on s kind.Composite h i j ys)) l at.1 in
      let old = sym (ap (own_faults s kind.Composite h i j) l) ∙ at.0 in
      let js = judged w s h i j kind.Composite (Some x ∷ each vs) refl fits in
      let is = stands_made s kind.Composite h i j (Some x ∷ each vs) js old in
      let sort_is : literal_sort (named_type (sort_of x)) ≡ sort.Value made.0 = ap (λ z. literal_sort (named_type z)) x_is in
      let top =
      first_fits form.Composite (label form.Composite (literal_sort (named_type (sort_of x))) (Some x ∷ each vs)) x
      (row (all_given (literal_takes s.rights (named_type (sort_of x)) (present (each vs))) (each vs))) (ap is_constant sort_is) (ap is_open sort_is)
      (subst (WillFit s.rights w false) is fits) in
      let ends = leaf_ends y made.0 made.1 top in
      let named : is_named (sort_of y) ≡ true = ap is_named made.1 in
      let stays : new y ≡ y = begun_nothing w false y facts.agrees (facts.still named ends) in
      let a = literal_argued kind.Composite typed_literal (Some x) (a_head x (ap is_unknown x_is) (put_nothing w false x (leaf_agrees y) (leaf_away y))) vs es (old, fits) in
      let relaid : layout kind.Composite (news w (Some y ∷ each vs)) ≡ Some x ∷ each (all_new w vs) = ap (λ z. layout kind.Composite (Some z ∷ news w (each vs))) stays ∙ laid_out y (news w (each vs)) true e
      ∙ ap (λ ys. Some x ∷ ys) (news_each w vs) in
      record {
        named = named;
        ends = ends;
        fine = a.fine;
        step = (ap (own_faults s kind.Composite h i j) relaid ∙ a.step.0, ap (built_on s kind.Composite h i j) relaid ∙ a.step.1 ∙ ap (λ ys. begun w false (built_on s kind.Composite h i j ys)) (sym l));
      }

  -- with a type
  pub composite_both : (p : Place) (ps : Trees) → AreShaped (rule p kind.Composite) ps → AllProper w ps → found s kind.Composite h i j (typings s kind.Composite h ps [] ps) ≡ []
      → WillFit s.rights w false (built s kind.Composite h i j (typings s kind.Composite h ps [] ps)) → Both kind.Composite ps
  composite_both p none e pr f fits = elim e [ ]
  composite_both p (skip qs) e pr f fits = elim e [ ]
  composite_both p (more a qs) e pr f fits =
      let k = kind.Composite in
      let all = more a qs in
      let c = category.LiteralType p in
      let op = literal_type_operand p a e.0 in
      let y = typing s type_place a in
      let vs = many_elements w s k h all (Some y ∷ []) qs _ _ _ _ e.1 pr.1 in
      let is : typings s k h all [] all ≡ Some y ∷ each vs.0 = typings_are s k h all [] all ∙ ap (λ ys. Some y ∷ ys) vs.1 in
      let t = typed_by y vs.0 (is_type (sort_of y)) refl (operand_facts w s type_place c a e.0 op pr.0) vs.2 (sym (ap (found s k h i j) is) ∙ f, subst (λ ys. WillFit s.rights w false (built s k h i j ys)) is fits) in
      let still = named_follows w s type_place c a e.0 op pr.0 (ends_tree w s type_place a t.ends) t.named in
      ((still_follows w s type_place c a e.0 still, elements_follow w s k h all (Some y ∷ []) qs vs.0 _ _ _ _ (λ ys n. composite_naming s.rights ys) e.1 pr.1 vs.1 t.fine), subst (Step k) (sym is) t.step)
