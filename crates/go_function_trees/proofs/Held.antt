-- Parts of statements that hold no statements, and how parts are laid out.
use Rattle.std.proofs.Common.{◌≡◌, ℕ, suc, Bool, true, false, if◌then◌else◌, [], ◌∷◌, ◌++◌, map, Option, Some, None, refl}
use Rattle.go_grammar.specs.declared.kind.Kind.{Kind}
use Rattle.go_grammar.specs.declared.kind.Kind.TheVariants as kind
use Rattle.go_grammar.specs.declared.kind.Sort.TheVariants as declaring
use Rattle.go_grammar.specs.Trees.{Tree, node, Trees, kind_of, first, last}
use Rattle.go_grammar.specs.Trees as syntax
use Rattle.go_types.specs.Trees.{TypeTree}
use Rattle.go_typed.specs.declared.form.Form.{Form}
use Rattle.go_typed.specs.declared.form.Form.TheVariants as form
use Rattle.go_typed.specs.Forms.{is_statement_list}
use Rattle.go_typed.specs.Trees.{typed, Typeds, row, list_of, first_of, last_of, form_of, parts_of}
use Rattle.go_typed.specs.Trees as sort
use Rattle.go_exprs_rules.specs.Scopes.{Hint}
use Rattle.go_exprs_rules.specs.Settling.{Part}
use Rattle.go_exprs_rules.specs.Sorts.{takes_type}
use Rattle.go_exprs_rules.specs.Tables.{Parts, is_held, held, all_held, behind_first, first_cut}
use Rattle.go_exprs_rules.specs.Typing.{typing}
use Rattle.go_stmts_defs.specs.Frames.{Frame, Locals, scope_of, declared_type}
use Rattle.go_stmts_defs.specs.Laying.{told, layout, first_loop_form, loop_form, new_or_known, new_form, with_form, new_name, is_values, typed_or_not, specification_parts, names_count, specified_names, all_names, is_group, specifications}
use Rattle.go_stmts_defs.specs.Laying.{header_parts, if_parts, switch_parts, loop_header, for_parts, without_absent}
use Rattle.go_stmts_defs.specs.Reading.{is_list, is_declared_name, is_statement, list_node, name_node, holding, holdings}
use Rattle.go_function_trees.proofs.Listed.{OfList, Lists, PartLists, EachLists, ListHas, either, both, plain, row-lists, list-lists, behind-lists, one-more, inner-lists, held-lists, all-held-lists, first-cut-lists, behind-first-lists, take-lists}
use Rattle.go_function_trees.proofs.Expressions.{declared-plain, typing-first, typing-last, typing-lists}

pub holding-first : (s : Frame) (h : Hint) (t : Tree) → first_of (holding s h t) ≡ first t
holding-first s h (node k i j ps) =
    either (λ (x : Part). first_of x ≡ i) (is_list k) (list_node s k i j (layout s k i (holdings s k h ps [] ps))) (if is_declared_name k then name_node s i j else typing (scope_of s) h (node k i j ps)) (λ e. refl)
    (λ e. either (λ (x : Part). first_of x ≡ i) (is_declared_name k) (name_node s i j) (typing (scope_of s) h (node k i j ps)) (λ u. refl) (λ u. typing-first (scope_of s) h (node k i j ps)))

pub holding-last : (s : Frame) (h : Hint) (t : Tree) → last_of (holding s h t) ≡ last t
holding-last s h (node k i j ps) =
    either (λ (x : Part). last_of x ≡ j) (is_list k) (list_node s k i j (layout s k i (holdings s k h ps [] ps))) (if is_declared_name k then name_node s i j else typing (scope_of s) h (node k i j ps)) (λ e. refl)
    (λ e. either (λ (x : Part). last_of x ≡ j) (is_declared_name k) (name_node s i j) (typing (scope_of s) h (node k i j ps)) (λ u. refl) (λ u. typing-last (scope_of s) h (node k i j ps)))

known-plain : (ls : Locals) (n : ℕ) (t : Option TypeTree) → is_statement_list (new_or_known n t) ≡ false
known-plain ls n (Some t) = refl
known-plain ls n None = refl

loop-plain : (x : Option Part) → is_statement_list (loop_form x) ≡ false
loop-plain (Some (typed (form.Held kind.Range) i j l ps)) = refl
loop-plain (Some (typed (form.Held kind.AssigningRange) i j l ps)) = refl
loop-plain (Some (typed (form.Held kind.DefiningRange) i j l ps)) = refl
loop-plain x = refl

pub first-loop-plain : (xs : Parts) → is_statement_list (first_loop_form xs) ≡ false
first-loop-plain [] = refl
first-loop-plain (x ∷ xs) = loop-plain x

loop-unheld : (x : Option Part) → is_held (loop_form x) ≡ false
loop-unheld (Some (typed (form.Held kind.Range) i j l ps)) = refl
loop-unheld (Some (typed (form.Held kind.AssigningRange) i j l ps)) = refl
loop-unheld (Some (typed (form.Held kind.DefiningRange) i j l ps)) = refl
loop-unheld x = refl

pub first-loop-unheld : (xs : Parts) → is_held (first_loop_form xs) ≡ false
first-loop-unheld [] = refl
first-loop-unheld (x ∷ xs) = loop-unheld x

module _ (P : OfList) where
  -- ---- parts without statements

  new-form-has : (ls : Locals) (f : Form) (b : Bool) (i j : ℕ) (ps : Typeds TypeTree) → ListHas P (is_statement_list f) b f i j ps → ListHas P (is_statement_list (new_form ls f)) b (new_form ls f) i j ps
  new-form-has ls (form.Declared m) b i j ps h = plain P (new_or_known m (declared_type ls m)) b i j ps (known-plain ls m (declared_type ls m))
  new-form-has ls f b i j ps h = h

  renamed-lists : (ls : Locals) (x : Part) → Lists P x → Lists P (with_form (new_form ls) x)
  renamed-lists ls (typed f i j l ps) h = (new-form-has ls f (takes_type l.sort) i j ps h.0, h.1)

  all-new-lists : (ls : Locals) (xs : Parts) → EachLists P xs → EachLists P (map (new_name ls) xs)
  all-new-lists ls [] h = tt
  all-new-lists ls (None ∷ xs) h = (tt, all-new-lists ls xs h.1)
  all-new-lists ls (Some x ∷ xs) h = (renamed-lists ls x h.0, all-new-lists ls xs h.1)

  listed-lists : (s : Frame) (k : Kind) (i : ℕ) (xs : Parts) → is_list k ≡ true → EachLists P xs → EachLists P (layout s k i xs)
  listed-lists s kind.NameList i xs e h = h
  listed-lists s kind.NewNames i xs e h = all-new-lists s.locals (all_held xs) (all-held-lists P xs h)
  listed-lists s kind.Targets i xs e h = all-held-lists P xs h
  listed-lists s kind.ExpressionList i xs e h = h
  listed-lists s kind.TypedValues i xs e h = all-held-lists P xs h
  listed-lists s kind.Values i xs e h = all-held-lists P xs h
  listed-lists s k i xs e h = cc

  mutual
    pub holding-lists : (s : Frame) (h : Hint) (t : Tree) → Lists P (holding s h t)
    holding-lists s h (node k i j ps) =
        let ys = layout s k i (holdings s k h ps [] ps) in
        either (Lists P) (is_list k) (list_node s k i j ys) (if is_declared_name k then name_node s i j else typing (scope_of s) h (node k i j ps))
        (λ e. (plain P (form.Held k) false i j (row ys) refl, row-lists P ys (listed-lists s k i (holdings s k h ps [] ps) e (holdings-lists s k h ps [] ps tt))))
        (λ e. either (Lists P) (is_declared_name k) (name_node s i j) (typing (scope_of s) h (node k i j ps)) (λ e. (plain P _ false i j sort.none (declared-plain s.around (s.around.objects i)), tt)) (λ u. typing-lists P (scope_of s) h (node k i j ps)))

    holdings-lists : (s : Frame) (k : Kind) (h : Hint) (all : Trees) (xs : Parts) (ps : Trees) → EachLists P xs → EachLists P (holdings s k h all xs ps)
    holdings-lists s k h all xs syntax.none g = g
    holdings-lists s k h all xs (syntax.more p ps) g =
        let x = holding s (told k h all xs (kind_of p)) p in holdings-lists s k h all (xs ++ Some x ∷ []) ps (one-more P xs (Some x) g (holding-lists s (told k h all xs (kind_of p)) p))
    holdings-lists s k h all xs (syntax.skip ps) g = holdings-lists s k h all (xs ++ None ∷ []) ps (one-more P xs None g tt)

  -- ---- how parts of statements are laid out

  one-of : (b : Bool) (xs ys : Parts) → EachLists P xs → EachLists P ys → EachLists P (if b then xs else ys)
  one-of b xs ys h k = both (EachLists P) b xs ys h k

  typed-or-not-lists : (x : Option Part) → PartLists P x → EachLists P (typed_or_not x)
  typed-or-not-lists None h = (tt, tt)
  typed-or-not-lists (Some x) h = one-of (is_values (Some x)) (None ∷ held (Some x)) (held (Some x)) (tt, held-lists P (Some x) h) (held-lists P (Some x) h)

  specification-lists : (xs : Parts) → EachLists P xs → EachLists P (specification_parts xs)
  specification-lists (ns ∷ x ∷ []) h = behind-lists P (held ns) (first_cut (typed_or_not x)) (held-lists P ns h.0) (first-cut-lists P (typed_or_not x) (typed-or-not-lists x h.1.0))
  specification-lists xs h = h

  names-lists : (xs : Parts) → EachLists P xs → EachLists P (all_names xs)
  names-lists [] h = tt
  names-lists (None ∷ xs) h = names-lists xs h.1
  names-lists (Some x ∷ xs) h = behind-lists P (specified_names (Some x)) (all_names xs) (take-lists P (names_count (form_of x)) (list_of (parts_of x)) (inner-lists P x h.0)) (names-lists xs h.1)

  specifications-lists : (xs : Parts) → EachLists P xs → EachLists P (specifications xs)
  specifications-lists (Some x ∷ []) h = one-of (is_group (form_of x)) (list_of (parts_of x)) (Some x ∷ []) (inner-lists P x h.0) h
  specifications-lists xs h = h

  absent-lists : (xs : Parts) → EachLists P xs → EachLists P (without_absent xs)
  absent-lists [] h = tt
  absent-lists (None ∷ xs) h = absent-lists xs h.1
  absent-lists (Some x ∷ xs) h = (h.0, absent-lists xs h.1)

  header-lists : (x : Option Part) → PartLists P x → EachLists P (header_parts x)
  header-lists None h = (tt, (tt, tt))
  header-lists (Some (typed (form.Held kind.LateCondition) i j l ps)) h = (tt, list-lists P ps h.1)
  header-lists (Some (typed (form.Held kind.LateTag) i j l ps)) h = (tt, list-lists P ps h.1)
  header-lists (Some (typed (form.Held kind.InitializedCondition) i j l ps)) h = list-lists P ps h.1
  header-lists (Some (typed (form.Held kind.InitializedTag) i j l ps)) h = list-lists P ps h.1
  header-lists (Some x) h = (tt, (h, tt))

  loop-lists : (x : Option Part) → PartLists P x → EachLists P (loop_header x)
  loop-lists None h = (tt, (tt, (tt, tt)))
  loop-lists (Some (typed (form.Held kind.ForClause) i j l ps)) h = (tt, list-lists P ps h.1)
  loop-lists (Some (typed (form.Held k) i j l ps)) h = list-lists P ps h.1
  loop-lists (Some x) h = (tt, (h, (tt, tt)))

  if-lists : (xs : Parts) → EachLists P xs → EachLists P (if_parts xs)
  if-lists (x ∷ b ∷ e ∷ []) h = behind-lists P (header_parts x) (b ∷ held e) (header-lists x h.0) (h.1.0, held-lists P e h.1.1.0)
  if-lists xs h = h

  switch-lists : (xs : Parts) → EachLists P xs → EachLists P (switch_parts xs)
  switch-lists [] h = tt
  switch-lists (x ∷ xs) h = behind-lists P (header_parts x) xs (header-lists x h.0) h.1

  for-lists : (xs : Parts) → EachLists P xs → EachLists P (for_parts xs)
  for-lists [] h = tt
  for-lists (x ∷ xs) h = behind-lists P (loop_header x) xs (loop-lists x h.0) h.1

  pub layout-lists : (s : Frame) (k : Kind) (i : ℕ) (xs : Parts) → is_statement k ≡ true → EachLists P xs → EachLists P (layout s k i xs)
  layout-lists s kind.NewNames i xs e h = cc
  layout-lists s kind.Targets i xs e h = cc
  layout-lists s kind.Values i xs e h = cc
  layout-lists s kind.TypedValues i xs e h = cc
  layout-lists s (kind.Specification declaring.Type) i xs e h = ((plain P _ _ i (suc i) sort.none (declared-plain s.around (s.around.objects i)), tt), h)
  layout-lists s (kind.Specification declaring.Variable) i xs e h = specification-lists xs h
  layout-lists s (kind.Specification declaring.Constant) i xs e h = specification-lists xs h
  layout-lists s (kind.Declaration declaring.Variable) i xs e h = specifications-lists xs h
  layout-lists s (kind.Declaration declaring.Constant) i xs e h = names-lists (specifications xs) (specifications-lists xs h)
  layout-lists s (kind.Declaration declaring.Type) i xs e h = names-lists (specifications xs) (specifications-lists xs h)
  layout-lists s kind.Assignment i xs e h = all-held-lists P xs h
  layout-lists s kind.Define i xs e h = all-held-lists P xs h
  layout-lists s kind.Case i xs e h = all-held-lists P xs h
  layout-lists s kind.Return i xs e h = absent-lists (all_held xs) (all-held-lists P xs h)
  layout-lists s kind.If i xs e h = if-lists xs h
  layout-lists s kind.Switch i xs e h = switch-lists xs h
  layout-lists s kind.For i xs e h = for-lists xs h
  layout-lists s kind.AssigningRange i xs e h = all-held-lists P xs h
  layout-lists s kind.DefiningRange i xs e h = all-held-lists P xs h
  layout-lists s kind.FunctionDeclaration i xs e h = absent-lists (behind_first xs) (behind-first-lists P xs h)
  layout-lists s k i xs e h = h
