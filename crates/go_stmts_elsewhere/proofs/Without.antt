-- Parts that have no form that passes a test: as they stand in a node, they had none before they were laid out and took what they take.
use Rattle.std.proofs.Common.{◌≡◌, ℕ, Bool, true, false, List, [], ◌∷◌, ◌++◌, Option, Some, None, cond}
use Rattle.go_grammar.specs.declared.kind.Kind.{Kind}
use Rattle.go_grammar.specs.declared.kind.Kind.TheVariants as kind
use Rattle.go_grammar.specs.declared.kind.Sort.TheVariants as declaring
use Rattle.go_types.specs.Trees.{TypeTree}
use Rattle.go_typed.specs.declared.form.Form.{Form}
use Rattle.go_typed.specs.declared.form.Form.TheVariants as form
use Rattle.go_typed.specs.Trees.{Label, typed, Typeds, row, list_of, parts_of}
use Rattle.go_typed.specs.Trees as sort
use Rattle.go_exprs_rules.specs.declared.fault.TypeFault.{TypeFault}
use Rattle.go_exprs_rules.specs.declared.family.OpenKind.{OpenKind}
use Rattle.go_exprs_rules.specs.Settling.{Part, settled, all_settled, Take, stay, default, as_type, defaulted, given}
use Rattle.go_exprs_rules.specs.Sorts.{takes_type, retyped, open_kind, default_type}
use Rattle.go_exprs_rules.specs.Tables.{Parts, held, all_held}
use Rattle.go_typed.specs.Trees.{sort_of}
use Rattle.go_stmts_defs.specs.Assigning.{Taking, takes, stands}
use Rattle.go_stmts_defs.specs.Frames.{Frame}
use Rattle.go_stmts_defs.specs.Laying.{header_parts, if_parts, switch_parts, loop_header, for_parts, without_absent, layout, specifications}
use Rattle.go_stmts_defs.specs.Rules.{taking, given_part, all_given, built_by}
use Rattle.go_stmts_elsewhere.specs.Declaring.{Without, RowWithout, AllWithout}

-- a kind of nodes whose parts all stand in the typed tree, and that declare no more than is named there
abbrev pub ShowsAll : Kind → Type 0
ShowsAll kind.NewNames = ⊥
ShowsAll (kind.Specification d) = ⊥
ShowsAll (kind.Declaration declaring.Variable) = Unit {0}
ShowsAll (kind.Declaration d) = ⊥
ShowsAll kind.FunctionDeclaration = ⊥
ShowsAll k = Unit {0}

module _ (w : Form → Bool) where
  -- ---- lists

  pub row_without : (xs : Parts) → RowWithout w (row xs) → AllWithout w xs
  row_without [] e = tt
  row_without (Some x ∷ xs) e = (e.0, row_without xs e.1)
  row_without (None ∷ xs) e = row_without xs e

  pub list_without : (ps : Typeds TypeTree) → RowWithout w ps → AllWithout w (list_of ps)
  list_without sort.none e = tt
  list_without (sort.more x xs) e = (e.0, list_without xs e.1)
  list_without (sort.skip xs) e = list_without xs e

  pub without_row : (ps : Typeds TypeTree) → AllWithout w (list_of ps) → RowWithout w ps
  without_row sort.none e = tt
  without_row (sort.more x xs) e = (e.0, without_row xs e.1)
  without_row (sort.skip xs) e = without_row xs e

  pub parts_without : (x : Part) → Without w x → AllWithout w (list_of (parts_of x))
  parts_without (typed f i j l ps) e = list_without ps e.1

  pub front_without : (xs ys : Parts) → AllWithout w (xs ++ ys) → AllWithout w xs
  front_without [] ys e = tt
  front_without (Some x ∷ xs) ys e = (e.0, front_without xs ys e.1)
  front_without (None ∷ xs) ys e = front_without xs ys e

  pub rest_without : (xs ys : Parts) → AllWithout w (xs ++ ys) → AllWithout w ys
  rest_without [] ys e = e
  rest_without (Some x ∷ xs) ys e = rest_without xs ys e.1
  rest_without (None ∷ xs) ys e = rest_without xs ys e

  pub last_without : (xs : Parts) (x : Part) → AllWithout w (xs ++ Some x ∷ []) → Without w x
  last_without xs x e = (rest_without xs (Some x ∷ []) e).0

  join_without : (x : Option Part) (xs : Parts) → AllWithout w (x ∷ []) → AllWithout w xs → AllWithout w (x ∷ xs)
  join_without None xs e d = d
  join_without (Some x) xs e d = (e.0, d)

  -- ---- what parts take

  settled_either : (b : Bool) (f : Form) (i j : ℕ) (l k : Label TypeTree) (ps qs : Typeds TypeTree) → (RowWithout w qs → RowWithout w ps)
      → Without w (cond b (typed f i j k qs) (typed f i j l ps)) → Without w (typed f i j l ps)
  settled_either true f i j l k ps qs r e = (e.0, r e.1)
  settled_either false f i j l k ps qs r e = e

  mutual
    settled_without : (t : TypeTree) (x : Part) → Without w (settled t x) → Without w x
    settled_without t (typed f i j l ps) e =
        settled_either (takes_type l.sort) f i j l (record l { sort = retyped t l.sort }) ps (all_settled t ps) (all_settled_without t ps) e

    all_settled_without : (t : TypeTree) (ps : Typeds TypeTree) → RowWithout w (all_settled t ps) → RowWithout w ps
    all_settled_without t sort.none e = tt
    all_settled_without t (sort.more x xs) e = (settled_without t x e.0, all_settled_without t xs e.1)
    all_settled_without t (sort.skip xs) e = all_settled_without t xs e

  defaulted_without : (o : Option OpenKind) (x : Part) → Without w (defaulted o x) → Without w x
  defaulted_without (Some k) x e = settled_without (default_type k) x e
  defaulted_without None x e = e

  given_without : (k : Take) (x : Part) → Without w (given k x) → Without w x
  given_without stay x e = e
  given_without default x e = defaulted_without (open_kind (sort_of x)) x e
  given_without (as_type t) x e = settled_without t x e

  given_part_without : (k : Taking) (x : Part) → Without w (given_part k x) → Without w x
  given_part_without (takes k) x e = given_without k x e
  given_part_without (stands s) (typed f i j l ps) e = e

  all_given_without : (ks : List Taking) (xs : Parts) → AllWithout w (all_given ks xs) → AllWithout w xs
  all_given_without [] xs e = e
  all_given_without (k ∷ ks) [] e = tt
  all_given_without (k ∷ ks) (Some x ∷ xs) e = (given_part_without k x e.0, all_given_without ks xs e.1)
  all_given_without (k ∷ ks) (None ∷ xs) e = all_given_without ks xs e

  -- over these parts a node
  pub built_without : (s : Frame) (k : Kind) (f : Form) (i j : ℕ) (ys : Parts) (own : List TypeFault) → Without w (built_by s k f i j ys own) → AllWithout w ys
  built_without s k f i j ys [] e = all_given_without (taking s k f ys) ys (row_without (all_given (taking s k f ys) ys) e.1)
  built_without s k f i j ys (o ∷ os) e = row_without ys e.1

  pub form_without : (s : Frame) (k : Kind) (f : Form) (i j : ℕ) (ys : Parts) (own : List TypeFault) → Without w (built_by s k f i j ys own) → w f ≡ false
  form_without s k f i j ys [] e = e.0
  form_without s k f i j ys (o ∷ os) e = e.0

  -- ---- how they are laid out

  module _ (holds : (k : Kind) → w (form.Held k) ≡ false) where
    held_without : (x : Option Part) → AllWithout w (held x) → AllWithout w (x ∷ [])
    held_without None e = tt
    held_without (Some (typed (form.Held k) i j l ps)) e = ((holds k, without_row ps e), tt)
    held_without (Some (typed f i j l ps)) e = e

    all_held_without : (xs : Parts) → AllWithout w (all_held xs) → AllWithout w xs
    all_held_without [] e = tt
    all_held_without (x ∷ xs) e = join_without x xs (held_without x (front_without (held x) (all_held xs) e)) (all_held_without xs (rest_without (held x) (all_held xs) e))

    present_without : (xs : Parts) → AllWithout w (without_absent xs) → AllWithout w xs
    present_without [] e = tt
    present_without (Some x ∷ xs) e = (e.0, present_without xs e.1)
    present_without (None ∷ xs) e = present_without xs e

    header_without : (x : Option Part) → AllWithout w (header_parts x) → AllWithout w (x ∷ [])
    header_without (Some (typed (form.Held kind.LateCondition) i j l ps)) e = ((holds kind.LateCondition, without_row ps e), tt)
    header_without (Some (typed (form.Held kind.LateTag) i j l ps)) e = ((holds kind.LateTag, without_row ps e), tt)
    header_without (Some (typed (form.Held kind.InitializedCondition) i j l ps)) e = ((holds kind.InitializedCondition, without_row ps e), tt)
    header_without (Some (typed (form.Held kind.InitializedTag) i j l ps)) e = ((holds kind.InitializedTag, without_row ps e), tt)
    header_without (Some (typed f i j l ps)) e = e
    header_without None e = tt

    loop_without : (x : Option Part) → AllWithout w (loop_header x) → AllWithout w (x ∷ [])
    loop_without (Some (typed (form.Held kind.ForClause) i j l ps)) e = ((holds kind.ForClause, without_row ps e), tt)
    loop_without (Some (typed (form.Held k) i j l ps)) e = ((holds k, without_row ps e), tt)
    loop_without (Some (typed f i j l ps)) e = e
    loop_without None e = tt

    if_without : (xs : Parts) → AllWithout w (if_parts xs) → AllWithout w xs
    if_without [] e = e
    if_without (x ∷ []) e = e
    if_without (x ∷ y ∷ []) e = e
    if_without (h ∷ b ∷ o ∷ []) e =
        let d = rest_without (header_parts h) (b ∷ held o) e in
        join_without h (b ∷ o ∷ []) (header_without h (front_without (header_parts h) (b ∷ held o) e))
        (join_without b (o ∷ []) (front_without (b ∷ []) (held o) d) (held_without o (rest_without (b ∷ []) (held o) d)))
    if_without (x ∷ y ∷ z ∷ u ∷ us) e = e

    switch_without : (xs : Parts) → AllWithout w (switch_parts xs) → AllWithout w xs
    switch_without [] e = tt
    switch_without (h ∷ xs) e = join_without h xs (header_without h (front_without (header_parts h) xs e)) (rest_without (header_parts h) xs e)

    for_without : (xs : Parts) → AllWithout w (for_parts xs) → AllWithout w xs
    for_without [] e = tt
    for_without (h ∷ xs) e = join_without h xs (loop_without h (front_without (loop_header h) xs e)) (rest_without (loop_header h) xs e)

    specifications_without : (xs : Parts) → AllWithout w (specifications xs) → AllWithout w xs
    specifications_without [] e = tt
    specifications_without (None ∷ xs) e = e
    specifications_without (Some (typed (form.Held (kind.Group d)) i j l ps) ∷ []) e = ((holds (kind.Group d), without_row ps e), tt)
    specifications_without (Some (typed f i j l ps) ∷ []) e = e
    specifications_without (Some x ∷ y ∷ ys) e = e

    pub layout_without : (s : Frame) (k : Kind) → ShowsAll k → (i : ℕ) (xs : Parts) → AllWithout w (layout s k i xs) → AllWithout w xs
    layout_without s kind.NewNames q i xs e = absurd q
    layout_without s (kind.Specification d) q i xs e = absurd q
    layout_without s (kind.Declaration declaring.Variable) q i xs e = specifications_without xs e
    layout_without s (kind.Declaration d) q i xs e = absurd q
    layout_without s kind.FunctionDeclaration q i xs e = absurd q
    layout_without s kind.Targets q i xs e = all_held_without xs e
    layout_without s kind.Values q i xs e = all_held_without xs e
    layout_without s kind.TypedValues q i xs e = all_held_without xs e
    layout_without s kind.Assignment q i xs e = all_held_without xs e
    layout_without s kind.Define q i xs e = all_held_without xs e
    layout_without s kind.Case q i xs e = all_held_without xs e
    layout_without s kind.Return q i xs e = all_held_without xs (present_without (all_held xs) e)
    layout_without s kind.If q i xs e = if_without xs e
    layout_without s kind.Switch q i xs e = switch_without xs e
    layout_without s kind.For q i xs e = for_without xs e
    layout_without s kind.AssigningRange q i xs e = all_held_without xs e
    layout_without s kind.DefiningRange q i xs e = all_held_without xs e
    layout_without s k q i xs e = e
