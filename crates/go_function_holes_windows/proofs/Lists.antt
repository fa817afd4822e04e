-- Lists of names and of expressions that are parts of statements, and the types and values of declarations (Go specification: Variable
-- declarations, Assignment statements).
use Rattle.std.proofs.Common.{◌≡◌, ◌∙◌, ℕ, zero, suc, Bool, true, false, [], ◌∷◌, ◌++◌, map, Option, Some, None, refl, sym, ap, subst}
use Rattle.std.specs.Prelude.{◌||◌, nat_lt}
use Rattle.go_grammar.specs.declared.kind.Category.{Category}
use Rattle.go_grammar.specs.declared.kind.Category.TheVariants as category
use Rattle.go_grammar.specs.declared.kind.Kind.{Kind}
use Rattle.go_grammar.specs.declared.kind.Kind.TheVariants as kind
use Rattle.go_grammar.specs.declared.kind.Place.{Place}
use Rattle.go_grammar.specs.declared.kind.Place.TheVariants as place
use Rattle.go_grammar.specs.Categories.{within, place_of}
use Rattle.go_grammar.specs.Grammar.{rule, any, agrees, are_names, is_name, first_parts, count}
use Rattle.go_grammar.specs.Rules.{Again}
use Rattle.go_grammar.specs.Trees.{Tree, node, Trees, kind_of, parts}
use Rattle.go_grammar.specs.Trees as syntax
use Rattle.go_tokens.specs.declared.token.TokenKind.TheVariants as token
use Rattle.go_rewriting.specs.Replacing.{subtree_in}
use Rattle.go_rewriting.specs.Sites.{may_change}
use Rattle.go_tree.specs.declared.object.Object.{Object}
use Rattle.go_tree.specs.declared.object.Object.TheVariants as object
use Rattle.go_types.specs.Relations.{Rights}
use Rattle.go_typed.specs.declared.form.Form.{Form}
use Rattle.go_typed.specs.declared.form.Form.TheVariants as form
use Rattle.go_typed.specs.Trees.{typed, row, list_of, form_of, sort_of, label_of, parts_of}
use Rattle.go_typed.specs.Trees as sort
use Rattle.go_exprs_rules.specs.Names.{declared_form, is_blank}
use Rattle.go_exprs_rules.specs.Scopes.{Scope, Hint, value, several, type_place, declares}
use Rattle.go_exprs_rules.specs.Settling.{Part}
use Rattle.go_exprs_rules.specs.Sorts.{Stands, is_unknown}
use Rattle.go_exprs_rules.specs.Tables.{Parts, is_held, held, all_held, cut, first_cut, is_placed}
use Rattle.go_stmts_defs.specs.Frames.{Frame, Locals}
use Rattle.go_stmts_defs.specs.Laying.{alone_or_value, layout, new_form, new_name, with_form, typed_or_not}
use Rattle.go_stmts_defs.specs.Reading.{list_node, name_node}
use Rattle.go_stmts_defs.specs.Targets.{is_variable, is_target}
use Rattle.clone_window.specs.Masses.{is_constant, is_expression}
use Rattle.go_stmts_final_types.specs.Known.{is_object}
use Rattle.go_function_holes.proofs.Public.{Below, IsPart, OfHole, PartHoles, PartSound, TypedPart, all-weaker, both, deeper, deeper-path, differ, holes-here, holes-weaker, judges_values, open-free, sound-known, type-cut}
use Rattle.go_function_holes_windows.proofs.Rows.{OneOf, Each, Good, IsBare, IsOwn, each-held, each-good, each-weaker, list-row}
use Rattle.go_function_holes_windows.proofs.Read.{Aimed, Full, InTargets, IsRead, PartAs, PlainKind, ReadAs, RowAs, and-first, and-second, row-fine, single-each, then-each, then-full}
use Rattle.go_function_holes_windows.proofs.Within.{each-weaker-holes}

pub held-list : (D : Part → Type 0) (ys : Parts) → Each D ys → Each D (list_of (row ys))
held-list D ys h = subst (Each D) (sym (list-row ys)) h

full-list : (ys : Parts) → Full ys → Full (list_of (row ys))
full-list ys h = subst Full (sym (list-row ys)) h

full-both : (xs ys : Parts) → Full xs → Full ys → Full (xs ++ ys)
full-both [] ys g h = h
full-both (None ∷ xs) ys g h = absurd g
full-both (Some x ∷ xs) ys g h = full-both xs ys g h

full-held : (xs : Parts) → Each (λ x. Full (held (Some x))) xs → Full xs → Full (all_held xs)
full-held [] h f = tt
full-held (None ∷ xs) h f = absurd f
full-held (Some x ∷ xs) h f = full-both (held (Some x)) (all_held xs) h.0 (full-held xs h.1 f)

-- ---- lists of expressions

pub alone-values : (ps : Trees) (h : Hint) → judges_values h ≡ true → judges_values (alone_or_value ps h) ≡ true
alone-values ps several e = both (λ (g : Hint). judges_values g ≡ true) (nat_lt 1 (count ps)) value several refl refl
alone-values ps h e = e

-- ---- targets

or-third : (a b c : Bool) → (a || b || c) ≡ true → a ≡ false → b ≡ false → c ≡ true
or-third true b c e f g = absurd (differ (sym f))
or-third false true c e f g = absurd (differ (sym g))
or-third false false c e f g = e

constant-shown : (s : Stands) → is_constant s ≡ true → is_blank s ≡ false
constant-shown (sort.Constant t c) e = refl
constant-shown (sort.OpenConstant c) e = refl
constant-shown s e = absurd (differ e)

-- a target that is a constant is a variable
target-varies : (rights : Rights) (x : Part) → is_target rights x ≡ true → is_constant (sort_of x) ≡ true → is_unknown (sort_of x) ≡ false → is_variable rights x ≡ true
target-varies rights x t c u = or-third (is_blank (sort_of x)) (is_unknown (sort_of x)) (is_variable rights x) t (constant-shown (sort_of x) c) u

varies-differ : {A : Type 0} (b : Bool) → b ≡ true → b ≡ false → A
varies-differ b e f = absurd (differ (sym f ∙ e))

names-at : (n : ℕ) (ps : Trees) (p : Tree) → are_names ps ≡ true → subtree_in n [] ps ≡ Some p → is_name (kind_of p) ≡ true
names-at n syntax.none p e t = absurd cc
names-at zero (syntax.more q ps) p e t =
    let same : q ≡ p = cc in subst (λ r. is_name (kind_of r) ≡ true) same (and-first (is_name (kind_of q)) (are_names ps) e)
names-at (suc n) (syntax.more q ps) p e t = names-at n ps p (and-second (is_name (kind_of q)) (are_names ps) e) t
names-at n (syntax.skip ps) p e t = absurd (differ e)

module _ (o : Bool) (c : Category) (h : Hint) (i j : ℕ) (ps : Trees) where
  abbrev P : OfHole
  P = Below o c (node kind.ExpressionList i j ps)

  abbrev Element : ℕ → Parts → Part → Type 0
  Element n xs x = PartAs c kind.ExpressionList h ps n (any (place_of c)) xs x

  aimed : judges_values h ≡ true → (n : ℕ) (xs : Parts) (x : Part) → Element n xs x → Aimed P x
  aimed v n xs x part = λ s rights t.
      let read : IsRead (any (place_of c)) (alone_or_value ps h) part.stood x = part.read in
      let operand = read.part.operand refl s (read.part.no_type refl (alone-values ps h v) s) in
      let at = part.at refl in
      holes-here P x
      (λ w u.
      let constant = and-second (is_expression (form_of x)) (is_constant (sort_of x)) w in
      varies-differ (label_of x).varies (read.part.variable rights (target-varies rights x t constant (sound-known x s)) constant) u)
      (all-weaker (Below false (any (place_of c)) part.stood) P (λ a b q. deeper o c kind.ExpressionList i j ps n (any (place_of c)) part.stood at a b q ((open-free kind.ExpressionList refl refl).change n (q.part ∷ q.path))) (parts_of x) (operand.inside false))

  bare : h ≡ declares → are_names ps ≡ true → (n : ℕ) (xs : Parts) (x : Part) → Element n xs x → IsBare x
  bare e a n xs x part =
      let read : IsRead (any (place_of c)) (alone_or_value ps h) part.stood x = part.read in
      read.name (ap (alone_or_value ps) e) (names-at n ps part.stood a (part.at refl).there)

  abbrev Elements : Parts → Type 0
  Elements zs = RowAs c kind.ExpressionList h ps (rule (place_of c) kind.ExpressionList) 0 [] zs

  pub all-aimed : (zs : Parts) → judges_values h ≡ true → Elements zs → Each (Aimed P) zs
  all-aimed zs v r = then-each (Aimed P) c kind.ExpressionList h ps [] [] (any (place_of c)) (Again (any (place_of c)) token.Comma) (aimed v) (aimed v) zs r

  pub all-bare : (zs : Parts) → h ≡ declares → are_names ps ≡ true → Elements zs → Each IsBare zs
  all-bare zs e a r = then-each IsBare c kind.ExpressionList h ps [] [] (any (place_of c)) (Again (any (place_of c)) token.Comma) (bare e a) (bare e a) zs r

pub values-hold : (c : Category) (h : Hint) (i j : ℕ) (ps : Trees) (zs : Parts) → judges_values h ≡ true → RowAs c kind.ExpressionList h ps (rule (place_of c) kind.ExpressionList) 0 [] zs → Each (Good (Below true c (node kind.ExpressionList i j ps))) zs
values-hold c h i j ps zs v r =
    let plain : PlainKind kind.ExpressionList h ps = record { free = open-free kind.ExpressionList refl refl; new = refl; tells = λ xs q. alone-values ps h v } in
    each-good (Below true c (node kind.ExpressionList i j ps)) zs (row-fine true c kind.ExpressionList h i j ps plain (rule (place_of c) kind.ExpressionList) 0 [] zs (refl, λ m. refl) r)

pub values-as : (o : Bool) (q : Place) (s : Frame) (h : Hint) (k : Kind) (i j : ℕ) (ps : Trees) (zs : Parts) → within (category.ExpressionList q) k ≡ true → RowAs (category.ExpressionList q) k h ps (rule q k) 0 [] zs
    → ReadAs o (category.ExpressionList q) h (node k i j ps) (list_node s k i j (layout s k i zs))
values-as o q s h kind.ExpressionList i j ps zs e r = λ t v.
    held-list (Good (Below o (category.ExpressionList q) (node kind.ExpressionList i j ps))) zs
    (subst (λ b. Each (Good (Below b (category.ExpressionList q) (node kind.ExpressionList i j ps))) zs) (sym t) (values-hold (category.ExpressionList q) h i j ps zs v r))
values-as o q s h k i j ps zs e r = absurd (differ e)

pub left-as : (o : Bool) (q : Place) (s : Frame) (h : Hint) (k : Kind) (i j : ℕ) (ps : Trees) (zs : Parts) → within (category.LeftList q) k ≡ true → RowAs (category.LeftList q) k h ps (rule q k) 0 [] zs
    → ReadAs o (category.LeftList q) h (node k i j ps) (list_node s k i j (layout s k i zs))
left-as o q s h kind.ExpressionList i j ps zs e r = (
  (λ v. (held-list (Aimed (Below o (category.LeftList q) (node kind.ExpressionList i j ps))) zs (all-aimed o (category.LeftList q) h i j ps zs v r), full-list zs (then-full (category.LeftList q) kind.ExpressionList h ps [] [] (any q) (Again (any q) token.Comma) zs r))),
  (λ d a. held-list IsBare zs (all-bare o (category.LeftList q) h i j ps zs d a r)),
)
left-as o q s h k i j ps zs e r = absurd (differ e)

aimed-weaker : (P Q : OfHole) → ((i j : ℕ) → P i j → Q i j) → (x : Part) → Aimed P x → Aimed Q x
aimed-weaker P Q g x h = λ s rights t. holes-weaker P Q g x (h s rights t)

pub each-aimed : (P Q : OfHole) → ((i j : ℕ) → P i j → Q i j) → (xs : Parts) → Each (Aimed P) xs → Each (Aimed Q) xs
each-aimed P Q g xs h = each-weaker (Aimed P) (Aimed Q) (aimed-weaker P Q g) xs h

in-targets : (o : Bool) (q : Place) (i j : ℕ) (ps : Trees) (p : Tree) (at : IsPart (category.Targets q) kind.Targets ps 0 (category.LeftList q) p) (a b : ℕ) → Below false (category.LeftList q) p a b → InTargets o q (node kind.Targets i j ps) a b
in-targets o q i j ps p at a b h =
    let deep : Below o (category.Targets q) (node kind.Targets i j ps) a b = deeper o (category.Targets q) kind.Targets i j ps 0 (category.LeftList q) p at a b h refl in
    let e = deeper-path o (category.Targets q) kind.Targets i j ps 0 (category.LeftList q) p at a b h refl in
    let same : deep.part ∷ deep.path ≡ 0 ∷ h.part ∷ h.path = ap (λ z. z ∷ deep.path) e.0 ∙ ap (λ z. 0 ∷ z) e.1 in
    record { hole = deep; changes = ap (λ z. may_change kind.AssigningRange 0 z) same }

pub targets-as : (o : Bool) (q : Place) (s : Frame) (h : Hint) (k : Kind) (i j : ℕ) (ps : Trees) (zs : Parts) → within (category.Targets q) k ≡ true → RowAs (category.Targets q) k h ps (rule q k) 0 [] zs
    → ReadAs o (category.Targets q) h (node k i j ps) (list_node s k i j (layout s k i zs))
targets-as o q s h kind.Targets i j ps zs e r =
    let P : OfHole = InTargets o q (node kind.Targets i j ps) in (
      held-list (Aimed P) (all_held zs)
          (each-held (Aimed P) zs
          (single-each (λ x. Each (Aimed P) (held (Some x))) (category.Targets q) kind.Targets h ps [] (token.Assign ∷ []) (category.LeftList q)
          (λ x part. each-aimed (Below false (category.LeftList q) part.stood) P (in-targets o q i j ps part.stood (part.at refl)) (held (Some x)) (part.read.0 refl).0) zs r)),
      full-list (all_held zs)
          (full-held zs (single-each (λ x. Full (held (Some x))) (category.Targets q) kind.Targets h ps [] (token.Assign ∷ []) (category.LeftList q) (λ x part. (part.read.0 refl).1) zs r)
          (single-full zs r)),
    ) where
      single-full : (ys : Parts) → RowAs (category.Targets q) kind.Targets h ps (rule q kind.Targets) 0 [] ys → Full ys
      single-full [] u = tt
      single-full (None ∷ ys) u = absurd u
      single-full (Some x ∷ []) u = tt
      single-full (Some x ∷ y ∷ ys) u = absurd u.1
targets-as o q s h k i j ps zs e r = absurd (differ e)

-- ---- names

first-there : (ps : Trees) (p : Tree) → subtree_in 0 [] ps ≡ Some p → first_parts ps ≡ parts p
first-there syntax.none p e = absurd cc
first-there (syntax.more q ps) p e = let same : q ≡ p = cc in ap parts same
first-there (syntax.skip ps) p e = absurd cc

bare-formed : (g : Form → Form) (y : Part) → IsBare y → IsBare (with_form g y)
bare-formed g (typed f i j l ps) h = record { alone = h.alone; plain = h.plain }

bare-new : (ls : Locals) (ys : Parts) → Each IsBare ys → Each IsBare (map (new_name ls) ys)
bare-new ls [] h = tt
bare-new ls (None ∷ ys) h = (tt, bare-new ls ys h.1)
bare-new ls (Some y ∷ ys) h = (bare-formed (new_form ls) y h.0, bare-new ls ys h.1)

pub new-as : (o : Bool) (q : Place) (s : Frame) (h : Hint) (k : Kind) (i j : ℕ) (ps : Trees) (zs : Parts) → within (category.NewNames q) k ≡ true → agrees k ps ≡ true → RowAs (category.NewNames q) k h ps (rule q k) 0 [] zs
    → ReadAs o (category.NewNames q) h (node k i j ps) (list_node s k i j (layout s k i zs))
new-as o q s h kind.NewNames i j ps zs e a r =
    held-list IsBare (map (new_name s.locals) (all_held zs))
    (bare-new s.locals (all_held zs)
    (each-held IsBare zs
    (single-each (λ x. Each IsBare (held (Some x))) (category.NewNames q) kind.NewNames h ps [] (token.Define ∷ []) (category.LeftList q)
    (λ x part. part.read.1 refl (subst (λ rs. are_names rs ≡ true) (first-there ps part.stood (part.at refl).there) a)) zs r)))
new-as o q s h k i j ps zs e a r = absurd (differ e)

pub list-as : (o : Bool) (s : Frame) (h : Hint) (k : Kind) (i j : ℕ) (ps : Trees) (zs : Parts) → within category.NameList k ≡ true → RowAs category.NameList k h ps (rule place.Free k) 0 [] zs
    → ReadAs o category.NameList h (node k i j ps) (list_node s k i j (layout s k i zs))
list-as o s h kind.NameList i j ps zs e r = (
  held-list IsBare zs (then-each IsBare category.NameList kind.NameList h ps [] [] category.DeclaredName (Again category.DeclaredName token.Comma) (λ n xs x part. part.read.0) (λ n xs x part. part.read.0) zs r),
  held-list IsOwn zs (then-each IsOwn category.NameList kind.NameList h ps [] [] category.DeclaredName (Again category.DeclaredName token.Comma) (λ n xs x part. part.read.1) (λ n xs x part. part.read.1) zs r),
)
list-as o s h k i j ps zs e r = absurd (differ e)

pub declared-own : (s : Scope) (o : Option Object) → is_object (declared_form s o) ≡ false → is_expression (declared_form s o) ≡ false
declared-own s None e = refl
declared-own s (Some object.Import) e = absurd (differ (sym e))
declared-own s (Some (object.Predeclared p)) e = absurd (differ (sym e))
declared-own s (Some (object.Package n)) e = absurd (differ (sym e))
declared-own s (Some (object.Local f n)) e = refl

pub name-bare : (s : Frame) (i j : ℕ) → IsBare (name_node s i j) × IsOwn (name_node s i j)
name-bare s i j = (record { alone = refl; plain = refl }, record { alone = refl; own = declared-own s.around (s.around.objects i) })

-- ---- types and values of declarations

cut-one : (P : OfHole) (x : Option Part) → (PartSound x → PartHoles P x) → OneOf (Good P) x
cut-one P None h = tt
cut-one P (Some x) h = h

pub unheld-row : (x : Part) → is_held (form_of x) ≡ false → held (Some x) ≡ Some x ∷ []
unheld-row (typed (form.Held k) i j l ps) e = absurd (differ (sym e))
unheld-row (typed f i j l ps) e = refl

unheld-rest : (x : Part) → is_held (form_of x) ≡ false → typed_or_not (Some x) ≡ Some x ∷ []
unheld-rest (typed (form.Held k) i j l ps) e = absurd (differ (sym e))
unheld-rest (typed f i j l ps) e = refl

pub type-rest : (P : OfHole) (c : Category) (p : Tree) (x : Part) → is_placed (kind_of p) ≡ true → is_held (form_of x) ≡ false → TypedPart c p type_place x → Each (Good P) (first_cut (typed_or_not (Some x)))
type-rest P c p x e u part = subst (λ ys. Each (Good P) (first_cut ys)) (sym (unheld-rest x u)) (cut-one P (cut (Some x)) (type-cut P c p x e part), tt)

module _ (o : Bool) (s : Frame) (h : Hint) (i j : ℕ) (ps : Trees) (told : judges_values h ≡ true) where
  abbrev Q : Kind → OfHole
  Q k = Below o category.VariableRest (node k i j ps)

  pub values-rest : (zs : Parts) → RowAs category.VariableRest kind.Values h ps (rule place.Free kind.Values) 0 [] zs → Each (Good (Q kind.Values)) (first_cut (typed_or_not (Some (list_node s kind.Values i j (all_held zs)))))
  values-rest zs r =
      let plain : PlainKind kind.Values h ps = record { free = open-free kind.Values refl refl; new = refl; tells = λ xs q. told } in
      (tt, held-list (Good (Q kind.Values)) (all_held zs) (each-held (Good (Q kind.Values)) zs (row-fine o category.VariableRest kind.Values h i j ps plain (rule place.Free kind.Values) 0 [] zs (refl, tt) r)))

  pub typed-rest : (zs : Parts) → RowAs category.VariableRest kind.TypedValues h ps (rule place.Free kind.TypedValues) 0 [] zs → Each (Good (Q kind.TypedValues)) (first_cut (typed_or_not (Some (list_node s kind.TypedValues i j (all_held zs)))))
  typed-rest [] r = absurd r
  typed-rest (None ∷ zs) r = absurd r
  typed-rest (Some t ∷ []) r = absurd r.1
  typed-rest (Some t ∷ None ∷ zs) r = absurd r.1
  typed-rest (Some t ∷ Some l ∷ z ∷ zs) r = absurd r.1.1
  typed-rest (Some t ∷ Some l ∷ []) r =
      let P : OfHole = Q kind.TypedValues in
      let type_part = r.0 in
      let list_part = r.1.0 in
      let first : OneOf (Good P) (cut (Some t)) = cut-one P (cut (Some t)) (type-cut P category.Type type_part.stood t type_part.read.1 type_part.read.0) in
      let listed : Each (Good P) (held (Some l)) = each-weaker-holes (Below true (category.ExpressionList place.Free) list_part.stood) P
      (λ a b q. deeper o category.VariableRest kind.TypedValues i j ps 1 (category.ExpressionList place.Free) list_part.stood (list_part.at refl) a b q refl) (held (Some l)) (list_part.read refl told) in
      let behind : Each (Good P) (all_held (Some l ∷ [])) = each-held (Good P) (Some l ∷ []) (listed, tt) in
      let rows : all_held (Some t ∷ Some l ∷ []) ≡ Some t ∷ all_held (Some l ∷ []) = ap (λ ys. ys ++ all_held (Some l ∷ [])) (unheld-row t type_part.read.2) in
      subst (λ ys. Each (Good P) (first_cut ys)) (sym (list-row (all_held (Some t ∷ Some l ∷ [])))) (subst (λ ys. Each (Good P) (first_cut ys)) (sym rows) (first, behind))
