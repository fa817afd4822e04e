-- Which tokens are read of trees and of typed parts.
use Rattle.std.proofs.Common.{◌≡◌, ℕ, Bool, true, false, List, [], ◌∷◌, ◌++◌, Option, Some, None, refl}
use Rattle.std.specs.Prelude.{◌-◌}
use Rattle.go_grammar.specs.declared.kind.Kind.{Kind}
use Rattle.go_grammar.specs.declared.kind.Kind.TheVariants as kind
use Rattle.go_grammar.specs.Trees.{Tree, node, Trees, none, more, skip, kind_of}
use Rattle.go_tree.specs.declared.object.Object.{Object}
use Rattle.go_tree.specs.declared.object.Object.TheVariants as object
use Rattle.go_types.specs.Trees.{TypeTree}
use Rattle.go_types.specs.Relations.{Rights}
use Rattle.go_typed.specs.declared.form.Form.{Form}
use Rattle.go_typed.specs.declared.form.Form.TheVariants as form
use Rattle.go_typed.specs.Trees.{Label, typed, Typeds, row, list_of, sort_of}
use Rattle.go_typed.specs.Trees as sort
use Rattle.go_exprs_rules.specs.Names.{object_form, declared_form, form_or_type, name_form, name_sort}
use Rattle.go_exprs_rules.specs.Scopes.{Scope, Hint, declares, free, member}
use Rattle.go_exprs_rules.specs.Settling.{Part}
use Rattle.go_exprs_rules.specs.Sorts.{Stands}
use Rattle.go_exprs_rules.specs.TypeNodes.{is_field_name}
use Rattle.go_exprs_rules.specs.Tables.{Parts, is_placed, is_held, held, all_held, layout, callee_form, key_form, selector_form, bracketed_form, form_by, on_first, built_by, built, hint, part_scope, own_faults, is_sound}
use Rattle.go_exprs_rules.specs.Typing.{typing, typings}
use Rattle.go_exprs_elsewhere.specs.Elsewhere.{Moves, NameSpelled, NamesSpelled, AllNamesSpelled, Unless, LastSpelled, SpellingKept, KeepsSpelling, AllKeepSpelling, LastKept, KeepsLast, AllKeepLast}

unless : {A : Type 0} (b : Bool) → A → Unless b A
unless true a = tt
unless false a = a

unless_map : {A B : Type 0} (b : Bool) → (A → B) → Unless b A → Unless b B
unless_map true f e = tt
unless_map false f e = f e

module _ (m : Moves) where
  -- ---- every token is spelled the same

  module _ (all : (i : ℕ) → m.spelled i ≡ true) where
    name_spelled : (k : Kind) (i : ℕ) → NameSpelled m k i
    name_spelled kind.DeclaredName i = all i
    name_spelled k i = tt

    mutual
      names_spelled : (t : Tree) → NamesSpelled m t
      names_spelled (node k i j ps) = unless (is_placed k) (name_spelled k i, all_names_spelled ps)

      all_names_spelled : (ts : Trees) → AllNamesSpelled m ts
      all_names_spelled none = tt
      all_names_spelled (more t ts) = (names_spelled t, all_names_spelled ts)
      all_names_spelled (skip ts) = all_names_spelled ts

    spelling : (k : Kind) (i j : ℕ) (ps : Trees) → LastKept m k j → SpellingKept m k i j ps
    spelling kind.Integer i j ps e = all i
    spelling kind.Rune i j ps e = all i
    spelling kind.Text i j ps e = all i
    spelling kind.Keyed i j ps e = all i
    spelling kind.Selector i j ps e = (e, all (j - 1))
    spelling kind.StructType i j ps e = all_names_spelled ps
    spelling k i j ps e = tt

    mutual
      pub tree_spelled : (t : Tree) → KeepsLast m t → KeepsSpelling m t
      tree_spelled (node k i j ps) e = (spelling k i j ps e.0, trees_spelled ps e.1)

      trees_spelled : (ts : Trees) → AllKeepLast m ts → AllKeepSpelling m ts
      trees_spelled none e = tt
      trees_spelled (more t ts) e = (tree_spelled t e.0, trees_spelled ts e.1)
      trees_spelled (skip ts) e = trees_spelled ts e

  -- ---- names of fields among typed parts

  abbrev mutual
    -- the names that a holder has, or holders in it
    pub NamesRead : Part → Type 0
    NamesRead (typed (form.Held k) i j l ps) = NameSpelled m k i × RowRead ps
    NamesRead (typed f i j l ps) = Unit {0}

    pub RowRead : Typeds TypeTree → Type 0
    RowRead sort.none = Unit {0}
    RowRead (sort.more x xs) = NamesRead x × RowRead xs
    RowRead (sort.skip xs) = RowRead xs

  abbrev pub AreRead : Parts → Type 0
  AreRead [] = Unit {0}
  AreRead (Some x ∷ xs) = NamesRead x × AreRead xs
  AreRead (None ∷ xs) = AreRead xs

  row_read : (xs : Parts) → AreRead xs → RowRead (row xs)
  row_read [] e = tt
  row_read (Some x ∷ xs) e = (e.0, row_read xs e.1)
  row_read (None ∷ xs) e = row_read xs e

  list_read : (ps : Typeds TypeTree) → RowRead ps → AreRead (list_of ps)
  list_read sort.none e = tt
  list_read (sort.more x xs) e = (e.0, list_read xs e.1)
  list_read (sort.skip xs) e = list_read xs e

  both_read : (xs ys : Parts) → AreRead xs → AreRead ys → AreRead (xs ++ ys)
  both_read [] ys e g = g
  both_read (Some x ∷ xs) ys e g = (e.0, both_read xs ys e.1 g)
  both_read (None ∷ xs) ys e g = both_read xs ys e g

  opened_read : (x : Part) → NamesRead x → AreRead (held (Some x))
  opened_read (typed (form.Held k) i j l ps) e = list_read ps e.1
  opened_read (typed f i j l ps) e = (tt, tt)

  held_read : (x : Option Part) (xs : Parts) → AreRead (x ∷ xs) → AreRead (held x) × AreRead xs
  held_read None xs e = (tt, e)
  held_read (Some x) xs e = (opened_read x e.0, e.1)

  pub all_held_read : (xs : Parts) → AreRead xs → AreRead (all_held xs)
  all_held_read [] e = tt
  all_held_read (x ∷ xs) e = let h = held_read x xs e in both_read (held x) (all_held xs) h.0 (all_held_read xs h.1)

  -- the field's name that a part is
  pub field_read : (f : Form) (i j : ℕ) (l : Label TypeTree) (ps : Typeds TypeTree) → is_field_name f ≡ true → NamesRead (typed f i j l ps) → m.spelled i ≡ true
  field_read (form.Held kind.DeclaredName) i j l ps e r = r.0
  field_read f i j l ps e r = cc

  -- ---- what holds nothing

  unheld_read : (f : Form) (i j : ℕ) (l : Label TypeTree) (ps : Typeds TypeTree) → is_held f ≡ false → NamesRead (typed f i j l ps)
  unheld_read (form.Held k) i j l ps e = cc
  unheld_read f i j l ps e = tt

  object_unheld : (s : Scope) (o : Option Object) → is_held (object_form s o) ≡ false
  object_unheld s None = refl
  object_unheld s (Some object.Import) = refl
  object_unheld s (Some (object.Predeclared p)) = refl
  object_unheld s (Some (object.Package n)) = refl
  object_unheld s (Some (object.Local f n)) = refl

  declared_unheld : (s : Scope) (o : Option Object) → is_held (declared_form s o) ≡ false
  declared_unheld s None = refl
  declared_unheld s (Some object.Import) = refl
  declared_unheld s (Some (object.Predeclared p)) = refl
  declared_unheld s (Some (object.Package n)) = refl
  declared_unheld s (Some (object.Local f n)) = refl

  typed_unheld : (x : Stands) (f : Form) → is_held f ≡ false → is_held (form_or_type x f) ≡ false
  typed_unheld (sort.IsType t) f e = refl
  typed_unheld x f e = e

  name_unheld : (s : Scope) (h : Hint) (i : ℕ) → is_held (name_form s h i) ≡ false
  name_unheld s declares i = declared_unheld s (s.objects i)
  name_unheld s free i = declared_unheld s (s.objects i)
  name_unheld s h i = typed_unheld (name_sort s h i) (object_form s (s.objects i)) (object_unheld s (s.objects i))

  key_unheld : (rights : Rights) (h : Hint) (n : List ℕ) → is_held (key_form rights h n) ≡ false
  key_unheld rights (member t) n = refl
  key_unheld rights h n = refl

  selector_unheld : (rights : Rights) (n : List ℕ) (ys : Parts) → is_held (selector_form rights n ys) ≡ false
  selector_unheld rights n [] = refl
  selector_unheld rights n (None ∷ ys) = refl
  selector_unheld rights n (Some x ∷ []) = refl
  selector_unheld rights n (Some x ∷ y ∷ ys) = refl

  bracketed_unheld : (ys : Parts) → is_held (bracketed_form ys) ≡ false
  bracketed_unheld [] = refl
  bracketed_unheld (x ∷ []) = refl
  bracketed_unheld (x ∷ y ∷ []) = refl
  bracketed_unheld (x ∷ y ∷ z ∷ zs) = refl

  callee_unheld : (x : Stands) → is_held (callee_form x) ≡ false
  callee_unheld (sort.IsType t) = refl
  callee_unheld x = refl

  call_unheld : (ys : Parts) → is_held (on_first form.Call (λ f xs. callee_form (sort_of f)) ys) ≡ false
  call_unheld [] = refl
  call_unheld (None ∷ ys) = refl
  call_unheld (Some x ∷ ys) = callee_unheld (sort_of x)

  -- ---- a node

  by_form : (s : Scope) (k : Kind) (h : Hint) (i j : ℕ) (ys : Parts) (b : Bool) → is_held (form_by s k h i j ys) ≡ false → NamesRead (built_by s k h i j ys b)
  by_form s k h i j ys true e = unheld_read (form_by s k h i j ys) i j _ _ e
  by_form s k h i j ys false e = unheld_read (form_by s k h i j ys) i j _ _ e

  abbrev sound : Scope → Kind → Hint → ℕ → ℕ → Parts → Bool
  sound s k h i j ys = is_sound k ys (own_faults s k h i j ys)

  abbrev NodeRead : Scope → Kind → Hint → ℕ → ℕ → Parts → Type 0
  NodeRead s k h i j xs = NamesRead (built s k h i j xs)

  abbrev at_node : (s : Scope) (k : Kind) (h : Hint) (i j : ℕ) (xs : Parts) → is_held (form_by s k h i j (layout k xs)) ≡ false → NodeRead s k h i j xs
  at_node s k h i j xs e = by_form s k h i j (layout k xs) (sound s k h i j (layout k xs)) e

  node_read : (s : Scope) (k : Kind) (h : Hint) (i j : ℕ) (xs : Parts) → Unless (is_placed k) (NameSpelled m k i × AreRead xs) → NodeRead s k h i j xs
  node_read s kind.Name h i j xs e = at_node s kind.Name h i j xs (name_unheld s h i)
  node_read s kind.Selector h i j xs e = at_node s kind.Selector h i j xs (selector_unheld s.rights (s.texts (j - 1)) (layout kind.Selector xs))
  node_read s kind.Bracketed h i j xs e = at_node s kind.Bracketed h i j xs (bracketed_unheld (layout kind.Bracketed xs))
  node_read s kind.Call h i j xs e = at_node s kind.Call h i j xs (call_unheld (layout kind.Call xs))
  node_read s kind.Integer h i j xs e = at_node s kind.Integer h i j xs refl
  node_read s kind.Rune h i j xs e = at_node s kind.Rune h i j xs refl
  node_read s kind.Text h i j xs e = at_node s kind.Text h i j xs refl
  node_read s kind.Parenthesized h i j xs e = at_node s kind.Parenthesized h i j xs refl
  node_read s (kind.Unary o) h i j xs e = at_node s (kind.Unary o) h i j xs refl
  node_read s (kind.Binary o) h i j xs e = at_node s (kind.Binary o) h i j xs refl
  node_read s kind.Composite h i j xs e = at_node s kind.Composite h i j xs refl
  node_read s kind.LiteralValue h i j xs e = at_node s kind.LiteralValue h i j xs refl
  node_read s kind.ParenthesizedType h i j xs e = at_node s kind.ParenthesizedType h i j xs refl
  node_read s kind.SequenceType h i j xs e = at_node s kind.SequenceType h i j xs refl
  node_read s kind.FunctionType h i j xs e = at_node s kind.FunctionType h i j xs refl
  node_read s kind.StructType h i j xs e = at_node s kind.StructType h i j xs refl
  node_read s kind.Keyed h i j xs e = at_node s kind.Keyed h i j xs (key_unheld s.rights h (s.texts i))
  node_read s kind.Fields h i j xs e = (e.0, row_read (all_held xs) (all_held_read xs e.1))
  node_read s k h i j xs e = (e.0, row_read xs e.1)

  grown_read : (xs : Parts) (x : Part) → AreRead xs → NamesRead x → AreRead (xs ++ Some x ∷ [])
  grown_read xs x e r = both_read xs (Some x ∷ []) e (r, tt)

  left_read : (xs : Parts) → AreRead xs → AreRead (xs ++ None ∷ [])
  left_read xs e = both_read xs (None ∷ []) e tt

  -- ---- trees

  abbrev Read : Scope → Hint → Tree → Type 0
  Read s h t = NamesRead (typing s h t)

  mutual
    names_read : (s : Scope) (h : Hint) (t : Tree) → NamesSpelled m t → Read s h t
    names_read s h (node k i j ps) e = node_read s k h i j (typings s k h ps [] ps) (unless_map (is_placed k) (λ (f : NameSpelled m k i × AllNamesSpelled m ps). (f.0, typings_read s k h ps [] ps tt f.1)) e)

    pub typings_read : (s : Scope) (k : Kind) (h : Hint) (all : Trees) (xs : Parts) (ps : Trees) → AreRead xs → AllNamesSpelled m ps → AreRead (typings s k h all xs ps)
    typings_read s k h all xs none r e = r
    typings_read s k h all xs (skip ps) r e = typings_read s k h all (xs ++ None ∷ []) ps (left_read xs r) e
    typings_read s k h all xs (more t ps) r e =
        typings_read s k h all (xs ++ Some (typing (part_scope s k xs) (hint s k h all xs (kind_of t)) t) ∷ []) ps
        (grown_read xs (typing (part_scope s k xs) (hint s k h all xs (kind_of t)) t) r (names_read (part_scope s k xs) (hint s k h all xs (kind_of t)) t e.0)) e.1

-- ---- what a node reads

-- the tokens of a node over typed parts, laid out, whose texts are read
abbrev pub Spelled : Moves → Kind → ℕ → ℕ → Parts → Type 0
Spelled m kind.Integer i j ys = m.spelled i ≡ true
Spelled m kind.Rune i j ys = m.spelled i ≡ true
Spelled m kind.Text i j ys = m.spelled i ≡ true
Spelled m kind.Keyed i j ys = m.spelled i ≡ true
Spelled m kind.Selector i j ys = LastSpelled m j
Spelled m kind.StructType i j ys = AreRead m ys
Spelled m k i j ys = Unit {0}

pub spelled_of : (m : Moves) (s : Scope) (h : Hint) (k : Kind) (i j : ℕ) (ps : Trees) → SpellingKept m k i j ps → Spelled m k i j (layout k (typings s k h ps [] ps))
spelled_of m s h kind.Integer i j ps e = e
spelled_of m s h kind.Rune i j ps e = e
spelled_of m s h kind.Text i j ps e = e
spelled_of m s h kind.Keyed i j ps e = e
spelled_of m s h kind.Selector i j ps e = e
spelled_of m s h kind.StructType i j ps e = all_held_read m (typings s kind.StructType h ps [] ps) (typings_read m s kind.StructType h ps [] ps tt e)
spelled_of m s h k i j ps e = tt

pub all_spelled : (m : Moves) (x : Tree) → ((i : ℕ) → m.spelled i ≡ true) → KeepsLast m x → KeepsSpelling m x
all_spelled m x all e = tree_spelled m all x e
