-- Where a statement list stands in a tree: paths from a node and from a row of parts.
use Rattle.std.proofs.Common.{◌≡◌, ◌∙◌, ℕ, zero, suc, Bool, true, false, List, [], ◌∷◌, drop, Some, None, refl, ap}
use Rattle.std.specs.Prelude.{◌&&◌}
use Rattle.go_grammar.specs.declared.kind.Category.{Category}
use Rattle.go_grammar.specs.declared.kind.Kind.{Kind}
use Rattle.go_grammar.specs.declared.kind.Kind.TheVariants as kind
use Rattle.go_grammar.specs.Categories.{place_of}
use Rattle.go_grammar.specs.Categories as categories
use Rattle.go_grammar.specs.Grammar.{rule}
use Rattle.go_grammar.specs.Rules.{Items, Rule, End, Then, Maybe, Unless, Many}
use Rattle.go_grammar.specs.Trees.{Tree, node, Trees, none, more, skip, kind_of, first, last, parts}
use Rattle.go_rewriting.specs.Lists.{items_at}
use Rattle.go_rewriting.specs.Replacing.{subtree_at, subtree_in, asked_at, asked_in, next_category, next_rule}
use Rattle.go_rewriting.specs.Sites.{items, is_clear, is_clear_in, is_free, may_change}
use Rattle.go_print_laws.specs.Calls.{AreStatements}
use Rattle.go_types.specs.Trees.{TypeTree}
use Rattle.go_typed.specs.declared.form.Form.{Form}
use Rattle.go_typed.specs.Forms.{values_count}
use Rattle.go_typed.specs.Lists.{present}
use Rattle.go_typed.specs.Trees.{Typeds, first_of, last_of, form_of}
use Rattle.go_exprs_rules.specs.Scopes.{Hint}
use Rattle.go_exprs_rules.specs.Settling.{Part}
use Rattle.go_exprs_rules.specs.Tables.{Parts, is_held}
use Rattle.go_stmts_defs.specs.Frames.{Frame}
use Rattle.go_stmts_defs.specs.Reading.{reading}
use Rattle.go_stmts_final_types.specs.Shapes.{IsShaped, AreShaped}
use Rattle.go_function_trees.specs.Lists.{parts_behind, statements_from, Faultless, tree_in, found_in}
use Rattle.go_function_trees.proofs.Listed.{Never, Lists, PartLists, EachLists, differ, lists-weaker, each-weaker, listless-part}

-- ---- parts that are read

pub record ReadAs (p : Tree) (x : Part) : Type 0 where
  pub frame : Frame
  pub hint : Hint
  pub is : x ≡ tree_in (reading frame hint p)
  pub faultless : Faultless (found_in (reading frame hint p))

abbrev pub IsPart : Tree → Part → Type 0
IsPart p x = (first_of x ≡ first p) × (last_of x ≡ last p) × ReadAs p x

abbrev pub AreParts : Trees → List Part → Type 0
AreParts none [] = Unit {0}
AreParts none (x ∷ xs) = ⊥
AreParts (more p ps) [] = ⊥
AreParts (more p ps) (x ∷ xs) = IsPart p x × AreParts ps xs
AreParts (skip ps) xs = ⊥

-- ---- lists

-- A path leads from the node to the node of a statement list of this form, with these tokens and these parts.
pub record Stood (c : Category) (t : Tree) (f : Form) (i j : ℕ) (qs : Typeds TypeTree) : Type 0 where
  pub path : List ℕ
  pub stood : Tree
  pub category : Category
  pub at_path : subtree_at path t ≡ Some stood
  pub asked : asked_at c path t ≡ Some category
  pub front : ℕ
  pub holds : statements_from (kind_of stood) ≡ Some front
  pub list : Items
  pub statements : AreStatements list
  pub is_list : items_at front (rule (place_of category) (kind_of stood)) ≡ Some list
  pub begins : first stood ≡ i
  pub ends : last stood ≡ j
  pub are : AreParts (parts_behind front (parts stood)) (drop (values_count f) (present qs))
  pub clear : (n m : ℕ) (new : Trees) → is_clear path (items n m new) t ≡ true

-- the same from a row of parts of a right side
pub record StoodIn (r : Rule) (ps : Trees) (f : Form) (i j : ℕ) (qs : Typeds TypeTree) : Type 0 where
  pub number : ℕ
  pub path : List ℕ
  pub stood : Tree
  pub category : Category
  pub at_path : subtree_in number path ps ≡ Some stood
  pub asked : asked_in r number path ps ≡ Some category
  pub front : ℕ
  pub holds : statements_from (kind_of stood) ≡ Some front
  pub list : Items
  pub statements : AreStatements list
  pub is_list : items_at front (rule (place_of category) (kind_of stood)) ≡ Some list
  pub begins : first stood ≡ i
  pub ends : last stood ≡ j
  pub are : AreParts (parts_behind front (parts stood)) (drop (values_count f) (present qs))
  pub clear : (n m : ℕ) (new : Trees) → is_clear_in number path (items n m new) ps ≡ true

stood-first : (r : Rule) (p : Tree) (ps : Trees) (f : Form) (i j : ℕ) (qs : Typeds TypeTree) → Stood (next_category r) p f i j qs → StoodIn r (more p ps) f i j qs
stood-first r p ps f i j qs h = record {
  number = 0;
  path = h.path;
  stood = h.stood;
  category = h.category;
  at_path = h.at_path;
  asked = h.asked;
  front = h.front;
  holds = h.holds;
  list = h.list;
  statements = h.statements;
  is_list = h.is_list;
  begins = h.begins;
  ends = h.ends;
  are = h.are;
  clear = h.clear;
}

stood-later : (r : Rule) (p : Tree) (ps : Trees) (f : Form) (i j : ℕ) (qs : Typeds TypeTree) → StoodIn (next_rule r) ps f i j qs → StoodIn r (more p ps) f i j qs
stood-later r p ps f i j qs h = record {
  number = suc h.number;
  path = h.path;
  stood = h.stood;
  category = h.category;
  at_path = h.at_path;
  asked = h.asked;
  front = h.front;
  holds = h.holds;
  list = h.list;
  statements = h.statements;
  is_list = h.is_list;
  begins = h.begins;
  ends = h.ends;
  are = h.are;
  clear = h.clear;
}

stood-skip : (r : Rule) (ps : Trees) (f : Form) (i j : ℕ) (qs : Typeds TypeTree) → StoodIn (next_rule r) ps f i j qs → StoodIn r (skip ps) f i j qs
stood-skip r ps f i j qs h = record {
  number = suc h.number;
  path = h.path;
  stood = h.stood;
  category = h.category;
  at_path = h.at_path;
  asked = h.asked;
  front = h.front;
  holds = h.holds;
  list = h.list;
  statements = h.statements;
  is_list = h.is_list;
  begins = h.begins;
  ends = h.ends;
  are = h.are;
  clear = h.clear;
}

free-change : (k : Kind) (n : ℕ) (path : List ℕ) → is_free k ≡ true → may_change k n path ≡ true
free-change kind.Parameters n path e = absurd (differ e)
free-change kind.AssigningRange n path e = absurd (differ e)
free-change kind.DefiningRange n path e = absurd (differ e)
free-change k zero path e = e
free-change k (suc n) path e = refl

both-true : (a b : Bool) → a ≡ true → b ≡ true → (a && b) ≡ true
both-true a b e f = ap (λ x. x && b) e ∙ f

pub stood-node : (c : Category) (k : Kind) (a b : ℕ) (ps : Trees) → is_free k ≡ true → (f : Form) (i j : ℕ) (qs : Typeds TypeTree) → StoodIn (rule (place_of c) k) ps f i j qs → Stood c (node k a b ps) f i j qs
stood-node c k a b ps e f i j qs h = record {
  path = h.number ∷ h.path;
  stood = h.stood;
  category = h.category;
  at_path = h.at_path;
  asked = h.asked;
  front = h.front;
  holds = h.holds;
  list = h.list;
  statements = h.statements;
  is_list = h.is_list;
  begins = h.begins;
  ends = h.ends;
  are = h.are;
  clear = λ n m new. both-true (may_change k h.number h.path) (is_clear_in h.number h.path (items n m new) ps) (free-change k h.number h.path e) (h.clear n m new);
}

-- ---- parts of a right side that are read

-- a statement has a form of its own
abbrev pub PartOf : Category → Tree → Part → Type 0
PartOf c p x = IsPart p x × (categories.is_statement (kind_of p) ≡ true → is_held (form_of x) ≡ false) × Lists (Stood c p) x

abbrev pub AreOf : Rule → Trees → Parts → Type 0
AreOf r none [] = Unit {0}
AreOf r none (z ∷ zs) = ⊥
AreOf r (more p ps) [] = ⊥
AreOf r (more p ps) (None ∷ zs) = ⊥
AreOf r (more p ps) (Some x ∷ zs) = PartOf (next_category r) p x × AreOf (next_rule r) ps zs
AreOf r (skip ps) [] = ⊥
AreOf r (skip ps) (z ∷ zs) = PartLists Never z × AreOf (next_rule r) ps zs

pub each-of : (r : Rule) (ps : Trees) (zs : Parts) → AreOf r ps zs → EachLists (StoodIn r ps) zs
each-of r none [] h = tt
each-of r none (z ∷ zs) h = absurd h
each-of r (more p ps) [] h = absurd h
each-of r (more p ps) (None ∷ zs) h = absurd h
each-of r (more p ps) (Some x ∷ zs) h = (
  lists-weaker (Stood (next_category r) p) (StoodIn r (more p ps)) (stood-first r p ps) x h.0.2,
  each-weaker (StoodIn (next_rule r) ps) (StoodIn r (more p ps)) (stood-later r p ps) zs (each-of (next_rule r) ps zs h.1),
)
each-of r (skip ps) [] h = absurd h
each-of r (skip ps) (z ∷ zs) h = (listless-part (StoodIn r (skip ps)) z h.0, each-weaker (StoodIn (next_rule r) ps) (StoodIn r (skip ps)) (stood-skip r ps) zs (each-of (next_rule r) ps zs h.1))

-- ---- shapes

pub shaped-more : (r : Rule) (p : Tree) (ps : Trees) → AreShaped r (more p ps) → IsShaped (next_category r) p × AreShaped (next_rule r) ps
shaped-more (End ws) p ps h = absurd h
shaped-more (Then ws c r) p ps h = h
shaped-more (Maybe ws c r) p ps h = h
shaped-more (Unless ws c us r) p ps h = h
shaped-more (Many ws l) p ps h = h

pub shaped-skip : (r : Rule) (ps : Trees) → AreShaped r (skip ps) → AreShaped (next_rule r) ps
shaped-skip (End ws) ps h = absurd h
shaped-skip (Then ws c r) ps h = absurd h
shaped-skip (Maybe ws c r) ps h = h
shaped-skip (Unless ws c us r) ps h = h
shaped-skip (Many ws l) ps h = absurd h
