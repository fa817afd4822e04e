-- The statements of a node that lists them are its parts, behind the values of a case.
use Rattle.std.proofs.Common.{◌≡◌, ◌∙◌, ℕ, true, false, if◌then◌else◌, List, [], ◌∷◌, ◌++◌, drop, length, replicate, Some, None, refl, sym, ap, subst}
use Rattle.go_grammar.specs.declared.kind.Category.{Category}
use Rattle.go_grammar.specs.declared.kind.Category.TheVariants as category
use Rattle.go_grammar.specs.declared.kind.Kind.{Kind}
use Rattle.go_grammar.specs.declared.kind.Kind.TheVariants as kind
use Rattle.go_grammar.specs.declared.kind.Sort.TheVariants as declaring
use Rattle.go_grammar.specs.declared.kind.Place.{Place}
use Rattle.go_grammar.specs.Categories as categories
use Rattle.go_grammar.specs.Categories.{within, place_of}
use Rattle.go_grammar.specs.Grammar.{rule}
use Rattle.go_grammar.specs.Rules.{Items, Many, item}
use Rattle.go_grammar.specs.Trees.{Tree, node, Trees, kind_of, first, last}
use Rattle.go_grammar.specs.Trees as syntax
use Rattle.go_tokens.specs.declared.token.TokenKind.{TokenKind}
use Rattle.go_rewriting.specs.Lists.{in_block, in_clause}
use Rattle.go_print_laws.specs.Calls.{of_block, of_clause}
use Rattle.go_typed.specs.Forms.{is_statement_list}
use Rattle.go_typed.specs.Lists.{present}
use Rattle.go_typed.specs.Trees.{row, list_of, parts_of}
use Rattle.go_exprs_rules.specs.Scopes.{Hint}
use Rattle.go_exprs_rules.specs.Settling.{Part}
use Rattle.go_exprs_rules.specs.Tables.{Parts, is_held, held, all_held}
use Rattle.go_stmts_defs.specs.Assigning.{Taking}
use Rattle.go_stmts_defs.specs.Frames.{Frame}
use Rattle.go_stmts_defs.specs.Laying.{told, layout, form_by}
use Rattle.go_stmts_defs.specs.Reading.{reading, holding, holdings}
use Rattle.go_stmts_defs.specs.Rules.{taking, all_given}
use Rattle.go_stmts_final_types.specs.Shapes.{IsShaped, AreShaped}
use Rattle.go_function_trees.specs.Lists.{tree_in}
use Rattle.go_function_trees.proofs.Listed.{differ}
use Rattle.go_function_trees.proofs.Held.{first-loop-plain, first-loop-unheld}
use Rattle.go_function_trees.proofs.Stood.{ReadAs, AreParts, Stood, AreOf}

-- ---- forms

-- statements have forms of their own
pub form-unheld : (k : Kind) (xs : Parts) → categories.is_statement k ≡ true → is_held (form_by k xs) ≡ false
form-unheld (kind.Declaration declaring.Constant) xs e = refl
form-unheld (kind.Declaration declaring.Type) xs e = refl
form-unheld (kind.Declaration declaring.Variable) xs e = refl
form-unheld kind.Return xs e = refl
form-unheld kind.Break xs e = refl
form-unheld kind.Continue xs e = refl
form-unheld kind.Fallthrough xs e = refl
form-unheld kind.Block xs e = refl
form-unheld kind.If xs e = refl
form-unheld kind.Switch xs e = refl
form-unheld kind.For xs e = first-loop-unheld xs
form-unheld kind.ExpressionStatement xs e = refl
form-unheld (kind.StepStatement o) xs e = refl
form-unheld kind.Assignment xs e = refl
form-unheld (kind.OperatorAssignment o) xs e = refl
form-unheld kind.Define xs e = refl
form-unheld k xs e = absurd (differ e)

-- ---- statements alone

-- where statements alone are left, each is one
abbrev AreStatements : syntax.Trees → Type 0
AreStatements syntax.none = Unit {0}
AreStatements (syntax.more p ps) = (categories.is_statement (kind_of p) ≡ true) × AreStatements ps
AreStatements (syntax.skip ps) = ⊥

shaped-statement : (t : Tree) → IsShaped category.Statement t → categories.is_statement (kind_of t) ≡ true
shaped-statement (node k i j ps) h = h.0

many-statements : (ws : List TokenKind) (l : Items) (ps : Trees) → item l ≡ category.Statement → AreShaped (Many ws l) ps → AreStatements ps
many-statements ws l syntax.none e h = tt
many-statements ws l (syntax.more p ps) e h = (shaped-statement p (subst (λ c. IsShaped c p) e h.0), many-statements ws l ps e h.1)
many-statements ws l (syntax.skip ps) e h = absurd h

module _ (ws : List TokenKind) (l : Items) where
  -- the parts that are there
  all-parts : (ps : Trees) (zs : Parts) → AreStatements ps → AreOf (Many ws l) ps zs → AreParts ps (present (row zs))
  all-parts syntax.none [] s h = tt
  all-parts syntax.none (z ∷ zs) s h = absurd h
  all-parts (syntax.more p ps) [] s h = absurd h
  all-parts (syntax.more p ps) (None ∷ zs) s h = absurd h
  all-parts (syntax.more p ps) (Some x ∷ zs) s h = (h.0.0, all-parts ps zs s.1 h.1)
  all-parts (syntax.skip ps) zs s h = absurd s

  all-unheld : (ps : Trees) (zs : Parts) → AreStatements ps → AreOf (Many ws l) ps zs → all_held zs ≡ zs
  all-unheld syntax.none [] s h = refl
  all-unheld syntax.none (z ∷ zs) s h = absurd h
  all-unheld (syntax.more p ps) [] s h = absurd h
  all-unheld (syntax.more p ps) (None ∷ zs) s h = absurd h
  all-unheld (syntax.more p ps) (Some x ∷ zs) s h =
      ap (λ b. (if b then list_of (parts_of x) else Some x ∷ []) ++ all_held zs) (h.0.1 s.0) ∙ ap (λ ys. Some x ∷ ys) (all-unheld ps zs s.1 h.1)
  all-unheld (syntax.skip ps) zs s h = absurd s

-- ---- the values of a case

abbrev AreThere : Parts → Type 0
AreThere [] = Unit {0}
AreThere (None ∷ xs) = ⊥
AreThere (Some x ∷ xs) = AreThere xs

more-there : (xs : Parts) (x : Part) → AreThere xs → AreThere (xs ++ Some x ∷ [])
more-there [] x h = tt
more-there (None ∷ xs) x h = absurd h
more-there (Some y ∷ xs) x h = more-there xs x h

row-there : (xs : Parts) → AreThere xs → AreThere (list_of (row xs))
row-there [] h = tt
row-there (None ∷ xs) h = absurd h
row-there (Some x ∷ xs) h = row-there xs h

holdings-there : (ws : List TokenKind) (l : Items) (s : Frame) (k : Kind) (h : Hint) (all : Trees) (xs : Parts) (ps : Trees) → AreThere xs → AreShaped (Many ws l) ps → AreThere (holdings s k h all xs ps)
holdings-there ws l s k h all xs syntax.none t w = t
holdings-there ws l s k h all xs (syntax.more p ps) t w =
    let x = holding s (told k h all xs (kind_of p)) p in holdings-there ws l s k h all (xs ++ Some x ∷ []) ps (more-there xs x t) w.1
holdings-there ws l s k h all xs (syntax.skip ps) t w = absurd w

list-there : (q : Place) (s : Frame) (h : Hint) (i j : ℕ) (ps : Trees) → AreShaped (rule q kind.ExpressionList) ps → AreThere (holdings s kind.ExpressionList h ps [] ps)
list-there q s h i j syntax.none w = absurd w
list-there q s h i j (syntax.skip ps) w = absurd w
list-there q s h i j (syntax.more p ps) w = holdings-there _ _ s kind.ExpressionList h (syntax.more p ps) (Some (holding s (told kind.ExpressionList h (syntax.more p ps) [] (kind_of p)) p) ∷ []) ps tt w.1

read-there : (q : Place) (s : Frame) (h : Hint) (t : Tree) → IsShaped (category.ExpressionList q) t → AreThere (held (Some (tree_in (reading s h t))))
read-there q s h (node kind.ExpressionList i j ps) w = row-there (holdings s kind.ExpressionList h ps [] ps) (list-there q s h i j ps w.1)
read-there q s h (node k i j ps) w = absurd (differ w.0)

values-there : (q : Place) (t : Tree) (x : Part) → IsShaped (category.ExpressionList q) t → ReadAs t x → AreThere (held (Some x))
values-there q t x w r = subst (λ y. AreThere (held (Some y))) (sym r.is) (read-there q r.frame r.hint t w)

behind-values : (t : Taking) (hs ws : Parts) → AreThere hs → drop (length hs) (present (row (all_given (replicate (length hs) t) (hs ++ ws)))) ≡ present (row ws)
behind-values t [] ws h = refl
behind-values t (None ∷ hs) ws h = absurd h
behind-values t (Some x ∷ hs) ws h = behind-values t hs ws h

-- ---- the node itself

module _ (c : Category) (s : Frame) (i j : ℕ) where
  abbrev Own : Kind → Trees → Parts → Type 0
  Own k ps zs = let f = form_by k zs in let ys = layout s k i zs in Stood c (node k i j ps) f i j (row (all_given (taking s k f ys) ys))

  block-own : (ps : Trees) (zs : Parts) → AreShaped (rule (place_of c) kind.Block) ps → AreOf (rule (place_of c) kind.Block) ps zs → Own kind.Block ps zs
  block-own ps zs w h = record {
    path = [];
    stood = node kind.Block i j ps;
    category = c;
    at_path = refl;
    asked = refl;
    front = 0;
    holds = refl;
    list = in_block;
    statements = of_block;
    is_list = refl;
    begins = refl;
    ends = refl;
    are = all-parts _ _ ps zs (many-statements _ _ ps refl w) h;
    clear = λ n m new. refl;
  }

  default-own : (ps : Trees) (zs : Parts) → AreShaped (rule (place_of c) kind.Default) ps → AreOf (rule (place_of c) kind.Default) ps zs → Own kind.Default ps zs
  default-own ps zs w h = record {
    path = [];
    stood = node kind.Default i j ps;
    category = c;
    at_path = refl;
    asked = refl;
    front = 0;
    holds = refl;
    list = in_clause;
    statements = of_clause;
    is_list = refl;
    begins = refl;
    ends = refl;
    are = all-parts _ _ ps zs (many-statements _ _ ps refl w) h;
    clear = λ n m new. refl;
  }

  case-own : (ps : Trees) (zs : Parts) → AreShaped (rule (place_of c) kind.Case) ps → AreOf (rule (place_of c) kind.Case) ps zs → Own kind.Case ps zs
  case-own syntax.none zs w h = absurd w
  case-own (syntax.skip ps) zs w h = absurd w
  case-own (syntax.more e ps) [] w h = absurd h
  case-own (syntax.more e ps) (None ∷ zs) w h = absurd h
  case-own (syntax.more e ps) (Some x ∷ zs) w h =
      let hs = held (Some x) in
      let ss = many-statements _ _ ps refl w.1 in
      let same : all_held zs ≡ zs = all-unheld _ _ ps zs ss h.1 in
      record {
        path = [];
        stood = node kind.Case i j (syntax.more e ps);
        category = c;
        at_path = refl;
        asked = refl;
        front = 1;
        holds = refl;
        list = in_clause;
        statements = of_clause;
        is_list = refl;
        begins = refl;
        ends = refl;
        are = subst (AreParts ps) (sym (behind-values _ hs (all_held zs) (values-there _ e x w.0 h.0.0.2) ∙ ap (λ ys. present (row ys)) same)) (all-parts _ _ ps zs ss h.1);
        clear = λ n m new. refl;
      }

  -- a node that lists statements
  pub own : (k : Kind) (ps : Trees) (zs : Parts) → AreShaped (rule (place_of c) k) ps → AreOf (rule (place_of c) k) ps zs → is_statement_list (form_by k zs) ≡ true → Own k ps zs
  own kind.Block ps zs w h e = block-own ps zs w h
  own kind.Default ps zs w h e = default-own ps zs w h
  own kind.Case ps zs w h e = case-own ps zs w h
  own kind.For ps zs w h e = absurd (differ (sym (first-loop-plain zs) ∙ e))
  own (kind.Declaration declaring.Constant) ps zs w h e = absurd (differ e)
  own (kind.Declaration declaring.Type) ps zs w h e = absurd (differ e)
  own (kind.Declaration declaring.Variable) ps zs w h e = absurd (differ e)
  own (kind.Specification declaring.Constant) ps zs w h e = absurd (differ e)
  own (kind.Specification declaring.Type) ps zs w h e = absurd (differ e)
  own (kind.Specification declaring.Variable) ps zs w h e = absurd (differ e)
  own k ps zs w h e = absurd (differ e)
