-- Paths from a node to the expressions in its parts that may become names.
use Rattle.std.proofs.Common.{◌≡◌, ◌∙◌, ℕ, Bool, true, false, List, [], ◌∷◌, Some, sym, ap, subst}
use Rattle.go_grammar.specs.declared.kind.Category.{Category}
use Rattle.go_grammar.specs.declared.kind.Kind.{Kind}
use Rattle.go_grammar.specs.declared.kind.Level.TheVariants as level
use Rattle.go_grammar.specs.Categories.{place_of, is_expression}
use Rattle.go_grammar.specs.Grammar.{rule}
use Rattle.go_grammar.specs.Trees.{Tree, node, Trees, kind_of, first, last}
use Rattle.go_rewriting.specs.Replacing.{asked_in, takes_level}
use Rattle.go_rewriting.specs.Sites.{may_change}
use Rattle.go_typed.specs.Trees.{list_of, form_of, parts_of}
use Rattle.go_exprs_rules.specs.Scopes.{Hint}
use Rattle.go_exprs_rules.specs.Settling.{Part}
use Rattle.go_exprs_rules.specs.Tables.{Parts, is_held, held}
use Rattle.extract_names_derived.specs.Holes.{may_be_replaced, gives_operands}
use Rattle.go_function_holes.specs.Holes.{is_operand_place}
use Rattle.go_function_holes.proofs.Public.{Below, IsPart, OfHole, TypedPart, all-weaker, deeper, either, differ, holes-here, holes-weaker, itself, judges_values}
use Rattle.go_function_holes_windows.proofs.Rows.{Each, Good, Fine, each-weaker}

-- in a part: below it, or it itself
pub data Within (o : Bool) (c : Category) (p : Tree) (i j : ℕ) : Type 0 where
  below : Below o c p i j → Within o c p i j
  alone : is_expression (kind_of p) ≡ true → takes_level level.Primary c ≡ true → first p ≡ i → last p ≡ j → Within o c p i j

module _ (o : Bool) (c : Category) (k : Kind) (a b : ℕ) (ps : Trees) (n : ℕ) (d : Category) (p : Tree) (at : IsPart c k ps n d p) (m : (path : List ℕ) → may_change k n path ≡ true) (r : takes_level level.Primary d ≡ true → may_be_replaced o k n ≡ true) where
  pub lifted : (i j : ℕ) → Within (gives_operands k n) d p i j → Below o c (node k a b ps) i j
  lifted i j (below h) = deeper o c k a b ps n d p at i j h (m (h.part ∷ h.path))
  lifted i j (alone e t f l) = subst (λ x. Below o c (node k a b ps) x j) f (subst (λ y. Below o c (node k a b ps) (first p) y) l (itself o c k a b ps n d p at e t (r t) (m [])))

-- whatever holes it is said of
pub good-weaker : (P Q : OfHole) → ((i j : ℕ) → P i j → Q i j) → (x : Part) → Good P x → Good Q x
good-weaker P Q g x h = λ s. holes-weaker P Q g x (h s)

pub each-weaker-holes : (P Q : OfHole) → ((i j : ℕ) → P i j → Q i j) → (xs : Parts) → Each (Good P) xs → Each (Good Q) xs
each-weaker-holes P Q g xs h = each-weaker (Good P) (Good Q) (good-weaker P Q g) xs h

pub fine-within : (o : Bool) (c : Category) (p : Tree) (x : Part) → Fine (Below o c p) x → Fine (Within o c p) x
fine-within o c p x h = each-weaker-holes (Below o c p) (Within o c p) (λ i j q. below q) (held (Some x)) h

-- where the same is asked for in the parts
placed-alike : (o : Bool) (c d : Category) (p : Tree) → place_of d ≡ place_of c → (i j : ℕ) → Below o d p i j → Below o c p i j
placed-alike o c d (node k a b ps) e i j h = record {
  part = h.part;
  path = h.path;
  stood = h.stood;
  category = h.category;
  at_path = h.at_path;
  asked = ap (λ q. asked_in (rule q k) h.part h.path ps) (sym e) ∙ h.asked;
  takes = h.takes;
  expression = h.expression;
  begins = h.begins;
  ends = h.ends;
  clear = h.clear;
  named = h.named;
}

one-held : (D : Part → Type 0) (x : Part) → is_held (form_of x) ≡ false → D x → Each D (held (Some x))
one-held D x e h = either (Each D) (is_held (form_of x)) (list_of (parts_of x)) (Some x ∷ []) (λ t. absurd (differ (sym e ∙ t))) (λ t. (h, tt))

-- an expression as a part, where that of the category d may stand
pub operand-fine : (o : Bool) (c d : Category) (g : Hint) (p : Tree) (x : Part) → place_of d ≡ place_of c → takes_level level.Primary c ≡ true → is_operand_place d ≡ true → is_expression (kind_of p) ≡ true → judges_values g ≡ true → TypedPart d p g x → Fine (Within o c p) x
operand-fine o c d g p x e t u k v part = one-held (Good (Within o c p)) x (part.unheld k) good where
  good : Good (Within o c p) x
  good = λ s.
      let operand = part.operand u s (part.no_type u v s) in
      holes-here (Within o c p) x (λ w n. alone k t (sym operand.begins) (sym operand.ends)) (all-weaker (Below o d p) (Within o c p) (λ i j q. below (placed-alike o c d p e i j q)) (parts_of x) (operand.inside o))
