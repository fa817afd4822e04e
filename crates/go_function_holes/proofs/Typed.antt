-- The holes of an expression stand in its tree.
use Rattle.std.proofs.Common.{◌≡◌, ◌∙◌, ℕ, zero, suc, Bool, true, false, List, [], ◌∷◌, ◌++◌, Option, Some, None, refl, sym, ap}
use Rattle.go_grammar.specs.declared.kind.Category.{Category}
use Rattle.go_grammar.specs.declared.kind.Kind.{Kind}
use Rattle.go_grammar.specs.declared.kind.Kind.TheVariants as kind
use Rattle.go_grammar.specs.Categories.{is_expression}
use Rattle.go_grammar.specs.Rules.{Rule, End, Then, Maybe, Unless, Many, item}
use Rattle.go_grammar.specs.Trees.{Tree, node, Trees, kind_of, first, last}
use Rattle.go_grammar.specs.Trees as syntax
use Rattle.go_rewriting.specs.Replacing.{subtree_in, asked_in, next_category, next_rule}
use Rattle.go_rewriting.specs.Sites.{may_change, is_free}
use Rattle.go_types.specs.Relations.{Rights}
use Rattle.go_typed.specs.Trees.{typed, form_of, sort_of, label_of}
use Rattle.go_exprs_rules.specs.declared.fault.TypeFault.{TypeFault}
use Rattle.go_exprs_rules.specs.Names.{place_failing}
use Rattle.go_exprs_rules.specs.Scopes.{Scope, Hint, type_place}
use Rattle.go_exprs_rules.specs.Settling.{Part, Take}
use Rattle.go_exprs_rules.specs.Sorts.{is_unknown}
use Rattle.go_exprs_rules.specs.Tables.{Parts, is_held, is_type, leaf, cut, all_given, is_placed, hint}
use Rattle.go_stmts_defs.specs.Targets.{is_variable}
use Rattle.clone_window.specs.Masses as masses
use Rattle.go_stmts_final_types.specs.Shapes.{IsShaped, AreShaped}
use Rattle.extract_names_derived.specs.Holes.{may_hold_holes, may_be_replaced}
use Rattle.go_function_trees.specs.Lists.{Faultless, parts_behind}
use Rattle.go_function_holes.specs.Holes.{is_operand_place}
use Rattle.go_function_holes.proofs.Below.{Below, IsPart, Operand, operand-part}
use Rattle.go_function_holes.proofs.Holed.{OfHole, Holes, PartHoles, EachHoles, Sound, PartSound, EachSound, differ, either, is_whole, given-holes, ungiven}
use Rattle.go_function_holes.proofs.ExpressionKinds.{judges_values, a-type}

-- ---- one part

abbrev pub is_bounds : Kind → Bool
is_bounds kind.Bounds = true
is_bounds kind.BoundsFrom = true
is_bounds k = false

pub record TypedPart (c : Category) (p : Tree) (h : Hint) (x : Part) : Type 0 where
  pub placed : is_placed (kind_of p) ≡ true → is_unknown (sort_of x) ≡ false → (rights : Rights) × (place_failing rights h (first p) (last p) (sort_of x) ≡ [])
  pub no_type : is_operand_place c ≡ true → judges_values h ≡ true → Sound x → is_type (sort_of x) ≡ false
  pub operand : is_operand_place c ≡ true → Sound x → is_type (sort_of x) ≡ false → Operand c p x
  pub signature : kind_of p ≡ kind.Signature → is_unknown (sort_of x) ≡ false → is_type (sort_of x) ≡ true
  pub bounds : is_bounds (kind_of p) ≡ true → is_unknown (sort_of x) ≡ false
  pub unheld : is_expression (kind_of p) ≡ true → is_held (form_of x) ≡ false
  -- a variable is no constant that names none
  pub variable : (rights : Rights) → is_variable rights x ≡ true → masses.is_constant (sort_of x) ≡ true → (label_of x).varies ≡ true

pub sound-known : (x : Part) → Sound x → is_unknown (sort_of x) ≡ false
sound-known (typed f i j l ps) h = h.0

-- ---- parts by their numbers

abbrev pub rules_behind : ℕ → Rule → Rule
rules_behind zero r = r
rules_behind (suc n) r = rules_behind n (next_rule r)

pub behind-there : (n : ℕ) (all : Trees) (p : Tree) (ps : Trees) → parts_behind n all ≡ syntax.more p ps → subtree_in n [] all ≡ Some p
behind-there zero syntax.none p ps e = absurd cc
behind-there zero (syntax.more q qs) p ps e = let same : q ≡ p = cc in ap (λ t. Some t) same
behind-there zero (syntax.skip qs) p ps e = absurd cc
behind-there (suc n) syntax.none p ps e = absurd cc
behind-there (suc n) (syntax.more q qs) p ps e = behind-there n qs p ps e
behind-there (suc n) (syntax.skip qs) p ps e = behind-there n qs p ps e

pub behind-asked : (n : ℕ) (r : Rule) (all : Trees) (p : Tree) (ps : Trees) → parts_behind n all ≡ syntax.more p ps → asked_in r n [] all ≡ Some (next_category (rules_behind n r))
behind-asked zero r syntax.none p ps e = absurd cc
behind-asked zero r (syntax.more q qs) p ps e = refl
behind-asked zero r (syntax.skip qs) p ps e = absurd cc
behind-asked (suc n) r syntax.none p ps e = absurd cc
behind-asked (suc n) r (syntax.more q qs) p ps e = behind-asked n (next_rule r) qs p ps e
behind-asked (suc n) r (syntax.skip qs) p ps e = behind-asked n (next_rule r) qs p ps e

pub behind-more : (n : ℕ) (all : Trees) (p : Tree) (ps : Trees) → parts_behind n all ≡ syntax.more p ps → parts_behind (suc n) all ≡ ps
behind-more zero syntax.none p ps e = absurd cc
behind-more zero (syntax.more q qs) p ps e = cc
behind-more zero (syntax.skip qs) p ps e = absurd cc
behind-more (suc n) syntax.none p ps e = absurd cc
behind-more (suc n) (syntax.more q qs) p ps e = behind-more n qs p ps e
behind-more (suc n) (syntax.skip qs) p ps e = behind-more n qs p ps e

pub behind-skip : (n : ℕ) (all : Trees) (ps : Trees) → parts_behind n all ≡ syntax.skip ps → parts_behind (suc n) all ≡ ps
behind-skip zero syntax.none ps e = absurd cc
behind-skip zero (syntax.more q qs) ps e = absurd cc
behind-skip zero (syntax.skip qs) ps e = cc
behind-skip (suc n) syntax.none ps e = absurd cc
behind-skip (suc n) (syntax.more q qs) ps e = behind-skip n qs ps e
behind-skip (suc n) (syntax.skip qs) ps e = behind-skip n qs ps e

pub rules-next : (n : ℕ) (r : Rule) → rules_behind (suc n) r ≡ next_rule (rules_behind n r)
rules-next zero r = refl
rules-next (suc n) r = rules-next n (next_rule r)

pub shaped-more : (r : Rule) (p : Tree) (ps : Trees) → AreShaped r (syntax.more p ps) → IsShaped (next_category r) p × AreShaped (next_rule r) ps
shaped-more (End ws) p ps h = absurd h
shaped-more (Then ws c r) p ps h = h
shaped-more (Maybe ws c r) p ps h = h
shaped-more (Unless ws c us r) p ps h = h
shaped-more (Many ws l) p ps h = h

pub shaped-skip : (r : Rule) (ps : Trees) → AreShaped r (syntax.skip ps) → AreShaped (next_rule r) ps
shaped-skip (End ws) ps h = absurd h
shaped-skip (Then ws c r) ps h = absurd h
shaped-skip (Maybe ws c r) ps h = h
shaped-skip (Unless ws c us r) ps h = h
shaped-skip (Many ws l) ps h = absurd h

pub front-faultless : (fs gs : List (List TypeFault)) → Faultless (fs ++ gs) → Faultless fs
front-faultless [] gs h = tt
front-faultless (f ∷ fs) gs h = (h.0, front-faultless fs gs h.1)

pub back-faultless : (fs gs : List (List TypeFault)) → Faultless (fs ++ gs) → Faultless gs
back-faultless [] gs h = h
back-faultless (f ∷ fs) gs h = back-faultless fs gs h.1

-- ---- a row of parts

-- the parts from the number n on, behind those that are typed so, in a node of this kind
abbrev pub Row : Category → Kind → Trees → Scope → Hint → Rule → ℕ → Parts → Trees → Parts → Type 0
Row c k all s h r n xs syntax.none [] = Unit {0}
Row c k all s h r n xs syntax.none (z ∷ zs) = ⊥
Row c k all s h r n xs (syntax.more p ps) [] = ⊥
Row c k all s h r n xs (syntax.more p ps) (None ∷ zs) = ⊥
Row c k all s h r n xs (syntax.more p ps) (Some x ∷ zs) =
    (may_hold_holes k ≡ true → IsPart c k all n (next_category r) p) × TypedPart (next_category r) p (hint s k h all xs (kind_of p)) x × Row c k all s h (next_rule r) (suc n) (xs ++ Some x ∷ []) ps zs
Row c k all s h r n xs (syntax.skip ps) [] = ⊥
Row c k all s h r n xs (syntax.skip ps) (None ∷ zs) = Row c k all s h (next_rule r) (suc n) (xs ++ None ∷ []) ps zs
Row c k all s h r n xs (syntax.skip ps) (Some x ∷ zs) = ⊥

free-change : (k : Kind) (n : ℕ) (path : List ℕ) → is_free k ≡ true → may_change k n path ≡ true
free-change kind.Parameters n path e = absurd (differ e)
free-change kind.AssigningRange n path e = absurd (differ e)
free-change kind.DefiningRange n path e = absurd (differ e)
free-change k zero path e = e
free-change k (suc n) path e = refl

-- each part may change as it likes, and some may become names
pub record IsOpen (k : Kind) : Type 0 where
  pub holds : may_hold_holes k ≡ true
  pub change : (n : ℕ) (path : List ℕ) → may_change k n path ≡ true

pub open-free : (k : Kind) → may_hold_holes k ≡ true → is_free k ≡ true → IsOpen k
open-free k e f = record { holds = e; change = λ n path. free-change k n path f }

-- what is told of all parts behind so many typed ones
abbrev pub ToldValues : Kind → Trees → Scope → Hint → (Parts → Type 0) → Type 0
ToldValues k all s h C = (xs : Parts) → C xs → ((q : Kind) → judges_values (hint s k h all xs q) ≡ true) × ((y : Option Part) → C (xs ++ y ∷ []))

module _ (c : Category) (k : Kind) (i j : ℕ) (all : Trees) (s : Scope) (h : Hint) (open_kind : IsOpen k) where
  abbrev P : Bool → OfHole
  P o = Below o c (node k i j all)

  -- one part that is an operand
  pub operand-holes : (o : Bool) (n : ℕ) (d : Category) (p : Tree) (x : Part) → IsPart c k all n d p → is_operand_place d ≡ true → (g : Hint) → TypedPart d p g x → Sound x → is_type (sort_of x) ≡ false
      → (is_whole x ≡ true → may_be_replaced o k n ≡ true) → Holes (P o) x
  operand-holes o n d p x at e g part sound t r = operand-part o c k i j all n d p at (open_kind.change n) x (part.operand e sound t) (λ u v. r u)

  -- all of them
  abbrev OperandRule : Rule → Type 0
  OperandRule (End ws) = Unit {0}
  OperandRule (Then ws d r) = (is_operand_place d ≡ true) × OperandRule r
  OperandRule (Maybe ws d r) = (is_operand_place d ≡ true) × OperandRule r
  OperandRule (Unless ws d us r) = (is_operand_place d ≡ true) × OperandRule r
  OperandRule (Many ws l) = is_operand_place (item l) ≡ true

  operand-more : (r : Rule) (p : Tree) (ps : Trees) → AreShaped r (syntax.more p ps) → OperandRule r → (is_operand_place (next_category r) ≡ true) × OperandRule (next_rule r)
  operand-more (End ws) p ps w e = absurd w
  operand-more (Then ws d r) p ps w e = e
  operand-more (Maybe ws d r) p ps w e = e
  operand-more (Unless ws d us r) p ps w e = e
  operand-more (Many ws l) p ps w e = (e, e)

  operand-skip : (r : Rule) (ps : Trees) → AreShaped r (syntax.skip ps) → OperandRule r → OperandRule (next_rule r)
  operand-skip (End ws) ps w e = absurd w
  operand-skip (Then ws d r) ps w e = absurd w
  operand-skip (Maybe ws d r) ps w e = e.1
  operand-skip (Unless ws d us r) ps w e = e.1
  operand-skip (Many ws l) ps w e = absurd w

  pub row-holes-all : (o : Bool) (C : Parts → Type 0) → ToldValues k all s h C → ((n : ℕ) → may_be_replaced o k (suc n) ≡ true) → (r : Rule) (n : ℕ) (xs : Parts) (ps : Trees) (zs : Parts)
      → may_be_replaced o k n ≡ true → C xs → OperandRule r → AreShaped r ps → Row c k all s h r n xs ps zs → EachSound zs → EachHoles (P o) zs
  row-holes-all o C told rep r n xs syntax.none [] first u e w g sd = tt
  row-holes-all o C told rep r n xs syntax.none (z ∷ zs) first u e w g sd = absurd g
  row-holes-all o C told rep r n xs (syntax.more p ps) [] first u e w g sd = absurd g
  row-holes-all o C told rep r n xs (syntax.more p ps) (None ∷ zs) first u e w g sd = absurd g
  row-holes-all o C told rep r n xs (syntax.more p ps) (Some x ∷ zs) first u e w g sd =
      let at = operand-more r p ps w e in
      let t = told xs u in (
        operand-holes o n (next_category r) p x (g.0 open_kind.holds) at.0 (hint s k h all xs (kind_of p)) g.1 sd.0 (g.1.no_type at.0 (t.0 (kind_of p)) sd.0) (λ q. first),
        row-holes-all o C told rep (next_rule r) (suc n) (xs ++ Some x ∷ []) ps zs (rep n) (t.1 (Some x)) at.1 (shaped-more r p ps w).1 g.2 sd.1,
      )
  row-holes-all o C told rep r n xs (syntax.skip ps) [] first u e w g sd = absurd g
  row-holes-all o C told rep r n xs (syntax.skip ps) (None ∷ zs) first u e w g sd =
      (tt, row-holes-all o C told rep (next_rule r) (suc n) (xs ++ None ∷ []) ps zs (rep n) ((told xs u).1 None) (operand-skip r ps w e) (shaped-skip r ps w) g sd.1)
  row-holes-all o C told rep r n xs (syntax.skip ps) (Some x ∷ zs) first u e w g sd = absurd g

-- ---- what is laid out and given

module _ (P : OfHole) where
  pub all-given-holes : (ks : List Take) (ys : Parts) → EachHoles P ys → EachHoles P (all_given ks ys)
  all-given-holes [] ys h = h
  all-given-holes (k ∷ ks) [] h = tt
  all-given-holes (k ∷ ks) (None ∷ ys) h = (tt, all-given-holes ks ys h.1)
  all-given-holes (k ∷ ks) (Some y ∷ ys) h = (given-holes P k y h.0, all-given-holes ks ys h.1)

  leaf-holes : (x : Part) → Holes P (leaf x)
  leaf-holes (typed f i j l ps) = (tt, tt)

  pub cut-holes : (y : Part) → (is_type (sort_of y) ≡ false → Holes P y) → PartHoles P (cut (Some y))
  cut-holes y g = either (PartHoles P) (is_type (sort_of y)) (Some (leaf y)) (Some y) (λ e. leaf-holes y) g

pub all-given-sound : (ks : List Take) (ys : Parts) → EachSound (all_given ks ys) → EachSound ys
all-given-sound [] ys h = h
all-given-sound (k ∷ ks) [] h = tt
all-given-sound (k ∷ ks) (None ∷ ys) h = (tt, all-given-sound ks ys h.1)
all-given-sound (k ∷ ks) (Some y ∷ ys) h = (ungiven k y h.0, all-given-sound ks ys h.1)

pub cut-known : (y : Part) → PartSound (cut (Some y)) → is_unknown (sort_of y) ≡ false
cut-known y h = either (λ (z : Option Part). PartSound z → is_unknown (sort_of y) ≡ false) (is_type (sort_of y)) (Some (leaf y)) (Some y) (λ e u. leafed y u) (λ e u. sound-known y u) h where
  leafed : (z : Part) → Sound (leaf z) → is_unknown (sort_of z) ≡ false
  leafed (typed f i j l ps) u = u.0

pub cut-sound : (y : Part) → is_type (sort_of y) ≡ false → PartSound (cut (Some y)) → Sound y
cut-sound y e h = either (λ (z : Option Part). PartSound z → Sound y) (is_type (sort_of y)) (Some (leaf y)) (Some y) (λ t u. absurd (differ (sym e ∙ t))) (λ t u. u) h

-- where a type has to stand nothing but a type is, and that is cut
pub type-cut : (P : OfHole) (c : Category) (p : Tree) (y : Part) → is_placed (kind_of p) ≡ true → TypedPart c p type_place y → PartSound (cut (Some y)) → PartHoles P (cut (Some y))
type-cut P c p y e part h =
    let known = cut-known y h in
    let q = part.placed e known in
    cut-holes P y (λ t. absurd (differ (sym t ∙ a-type q.0 (first p) (last p) (sort_of y) q.1 known)))
