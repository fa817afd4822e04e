-- From a node that fits to a part that waits for its type with the node.
use Rattle.std.proofs.Common.{◌≡◌, ◌∙◌, ℕ, Bool, true, false, [], ◌∷◌, Option, Some, None, refl, sym, ap}
use Rattle.std.specs.Prelude.{◌&&◌, ◌||◌, not, is_some}
use Rattle.std.specs.List.{list_any}
use Rattle.go_grammar.specs.declared.kind.Kind.{Kind}
use Rattle.go_grammar.specs.declared.kind.Kind.TheVariants as kind
use Rattle.go_types.specs.Trees.{TypeTree}
use Rattle.go_types.specs.Relations.{Rights}
use Rattle.go_typed.specs.declared.form.Form.{Form}
use Rattle.go_typed.specs.Trees.{Sort, Label, typed, Typeds, sort_of}
use Rattle.go_typed.specs.Trees as sort
use Rattle.go_exprs_rules.specs.declared.family.OpenKind.{OpenKind}
use Rattle.go_exprs_rules.specs.Scopes.{Scope, Hint}
use Rattle.go_exprs_rules.specs.Settling.{Part, settled, unrepresented, all_unrepresented}
use Rattle.go_exprs_rules.specs.Sorts.{Stands, is_constant, is_open, is_unknown, open_kind, suits, family_of_open}
use Rattle.go_exprs_rules.specs.Tables.{Parts, is_judged, is_lost, is_placed, is_sound, own_faults, no_faults, built_by, built_on}
use Rattle.clone_window.specs.Masses as masses
use Rattle.go_exprs_variables.specs.Variables as variables
use Rattle.go_exprs_variables.specs.Variables.{Standins, expresses, wanted, begun, Fits, WillFit}
use Rattle.go_exprs_variables.proofs.Holes.{never_unknown}
use Rattle.go_exprs_variables.proofs.Identities.{tree_self}
use Rattle.go_exprs_variables.proofs.Meeting.{by_family}
use Rattle.go_exprs_variables.proofs.NodeSteps.{parts_fit, parts_fit_later}
use Rattle.go_exprs_variables.proofs.Parts.{both_none}

-- ---- tests

pub placed_kind : (k : Kind) → expresses k ≡ true → is_placed k ≡ true
placed_kind kind.Name e = refl
placed_kind kind.Integer e = refl
placed_kind kind.Rune e = refl
placed_kind kind.Text e = refl
placed_kind kind.Parenthesized e = refl
placed_kind (kind.Unary o) e = refl
placed_kind (kind.Binary o) e = refl
placed_kind kind.Selector e = refl
placed_kind kind.Bracketed e = refl
placed_kind kind.Call e = refl
placed_kind kind.Composite e = refl
placed_kind kind.LiteralValue e = refl
placed_kind k e = cc

pub plain_tests : (z : Stands) → masses.is_constant z ≡ false → is_constant z ≡ false
plain_tests (sort.Constant t c) e = cc
plain_tests (sort.OpenConstant c) e = cc
plain_tests z e = refl

not_either : (b c : Bool) → not (b || c) ≡ true → (b ≡ false) × (not c ≡ true)
not_either true c e = cc
not_either false c e = (refl, e)

-- parts that are judged are known
pub known_first : (x : Part) (ys : Parts) → is_judged (Some x ∷ ys) ≡ true → (is_unknown (sort_of x) ≡ false) × (is_judged ys ≡ true)
known_first x ys e = not_either (is_unknown (sort_of x)) (list_any is_lost ys) e

module _ (w : Standins) where
  pub known_sort : (rights : Rights) (x : Part) → WillFit rights w false x → is_unknown (sort_of x) ≡ false
  known_sort rights x fits = by_test (is_unknown (sort_of x)) refl
    where
      by_test : (b : Bool) → is_unknown (sort_of x) ≡ b → b ≡ false
      by_test false e = refl
      by_test true e = absurd (never_unknown rights w x fits e)

  module _ (s : Scope) (h : Hint) (i j : ℕ) where
    judged_by : (k : Kind) (ys : Parts) (b : Bool) → is_placed k ≡ true → is_sound k ys (own_faults s k h i j ys) ≡ b → WillFit s.rights w false (built_by s k h i j ys b) → is_judged ys ≡ true
    judged_by k ys true p e fits = first (is_judged ys) (no_faults (own_faults s k h i j ys)) (sym (ap (λ z. not z || (is_judged ys && no_faults (own_faults s k h i j ys))) p) ∙ e)
      where
        first : (b c : Bool) → (b && c) ≡ true → b ≡ true
        first true c e = refl
        first false c e = cc
    judged_by k ys false p e fits = absurd (never_unknown s.rights w (built_by s k h i j ys false) fits refl)

    -- the parts of a node that will fit are known
    pub judged : (k : Kind) (ys : Parts) → expresses k ≡ true → WillFit s.rights w false (built_on s k h i j ys) → is_judged ys ≡ true
    judged k ys e fits = judged_by k ys (is_sound k ys (own_faults s k h i j ys)) (placed_kind k e) refl fits

  -- ---- a part that waits

  module _ (rights : Rights) where
    -- It has its type and fits; or it takes the type that the node takes later, has the constants in it, and fits then.
    pub data Waits (x : Part) : Option TypeTree → Type 0 where
      has_type : is_open (sort_of x) ≡ false → Fits w false x → Waits x None
      waits : (t : TypeTree) (k : OpenKind) → open_kind (sort_of x) ≡ Some k → suits rights k t ≡ true → unrepresented rights t x ≡ [] → Fits w false (settled t x) → Waits x (Some t)

    pub will_of : (u : Option TypeTree) (x : Part) → Waits x u → WillFit rights w false x
    will_of None x (has_type e fits) = variables.has e fits
    will_of (Some t) x (waits t' k e m r fits) = variables.takes t k e m (λ c. r) fits

    no_kind : (z : Stands) → open_kind z ≡ None → is_open z ≡ false
    no_kind z e = ap is_some e

    waits_by : (f : Form) (i j : ℕ) (l : Label TypeTree) (x : Part) (qs : Typeds TypeTree) (o : Option OpenKind) → open_kind l.sort ≡ o → is_constant l.sort ≡ false → (is_open l.sort ≡ false → is_open (sort_of x) ≡ false)
        → ((k : OpenKind) → open_kind l.sort ≡ Some k → (m : OpenKind) × (open_kind (sort_of x) ≡ Some m) × (family_of_open m ≡ family_of_open k)) → WillFit rights w false (typed f i j l (sort.more x qs)) → (u : Option TypeTree) × Waits x u
    waits_by f i j l x qs None is plain closed same fits =
        let e = no_kind l.sort is in (None, has_type (closed e) (parts_fit rights w false f i j l (sort.more x qs) plain e fits).0)
    waits_by f i j l x qs (Some k) is plain closed same fits =
        let later = parts_fit_later rights w false f i j l (sort.more x qs) plain k is fits in
        let m = same k is in
        let range = both_none (unrepresented rights later.type x) (all_unrepresented rights later.type qs) later.range in
        (Some later.type, waits later.type m.0 m.1 (by_family rights tree_self k m.0 later.type m.2 later.suits) range.0 later.fit.0)

    -- The first part of a node that isn't constant, which is untyped where the node is, and of a kind of the same family.
    pub part_waits : (f : Form) (i j : ℕ) (l : Label TypeTree) (x : Part) (qs : Typeds TypeTree) → is_constant l.sort ≡ false → (is_open l.sort ≡ false → is_open (sort_of x) ≡ false)
        → ((k : OpenKind) → open_kind l.sort ≡ Some k → (m : OpenKind) × (open_kind (sort_of x) ≡ Some m) × (family_of_open m ≡ family_of_open k)) → WillFit rights w false (typed f i j l (sort.more x qs)) → (u : Option TypeTree) × Waits x u
    part_waits f i j l x qs plain closed same fits = waits_by f i j l x qs (open_kind l.sort) refl plain closed same fits
