-- Assignments and short variable declarations (Go specification: Assignment statements, Short variable declarations).
use Rattle.std.proofs.Common.{◌≡◌, ◌∙◌, ℕ, Bool, true, false, if◌then◌else◌, List, [], ◌∷◌, ◌++◌, length, map, take, drop, Some, None, refl, sym, ap, subst}
use Rattle.go_base.specs.declared.fault.FaultCode.TheVariants as code
use Rattle.go_grammar.specs.declared.kind.Category.{Category}
use Rattle.go_grammar.specs.declared.kind.Category.TheVariants as category
use Rattle.go_grammar.specs.declared.kind.Kind.TheVariants as kind
use Rattle.go_grammar.specs.Categories.{place_of}
use Rattle.go_grammar.specs.Grammar.{rule}
use Rattle.go_grammar.specs.Trees.{Trees, node}
use Rattle.go_types.specs.Relations.{Rights}
use Rattle.go_typed.specs.declared.form.Form.TheVariants as form
use Rattle.go_typed.specs.Trees.{typed, row}
use Rattle.go_exprs_rules.specs.declared.fault.TypeFault.{TypeFault}
use Rattle.go_exprs_rules.specs.Scopes.{Hint}
use Rattle.go_exprs_rules.specs.Settling.{Part, at_part}
use Rattle.go_exprs_rules.specs.Tables.{Parts, present, held, all_held}
use Rattle.go_stmts_defs.specs.Assigning.{Wanted, assignment_failing, value_types_by, values_take, whole_results}
use Rattle.go_stmts_defs.specs.Frames.{Frame, rights_of}
use Rattle.go_stmts_defs.specs.Laying.{held_count}
use Rattle.go_stmts_defs.specs.Rules.{each, not_a_target, target_type, known_type, failing, taking, all_given, own_faults, built_by}
use Rattle.go_stmts_defs.specs.Targets.{is_target}
use Rattle.go_function_holes.proofs.Public.{AllSound, Below, OfHole, deeper, each-row}
use Rattle.go_function_holes_windows.proofs.Rows.{Each, Good, Fine, each-both, made-good}
use Rattle.go_function_holes_windows.proofs.Takings.{built-fine, given-row, given-sound, names-fit, names-front, none-declared, sound-judged, values-fit}
use Rattle.go_function_holes_windows.proofs.Read.{Aimed, Full, InTargets, RowAs}
use Rattle.go_function_holes_windows.proofs.Layouts.{Unfailing, node_of}
use Rattle.go_function_holes_windows.proofs.Lists.{each-aimed}
use Rattle.go_function_holes_windows.proofs.Within.{each-weaker-holes}

-- ---- targets

pub front-nil : {A : Type 0} (xs ys : List A) → xs ++ ys ≡ [] → xs ≡ []
front-nil [] ys e = refl
front-nil (x ∷ xs) ys e = absurd cc

target-is : (b : Bool) (y : Part) (fs : List TypeFault) → (if b then [] else at_part code.LeftSide y) ++ fs ≡ [] → (b ≡ true) × (fs ≡ [])
target-is true y fs e = (refl, e)
target-is false (typed f i j l ps) fs e = absurd cc

-- where each of the first parts is a target, their holes stand somewhere
pub aimed-good : (P : OfHole) (rights : Rights) (ts ys : Parts) → Each (Aimed P) ts → Full ts → Each (Good P) ys → each (not_a_target rights) (take (length ts) (present (ts ++ ys))) ≡ [] → Each (Good P) (ts ++ ys)
aimed-good P rights [] ys h f g e = g
aimed-good P rights (None ∷ ts) ys h f g e = absurd f
aimed-good P rights (Some t ∷ ts) ys h f g e =
    let fs = each (not_a_target rights) (take (length ts) (present (ts ++ ys))) in
    let here = target-is (is_target rights t) t fs e in
    ((λ s. h.0 s rights here.0), aimed-good P rights ts ys h.1 f g here.1)

module _ (o : Bool) (c : Category) (s : Frame) (h : Hint) (i j : ℕ) (ps : Trees) where
  assigned-over : (P : OfHole) (ts ys : Parts) (n : ℕ) → n ≡ length ts → Each (Aimed P) ts → Full ts → Each (Good P) ys → own_faults s kind.Assignment (form.Assign n) i j (ts ++ ys) ≡ []
      → Fine P (built_by s kind.Assignment (form.Assign n) i j (ts ++ ys) (own_faults s kind.Assignment (form.Assign n) i j (ts ++ ys)))
  assigned-over P ts ys n m a f g e =
      let all : Parts = ts ++ ys in
      let ks = taking s kind.Assignment (form.Assign n) all in
      let taken = none-declared s kind.Assignment (form.Assign n) all refl in
      let zs = all_given ks all in
      let good : AllSound (row zs) → Each (Good P) zs = λ sd.
      let judged = sound-judged all (given-sound ks all taken (each-row zs sd)) in
      let rules : failing s kind.Assignment (form.Assign n) i j all ≡ [] = ap (λ b. if b then failing s kind.Assignment (form.Assign n) i j all else []) (sym judged) ∙ e in
      let targets = front-nil (each (not_a_target (rights_of s)) (take n (present all))) (assignment_failing (rights_of s) i j (map target_type (take n (present all))) (drop n (present all))) rules in
      let first = subst (λ m. each (not_a_target (rights_of s)) (take m (present all)) ≡ []) m targets in
      given-row P 0 ks all taken (aimed-good P (rights_of s) ts ys a f g first) in
      subst (λ fs. Fine P (built_by s kind.Assignment (form.Assign n) i j all fs)) (sym e) (made-good P (form.Assign n) i j all zs good, tt)

  pub assignment : (xs : Parts) → RowAs c kind.Assignment h ps (rule (place_of c) kind.Assignment) 0 [] xs → Unfailing s kind.Assignment i j xs → Fine (Below o c (node kind.Assignment i j ps)) (node_of s kind.Assignment i j xs)
  assignment [] r u = absurd r
  assignment (None ∷ xs) r u = absurd r
  assignment (Some t ∷ []) r u = absurd r.1
  assignment (Some t ∷ None ∷ xs) r u = absurd r.1
  assignment (Some t ∷ Some l ∷ y ∷ ys) r u = absurd r.1.1
  assignment (Some t ∷ Some l ∷ []) r u =
      let P : OfHole = Below o c (node kind.Assignment i j ps) in
      let left = r.0 in
      let right = r.1.0 in
      let q = place_of c in
      let aims : Each (Aimed P) (held (Some t)) = each-aimed (InTargets true q left.stood) P (λ a b z. deeper o c kind.Assignment i j ps 0 (category.Targets q) left.stood (left.at refl) a b z.hole refl) (held (Some t)) left.read.0 in
      let values : Each (Good P) (held (Some l)) = each-weaker-holes (Below true (category.ExpressionList q) right.stood) P (λ a b z. deeper o c kind.Assignment i j ps 1 (category.ExpressionList q) right.stood (right.at refl) a b z refl) (held (Some l)) (right.read refl refl) in
      assigned-over P (held (Some t)) (all_held (Some l ∷ [])) (held_count (Some t)) refl aims left.read.1 (each-both (Good P) (held (Some l)) [] values tt) u

  pub define : (xs : Parts) → RowAs c kind.Define h ps (rule (place_of c) kind.Define) 0 [] xs → Unfailing s kind.Define i j xs → Fine (Below o c (node kind.Define i j ps)) (node_of s kind.Define i j xs)
  define [] r u = absurd r
  define (None ∷ xs) r u = absurd r
  define (Some n ∷ []) r u = absurd r.1
  define (Some n ∷ None ∷ xs) r u = absurd r.1
  define (Some n ∷ Some l ∷ y ∷ ys) r u = absurd r.1.1
  define (Some n ∷ Some l ∷ []) r u =
      let P : OfHole = Below o c (node kind.Define i j ps) in
      let right = r.1.0 in
      let q = place_of c in
      let values : Each (Good P) (held (Some l)) = each-weaker-holes (Below true (category.ExpressionList q) right.stood) P (λ a b z. deeper o c kind.Define i j ps 1 (category.ExpressionList q) right.stood (right.at refl) a b z refl) (held (Some l)) (right.read refl refl) in
      let behind : Parts = all_held (Some l ∷ []) in
      let all : Parts = held (Some n) ++ behind in
      let m = held_count (Some n) in
      let vs = drop m (present all) in
      let ts : Wanted = map (known_type s.locals) (take m (present all)) in
      built-fine P s kind.Define (form.Define m) i j all (own_faults s kind.Define (form.Define m) i j all) m u
      (names-fit (known_type s.locals) m (present all) (value_types_by vs (whole_results (rights_of s) vs)) (values_take ts vs) (values-fit ts vs))
      (names-front P (held (Some n)) behind r.0.read (each-both (Good P) (held (Some l)) [] values tt))
