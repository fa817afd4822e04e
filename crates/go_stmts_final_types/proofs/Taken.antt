-- Parts of statements, with what they take.
use Rattle.std.proofs.Common.{◌≡◌, ℕ, Bool, true, false, cond, [], ◌∷◌, List, Some, None, refl, sym, ap, subst}
use Rattle.std.specs.Prelude.{◌&&◌, ◌||◌, not}
use Rattle.std.specs.List.{list_any}
use Rattle.go_grammar.specs.declared.kind.Kind.{Kind}
use Rattle.go_types.specs.Trees.{TypeTree}
use Rattle.go_types.specs.Relations.{Rights}
use Rattle.go_typed.specs.declared.form.Form.{Form}
use Rattle.go_typed.specs.Trees.{Label, Typed, typed, Typeds, sort_of, parts_of, row}
use Rattle.go_typed.specs.Trees as sort
use Rattle.go_exprs_rules.specs.declared.fault.TypeFault.{TypeFault}
use Rattle.go_exprs_rules.specs.Settling.{Part, Take, stay, default, as_type, given}
use Rattle.go_exprs_rules.specs.Sorts.{Stands, is_open, is_unknown}
use Rattle.go_exprs_rules.specs.Tables.{Parts, is_type, is_lost, is_judged, label}
use Rattle.go_stmts_defs.specs.Assigning.{Taking, takes, stands, rests}
use Rattle.go_stmts_defs.specs.Frames.{Frame}
use Rattle.go_stmts_defs.specs.Rules.{taking, failing, judges, own_faults, given_part, all_given, built_by}
use Rattle.go_stmts_defs.specs.Targets.{is_variable}
use Rattle.go_stmts_final_types.specs.Holes.{HolesTyped, AllHolesTyped}
use Rattle.go_stmts_final_types.specs.Known.{IsKnown, AreKnown}
use Rattle.go_stmts_final_types.proofs.Given.{is_closed, is_valued, labelled, node_typed, no_hole}
use Rattle.go_stmts_final_types.proofs.Nodes.{Sound}
use Rattle.go_stmts_final_types.proofs.Arguments.{is_taking, given_done}
use Rattle.clone_window.specs.Masses.{is_expression, is_inside}
use Rattle.clone_window.specs.Masses as masses

-- an expression that stands for a value
pub record Valued (x : Part) : Type 0 where
  pub sound : Sound x
  pub value : is_type (sort_of x) ≡ false

-- a statement
abbrev pub Says : Part → Type 0
Says x = IsKnown x → HolesTyped false x

-- a name that is declared: it has no parts, and stands for something once it takes that
pub record IsBare (x : Part) : Type 0 where
  pub alone : parts_of x ≡ sort.none
  pub nothing : sort_of x ≡ sort.Nothing

-- ---- what is known

known_sort : (x : Part) → IsKnown x → is_unknown (sort_of x) ≡ false
known_sort (typed f i j l ps) h = h.0

unknown_stays : (k : Take) (f : Form) (i j : ℕ) (v c : Bool) (ps : Typeds TypeTree) → given k (typed f i j (labelled sort.Unknown v c) ps) ≡ typed f i j (labelled sort.Unknown v c) ps
unknown_stays stay f i j v c ps = refl
unknown_stays default f i j v c ps = refl
unknown_stays (as_type t) f i j v c ps = refl

-- what is known behind what it takes was known before
pub known_before : (k : Take) (x : Part) → IsKnown (given k x) → is_unknown (sort_of x) ≡ false
known_before k (typed f i j l ps) h = by l.sort h
  where
    by : (s : Stands) → IsKnown (given k (typed f i j (labelled s l.varies l.calls) ps)) → is_unknown s ≡ false
    by sort.Unknown h = known_sort (typed f i j (labelled sort.Unknown l.varies l.calls) ps) (subst IsKnown (unknown_stays k f i j l.varies l.calls ps) h)
    by s h = refl

pub valued_known : (s : Stands) → is_unknown s ≡ false → is_type s ≡ false → is_valued s ≡ true
valued_known sort.Unknown u t = cc
valued_known (sort.IsType v) u t = cc
valued_known s u t = refl

pub closed_known : (s : Stands) → is_unknown s ≡ false → is_type s ≡ false → is_open s ≡ false → is_closed s ≡ true
closed_known sort.Unknown u t o = cc
closed_known (sort.IsType v) u t o = cc
closed_known (sort.Open v) u t o = cc
closed_known (sort.OpenConstant c) u t o = cc
closed_known s u t o = refl

-- a variable
pub variable_typed : (rights : Rights) (x : Part) → Valued x → is_unknown (sort_of x) ≡ false → is_variable rights x ≡ true → HolesTyped false x
variable_typed rights x v u e = by (is_open (sort_of x)) refl
  where
    by : (b : Bool) → is_open (sort_of x) ≡ b → HolesTyped false x
    by true o = (v.sound.target rights o e).1
    by false o = v.sound.settles.closed (closed_known (sort_of x) u v.value o)

-- ---- parts that take something

pub record Ready (k : Taking) (y : Part) : Type 0 where
  pub typed : IsKnown (given_part k y) → HolesTyped false (given_part k y)

pub ready_value : (k : Take) → is_taking k ≡ true → (x : Part) → Valued x → Ready (takes k) x
ready_value k e x v = record { typed = λ h. (given_done k e x v.sound.settles (valued_known (sort_of x) (known_before k x h) v.value)).now }

pub ready_says : (x : Part) → Says x → Ready rests x
ready_says x h = record { typed = h }

no_constant : (a b d : Bool) → b ≡ false → ((a && b) && d) ≡ false
no_constant true b d e = ap (λ z. z && d) e
no_constant false b d e = refl

pub bare_typed : (f : Form) (i j : ℕ) (l : Label TypeTree) (ps : Typeds TypeTree) → ps ≡ sort.none → masses.is_constant l.sort ≡ false → HolesTyped false (typed f i j l ps)
bare_typed f i j l ps e c = subst (λ qs. HolesTyped false (typed f i j l qs)) (sym e) (no_hole f i j l sort.none (no_constant (is_expression f) (masses.is_constant l.sort) (not l.varies) c) tt)

-- what is declared is no constant
pub ready_bare : (z : Stands) → masses.is_constant z ≡ false → (y : Part) → IsBare y → Ready (stands z) y
ready_bare z c (typed f i j l ps) h = record { typed = λ k. bare_typed f i j (record l { sort = z }) ps h.alone c }

abbrev pub AllReady : List Taking → Parts → Type 0
AllReady ks [] = Unit {0}
AllReady [] (None ∷ ys) = AllReady [] ys
AllReady [] (Some y ∷ ys) = Ready rests y × AllReady [] ys
AllReady (k ∷ ks) (None ∷ ys) = AllReady ks ys
AllReady (k ∷ ks) (Some y ∷ ys) = Ready k y × AllReady ks ys

pub ready_typed : (ks : List Taking) (ys : Parts) → AllReady ks ys → AreKnown (row (all_given ks ys)) → AllHolesTyped false (row (all_given ks ys))
ready_typed [] [] r h = tt
ready_typed (k ∷ ks) [] r h = tt
ready_typed [] (None ∷ ys) r h = ready_typed [] ys r h
ready_typed [] (Some y ∷ ys) r h = (r.0.typed h.0, ready_typed [] ys r.1 h.1)
ready_typed (k ∷ ks) (None ∷ ys) r h = ready_typed ks ys r h
ready_typed (k ∷ ks) (Some y ∷ ys) r h = (r.0.typed h.0, ready_typed ks ys r.1 h.1)

-- parts that take nothing
pub says_typed : (ks : List Taking) → ks ≡ [] → (ys : Parts) → AllReady [] ys → AllReady ks ys
says_typed ks e ys r = subst (λ zs. AllReady zs ys) (sym e) r

-- ---- what makes a node judged

-- the names that are declared are known before
abbrev pub AllNamed : List Taking → Parts → Type 0
AllNamed [] ys = Unit {0}
AllNamed (k ∷ ks) [] = Unit {0}
AllNamed (k ∷ ks) (None ∷ ys) = AllNamed ks ys
AllNamed (takes k ∷ ks) (Some y ∷ ys) = AllNamed ks ys
AllNamed (stands z ∷ ks) (Some y ∷ ys) = (is_unknown (sort_of y) ≡ false) × AllNamed ks ys

next_judged : (a b : Bool) → a ≡ false → not b ≡ true → not (a || b) ≡ true
next_judged true b e h = cc
next_judged false b e h = h

pub judged_known : (ks : List Taking) (ys : Parts) → AllNamed ks ys → AreKnown (row (all_given ks ys)) → is_judged ys ≡ true
judged_known [] [] n h = refl
judged_known (k ∷ ks) [] n h = refl
judged_known [] (None ∷ ys) n h = judged_known [] ys tt h
judged_known [] (Some y ∷ ys) n h = next_judged (is_unknown (sort_of y)) (list_any is_lost ys) (known_sort y h.0) (judged_known [] ys tt h.1)
judged_known (k ∷ ks) (None ∷ ys) n h = judged_known ks ys n h
judged_known (takes k ∷ ks) (Some y ∷ ys) n h = next_judged (is_unknown (sort_of y)) (list_any is_lost ys) (known_before k y h.0) (judged_known ks ys n h.1)
judged_known (stands z ∷ ks) (Some y ∷ ys) n h = next_judged (is_unknown (sort_of y)) (list_any is_lost ys) n.0 (judged_known ks ys n.1 h.1)

-- ---- nodes

module _ (s : Frame) (k : Kind) (f : Form) (i j : ℕ) (ys : Parts) where
  -- whose parts are ready
  pub statement_says : (own : List TypeFault) → own ≡ [] → AllReady (taking s k f ys) ys → Says (built_by s k f i j ys own)
  statement_says [] e r = λ h. node_typed f i j (label f sort.Nothing ys) (row (all_given (taking s k f ys) ys)) refl (ready_typed (taking s k f ys) ys r h.3)
  statement_says (x ∷ xs) e r = cc

  pub by_own : (own : List TypeFault) → own ≡ [] → (AreKnown (row (all_given (taking s k f ys) ys)) → AllHolesTyped false (row (all_given (taking s k f ys) ys))) → Says (built_by s k f i j ys own)
  by_own [] e g = λ h. node_typed f i j (label f sort.Nothing ys) (row (all_given (taking s k f ys) ys)) refl (g h.3)
  by_own (x ∷ xs) e g = cc

  no_rule : (b : Bool) (fs : List TypeFault) → cond b fs [] ≡ [] → b ≡ true → fs ≡ []
  no_rule true fs e m = e
  no_rule false fs e m = cc

  -- whose rules say what its parts are
  pub ruled_says : (is_judged ys ≡ true → judges k ys ≡ true) → own_faults s k f i j ys ≡ [] → AllNamed (taking s k f ys) ys
      → (failing s k f i j ys ≡ [] → AreKnown (row (all_given (taking s k f ys) ys)) → AllHolesTyped false (row (all_given (taking s k f ys) ys))) → Says (built_by s k f i j ys (own_faults s k f i j ys))
  ruled_says j' e n g = by_own (own_faults s k f i j ys) e (λ h. g (no_rule (judges k ys) (failing s k f i j ys) e (j' (judged_known (taking s k f ys) ys n h))) h)
