-- From the rules of statements to the expressions in them: each fits once it is given what the statement gives it.
use Rattle.std.proofs.Common.{◌≡◌, ◌∙◌, ℕ, pred, Bool, true, false, List, [], ◌∷◌, length, Option, Some, None, refl, sym, ap, subst, arith}
use Rattle.std.proofs.lemmas.Bool.Decides.{nat_tests}
use Rattle.std.specs.Prelude.{◌==◌, if◌then◌else◌, is_some}
use Rattle.go_base.specs.declared.fault.FaultCode.TheVariants as code
use Rattle.go_types.specs.Trees.{TypeTree}
use Rattle.go_types.specs.Relations.{Rights}
use Rattle.go_typed.specs.Trees.{sort_of, row}
use Rattle.go_typed.specs.Trees as sort
use Rattle.go_exprs_rules.specs.declared.family.OpenKind.{OpenKind}
use Rattle.go_exprs_rules.specs.Settling.{Part, settled, Take, default, as_type, given, defaulted, at_part, unrepresented, undefaulted_by, undefaulted, untyped_unassignable, unassignable_by, unassignable}
use Rattle.go_exprs_rules.specs.Sorts.{Stands, is_family, family_of_open, family_of_type, is_open, is_nil, takes_type, open_kind, kind_of_untyped, kind_of_const, default_type, suits}
use Rattle.go_stmts_defs.specs.Assigning.{Wanted, takes, type_or_default, called_results, whole_results, unassigned, all_unassigned, assignment_by, assignment_failing, values_take}
use Rattle.go_stmts_defs.specs.Rules.{all_given}
use Rattle.go_exprs_variables.specs.Operands.{Operand}
use Rattle.go_exprs_variables.specs.Variables.{Standins, begun, Fits, AllFit}
use Rattle.go_exprs_variables.specs.Variables as variables
use Rattle.go_exprs_variables.proofs.Public.{All, Defaulting, Fitting, all_new, both_none, closed_default, closed_so, default_operand, default_suits, each, keeps_type, no_place, open_default, open_so, operand, passes}
use Rattle.go_stmts_variables.specs.Rules.{given_type, AllGiven, none_given, spare_given, next_given}
use Rattle.go_stmts_variables.specs.Steady.{Keeps}
use Rattle.go_stmts_variables.proofs.Basics.{kept_unrepresented}
use Rattle.go_stmts_variables.proofs.Expressions.{Will, will, nil_will, IsValuePart, ready_any}
use Rattle.go_stmts_variables.proofs.Values.{counted}

-- what a variable gives that has this type, or none
abbrev pub take_of : Option TypeTree → Take
take_of (Some t) = as_type t
take_of None = default

pub taking_of : (o : Option TypeTree) → type_or_default o ≡ takes (take_of o)
taking_of (Some t) = refl
taking_of None = refl

module _ (w : Standins) (rights : Rights) where
  -- an untyped value has constants of the type, and is of its kind
  abbrev pub Suits : TypeTree → Part → Type 0
  Suits t x = (k : OpenKind) → open_kind (sort_of x) ≡ Some k → (suits rights k t ≡ true) × (unrepresented rights t x ≡ [])

  -- ---- one value

  -- one that takes a type
  pub will_as : (t : TypeTree) (x : Part) → Suits t x → Fits w false (settled t x) → Will w rights x
  will_as t x f fits = by (sort_of x) refl
    where
      by : (z : Stands) → z ≡ sort_of x → Will w rights x
      by (sort.Open u) e = let both = f (kind_of_untyped u) (ap open_kind (sym e)) in will (variables.takes t (kind_of_untyped u) (ap open_kind (sym e)) both.0 (λ c. both.1) fits)
      by (sort.OpenConstant c) e = let both = f (kind_of_const c) (ap open_kind (sym e)) in will (variables.takes t (kind_of_const c) (ap open_kind (sym e)) both.0 (λ c. both.1) fits)
      by sort.Nil e = nil_will (ap is_nil (sym e)) t fits
      by z e = will (variables.has (ap is_open (sym e)) (subst (Fits w false) (keeps_type t x (ap takes_type (sym e))) fits))

  pub operand_as : (t : TypeTree) (x : Part) → IsValuePart w x → Suits t x → Fits w false (settled t x) → Operand rights (Some t) x (begun w false x)
  operand_as t x v f fits = operand rights w false t x (ready_any w [] rights x v.ready) (by (sort_of x) refl)
    where
      by : (z : Stands) → z ≡ sort_of x → Fitting rights w false t x
      by (sort.Open u) e = open_so (kind_of_untyped u) (ap open_kind (sym e)) (f (kind_of_untyped u) (ap open_kind (sym e))).0 fits
      by (sort.OpenConstant c) e = open_so (kind_of_const c) (ap open_kind (sym e)) (f (kind_of_const c) (ap open_kind (sym e))).0 fits
      by sort.Nil e = closed_so (ap is_open (sym e)) (v.nil (ap is_nil (sym e)) t fits)
      by z e = closed_so (ap is_open (sym e)) (subst (Fits w false) (keeps_type t x (ap takes_type (sym e))) fits)

  open_rule : (t : TypeTree) (x : Part) (z : Stands) (k : OpenKind) → open_kind z ≡ Some k → unassignable_by rights t z x ≡ untyped_unassignable rights t (open_kind z) x
  open_rule t x (sort.Open u) k e = refl
  open_rule t x (sort.OpenConstant c) k e = refl
  open_rule t x z k e = cc

  pub assignable_suits : (t : TypeTree) (x : Part) → (is_open (sort_of x) ≡ true → unassignable rights t x ≡ []) → Suits t x
  assignable_suits t x f k e =
      passes (suits rights k t) (unrepresented rights t x) code.Assignable x (sym (open_rule t x (sort_of x) k e ∙ ap (λ o. untyped_unassignable rights t o x) e) ∙ f (ap is_some e))

  -- one that takes its default type
  pub will_default : (x : Part) → (is_open (sort_of x) ≡ true → undefaulted rights x ≡ []) → Fits w false (given default x) → Will w rights x
  will_default x f fits = by (open_kind (sort_of x)) refl
    where
      by : (o : Option OpenKind) → open_kind (sort_of x) ≡ o → Will w rights x
      by (Some k) e = will (variables.takes (default_type k) k e (default_suits rights k) (λ c. sym (ap (λ o. undefaulted_by rights o x) e) ∙ f (ap is_some e)) (subst (λ o. Fits w false (defaulted o x)) e fits))
      by None e = will (variables.has (ap is_some e) (subst (λ o. Fits w false (defaulted o x)) e fits))

  pub operand_default : (x : Part) → IsValuePart w x → Fits w false (given default x) → Operand rights (given_type None x) x (begun w false x)
  operand_default x v fits = default_operand rights w false x (ready_any w [] rights x v.ready) (by (open_kind (sort_of x)) refl)
    where
      by : (o : Option OpenKind) → open_kind (sort_of x) ≡ o → Defaulting rights w false x
      by (Some k) e = open_default k e (subst (λ o. Fits w false (defaulted o x)) e fits)
      by None e = closed_default (ap is_some e) (subst (λ o. Fits w false (defaulted o x)) e fits)

  -- ---- values that are given to variables

  -- what a value is once it is given, and that no rule refuses it
  pub record Gives (o : Option TypeTree) (x : Part) : Type 0 where
    pub fits : Fits w false (given (take_of o) x)
    pub rule : is_open (sort_of x) ≡ true → unassigned rights o x ≡ []

  no_nil : (b : Bool) (x : Part) → (if b then at_part code.Operands x else undefaulted rights x) ≡ [] → undefaulted rights x ≡ []
  no_nil true x e = absurd (no_place code.Operands x e)
  no_nil false x e = e

  pub will_given : (o : Option TypeTree) (x : Part) → Gives o x → Will w rights x
  will_given (Some t) x g = will_as t x (assignable_suits t x g.rule) g.fits
  will_given None x g = will_default x (λ e. no_nil (is_nil (sort_of x)) x (g.rule e)) g.fits

  pub operand_given : (o : Option TypeTree) (x : Part) → IsValuePart w x → Gives o x → Operand rights (given_type o x) x (begun w false x)
  operand_given (Some t) x v g = operand_as t x v (assignable_suits t x g.rule) g.fits
  operand_given None x v g = operand_default x v g.fits

  abbrev pub AllGives : Wanted → List Part → Type 0
  AllGives ts [] = Unit {0}
  AllGives [] (x ∷ xs) = Gives None x × AllGives [] xs
  AllGives (t ∷ ts) (x ∷ xs) = Gives t x × AllGives ts xs

  pub all_will : (ts : Wanted) (xs : List Part) → AllGives ts xs → All (Will w rights) xs
  all_will ts [] g = tt
  all_will [] (x ∷ xs) g = (will_given None x g.0, all_will [] xs g.1)
  all_will (t ∷ ts) (x ∷ xs) g = (will_given t x g.0, all_will ts xs g.1)

  pub all_operands : (ts : Wanted) (xs : List Part) → All (IsValuePart w) xs → AllGives ts xs → AllGiven rights ts xs (all_new w xs)
  all_operands ts [] v g = none_given ts
  all_operands [] (x ∷ xs) v g = spare_given x (begun w false x) xs (all_new w xs) (operand_given None x v.0 g.0) (all_operands [] xs v.1 g.1)
  all_operands (t ∷ ts) (x ∷ xs) v g = next_given t ts x (begun w false x) xs (all_new w xs) (operand_given t x v.0 g.0) (all_operands ts xs v.1 g.1)

  -- ---- from the rule of assignments

  each_gives : (ts : Wanted) (xs : List Part) → length ts ≡ length xs → all_unassigned rights ts xs ≡ [] → AllFit w false (row (all_given (values_take ts xs) (each xs))) → AllGives ts xs
  each_gives ts [] n e fits = tt
  each_gives [] (x ∷ xs) n e fits = cc
  each_gives (Some t ∷ ts) (x ∷ xs) n e fits =
      let both = both_none (unassigned rights (Some t) x) (all_unassigned rights ts xs) e in (record { fits = fits.0; rule = λ o. both.0 }, each_gives ts xs (ap pred n) both.1 fits.1)
  each_gives (None ∷ ts) (x ∷ xs) n e fits =
      let both = both_none (unassigned rights None x) (all_unassigned rights ts xs) e in (record { fits = fits.0; rule = λ o. both.0 }, each_gives ts xs (ap pred n) both.1 fits.1)

  results_closed : {X : Type 0} (z : Stands) (rs : List TypeTree) → called_results rights z ≡ Some rs → is_open z ≡ true → X
  results_closed (sort.Results t) rs e o = cc
  results_closed z rs e o = cc

  call_gives : (ts : Wanted) (xs : List Part) (rs : List TypeTree) → whole_results rights xs ≡ Some rs → AllFit w false (row (all_given (values_take ts xs) (each xs))) → AllGives ts xs
  call_gives ts [] rs e fits = tt
  call_gives [] (x ∷ []) rs e fits = (record { fits = fits.0; rule = λ o. results_closed (sort_of x) rs e o }, tt)
  call_gives (Some t ∷ ts) (x ∷ []) rs e fits = (record { fits = fits.0; rule = λ o. results_closed (sort_of x) rs e o }, tt)
  call_gives (None ∷ ts) (x ∷ []) rs e fits = (record { fits = fits.0; rule = λ o. results_closed (sort_of x) rs e o }, tt)
  call_gives ts (x ∷ y ∷ xs) rs e fits = cc

  equal_lengths : (m n : ℕ) → (m == n) ≡ true → m ≡ n
  equal_lengths m n e = grind (arith, nat_tests, e)

  -- Values that are given to variables without a fault give what they take.
  pub assignment_gives : (i j : ℕ) (ts : Wanted) (xs : List Part) → assignment_failing rights i j ts xs ≡ [] → AllFit w false (row (all_given (values_take ts xs) (each xs))) → AllGives ts xs
  assignment_gives i j ts xs e fits = by (whole_results rights xs) refl
    where
      by : (rs : Option (List TypeTree)) → whole_results rights xs ≡ rs → AllGives ts xs
      by (Some rs) m = call_gives ts xs rs m fits
      by None m =
          let c = counted (length ts == length xs) (all_unassigned rights ts xs) i j (sym (ap (assignment_by rights i j ts xs) m) ∙ e) in
          each_gives ts xs (equal_lengths (length ts) (length xs) c.0) c.1 fits

module _ (w : Standins) where
  -- So it is by right sides by which the type is the same.
  pub kept_suits : (r q : Rights) (t : TypeTree) (x : Part) → Keeps r q (Some t) → Suits w q t x → Suits w r t x
  kept_suits r q t x e f k m =
      let both = f k m in (ap (λ o. is_family (family_of_open k) (family_of_type o)) (sym e) ∙ both.0, sym (kept_unrepresented r q t e x) ∙ both.1)
