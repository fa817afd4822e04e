-- Lists of expressions, with variables in them.
use Rattle.std.proofs.Common.{◌≡◌, ◌∙◌, Bool, true, false, List, [], ◌∷◌, ◌++◌, Some, None, refl, sym, ap, append_assoc, append-nil}
use Rattle.std.specs.Prelude.{nat_lt, suc, if◌then◌else◌}
use Rattle.go_grammar.specs.declared.kind.Kind.TheVariants as kind
use Rattle.go_grammar.specs.declared.kind.Level.TheVariants as level
use Rattle.go_grammar.specs.declared.kind.Place.{Place}
use Rattle.go_grammar.specs.Grammar.{any, rule, count}
use Rattle.go_grammar.specs.Rules.{Again, Many}
use Rattle.go_grammar.specs.Trees.{Trees, none, more, skip, kind_of}
use Rattle.go_tokens.specs.declared.token.TokenKind.{TokenKind}
use Rattle.go_tokens.specs.declared.token.TokenKind.TheVariants as token
use Rattle.go_typed.specs.Trees.{list_of, row}
use Rattle.go_exprs_rules.specs.Scopes.{Scope, Hint, value, several}
use Rattle.go_exprs_rules.specs.Settling.{Part}
use Rattle.go_exprs_rules.specs.Tables.{Parts}
use Rattle.go_exprs_rules.specs.Typing.{typing, faults}
use Rattle.go_stmts_defs.specs.Frames.{Frame, scope_of}
use Rattle.go_stmts_defs.specs.Laying.{alone_or_value, without_absent}
use Rattle.go_stmts_defs.specs.Reading.{Found, holding, holdings, all_held_faults}
use Rattle.go_exprs_variables.specs.Shapes.{IsShaped, AreShaped}
use Rattle.go_exprs_variables.specs.Variables.{Standins, with_variables, all_with_variables, StandsIn, AllProper, begun, no_rule_fails, ExpressionsTyped}
use Rattle.go_exprs_variables.proofs.Public.{All, all_new, all_of, each, expression_operand, is_operand, of_all}
use Rattle.go_stmts_variables.specs.Frames.{FramesStand}
use Rattle.go_stmts_variables.proofs.Frames.{scopes_stand}
use Rattle.go_stmts_variables.proofs.Expressions.{asks, Will, IsValuePart, new_operand, operand_holding, operand_faults, value_typed}

pub list_row : (xs : Parts) → list_of (row xs) ≡ xs
list_row [] = refl
list_row (None ∷ xs) = ap (λ ys. None ∷ ys) (list_row xs)
list_row (Some x ∷ xs) = ap (λ ys. Some x ∷ ys) (list_row xs)

-- the expressions of a list, typed
abbrev pub values_of : Scope → Hint → Trees → List Part
values_of s h none = []
values_of s h (more q ps) = typing s h q ∷ values_of s h ps
values_of s h (skip ps) = values_of s h ps

abbrev pub faults_of : Scope → Hint → Trees → Found
faults_of s h none = []
faults_of s h (more q ps) = faults s h q ++ faults_of s h ps
faults_of s h (skip ps) = faults_of s h ps

abbrev pub AreOperands : Trees → Type 0
AreOperands none = Unit {0}
AreOperands (more q ps) = (is_operand (kind_of q) ≡ true) × AreOperands ps
AreOperands (skip ps) = ⊥

abbrev pub AreExpressions : Place → Trees → Type 0
AreExpressions p none = Unit {0}
AreExpressions p (more q ps) = IsShaped (any p) q × AreExpressions p ps
AreExpressions p (skip ps) = ⊥

many_expressions : (p : Place) (ws : List TokenKind) (ps : Trees) → AreShaped (Many ws (Again (any p) token.Comma)) ps → AreExpressions p ps
many_expressions p ws none e = tt
many_expressions p ws (more q ps) e = (e.0, many_expressions p ws ps e.1)
many_expressions p ws (skip ps) e = elim e [ ]

pub list_expressions : (p : Place) (ps : Trees) → AreShaped (rule p kind.ExpressionList) ps → AreExpressions p ps
list_expressions p none e = elim e [ ]
list_expressions p (more q ps) e = (e.0, many_expressions p [] ps e.1)
list_expressions p (skip ps) e = elim e [ ]

pub expression_operands : (p : Place) (ps : Trees) → AreExpressions p ps → AreOperands ps
expression_operands p none e = tt
expression_operands p (more q ps) e = (expression_operand level.Either p q e.0, expression_operands p ps e.1)
expression_operands p (skip ps) e = elim e [ ]

module _ (w : Standins) where
  -- the parts of a list, as they are held
  pub list_held : (f : Frame) (h : Hint) (all : Trees) (xs : Parts) (ps : Trees) → AreOperands ps → holdings f kind.ExpressionList h all xs ps ≡ xs ++ each (values_of (scope_of f) (alone_or_value all h) ps)
  list_held f h all xs none e = sym (append-nil xs)
  list_held f h all xs (more q ps) e =
      let x = holding f (alone_or_value all h) q in
      list_held f h all (xs ++ Some x ∷ []) ps e.1 ∙ append_assoc xs (Some x ∷ []) (each (values_of (scope_of f) (alone_or_value all h) ps))
      ∙ ap (λ z. xs ++ Some z ∷ each (values_of (scope_of f) (alone_or_value all h) ps)) (operand_holding w f (alone_or_value all h) q e.0)
  list_held f h all xs (skip ps) e = elim e [ ]

  pub list_faults : (f : Frame) (h : Hint) (all : Trees) (xs : Parts) (ps : Trees) → AreOperands ps → all_held_faults f kind.ExpressionList h all xs ps ≡ faults_of (scope_of f) (alone_or_value all h) ps
  list_faults f h all xs none e = refl
  list_faults f h all xs (more q ps) e =
      let x = holding f (alone_or_value all h) q in
      ap (λ gs. gs ++ all_held_faults f kind.ExpressionList h all (xs ++ Some x ∷ []) ps) (operand_faults w f (alone_or_value all h) q e.0)
      ∙ ap (λ gs. faults (scope_of f) (alone_or_value all h) q ++ gs) (list_faults f h all (xs ++ Some x ∷ []) ps e.1)
  list_faults f h all xs (skip ps) e = elim e [ ]

  pub list_parts : (f : Frame) (h : Hint) (ps : Trees) → AreOperands ps → list_of (row (holdings f kind.ExpressionList h ps [] ps)) ≡ each (values_of (scope_of f) (alone_or_value ps h) ps)
  list_parts f h ps e = list_row (holdings f kind.ExpressionList h ps [] ps) ∙ list_held f h ps [] ps e

  -- ---- with variables

  pub new_operands : (ps : Trees) → AreOperands ps → AreOperands (all_with_variables w ps)
  new_operands none e = tt
  new_operands (more q ps) e = (new_operand w q e.0, new_operands ps e.1)
  new_operands (skip ps) e = elim e [ ]

  pub count_new : (ps : Trees) → count (all_with_variables w ps) ≡ count ps
  count_new none = refl
  count_new (more q ps) = ap (λ n. suc n) (count_new ps)
  count_new (skip ps) = ap (λ n. suc n) (count_new ps)

  pub alone_new : (ps : Trees) (h : Hint) → alone_or_value (all_with_variables w ps) h ≡ alone_or_value ps h
  alone_new ps several = ap (λ n. if nat_lt 1 n then value else several) (count_new ps)
  alone_new ps h = refl

  pub alone_asks : (ps : Trees) (h : Hint) → asks h ≡ true → asks (alone_or_value ps h) ≡ true
  alone_asks ps several a = by (nat_lt 1 (count ps))
    where
      by : (b : Bool) → asks (if b then value else several) ≡ true
      by true = refl
      by false = refl
  alone_asks ps h a = a

  pub record AreTyped (s t : Scope) (h : Hint) (ps : Trees) : Type 0 where
    pub typed : values_of t h (all_with_variables w ps) ≡ all_new w (values_of s h ps)
    pub failing : no_rule_fails (faults_of t h (all_with_variables w ps)) ≡ true
    pub values : All (IsValuePart w) (values_of s h ps)

  -- Expressions of a list that each will fit are typed with variables in them.
  pub values_typed : ExpressionsTyped → (s t : Scope) (h : Hint) (p : Place) (ps : Trees) → AreExpressions p ps → asks h ≡ true → StandsIn w s t → AllProper w ps → no_rule_fails (faults_of s h ps) ≡ true
      → All (Will w s.rights) (values_of s h ps) → AreTyped s t h ps
  values_typed law s t h p none e a st proper f fits = record { typed = refl; failing = refl; values = tt }
  values_typed law s t h p (skip ps) e a st proper f fits = elim e [ ]
  values_typed law s t h p (more q ps) e a st proper f fits =
      let both = all_of (faults s h q) (faults_of s h ps) f in
      let one = value_typed w law s t h level.Either p q e.0 a st proper.0 both.0 fits.0 in
      let rest = values_typed law s t h p ps e.1 a st proper.1 both.1 fits.1 in
      record {
        typed = ap (λ x. x ∷ values_of t h (all_with_variables w ps)) one.typed.typed ∙ ap (λ xs. begun w false (typing s h q) ∷ xs) rest.typed;
        failing = of_all (faults t h (with_variables w q)) (faults_of t h (all_with_variables w ps)) one.typed.failing rest.failing;
        values = (one.value, rest.values);
      }

  -- ---- the node that holds a list

  abbrev pub list_values : Frame → Hint → Trees → List Part
  list_values f h ps = values_of (scope_of f) (alone_or_value ps h) ps

  pub record ListReads (f g : Frame) (h : Hint) (ps : Trees) : Type 0 where
    pub parts : list_of (row (holdings g kind.ExpressionList h (all_with_variables w ps) [] (all_with_variables w ps))) ≡ each (all_new w (list_values f h ps))
    pub good : no_rule_fails (all_held_faults g kind.ExpressionList h (all_with_variables w ps) [] (all_with_variables w ps)) ≡ true
    pub values : All (IsValuePart w) (list_values f h ps)

  pub list_reads : ExpressionsTyped → (f g : Frame) (h : Hint) (p : Place) (ps : Trees) → AreExpressions p ps → asks h ≡ true → FramesStand w f g → AllProper w ps → no_rule_fails (all_held_faults f kind.ExpressionList h ps [] ps) ≡ true
      → All (Will w f.around.rights) (list_values f h ps) → ListReads f g h ps
  list_reads law f g h p ps e a st proper good fits =
      let ops = expression_operands p ps e in
      let new = all_with_variables w ps in
      let told = alone_or_value ps h in
      let r = values_typed law (scope_of f) (scope_of g) told p ps e (alone_asks ps h a) (scopes_stand w f g st) proper (sym (ap no_rule_fails (list_faults f h ps [] ps ops)) ∙ good) fits in
      record {
        parts = list_parts g h new (new_operands ps ops) ∙ ap (λ q. each (values_of (scope_of g) q new)) (alone_new ps h) ∙ ap each r.typed;
        good = ap no_rule_fails (list_faults g h new [] new (new_operands ps ops)) ∙ ap (λ q. no_rule_fails (faults_of (scope_of g) q new)) (alone_new ps h) ∙ r.failing;
        values = r.values;
      }

pub all_present : (xs : List Part) → without_absent (each xs) ≡ each xs
all_present [] = refl
all_present (x ∷ xs) = ap (λ ys. Some x ∷ ys) (all_present xs)
