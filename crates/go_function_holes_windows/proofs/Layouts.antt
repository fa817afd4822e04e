-- Nodes whose parts are all of one sort, as their layouts have them (Go specification: Blocks, If statements, Expression switches, For
-- statements, Return statements).
use Rattle.std.proofs.Common.{◌≡◌, ℕ, Bool, true, List, [], ◌∷◌, Option, Some, None, refl}
use Rattle.go_grammar.specs.declared.kind.Category.{Category}
use Rattle.go_grammar.specs.declared.kind.Kind.{Kind}
use Rattle.go_grammar.specs.declared.kind.Kind.TheVariants as kind
use Rattle.go_grammar.specs.declared.kind.Arithmetic.{Arithmetic}
use Rattle.go_grammar.specs.declared.kind.Step.{Step}
use Rattle.go_grammar.specs.declared.kind.Sort.TheVariants as declaring
use Rattle.go_grammar.specs.Categories.{place_of}
use Rattle.go_grammar.specs.Grammar.{rule}
use Rattle.go_grammar.specs.Trees.{Trees, node}
use Rattle.go_typed.specs.declared.form.Form.{Form}
use Rattle.go_typed.specs.declared.form.Form.TheVariants as form
use Rattle.go_typed.specs.Trees.{typed, form_of}
use Rattle.go_exprs_rules.specs.declared.fault.TypeFault.{TypeFault}
use Rattle.go_exprs_rules.specs.Scopes.{Hint}
use Rattle.go_exprs_rules.specs.Settling.{Part}
use Rattle.go_exprs_rules.specs.Tables.{Parts, held, all_held}
use Rattle.go_stmts_defs.specs.Frames.{Frame}
use Rattle.go_stmts_defs.specs.Laying.{layout, form_by, without_absent, specifications, header_parts, if_parts, switch_parts}
use Rattle.go_stmts_defs.specs.Rules.{own_faults, built_by}
use Rattle.go_function_holes.proofs.Public.{Below, OfHole, open-free}
use Rattle.go_function_holes_windows.proofs.Rows.{OneOf, Each, Good, Fine, each-both, each-good, each-held, each-there, fine-good}
use Rattle.go_function_holes_windows.proofs.Takings.{built-fine, declares_none, none-declared}
use Rattle.go_function_holes_windows.proofs.Read.{PlainKind, PlainRule, RowAs, row-fine}

-- the node over its parts, and that none of its own rules fails
abbrev pub node_of : Frame → Kind → ℕ → ℕ → Parts → Part
node_of s k i j xs = built_by s k (form_by k xs) i j (layout s k i xs) (own_faults s k (form_by k xs) i j (layout s k i xs))

abbrev pub Unfailing : Frame → Kind → ℕ → ℕ → Parts → Type 0
Unfailing s k i j xs = own_faults s k (form_by k xs) i j (layout s k i xs) ≡ []

pub built-form : (s : Frame) (k : Kind) (f : Form) (i j : ℕ) (ys : Parts) (own : List TypeFault) → form_of (built_by s k f i j ys own) ≡ f
built-form s k f i j ys [] = refl
built-form s k f i j ys (x ∷ xs) = refl

-- ---- layouts

module _ (P : OfHole) where
  pub one-held : (x : Option Part) → OneOf (Fine P) x → Each (Good P) (held x)
  one-held None h = (tt, tt)
  one-held (Some x) h = h

  one-good : (x : Option Part) → OneOf (Fine P) x → OneOf (Good P) x
  one-good None h = tt
  one-good (Some x) h = fine-good P x h

  header-good : (x : Option Part) → OneOf (Fine P) x → Each (Good P) (header_parts x)
  header-good None h = (tt, (tt, tt))
  header-good (Some (typed (form.Held kind.LateCondition) i j l ps)) h = (tt, h)
  header-good (Some (typed (form.Held kind.LateTag) i j l ps)) h = (tt, h)
  header-good (Some (typed (form.Held kind.InitializedCondition) i j l ps)) h = h
  header-good (Some (typed (form.Held kind.InitializedTag) i j l ps)) h = h
  header-good (Some x) h = (tt, (fine-good P x h, tt))

  pub if-good : (xs : Parts) → Each (Fine P) xs → Each (Good P) (if_parts xs)
  if-good [] h = tt
  if-good (x ∷ []) h = each-good P (x ∷ []) h
  if-good (x ∷ b ∷ []) h = each-good P (x ∷ b ∷ []) h
  if-good (x ∷ b ∷ e ∷ []) h = each-both (Good P) (header_parts x) (b ∷ held e) (header-good x h.0) (one-good b h.1.0, one-held e h.1.1.0)
  if-good (x ∷ b ∷ e ∷ z ∷ zs) h = each-good P (x ∷ b ∷ e ∷ z ∷ zs) h

  pub switch-good : (xs : Parts) → Each (Fine P) xs → Each (Good P) (switch_parts xs)
  switch-good [] h = tt
  switch-good (x ∷ xs) h = each-both (Good P) (header_parts x) xs (header-good x h.0) (each-good P xs h.1)

  pub returned-good : (xs : Parts) → Each (Fine P) xs → Each (Good P) (without_absent (all_held xs))
  returned-good xs h = each-there (Good P) (all_held xs) (each-held (Good P) xs h)

  pub specified-good : (xs : Parts) → Each (Fine P) xs → Each (Good P) (specifications xs)
  specified-good [] h = tt
  specified-good (None ∷ []) h = (tt, tt)
  specified-good (Some (typed (form.Held (kind.Group s)) i j l ps) ∷ []) h = h.0
  specified-good (Some x ∷ []) h = (fine-good P x h.0, tt)
  specified-good (None ∷ y ∷ zs) h = each-good P (None ∷ y ∷ zs) h
  specified-good (Some x ∷ y ∷ zs) h = each-good P (Some x ∷ y ∷ zs) h

-- ---- nodes

module _ (o : Bool) (c : Category) (s : Frame) (h : Hint) (i j : ℕ) (ps : Trees) where
  abbrev P : Kind → OfHole
  P k = Below o c (node k i j ps)

  plain-node : (k : Kind) → PlainKind k h ps → PlainRule o k 0 (rule (place_of c) k) → declares_none k ≡ true → ((xs : Parts) → Each (Fine (P k)) xs → Each (Good (P k)) (layout s k i xs)) → (xs : Parts) → RowAs c k h ps (rule (place_of c) k) 0 [] xs → Unfailing s k i j xs → Fine (P k) (node_of s k i j xs)
  plain-node k plain e d laid xs r u =
      let ys = layout s k i xs in
      let f = form_by k xs in
      built-fine (P k) s k f i j ys (own_faults s k f i j ys) 0 u (none-declared s k f ys d) (laid xs (row-fine o c k h i j ps plain (rule (place_of c) k) 0 [] xs e r))

  abbrev pub Node : Kind → Parts → Type 0
  Node k xs = RowAs c k h ps (rule (place_of c) k) 0 [] xs → Unfailing s k i j xs → Fine (P k) (node_of s k i j xs)

  pub block : (xs : Parts) → Node kind.Block xs
  block = plain-node kind.Block (record { free = open-free kind.Block refl refl; new = refl; tells = λ xs q. refl }) (λ m. refl) refl (each-good (P kind.Block))

  pub default_clause : (xs : Parts) → Node kind.Default xs
  default_clause = plain-node kind.Default (record { free = open-free kind.Default refl refl; new = refl; tells = λ xs q. refl }) (λ m. refl) refl (each-good (P kind.Default))

  pub case_clause : (xs : Parts) → Node kind.Case xs
  case_clause = plain-node kind.Case (record { free = open-free kind.Case refl refl; new = refl; tells = λ xs q. refl }) (refl, λ m. refl) refl (each-held (Good (P kind.Case)))

  pub returns_values : (xs : Parts) → Node kind.Return xs
  returns_values = plain-node kind.Return (record { free = open-free kind.Return refl refl; new = refl; tells = λ xs q. refl }) (refl, tt) refl (returned-good (P kind.Return))

  pub broken : (xs : Parts) → Node kind.Break xs
  broken = plain-node kind.Break (record { free = open-free kind.Break refl refl; new = refl; tells = λ xs q. refl }) tt refl (each-good (P kind.Break))

  pub continued : (xs : Parts) → Node kind.Continue xs
  continued = plain-node kind.Continue (record { free = open-free kind.Continue refl refl; new = refl; tells = λ xs q. refl }) tt refl (each-good (P kind.Continue))

  pub falling : (xs : Parts) → Node kind.Fallthrough xs
  falling = plain-node kind.Fallthrough (record { free = open-free kind.Fallthrough refl refl; new = refl; tells = λ xs q. refl }) tt refl (each-good (P kind.Fallthrough))

  pub expression : (xs : Parts) → Node kind.ExpressionStatement xs
  expression = plain-node kind.ExpressionStatement (record { free = open-free kind.ExpressionStatement refl refl; new = refl; tells = λ xs q. refl }) (refl, tt) refl (each-good (P kind.ExpressionStatement))

  pub step : (b : Step) (xs : Parts) → Node (kind.StepStatement b) xs
  step b = plain-node (kind.StepStatement b) (record { free = open-free (kind.StepStatement b) refl refl; new = refl; tells = λ xs q. refl }) (refl, tt) refl (each-good (P (kind.StepStatement b)))

  pub operates : (b : Arithmetic) (xs : Parts) → Node (kind.OperatorAssignment b) xs
  operates b = plain-node (kind.OperatorAssignment b) (record { free = open-free (kind.OperatorAssignment b) refl refl; new = refl; tells = λ xs q. refl }) (refl, (refl, tt)) refl (each-good (P (kind.OperatorAssignment b)))

  pub branches : (xs : Parts) → Node kind.If xs
  branches = plain-node kind.If (record { free = open-free kind.If refl refl; new = refl; tells = λ xs q. refl }) (refl, (refl, (refl, tt))) refl (if-good (P kind.If))

  pub otherwise : (xs : Parts) → Node kind.Else xs
  otherwise = plain-node kind.Else (record { free = open-free kind.Else refl refl; new = refl; tells = λ xs q. refl }) (refl, tt) refl (each-good (P kind.Else))

  pub late_condition : (xs : Parts) → Node kind.LateCondition xs
  late_condition = plain-node kind.LateCondition (record { free = open-free kind.LateCondition refl refl; new = refl; tells = λ xs q. refl }) (refl, tt) refl (each-good (P kind.LateCondition))

  pub initialized_condition : (xs : Parts) → Node kind.InitializedCondition xs
  initialized_condition = plain-node kind.InitializedCondition (record { free = open-free kind.InitializedCondition refl refl; new = refl; tells = λ xs q. refl }) (refl, (refl, tt)) refl (each-good (P kind.InitializedCondition))

  pub switches : (xs : Parts) → Node kind.Switch xs
  switches = plain-node kind.Switch (record { free = open-free kind.Switch refl refl; new = refl; tells = λ xs q. refl }) (refl, λ m. refl) refl (switch-good (P kind.Switch))

  pub late_tag : (xs : Parts) → Node kind.LateTag xs
  late_tag = plain-node kind.LateTag (record { free = open-free kind.LateTag refl refl; new = refl; tells = λ xs q. refl }) (refl, tt) refl (each-good (P kind.LateTag))

  pub initialized_tag : (xs : Parts) → Node kind.InitializedTag xs
  initialized_tag = plain-node kind.InitializedTag (record { free = open-free kind.InitializedTag refl refl; new = refl; tells = λ xs q. refl }) (refl, (refl, tt)) refl (each-good (P kind.InitializedTag))

  pub for_clause : (xs : Parts) → Node kind.ForClause xs
  for_clause = plain-node kind.ForClause (record { free = open-free kind.ForClause refl refl; new = refl; tells = λ xs q. refl }) (refl, (refl, tt)) refl (each-good (P kind.ForClause))

  pub initialized_for_clause : (xs : Parts) → Node kind.InitializedForClause xs
  initialized_for_clause = plain-node kind.InitializedForClause (record { free = open-free kind.InitializedForClause refl refl; new = refl; tells = λ xs q. refl }) (refl, (refl, (refl, tt))) refl (each-good (P kind.InitializedForClause))

  pub ranges : (xs : Parts) → Node kind.Range xs
  ranges = plain-node kind.Range (record { free = open-free kind.Range refl refl; new = refl; tells = λ xs q. refl }) (refl, tt) refl (each-good (P kind.Range))

  pub variables_group : (xs : Parts) → Node (kind.Group declaring.Variable) xs
  variables_group = plain-node (kind.Group declaring.Variable) (record { free = open-free (kind.Group declaring.Variable) refl refl; new = refl; tells = λ xs q. refl }) (λ m. refl) refl (each-good (P (kind.Group declaring.Variable)))

  pub variables : (xs : Parts) → Node (kind.Declaration declaring.Variable) xs
  variables = plain-node (kind.Declaration declaring.Variable) (record { free = open-free (kind.Declaration declaring.Variable) refl refl; new = refl; tells = λ xs q. refl }) (refl, tt) refl (specified-good (P (kind.Declaration declaring.Variable)))
