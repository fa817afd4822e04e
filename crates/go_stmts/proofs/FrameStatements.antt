-- A statement over its parts, but for a specification of a type.
use Rattle.std.proofs.Common.{◌≡◌, ℕ, false, cond, List, [], ◌∷◌, Option, Some, None, refl, ap, ◌∙◌}
use Rattle.go_grammar.specs.declared.kind.Kind.{Kind}
use Rattle.go_grammar.specs.declared.kind.Kind.TheVariants as kind
use Rattle.go_grammar.specs.declared.kind.Sort.TheVariants as declaring
use Rattle.go_typed.specs.declared.form.Form.{Form}
use Rattle.go_exprs_rules.specs.declared.fault.TypeFault.{TypeFault}
use Rattle.go_exprs_rules.specs.Faults.{least, earlier, judged}
use Rattle.go_exprs_rules.specs.Settling.{Part}
use Rattle.go_exprs_rules.specs.Tables.{Parts}
use Rattle.go_stmts_defs.specs.Frames.{Frame}
use Rattle.go_stmts_defs.specs.Laying.{form_by, layout}
use Rattle.go_stmts_defs.specs.Rules.{judges, failing, own_faults, built_by}
use Rattle.go_stmts_parts.specs.Layouts.{laid}
use Rattle.go_stmts_rules.specs.Told.{statement_failing}
use Rattle.go_stmts.specs.Nodes.{statement_faults, statement_node}
use Rattle.go_stmts.specs.Signatures.{is_type_specification, failing_over, built_over}

pub laid_is : (s : Frame) (k : Kind) (i : ℕ) (xs : Parts) → is_type_specification k ≡ false → laid s k i xs ≡ layout s k i xs
laid_is s (kind.Specification declaring.Type) i xs e = cc
laid_is s k i xs e = refl

failing_is : (s : Frame) (k : Kind) (f : Form) (i j : ℕ) (ys : Parts) → is_type_specification k ≡ false → statement_failing s k f i j ys ≡ failing s k f i j ys
failing_is s (kind.Specification declaring.Type) f i j ys e = cc
failing_is s k f i j ys e = refl

any_node : (e : TypeFault) (o : Option TypeFault) (x y : Part) → judged (earlier (Some e) o) x ≡ judged (earlier (Some e) o) y
any_node e None x y = refl
any_node e (Some g) x y = refl

module _ (s : Frame) (k : Kind) (apart : is_type_specification k ≡ false) where
  own_is : (f : Form) (i j : ℕ) (ys : Parts) → statement_faults s k f i j ys ≡ own_faults s k f i j ys
  own_is f i j ys = ap (λ fs. cond (judges k ys) fs []) (failing_is s k f i j ys apart)

  by_faults : (f : Form) (i j : ℕ) (ys : Parts) (own : List TypeFault) → judged (least own) (statement_node s k f i j ys) ≡ judged (least own) (built_by s k f i j ys own)
  by_faults f i j ys [] = refl
  by_faults f i j ys (e ∷ es) = any_node e (least es) (statement_node s k f i j ys) (built_by s k f i j ys (e ∷ es))

  pub statement_over : (f : Form) (i j : ℕ) (xs ys : Parts) → f ≡ form_by k xs → ys ≡ layout s k i xs → judged (least (statement_faults s k f i j ys)) (statement_node s k f i j ys) ≡ judged (least (failing_over s k i j xs)) (built_over s k i j xs)
  statement_over f i j xs ys fe ye =
      ap (λ own. judged (least own) (statement_node s k f i j ys)) (own_is f i j ys)
      ∙ by_faults f i j ys (own_faults s k f i j ys)
      ∙ ap (λ g. judged (least (own_faults s k g i j ys)) (built_by s k g i j ys (own_faults s k g i j ys))) fe
      ∙ ap (λ zs. judged (least (own_faults s k (form_by k xs) i j zs)) (built_by s k (form_by k xs) i j zs (own_faults s k (form_by k xs) i j zs))) ye
