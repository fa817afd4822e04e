-- What a type represents that is the same by two right sides, as default types are by any.
use Rattle.std.proofs.Common.{◌≡◌, ◌∙◌, ℕ, [], ◌++◌, Option, Some, None, refl, ap}
use Rattle.std.specs.Prelude.{if◌then◌else◌}
use Rattle.go_base.specs.declared.fault.FaultCode.TheVariants as code
use Rattle.go_constants.specs.declared.values.Const.{Const}
use Rattle.go_types.specs.Trees.{TypeTree}
use Rattle.go_types.specs.Relations.{Rights}
use Rattle.go_typed.specs.Trees.{typed, Typeds, sort_of}
use Rattle.go_typed.specs.Trees as sort
use Rattle.go_exprs_rules.specs.declared.family.OpenKind.{OpenKind}
use Rattle.go_exprs_rules.specs.declared.family.OpenKind.TheVariants as untyped_kind
use Rattle.go_exprs_rules.specs.Faults.{fault_at}
use Rattle.go_exprs_rules.specs.Settling.{Part, unrepresented_constant, unrepresented, all_unrepresented, undefaulted_by, undefaulted}
use Rattle.go_exprs_rules.specs.Sorts.{is_constant, is_open, open_kind, basic_of, constant_of, default_type, represented_in}
use Rattle.go_stmts_variables.specs.Steady.{Keeps}

-- ---- a type that is the same by two right sides represents the same

kept_constant : (r q : Rights) (t : TypeTree) → Keeps r q (Some t) → (i j : ℕ) (o : Option Const) → unrepresented_constant q t i j o ≡ unrepresented_constant r t i j o
kept_constant r q t e i j None = refl
kept_constant r q t e i j (Some c) = ap (λ u. if represented_in c (basic_of u) then [] else fault_at code.Representable i j) e

mutual
  pub kept_unrepresented : (r q : Rights) (t : TypeTree) → Keeps r q (Some t) → (x : Part) → unrepresented q t x ≡ unrepresented r t x
  kept_unrepresented r q t e (typed f i j l ps) =
      ap (λ z. if is_open l.sort then (if is_constant l.sort then z else all_unrepresented q t ps) else []) (kept_constant r q t e i j (constant_of l.sort))
      ∙ ap (λ z. if is_open l.sort then (if is_constant l.sort then unrepresented_constant r t i j (constant_of l.sort) else z) else []) (all_kept r q t e ps)

  all_kept : (r q : Rights) (t : TypeTree) → Keeps r q (Some t) → (ps : Typeds TypeTree) → all_unrepresented q t ps ≡ all_unrepresented r t ps
  all_kept r q t e sort.none = refl
  all_kept r q t e (sort.skip ps) = all_kept r q t e ps
  all_kept r q t e (sort.more p ps) = ap (λ z. z ++ all_unrepresented q t ps) (kept_unrepresented r q t e p) ∙ ap (λ z. unrepresented r t p ++ z) (all_kept r q t e ps)

-- ---- default types

same_default : (k : OpenKind) (r q : Rights) → Keeps r q (Some (default_type k))
same_default untyped_kind.Boolean r q = refl
same_default untyped_kind.Integer r q = refl
same_default untyped_kind.Rune r q = refl
same_default untyped_kind.Text r q = refl

pub same_unrepresented : (k : OpenKind) (r q : Rights) (x : Part) → unrepresented r (default_type k) x ≡ unrepresented q (default_type k) x
same_unrepresented k r q x = kept_unrepresented q r (default_type k) (same_default k q r) x

pub undefaulted_any : (r q : Rights) (x : Part) → undefaulted r x ≡ [] → undefaulted q x ≡ []
undefaulted_any r q x e = by (open_kind (sort_of x)) e
  where
    by : (o : Option OpenKind) → undefaulted_by r o x ≡ [] → undefaulted_by q o x ≡ []
    by None e = refl
    by (Some k) e = same_unrepresented k q r x ∙ e
