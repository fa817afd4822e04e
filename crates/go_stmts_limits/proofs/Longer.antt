-- Behind more right sides a type that is counted stays within the limit.
use Rattle.std.proofs.Common.{◌≡◌, ℕ, ◌<◌, true, false, length, Some, sym, ap, ◌∙◌}
use Rattle.std.specs.Prelude.{slice_get}
use Rattle.std.specs.Option.{option_map}
use Rattle.go_types.specs.Trees.{TypeTree, TypeRow, boolean, text, integer, array, slice, structure, function, declared, none, more}
use Rattle.go_types.specs.Relations.{array_scalars}
use Rattle.go_types_relations.specs.Sizes.{scalars_of}
use Rattle.go_exprs_rules.specs.Scopes.{Scope}
use Rattle.go_exprs_rules.specs.TypeNodes.{exceeds}
use Rattle.go_print_laws.specs.Reading.{IsWithin, RowIsWithin}
use Rattle.go_stmts_limits.specs.Longer.{IsCounted, RowIsCounted}
use Rattle.go_stmts_limits.proofs.Arrays.{AreTold, counts_stay}
use Rattle.go_stmts_limits.proofs.Frames.{front_has}

module _ (tells : AreTold) (limit s : Scope) (judged : limit.limits ≡ true) (front : (n : ℕ) → n < length limit.rights → slice_get s.rights n ≡ slice_get limit.rights n) where
  counted : (t : TypeTree) (n : ℕ) → scalars_of limit.rights t ≡ Some n → scalars_of s.rights t ≡ Some n
  counted t n e = counts_stay tells limit.rights s.rights (front_has limit.rights s.rights front) t n e

  array_stays : (n k : ℕ) (t : TypeTree) → scalars_of limit.rights t ≡ Some k → exceeds (scalars_of limit.rights (array n t)) ≡ false → exceeds (scalars_of s.rights (array n t)) ≡ false
  array_stays n k t e h = ap (λ o. exceeds (option_map (array_scalars n) o)) (counted t k e) ∙ (sym (ap (λ o. exceeds (option_map (array_scalars n) o)) e) ∙ h)

  mutual
    pub stays_within : (t : TypeTree) → IsCounted limit.rights t → IsWithin limit t → IsWithin s t
    stays_within boolean c w = tt
    stays_within text c w = tt
    stays_within (integer k) c w = tt
    stays_within (array n t) c w = (w.0, (λ h. array_stays n c.0.0 t c.0.1 (w.1 judged)), stays_within t c.1 w.2)
    stays_within (slice t) c w = stays_within t c w
    stays_within (structure ns ts) c w = row_stays ts c w
    stays_within (function ps rs) c w = (row_stays ps c.0 w.0, row_stays rs c.1 w.1)
    stays_within (declared n) c w = tt

    row_stays : (ts : TypeRow) → RowIsCounted limit.rights ts → RowIsWithin limit ts → RowIsWithin s ts
    row_stays none c w = tt
    row_stays (more t ts) c w = (stays_within t c.0 w.0, row_stays ts c.1 w.1)
