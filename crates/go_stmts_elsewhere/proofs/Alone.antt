-- Statements that stay where they are, in frames that agree on what they name.
use Rattle.std.proofs.Common.{◌≡◌, ◌∙◌, ℕ, Bool, List, [], ◌∷◌, map, refl, sym, ap, subst}
use Rattle.go_types.specs.Trees.{TypeTree}
use Rattle.go_typed.specs.declared.form.Form.{Form}
use Rattle.go_typed.specs.declared.form.Form.TheVariants as form
use Rattle.go_typed.specs.declared.form.Referent.{Referent}
use Rattle.go_typed.specs.declared.form.Referent.TheVariants as referent
use Rattle.go_typed.specs.Trees.{typed, Typeds}
use Rattle.go_typed.specs.Trees as sort
use Rattle.go_grammar.specs.Trees.{Tree}
use Rattle.go_exprs_rules.specs.declared.fault.TypeFault.{TypeFault}
use Rattle.go_exprs_rules.specs.Scopes.{Hint}
use Rattle.go_exprs_rules.specs.Settling.{Part}
use Rattle.go_package_alike.specs.Scopes.{AllTokens}
use Rattle.go_stmts_defs.specs.Frames.{Frame}
use Rattle.go_stmts_defs.specs.Reading.{Found, Reading, read, reading}
use Rattle.go_exprs_elsewhere.specs.Elsewhere.{referent_moved, form_moved, placed, all_placed, fault_placed}
use Rattle.go_stmts_elsewhere.specs.Frames.{faults_placed}
use Rattle.go_stmts_elsewhere.specs.Functions.{stays}
use Rattle.go_stmts_elsewhere.specs.Marked.{AlongReadingsAt, SameReadingsAt, RelatedAt}
use Rattle.go_stmts_elsewhere.proofs.Cutting.{related_along}
use Rattle.go_stmts_elsewhere.proofs.Marked.{StatementsFollow, reading_at}
use Rattle.go_stmts_elsewhere.proofs.Numbered.{carried, spelling, keeps_places}

-- ---- nothing is moved

pub referent_stays : (r : Referent) → referent_moved stays r ≡ r
referent_stays (referent.Constant n) = refl
referent_stays r = refl

form_stays : (f : Form) → form_moved stays f ≡ f
form_stays (form.Object r) = ap form.Object (referent_stays r)
form_stays f = refl

mutual
  part_stays : (x : Part) → placed stays x ≡ x
  part_stays (typed f i j l ps) = ap (λ g. typed g i j l (all_placed stays ps)) (form_stays f) ∙ ap (typed f i j l) (row_stays ps)

  row_stays : (ps : Typeds TypeTree) → all_placed stays ps ≡ ps
  row_stays sort.none = refl
  row_stays (sort.more x xs) = ap (λ y. sort.more y (all_placed stays xs)) (part_stays x) ∙ ap (sort.more x) (row_stays xs)
  row_stays (sort.skip xs) = ap sort.skip (row_stays xs)

list_stays : (fs : List TypeFault) → map (fault_placed stays) fs ≡ fs
list_stays [] = refl
list_stays (f ∷ fs) = ap (λ gs. f ∷ gs) (list_stays fs)

found_stays : (fs : Found) → faults_placed stays fs ≡ fs
found_stays [] = refl
found_stays (f ∷ fs) = ap (λ g. g ∷ faults_placed stays fs) (list_stays f) ∙ ap (λ gs. f ∷ gs) (found_stays fs)

module _ (same : StatementsFollow) (p : ℕ → Bool) (l : ℕ → Bool) where
  as_same : (r s : Reading) → AlongReadingsAt p p stays l r s → SameReadingsAt p l r s
  as_same (read x fs f) (read y gs g) e = (e.0 ∙ part_stays x, e.1 ∙ found_stays fs, e.2, e.3)

  pub read_alone : (f g : Frame) → RelatedAt p p stays l f g → (h : Hint) (x : Tree) → AllTokens p x → SameReadingsAt p l (reading f h x) (reading g h x)
  read_alone f g c h x t =
      as_same (reading f h x) (reading g h x)
      (subst (λ y. AlongReadingsAt p p stays l (reading f h x) (reading g h y)) (carried x)
      (reading_at same p p stays l f g (related_along p p stays l f g c) h x ((t, subst (AllTokens p) (sym (carried x)) t), spelling (λ n. n) (λ n. n) (λ n. n) (λ n. n) x, keeps_places (λ n. n) (λ n. n) (λ n. n) (λ n. n) x)))
