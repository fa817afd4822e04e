-- The specifications of objects and of first names are among all.
use Rattle.std.proofs.Common.{◌≡◌, ◌∙◌, ℕ, zero, suc, true, ◌&&◌, ◌||◌, nat_eq, List, [], ◌∷◌, ◌++◌, Option, Some, None, refl, ap, arith}
use Rattle.std.specs.Prelude.{slice_get}
use Rattle.go_tree.specs.Needs.{is_source}
use Rattle.go_needs.specs.declared.groups.Group.{Group}
use Rattle.go_needs.specs.declared.owners.Owner.{Owner}
use Rattle.go_needs.specs.Groups.{with_root, roots}
use Rattle.go_needs.specs.Owners.{has_source}
use Rattle.go_needs.specs.Reached.{IsOurs}
use Rattle.go_needs.proofs.Here.{or_holds, here}

pub has_right : (ws os : List Owner) (n s : ℕ) → has_source os n s ≡ true → has_source (ws ++ os) n s ≡ true
has_right [] os n s h = h
has_right (w ∷ ws) os n s h = or_holds (nat_eq w.file n && is_source s w.source) (has_source (ws ++ os) n s) (has_right ws os n s h)

with_there : (r : Option Owner) (os : List Owner) (n s : ℕ) → has_source os n s ≡ true → has_source (with_root r os) n s ≡ true
with_there None os n s h = h
with_there (Some o) os n s h = or_holds (nat_eq o.file n && is_source s o.source) (has_source os n s) h

root_there : (gs : List Group) (i : ℕ) (g : Group) (o : Owner) (s : ℕ) → slice_get gs i ≡ Some g → g.root ≡ Some o → o.source ≡ Some s → has_source (roots gs) o.file s ≡ true
root_there [] i g o s e r src = absurd (grind (arith, e))
root_there (h ∷ gs) zero g o s e r src =
    let same : h ≡ g = grind (arith, e) in
    ap (λ v. has_source (with_root v (roots gs)) o.file s) (ap (λ v. v.root) same ∙ r) ∙ ap (λ b. b || has_source (roots gs) o.file s) (here o o s refl src)
root_there (h ∷ gs) (suc i) g o s e r src = with_there h.root (roots gs) o.file s (root_there gs i g o s e r src)

root_by : (os : List Owner) (gs : List Group) (i : ℕ) (g : Group) (o : Owner) (s : Option ℕ) → slice_get gs i ≡ Some g → g.root ≡ Some o → o.source ≡ s → IsOurs (os ++ roots gs) o.file s
root_by os gs i g o None e r src = tt
root_by os gs i g o (Some s) e r src = has_right os (roots gs) o.file s (root_there gs i g o s e r src)

pub root_ours : (os : List Owner) (gs : List Group) (i : ℕ) (g : Group) (o : Owner) → slice_get gs i ≡ Some g → g.root ≡ Some o → IsOurs (os ++ roots gs) o.file o.source
root_ours os gs i g o e r = root_by os gs i g o o.source e r refl
