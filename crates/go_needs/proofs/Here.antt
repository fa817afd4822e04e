-- An object's specification is among those of the objects.
use Rattle.std.proofs.Common.{◌≡◌, ◌∙◌, ℕ, zero, suc, Bool, true, false, ◌&&◌, ◌||◌, nat_eq, List, [], ◌∷◌, ◌++◌, Option, Some, None, refl, ap, sym, subst, arith}
use Rattle.std.specs.Prelude.{slice_get}
use Rattle.go_tree.specs.Needs.{is_source}
use Rattle.go_needs.specs.declared.owners.Owner.{Owner}
use Rattle.go_needs.specs.Owners.{has_source}
use Rattle.go_needs.specs.Reached.{IsOurs}
use Rattle.go_needs.proofs.Standing.{number_itself}

pub or_holds : (b c : Bool) → c ≡ true → (b || c) ≡ true
or_holds true c e = refl
or_holds false c e = e

pub here : (w o : Owner) (s : ℕ) → w ≡ o → o.source ≡ Some s → (nat_eq w.file o.file && is_source s w.source) ≡ true
here w o s same src =
    subst (λ v. (nat_eq v.file o.file && is_source s v.source) ≡ true) (sym same)
    (ap (λ b. b && is_source s o.source) (number_itself o.file) ∙ (ap (is_source s) src ∙ number_itself s))

pub there : (ws others : List Owner) (m : ℕ) (o : Owner) (s : ℕ) → slice_get ws m ≡ Some o → o.source ≡ Some s → has_source (ws ++ others) o.file s ≡ true
there [] others m o s e src = absurd (grind (arith, e))
there (w ∷ ws) others zero o s e src = ap (λ b. b || has_source (ws ++ others) o.file s) (here w o s (grind (arith, e)) src)
there (w ∷ ws) others (suc m) o s e src = or_holds (nat_eq w.file o.file && is_source s w.source) (has_source (ws ++ others) o.file s) (there ws others m o s e src)

pub ours_object : (os others : List Owner) (n : ℕ) (o : Option ℕ) (w : Owner) (m : ℕ) → slice_get os m ≡ Some w → w.file ≡ n → w.source ≡ o → IsOurs (os ++ others) n o
ours_object os others n None w m e file src = tt
ours_object os others n (Some s) w m e file src = subst (λ j. has_source (os ++ others) j s ≡ true) file (there os others m w s e src)
