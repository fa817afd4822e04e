-- The declared types of a package, one after the other.
use Rattle.std.proofs.Common.{◌≡◌, ℕ, zero, suc, ◌+◌, ◌<◌, true, List, [], ◌∷◌, ◌++◌, length, map, drop, get_or, Some, refl, ap, sym, subst, ◌∙◌, append_assoc, arith}
use Rattle.std.specs.Prelude.{slice_get}
use Rattle.std.specs.Option.{option_map}
use Rattle.std.proofs.lemmas.Option.{same_Some}
use Rattle.go_tree.specs.declared.object.Declared.{Declared}
use Rattle.go_types.specs.declared.shape.Shape.TheVariants as shape
use Rattle.go_types.specs.Trees.{declared}
use Rattle.go_types.specs.Relations.{Rights}
use Rattle.go_types.specs.Tables.{Table, IsTable, HasShape, type_of, rights_of}
use Rattle.go_types.specs.Changes.{IsDeclared}
use Rattle.go_types.proofs.Public.{get_last, get_within, declared_type}
use Rattle.go_types_relations.proofs.Public.{declared_extends, tree_stays, declared_rights}
use Rattle.go_exprs_engine.proofs.Public.{longer}
use Rattle.go_exprs_rules.proofs.Public.{drop_step}
use Rattle.go_package_defs.specs.Knowledge.{is_type}
use Rattle.go_package_rounds.specs.World.{AreNamed}
use Rattle.go_package_types.specs.Numbers.{open_right, open_rights}

snoc : (P : ℕ → ℕ → Type 0) (is : List ℕ) (o : ℕ) → ((n i : ℕ) → slice_get is n ≡ Some i → P n i) → P (length is) o → (n i : ℕ) → slice_get (is ++ o ∷ []) n ≡ Some i → P n i
snoc P [] o f g zero i e = subst (P 0) (same_Some o i e) g
snoc P [] o f g (suc n) i e = absurd cc
snoc P (x ∷ is) o f g zero i e = f zero i e
snoc P (x ∷ is) o f g (suc n) i e = snoc (λ m j. P (suc m) j) is o (λ m j h. f (suc m) j h) g n i e

module _ (old new : Table) (i : ℕ) (ok : IsTable old) (now : IsTable new) (d : IsDeclared old new i) where
  has : HasShape new i (shape.Named (length old.rights))
  has =
      ap (λ (t : Table). slice_get t.shapes i) d.table ∙ ap (slice_get (old.shapes ++ shape.Named (length old.rights) ∷ [])) d.last ∙ get_last old.shapes (shape.Named (length old.rights))

  pub named_next : (is : List ℕ) → AreNamed old is → length is ≡ length old.rights → AreNamed new (is ++ i ∷ [])
  named_next is h count =
      let e = declared_extends old new i d in
      let wider = longer old new ok e in
      snoc (λ k j. (j < length new.shapes) × (type_of new.shapes j ≡ declared k)) is i
      (λ k j at. let lt = (h k j at).0 in (omega (arith, wider, lt), tree_stays old new ok e j (h k j at).0 ∙ (h k j at).1))
      (get_within new.shapes i (shape.Named (length old.rights)) has, declared_type new now i (length old.rights) has ∙ ap declared (sym count))

  pub rights_next : rights_of new ≡ rights_of old ++ open_right true
  rights_next = declared_rights old new i ok d

-- one object more
pub open_step : (ds : List Declared) (k : ℕ) (z : Declared) (before now all : Rights) → k < length ds → now ≡ before ++ open_right (is_type (get_or ds k z).entity) → before ++ open_rights (drop k ds) ≡ all → now ++ open_rights (drop (k + 1) ds) ≡ all
open_step ds k z before now all lt e h =
    ap (λ r. r ++ open_rights (drop (k + 1) ds)) e
    ∙ append_assoc before (open_right (is_type (get_or ds k z).entity)) (open_rights (drop (k + 1) ds))
    ∙ ap (λ xs. before ++ open_rights xs) (sym (drop_step ds k (get_or ds k z) z lt refl)) ∙ h

pub nothing_named : (t : Table) (is : List ℕ) → is ≡ [] → AreNamed t is
nothing_named t [] e k i at = absurd cc
nothing_named t (x ∷ is) e k i at = absurd cc

pub no_rights : (t : Table) → t.rights ≡ [] → rights_of t ≡ []
unfolding rights_of
no_rights t e = ap (map (option_map (type_of t.shapes))) e
