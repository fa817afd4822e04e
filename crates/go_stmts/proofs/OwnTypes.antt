-- The declared types of the locals, one after the other.
use Rattle.std.proofs.Common.{◌≡◌, ℕ, zero, suc, ◌+◌, ◌<◌, ◌≤◌, Bool, true, false, List, [], ◌∷◌, ◌++◌, length, map, drop, replicate, Option, Some, None, refl, ap, sym, subst, ◌∙◌, append_assoc, append-nil, get_or, arith}
use Rattle.std.specs.Prelude.{slice_get}
use Rattle.std.proofs.lemmas.List.{length-append, drop_all}
use Rattle.std.proofs.lemmas.Option.{same_Some}
use Rattle.go_tree.specs.declared.object.Declared.{Declared}
use Rattle.go_types.specs.declared.shape.Shape.TheVariants as shape
use Rattle.go_types.specs.Trees.{declared}
use Rattle.go_types.specs.Relations.{Rights}
use Rattle.go_types.specs.Tables.{Table, IsTable, HasShape, type_of, rights_of}
use Rattle.go_types.specs.Changes.{IsDeclared}
use Rattle.go_types.proofs.Public.{get_last, get_within, declared_type}
use Rattle.go_types_relations.specs.Extends.{Extends}
use Rattle.go_types_relations.proofs.Public.{tree_stays, declared_rights}
use Rattle.go_exprs_engine.proofs.Public.{longer}
use Rattle.go_exprs_rules.proofs.Public.{drop_step}
use Rattle.go_package_defs.specs.Knowledge.{is_type}
use Rattle.go_package_defs.specs.Bodies.{which_types, count_types, local_type}
use Rattle.go_stmts.specs.Bodies.{IsNext, IsOwn, AreOwn}

pub next_type : (old new : Table) (i : ℕ) → IsTable old → IsTable new → IsDeclared old new i → IsNext old new i
next_type old new i ok now d =
    let shapes : new.shapes ≡ old.shapes ++ shape.Named (length old.rights) ∷ [] = ap (λ (t : Table). t.shapes) d.table in
    let has : HasShape new i (shape.Named (length old.rights)) = ap (λ l. slice_get l i) shapes ∙ ap (slice_get (old.shapes ++ shape.Named (length old.rights) ∷ [])) d.last ∙ get_last old.shapes (shape.Named (length old.rights)) in
    let size = ap (λ (t : Table). length t.rights) d.table ∙ length-append old.rights (None ∷ []) in
    record {
      known = get_within new.shapes i (shape.Named (length old.rights)) has;
      is = declared_type new now i (length old.rights) has;
      count = omega (arith, size);
      rights = declared_rights old new i ok d;
    }

-- ---- lists

snoc : (P : ℕ → ℕ → Type 0) (is : List (Option ℕ)) (o : Option ℕ) → ((n i : ℕ) → slice_get is n ≡ Some (Some i) → P n i) → ((i : ℕ) → o ≡ Some i → P (length is) i) → (n i : ℕ) → slice_get (is ++ o ∷ []) n ≡ Some (Some i) → P n i
snoc P [] o f g zero i e = g i (sym (same_Some (Some i) o (sym e)))
snoc P [] o f g (suc n) i e = cc
snoc P (x ∷ is) o f g zero i e = f zero i e
snoc P (x ∷ is) o f g (suc n) i e = snoc (λ m j. P (suc m) j) is o (λ m j h. f (suc m) j h) g n i e

drop_map : {A B : Type 0} (f : A → B) (xs : List A) (n : ℕ) → drop n (map f xs) ≡ map f (drop n xs)
drop_map f [] zero = refl
drop_map f [] (suc n) = refl
drop_map f (x ∷ xs) zero = refl
drop_map f (x ∷ xs) (suc n) = drop_map f xs n

local_type_is : (m : ℕ) (bs : List Bool) (k : ℕ) → local_type m bs k + count_types (drop k bs) ≡ m + count_types bs
local_type_is m [] zero = refl
local_type_is m [] (suc k) = refl
local_type_is m (b ∷ bs) zero = refl
local_type_is m (true ∷ bs) (suc k) = let e = local_type_is (suc m) bs k in omega (arith, e)
local_type_is m (false ∷ bs) (suc k) = local_type_is m bs k

-- ---- one local more

module _ (old new : Table) where
  rights_more : (b : Bool) (o : Option ℕ) → IsOwn old new b o → (bs : List Bool) → rights_of new ++ replicate (count_types bs) None ≡ rights_of old ++ replicate (count_types (b ∷ bs)) None
  rights_more true (Some i) h bs = ap (λ r. r ++ replicate (count_types bs) None) h.rights ∙ append_assoc (rights_of old) (None ∷ []) (replicate (count_types bs) None)
  rights_more true None h bs = absurd h
  rights_more false (Some i) h bs = absurd h
  rights_more false None h bs = ap (λ t. rights_of t ++ replicate (count_types bs) None) h

  size_more : (b : Bool) (o : Option ℕ) → IsOwn old new b o → (bs : List Bool) → length new.rights + count_types bs ≡ length old.rights + count_types (b ∷ bs)
  size_more true (Some i) h bs = let e = h.count in omega (arith, e)
  size_more true None h bs = absurd h
  size_more false (Some i) h bs = absurd h
  size_more false None h bs = ap (λ (t : Table). length t.rights + count_types bs) h

  next_there : (b : Bool) (o : Option ℕ) → IsOwn old new b o → (i : ℕ) → o ≡ Some i → IsNext old new i
  next_there true (Some j) h i e = subst (IsNext old new) (same_Some j i e) h
  next_there true None h i e = absurd h
  next_there false (Some j) h i e = absurd h
  next_there false None h i e = cc

  module _ (ds : List Declared) (k : ℕ) (lt : k < length ds) (z : Declared) (o : Option ℕ) (own : IsOwn old new (is_type (get_or ds k z).entity) o) where
    abbrev here : Bool
    here = is_type (get_or ds k z).entity

    abbrev rest : List Bool
    rest = which_types (drop (k + 1) ds)

    split : which_types (drop k ds) ≡ here ∷ rest
    split = ap which_types (drop_step ds k (get_or ds k z) z lt refl)

    pub rights_step : (r : Rights) → rights_of old ++ replicate (count_types (which_types (drop k ds))) None ≡ r → rights_of new ++ replicate (count_types (which_types (drop (k + 1) ds))) None ≡ r
    rights_step r e = rights_more here o own rest ∙ ap (λ bs. rights_of old ++ replicate (count_types bs) None) (sym split) ∙ e

    pub size_step : (n : ℕ) → length old.rights + count_types (which_types (drop k ds)) ≡ n → length new.rights + count_types (which_types (drop (k + 1) ds)) ≡ n
    size_step n e = size_more here o own rest ∙ ap (λ bs. length old.rights + count_types bs) (sym split) ∙ e

    pub own_step : (m : ℕ) (is js : List (Option ℕ)) → IsTable old → Extends old new → length old.rights + count_types (which_types (drop k ds)) ≡ m + count_types (which_types ds) → length is ≡ k → js ≡ is ++ o ∷ []
        → AreOwn old m (which_types ds) is → AreOwn new m (which_types ds) js
    own_step m is js ok e size long more has =
        let there = local_type_is m (which_types ds) k in
        let same = ap count_types (drop_map (λ (x : Declared). is_type x.entity) ds k) in
        let at : length old.rights ≡ local_type m (which_types ds) k = omega (arith, there, same, size) in
        let number : length old.rights ≡ local_type m (which_types ds) (length is) = at ∙ ap (local_type m (which_types ds)) (sym long) in
        let wider = longer old new ok e in
        subst (AreOwn new m (which_types ds)) (sym more)
        (snoc (λ n i. (i < length new.shapes) × (type_of new.shapes i ≡ declared (local_type m (which_types ds) n))) is o
        (λ n i at. let h = has n i at in let lt = h.0 in (omega (arith, wider, lt), tree_stays old new ok e i h.0 ∙ h.1))
        (λ i at. let h = next_there here o own i at in (h.known, h.is ∙ ap declared number)))

-- behind the last one
pub rights_end : (t : Table) (ds : List Declared) (k : ℕ) (r : Rights) → length ds ≤ k → rights_of t ++ replicate (count_types (which_types (drop k ds))) None ≡ r → rights_of t ≡ r
rights_end t ds k r le e = sym (append-nil (rights_of t)) ∙ ap (λ xs. rights_of t ++ replicate (count_types (which_types xs)) None) (sym (drop_all k ds le)) ∙ e

pub nothing_own : (t : Table) (m : ℕ) (bs : List Bool) (is : List (Option ℕ)) → is ≡ [] → AreOwn t m bs is
nothing_own t m bs [] e zero i at = cc
nothing_own t m bs [] e (suc n) i at = cc
nothing_own t m bs (x ∷ is) e n i at = cc
