-- The right sides that are held of the objects, and those that the table takes.
use Rattle.std.proofs.Common.{◌≡◌, ℕ, Bool, true, false, ◌+◌, ◌<◌, ◌≤◌, List, [], ◌∷◌, ◌++◌, length, map, drop, Option, Some, ap, sym, subst, ◌∙◌, append_assoc, append-nil}
use Rattle.std.specs.Option.{option_map}
use Rattle.std.proofs.lemmas.List.{map-append, drop_all}
use Rattle.go_tree.specs.declared.object.Declared.{Declared}
use Rattle.go_types.specs.Relations.{Rights}
use Rattle.go_stmts_defs.specs.Frames.{placed}
use Rattle.go_types.specs.Tables.{Table, type_of, rights_of}
use Rattle.go_types.specs.declared.shape.Shape.{Shape}
use Rattle.go_package_rounds.specs.declared.held.Held.{Held}
use Rattle.go_package_rounds.specs.Held.{KnownRight}
use Rattle.go_package_rounds.specs.Rights.{behind, rights_held}
use Rattle.go_package_order.specs.Progress.{KnownRights, HasRights, own_right, sides}
use Rattle.go_package_order.proofs.Lists.{all_placed, all_snoc, placed_mapped}

-- one more
pub sides_more : (t : Table) (rs : List (Option ℕ)) (r : Option ℕ) → sides t (rs ++ r ∷ []) ≡ sides t rs ++ option_map (type_of t.shapes) r ∷ []
sides_more t rs r = map-append (option_map (type_of t.shapes)) rs (r ∷ [])

-- a declared type that takes one
pub has_placed : (old new : Table) (place right : ℕ) (rs zs : List (Option ℕ)) → new.shapes ≡ old.shapes → right < length old.shapes → rights_of new ≡ placed place (Some (type_of old.shapes right)) (rights_of old) → zs ≡ placed place (Some right) rs
    → HasRights old rs → HasRights new zs
has_placed old new place right rs zs same known is e h = record {
  known = subst (KnownRights (length new.shapes)) (sym e) (subst (λ (xs : List Shape). KnownRights (length xs) (placed place (Some right) rs)) (sym same) (all_placed (KnownRight (length old.shapes)) rs place (Some right) h.known known));
  are = is ∙ ap (placed place (Some (type_of old.shapes right))) h.are ∙ sym (placed_mapped (option_map (type_of old.shapes)) rs place (Some right))
      ∙ ap (map (option_map (type_of old.shapes))) (sym e) ∙ ap (λ (xs : List Shape). map (option_map (type_of xs)) zs) (sym same);
}

-- one object after the other
pub known_more : (n : ℕ) (b : Bool) (rs : List (Option ℕ)) (r : Option ℕ) → KnownRights n rs → KnownRight n r → KnownRights n (rs ++ own_right b r)
known_more n true rs r a k = all_snoc (KnownRight n) rs r a k
known_more n false rs r a k = subst (KnownRights n) (sym (append-nil rs)) a

pub sides_on : (t : Table) (b : Bool) (rs : List (Option ℕ)) (r : Option ℕ) (xs : Rights) → sides t (rs ++ own_right b r) ++ xs ≡ sides t rs ++ behind b (option_map (type_of t.shapes) r) xs
sides_on t true rs r xs = ap (λ ys. ys ++ xs) (sides_more t rs r) ∙ append_assoc (sides t rs) (option_map (type_of t.shapes) r ∷ []) xs
sides_on t false rs r xs = ap (λ ys. sides t ys ++ xs) (append-nil rs)

pub none_left : (t : Table) (n : ℕ) (ds : List Declared) (hs : List Held) → length ds ≤ n → rights_held t (drop n ds) hs ≡ []
none_left t n ds hs h = ap (λ xs. rights_held t xs hs) (drop_all n ds h)
