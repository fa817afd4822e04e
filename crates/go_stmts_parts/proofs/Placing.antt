-- The right sides with one more.
use Rattle.std.proofs.Common.{◌≡◌, ℕ, zero, suc, List, [], ◌∷◌, map, Some, None, refl, ap, sym, ◌∙◌}
use Rattle.std.specs.Prelude.{slice_get, slice_set}
use Rattle.std.specs.Option.{option_map}
use Rattle.go_types.specs.Trees.{declared}
use Rattle.go_types.specs.Tables.{Table, IsTable, type_of, rights_of}
use Rattle.go_types.specs.Changes.{IsOpen, defined, rights_with}
use Rattle.go_types.proofs.Public.{declared_type}
use Rattle.go_stmts_defs.specs.Frames.{placed}

placed_map : {A B : Type 0} (f : A → B) (n : ℕ) (x : A) (xs : List A) → map f (slice_set xs n x) ≡ placed n (f x) (map f xs)
placed_map f n x [] = refl
placed_map f zero x (y ∷ ys) = refl
placed_map f (suc n) x (y ∷ ys) = ap (λ zs. f y ∷ zs) (placed_map f n x ys)

placed_same : {A B : Type 0} (f : A → B) (n : ℕ) (x : A) (xs : List A) → slice_get xs n ≡ Some x → map f xs ≡ placed n (f x) (map f xs)
placed_same f n x [] e = refl
placed_same f zero x (y ∷ ys) e = let same : x ≡ y = cc in ap (λ z. f z ∷ map f ys) (sym same)
placed_same f (suc n) x (y ∷ ys) e = ap (λ zs. f y ∷ zs) (placed_same f n x ys e)

same_number : (m n : ℕ) → declared m ≡ declared n → m ≡ n
same_number m n e = cc

module _ (t : Table) (ok : IsTable t) (named n : ℕ) (open_there : IsOpen t named) (is : type_of t.shapes named ≡ declared n) where
  number_is : open_there.0 ≡ n
  number_is = same_number open_there.0 n (sym (declared_type t ok named open_there.0 open_there.1) ∙ is)

  pub defined_rights : (right : ℕ) → rights_of (defined t named right) ≡ placed n (Some (type_of t.shapes right)) (rights_of t)
  unfolding rights_of
  defined_rights right =
      ap (λ x. map (option_map (type_of t.shapes)) (rights_with x right t.rights)) open_there.1
      ∙ placed_map (option_map (type_of t.shapes)) open_there.0 (Some right) t.rights
      ∙ ap (λ m. placed m (Some (type_of t.shapes right)) (map (option_map (type_of t.shapes)) t.rights)) number_is

  pub open_rights : rights_of t ≡ placed n None (rights_of t)
  unfolding rights_of
  open_rights =
      placed_same (option_map (type_of t.shapes)) open_there.0 None t.rights open_there.2
      ∙ ap (λ m. placed m None (map (option_map (type_of t.shapes)) t.rights)) number_is
