-- The number of a shape, and the right sides of a table with more types.
use Rattle.std.proofs.Common.{◌≡◌, ℕ, zero, suc, ◌<◌, inl, inr, List, [], ◌∷◌, ◌++◌, Option, Some, None, Result, Ok, Err, map, length, refl, sym, ap, ◌∙◌, subst, append-nil}
use Rattle.std.specs.Prelude.{slice_get, slice_set, IfOk, OnErr}
use Rattle.std.specs.Option.{option_map}
use Rattle.std.specs.List.{AllByRecursion}
use Rattle.std.proofs.lemmas.List.{map-append}
use Rattle.go_types.specs.declared.shape.Field.{Field}
use Rattle.go_types.specs.declared.shape.Shape.{Shape}
use Rattle.go_types.specs.declared.shape.Shape.TheVariants as shape
use Rattle.go_types.specs.Trees.{TypeTree, array, slice, structure, row}
use Rattle.go_types.specs.Tables.{Table, IsTable, HasShape, HasPartsBelow, type_of, rights_of, tree_of}
use Rattle.go_types.specs.Changes.{IsDeclared, IsInternedIn, defined, rights_with}
use Rattle.go_types.proofs.Public.{get_within, get_last, type_of_shape}
use Rattle.go_types_relations.specs.Extends.{Extends, Grows}
use Rattle.go_types_relations.proofs.Extending.{tree_stays, grows_self, declared_extends}

-- two ways to read parts that agree on those below n
module _ (f g : ℕ → TypeTree) (n : ℕ) (agree : (p : ℕ) → p < n → f p ≡ g p) where
  row_same : (ps : List ℕ) → AllByRecursion (λ p. p < n) ps → row (map f ps) ≡ row (map g ps)
  row_same [] a = refl
  row_same (p ∷ ps) a = let here : f p ≡ g p = agree p a.0 in let there : row (map f ps) ≡ row (map g ps) = row_same ps a.1 in cc

  fields_same : (fs : List Field) → AllByRecursion (λ p. p < n) (map (λ x. x.ty) fs) → row (map (λ x. f x.ty) fs) ≡ row (map (λ x. g x.ty) fs)
  fields_same [] a = refl
  fields_same (x ∷ xs) a = let here : f x.ty ≡ g x.ty = agree x.ty a.0 in let there : row (map (λ y. f y.ty) xs) ≡ row (map (λ y. g y.ty) xs) = fields_same xs a.1 in cc

  first_below : (ps rs : List ℕ) → AllByRecursion (λ p. p < n) (ps ++ rs) → AllByRecursion (λ p. p < n) ps
  first_below [] rs a = tt
  first_below (p ∷ ps) rs a = (a.0, first_below ps rs a.1)

  rest_below : (ps rs : List ℕ) → AllByRecursion (λ p. p < n) (ps ++ rs) → AllByRecursion (λ p. p < n) rs
  rest_below [] rs a = a
  rest_below (p ∷ ps) rs a = rest_below ps rs a.1

  pub shape_same : (s : Shape) → HasPartsBelow n s → tree_of f s ≡ tree_of g s
  shape_same shape.Bool a = refl
  shape_same shape.Text a = refl
  shape_same (shape.Int k) a = refl
  shape_same (shape.Array m e) a = ap (array m) (agree e a.0)
  shape_same (shape.Slice e) a = ap slice (agree e a.0)
  shape_same (shape.Struct fs) a = ap (structure (map (λ x. x.name) fs)) (fields_same fs a)
  shape_same (shape.Func ps rs) a =
      let params : row (map f ps) ≡ row (map g ps) = row_same ps (first_below ps rs a) in
      let results : row (map f rs) ≡ row (map g rs) = row_same rs (rest_below ps rs a) in
      cc
  shape_same (shape.Named m) a = refl

-- the old right sides are the same trees
pub old_rights : (old new : Table) → IsTable old → Extends old new → map (option_map (type_of new.shapes)) old.rights ≡ rights_of old
unfolding rights_of
old_rights old new ok e = all old.rights (λ n x h. (ok.right_sides n x h).0)
  where
    all : (rs : List (Option ℕ)) → ((n x : ℕ) → slice_get rs n ≡ Some (Some x) → x < length old.shapes) → map (option_map (type_of new.shapes)) rs ≡ map (option_map (type_of old.shapes)) rs
    all [] f = refl
    all (None ∷ rs) f = ap (λ xs. None ∷ xs) (all rs (λ n x h. f (suc n) x h))
    all (Some x ∷ rs) f =
        let here : type_of new.shapes x ≡ type_of old.shapes x = tree_stays old new ok e x (f 0 x refl) in
        let there : map (option_map (type_of new.shapes)) rs ≡ map (option_map (type_of old.shapes)) rs = all rs (λ n y h. f (suc n) y h) in
        cc

-- they stay where nothing is declared or defined
pub rights_same : (old new : Table) → IsTable old → Extends old new → new.rights ≡ old.rights → rights_of new ≡ rights_of old
unfolding rights_of
rights_same old new ok e r = ap (map (option_map (type_of new.shapes))) r ∙ old_rights old new ok e

pub declared_rights : (old new : Table) (i : ℕ) → IsTable old → IsDeclared old new i → rights_of new ≡ rights_of old ++ None ∷ []
unfolding rights_of
declared_rights old new i ok d =
    ap (λ (t : Table). map (option_map (type_of new.shapes)) t.rights) d.table ∙ map-append (option_map (type_of new.shapes)) old.rights (None ∷ []) ∙ ap (λ rs. rs ++ None ∷ []) (old_rights old new ok (declared_extends old new i d))

map_set : {X Y : Type 0} (f : X → Y) (xs : List X) (n : ℕ) (y : X) → map f (slice_set xs n y) ≡ slice_set (map f xs) n (f y)
map_set f [] n y = refl
map_set f (x ∷ xs) zero y = refl
map_set f (x ∷ xs) (suc n) y = ap (λ ys. f x ∷ ys) (map_set f xs n y)

pub defined_rights : (old : Table) (named right n : ℕ) → HasShape old named (shape.Named n) → rights_of (defined old named right) ≡ slice_set (rights_of old) n (Some (type_of old.shapes right))
unfolding rights_of
defined_rights old named right n h = ap (map (option_map (type_of old.shapes))) (ap (λ x. rights_with x right old.rights) h) ∙ map_set (option_map (type_of old.shapes)) old.rights n (Some right)

module _ (old new : Table) (ok : IsTable old) (now : IsTable new) (s : Shape) (i : ℕ) (h : IsInternedIn old new s i) where
  extended : Extends old new
  extended =
      elim h.0 [
        | inl k ↦ record { added = []; shapes = k.same ∙ sym (append-nil old.shapes); rights = λ n x g. ap (λ l. slice_get l n) h.1 ∙ g }
        | inr k ↦ record { added = s ∷ []; shapes = k.longer; rights = λ n x g. ap (λ l. slice_get l n) h.1 ∙ g }
      ]

  pub interned_grows : Grows old new
  interned_grows = record { extends = extended; rights = rights_same old new ok extended h.1; table = now }

  its_shape : HasShape new i s
  its_shape =
      elim h.0 [
        | inl k ↦ ap (λ l. slice_get l i) k.same ∙ k.there
        | inr k ↦ ap (λ l. slice_get l i) k.longer ∙ ap (slice_get (old.shapes ++ s ∷ [])) k.last ∙ get_last old.shapes s
      ]

  pub interned_within : i < length new.shapes
  interned_within = get_within new.shapes i s its_shape

  pub interned_tree : HasPartsBelow (length old.shapes) s → type_of new.shapes i ≡ tree_of (type_of old.shapes) s
  interned_tree b = type_of_shape new.shapes now.parts_below i s its_shape ∙ shape_same (type_of new.shapes) (type_of old.shapes) (length old.shapes) (λ p l. tree_stays old new ok extended p l) s b

-- what intern answers
module _ {E : Type 0} (old new : Table) (ok : IsTable old) (now : IsTable new) (s : Shape) where
  pub interns_grow : (r : Result ℕ E) → IfOk r (IsInternedIn old new s) → OnErr r (new ≡ old) → Grows old new
  interns_grow (Ok i) h e = interned_grows old new ok now s i h
  interns_grow (Err x) h e = subst (Grows old) (sym e) (grows_self old ok)

  pub interns_within : (r : Result ℕ E) → IfOk r (IsInternedIn old new s) → IfOk r (λ i. i < length new.shapes)
  interns_within (Ok i) h = interned_within old new ok now s i h
  interns_within (Err x) h = tt

  pub interns_tree : HasPartsBelow (length old.shapes) s → (r : Result ℕ E) → IfOk r (IsInternedIn old new s) → IfOk r (λ i. type_of new.shapes i ≡ tree_of (type_of old.shapes) s)
  interns_tree b (Ok i) h = interned_tree old new ok now s i h b
  interns_tree b (Err x) h = tt
