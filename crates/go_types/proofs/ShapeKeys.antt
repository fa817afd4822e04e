-- Shapes with one key are equal.
use Rattle.std.proofs.Common.{◌≡◌, ℕ, List, [], ◌∷◌, ◌++◌, length, refl, ◌∙◌, ap, arith}
use Rattle.go_ints.specs.declared.kinds.Kind.{Kind}
use Rattle.go_ints.specs.declared.kinds.Kind.TheVariants.{Int8, Int16, Int32, Int64, Uint8, Uint16, Uint32, Uint64, Int, Uint}
use Rattle.go_types.specs.declared.shape.Field.{Field}
use Rattle.go_types.specs.declared.shape.Shape.{Shape}
use Rattle.go_types.specs.declared.shape.Shape.TheVariants as shape
use Rattle.go_types.specs.Keys.{key, kind_number, fields_key}

-- lists begun by lists of one length
pub append_parts : (xs ys us vs : List ℕ) → length xs ≡ length ys → xs ++ us ≡ ys ++ vs → (xs ≡ ys) × (us ≡ vs)
append_parts [] [] us vs l e = (refl, e)
append_parts [] (y ∷ ys) us vs l e = absurd (omega arith)
append_parts (x ∷ xs) [] us vs l e = absurd (omega arith)
append_parts (x ∷ xs) (y ∷ ys) us vs l e =
    let h : x ≡ y = cc in
    let t : xs ++ us ≡ ys ++ vs = cc in
    let p = append_parts xs ys us vs (omega arith) t in
    let front : xs ≡ ys = p.0 in
    let whole : x ∷ xs ≡ y ∷ ys = cc in
    (whole, p.1)

pub same_field : (f g : Field) → f.name ≡ g.name → f.ty ≡ g.ty → f ≡ g
same_field f g n t = ap (λ (x : List ℕ). let r : Field = record { name = x; ty = f.ty } in r) n ∙ ap (λ (x : ℕ). let r : Field = record { name = g.name; ty = x } in r) t

pub same_fields : (fs gs : List Field) → fields_key fs ≡ fields_key gs → fs ≡ gs
same_fields [] [] e = refl
same_fields [] (g ∷ gs) e = cc
same_fields (f ∷ fs) [] e = cc
same_fields (f ∷ fs) (g ∷ gs) e =
    let types : f.ty ≡ g.ty = cc in
    let lengths : length f.name ≡ length g.name = cc in
    let rest : f.name ++ fields_key fs ≡ g.name ++ fields_key gs = cc in
    let p = append_parts f.name g.name (fields_key fs) (fields_key gs) lengths rest in
    let head : f ≡ g = same_field f g p.0 types in
    let tail : fs ≡ gs = same_fields fs gs p.1 in
    cc

same_kind : (k l : Kind) → kind_number k ≡ kind_number l → k ≡ l
same_kind Int8 Int8 e = refl
same_kind Int8 _ e = absurd (omega arith)
same_kind Int16 Int16 e = refl
same_kind Int16 _ e = absurd (omega arith)
same_kind Int32 Int32 e = refl
same_kind Int32 _ e = absurd (omega arith)
same_kind Int64 Int64 e = refl
same_kind Int64 _ e = absurd (omega arith)
same_kind Uint8 Uint8 e = refl
same_kind Uint8 _ e = absurd (omega arith)
same_kind Uint16 Uint16 e = refl
same_kind Uint16 _ e = absurd (omega arith)
same_kind Uint32 Uint32 e = refl
same_kind Uint32 _ e = absurd (omega arith)
same_kind Uint64 Uint64 e = refl
same_kind Uint64 _ e = absurd (omega arith)
same_kind Int Int e = refl
same_kind Int _ e = absurd (omega arith)
same_kind Uint Uint e = refl
same_kind Uint _ e = absurd (omega arith)

pub same_shape : (s t : Shape) → key s ≡ key t → s ≡ t
unfolding key
same_shape shape.Bool shape.Bool e = refl
same_shape shape.Bool _ e = cc
same_shape shape.Text shape.Text e = refl
same_shape shape.Text _ e = cc
same_shape (shape.Int k) (shape.Int l) e = let n : kind_number k ≡ kind_number l = cc in ap shape.Int (same_kind k l n)
same_shape (shape.Int k) _ e = cc
same_shape (shape.Array n t) (shape.Array m u) e = cc
same_shape (shape.Array n t) _ e = cc
same_shape (shape.Slice t) (shape.Slice u) e = cc
same_shape (shape.Slice t) _ e = cc
same_shape (shape.Struct fs) (shape.Struct gs) e = let h : fields_key fs ≡ fields_key gs = cc in ap shape.Struct (same_fields fs gs h)
same_shape (shape.Struct fs) _ e = cc
same_shape (shape.Func ps rs) (shape.Func qs ss) e =
    let lengths : length ps ≡ length qs = cc in
    let rest : ps ++ rs ≡ qs ++ ss = cc in
    let p = append_parts ps qs rs ss lengths rest in
    let params : ps ≡ qs = p.0 in
    let results : rs ≡ ss = p.1 in
    cc
same_shape (shape.Func ps rs) _ e = cc
same_shape (shape.Named n) (shape.Named m) e = cc
same_shape (shape.Named n) _ e = cc
