-- Zero values of types that can be told.
use Rattle.std.proofs.Common.{◌≡◌, ◌<◌, ℕ, zero, suc, true, false, List, [], ◌∷◌, Option, Some, None, IsSome, slice_get, replicate, refl, sym, ap, subst, ◌∙◌, arith}
use Rattle.std.specs.Option.{option_map, unwrap_or}
use Rattle.go_types.specs.declared.shape.Field.{Field}
use Rattle.go_types.specs.declared.shape.Shape.{Shape}
use Rattle.go_types.specs.Tables.{tree_of}
use Rattle.go_types.specs.Verdicts.{kept_count}
use Rattle.go_types.specs.Trees.{TypeTree, boolean, text, integer, array, slice, structure, function, declared, is_declared}
use Rattle.go_types.specs.Relations.{Rights, Underlying, itself, through, Scalars, of_boolean, of_text, of_integer, of_array, of_slice, of_structure, of_function, of_right}
use Rattle.go_types_relations.specs.Tests.{underlying_of}
use Rattle.go_types_relations.specs.Sizes.{scalars_of}
use Rattle.go_types_relations.specs.Questions.{on_both}
use Rattle.go_types_relations.specs.Zeros.{Zero, elements, fields, nil_function, ZeroRow, no_zeros, more_zeros, zero_of, zeros_of}
use Rattle.go_types_relations.proofs.Public.{zero_of_underlying, zero_counted, counted_told, told_underlying, underlying_told, told_scalars}
use Rattle.go_meaning.specs.Planning.{zero_in}
use Rattle.go_meaning.specs.Values as meant
use Rattle.go_meaning.specs.Values.{zero_value, zero_values, copies, listed, valued}
use Rattle.go_eval_operations.specs.Settled.{AreKnown, row_of, zeros_in, told_size, told_row_size}

pub by_underlying : (rights : Rights) (t u : TypeTree) → Some u ≡ underlying_of rights t → zero_of rights t ≡ zero_of rights u
by_underlying rights t u e = zero_of_underlying rights t u (told_underlying rights t u (sym e))

-- an underlying type is no declared one
never_declared : (rights : Rights) (t u : TypeTree) → Underlying rights t u → is_declared u ≡ false
never_declared rights t u (itself _ h) = h
never_declared rights t u (through n r _ h k) = never_declared rights r u k

pub no_name : (rights : Rights) (t : TypeTree) (n : ℕ) → Some (declared n) ≡ underlying_of rights t → ⊥
no_name rights t n e = let contra : true ≡ false = never_declared rights t (declared n) (told_underlying rights t (declared n) (sym e)) in cc

has_underlying : (rights : Rights) (t : TypeTree) (n : ℕ) → Scalars rights t n → (u : TypeTree) × Underlying rights t u
has_underlying rights t n of_boolean = (boolean, itself boolean refl)
has_underlying rights t n of_text = (text, itself text refl)
has_underlying rights t n (of_integer k) = (integer k, itself (integer k) refl)
has_underlying rights t n (of_array m e s h) = (array m e, itself (array m e) refl)
has_underlying rights t n (of_slice e) = (slice e, itself (slice e) refl)
has_underlying rights t n (of_structure ns ts s h) = (structure ns ts, itself (structure ns ts) refl)
has_underlying rights t n (of_function ps rs) = (function ps rs, itself (function ps rs) refl)
has_underlying rights t n (of_right m r _ h k) = let i = has_underlying rights r n k in (i.0, through m r i.0 h i.1)

told_value : (o : Option Zero) → IsSome o → (z : Zero) × (o ≡ Some z)
told_value None h = absurd cc
told_value (Some z) h = (z, refl)

pub underlying_there : (rights : Rights) (t : TypeTree) → None ≡ underlying_of rights t → IsSome (zero_of rights t) → ⊥
underlying_there rights t e h =
    let z = told_value (zero_of rights t) h in
    let n = zero_counted rights t z.0 z.1 in
    let u = has_underlying rights t n.0 (told_scalars rights t n.0 n.1) in
    let contra : None ≡ Some u.0 = e ∙ underlying_told rights t u.0 u.1 in
    cc

-- ---- arrays and structs

pub array_told : (o : Option Zero) (n : ℕ) → IsSome (option_map (elements n) o) → IsSome o
array_told None n h = h
array_told (Some z) n h = refl

pub array_smaller : (o : Option Zero) (n : ℕ) → IsSome (option_map (elements n) o) → told_size o < told_size (option_map (elements n) o)
array_smaller None n h = absurd cc
array_smaller (Some z) n h = omega arith

pub struct_told : (o : Option ZeroRow) → IsSome (option_map fields o) → IsSome o
struct_told None h = h
struct_told (Some z) h = refl

pub struct_smaller : (o : Option ZeroRow) → IsSome (option_map fields o) → told_row_size o < told_size (option_map fields o)
struct_smaller None h = absurd cc
struct_smaller (Some z) h = omega arith

both_told : (o : Option Zero) (p : Option ZeroRow) → IsSome (on_both more_zeros o p) → IsSome o × IsSome p × (told_size o < told_row_size (on_both more_zeros o p)) × (told_row_size p < told_row_size (on_both more_zeros o p))
both_told None p h = absurd cc
both_told (Some z) None h = absurd cc
both_told (Some z) (Some zs) h = (refl, refl, omega arith, omega arith)

pub field_told : (rights : Rights) (type_of : ℕ → TypeTree) (fs : List Field) (i : ℕ) (f : Field) → slice_get fs i ≡ Some f → IsSome (zeros_of rights (row_of type_of fs))
    → IsSome (zero_of rights (type_of f.ty)) × (told_size (zero_of rights (type_of f.ty)) < told_row_size (zeros_of rights (row_of type_of fs)))
field_told rights type_of [] i f e h = absurd cc
field_told rights type_of (g ∷ fs) zero f e h =
    let b = both_told (zero_of rights (type_of g.ty)) (zeros_of rights (row_of type_of fs)) h in
    let same : g ≡ f = cc in
    subst (λ (x : Field). IsSome (zero_of rights (type_of x.ty)) × (told_size (zero_of rights (type_of x.ty)) < told_row_size (zeros_of rights (row_of type_of (g ∷ fs))))) same (b.0, b.2)
field_told rights type_of (g ∷ fs) (suc i) f e h =
    let b = both_told (zero_of rights (type_of g.ty)) (zeros_of rights (row_of type_of fs)) h in
    let r = field_told rights type_of fs i f e b.1 in
    (r.0, omega (arith, r.1, b.3))

-- ---- the values

pub listed_valued : (vs : List meant.Value) → listed (valued vs) ≡ vs
listed_valued [] = refl
listed_valued (v ∷ vs) = ap (λ us. v ∷ us) (listed_valued vs)

valued_replicate : (n : ℕ) (v : meant.Value) → valued (replicate n v) ≡ copies n v
valued_replicate zero v = refl
valued_replicate (suc n) v = ap (meant.more v) (valued_replicate n v)

pub array_value : (o : Option Zero) (n : ℕ) → IsSome o → meant.Parts (valued (replicate n (zero_value (unwrap_or o nil_function)))) ≡ zero_value (unwrap_or (option_map (elements n) o) nil_function)
array_value None n h = absurd cc
array_value (Some z) n h = ap meant.Parts (valued_replicate n (zero_value z))

both_values : (o : Option Zero) (p : Option ZeroRow) (us : meant.Values) → ((ws : ZeroRow) → p ≡ Some ws → us ≡ zero_values ws) → (zs : ZeroRow) → on_both more_zeros o p ≡ Some zs
    → meant.more (zero_value (unwrap_or o nil_function)) us ≡ zero_values zs
both_values None p us k zs e = let contra : None ≡ Some zs = e in absurd cc
both_values (Some z) None us k zs e = let contra : None ≡ Some zs = e in absurd cc
both_values (Some z) (Some ws) us k zs e = let same : Some (more_zeros z ws) ≡ Some zs = e in let s : more_zeros z ws ≡ zs = cc in ap (meant.more (zero_value z)) (k ws refl) ∙ ap zero_values s

row_values : (rights : Rights) (type_of : ℕ → TypeTree) (fs : List Field) (zs : ZeroRow) → zeros_of rights (row_of type_of fs) ≡ Some zs → valued (zeros_in rights type_of fs) ≡ zero_values zs
row_values rights type_of [] zs e = let same : Some no_zeros ≡ Some zs = e in let s : no_zeros ≡ zs = cc in ap zero_values s
row_values rights type_of (g ∷ fs) zs e = both_values (zero_of rights (type_of g.ty)) (zeros_of rights (row_of type_of fs)) (valued (zeros_in rights type_of fs)) (row_values rights type_of fs) zs e

told_row : (o : Option ZeroRow) → IsSome o → (zs : ZeroRow) × (o ≡ Some zs)
told_row None h = absurd cc
told_row (Some zs) h = (zs, refl)

pub struct_value : (rights : Rights) (type_of : ℕ → TypeTree) (fs : List Field) → IsSome (zeros_of rights (row_of type_of fs))
    → meant.Parts (valued (zeros_in rights type_of fs)) ≡ zero_value (unwrap_or (option_map fields (zeros_of rights (row_of type_of fs))) nil_function)
struct_value rights type_of fs h =
    let z = told_row (zeros_of rights (row_of type_of fs)) h in
    ap meant.Parts (row_values rights type_of fs z.0 z.1) ∙ sym (ap (λ o. zero_value (unwrap_or (option_map fields o) nil_function)) z.1)

-- ---- by the shape of the underlying type

pub arm : (rights : Rights) (type_of : ℕ → TypeTree) (t : TypeTree) (s u : Shape) → s ≡ u → Some (tree_of type_of s) ≡ underlying_of rights t → zero_of rights t ≡ zero_of rights (tree_of type_of u)
arm rights type_of t s u e h = by_underlying rights t (tree_of type_of u) (ap (λ x. Some (tree_of type_of x)) (sym e) ∙ h)

pub value_at : (rights : Rights) (type_of : ℕ → TypeTree) (t : TypeTree) (s u : Shape) → s ≡ u → Some (tree_of type_of s) ≡ underlying_of rights t → zero_value (zero_in rights (tree_of type_of u)) ≡ zero_value (zero_in rights t)
value_at rights type_of t s u e h = ap (λ o. zero_value (unwrap_or o nil_function)) (sym (arm rights type_of t s u e h))

pub field_known : (n : ℕ) (fs : List Field) (i : ℕ) (f : Field) → slice_get fs i ≡ Some f → AreKnown n fs → f.ty < n
field_known n [] i f e h = absurd cc
field_known n (g ∷ fs) zero f e h = let same : g ≡ f = cc in subst (λ (x : Field). x.ty < n) same h.0
field_known n (g ∷ fs) (suc i) f e h = field_known n fs i f e h.1

-- ---- what a count of scalars tells

pub told_counted : (rights : Rights) (t : TypeTree) (k : ℕ) → Some k ≡ option_map kept_count (scalars_of rights t) → IsSome (zero_of rights t)
told_counted rights t k e = by (scalars_of rights t) refl e
  where
    by : (s : Option ℕ) → scalars_of rights t ≡ s → Some k ≡ option_map kept_count s → IsSome (zero_of rights t)
    by None q e = absurd cc
    by (Some n) q e = let z = counted_told rights t n q in subst (λ (o : Option Zero). IsSome o) (sym z.1) refl

pub untold : (rights : Rights) (t : TypeTree) → None ≡ option_map kept_count (scalars_of rights t) → meant.NilFunction ≡ zero_value (zero_in rights t)
untold rights t e = by (zero_of rights t) refl
  where
    no_count : (n : ℕ) → scalars_of rights t ≡ Some n → ⊥
    no_count n q = let contra : None ≡ Some (kept_count n) = e ∙ ap (option_map kept_count) q in cc

    by : (o : Option Zero) → zero_of rights t ≡ o → meant.NilFunction ≡ zero_value (unwrap_or o nil_function)
    by None q = refl
    by (Some z) q = let n = zero_counted rights t z q in absurd (no_count n.0 n.1)
