-- Each local of a function is declared by what the tree of its file tells.
use Rattle.std.proofs.Common.{◌≡◌, ◌∙◌, ℕ, zero, suc, ◌+◌, ◌⊎◌, inl, inr, Bool, true, false, List, [], ◌∷◌, ◌++◌, Some, None, slice_get, refl, sym, ap, subst, arith}
use Rattle.std.specs.Prelude.{if◌then◌else◌}
use Rattle.go_tokens.specs.Tokens.{TokenList}
use Rattle.go_tree.specs.declared.event.Declaration.{Declaration}
use Rattle.go_tree.specs.declared.event.Event.{Event}
use Rattle.go_tree.specs.declared.event.Event.TheVariants as event
use Rattle.go_tree.specs.declared.object.Declared.{Declared}
use Rattle.go_tree.specs.Contexts.{is_package}
use Rattle.go_tree.specs.Declarations.{Found, found, found_in, found_from, is_new, new_among, declarations}
use Rattle.go_tree.specs.Units.{Unit as File}
use Rattle.go_tree.specs.Uses.{uses, local_of, local_in, declared_by, begins_function, own_locals, function_locals}
use Rattle.go_scopes_events.specs.Orders.{EachDeclared}

-- the declaration is told
abbrev pub IsTold : Declaration → List Event → Type 0
IsTold x [] = ⊥
IsTold x (event.Declaration d ∷ es) = (x ≡ d) ⊎ IsTold x es
IsTold x (e ∷ es) = IsTold x es

pub told_has : (Q : Declaration → Type 0) (x : Declaration) (es : List Event) → EachDeclared Q es → IsTold x es → Q x
told_has Q x [] h t = absurd t
told_has Q x (event.Declaration d ∷ es) h (inl e) = subst Q (sym e) h.0
told_has Q x (event.Declaration d ∷ es) h (inr t) = told_has Q x es h.1 t
told_has Q x (e ∷ es) h t = told_has Q x es h t

-- it is told of the file of this number
pub record IsToldIn (us : List File) (n : ℕ) (x : Declaration) : Type 0 where
  pub file : File
  pub there : slice_get us n ≡ Some file
  pub told : IsTold x file.events

abbrev pub IsIn : Found → List Found → Type 0
IsIn x [] = ⊥
IsIn x (d ∷ ds) = (x ≡ d) ⊎ IsIn x ds

in_either : (x : Found) (ds es : List Found) → IsIn x (ds ++ es) → IsIn x ds ⊎ IsIn x es
in_either x [] es h = inr h
in_either x (d ∷ ds) es (inl e) = inl (inl e)
in_either x (d ∷ ds) es (inr h) = by (in_either x ds es h)
  where
    by : IsIn x ds ⊎ IsIn x es → IsIn x (d ∷ ds) ⊎ IsIn x es
    by (inl g) = inl (inr g)
    by (inr g) = inr g

pub new_in : (all ds : List Found) (x : Found) → IsIn x (new_among all ds) → IsIn x ds
new_in all [] x h = absurd h
new_in all (d ∷ ds) x h = by (is_new all d) (λ g. new_in all ds x g) h
  where
    by : (b : Bool) → (IsIn x (new_among all ds) → IsIn x ds) → IsIn x (if b then d ∷ new_among all ds else new_among all ds) → IsIn x (d ∷ ds)
    by true w (inl e) = inl e
    by true w (inr g) = inr (w g)
    by false w g = inr (w g)

-- ---- of one file

in_file : (n : ℕ) (ts : TokenList) (es : List Event) (x : Found) → IsIn x (found_in n ts es) → (x.file ≡ n) × IsTold x.it es
in_file n ts [] x h = absurd h
in_file n ts (event.Declaration d ∷ es) x (inl e) = (ap (λ (z : Found). z.file) e, inl (ap (λ (z : Found). z.it) e))
in_file n ts (event.Declaration d ∷ es) x (inr h) = let g = in_file n ts es x h in (g.0, inr g.1)
in_file n ts (e ∷ es) x h = in_file n ts es x h

pub in_files : (all : List File) (n : ℕ) (us : List File) → ((k : ℕ) (u : File) → slice_get us k ≡ Some u → slice_get all (n + k) ≡ Some u) → (x : Found) → IsIn x (found_from n us) → IsToldIn all x.file x.it
in_files all n [] w x h = absurd h
in_files all n (u ∷ us) w x h =
    by (λ g. in_files all (suc n) us (λ k v e. let i : n + suc k ≡ suc n + k = omega arith in subst (λ m. slice_get all m ≡ Some v) i (w (suc k) v e)) x g)
    (in_either x (found_in n u.tokens u.events) (found_from (suc n) us) h)
  where
    by : (IsIn x (found_from (suc n) us) → IsToldIn all x.file x.it) → IsIn x (found_in n u.tokens u.events) ⊎ IsIn x (found_from (suc n) us) → IsToldIn all x.file x.it
    by later (inl g) =
        let f = in_file n u.tokens u.events x g in
        let e : n + 0 ≡ x.file = let i : n + 0 ≡ n = omega arith in i ∙ sym f.0 in
        record { file = u; there = subst (λ m. slice_get all m ≡ Some u) e (w 0 u refl); told = f.1 }
    by later (inr g) = later g

-- ---- of all functions

there_in : (ds : List Found) (n : ℕ) (d : Declared) → slice_get (own_locals ds) n ≡ Some d → (x : Found) × IsIn x ds × (d ≡ declared_by x)
there_in [] n d e = absurd (let z : None ≡ Some d = e in cc)
there_in (x ∷ ds) n d e = by (λ m w. there_in ds m d w) (begins_function x) (is_package x.it.block) n e
  where
    by : ((m : ℕ) → slice_get (own_locals ds) m ≡ Some d → (y : Found) × IsIn y ds × (d ≡ declared_by y)) → (a b : Bool) (n : ℕ)
        → slice_get (if a then [] else if b then own_locals ds else declared_by x ∷ own_locals ds) n ≡ Some d → (y : Found) × IsIn y (x ∷ ds) × (d ≡ declared_by y)
    by later true b n e = absurd (let z : None ≡ Some d = e in cc)
    by later false true n e = let g = later n e in (g.0, inr g.1, g.2)
    by later false false zero e = (x, inl refl, sym (let z : Some (declared_by x) ≡ Some d = e in cc))
    by later false false (suc n) e = let g = later n e in (g.0, inr g.1, g.2)

function_in : (ds : List Found) (f n : ℕ) (d : Declared) → local_in (slice_get (function_locals ds) f) n ≡ Some d → (x : Found) × IsIn x ds × (d ≡ declared_by x)
function_in [] f n d e = absurd (let z : None ≡ Some d = e in cc)
function_in (x ∷ ds) f n d e = by (λ m w. function_in ds m n d w) (begins_function x) f e
  where
    by : ((m : ℕ) → local_in (slice_get (function_locals ds) m) n ≡ Some d → (y : Found) × IsIn y ds × (d ≡ declared_by y)) → (a : Bool) (f : ℕ)
        → local_in (slice_get (if a then own_locals ds ∷ function_locals ds else function_locals ds) f) n ≡ Some d → (y : Found) × IsIn y (x ∷ ds) × (d ≡ declared_by y)
    by later true zero e = let g = there_in ds n d e in (g.0, inr g.1, g.2)
    by later true (suc f) e = let g = later f e in (g.0, inr g.1, g.2)
    by later false f e = let g = later f e in (g.0, inr g.1, g.2)

-- a local, with the declaration that is told of its file
pub record IsDeclaredSo (us : List File) (d : Declared) : Type 0 where
  pub it : Declaration
  pub told : IsToldIn us d.file it
  pub name : it.name ≡ d.name
  pub scope : it.scope ≡ d.scope
  pub block : it.block ≡ d.block

pub local_told : (us : List File) (f n : ℕ) (d : Declared) → local_of (uses us) f n ≡ Some d → IsDeclaredSo us d
local_told us f n d e =
    let g = function_in (declarations us) f n d e in
    let file : g.0.file ≡ d.file = ap (λ (z : Declared). z.file) (sym g.2) in
    let h = in_files us 0 us (λ k u w. let i : k ≡ 0 + k = omega arith in subst (λ m. slice_get us m ≡ Some u) i w) g.0 (new_in (found us) (found us) g.0 g.1) in
    record { it = g.0.it; told = subst (λ m. IsToldIn us m g.0.it) file h; name = ap (λ (z : Declared). z.name) (sym g.2); scope = ap (λ (z : Declared). z.scope) (sym g.2); block = ap (λ (z : Declared). z.block) (sym g.2) }
