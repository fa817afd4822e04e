-- What the names of a function mean by itself, by the declarations that it finds.
use Rattle.std.proofs.Common.{◌≡◌, ◌∙◌, ℕ, suc, ◌+◌, ◌-◌, ◌≤◌, ◌⊎◌, inl, inr, Bool, true, false, List, [], ◌∷◌, ◌++◌, Option, Some, None, refl, sym, ap, subst, arith}
use Rattle.std.specs.Prelude.{if◌then◌else◌, ◌&&◌, nat_eq, slice_get, option_map}
use Rattle.go_tokens.specs.Spellings.{same_text}
use Rattle.go_tree.specs.declared.context.Block.{Block}
use Rattle.go_tree.specs.declared.context.Block.TheVariants as block
use Rattle.go_tree.specs.declared.event.Event.{Event}
use Rattle.go_tree.specs.declared.event.Event.TheVariants as event
use Rattle.go_tree.specs.declared.object.Object.{Object}
use Rattle.go_tree.specs.declared.object.Object.TheVariants as object
use Rattle.go_tree.specs.Contexts.{is_package}
use Rattle.go_tree.specs.Declarations.{Found, is_function, is_new, new_among}
use Rattle.go_tree.specs.Extents.{covers, lies_inside, extent_of}
use Rattle.go_tree.specs.Meanings.{Meaning, Numbers, first_numbers, own_number, behind_shared, numbers_behind, numbered, declared_meaning}
use Rattle.go_tree.specs.Objects.{is_declared_at}
use Rattle.go_tree.specs.Uses.{declared_by}
use Rattle.go_tree.specs.Units.{is_blank}
use Rattle.go_scopes_events.specs.Orders.{AreInOrder}
use Rattle.go_scopes_events.specs.Scopes.{is_local, locals_of, inner, inmost}
use Rattle.go_scopes_cycles.specs.Needs.{source_of}
use Rattle.go_heads.specs.Bodies.{function_events}
use Rattle.go_heads.specs.Functions.{Alone}
use Rattle.go_heads.specs.Locals.{locals_in}
use Rattle.go_heads.specs.Names.{found_by, own_declarations}
use Rattle.go_heads.proofs.Public.{Every, every_map, same_some}
use Rattle.go_scopes_bodies.specs.Meant.{Meant, own, outside, Outer, own_meanings, own_local, or_outside, own_meant, own_declared, told_object}
use Rattle.extract_names.specs.Sites.{declared_at, DeclaresItself, token_of, name_there}
use Rattle.extract_names.proofs.Edges.{is_eq, eq_true, not_eq}

-- ---- declarations in order

abbrev pub RiseFrom : ℕ → List Found → Type 0
RiseFrom lo [] = Unit {0}
RiseFrom lo (d ∷ ds) = (lo ≤ d.it.name) × RiseFrom (suc d.it.name) ds

pub rise_lower : (lo hi : ℕ) (ds : List Found) → lo ≤ hi → RiseFrom hi ds → RiseFrom lo ds
rise_lower lo hi [] le h = tt
rise_lower lo hi (d ∷ ds) le h = (let k : hi ≤ d.it.name = h.0 in omega (arith, le, k), h.1)

pub rise_new : (lo : ℕ) (all ds : List Found) → RiseFrom lo ds → RiseFrom lo (new_among all ds)
rise_new lo all [] h = tt
rise_new lo all (d ∷ ds) h = by (is_new all d) (rise_new (suc d.it.name) all ds h.1)
  where
    by : (b : Bool) → RiseFrom (suc d.it.name) (new_among all ds) → RiseFrom lo (if b then d ∷ new_among all ds else new_among all ds)
    by true k = (h.0, k)
    by false k = rise_lower lo (suc d.it.name) (new_among all ds) (let le : lo ≤ d.it.name = h.0 in omega (arith, le)) k

pub rise_found : (w : ℕ → List ℕ) (i j : ℕ) (es : List Event) → AreInOrder i j es → RiseFrom i (found_by w es)
rise_found w i j [] h = tt
rise_found w i j (event.Declaration d ∷ es) h = (h.0, rise_found w (suc d.name) j es h.1)
rise_found w i j (event.Use u ∷ es) h = rise_lower i (suc u.name) (found_by w es) (let le : i ≤ u.name = h.0 in omega (arith, le)) (rise_found w (suc u.name) j es h.1)
rise_found w i j (event.Import k ∷ es) h = rise_found w i j es h
rise_found w i j (event.Member m g k ∷ es) h = rise_found w i j es h
rise_found w i j (event.Bodiless k l ∷ es) h = rise_found w i j es h
rise_found w i j (event.Statement k l ∷ es) h = rise_found w i j es h
rise_found w i j (event.Misplaced k l ∷ es) h = rise_found w i j es h
rise_found w i j (event.SecondDefault k ∷ es) h = rise_found w i j es h

pub files_found : (w : ℕ → List ℕ) (es : List Event) → Every (λ d. d.file ≡ 0) (found_by w es)
files_found w [] = tt
files_found w (event.Declaration d ∷ es) = (refl, files_found w es)
files_found w (event.Use u ∷ es) = files_found w es
files_found w (event.Import k ∷ es) = files_found w es
files_found w (event.Member m g k ∷ es) = files_found w es
files_found w (event.Bodiless k l ∷ es) = files_found w es
files_found w (event.Statement k l ∷ es) = files_found w es
files_found w (event.Misplaced k l ∷ es) = files_found w es
files_found w (event.SecondDefault k ∷ es) = files_found w es

-- the declaration at a token
abbrev pub find : ℕ → List Found → Option Found
find x [] = None
find x (d ∷ ds) = if nat_eq d.it.name x then Some d else find x ds

pub find_name : (x : ℕ) (ds : List Found) (d : Found) → find x ds ≡ Some d → d.it.name ≡ x
find_name x [] d e = cc
find_name x (f ∷ ds) d e = by (nat_eq f.it.name x) refl e (find_name x ds d)
  where
    by : (b : Bool) → nat_eq f.it.name x ≡ b → (if b then Some f else find x ds) ≡ Some d → (find x ds ≡ Some d → d.it.name ≡ x) → d.it.name ≡ x
    by true q r go = subst (λ (z : Found). z.it.name ≡ x) (same_some f d r) (eq_true f.it.name x q)
    by false q r go = go r

pub find_self : (lo : ℕ) (ds : List Found) → RiseFrom lo ds → Every (λ d. (lo ≤ d.it.name) × (find d.it.name ds ≡ Some d)) ds
find_self lo [] h = tt
find_self lo (f ∷ ds) h = (
  (h.0, ap (λ b. if b then Some f else find f.it.name ds) (is_eq f.it.name f.it.name refl)),
  every_map (λ d. (suc f.it.name ≤ d.it.name) × (find d.it.name ds ≡ Some d)) (λ d. (lo ≤ d.it.name) × (find d.it.name (f ∷ ds) ≡ Some d)) ds step (find_self (suc f.it.name) ds h.1),
)
  where
    step : (d : Found) → (suc f.it.name ≤ d.it.name) × (find d.it.name ds ≡ Some d) → (lo ≤ d.it.name) × (find d.it.name (f ∷ ds) ≡ Some d)
    step d k =
        let low : suc f.it.name ≤ d.it.name = k.0 in
        let le : lo ≤ f.it.name = h.0 in
        (omega (arith, low, le), ap (λ b. if b then Some f else find d.it.name ds) (not_eq f.it.name d.it.name (λ e. omega (arith, e, low))) ∙ k.1)

-- ---- objects

source_here : (x : ℕ) (d : Found) → d.file ≡ 0 → is_declared_at 0 x (Some d) ≡ nat_eq d.it.name x
source_here x d e = ap (λ b. b && nat_eq d.it.name x) (is_eq d.file 0 e)

pub none_declared : (k : Numbers) (ds : List Found) (x : ℕ) → Every (λ d. d.file ≡ 0) ds → find x ds ≡ None → own_declared None x (numbered k ds) ≡ None
none_declared k [] x h e = refl
none_declared k (d ∷ ds) x h e =
    ap (λ b. if b then Some (own (own_number k d.it.block)) else own_declared None x (numbered (numbers_behind k d.it.entity d.it.block) ds)) (source_here x d h.0)
    ∙ by (nat_eq d.it.name x) e (none_declared (numbers_behind k d.it.entity d.it.block) ds x h.1)
  where
    by : (b : Bool) → (if b then Some d else find x ds) ≡ None → (find x ds ≡ None → own_declared None x (numbered (numbers_behind k d.it.entity d.it.block) ds) ≡ None) → (if b then Some (own (own_number k d.it.block)) else own_declared None x (numbered (numbers_behind k d.it.entity d.it.block) ds)) ≡ None
    by true r go = cc
    by false r go = go r

-- the number that a local has among others, from the numbers k on
pub record Numbered (k : Numbers) (ds : List Found) (x : ℕ) (d : Found) : Type 0 where
  pub index : ℕ
  pub object : own_declared None x (numbered k ds) ≡ Some (own (object.Local (k.functions - 1) (k.local + index)))
  pub there : slice_get (locals_in ds) index ≡ Some (declared_by d)

pub local_found : (k : Numbers) (ds : List Found) (x : ℕ) (d : Found) → Every (λ d. d.file ≡ 0) ds → Every (λ d. is_package d.it.block ≡ false) ds → find x ds ≡ Some d → Numbered k ds x d
local_found k [] x d h l e = cc
local_found k (f ∷ ds) x d h l e = let g = chosen f.it.block l.0 (nat_eq f.it.name x) (source_here x f h.0) e (λ j r. local_found j ds x d h.1 l.1 r) in record { index = g.0; object = g.1; there = g.2 }
  where
    Goal : Block → Type 0
    Goal c = (i : ℕ)
        × (own_declared None x (record { name = f.name; extent = extent_of f; object = own_number k c; source = Some f } ∷ numbered (numbers_behind k f.it.entity c) ds) ≡ Some (own (object.Local (k.functions - 1) (k.local + i))))
        × (slice_get (if is_package c then locals_in ds else declared_by f ∷ locals_in ds) i ≡ Some (declared_by d))

    here : (i : ℕ) (b : Bool) → is_declared_at 0 x (Some f) ≡ b → (if b then Some f else find x ds) ≡ Some d → ((j : Numbers) → find x ds ≡ Some d → Numbered j ds x d) → Goal (block.Local i)
    here i true q r go =
        let z : k.local ≡ k.local + 0 = omega arith in
        (0, ap (λ b. if b then Some (own (object.Local (k.functions - 1) k.local)) else own_declared None x (numbered (record k { local = suc k.local }) ds)) q ∙ ap (λ n. Some (own (object.Local (k.functions - 1) n))) z, ap (λ (z : Found). Some (declared_by z)) (same_some f d r))
    here i false q r go =
        let n : Numbered (record k { local = suc k.local }) ds x d = go (record k { local = suc k.local }) r in
        let z : suc k.local + n.index ≡ k.local + suc n.index = omega arith in
        (suc n.index, ap (λ b. if b then Some (own (object.Local (k.functions - 1) k.local)) else own_declared None x (numbered (record k { local = suc k.local }) ds)) q ∙ n.object ∙ ap (λ n. Some (own (object.Local (k.functions - 1) n))) z, n.there)

    chosen : (c : Block) → is_package c ≡ false → (b : Bool) → is_declared_at 0 x (Some f) ≡ b → (if b then Some f else find x ds) ≡ Some d → ((j : Numbers) → find x ds ≡ Some d → Numbered j ds x d) → Goal c
    chosen block.Package z b q r go = cc
    chosen (block.Local i) z b q r go = here i b q r go

pub found_each : (Q : Found → Type 0) (x : ℕ) (ds : List Found) (d : Found) → Every Q ds → find x ds ≡ Some d → Q d
found_each Q x [] d h e = cc
found_each Q x (f ∷ ds) d h e = by (nat_eq f.it.name x) e (found_each Q x ds d h.1)
  where
    by : (b : Bool) → (if b then Some f else find x ds) ≡ Some d → (find x ds ≡ Some d → Q d) → Q d
    by true r go = subst Q (same_some f d r) h.0
    by false r go = go r

-- what an object is that is declared at a token, where a function declares itself and then its locals
abbrev pub IsObject : Alone → ℕ → Found → Type 0
IsObject a x d =
    ((is_package d.it.block ≡ true) × (declared_at a x ≡ Some (own (object.Package 0))))
    ⊎ ((is_package d.it.block ≡ false) × (i : ℕ) × (declared_at a x ≡ Some (own (object.Local 0 i))) × (token_of a i ≡ x))

-- the same of any list
abbrev ObjectIn : List Found → ℕ → Found → Type 0
ObjectIn ds x d =
    ((is_package d.it.block ≡ true) × (own_declared None x (numbered first_numbers ds) ≡ Some (own (object.Package 0))))
    ⊎ ((is_package d.it.block ≡ false) × (i : ℕ) × (own_declared None x (numbered first_numbers ds) ≡ Some (own (object.Local 0 i))) × (name_there (slice_get (locals_in ds) i) ≡ x))

rest_object : (b : Bool) (others : List Found) (x : ℕ) (d : Found) → Every (λ d. d.file ≡ 0) others → Every (λ d. is_package d.it.block ≡ false) others → find x others ≡ Some d
    → (is_package d.it.block ≡ false) × (i : ℕ) × (own_declared None x (numbered (behind_shared first_numbers b) others) ≡ Some (own (object.Local 0 i))) × (name_there (slice_get (locals_in others) i) ≡ x)
rest_object true others x d h l e =
    let n : Numbered (behind_shared first_numbers true) others x d = local_found (behind_shared first_numbers true) others x d h l e in
    let z : 0 + n.index ≡ n.index = omega arith in
    (found_each (λ d. is_package d.it.block ≡ false) x others d l e, n.index, n.object ∙ ap (λ i. Some (own (object.Local 0 i))) z, ap name_there n.there ∙ find_name x others d e)
rest_object false others x d h l e =
    let n : Numbered (behind_shared first_numbers false) others x d = local_found (behind_shared first_numbers false) others x d h l e in
    let z : 0 + n.index ≡ n.index = omega arith in
    (found_each (λ d. is_package d.it.block ≡ false) x others d l e, n.index, n.object ∙ ap (λ i. Some (own (object.Local 0 i))) z, ap name_there n.there ∙ find_name x others d e)

head_object : (f : Found) (others : List Found) (x : ℕ) (d : Found) → is_package f.it.block ≡ true → Every (λ d. is_package d.it.block ≡ false) others → Every (λ d. d.file ≡ 0) (f ∷ others) → find x (f ∷ others) ≡ Some d → ObjectIn (f ∷ others) x d
head_object f others x d p l h e = by f.it.block p p (nat_eq f.it.name x) (source_here x f h.0) e
  where
    Goal : Block → Type 0
    Goal c =
        ((is_package d.it.block ≡ true) × (own_declared None x (record { name = f.name; extent = extent_of f; object = own_number first_numbers c; source = Some f } ∷ numbered (numbers_behind first_numbers f.it.entity c) others) ≡ Some (own (object.Package 0))))
        ⊎ ((is_package d.it.block ≡ false) × (i : ℕ)
        × (own_declared None x (record { name = f.name; extent = extent_of f; object = own_number first_numbers c; source = Some f } ∷ numbered (numbers_behind first_numbers f.it.entity c) others) ≡ Some (own (object.Local 0 i)))
        × (name_there (slice_get (if is_package c then locals_in others else declared_by f ∷ locals_in others) i) ≡ x))

    by : (c : Block) → is_package c ≡ true → is_package f.it.block ≡ true → (b : Bool) → is_declared_at 0 x (Some f) ≡ b → (if b then Some f else find x others) ≡ Some d → Goal c
    by (block.Local i) z g b q r = cc
    by block.Package z g true q r =
        inl (subst (λ (z : Found). is_package z.it.block ≡ true) (same_some f d r) g, ap (λ b. if b then Some (own (object.Package 0)) else own_declared None x (numbered (behind_shared first_numbers (is_function f.it.entity)) others)) q)
    by block.Package z g false q r =
        let o = rest_object (is_function f.it.entity) others x d h.1 l r in
        inr (o.0, o.1, ap (λ b. if b then Some (own (object.Package 0)) else own_declared None x (numbered (behind_shared first_numbers (is_function f.it.entity)) others)) q ∙ o.2, o.3)

pub object_found : (a : Alone) → DeclaresItself a → Every (λ d. d.file ≡ 0) (own_declarations a) → (x : ℕ) (d : Found) → find x (own_declarations a) ≡ Some d → IsObject a x d
object_found a s h x d e =
    subst (λ ds. ObjectIn ds x d) (sym s.whole) (head_object s.function s.others x d s.in_package s.locals (subst (Every (λ d. d.file ≡ 0)) s.whole h) (subst (λ ds. find x ds ≡ Some d) s.whole e))

pub object_none : (a : Alone) → Every (λ d. d.file ≡ 0) (own_declarations a) → (x : ℕ) → find x (own_declarations a) ≡ None → declared_at a x ≡ None
object_none a h x e = none_declared first_numbers (own_declarations a) x h e

-- ---- the innermost declaration of a name

abbrev pub hit : ℕ → List ℕ → Found → Bool
hit t w d = is_local 0 (extent_of d) && (same_text d.name w && covers (extent_of d) 0 t)

abbrev pub inner_of : Option Found → Found → Option Found
inner_of None d = Some d
inner_of (Some a) d = if lies_inside (extent_of a) (extent_of d) then Some a else Some d

abbrev pub over_of : ℕ → List ℕ → Option Found → Found → Option Found
over_of t w o d = if hit t w d then inner_of o d else o

abbrev pub innermost_of : ℕ → List ℕ → Option Found → List Found → Option Found
innermost_of t w o [] = o
innermost_of t w o (d ∷ ds) = innermost_of t w (over_of t w o d) ds

pub innermost_both : (t : ℕ) (w : List ℕ) (o : Option Found) (xs ys : List Found) → innermost_of t w o (xs ++ ys) ≡ innermost_of t w (innermost_of t w o xs) ys
innermost_both t w o [] ys = refl
innermost_both t w o (x ∷ xs) ys = innermost_both t w (over_of t w o x) xs ys

abbrev pub HoldsOf : (Found → Type 0) → Option Found → Type 0
HoldsOf Q None = Unit {0}
HoldsOf Q (Some d) = Q d

pub over_holds : (Q : Found → Type 0) (t : ℕ) (w : List ℕ) (o : Option Found) (d : Found) → HoldsOf Q o → (hit t w d ≡ true → Q d) → HoldsOf Q (over_of t w o d)
over_holds Q t w o d h g = by (hit t w d) o h g
  where
    choose : (b : Bool) (a : Found) → Q a → Q d → HoldsOf Q (if b then Some a else Some d)
    choose true a x y = x
    choose false a x y = y

    by : (b : Bool) (o : Option Found) → HoldsOf Q o → (b ≡ true → Q d) → HoldsOf Q (if b then inner_of o d else o)
    by true None h g = g refl
    by true (Some a) h g = choose (lies_inside (extent_of a) (extent_of d)) a h (g refl)
    by false o h g = h

pub innermost_holds : (Q : Found → Type 0) (t : ℕ) (w : List ℕ) (o : Option Found) (ds : List Found) → HoldsOf Q o → Every (λ d. hit t w d ≡ true → Q d) ds → HoldsOf Q (innermost_of t w o ds)
innermost_holds Q t w o [] h g = h
innermost_holds Q t w o (d ∷ ds) h g = innermost_holds Q t w (over_of t w o d) ds (over_holds Q t w o d h g.0) g.1

-- ---- meanings and declarations

module _ (all : List Meaning) (t : ℕ) (w : List ℕ) where
  -- the meaning is found again by its token
  abbrev IsFound : Meaning → Type 0
  IsFound m = (d : Found) × (m.source ≡ Some d) × (own_declared None d.it.name all ≡ Some (own m.object))

  abbrev Same : Option Meaning → Option Found → Type 0
  Same None None = Unit {0}
  Same None (Some d) = ⊥
  Same (Some m) None = ⊥
  Same (Some m) (Some d) = (m.source ≡ Some d) × (m.extent ≡ extent_of d) × IsFound m

  inner_same : (o : Option Meaning) (p : Option Found) (m : Meaning) (d : Found) → Same o p → m.source ≡ Some d → m.extent ≡ extent_of d → IsFound m → Same (inner o m) (inner_of p d)
  inner_same None None m d s e f g = (e, f, g)
  inner_same None (Some a) m d s e f g = absurd s
  inner_same (Some x) None m d s e f g = absurd s
  inner_same (Some x) (Some a) m d s e f g =
      subst (λ z. Same (if lies_inside z m.extent then Some x else Some m) (inner_of (Some a) d)) (sym s.1) (subst (λ z. Same (if lies_inside (extent_of a) z then Some x else Some m) (inner_of (Some a) d)) (sym f) (by (lies_inside (extent_of a) (extent_of d))))
    where
      by : (b : Bool) → Same (if b then Some x else Some m) (if b then Some a else Some d)
      by true = s
      by false = (e, f, g)

  fold_same : (k : Numbers) (ds : List Found) (o : Option Meaning) (p : Option Found) → Same o p → Every IsFound (numbered k ds) → Same (inmost 0 t w o (locals_of 0 (numbered k ds))) (innermost_of t w p ds)
  fold_same k [] o p s h = s
  fold_same k (d ∷ ds) o p s h = by (is_local 0 (extent_of d)) (λ o p s. fold_same (numbers_behind k d.it.entity d.it.block) ds o p s h.1)
    where
      m : Meaning
      m = declared_meaning d (own_number k d.it.block)

      rest : List Meaning
      rest = locals_of 0 (numbered (numbers_behind k d.it.entity d.it.block) ds)

      once : (c : Bool) → Same (if c then inner o m else o) (if c then inner_of p d else p)
      once true = inner_same o p m d s refl refl h.0
      once false = s

      by : (b : Bool) → ((o : Option Meaning) (p : Option Found) → Same o p → Same (inmost 0 t w o rest) (innermost_of t w p ds))
          → Same (inmost 0 t w o (if b then m ∷ rest else rest)) (innermost_of t w (if b && (same_text d.name w && covers (extent_of d) 0 t) then inner_of p d else p) ds)
      by true go =
          let c : Bool = same_text d.name w && covers (extent_of d) 0 t in
          go (if c then inner o m else o) (if c then inner_of p d else p) (once c)
      by false go = go o p s

all_found : (k : Numbers) (ds : List Found) (lo : ℕ) → RiseFrom lo ds → Every (λ d. d.file ≡ 0) ds
    → Every (λ m. (d : Found) × (m.source ≡ Some d) × (lo ≤ d.it.name) × (own_declared None d.it.name (numbered k ds) ≡ Some (own m.object))) (numbered k ds)
all_found k [] lo r h = tt
all_found k (f ∷ ds) lo r h = (
  (f, refl, r.0, ap (λ b. if b then Some (own (own_number k f.it.block)) else own_declared None f.it.name rest) (source_here f.it.name f h.0 ∙ is_eq f.it.name f.it.name refl)),
  every_map (λ m. (d : Found) × (m.source ≡ Some d) × (suc f.it.name ≤ d.it.name) × (own_declared None d.it.name rest ≡ Some (own m.object)))
      (λ m. (d : Found) × (m.source ≡ Some d) × (lo ≤ d.it.name) × (own_declared None d.it.name (declared_meaning f (own_number k f.it.block) ∷ rest) ≡ Some (own m.object)))
      rest step (all_found (numbers_behind k f.it.entity f.it.block) ds (suc f.it.name) r.1 h.1),
)
  where
    rest : List Meaning
    rest = numbered (numbers_behind k f.it.entity f.it.block) ds

    step : (m : Meaning) → (d : Found) × (m.source ≡ Some d) × (suc f.it.name ≤ d.it.name) × (own_declared None d.it.name rest ≡ Some (own m.object))
        → (d : Found) × (m.source ≡ Some d) × (lo ≤ d.it.name) × (own_declared None d.it.name (declared_meaning f (own_number k f.it.block) ∷ rest) ≡ Some (own m.object))
    step m x =
        let d : Found = x.0 in
        let low : suc f.it.name ≤ d.it.name = x.2 in
        let le : lo ≤ f.it.name = r.0 in
        (d, x.1, omega (arith, low, le), ap (λ b. if b then Some (own (own_number k f.it.block)) else own_declared None d.it.name rest) (source_here d.it.name f h.0 ∙ not_eq f.it.name d.it.name (λ e. omega (arith, e, low))) ∙ x.3)

-- what a name means by the innermost declaration
abbrev pub by_found : Alone → Option Found → Option Object → Option Meant
by_found a None x = option_map outside x
by_found a (Some d) x = declared_at a d.it.name

pub meant_is : (a : Alone) (outer : Outer) (lo : ℕ) → RiseFrom lo (own_declarations a) → Every (λ d. d.file ≡ 0) (own_declarations a) → (t : ℕ) (w : List ℕ)
    → own_meant a outer t w ≡ (if is_blank w then None else by_found a (innermost_of t w None (own_declarations a)) (outer w))
meant_is a outer lo r h t w =
    ap (λ o. if is_blank w then None else o)
    (by (own_local a t w) (innermost_of t w None (own_declarations a))
    (fold_same (own_meanings a) t w first_numbers (own_declarations a) None None tt
    (every_map (λ m. (d : Found) × (m.source ≡ Some d) × (lo ≤ d.it.name) × (own_declared None d.it.name (own_meanings a) ≡ Some (own m.object))) (IsFound (own_meanings a) t w) (own_meanings a) (λ m x. (x.0, x.1, x.3)) (all_found first_numbers (own_declarations a) lo r h))))
  where
    by : (o : Option Meaning) (p : Option Found) → Same (own_meanings a) t w o p → or_outside o (outer w) ≡ by_found a p (outer w)
    by None None s = refl
    by None (Some d) s = absurd s
    by (Some m) None s = absurd s
    by (Some m) (Some d) s = let x = s.2 in let e : x.0 ≡ d = same_some x.0 d (sym x.1 ∙ s.0) in sym x.2 ∙ ap (λ (z : Found). own_declared None z.it.name (own_meanings a)) e

-- the declaration of a local meaning
pub meaning_found : (a : Alone) (lo : ℕ) → RiseFrom lo (own_declarations a) → Every (λ d. d.file ≡ 0) (own_declarations a) → (t : ℕ) (w : List ℕ) (m : Meaning) → own_local a t w ≡ Some m
    → (d : Found) × (m.source ≡ Some d) × (declared_at a d.it.name ≡ Some (own m.object)) × (find d.it.name (own_declarations a) ≡ Some d) × (d.file ≡ 0)
meaning_found a lo r h t w m e =
    by (innermost_of t w None (own_declarations a))
    (subst (λ o. Same (own_meanings a) t w o (innermost_of t w None (own_declarations a))) e
    (fold_same (own_meanings a) t w first_numbers (own_declarations a) None None tt
    (every_map (λ m. (d : Found) × (m.source ≡ Some d) × (lo ≤ d.it.name) × (own_declared None d.it.name (own_meanings a) ≡ Some (own m.object))) (IsFound (own_meanings a) t w) (own_meanings a) (λ m x. (x.0, x.1, x.3)) (all_found first_numbers (own_declarations a) lo r h))))
    (innermost_holds (λ d. (find d.it.name (own_declarations a) ≡ Some d) × (d.file ≡ 0)) t w None (own_declarations a) tt (both (own_declarations a) (find_self lo (own_declarations a) r) h))
  where
    both : (ds : List Found) → Every (λ d. (lo ≤ d.it.name) × (find d.it.name (own_declarations a) ≡ Some d)) ds → Every (λ d. d.file ≡ 0) ds → Every (λ d. hit t w d ≡ true → (find d.it.name (own_declarations a) ≡ Some d) × (d.file ≡ 0)) ds
    both [] f g = tt
    both (d ∷ ds) f g = (λ k. (f.0.1, g.0), both ds f.1 g.1)

    by : (p : Option Found) → Same (own_meanings a) t w (Some m) p → HoldsOf (λ d. (find d.it.name (own_declarations a) ≡ Some d) × (d.file ≡ 0)) p
        → (d : Found) × (m.source ≡ Some d) × (declared_at a d.it.name ≡ Some (own m.object)) × (find d.it.name (own_declarations a) ≡ Some d) × (d.file ≡ 0)
    by None s q = absurd s
    by (Some d) s q = let x = s.2 in let f : x.0 ≡ d = same_some x.0 d (sym x.1 ∙ s.0) in (d, s.0, ap (λ (z : Found). own_declared None z.it.name (own_meanings a)) (sym f) ∙ x.2, q.0, q.1)

-- and what it is declared by
pub local_source : (a : Alone) (lo : ℕ) → RiseFrom lo (own_declarations a) → Every (λ d. d.file ≡ 0) (own_declarations a) → (t : ℕ) (w : List ℕ) → source_of (own_local a t w) ≡ innermost_of t w None (own_declarations a)
local_source a lo r h t w =
    by (own_local a t w) (innermost_of t w None (own_declarations a))
    (fold_same (own_meanings a) t w first_numbers (own_declarations a) None None tt
    (every_map (λ m. (d : Found) × (m.source ≡ Some d) × (lo ≤ d.it.name) × (own_declared None d.it.name (own_meanings a) ≡ Some (own m.object))) (IsFound (own_meanings a) t w) (own_meanings a) (λ m x. (x.0, x.1, x.3)) (all_found first_numbers (own_declarations a) lo r h)))
  where
    by : (o : Option Meaning) (p : Option Found) → Same (own_meanings a) t w o p → source_of o ≡ p
    by None None s = refl
    by None (Some d) s = absurd s
    by (Some m) None s = absurd s
    by (Some m) (Some d) s = s.0

-- ---- what is told of a token

pub data Which : Type 0 where
  untold : Which
  looked_up : Which
  declaring : Which

abbrev pub which : ℕ → List Event → Which
which x [] = untold
which x (event.Use u ∷ es) = if nat_eq u.name x then looked_up else which x es
which x (event.Declaration d ∷ es) = if nat_eq d.name x then declaring else which x es
which x (e ∷ es) = which x es

abbrev pub pick : Which → Option Meant → Option Meant → Option Meant
pick untold u d = None
pick looked_up u d = u
pick declaring u d = d

pub told_is : (u d : Option Meant) (x : ℕ) (es : List Event) → told_object u d x es ≡ pick (which x es) u d
told_is u d x [] = refl
told_is u d x (event.Use y ∷ es) = by (nat_eq y.name x) (told_is u d x es)
  where
    by : (b : Bool) → told_object u d x es ≡ pick (which x es) u d → (if b then u else told_object u d x es) ≡ pick (if b then looked_up else which x es) u d
    by true e = refl
    by false e = e
told_is u d x (event.Declaration y ∷ es) = by (nat_eq y.name x) (told_is u d x es)
  where
    by : (b : Bool) → told_object u d x es ≡ pick (which x es) u d → (if b then d else told_object u d x es) ≡ pick (if b then declaring else which x es) u d
    by true e = refl
    by false e = e
told_is u d x (event.Import i ∷ es) = told_is u d x es
told_is u d x (event.Member m g i ∷ es) = told_is u d x es
told_is u d x (event.Bodiless i j ∷ es) = told_is u d x es
told_is u d x (event.Statement i j ∷ es) = told_is u d x es
told_is u d x (event.Misplaced i j ∷ es) = told_is u d x es
told_is u d x (event.SecondDefault i ∷ es) = told_is u d x es

-- the first if there is one
abbrev pub first_of_two : Option Meant → Option Meant → Option Meant
first_of_two None o = o
first_of_two (Some p) o = Some p

pub declared_or : (o : Option Meant) (x : ℕ) (ms : List Meaning) → own_declared o x ms ≡ first_of_two (own_declared None x ms) o
declared_or o x [] = refl
declared_or o x (m ∷ ms) = by (is_declared_at 0 x m.source) (declared_or o x ms)
  where
    by : (b : Bool) → own_declared o x ms ≡ first_of_two (own_declared None x ms) o → (if b then Some (own m.object) else own_declared o x ms) ≡ first_of_two (if b then Some (own m.object) else own_declared None x ms) o
    by true e = refl
    by false e = e

pub object_is : (a : Alone) (outer : Outer) (x : ℕ) (u : Option Meant) (w : List ℕ) → own_meant a outer x w ≡ u
    → told_object (own_meant a outer x w) (own_declared (own_meant a outer x w) x (own_meanings a)) x (function_events a) ≡ pick (which x (function_events a)) u (first_of_two (declared_at a x) u)
object_is a outer x u w e =
    ap (λ z. told_object z (own_declared z x (own_meanings a)) x (function_events a)) e
    ∙ ap (λ z. told_object u z x (function_events a)) (declared_or u x (own_meanings a))
    ∙ told_is u (first_of_two (declared_at a x) u) x (function_events a)
