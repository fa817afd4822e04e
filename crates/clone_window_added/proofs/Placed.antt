-- A function under the new numbers of functions is the function reworded.
use Rattle.std.proofs.Common.{◌≡◌, ◌∙◌, ℕ, zero, suc, Bool, true, false, List, [], ◌∷◌, map, Option, Some, None, slice_get, ap, refl, sym, arith}
use Rattle.std.specs.Prelude.{if◌then◌else◌, nat_eq, nat_lt, Result, Ok, Err}
use Rattle.std.specs.List.{AllByRecursion}
use Rattle.std.proofs.lemmas.Bool.Decides.{nat_tests}
use Rattle.go_types.specs.Trees.{TypeTree}
use Rattle.go_types.specs.Relations.{Rights}
use Rattle.go_typed.specs.Contents.{FuncContent}
use Rattle.go_typed.specs.declared.form.Form.{Form}
use Rattle.go_typed.specs.declared.form.Form.TheVariants as form
use Rattle.go_typed.specs.declared.form.Referent.{Referent}
use Rattle.go_typed.specs.declared.form.Referent.TheVariants as referent
use Rattle.go_typed.specs.Trees.{Sort, Nothing, Unknown, Blank, Nil, Builtin, Println, Package, IsType, Value, Constant, Open, OpenConstant, Results}
use Rattle.go_typed.specs.Trees.{Label, typed, Typeds, none, more, skip, sort_mapped, label_mapped}
use Rattle.go_exprs_rules.specs.Settling.{Part}
use Rattle.go_exprs_rules.specs.declared.fault.TypeFault.{TypeFault}
use Rattle.go_exprs_elsewhere.specs.Elsewhere.{referent_moved, form_moved, placed, all_placed}
use Rattle.go_stmts_elsewhere.specs.Functions.{AlongFunctions, FunctionAlong, KeepsOrder}
use Rattle.go_package_defs.specs.Bodies.{Behind, Surroundings, portion_of, typed_function}
use Rattle.go_package_defs.specs.Declarations.{Specification}
use Rattle.go_package_defs.specs.Sources.{Package as Packaged}
use Rattle.go_heads_added.specs.Added.{Gap, beyond}
use Rattle.go_package_added.specs.OneMore.{function_moves}
use Rattle.go_package_added.specs.Unchanged.{StaysTyped, last_in}
use Rattle.clone_window.specs.Bodies.{Body}
use Rattle.clone_window_added.specs.Reworded.{KeepsObjects, form_reworded, reworded, all_reworded}
use Rattle.clone_window_added.specs.Unchanged.{KeepsBody, StaysBody, body_in, renumbered}

-- ---- numbers stay apart

pub beyond_apart : (n a b : ℕ) → nat_eq (beyond n a) (beyond n b) ≡ nat_eq a b
beyond_apart n a b = by (nat_lt a n) (nat_lt b n) refl refl
  where
    by : (x y : Bool) → nat_lt a n ≡ x → nat_lt b n ≡ y → nat_eq (if x then a else suc a) (if y then b else suc b) ≡ nat_eq a b
    by true true e f = refl
    by true false e f = grind (arith, nat_tests, e, f)
    by false true e f = grind (arith, nat_tests, e, f)
    by false false e f = grind (arith, nat_tests)

pub objects_apart : (g : Gap) → KeepsObjects (referent_moved (function_moves g))
objects_apart g (referent.Constant a) (referent.Constant b) = refl
objects_apart g (referent.Constant a) (referent.Type b) = refl
objects_apart g (referent.Constant a) (referent.Variable b) = refl
objects_apart g (referent.Constant a) (referent.Function b) = refl
objects_apart g (referent.Constant a) (referent.Predeclared b) = refl
objects_apart g (referent.Constant a) referent.Println = refl
objects_apart g (referent.Type a) (referent.Constant b) = refl
objects_apart g (referent.Type a) (referent.Type b) = refl
objects_apart g (referent.Type a) (referent.Variable b) = refl
objects_apart g (referent.Type a) (referent.Function b) = refl
objects_apart g (referent.Type a) (referent.Predeclared b) = refl
objects_apart g (referent.Type a) referent.Println = refl
objects_apart g (referent.Variable a) (referent.Constant b) = refl
objects_apart g (referent.Variable a) (referent.Type b) = refl
objects_apart g (referent.Variable a) (referent.Variable b) = refl
objects_apart g (referent.Variable a) (referent.Function b) = refl
objects_apart g (referent.Variable a) (referent.Predeclared b) = refl
objects_apart g (referent.Variable a) referent.Println = refl
objects_apart g (referent.Function a) (referent.Constant b) = refl
objects_apart g (referent.Function a) (referent.Type b) = refl
objects_apart g (referent.Function a) (referent.Variable b) = refl
objects_apart g (referent.Function a) (referent.Function b) = beyond_apart g.functions a b
objects_apart g (referent.Function a) (referent.Predeclared b) = refl
objects_apart g (referent.Function a) referent.Println = refl
objects_apart g (referent.Predeclared a) (referent.Constant b) = refl
objects_apart g (referent.Predeclared a) (referent.Type b) = refl
objects_apart g (referent.Predeclared a) (referent.Variable b) = refl
objects_apart g (referent.Predeclared a) (referent.Function b) = refl
objects_apart g (referent.Predeclared a) (referent.Predeclared b) = refl
objects_apart g (referent.Predeclared a) referent.Println = refl
objects_apart g referent.Println (referent.Constant b) = refl
objects_apart g referent.Println (referent.Type b) = refl
objects_apart g referent.Println (referent.Variable b) = refl
objects_apart g referent.Println (referent.Function b) = refl
objects_apart g referent.Println (referent.Predeclared b) = refl
objects_apart g referent.Println referent.Println = refl

-- ---- trees

module _ {T : Type 0} where
  sort_kept : (s : Sort T) → sort_mapped (λ (t : T). t) s ≡ s
  sort_kept Nothing = refl
  sort_kept Unknown = refl
  sort_kept Blank = refl
  sort_kept Nil = refl
  sort_kept (Builtin b) = refl
  sort_kept Println = refl
  sort_kept Package = refl
  sort_kept (IsType t) = refl
  sort_kept (Value t) = refl
  sort_kept (Constant t c) = refl
  sort_kept (Open u) = refl
  sort_kept (OpenConstant c) = refl
  sort_kept (Results t) = refl

  pub sorts_kept : (ss : List (Sort T)) → map (sort_mapped (λ (t : T). t)) ss ≡ ss
  sorts_kept [] = refl
  sorts_kept (s ∷ ss) = ap (λ z. z ∷ map (sort_mapped (λ (t : T). t)) ss) (sort_kept s) ∙ ap (λ zs. s ∷ zs) (sorts_kept ss)

  pub label_kept : (l : Label T) → label_mapped (λ (t : T). t) l ≡ l
  label_kept l = ap (λ s. let z : Label T = record { sort = s; varies = l.varies; calls = l.calls } in z) (sort_kept l.sort)

module _ (g : Gap) where
  abbrev anew : Referent → Referent
  anew o = referent_moved (function_moves g) o

  form_same : (f : Form) → form_moved (function_moves g) f ≡ form_reworded anew f
  form_same (form.Local n) = refl
  form_same (form.New n) = refl
  form_same (form.Declared n) = refl
  form_same (form.Object o) = refl
  form_same f = refl

  mutual
    tree_same : (x : Part) → placed (function_moves g) x ≡ reworded (λ t. t) anew x
    tree_same (typed f i j l ps) =
        ap (λ z. typed z i j l (all_placed (function_moves g) ps)) (form_same f) ∙ ap (λ z. typed (form_reworded anew f) i j z (all_placed (function_moves g) ps)) (sym (label_kept l))
        ∙ ap (typed (form_reworded anew f) i j (label_mapped (λ t. t) l)) (row_same ps)

    row_same : (ps : Typeds TypeTree) → all_placed (function_moves g) ps ≡ all_reworded (λ t. t) anew ps
    row_same none = refl
    row_same (more x xs) = ap (λ z. more z (all_placed (function_moves g) xs)) (tree_same x) ∙ ap (more (reworded (λ t. t) anew x)) (row_same xs)
    row_same (skip xs) = ap skip (row_same xs)

  -- ---- functions

  some_there : {A : Type 0} (x y : A) → ◌≡◌ {A = Option A} (Some x) (Some y) → x ≡ y
  some_there x y e = cc

  not_there : {A B : Type 0} (x : A) → ◌≡◌ {A = Option A} (Some x) None → B
  not_there x e = cc

  same_list : {A : Type 0} (xs ys : List A) → ((k : ℕ) → slice_get ys k ≡ slice_get xs k) → ys ≡ xs
  same_list [] [] h = refl
  same_list [] (y ∷ ys) h = not_there y (h zero)
  same_list (x ∷ xs) [] h = not_there x (sym (h zero))
  same_list (x ∷ xs) (y ∷ ys) h = ap (λ z. z ∷ ys) (some_there y x (h zero)) ∙ ap (λ zs. x ∷ zs) (same_list xs ys (λ k. h (suc k)))

  pub body_same : (end n : ℕ) (f h : FuncContent) → FunctionAlong (function_moves g) (λ k. true) end n f h → body_in h ≡ renumbered g (body_in f)
  body_same end n f h a =
      ap (λ ls. let b : Body TypeTree = record { locals = ls; root = h.tree } in b) (same_list f.locals h.locals (λ k. a.locals k refl) ∙ sym (sorts_kept f.locals))
      ∙ ap (λ t. let b : Body TypeTree = record { locals = map (sort_mapped (λ t. t)) f.locals; root = t } in b) (a.tree ∙ tree_same f.tree)

  in_order : KeepsOrder (function_moves g)
  in_order = record { less = λ a b. refl; same = λ a b. refl }

  pub stays_body : (end n : ℕ) (r q : Result Behind TypeFault) → AlongFunctions (function_moves g) (λ k. true) end n r q → StaysBody g r q
  stays_body end n (Ok b) (Ok c) h = (body_same end n b.function c.function h.0, h.1)
  stays_body end n (Err f) (Err e) h = h in_order
  stays_body end n (Ok b) (Err e) h = absurd h
  stays_body end n (Err f) (Ok c) h = absurd h

pub all_keep : (p q : Packaged) (g : Gap) (a b : Surroundings) (ds : List Specification) → AllByRecursion (λ d. (rights : Rights) (number : ℕ) → StaysTyped p q g a b rights number d) ds → AllByRecursion (KeepsBody p q g a b) ds
all_keep p q g a b [] h = tt
all_keep p q g a b (d ∷ ds) h =
    ((λ rights number. stays_body g (last_in (portion_of p d).tree) (beyond g.functions number) (typed_function p a rights number d) (typed_function q b rights (beyond g.functions number) d) (h.0 rights number)), all_keep p q g a b ds h.1)
