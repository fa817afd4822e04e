-- Specifications one after the other.
use Rattle.std.proofs.Common.{◌≡◌, ℕ, suc, ◌+◌, ◌<◌, ◌≤◌, Bool, true, false, List, [], ◌∷◌, ◌++◌, Option, Some, None, Result, Ok, Err, drop, length, map, refl, ap, sym, subst, ◌∙◌, arith}
use Rattle.std.specs.Prelude.{if◌then◌else◌, get_or}
use Rattle.std.specs.List.{AllByRecursion}
use Rattle.std.proofs.lemmas.List.{append-nil, append_assoc, map-append, drop_all}
use Rattle.go_base.specs.Gives.{Gives, Unless, ◌>>=◌}
use Rattle.go_tree.specs.declared.context.Entity.{Entity}
use Rattle.go_tree.specs.Failures.{Failure}
use Rattle.go_types.specs.Relations.{Rights}
use Rattle.go_types.specs.Tables.{Table, IsTable, type_of, rights_of}
use Rattle.go_types_relations.specs.Extends.{Extends}
use Rattle.go_typed.specs.Contents.{FuncContent, func_content}
use Rattle.go_typed.specs.Funcs.{FuncView}
use Rattle.go_typed.specs.declared.node.TypedNode.{TypedNode}
use Rattle.go_typed.specs.Scopes.{EnvView}
use Rattle.go_typed.specs.Trees.{Sort, SortHas}
use Rattle.go_typed.specs.Views.{seen, Known}
use Rattle.go_exprs_rules.specs.Settling.{Part}
use Rattle.go_exprs_rules.proofs.Public.{drop_step}
use Rattle.go_package_defs.specs.declared.error.CheckError.{CheckError}
use Rattle.go_exprs_engine.proofs.Public.{longer, sort_more, node_known, node_stays, sorts_stay}
use Rattle.go_declarations.specs.declared.specification.Specification as program
use Rattle.go_declarations.specs.Views.{specification_view, seen_all}
use Rattle.go_package_defs.specs.Bodies.{Surroundings, Behind, Functions, with_function, is_this, those_of, placed, portion_of, typed_function, functions_from, variable_of, variables_of}
use Rattle.go_package_defs.specs.Declarations.{Specification}
use Rattle.go_package_defs.specs.Sources.{Package}
use Rattle.go_stmts.specs.Bodies.{KnownObjects, KnownFunction}
use Rattle.go_stmts.proofs.Public.{function_stays}
use Rattle.go_package.specs.Functions.{around_in, behind_seen, functions_seen, check_failure}

-- ---- those of a sort

module _ (e : Entity) (ds : List program.Specification) (k : ℕ) (lt : k < length ds) (x z : program.Specification) (at : x ≡ get_or ds k z) where
  abbrev here : Specification
  here = specification_view x

  abbrev rest : List Specification
  rest = seen_all (drop (k + 1) ds)

  split : seen_all (drop k ds) ≡ here ∷ rest
  split = ap seen_all (drop_step ds k x z lt at)

  abbrev chosen_if : Bool → List Specification
  chosen_if b = if b then here ∷ those_of e rest else those_of e rest

  pub taken : true ≡ is_this e here.entity → those_of e (seen_all (drop k ds)) ≡ here ∷ those_of e rest
  taken h = ap (those_of e) split ∙ ap chosen_if (sym h)

  pub passed : false ≡ is_this e here.entity → those_of e (seen_all (drop k ds)) ≡ those_of e rest
  passed h = ap (those_of e) split ∙ ap chosen_if (sym h)

-- ---- functions

-- what they are stays
pub contents_stay : (old new : Table) → IsTable old → Extends old new → (fs : List FuncView) → AllByRecursion (KnownFunction (length old.shapes)) fs
    → map (func_content (type_of new.shapes)) fs ≡ map (func_content (type_of old.shapes)) fs
contents_stay old new ok e [] h = refl
contents_stay old new ok e (f ∷ fs) h =
    ap (λ x. x ∷ map (func_content (type_of new.shapes)) fs) (function_stays old new ok e f h.0) ∙ ap (λ xs. func_content (type_of old.shapes) f ∷ xs) (contents_stay old new ok e fs h.1)

module _ (old new : Table) (ok : IsTable old) (e : Extends old new) where
  below : (i : ℕ) → i < length old.shapes → i < length new.shapes
  below i h = let more = longer old new ok e in omega (arith, more, h)

  locals_known : (xs : List (Sort ℕ)) → AllByRecursion (λ x. SortHas (λ i. i < length old.shapes) x) xs → AllByRecursion (λ x. SortHas (λ i. i < length new.shapes) x) xs
  locals_known [] h = tt
  locals_known (x ∷ xs) h = (sort_more below x h.0, locals_known xs h.1)

  pub functions_known : (fs : List FuncView) → AllByRecursion (KnownFunction (length old.shapes)) fs → AllByRecursion (KnownFunction (length new.shapes)) fs
  functions_known [] h = tt
  functions_known (f ∷ fs) h = (record { signature = below f.signature h.0.signature; locals = locals_known f.locals h.0.locals; tree = node_known old new ok e f.root h.0.tree }, functions_known fs h.1)

  pub nodes_known : (ns : List TypedNode) → AllByRecursion (Known (length old.shapes)) ns → AllByRecursion (Known (length new.shapes)) ns
  nodes_known [] h = tt
  nodes_known (n ∷ ns) h = (node_known old new ok e n h.0, nodes_known ns h.1)

  nodes_stay : (ns : List TypedNode) → AllByRecursion (Known (length old.shapes)) ns → map (seen new) ns ≡ map (seen old) ns
  nodes_stay [] h = refl
  nodes_stay (n ∷ ns) h = ap (λ x. x ∷ map (seen new) ns) (node_stays old new ok e n h.0) ∙ ap (λ xs. seen old n ∷ xs) (nodes_stay ns h.1)

  -- the objects too
  pub objects_known : (env : EnvView) → KnownObjects (length old.shapes) env → KnownObjects (length new.shapes) env
  objects_known env h = λ j y is. sort_more below y (h j y is)

  -- one variable more
  pub variables_more : (p : Package) (a : Surroundings) (rights : Rights) (whole : List Part) (ns ms : List TypedNode) (n : TypedNode) (ds : List Specification) (d : Specification) (rest : List Specification)
      → AllByRecursion (Known (length old.shapes)) ns
      → map (seen old) ns ++ variables_of p a rights ds ≡ whole → ds ≡ d ∷ rest → variable_of a rights (portion_of p d) ≡ seen new n ∷ [] → ms ≡ ns ++ n ∷ [] → map (seen new) ms ++ variables_of p a rights rest ≡ whole
  variables_more p a rights whole ns ms n ds d rest known h is one more =
      ap (λ xs. xs ++ variables_of p a rights rest) (ap (map (seen new)) more ∙ map-append (seen new) ns (n ∷ []))
      ∙ append_assoc (map (seen new) ns) (seen new n ∷ []) (variables_of p a rights rest)
      ∙ ap (λ xs. xs ++ (seen new n ∷ [] ++ variables_of p a rights rest)) (nodes_stay ns known)
      ∙ ap (λ xs. map (seen old) ns ++ (xs ++ variables_of p a rights rest)) (sym one)
      ∙ ap (λ ds. map (seen old) ns ++ variables_of p a rights ds) (sym is)
      ∙ h

pub nothing_typed : (t : Table) (ns : List TypedNode) (xs : List Part) → ns ≡ [] → map (seen t) ns ++ xs ≡ xs
nothing_typed t ns xs e = ap (λ ms. map (seen t) ms ++ xs) e

pub variables_end : (p : Package) (a : Surroundings) (rights : Rights) (xs whole : List Part) (ds : List Specification) → xs ++ variables_of p a rights ds ≡ whole → ds ≡ [] → xs ≡ whole
variables_end p a rights xs whole ds h e = sym (append-nil xs) ∙ ap (λ ds. xs ++ variables_of p a rights ds) (sym e) ∙ h

-- further functions behind these
abbrev pub with_front : List FuncContent → Result Functions Failure → Result Functions Failure
with_front xs r = r >>= λ fs. Ok (record { functions = xs ++ fs.functions; rights = fs.rights })

front_more : (xs : List FuncContent) (f : FuncContent) (r : Result Functions Failure) → with_front xs (r >>= λ fs. Ok (with_function f fs)) ≡ with_front (xs ++ f ∷ []) r
front_more xs f (Ok fs) = ap (λ ys. let g : Functions = record { functions = ys; rights = fs.rights } in let r : Result Functions Failure = Ok g in r) (sym (append_assoc xs (f ∷ []) fs.functions))
front_more xs f (Err g) = refl

module _ (p : Package) (a : Surroundings) where
  front_step : (xs : List FuncContent) (rights : Rights) (n : ℕ) (d : Specification) (ds : List Specification) (b : Behind) → placed p d (typed_function p a rights n d) ≡ Ok b
      → with_front xs (functions_from p a rights n (d ∷ ds)) ≡ with_front (xs ++ b.function ∷ []) (functions_from p a b.rights (suc n) ds)
  front_step xs rights n d ds b e =
      ap (λ r. with_front xs (r >>= λ b. functions_from p a b.rights (suc n) ds >>= λ fs. Ok (with_function b.function fs))) e
      ∙ front_more xs b.function (functions_from p a b.rights (suc n) ds)

  front_stop : (xs : List FuncContent) (rights : Rights) (n : ℕ) (d : Specification) (ds : List Specification) (g : Failure) → placed p d (typed_function p a rights n d) ≡ Err g
      → with_front xs (functions_from p a rights n (d ∷ ds)) ≡ Err g
  front_stop xs rights n d ds g e = ap (λ r. with_front xs (r >>= λ b. functions_from p a b.rights (suc n) ds >>= λ fs. Ok (with_function b.function fs))) e

  -- the whole, where these functions are typed and these specifications are left
  abbrev pub Told : Result Functions Failure → Table → List FuncView → ℕ → List Specification → Type 0
  Told whole t fs n ds = whole ≡ with_front (map (func_content (type_of t.shapes)) fs) (functions_from p a (rights_of t) n ds)

  pub told_start : (t : Table) (n : ℕ) (ds : List Specification) (fs : List FuncView) → fs ≡ [] → Told (functions_from p a (rights_of t) n ds) t fs n ds
  told_start t n ds fs e = sym (ap (λ xs. with_front (map (func_content (type_of t.shapes)) xs) (functions_from p a (rights_of t) n ds)) e ∙ nothing (functions_from p a (rights_of t) n ds))
    where
      nothing : (r : Result Functions Failure) → with_front [] r ≡ r
      nothing (Ok fs) = refl
      nothing (Err g) = refl

  pub told_end : (whole : Result Functions Failure) (t : Table) (fs : List FuncView) (n : ℕ) (ds : List Specification) → Told whole t fs n ds → ds ≡ [] → whole ≡ Ok (functions_seen t fs)
  told_end whole t fs n ds h e =
      let xs = map (func_content (type_of t.shapes)) fs in
      h ∙ ap (λ ds. with_front xs (functions_from p a (rights_of t) n ds)) e
      ∙ ap (λ ys. let g : Functions = record { functions = ys; rights = rights_of t } in let r : Result Functions Failure = Ok g in r) (append-nil xs)

  pub told_same : (whole : Result Functions Failure) (t : Table) (fs : List FuncView) (n : ℕ) (ds es : List Specification) → Told whole t fs n ds → ds ≡ es → Told whole t fs n es
  told_same whole t fs n ds es h e = h ∙ ap (λ ds. with_front (map (func_content (type_of t.shapes)) fs) (functions_from p a (rights_of t) n ds)) e

  pub told_fails : {X : Type 0} (view : X → Functions) (whole : Result Functions Failure) (t : Table) (fs : List FuncView) (n : ℕ) (ds : List Specification) (d : Specification) (rest : List Specification) (e : CheckError)
      (r : Result X CheckError) → Told whole t fs n ds → ds ≡ d ∷ rest
      → Unless (check_failure e) (λ g. placed p d (typed_function p a (rights_of t) n d) ≡ Err g) → r ≡ Err e → Gives view check_failure r whole
  told_fails view whole t fs n ds d rest e r h is stop at = subst (λ z. Gives view check_failure z whole) (sym at) (by (check_failure e) stop)
    where
      by : (f : Option Failure) → Unless f (λ g. placed p d (typed_function p a (rights_of t) n d) ≡ Err g) → Unless f (λ g. whole ≡ Err g)
      by None k = tt
      by (Some g) k = h ∙ ap (λ ds. with_front (map (func_content (type_of t.shapes)) fs) (functions_from p a (rights_of t) n ds)) is ∙ front_stop (map (func_content (type_of t.shapes)) fs) (rights_of t) n d rest g k

  module _ (old new : Table) (ok : IsTable old) (e : Extends old new) where
    pub told_more : (whole : Result Functions Failure) (fs gs : List FuncView) (f : FuncView) (n m : ℕ) (ds : List Specification) (d : Specification) (rest : List Specification) → AllByRecursion (KnownFunction (length old.shapes)) fs
        → Told whole old fs n ds → ds ≡ d ∷ rest → placed p d (typed_function p a (rights_of old) n d) ≡ Ok (behind_seen new f) → gs ≡ fs ++ f ∷ [] → m ≡ n + 1 → Told whole new gs m rest
    told_more whole fs gs f n m ds d rest known h is one more next =
        let c = func_content (type_of new.shapes) in
        let after : suc n ≡ m = omega (arith, next) in
        h ∙ ap (λ ds. with_front (map (func_content (type_of old.shapes)) fs) (functions_from p a (rights_of old) n ds)) is
        ∙ front_step (map (func_content (type_of old.shapes)) fs) (rights_of old) n d rest (behind_seen new f) one
        ∙ ap (λ xs. with_front (xs ++ c f ∷ []) (functions_from p a (rights_of new) (suc n) rest)) (sym (contents_stay old new ok e fs known))
        ∙ ap (λ xs. with_front xs (functions_from p a (rights_of new) (suc n) rest)) (sym (map-append c fs (f ∷ [])) ∙ ap (map c) (sym more))
        ∙ ap (λ k. with_front (map c gs) (functions_from p a (rights_of new) k rest)) after

-- nothing is there
pub none_all : {A : Type 0} (P : A → Type 0) (xs : List A) → xs ≡ [] → AllByRecursion P xs
none_all P xs e = subst (AllByRecursion P) (sym e) tt

-- none is left
pub none_left : (e : Entity) (ds : List program.Specification) (k : ℕ) → length ds ≤ k → those_of e (seen_all (drop k ds)) ≡ []
none_left e ds k le = ap (λ xs. those_of e (seen_all xs)) (drop_all k ds le)

-- what surrounds the bodies stays
pub around_stays : (old new : Table) → IsTable old → Extends old new → (env : EnvView) → KnownObjects (length old.shapes) env → around_in new env ≡ around_in old env
around_stays old new ok e env known = ap (λ xs. let a : Surroundings = record { objects = xs; referents = env.referents } in a) (sorts_stay old new ok e env.objects known)
