-- The functions of a package.
use Rattle.std.proofs.Common.{◌≡◌, ℕ, zero, suc, ◌<◌, ◌≤◌, Bool, true, false, List, [], ◌∷◌, ◌++◌, length, map, Option, Some, None, Result, Ok, Err, refl, sym, ap, subst, ◌∙◌, arith}
use Rattle.std.specs.Prelude.{slice_get, replicate}
use Rattle.go_base.specs.declared.bytes.FileText.{FileText}
use Rattle.go_base.specs.Gives.{◌>>=◌}
use Rattle.go_grammar.specs.Trees.{Tree, last}
use Rattle.go_tree.specs.declared.context.Entity.TheVariants as entity
use Rattle.go_tree.specs.declared.object.Object.{Object}
use Rattle.go_tree.specs.declared.object.Object.TheVariants as object
use Rattle.go_tree.specs.File.{FileTree}
use Rattle.go_tree.specs.Uses.{UsesView}
use Rattle.go_types.specs.Trees.{TypeTree}
use Rattle.go_types.specs.Relations.{Rights, HasRight}
use Rattle.go_typed.specs.Contents.{Content}
use Rattle.go_exprs_rules.specs.declared.fault.TypeFault.{TypeFault}
use Rattle.go_exprs_rules.specs.Faults.{reported}
use Rattle.go_exprs_rules.specs.Scopes.{Needed, Scope, free}
use Rattle.go_exprs_rules.specs.Sorts.{Stands}
use Rattle.go_stmts_defs.specs.Bodies.{start, signature_of, function_read}
use Rattle.go_stmts_defs.specs.Reading.{Reading, read, reading}
use Rattle.go_package_defs.specs.Answer.{Environment, specifications, package_answer}
use Rattle.go_package_defs.specs.Bodies.{Surroundings, Behind, Functions, Portion, scope_of, stands_there, stands_among, behind_read, function_over, function_with, placed, portion_of, typed_function, types_in, functions_from, those_of, with_function, count_types, local_type}
use Rattle.go_package_defs.specs.Checked.{Typing, surroundings_of, names_answer, bodies_answer, sources_answer, content_of, IsChecked, names_of}
use Rattle.go_package_defs.specs.Declarations.{Specification}
use Rattle.go_package_defs.specs.Sources.{Source, Package, source_of, unit_of, package_of}
use Rattle.go_stmts_limits.specs.Limits.{StandsIsWithin, AllStandWithin, RightsAreWithin, ScopeIsWithin, AreBehind, FunctionIsWithin}
use Rattle.go_stmts_limits.specs.Packages.{EnvironmentIsWithin, AllFunctionsWithin}
use Rattle.go_stmts_limits.proofs.Arrays.{AreTold}
use Rattle.go_stmts_limits.proofs.Frames.{started}
use Rattle.go_stmts_limits.proofs.Functions.{judged_ok, read_within}
use Rattle.go_stmts_limits.proofs.Reading.{ReadWithin, reading_within}

-- ---- right sides of lists

front_more : (rs more : Rights) (n : ℕ) → n < length rs → slice_get (rs ++ more) n ≡ slice_get rs n
front_more [] more n l = absurd (omega (arith, l))
front_more (x ∷ rs) more zero l = refl
front_more (x ∷ rs) more (suc n) l = front_more rs more n (omega (arith, l))

has_none : {X : Type 0} (k n : ℕ) (r : TypeTree) → HasRight (replicate k None) n r → X
has_none zero n r h = cc
has_none (suc k) zero r h = cc
has_none (suc k) (suc n) r h = has_none k n r h

-- as many as have an equal in the other list
front_length : (xs ys : Rights) → ((n : ℕ) → n < length xs → slice_get ys n ≡ slice_get xs n) → length xs ≤ length ys
front_length [] ys f = omega arith
front_length (x ∷ xs) [] f = let e = f 0 (omega arith) in absurd cc
front_length (x ∷ xs) (y ∷ ys) f = let l = front_length xs ys (λ n l. f (suc n) (omega (arith, l))) in omega (arith, l)

local_far : (m : ℕ) (bs : List Bool) (n : ℕ) → m ≤ local_type m bs n
local_far m [] n = omega arith
local_far m (true ∷ bs) zero = omega arith
local_far m (false ∷ bs) zero = omega arith
local_far m (true ∷ bs) (suc n) = let z = local_far (suc m) bs n in omega (arith, z)
local_far m (false ∷ bs) (suc n) = local_far m bs n

-- ---- results

placed_ok : {A : Type 0} (p : Package) (d : Specification) (r : Result A TypeFault) (x : A) → placed p d r ≡ Ok x → r ≡ Ok x
placed_ok p d (Ok y) x e = ap Ok (let same : y ≡ x = cc in same)
placed_ok p d (Err g) x e = cc

bound : {A B F : Type 0} (r : Result A F) (f : A → Result B F) (y : B) → (r >>= f) ≡ Ok y → (x : A) × (r ≡ Ok x) × (f x ≡ Ok y)
bound (Ok x) f y e = (x, refl, e)
bound (Err g) f y e = cc

ok_same : {A F : Type 0} (x y : A) → (let r : Result A F = Ok x in r) ≡ Ok y → x ≡ y
ok_same x y e = cc

module _ (limit : Scope) where
  more_within : (rs : Rights) (k : ℕ) → RightsAreWithin limit rs → RightsAreWithin limit (rs ++ replicate k None)
  more_within [] k a n r h = has_none k n r h
  more_within (x ∷ rs) k a zero r h = a zero r h
  more_within (x ∷ rs) k a (suc n) r h = more_within rs k (λ m q g. a (suc m) q g) n r h

  stands_within : (xs : List Stands) (n : ℕ) → AllStandWithin limit xs → StandsIsWithin limit (stands_there (slice_get xs n))
  stands_within [] n a = tt
  stands_within (x ∷ xs) zero a = a.0
  stands_within (x ∷ xs) (suc n) a = stands_within xs n a.1

  object_within : (xs : List Stands) → AllStandWithin limit xs → (need : Needed) (o : Object) → StandsIsWithin limit (stands_among xs need o)
  object_within xs a need (object.Package n) = stands_within xs n a
  object_within xs a need o = tt

  -- what is known where a function begins, or behind it
  record RightsHold (rights : Rights) : Type 0 where
    counted : length limit.rights ≤ length rights
    front : (n : ℕ) → n < length limit.rights → slice_get rights n ≡ slice_get limit.rights n
    within : RightsAreWithin limit rights

  record BehindWithin (b : Behind) : Type 0 where
    function : FunctionIsWithin limit b.function
    rights : RightsHold b.rights

  module _ (tells : AreTold) (a : Surroundings) (objects : AllStandWithin limit a.objects) where
    surrounds : (rights : Rights) (bs : List Bool) (o : Portion) → RightsHold rights → ScopeIsWithin limit (scope_of a (rights ++ replicate (count_types bs) None) o)
    surrounds rights bs o h = record {
      judged = refl;
      front = λ n l. front_more rights (replicate (count_types bs) None) n (let many = h.counted in omega (arith, l, many)) ∙ h.front n l;
      rights = more_within rights (count_types bs) h.within;
      objects = object_within a.objects objects;
    }

    own_behind : (rights : Rights) (bs : List Bool) → RightsHold rights → AreBehind limit (local_type (length rights) bs)
    own_behind rights bs h n = let far = local_far (length rights) bs n in let many = h.counted in omega (arith, far, many)

    behind_within : (s : Scope) (number : ℕ) (t : Tree) (r : Reading) (b : Behind) → ScopeIsWithin limit s → behind_read s number t r ≡ Ok b → ReadWithin limit tells r → BehindWithin b
    behind_within s number t (read x fs f) b h e w =
        subst BehindWithin (judged_ok (reported fs) (record { function = function_read s number (last t) (signature_of s t) x f; rights = f.around.rights }) b e)
        (record { function = read_within limit tells s h number t x f w.0 w.1; rights = record { counted = front_length limit.rights f.around.rights w.1.front; front = w.1.front; within = w.1.rights } })

    over_within : (rights : Rights) (number : ℕ) (bs : List Bool) (o : Portion) (t : Tree) (b : Behind) → RightsHold rights → function_over a rights number bs o t ≡ Ok b → BehindWithin b
    over_within rights number bs o t b h e =
        let s = scope_of a (rights ++ replicate (count_types bs) None) o in
        let types = local_type (length rights) bs in
        let z = start s (length bs) types in
        behind_within s number t (reading z free t) b (surrounds rights bs o h) e (reading_within limit tells z free t (started limit s (length bs) types (surrounds rights bs o h) (own_behind rights bs h)) tt)

    with_within : (rights : Rights) (number : ℕ) (bs : List Bool) (o : Portion) (t : Option Tree) (b : Behind) → RightsHold rights → function_with a rights number bs o t ≡ Ok b → BehindWithin b
    with_within rights number bs o None b h e = absurd cc
    with_within rights number bs o (Some t) b h e = over_within rights number bs o t b h e

    -- ---- one function behind the other

    -- the functions, and the right sides behind them
    record AllWithin (fs : Functions) : Type 0 where
      functions : AllFunctionsWithin limit fs.functions
      rights : RightsHold fs.rights

    functions_within : (p : Package) (rights : Rights) (n : ℕ) (ds : List Specification) (fs : Functions) → RightsHold rights → functions_from p a rights n ds ≡ Ok fs → AllWithin fs
    functions_within p rights n [] fs h e = subst AllWithin (ok_same (record { functions = []; rights = rights }) fs e) (record { functions = tt; rights = h })
    functions_within p rights n (d ∷ ds) fs h e =
        let b = bound (placed p d (typed_function p a rights n d)) (λ b. functions_from p a b.rights (suc n) ds >>= λ gs. Ok (with_function b.function gs)) fs e in
        let g = bound (functions_from p a b.0.rights (suc n) ds) (λ gs. Ok (with_function b.0.function gs)) fs b.2 in
        let o = portion_of p d in
        let own = with_within rights n (types_in p n) o o.tree b.0 h (placed_ok p d (typed_function p a rights n d) b.0 b.1) in
        let rest = functions_within p b.0.rights (suc n) ds g.0 own.rights g.1 in
        subst AllWithin (ok_same (with_function b.0.function g.0) fs g.2) (record { functions = (own.function, rest.functions); rights = rest.rights })

-- ---- packages

module _ (limit : Scope) (tells : AreTold) where
  bodies_within : (ss : List Source) (u : UsesView) (e : Environment) (ds : List Specification) (b : Functions) → functions_from (package_of ss u) (surroundings_of u e) e.rights 0 ds ≡ Ok b → EnvironmentIsWithin limit e
      → AllFunctionsWithin limit b.functions
  bodies_within ss u e ds b h w =
      let first : RightsHold limit limit.rights = record { counted = omega arith; front = λ n l. refl; within = subst (RightsAreWithin limit) (sym w.judged) w.rights } in
      (functions_within limit tells (surroundings_of u e) w.objects (package_of ss u) e.rights 0 ds b (subst (RightsHold limit) w.judged first) h).functions

  typing_within : (ss : List Source) (u : UsesView) (e : Environment) (b : Functions) (t : Typing) → functions_from (package_of ss u) (surroundings_of u e) e.rights 0 (those_of entity.Function (specifications 0 ss)) ≡ Ok b
      → record { uses = u; environment = e; bodies = b; specifications = specifications 0 ss } ≡ t → EnvironmentIsWithin limit t.environment → AllFunctionsWithin limit t.bodies.functions
  typing_within ss u e b t h same w =
      subst (λ (z : Typing). AllFunctionsWithin limit z.bodies.functions) same
      (bodies_within ss u e (those_of entity.Function (specifications 0 ss)) b h (subst (λ (z : Typing). EnvironmentIsWithin limit z.environment) (sym same) w))

  pub sources_within : (ss : List Source) (t : Typing) → sources_answer ss ≡ Ok t → EnvironmentIsWithin limit t.environment → AllFunctionsWithin limit t.bodies.functions
  sources_within ss t h w =
      let ds = specifications 0 ss in
      let fs = those_of entity.Function ds in
      let u = bound (names_answer (map unit_of ss)) (λ u. package_answer ss u >>= λ e. bodies_answer ss ds u e) t h in
      let e = bound (package_answer ss u.0) (λ e. bodies_answer ss ds u.0 e) t u.2 in
      let b = bound (functions_from (package_of ss u.0) (surroundings_of u.0 e.0) e.0.rights 0 fs) (λ b. Ok (record { uses = u.0; environment = e.0; bodies = b; specifications = ds })) t e.2 in
      typing_within ss u.0 e.0 b.0 t b.1 (ok_same (record { uses = u.0; environment = e.0; bodies = b.0; specifications = ds }) t b.2) w

  content_within : (ss : List Source) (names : List (List ℕ)) (files : List FileTree) (r t : Typing) (c : Content) → content_of names files ss r ≡ c → r ≡ t → AllFunctionsWithin limit t.bodies.functions
      → AllFunctionsWithin limit c.functions
  content_within ss names files r t c is same w =
      subst (λ (z : Content). AllFunctionsWithin limit z.functions) is (subst (λ (z : Typing). AllFunctionsWithin limit z.bodies.functions) (sym same) w)

  pub checked_within : (texts : List FileText) (c : Content) (h : IsChecked texts c) (t : Typing) → sources_answer (map source_of h.files) ≡ Ok t → EnvironmentIsWithin limit t.environment → AllFunctionsWithin limit c.functions
  checked_within texts c h t e w =
      let ss = map source_of h.files in
      let names = names_of texts in
      let r = bound (sources_answer ss) (λ t. Ok (content_of names h.files ss t)) c h.answer in
      content_within ss names h.files r.0 t c (ok_same (content_of names h.files ss r.0) c r.2) (ok_same r.0 t (sym r.1 ∙ e)) (sources_within ss t e w)
