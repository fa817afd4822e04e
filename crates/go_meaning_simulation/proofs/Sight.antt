-- A plan sees no more of the parts of its node than `seen` tells.
use Rattle.std.proofs.Common.{◌≡◌, ℕ, zero, suc, List, [], ◌∷◌, refl, sym, ap, ◌∙◌, Option, Some, None}
use Rattle.std.specs.Prelude.{Bool, true, false, if◌then◌else◌}
use Rattle.go_tree.specs.declared.object.Predeclared.{Predeclared}
use Rattle.go_tree.specs.declared.object.Predeclared.TheVariants as predeclared
use Rattle.go_types.specs.Trees.{TypeTree, boolean, slice}
use Rattle.go_types.specs.Relations.{Rights}
use Rattle.go_constants.specs.declared.values.Const.{Const}
use Rattle.go_typed.specs.declared.form.Form.{Form}
use Rattle.go_typed.specs.declared.form.Form.TheVariants as form
use Rattle.go_typed.specs.Trees.{Sort, Println, Builtin, Value, Constant, Label, typed, Typeds, none, more, skip}
use Rattle.go_typed.specs.Forms.{is_default}
use Rattle.go_meaning.specs.Operations as does
use Rattle.go_meaning.specs.Plans.{Plan, Once, Loop}
use Rattle.go_meaning.specs.Plans as plans
use Rattle.go_meaning.specs.Planning.{part_at, is_there, sort_type, type_there, sort_there, calls_there, shape_of, shape_at, zero_in, element_of, step_operation, operation, binary_plan, unary_operation, conversion, index_plan, place_of, places_from, places_of, composite_plan, builtin_plan, call_plan, default_at, at_most_one, items_of, form_plan, sort_plan, plan}
use Rattle.go_meaning_simulation.specs.Seen.{Callee, Prints, Predeclares, Applies, callee_of, key_of, Seen, seen_of, seen}

-- ---- what is read of a row

abbrev at : List (Option Seen) → ℕ → Option Seen
at [] n = None
at (o ∷ os) zero = o
at (o ∷ os) (suc n) = at os n

abbrev there : Option Seen → Bool
there None = false
there (Some x) = true

abbrev type_in : Option Seen → TypeTree
type_in None = boolean
type_in (Some x) = x.type

abbrev callee_in : Option Seen → Callee
callee_in None = Applies
callee_in (Some x) = x.callee

abbrev calls_in : Option Seen → Bool
calls_in None = false
calls_in (Some x) = x.calls

there_seen : (ps : Typeds TypeTree) (n : ℕ) → is_there (part_at ps n) ≡ there (at (seen ps) n)
there_seen none n = refl
there_seen (more (typed f i j l qs) ps) zero = refl
there_seen (skip ps) zero = refl
there_seen (more p ps) (suc n) = there_seen ps n
there_seen (skip ps) (suc n) = there_seen ps n

type_seen : (ps : Typeds TypeTree) (n : ℕ) → type_there (part_at ps n) ≡ type_in (at (seen ps) n)
type_seen none n = refl
type_seen (more (typed f i j l qs) ps) zero = refl
type_seen (skip ps) zero = refl
type_seen (more p ps) (suc n) = type_seen ps n
type_seen (skip ps) (suc n) = type_seen ps n

callee_seen : (ps : Typeds TypeTree) (n : ℕ) → callee_of (sort_there (part_at ps n)) ≡ callee_in (at (seen ps) n)
callee_seen none n = refl
callee_seen (more (typed f i j l qs) ps) zero = refl
callee_seen (skip ps) zero = refl
callee_seen (more p ps) (suc n) = callee_seen ps n
callee_seen (skip ps) (suc n) = callee_seen ps n

calls_seen : (ps : Typeds TypeTree) (n : ℕ) → calls_there (part_at ps n) ≡ calls_in (at (seen ps) n)
calls_seen none n = refl
calls_seen (more (typed f i j l qs) ps) zero = refl
calls_seen (skip ps) zero = refl
calls_seen (more p ps) (suc n) = calls_seen ps n
calls_seen (skip ps) (suc n) = calls_seen ps n

abbrev default_in : List (Option Seen) → ℕ
default_in [] = 0
default_in (None ∷ os) = suc (default_in os)
default_in (Some x ∷ os) = if x.default then 0 else suc (default_in os)

default_seen : (ps : Typeds TypeTree) → default_at ps ≡ default_in (seen ps)
default_seen none = refl
default_seen (more (typed f i j l qs) ps) = ap (λ n. if is_default f then 0 else suc n) (default_seen ps)
default_seen (skip ps) = ap suc (default_seen ps)

abbrev place_by : Option ℕ → ℕ → ℕ
place_by None k = k
place_by (Some n) k = n

abbrev places_in : ℕ → List (Option Seen) → List ℕ
places_in k [] = []
places_in k (None ∷ os) = places_in (suc k) os
places_in k (Some x ∷ os) = place_by x.key k ∷ places_in (suc k) os

place_seen : (f : Form) (k : ℕ) → place_of f k ≡ place_by (key_of f) k
place_seen (form.Keyed n) k = refl
place_seen f k = refl

places_seen : (k : ℕ) (ps : Typeds TypeTree) → places_from k ps ≡ places_in k (seen ps)
places_seen k none = refl
places_seen k (more (typed f i j l qs) ps) = ap (λ n. n ∷ places_from (suc k) ps) (place_seen f k) ∙ ap (λ ns. place_by (key_of f) k ∷ ns) (places_seen (suc k) ps)
places_seen k (skip ps) = places_seen (suc k) ps

abbrev behind_first : List (Option Seen) → List ℕ
behind_first [] = []
behind_first (o ∷ os) = places_in 0 os

all_places_seen : (ps : Typeds TypeTree) → places_of ps ≡ behind_first (seen ps)
all_places_seen none = refl
all_places_seen (more p ps) = places_seen 0 ps
all_places_seen (skip ps) = places_seen 0 ps

-- ---- the law

module _ (rights : Rights) (ps qs : Typeds TypeTree) (e : seen ps ≡ seen qs) where
  there_same : (n : ℕ) → is_there (part_at ps n) ≡ is_there (part_at qs n)
  there_same n = there_seen ps n ∙ ap (λ os. there (at os n)) e ∙ sym (there_seen qs n)

  type_same : (n : ℕ) → type_there (part_at ps n) ≡ type_there (part_at qs n)
  type_same n = type_seen ps n ∙ ap (λ os. type_in (at os n)) e ∙ sym (type_seen qs n)

  shape_same : (n : ℕ) → shape_at rights ps n ≡ shape_at rights qs n
  shape_same n = ap (shape_of rights) (type_same n)

  callee_same : (n : ℕ) → callee_of (sort_there (part_at ps n)) ≡ callee_of (sort_there (part_at qs n))
  callee_same n = callee_seen ps n ∙ ap (λ os. callee_in (at os n)) e ∙ sym (callee_seen qs n)

  calls_same : (n : ℕ) → calls_there (part_at ps n) ≡ calls_there (part_at qs n)
  calls_same n = calls_seen ps n ∙ ap (λ os. calls_in (at os n)) e ∙ sym (calls_seen qs n)

  default_same : default_at ps ≡ default_at qs
  default_same = default_seen ps ∙ ap default_in e ∙ sym (default_seen qs)

  all_places_same : places_of ps ≡ places_of qs
  all_places_same = all_places_seen ps ∙ ap behind_first e ∙ sym (all_places_seen qs)

  composite_same : (t u : TypeTree) → composite_plan rights t u ps ≡ composite_plan rights t u qs
  composite_same t (slice v) = refl
  composite_same t u = ap (λ ns. plans.Perform (does.Build (zero_in rights t) ns)) all_places_same

  builtin_same : (b : Predeclared) → builtin_plan rights b ps ≡ builtin_plan rights b qs
  builtin_same predeclared.Make = ap (λ t. plans.Perform (does.MakeSlice (zero_in rights (element_of t)))) (shape_same 1)
  builtin_same predeclared.Append = ap (λ t. plans.Perform (does.Append (zero_in rights (element_of t)))) (shape_same 1)
  builtin_same b = refl

  abbrev call_by : Callee → Typeds TypeTree → Plan
  call_by Prints rs = plans.Perform does.Print
  call_by (Predeclares b) rs = builtin_plan rights b rs
  call_by Applies rs = plans.Apply

  call_is : (s : Sort TypeTree) (rs : Typeds TypeTree) → call_plan rights s rs ≡ call_by (callee_of s) rs
  call_is Println rs = refl
  call_is (Builtin b) rs = refl
  call_is s rs = refl

  call_same : (c : Callee) → call_by c ps ≡ call_by c qs
  call_same Prints = refl
  call_same (Predeclares b) = builtin_same b
  call_same Applies = refl

  pub sight : (f : Form) (t : TypeTree) → form_plan rights f t ps ≡ form_plan rights f t qs
  sight (form.Step s) t = ap (λ u. plans.StepBy (step_operation s u)) (shape_same 0)
  sight (form.Operate o) t = ap (λ u. plans.OperateBy (operation o u)) (shape_same 0)
  sight (form.Specified n) t = ap (λ b. if b then plans.AssignTo n else plans.ZeroTo n (zero_in rights (type_there (part_at ps n)))) (there_same (suc n)) ∙ ap (λ u. if is_there (part_at qs (suc n)) then plans.AssignTo n else plans.ZeroTo n (zero_in rights u)) (type_same n)
  sight form.Switch t = ap (λ b. plans.Select b (default_at ps)) (there_same 1) ∙ ap (plans.Select (is_there (part_at qs 1))) default_same
  sight (form.Range defines n) t = ap (λ b. plans.Iterate n (items_of (at_most_one n) b (shape_at rights ps n))) (calls_same n) ∙ ap (λ u. plans.Iterate n (items_of (at_most_one n) (calls_there (part_at qs n)) u)) (shape_same n)
  sight form.Index t = ap index_plan (shape_same 0)
  sight form.Slice t = ap (λ b. plans.Perform (does.Cut b (is_there (part_at ps 2)))) (there_same 1) ∙ ap (λ b. plans.Perform (does.Cut (is_there (part_at qs 1)) b)) (there_same 2)
  sight form.Call t = call_is (sort_there (part_at ps 0)) ps ∙ ap (λ c. call_by c ps) (callee_same 0) ∙ call_same (callee_of (sort_there (part_at qs 0))) ∙ sym (call_is (sort_there (part_at qs 0)) qs)
  sight form.Conversion t = ap (λ u. plans.Perform (conversion (shape_of rights t) u)) (shape_same 1)
  sight form.Composite t = composite_same t (shape_of rights t)
  sight (form.Unary s) t = ap (λ u. plans.Perform (unary_operation s u)) (shape_same 0)
  sight (form.Binary o) t = ap (binary_plan o) (shape_same 0)
  sight f t = refl

  pub plan_sight : (f : Form) (l : Label TypeTree) → plan rights f l ps ≡ plan rights f l qs
  plan_sight form.For l = ap Loop (there_same 1)
  plan_sight f l = ap (λ p. Once (sort_plan l.sort p)) (sight f (sort_type l.sort))

-- ---- a parameter in place of a hole is seen as the hole was

pub parameter_seen : (f : Form) (i j p i' j' : ℕ) (l l' : Label TypeTree) (t : TypeTree) (c : Const) (ps : Typeds TypeTree) → l.sort ≡ Constant t c → l'.sort ≡ Value t → l.calls ≡ false → l'.calls ≡ false → is_default f ≡ false → key_of f ≡ None → seen_of (typed f i j l ps) ≡ seen_of (typed (form.Local p) i' j' l' none)
parameter_seen f i j p i' j' l l' t c ps e e' n n' d k =
    ap (λ s. record { type = sort_type s; callee = callee_of s; calls = l.calls; default = is_default f; key = key_of f }) e
    ∙ ap (λ b. record { type = t; callee = Applies; calls = b; default = is_default f; key = key_of f }) (n ∙ sym n')
    ∙ ap (λ b. record { type = t; callee = Applies; calls = l'.calls; default = b; key = key_of f }) d
    ∙ ap (λ o. record { type = t; callee = Applies; calls = l'.calls; default = false; key = o }) k
    ∙ sym (ap (λ s. record { type = sort_type s; callee = callee_of s; calls = l'.calls; default = false; key = None }) e')
