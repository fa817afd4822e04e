-- Worked examples of classes and of listings.
use Rattle.std.specs.Prelude.{◌≡◌, ℕ, ◌%◌, Bool, false, List, [], ◌∷◌, nat_eq, replicate}
use Rattle.go_typed.specs.declared.form.Form.{Form}
use Rattle.go_typed.specs.declared.form.Form.TheVariants as form
use Rattle.go_typed.specs.declared.form.Referent.TheVariants as referent
use Rattle.go_typed.specs.Trees.{Sort, Nothing, Value, Results, Typed, typed, Typeds, none, more}
use Rattle.clone_window.specs.Windows.{run_at}
use Rattle.clone_classes.specs.Classes.{classes}
use Rattle.clone_classes.specs.Listing.{listing}
use Rattle.clone_window.specs.Bodies.{Body}

-- Numbers are the same where they leave the same remainder.
abbrev pub same : ℕ → ℕ → Bool
same x y = nat_eq (x % 10) (y % 10)

abbrev pub bare : Form → Sort ℕ → List (Typed ℕ) → Typed ℕ
bare f s ps = typed f 0 0 (record { sort = s; varies = false; calls = false }) (parts ps) where
  parts : List (Typed ℕ) → Typeds ℕ
  parts [] = none
  parts (p ∷ ps) = more p (parts ps)

-- `f()`
abbrev pub called : Typed ℕ
called = bare form.Expression Nothing (bare form.Call (Results 0) (bare (form.Object (referent.Function 0)) (Value 0) [] ∷ []) ∷ [])

-- `a = b`
abbrev pub assigned : ℕ → ℕ → Typed ℕ
assigned a b = bare (form.Assign 1) Nothing (bare (form.Local a) (Value 1) [] ∷ bare (form.Local b) (Value 1) [] ∷ [])

abbrev pub body : List (Sort ℕ) → List (Typed ℕ) → Body ℕ
body sorts ss = record { locals = sorts; root = bare form.Function Nothing (bare form.Block Nothing ss ∷ []) }

-- fields have no names, or each type names its fields by its number
abbrev pub unnamed : ℕ → ℕ → List ℕ
unnamed t k = []

abbrev pub numbered : ℕ → ℕ → List ℕ
numbered t k = t ∷ []

abbrev pub two : List (Sort ℕ)
two = Value 1 ∷ Value 1 ∷ []

-- `f().x` where the call gives a value of this type
abbrev pub selected : ℕ → Typed ℕ
selected t = bare form.Expression Nothing (bare (form.Selector 0) (Value 1) (bare form.Call (Value t) (bare (form.Object (referent.Function 0)) (Value 0) [] ∷ []) ∷ []) ∷ [])

pub record Examples : Type 0 where
  -- groups of two or more, in the order of their first members
  pub two_groups : classes same (11 ∷ 5 ∷ 32 ∷ 21 ∷ 42 ∷ 31 ∷ []) ≡ (11 ∷ 21 ∷ 31 ∷ []) ∷ (32 ∷ 42 ∷ []) ∷ []
  pub none_alike : classes same (1 ∷ 2 ∷ 3 ∷ []) ≡ []
  pub no_windows : classes same [] ≡ []
  -- `func f() {}` and `func g() { f(); f(); f(); f() }`: windows of a class may overlap
  pub overlapping : listing nat_eq unnamed (record { fewest = 2; least = 6 }) (body [] [] ∷ body [] (replicate 4 called) ∷ [])
      ≡ (run_at 1 0 0 2 ∷ run_at 1 0 1 2 ∷ run_at 1 0 2 2 ∷ []) ∷ (run_at 1 0 0 3 ∷ run_at 1 0 1 3 ∷ []) ∷ []
  -- `a = b; b = a` in f, `a = a; a = a` in g, `a = b; a = b` in k
  pub not_one_to_one : listing nat_eq unnamed (record { fewest = 2; least = 6 })
      (body two (assigned 0 1 ∷ assigned 1 0 ∷ []) ∷ body two (assigned 0 0 ∷ assigned 0 0 ∷ []) ∷ body two (assigned 0 1 ∷ assigned 0 1 ∷ []) ∷ []) ≡ []
  -- fields of one place that have different names, and that have one name
  pub other_names : listing nat_eq numbered (record { fewest = 2; least = 6 }) (body [] (replicate 2 (selected 2)) ∷ body [] (replicate 2 (selected 3)) ∷ []) ≡ []
  pub one_name : listing nat_eq unnamed (record { fewest = 2; least = 6 }) (body [] (replicate 2 (selected 2)) ∷ body [] (replicate 2 (selected 3)) ∷ [])
      ≡ (run_at 0 0 0 2 ∷ run_at 1 0 0 2 ∷ []) ∷ []
