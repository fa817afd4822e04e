-- Windows whose numbers were worked out by hand.
use Rattle.std.specs.Prelude.{◌≡◌, ℕ, pos, Bool, true, false, List, [], ◌∷◌, codes, replicate}
use Rattle.go_constants.specs.declared.values.Const.TheVariants as const
use Rattle.go_grammar.specs.declared.kind.Arithmetic.TheVariants as arithmetic
use Rattle.go_grammar.specs.declared.kind.Operator.TheVariants as operator
use Rattle.go_typed.specs.declared.form.Form.{Form}
use Rattle.go_typed.specs.declared.form.Form.TheVariants as form
use Rattle.go_typed.specs.declared.form.Referent.TheVariants as referent
use Rattle.go_typed.specs.Trees.{Sort, Nothing, Value, Constant, Results, Typed, typed, Typeds, none, more}
use Rattle.alpha_hash_defs.specs.Hash.{text_fold}
use Rattle.alpha_hash_defs.specs.Naming.{Naming}
use Rattle.alpha_hash_defs.specs.Numbers.{hash}

abbrev pub row : List (Typed ℕ) → Typeds ℕ
row [] = none
row (p ∷ ps) = more p (row ps)

abbrev pub bare : Form → Sort ℕ → Bool → List (Typed ℕ) → Typed ℕ
bare f s varies ps = typed f 0 0 (record { sort = s; varies = varies; calls = false }) (row ps)

-- all types are `int`, all objects are `f`
abbrev pub names : Naming ℕ
names = record { type_text = λ t. codes "int"; object_text = λ o. codes "f"; field_text = λ t k. []; local_sort = λ l. Value 0 }

-- `f()`
abbrev pub called : Typed ℕ
called = bare form.Expression Nothing true (bare form.Call (Results 0) true (bare (form.Object (referent.Function 0)) (Value 0) true [] ∷ []) ∷ [])

abbrev pub used : ℕ → Typed ℕ
used l = bare (form.Local l) (Value 0) true []

-- `a = b`
abbrev pub assigned : ℕ → ℕ → Typed ℕ
assigned a b = bare (form.Assign 1) Nothing true (used a ∷ used b ∷ [])

abbrev pub literal : ℕ → Typed ℕ
literal n = bare form.Literal (Constant 0 (const.Int (pos n) false)) false []

-- `b := a + 1` and `b = b * 2`, where these are the locals and the constants
abbrev pub plain : ℕ → ℕ → ℕ → ℕ → Typeds ℕ
plain a b m n = row (
    bare (form.Define 1) Nothing true (bare (form.New b) (Value 0) true [] ∷ bare (form.Binary (operator.Compute arithmetic.Add)) (Value 0) true (used a ∷ literal m ∷ []) ∷ [])
    ∷ bare (form.Assign 1) Nothing true (used b ∷ bare (form.Binary (operator.Compute arithmetic.Multiply)) (Value 0) true (used b ∷ literal n ∷ []) ∷ [])
    ∷ [])

pub record Examples : Type 0 where
  pub text : text_fold (codes "f") ≡ 12638186101044013785
  pub two_calls : hash names (row (replicate 2 called)) ≡ 4602086889998512149
  pub three_calls : hash names (row (replicate 3 called)) ≡ 13090899417976667772
  pub four_calls : hash names (row (replicate 4 called)) ≡ 7593487097115680891
  pub plain_case : hash names (plain 0 1 1 2) ≡ 13538610327512789708
  pub other_names_and_constants : hash names (plain 3 7 5 2) ≡ 13538610327512789708
  pub turned : hash names (row (assigned 0 1 ∷ assigned 1 0 ∷ [])) ≡ 7680097689776845217
  pub one_local : hash names (row (assigned 0 0 ∷ assigned 0 0 ∷ [])) ≡ 7683132341871842927
  pub twice : hash names (row (assigned 0 1 ∷ assigned 0 1 ∷ [])) ≡ 7682991604382675019
