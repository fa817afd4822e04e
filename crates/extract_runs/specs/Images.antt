-- What becomes of an old tree, node by node: its plan with other numbers, or a parameter in place of a constant, and in lists of
-- statements other ones in place of windows. It says nothing of which locals are linked, nor where.
use Rattle.std.specs.Prelude.{◌≡◌, ℕ, suc, ◌+◌, ◌≤◌, Bool, true, false}
use Rattle.go_types.specs.Trees.{TypeTree}
use Rattle.go_types.specs.Relations.{Rights}
use Rattle.go_typed.specs.declared.form.Form.{Form}
use Rattle.go_typed.specs.declared.form.Form.TheVariants as form
use Rattle.go_typed.specs.Trees.{Label, Typed, typed, Typeds, first_of}
use Rattle.go_typed.specs.Trees as trees
use Rattle.go_meaning.specs.Values.{Value}
use Rattle.go_meaning.specs.Plans.{Plan, Give, Local, Declare, Inner, Sequence, CaseOf, Otherwise, Once}
use Rattle.go_meaning.specs.Planning.{plan}
use Rattle.go_meaning_simulation.specs.Links.{joined}
use Rattle.go_meaning_numbers.specs.Moved.{shifted}

-- other numbers for functions and locals
abbrev pub plan_moved : (functions local : ℕ → ℕ) → Plan → Plan
plan_moved s local (Give v) = Give (shifted s v)
plan_moved s local (Local n) = Local (local n)
plan_moved s local (Declare n) = Declare (local n)
plan_moved s local p = p

-- nodes whose parts are statements in order, and how many values stand in front of these
abbrev pub is_list : Plan → Bool
is_list Sequence = true
is_list (CaseOf n) = true
is_list Otherwise = true
is_list p = false

abbrev pub values_in : Plan → ℕ
values_in (CaseOf n) = n
values_in p = 0

pub record Renewal : Type 1 where
  pub old : Rights
  pub new : Rights
  pub functions : ℕ → ℕ
  pub local : ℕ → ℕ
  -- a constant that a parameter stands for
  pub held : Value → ℕ → Type 0
  -- statements, and those that take their place
  pub windows : Typeds TypeTree → Typeds TypeTree → Type 0
  -- whether the statement that begins at this token stands in a window
  pub gone : ℕ → Bool

module _ (r : Renewal) where
  mutual
    -- with so many windows at most
    pub data Image : ℕ → Typed TypeTree → Typed TypeTree → Type 0 where
      node : {n : ℕ} {f f' : Form} {i i' j j' : ℕ} {e e' : Label TypeTree} {ps ps' : Typeds TypeTree} (p : Plan) → is_list p ≡ false → plan r.old f e ps ≡ Once p →
          plan r.new f' e' ps' ≡ Once (plan_moved r.functions r.local p) → Images n ps ps' → Image n (typed f i j e ps) (typed f' i' j' e' ps')
      list : {n : ℕ} {f f' : Form} {i i' j j' : ℕ} {e e' : Label TypeTree} {ps ps' : Typeds TypeTree} (p : Plan) → is_list p ≡ true → plan r.old f e ps ≡ Once p →
          plan r.new f' e' ps' ≡ Once p → Listed n (values_in p) ps ps' → Image n (typed f i j e ps) (typed f' i' j' e' ps')
      loop : {n : ℕ} {i i' j j' : ℕ} {e e' : Label TypeTree} {ps ps' : Typeds TypeTree} → Images n ps ps' → Image n (typed form.For i j e ps) (typed form.For i' j' e' ps')
      -- a constant, whose parts aren't compared
      constant : {n : ℕ} {v : Value} {f f' : Form} {i i' j j' : ℕ} {e e' : Label TypeTree} {ps ps' : Typeds TypeTree} → plan r.old f e ps ≡ Once (Give v) →
          plan r.new f' e' ps' ≡ Once (Give (shifted r.functions v)) → Image n (typed f i j e ps) (typed f' i' j' e' ps')
      held : {n p : ℕ} {v : Value} {f f' : Form} {i i' j j' : ℕ} {e e' : Label TypeTree} {ps ps' : Typeds TypeTree} → plan r.old f e ps ≡ Once (Give v) →
          plan r.new f' e' ps' ≡ Once (Local p) → r.held v p → Image n (typed f i j e ps) (typed f' i' j' e' ps')
      -- the element for a field
      keyed : {n p : ℕ} {v : Value} {f f' g : Form} {i i' j j' a b : ℕ} {e e' c : Label TypeTree} {ps qs ts' : Typeds TypeTree} → plan r.old f e ps ≡ Once (Give v) →
          plan r.new f' e' (trees.more (typed g a b c qs) ts') ≡ Once Inner → plan r.new g c qs ≡ Once (Local p) → r.held v p →
          Image n (typed f i j e ps) (typed f' i' j' e' (trees.more (typed g a b c qs) ts'))

    pub data Images : ℕ → Typeds TypeTree → Typeds TypeTree → Type 0 where
      none : {n : ℕ} → Images n trees.none trees.none
      more : {n : ℕ} {t t' : Typed TypeTree} {ts ts' : Typeds TypeTree} (a b : ℕ) → a + b ≤ n → Image a t t' → Images b ts ts' → Images n (trees.more t ts) (trees.more t' ts')
      skip : {n : ℕ} {ts ts' : Typeds TypeTree} → Images n ts ts' → Images n (trees.skip ts) (trees.skip ts')

    -- so many values, and the statements behind them
    pub data Listed : ℕ → ℕ → Typeds TypeTree → Typeds TypeTree → Type 0 where
      ends : {n k : ℕ} → Listed n k trees.none trees.none
      value : {n k a : ℕ} {t t' : Typed TypeTree} {ts ts' : Typeds TypeTree} → Image a t t' → Listed n k ts ts' → Listed n (suc k) (trees.more t ts) (trees.more t' ts')
      next : {n : ℕ} {t t' : Typed TypeTree} {ts ts' : Typeds TypeTree} (a b : ℕ) → a + b ≤ n → r.gone (first_of t) ≡ false → Image a t t' → Listed b 0 ts ts' →
          Listed n 0 (trees.more t ts) (trees.more t' ts')
      left_out : {n k : ℕ} {ts ts' : Typeds TypeTree} → Listed n k ts ts' → Listed n k (trees.skip ts) (trees.skip ts')
      window : {n b : ℕ} {ps ps' ws ws' ts ts' : Typeds TypeTree} → 1 + b ≤ n → ps ≡ joined ws ts → ps' ≡ joined ws' ts' → r.windows ws ws' → Listed b 0 ts ts' → Listed n 0 ps ps'
