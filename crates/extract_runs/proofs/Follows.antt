-- What is to be shown of a tree and its image, and rows of such.
use Rattle.std.specs.Prelude.{◌≡◌, ℕ, suc, ◌+◌, ◌≤◌, Bool, false, [], ◌∷◌}
use Rattle.go_types.specs.Trees.{TypeTree}
use Rattle.go_types.specs.Relations.{Rights}
use Rattle.go_typed.specs.Trees.{Typed, typed, Typeds, first_of}
use Rattle.go_typed.specs.Trees as trees
use Rattle.go_meaning.specs.Values.{Value}
use Rattle.go_meaning.specs.Plans.{Plan, Declare, Once}
use Rattle.go_meaning.specs.Planning.{plan}
use Rattle.go_meaning_simulation.specs.Links.{Links, Ways, joined}
use Rattle.go_meaning_numbers.specs.Moved.{shifted}
use Rattle.go_meaning_simulation.specs.Kin.{Expression, Statement, Clauses}
use Rattle.extract_runs.specs.Images.{Renewal}
use Rattle.extract_runs.specs.Sound.{SoundExpression, SoundSimple, SoundStatement, SoundClause}

-- the links allow what the images do, and a turn pays for k windows
pub record Agrees (l : Links) (r : Renewal) (k : ℕ) : Type 0 where
  pub values : (v : Value) → l.values (v ∷ []) (shifted r.functions v ∷ [])
  pub holds : (s : l.Scope) (v : Value) (p : ℕ) → r.held v p → l.holds s v p
  pub windows : (s s1 : l.Scope) (ws ws' : Typeds TypeTree) → r.windows ws ws' → l.windows s s1 ws ws'
  pub cost : l.cost ≤ 1
  pub few : k + 1 ≤ l.factor

abbrev pub Plans : Rights → Typed TypeTree → Plan → Type 0
Plans rights (typed f i j e ps) p = plan rights f e ps ≡ Once p

module _ (l : Links) (r : Renewal) (k : ℕ) where
  pub record Follow (n : ℕ) (t t' : Typed TypeTree) : Type 0 where
    pub expression : (s : l.Scope) (b : Bool) → SoundExpression l r.old r.local r.gone s b t → Expression l r.old r.new s b t t'
    pub declares : (i : ℕ) → Plans r.old t (Declare i) → Plans r.new t' (Declare (r.local i))
    pub simple : (W : Ways l.Scope) (s s' : l.Scope) (m : ℕ) → SoundSimple l r.old r.local r.gone s s' t → Statement l r.old r.new W s s' m t t'
    pub statement : n ≤ k → (W : Ways l.Scope) (s s' : l.Scope) (m : ℕ) → n ≤ m → SoundStatement l r.old r.local r.gone W s s' t → Statement l r.old r.new W s s' m t t'
    pub clause : n ≤ k → (W : Ways l.Scope) (s s' : l.Scope) (m2 m : ℕ) → n + m2 ≤ m → SoundClause l r.old r.local r.gone W s s' t → (ts ts' : Typeds TypeTree) → Clauses l r.old r.new W s s' m2 ts ts' → Clauses l r.old r.new W s s' m (trees.more t ts) (trees.more t' ts')

  pub data Row : ℕ → Typeds TypeTree → Typeds TypeTree → Type 0 where
    none : {n : ℕ} → Row n trees.none trees.none
    more : {n : ℕ} {t t' : Typed TypeTree} {ts ts' : Typeds TypeTree} (a b : ℕ) → a + b ≤ n → Follow a t t' → Row b ts ts' → Row n (trees.more t ts) (trees.more t' ts')
    skip : {n : ℕ} {ts ts' : Typeds TypeTree} → Row n ts ts' → Row n (trees.skip ts) (trees.skip ts')

  pub data ListRow : ℕ → ℕ → Typeds TypeTree → Typeds TypeTree → Type 0 where
    ends : {n j : ℕ} → ListRow n j trees.none trees.none
    value : {n j a : ℕ} {t t' : Typed TypeTree} {ts ts' : Typeds TypeTree} → Follow a t t' → ListRow n j ts ts' → ListRow n (suc j) (trees.more t ts) (trees.more t' ts')
    next : {n : ℕ} {t t' : Typed TypeTree} {ts ts' : Typeds TypeTree} (a b : ℕ) → a + b ≤ n → r.gone (first_of t) ≡ false → Follow a t t' → ListRow b 0 ts ts' → ListRow n 0 (trees.more t ts) (trees.more t' ts')
    left_out : {n j : ℕ} {ts ts' : Typeds TypeTree} → ListRow n j ts ts' → ListRow n j (trees.skip ts) (trees.skip ts')
    window : {n b : ℕ} {ps ps' ws ws' ts ts' : Typeds TypeTree} → 1 + b ≤ n → ps ≡ joined ws ts → ps' ≡ joined ws' ts' → r.windows ws ws' → ListRow b 0 ts ts' → ListRow n 0 ps ps'
