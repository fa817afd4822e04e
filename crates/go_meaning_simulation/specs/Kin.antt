-- Trees that are kin: node by node their plans are equal, but for what the links allow.
use Rattle.std.specs.Prelude.{◌≡◌, ℕ, zero, suc, ◌+◌, ◌≤◌, Bool, true, false, nat_lt, Some, List, [], ◌∷◌}
use Rattle.go_types.specs.Trees.{TypeTree}
use Rattle.go_types.specs.Relations.{Rights}
use Rattle.go_types_relations.specs.Zeros.{Zero}
use Rattle.go_typed.specs.declared.form.Form.{Form}
use Rattle.go_typed.specs.declared.form.Form.TheVariants as form
use Rattle.go_typed.specs.Trees.{Label, Typed, typed, Typeds}
use Rattle.go_typed.specs.Trees as trees
use Rattle.go_meaning.specs.Values.{Value}
use Rattle.go_meaning.specs.Operations.{Items}
use Rattle.go_meaning.specs.Plans.{Plan, Give, Local, Variable, Declare, Ignore, Inner, FieldOf, ElementOf, CellOf, Perform, Both, Either, Apply, StepBy}
use Rattle.go_meaning.specs.Plans.{OperateBy, AssignTo, ZeroTo, Skip, Returns, Breaks, Continues, Falls, Sequence, Branch, Select, CaseOf, Otherwise, Iterate, Once}
use Rattle.go_meaning.specs.Planning.{plan}
use Rattle.go_meaning_simulation.specs.Links.{Links, joined, Ways, nowhere, loop_ways, clause_ways}

-- ---- plans

-- A plan that asks nothing of its parts, as a place (true) or for its value alone (false). A constant may stand against a local
-- only where its value alone is asked for.
pub data Leaf (l : Links) (s : l.Scope) : Bool → Plan → Plan → Type 0 where
  gives : {b : Bool} {v v' : Value} → l.values (v ∷ []) (v' ∷ []) → Leaf l s b (Give v) (Give v')
  reads : {i j : ℕ} → l.reads s i j → Leaf l s false (Local i) (Local j)
  changes : {i j : ℕ} → l.reads s i j → l.writes s i j → Leaf l s true (Local i) (Local j)
  holds : {v : Value} {n : ℕ} → l.holds s v n → Leaf l s false (Give v) (Local n)
  held : {n : ℕ} {v : Value} → l.held s n v → Leaf l s false (Local n) (Give v)
  variable : {b : Bool} {n : ℕ} → Leaf l s b (Variable n) (Variable n)
  blank : {b : Bool} → Leaf l s b Ignore Ignore
  nothing : {b : Bool} → Leaf l s b Skip Skip

-- the plans that are equal on both sides, and all of whose parts are expressions
abbrev pub is_inner : Plan → Bool
is_inner Inner = true
is_inner (FieldOf n) = true
is_inner (ElementOf n) = true
is_inner CellOf = true
is_inner (Perform o) = true
is_inner Both = true
is_inner Either = true
is_inner Apply = true
is_inner (StepBy o) = true
is_inner (OperateBy o) = true
is_inner (AssignTo n) = true
is_inner p = false

abbrev pub first_alone : Bool → ℕ → Bool
first_alone b zero = b
first_alone b (suc k) = false

-- which parts are asked for as places, where the node itself is or isn't
abbrev pub modes : Plan → Bool → ℕ → Bool
modes Inner b k = first_alone b k
modes (FieldOf n) b k = first_alone b k
modes (ElementOf n) b k = first_alone b k
modes (StepBy o) b k = first_alone true k
modes (OperateBy o) b k = first_alone true k
modes (AssignTo n) b k = nat_lt k n
modes p b k = false

module _ (l : Links) (rights rights' : Rights) where
  -- ---- expressions, and statements all of whose parts are expressions and that declare nothing

  mutual
    pub data Expression (s : l.Scope) : Bool → Typed TypeTree → Typed TypeTree → Type 0 where
      leaf : {b : Bool} {f f' : Form} {i i' j j' : ℕ} {e e' : Label TypeTree} {ps ps' : Typeds TypeTree} (p p' : Plan) → plan rights f e ps ≡ Once p →
          plan rights' f' e' ps' ≡ Once p' → Leaf l s b p p' → Expression s b (typed f i j e ps) (typed f' i' j' e' ps')
      inner : {b : Bool} {f f' : Form} {i i' j j' : ℕ} {e e' : Label TypeTree} {ps ps' : Typeds TypeTree} (p : Plan) → plan rights f e ps ≡ Once p →
          plan rights' f' e' ps' ≡ Once p → is_inner p ≡ true → Expressions s (modes p b) ps ps' → Expression s b (typed f i j e ps) (typed f' i' j' e' ps')
      -- The element for a field: it stands for a constant itself where its value is one, and else is all that its value is.
      keyed : {v : Value} {n : ℕ} {f f' g : Form} {i i' j j' a b : ℕ} {e e' c : Label TypeTree} {ps qs ts' : Typeds TypeTree} → plan rights f e ps ≡ Once (Give v) →
          plan rights' f' e' (trees.more (typed g a b c qs) ts') ≡ Once Inner → plan rights' g c qs ≡ Once (Local n) → l.holds s v n →
          Expression s false (typed f i j e ps) (typed f' i' j' e' (trees.more (typed g a b c qs) ts'))
      keyed_back : {v : Value} {n : ℕ} {f f' g : Form} {i i' j j' a b : ℕ} {e e' c : Label TypeTree} {ps' qs ts : Typeds TypeTree} →
          plan rights f e (trees.more (typed g a b c qs) ts) ≡ Once Inner → plan rights g c qs ≡ Once (Local n) → plan rights' f' e' ps' ≡ Once (Give v) → l.held s n v →
          Expression s false (typed f i j e (trees.more (typed g a b c qs) ts)) (typed f' i' j' e' ps')

    -- parts, of which those are places that the test tells
    pub data Expressions (s : l.Scope) : (ℕ → Bool) → Typeds TypeTree → Typeds TypeTree → Type 0 where
      none : {m : ℕ → Bool} → Expressions s m trees.none trees.none
      more : {m : ℕ → Bool} {t t' : Typed TypeTree} {ts ts' : Typeds TypeTree} → Expression s (m 0) t t' → Expressions s (λ k. m (suc k)) ts ts' → Expressions s m (trees.more t ts) (trees.more t' ts')
      skip : {m : ℕ → Bool} {ts ts' : Typeds TypeTree} → Expressions s (λ k. m (suc k)) ts ts' → Expressions s m (trees.skip ts) (trees.skip ts')

  -- ---- targets of a declaration

  -- Names that get values one after the other, so many, and the rest of the parts, which are evaluated before. From the scope s
  -- on, where the rest is evaluated in the scope r.
  pub data Names (r : l.Scope) : (s s' : l.Scope) → ℕ → Typeds TypeTree → Typeds TypeTree → Type 0 where
    values : {s : l.Scope} {ts ts' : Typeds TypeTree} → Expressions r (λ k. false) ts ts' → Names r s s 0 ts ts'
    declared : {s s1 s' : l.Scope} {n i j : ℕ} {f f' : Form} {a a' b b' : ℕ} {e e' : Label TypeTree} {ps ps' ts ts' : Typeds TypeTree} → plan rights f e ps ≡ Once (Declare i) →
        plan rights' f' e' ps' ≡ Once (Declare j) → l.declares s i j s1 → Names r s1 s' n ts ts' →
        Names r s s' (suc n) (trees.more (typed f a b e ps) ts) (trees.more (typed f' a' b' e' ps') ts')
    other : {s s' : l.Scope} {n : ℕ} {t t' : Typed TypeTree} {ts ts' : Typeds TypeTree} → Expression r true t t' → Expression s true t t' → Names r s s' n ts ts' →
        Names r s s' (suc n) (trees.more t ts) (trees.more t' ts')

  -- a value in front of a row, if it is there, and the rest of the row
  pub data Part (s : l.Scope) : Typeds TypeTree → Typeds TypeTree → Typeds TypeTree → Typeds TypeTree → Type 0 where
    there : {t t' : Typed TypeTree} {ts ts' : Typeds TypeTree} → Expression s false t t' → Part s (trees.more t ts) (trees.more t' ts') ts ts'
    absent : {ts ts' : Typeds TypeTree} → Part s (trees.skip ts) (trees.skip ts') ts ts'

  -- so many values in front of a row, and the rest
  pub data Values (s : l.Scope) : ℕ → Typeds TypeTree → Typeds TypeTree → Typeds TypeTree → Typeds TypeTree → Type 0 where
    rest : {ts ts' : Typeds TypeTree} → Values s 0 ts ts' ts ts'
    value : {n : ℕ} {t t' : Typed TypeTree} {ts ts' rs rs' : Typeds TypeTree} → Expression s false t t' → Values s n ts ts' rs rs' → Values s (suc n) (trees.more t ts) (trees.more t' ts') rs rs'

  -- ---- statements: the ways out, the scopes before and behind, and what the windows in it cost

  mutual
    pub data Statement : Ways l.Scope → (s s' : l.Scope) → ℕ → Typed TypeTree → Typed TypeTree → Type 0 where
      does : {W : Ways l.Scope} {s s' : l.Scope} {m : ℕ} {t t' : Typed TypeTree} → l.forgets s s' → Expression s false t t' → Statement W s s' m t t'
      defines : {W : Ways l.Scope} {s s' : l.Scope} {m n : ℕ} {f f' : Form} {i i' j j' : ℕ} {e e' : Label TypeTree} {ps ps' : Typeds TypeTree} →
          plan rights f e ps ≡ Once (AssignTo n) → plan rights' f' e' ps' ≡ Once (AssignTo n) → Names s s s' n ps ps' →
          Statement W s s' m (typed f i j e ps) (typed f' i' j' e' ps')
      zeros : {W : Ways l.Scope} {s s' : l.Scope} {m n : ℕ} {z : Zero} {f f' : Form} {i i' j j' : ℕ} {e e' : Label TypeTree} {ps ps' : Typeds TypeTree} →
          plan rights f e ps ≡ Once (ZeroTo n z) → plan rights' f' e' ps' ≡ Once (ZeroTo n z) → Names s s s' n ps ps' →
          Statement W s s' m (typed f i j e ps) (typed f' i' j' e' ps')
      returns : {W : Ways l.Scope} {s s' : l.Scope} {m : ℕ} {f f' : Form} {i i' j j' : ℕ} {e e' : Label TypeTree} {ps ps' : Typeds TypeTree} → l.returns →
          plan rights f e ps ≡ Once Returns → plan rights' f' e' ps' ≡ Once Returns → Expressions s (λ k. false) ps ps' →
          Statement W s s' m (typed f i j e ps) (typed f' i' j' e' ps')
      breaks : {W : Ways l.Scope} {s s' s1 : l.Scope} {m : ℕ} {f f' : Form} {i i' j j' : ℕ} {e e' : Label TypeTree} {ps ps' : Typeds TypeTree} → W.breaks ≡ Some s1 →
          l.forgets s s1 → plan rights f e ps ≡ Once Breaks → plan rights' f' e' ps' ≡ Once Breaks → Statement W s s' m (typed f i j e ps) (typed f' i' j' e' ps')
      continues : {W : Ways l.Scope} {s s' s1 : l.Scope} {m : ℕ} {f f' : Form} {i i' j j' : ℕ} {e e' : Label TypeTree} {ps ps' : Typeds TypeTree} → W.continues ≡ Some s1 →
          l.forgets s s1 → plan rights f e ps ≡ Once Continues → plan rights' f' e' ps' ≡ Once Continues → Statement W s s' m (typed f i j e ps) (typed f' i' j' e' ps')
      falls : {W : Ways l.Scope} {s s' s1 : l.Scope} {m : ℕ} {f f' : Form} {i i' j j' : ℕ} {e e' : Label TypeTree} {ps ps' : Typeds TypeTree} → W.falls ≡ Some s1 → l.forgets s s1 →
          plan rights f e ps ≡ Once Falls → plan rights' f' e' ps' ≡ Once Falls → Statement W s s' m (typed f i j e ps) (typed f' i' j' e' ps')
      -- a block, a group of declarations, a function
      sequence : {W : Ways l.Scope} {s s1 s' : l.Scope} {m : ℕ} {f f' : Form} {i i' j j' : ℕ} {e e' : Label TypeTree} {ps ps' : Typeds TypeTree} →
          plan rights f e ps ≡ Once Sequence → plan rights' f' e' ps' ≡ Once Sequence → Chain W s s1 m ps ps' → l.forgets s1 s' →
          Statement W s s' m (typed f i j e ps) (typed f' i' j' e' ps')
      branch : {W : Ways l.Scope} {s s1 s' : l.Scope} {m : ℕ} {f f' : Form} {i i' j j' : ℕ} {e e' : Label TypeTree} {ps ps' rs rs' : Typeds TypeTree} {c c' b b' : Typed TypeTree} →
          plan rights f e ps ≡ Once Branch → plan rights' f' e' ps' ≡ Once Branch → First W s s1 ps ps' (trees.more c (trees.more b rs)) (trees.more c' (trees.more b' rs')) →
          Expression s1 false c c' → Statement W s1 s' m b b' → Other W s1 s' m rs rs' → Statement W s s' m (typed f i j e ps) (typed f' i' j' e' ps')
      -- a switch whose default clause stands behind so many others
      selects : {W : Ways l.Scope} {s s1 s' : l.Scope} {m other : ℕ} {tag : Bool} {f f' : Form} {i i' j j' : ℕ} {e e' : Label TypeTree} {ps ps' qs qs' rs rs' : Typeds TypeTree} →
          plan rights f e ps ≡ Once (Select tag (suc (suc other))) → plan rights' f' e' ps' ≡ Once (Select tag (suc (suc other))) → First W s s1 ps ps' qs qs' →
          Part s1 qs qs' rs rs' → Clauses (clause_ways W s' s1) s1 s' m rs rs' → l.forgets s1 s' → Statement W s s' m (typed f i j e ps) (typed f' i' j' e' ps')
      iterates : {W : Ways l.Scope} {s s1 s' : l.Scope} {m mb n : ℕ} {items : Items} {f f' : Form} {i i' j j' : ℕ} {e e' : Label TypeTree} {ps ps' : Typeds TypeTree} →
          plan rights f e ps ≡ Once (Iterate n items) → plan rights' f' e' ps' ≡ Once (Iterate n items) → Ranged W s s s1 mb n ps ps' → mb + 1 ≤ l.factor → l.forgets s1 s →
          l.forgets s s' → Statement W s s' m (typed f i j e ps) (typed f' i' j' e' ps')
      loops : {W : Ways l.Scope} {s s1 s' : l.Scope} {m mb : ℕ} {i i' j j' : ℕ} {e e' : Label TypeTree} {ps ps' qs qs' rs rs' : Typeds TypeTree} {b b' : Typed TypeTree} →
          First W s s1 ps ps' qs qs' → Part s1 qs qs' rs rs' → First W s1 s1 rs rs' (trees.more b trees.none) (trees.more b' trees.none) →
          Statement (loop_ways W s1) s1 s1 mb b b' → mb + 1 ≤ l.factor → l.forgets s1 s' → Statement W s s' m (typed form.For i j e ps) (typed form.For i' j' e' ps')

    -- the statement in front of a row, if it is there, and the rest of the row
    pub data First : Ways l.Scope → (s s' : l.Scope) → Typeds TypeTree → Typeds TypeTree → Typeds TypeTree → Typeds TypeTree → Type 0 where
      first : {W : Ways l.Scope} {s s' : l.Scope} {t t' : Typed TypeTree} {ts ts' : Typeds TypeTree} → Statement W s s' 0 t t' → First W s s' (trees.more t ts) (trees.more t' ts') ts ts'
      no_first : {W : Ways l.Scope} {s : l.Scope} {ts ts' : Typeds TypeTree} → First W s s (trees.skip ts) (trees.skip ts') ts ts'

    -- the else part
    pub data Other : Ways l.Scope → (s s' : l.Scope) → ℕ → Typeds TypeTree → Typeds TypeTree → Type 0 where
      other : {W : Ways l.Scope} {s s' : l.Scope} {m : ℕ} {t t' : Typed TypeTree} {ts ts' : Typeds TypeTree} → Statement W s s' m t t' → Other W s s' m (trees.more t ts) (trees.more t' ts')
      no_other : {W : Ways l.Scope} {s s' : l.Scope} {m : ℕ} {ts ts' : Typeds TypeTree} → l.forgets s s' → Other W s s' m (trees.skip ts) (trees.skip ts')
      nothing_behind : {W : Ways l.Scope} {s s' : l.Scope} {m : ℕ} → l.forgets s s' → Other W s s' m trees.none trees.none

    -- statements in order, with windows among them
    pub data Chain : Ways l.Scope → (s s' : l.Scope) → ℕ → Typeds TypeTree → Typeds TypeTree → Type 0 where
      ends : {W : Ways l.Scope} {s : l.Scope} {m : ℕ} → Chain W s s m trees.none trees.none
      next : {W : Ways l.Scope} {s s1 s' : l.Scope} {m : ℕ} {t t' : Typed TypeTree} {ts ts' : Typeds TypeTree} (m1 m2 : ℕ) → m1 + m2 ≤ m → Statement W s s1 m1 t t' →
          Chain W s1 s' m2 ts ts' → Chain W s s' m (trees.more t ts) (trees.more t' ts')
      left_out : {W : Ways l.Scope} {s s' : l.Scope} {m : ℕ} {ts ts' : Typeds TypeTree} → Chain W s s' m ts ts' → Chain W s s' m (trees.skip ts) (trees.skip ts')
      window : {W : Ways l.Scope} {s s1 s' : l.Scope} {m : ℕ} {ws ws' ts ts' : Typeds TypeTree} (m2 : ℕ) → l.cost + m2 ≤ m → l.windows s s1 ws ws' → Chain W s1 s' m2 ts ts' →
          Chain W s s' m (joined ws ts) (joined ws' ts')

    -- clauses of a switch
    pub data Clauses : Ways l.Scope → (s s' : l.Scope) → ℕ → Typeds TypeTree → Typeds TypeTree → Type 0 where
      no_clauses : {W : Ways l.Scope} {s s' : l.Scope} {m : ℕ} → Clauses W s s' m trees.none trees.none
      clause : {W : Ways l.Scope} {s s1 s' : l.Scope} {m n : ℕ} {f f' : Form} {i i' j j' : ℕ} {e e' : Label TypeTree} {ps ps' qs qs' ts ts' : Typeds TypeTree} (m1 m2 : ℕ) →
          m1 + m2 ≤ m → plan rights f e ps ≡ Once (CaseOf n) → plan rights' f' e' ps' ≡ Once (CaseOf n) → Values s n ps ps' qs qs' → Chain W s s1 m1 qs qs' → l.forgets s1 s' →
          Clauses W s s' m2 ts ts' → Clauses W s s' m (trees.more (typed f i j e ps) ts) (trees.more (typed f' i' j' e' ps') ts')
      default : {W : Ways l.Scope} {s s1 s' : l.Scope} {m : ℕ} {f f' : Form} {i i' j j' : ℕ} {e e' : Label TypeTree} {ps ps' ts ts' : Typeds TypeTree} (m1 m2 : ℕ) → m1 + m2 ≤ m →
          plan rights f e ps ≡ Once Otherwise → plan rights' f' e' ps' ≡ Once Otherwise → Chain W s s1 m1 ps ps' → l.forgets s1 s' → Clauses W s s' m2 ts ts' →
          Clauses W s s' m (trees.more (typed f i j e ps) ts) (trees.more (typed f' i' j' e' ps') ts')

    -- The targets of a range clause, its operand, which is evaluated in the scope r, and its block.
    pub data Ranged : Ways l.Scope → (r s s' : l.Scope) → (mb : ℕ) → ℕ → Typeds TypeTree → Typeds TypeTree → Type 0 where
      operand : {W : Ways l.Scope} {r s : l.Scope} {mb : ℕ} {x x' b b' : Typed TypeTree} → Expression r false x x' → Statement (loop_ways W s) s s mb b b' →
          Ranged W r s s mb 0 (trees.more x (trees.more b trees.none)) (trees.more x' (trees.more b' trees.none))
      ranged_name : {W : Ways l.Scope} {r s s1 s' : l.Scope} {mb n i j : ℕ} {f f' : Form} {a a' c c' : ℕ} {e e' : Label TypeTree} {ps ps' ts ts' : Typeds TypeTree} →
          plan rights f e ps ≡ Once (Declare i) → plan rights' f' e' ps' ≡ Once (Declare j) → l.declares s i j s1 → Ranged W r s1 s' mb n ts ts' →
          Ranged W r s s' mb (suc n) (trees.more (typed f a c e ps) ts) (trees.more (typed f' a' c' e' ps') ts')
      ranged_place : {W : Ways l.Scope} {r s s' : l.Scope} {mb n : ℕ} {t t' : Typed TypeTree} {ts ts' : Typeds TypeTree} → Expression r true t t' → Expression s true t t' →
          Ranged W r s s' mb n ts ts' → Ranged W r s s' mb (suc n) (trees.more t ts) (trees.more t' ts')

  -- ---- trees one by one, each in the scope s and at no cost

  pub data AreKin (s : l.Scope) : List (Typed TypeTree) → List (Typed TypeTree) → Type 0 where
    all_done : AreKin s [] []
    and_kin : {t t' : Typed TypeTree} {ts ts' : List (Typed TypeTree)} → Statement nowhere s s 0 t t' → AreKin s ts ts' → AreKin s (t ∷ ts) (t' ∷ ts')
