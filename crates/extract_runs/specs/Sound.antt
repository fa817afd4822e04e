-- What an old tree has to be for its images to be kin to it: its nodes have the parts that their plans ask for, and its locals
-- are linked where they are named. It speaks of the old tree alone, and of no statement of a window.
use Rattle.std.specs.Prelude.{◌≡◌, ℕ, suc, Bool, true, false, Some}
use Rattle.go_types.specs.Trees.{TypeTree}
use Rattle.go_types.specs.Relations.{Rights}
use Rattle.go_types_relations.specs.Zeros.{Zero}
use Rattle.go_typed.specs.declared.form.Form.{Form}
use Rattle.go_typed.specs.declared.form.Form.TheVariants as form
use Rattle.go_typed.specs.Trees.{Label, Typed, typed, Typeds, first_of}
use Rattle.go_typed.specs.Trees as trees
use Rattle.go_meaning.specs.Values.{Value}
use Rattle.go_meaning.specs.Operations.{Items}
use Rattle.go_meaning.specs.Plans.{Plan, Give, Local, Variable, Declare, Ignore, AssignTo, ZeroTo, Skip, Returns, Breaks, Continues, Falls, Sequence, Branch, Select, CaseOf, Otherwise, Iterate, Once}
use Rattle.go_meaning.specs.Planning.{plan}
use Rattle.go_meaning_simulation.specs.Links.{Links, Ways, loop_ways, clause_ways}
use Rattle.go_meaning_simulation.specs.Kin.{is_inner, modes}

-- plans that ask for no part and name no local
abbrev pub is_plain : Plan → Bool
is_plain (Variable n) = true
is_plain Ignore = true
is_plain Skip = true
is_plain p = false

module _ (l : Links) (rights : Rights) (local : ℕ → ℕ) (gone : ℕ → Bool) where
  mutual
    -- asked for as a place, where no constant stands, or for its value
    pub data SoundExpression (s : l.Scope) : Bool → Typed TypeTree → Type 0 where
      gives : {v : Value} {f : Form} {i j : ℕ} {e : Label TypeTree} {ps : Typeds TypeTree} → plan rights f e ps ≡ Once (Give v) → SoundExpression s false (typed f i j e ps)
      reads : {n : ℕ} {f : Form} {i j : ℕ} {e : Label TypeTree} {ps : Typeds TypeTree} → plan rights f e ps ≡ Once (Local n) → l.reads s n (local n) →
          SoundExpression s false (typed f i j e ps)
      changes : {n : ℕ} {f : Form} {i j : ℕ} {e : Label TypeTree} {ps : Typeds TypeTree} → plan rights f e ps ≡ Once (Local n) → l.reads s n (local n) → l.writes s n (local n) →
          SoundExpression s true (typed f i j e ps)
      plain : {b : Bool} {f : Form} {i j : ℕ} {e : Label TypeTree} {ps : Typeds TypeTree} (p : Plan) → plan rights f e ps ≡ Once p → is_plain p ≡ true →
          SoundExpression s b (typed f i j e ps)
      inner : {b : Bool} {f : Form} {i j : ℕ} {e : Label TypeTree} {ps : Typeds TypeTree} (p : Plan) → plan rights f e ps ≡ Once p → is_inner p ≡ true → SoundExpressions s (modes p b) ps →
          SoundExpression s b (typed f i j e ps)

    pub data SoundExpressions (s : l.Scope) : (ℕ → Bool) → Typeds TypeTree → Type 0 where
      none : {m : ℕ → Bool} → SoundExpressions s m trees.none
      more : {m : ℕ → Bool} {t : Typed TypeTree} {ts : Typeds TypeTree} → SoundExpression s (m 0) t → SoundExpressions s (λ k. m (suc k)) ts → SoundExpressions s m (trees.more t ts)
      skip : {m : ℕ → Bool} {ts : Typeds TypeTree} → SoundExpressions s (λ k. m (suc k)) ts → SoundExpressions s m (trees.skip ts)

  pub data SoundNames (r : l.Scope) : (s s' : l.Scope) → ℕ → Typeds TypeTree → Type 0 where
    values : {s : l.Scope} {ts : Typeds TypeTree} → SoundExpressions r (λ k. false) ts → SoundNames r s s 0 ts
    declared : {s s1 s' : l.Scope} {n i a b : ℕ} {f : Form} {e : Label TypeTree} {ps ts : Typeds TypeTree} → plan rights f e ps ≡ Once (Declare i) → l.declares s i (local i) s1 →
        SoundNames r s1 s' n ts → SoundNames r s s' (suc n) (trees.more (typed f a b e ps) ts)
    other : {s s' : l.Scope} {n : ℕ} {t : Typed TypeTree} {ts : Typeds TypeTree} → SoundExpression r true t → SoundExpression s true t → SoundNames r s s' n ts →
        SoundNames r s s' (suc n) (trees.more t ts)

  pub data SoundPart (s : l.Scope) : Typeds TypeTree → Typeds TypeTree → Type 0 where
    there : {t : Typed TypeTree} {ts : Typeds TypeTree} → SoundExpression s false t → SoundPart s (trees.more t ts) ts
    absent : {ts : Typeds TypeTree} → SoundPart s (trees.skip ts) ts

  pub data SoundValues (s : l.Scope) : ℕ → Typeds TypeTree → Typeds TypeTree → Type 0 where
    rest : {ts : Typeds TypeTree} → SoundValues s 0 ts ts
    value : {n : ℕ} {t : Typed TypeTree} {ts rs : Typeds TypeTree} → SoundExpression s false t → SoundValues s n ts rs → SoundValues s (suc n) (trees.more t ts) rs

  -- a statement that holds no others
  pub data SoundSimple (s s' : l.Scope) : Typed TypeTree → Type 0 where
    does : {t : Typed TypeTree} → l.forgets s s' → SoundExpression s false t → SoundSimple s s' t
    defines : {n : ℕ} {f : Form} {i j : ℕ} {e : Label TypeTree} {ps : Typeds TypeTree} → plan rights f e ps ≡ Once (AssignTo n) → SoundNames s s s' n ps → SoundSimple s s' (typed f i j e ps)

  -- the first statement of a statement, if it is there
  pub data SoundFirst : (s s' : l.Scope) → Typeds TypeTree → Typeds TypeTree → Type 0 where
    first : {s s' : l.Scope} {t : Typed TypeTree} {ts : Typeds TypeTree} → SoundSimple s s' t → SoundFirst s s' (trees.more t ts) ts
    no_first : {s : l.Scope} {ts : Typeds TypeTree} → SoundFirst s s (trees.skip ts) ts

  mutual
    pub data SoundStatement : Ways l.Scope → (s s' : l.Scope) → Typed TypeTree → Type 0 where
      simple : {W : Ways l.Scope} {s s' : l.Scope} {t : Typed TypeTree} → SoundSimple s s' t → SoundStatement W s s' t
      zeros : {W : Ways l.Scope} {s s' : l.Scope} {n : ℕ} {z : Zero} {f : Form} {i j : ℕ} {e : Label TypeTree} {ps : Typeds TypeTree} → plan rights f e ps ≡ Once (ZeroTo n z) →
          SoundNames s s s' n ps → SoundStatement W s s' (typed f i j e ps)
      returns : {W : Ways l.Scope} {s s' : l.Scope} {f : Form} {i j : ℕ} {e : Label TypeTree} {ps : Typeds TypeTree} → l.returns → plan rights f e ps ≡ Once Returns →
          SoundExpressions s (λ k. false) ps → SoundStatement W s s' (typed f i j e ps)
      breaks : {W : Ways l.Scope} {s s' s1 : l.Scope} {f : Form} {i j : ℕ} {e : Label TypeTree} {ps : Typeds TypeTree} → W.breaks ≡ Some s1 → l.forgets s s1 →
          plan rights f e ps ≡ Once Breaks → SoundStatement W s s' (typed f i j e ps)
      continues : {W : Ways l.Scope} {s s' s1 : l.Scope} {f : Form} {i j : ℕ} {e : Label TypeTree} {ps : Typeds TypeTree} → W.continues ≡ Some s1 → l.forgets s s1 →
          plan rights f e ps ≡ Once Continues → SoundStatement W s s' (typed f i j e ps)
      falls : {W : Ways l.Scope} {s s' s1 : l.Scope} {f : Form} {i j : ℕ} {e : Label TypeTree} {ps : Typeds TypeTree} → W.falls ≡ Some s1 → l.forgets s s1 →
          plan rights f e ps ≡ Once Falls → SoundStatement W s s' (typed f i j e ps)
      sequence : {W : Ways l.Scope} {s s1 s' : l.Scope} {f : Form} {i j : ℕ} {e : Label TypeTree} {ps : Typeds TypeTree} → plan rights f e ps ≡ Once Sequence → SoundChain W s s1 ps →
          l.forgets s1 s' → SoundStatement W s s' (typed f i j e ps)
      branch : {W : Ways l.Scope} {s s1 s' : l.Scope} {f : Form} {i j : ℕ} {e : Label TypeTree} {ps rs : Typeds TypeTree} {c b : Typed TypeTree} → plan rights f e ps ≡ Once Branch →
          SoundFirst s s1 ps (trees.more c (trees.more b rs)) → SoundExpression s1 false c → SoundStatement W s1 s' b → SoundOther W s1 s' rs → SoundStatement W s s' (typed f i j e ps)
      selects : {W : Ways l.Scope} {s s1 s' : l.Scope} {other : ℕ} {tag : Bool} {f : Form} {i j : ℕ} {e : Label TypeTree} {ps qs rs : Typeds TypeTree} →
          plan rights f e ps ≡ Once (Select tag (suc (suc other))) → SoundFirst s s1 ps qs → SoundPart s1 qs rs → SoundClauses (clause_ways W s' s1) s1 s' rs → l.forgets s1 s' →
          SoundStatement W s s' (typed f i j e ps)
      iterates : {W : Ways l.Scope} {s s1 s' : l.Scope} {n : ℕ} {items : Items} {f : Form} {i j : ℕ} {e : Label TypeTree} {ps : Typeds TypeTree} →
          plan rights f e ps ≡ Once (Iterate n items) → SoundRanged W s s s1 n ps → l.forgets s1 s → l.forgets s s' → SoundStatement W s s' (typed f i j e ps)
      loops : {W : Ways l.Scope} {s s1 s' : l.Scope} {f : Form} {i j : ℕ} {e : Label TypeTree} {ps qs rs : Typeds TypeTree} {b : Typed TypeTree} → f ≡ form.For → SoundFirst s s1 ps qs →
          SoundPart s1 qs rs → SoundFirst s1 s1 rs (trees.more b trees.none) → SoundStatement (loop_ways W s1) s1 s1 b → l.forgets s1 s' → SoundStatement W s s' (typed f i j e ps)

    pub data SoundOther : Ways l.Scope → (s s' : l.Scope) → Typeds TypeTree → Type 0 where
      other : {W : Ways l.Scope} {s s' : l.Scope} {t : Typed TypeTree} {ts : Typeds TypeTree} → SoundStatement W s s' t → SoundOther W s s' (trees.more t ts)
      no_other : {W : Ways l.Scope} {s s' : l.Scope} {ts : Typeds TypeTree} → l.forgets s s' → SoundOther W s s' (trees.skip ts)
      nothing_behind : {W : Ways l.Scope} {s s' : l.Scope} → l.forgets s s' → SoundOther W s s' trees.none

    -- statements in order, of which those in windows may be anything
    pub data SoundChain : Ways l.Scope → (s s' : l.Scope) → Typeds TypeTree → Type 0 where
      ends : {W : Ways l.Scope} {s : l.Scope} → SoundChain W s s trees.none
      next : {W : Ways l.Scope} {s s1 s' : l.Scope} {t : Typed TypeTree} {ts : Typeds TypeTree} → (gone (first_of t) ≡ false → SoundStatement W s s1 t) → SoundChain W s1 s' ts →
          SoundChain W s s' (trees.more t ts)
      left_out : {W : Ways l.Scope} {s s' : l.Scope} {ts : Typeds TypeTree} → SoundChain W s s' ts → SoundChain W s s' (trees.skip ts)

    pub data SoundClause : Ways l.Scope → (s s' : l.Scope) → Typed TypeTree → Type 0 where
      clause : {W : Ways l.Scope} {s s1 s' : l.Scope} {n : ℕ} {f : Form} {i j : ℕ} {e : Label TypeTree} {ps qs : Typeds TypeTree} → plan rights f e ps ≡ Once (CaseOf n) →
          SoundValues s n ps qs → SoundChain W s s1 qs → l.forgets s1 s' → SoundClause W s s' (typed f i j e ps)
      default : {W : Ways l.Scope} {s s1 s' : l.Scope} {f : Form} {i j : ℕ} {e : Label TypeTree} {ps : Typeds TypeTree} → plan rights f e ps ≡ Once Otherwise → SoundChain W s s1 ps →
          l.forgets s1 s' → SoundClause W s s' (typed f i j e ps)

    pub data SoundClauses : Ways l.Scope → (s s' : l.Scope) → Typeds TypeTree → Type 0 where
      no_clauses : {W : Ways l.Scope} {s s' : l.Scope} → SoundClauses W s s' trees.none
      one_more : {W : Ways l.Scope} {s s' : l.Scope} {t : Typed TypeTree} {ts : Typeds TypeTree} → SoundClause W s s' t → SoundClauses W s s' ts → SoundClauses W s s' (trees.more t ts)

    pub data SoundRanged : Ways l.Scope → (r s s' : l.Scope) → ℕ → Typeds TypeTree → Type 0 where
      operand : {W : Ways l.Scope} {r s : l.Scope} {x b : Typed TypeTree} → SoundExpression r false x → SoundStatement (loop_ways W s) s s b →
          SoundRanged W r s s 0 (trees.more x (trees.more b trees.none))
      ranged_name : {W : Ways l.Scope} {r s s1 s' : l.Scope} {n i a b : ℕ} {f : Form} {e : Label TypeTree} {ps ts : Typeds TypeTree} → plan rights f e ps ≡ Once (Declare i) →
          l.declares s i (local i) s1 → SoundRanged W r s1 s' n ts → SoundRanged W r s s' (suc n) (trees.more (typed f a b e ps) ts)
      ranged_place : {W : Ways l.Scope} {r s s' : l.Scope} {n : ℕ} {t : Typed TypeTree} {ts : Typeds TypeTree} → SoundExpression r true t → SoundExpression s true t →
          SoundRanged W r s s' n ts → SoundRanged W r s s' (suc n) (trees.more t ts)
