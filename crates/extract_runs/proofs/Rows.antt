-- Rows of trees and their images are kin, as the node above asks for them.
use Rattle.std.proofs.Common.{ℕ, suc, ◌≤◌, sym, subst, arith}
use Rattle.std.specs.Prelude.{Bool, true, false}
use Rattle.go_types.specs.Trees.{TypeTree}
use Rattle.go_typed.specs.Trees.{Typed, typed, Typeds}
use Rattle.go_typed.specs.Trees as trees
use Rattle.go_meaning_simulation.specs.Links.{Links, Ways, joined}
use Rattle.go_meaning_simulation.specs.Kin.{Expression, Expressions, Names, Part, Values, Statement, First, Other, Chain, Clauses, Ranged}
use Rattle.go_meaning_simulation.specs.Kin as kin
use Rattle.extract_runs.specs.Images.{Renewal}
use Rattle.extract_runs.specs.Sound.{SoundExpressions, SoundNames, SoundPart, SoundValues, SoundFirst, SoundOther, SoundChain, SoundClauses, SoundRanged}
use Rattle.extract_runs.specs.Sound as sound
use Rattle.extract_runs.proofs.Follows.{Agrees, Row, ListRow, none, more, skip, ends, value, next, left_out, window}

module _ (l : Links) (r : Renewal) (k : ℕ) (g : Agrees l r k) where
  wider : {n m : ℕ} {ps ps' : Typeds TypeTree} → n ≤ m → Row l r k n ps ps' → Row l r k m ps ps'
  wider le none = none
  wider le (more a b ab f rest) = more a b (omega (arith, le, ab)) f rest
  wider le (skip rest) = skip (wider le rest)

  pub expressions : {n : ℕ} {ps ps' : Typeds TypeTree} (s : l.Scope) (m : ℕ → Bool) → Row l r k n ps ps' → SoundExpressions l r.old r.local r.gone s m ps → Expressions l r.old r.new s m ps ps'
  expressions s m none sound.none = kin.none
  expressions s m (more a b ab f rest) (sound.more e es) = kin.more (f.expression s (m 0) e) (expressions s (λ i. m (suc i)) rest es)
  expressions s m (skip rest) (sound.skip es) = kin.skip (expressions s (λ i. m (suc i)) rest es)

  pub names : (q : l.Scope) {n j : ℕ} {ps ps' : Typeds TypeTree} (s s' : l.Scope) → Row l r k n ps ps' → SoundNames l r.old r.local r.gone q s s' j ps → Names l r.old r.new q s s' j ps ps'
  names q s s' rest (sound.values es) = kin.values (expressions q (λ i. false) rest es)
  names q s s' (more {t' = typed f' a' b' e' ps'} a b ab f rest) (sound.declared {s1 = s1} {i = i} p d ns) = kin.declared p (f.declares i p) d (names q s1 s' rest ns)
  names q s s' (more a b ab f rest) (sound.other e e1 ns) = kin.other (f.expression q true e) (f.expression s true e1) (names q s s' rest ns)

  pub part : {n : ℕ} {ps ps' rs : Typeds TypeTree} (s : l.Scope) → Row l r k n ps ps' → SoundPart l r.old r.local r.gone s ps rs → (rs' : Typeds TypeTree) × Part l r.old r.new s ps ps' rs rs' × Row l r k n rs rs'
  part s none x = elim x [ ]
  part s (more {ts' = ts'} a b ab f rest) (sound.there e) = (ts', kin.there (f.expression s false e), wider (omega (arith, ab)) rest)
  part s (skip {ts' = ts'} rest) sound.absent = (ts', kin.absent, rest)

  pub first : {n : ℕ} {ps ps' rs : Typeds TypeTree} (W : Ways l.Scope) (s s' : l.Scope) → Row l r k n ps ps' → SoundFirst l r.old r.local r.gone s s' ps rs → (rs' : Typeds TypeTree) × First l r.old r.new W s s' ps ps' rs rs' × Row l r k n rs rs'
  first W s s' none x = elim x [ ]
  first W s s' (more {ts' = ts'} a b ab f rest) (sound.first e) = (ts', kin.first (f.simple W s s' 0 e), wider (omega (arith, ab)) rest)
  first W s s' (skip {ts' = ts'} rest) sound.no_first = (ts', kin.no_first, rest)

  pub other : {n : ℕ} {ps ps' : Typeds TypeTree} (W : Ways l.Scope) (s s' : l.Scope) (m : ℕ) → n ≤ k → n ≤ m → Row l r k n ps ps' → SoundOther l r.old r.local r.gone W s s' ps → Other l r.old r.new W s s' m ps ps'
  other W s s' m nk nm (more a b ab f rest) (sound.other t) = kin.other (f.statement (omega (arith, ab, nk)) W s s' m (omega (arith, ab, nm)) t)
  other W s s' m nk nm (skip rest) (sound.no_other f) = kin.no_other f
  other W s s' m nk nm none (sound.nothing_behind f) = kin.nothing_behind f

  pub clauses : {n : ℕ} {ps ps' : Typeds TypeTree} (W : Ways l.Scope) (s s' : l.Scope) (m : ℕ) → n ≤ k → n ≤ m → Row l r k n ps ps' → SoundClauses l r.old r.local r.gone W s s' ps → Clauses l r.old r.new W s s' m ps ps'
  clauses W s s' m nk nm none sound.no_clauses = kin.no_clauses
  clauses W s s' m nk nm (skip rest) x = elim x [ ]
  clauses W s s' m nk nm (more {ts = ts} {ts' = ts'} a b ab f rest) (sound.one_more c cs) = f.clause (omega (arith, ab, nk)) W s s' b m (omega (arith, ab, nm)) c ts ts' (clauses W s s' b (omega (arith, ab, nk)) (omega arith) rest cs)

  pub ranged : {n j : ℕ} {ps ps' : Typeds TypeTree} (W : Ways l.Scope) (q s s' : l.Scope) (m : ℕ) → n ≤ k → n ≤ m → Row l r k n ps ps' → SoundRanged l r.old r.local r.gone W q s s' j ps → Ranged l r.old r.new W q s s' m j ps ps'
  ranged W q s s' m nk nm none x = elim x [ ]
  ranged W q s s' m nk nm (skip rest) x = elim x [ ]
  ranged W q s s' m nk nm (more a b ab f (more a1 b1 ab1 f1 none)) (sound.operand e t) = kin.operand (f.expression q false e) (f1.statement (omega (arith, ab, ab1, nk)) _ _ _ m (omega (arith, ab, ab1, nm)) t)
  ranged W q s s' m nk nm (more {t' = typed f' a' b' e' ps'} a b ab f rest) (sound.ranged_name {s1 = s1} {i = i} p d ns) = kin.ranged_name p (f.declares i p) d (ranged W q s1 s' m (omega (arith, ab, nk)) (omega (arith, ab, nm)) rest ns)
  ranged W q s s' m nk nm (more a b ab f rest) (sound.ranged_place e e1 ns) = kin.ranged_place (f.expression q true e) (f.expression s true e1) (ranged W q s s' m (omega (arith, ab, nk)) (omega (arith, ab, nm)) rest ns)

  pub values : (s : l.Scope) {n j : ℕ} {ps ps' rs : Typeds TypeTree} → ListRow l r k n j ps ps' → SoundValues l r.old r.local r.gone s j ps rs → (rs' : Typeds TypeTree) × Values l r.old r.new s j ps ps' rs rs' × ListRow l r k n 0 rs rs'
  values s {ps' = ps'} rest sound.rest = (ps', kin.rest, rest)
  values s (value f rest) (sound.value e es) = let more = values s rest es in (more.0, kin.value (f.expression s false e) more.1, more.2)

  behind : {ts : Typeds TypeTree} (W : Ways l.Scope) (s s' : l.Scope) (ws : Typeds TypeTree) → SoundChain l r.old r.local r.gone W s s' (joined ws ts) → (s1 : l.Scope) × SoundChain l r.old r.local r.gone W s1 s' ts
  behind W s s' trees.none c = (s, c)
  behind W s s' (trees.more w ws) (sound.next {s1 = s1} t c) = behind W s1 s' ws c
  behind W s s' (trees.skip ws) (sound.left_out c) = behind W s s' ws c

  pub chain : {n : ℕ} {ps ps' : Typeds TypeTree} (W : Ways l.Scope) (s s' : l.Scope) (m : ℕ) → n ≤ k → n ≤ m → ListRow l r k n 0 ps ps' → SoundChain l r.old r.local r.gone W s s' ps → Chain l r.old r.new W s s' m ps ps'
  chain W s s' m nk nm ends sound.ends = kin.ends
  chain W s s' m nk nm (next a b ab there f rest) (sound.next {s1 = s1} t ts) = kin.next a b (omega (arith, ab, nm)) (f.statement (omega (arith, ab, nk)) W s s1 a (omega arith) (t there)) (chain W s1 s' b (omega (arith, ab, nk)) (omega arith) rest ts)
  chain W s s' m nk nm (left_out rest) (sound.left_out ts) = kin.left_out (chain W s s' m nk nm rest ts)
  chain {ps' = ps'} W s s' m nk nm (window {b = b} {ws = ws} {ws' = ws'} {ts = ts} {ts' = ts'} bn e e' w rest) c =
      let left = behind W s s' ws (subst (SoundChain l r.old r.local r.gone W s s') e c)
      in subst (λ q. Chain l r.old r.new W s s' m q ps') (sym e) (subst (Chain l r.old r.new W s s' m (joined ws ts)) (sym e')
      (kin.window b (omega (arith, g.cost, bn, nm)) (g.windows s left.0 ws ws' w) (chain W left.0 s' b (omega (arith, bn, nk)) (omega arith) rest left.1)))
