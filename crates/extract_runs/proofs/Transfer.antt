-- What is sound for some links is so for others that allow no less.
use Rattle.std.proofs.Common.{ℕ, ap}
use Rattle.std.specs.Prelude.{Bool}
use Rattle.std.specs.Option.{option_map}
use Rattle.go_types.specs.Trees.{TypeTree}
use Rattle.go_types.specs.Relations.{Rights}
use Rattle.go_typed.specs.Trees.{Typed, Typeds}
use Rattle.go_meaning_simulation.specs.Links.{Links, Ways, loop_ways, clause_ways}
use Rattle.extract_runs.specs.Sound.{SoundExpression, SoundExpressions, SoundNames, SoundPart, SoundValues, SoundSimple, SoundFirst, SoundStatement, SoundOther, SoundChain, SoundClause, SoundClauses, SoundRanged}
use Rattle.extract_runs.specs.Sound as sound

-- m carries the scopes of l to those of h
pub record Carries (l h : Links) (local : ℕ → ℕ) (m : l.Scope → h.Scope) : Type 0 where
  pub reads : (s : l.Scope) (i : ℕ) → l.reads s i (local i) → h.reads (m s) i (local i)
  pub writes : (s : l.Scope) (i : ℕ) → l.writes s i (local i) → h.writes (m s) i (local i)
  pub declares : (s s1 : l.Scope) (i : ℕ) → l.declares s i (local i) s1 → h.declares (m s) i (local i) (m s1)
  pub forgets : (s s1 : l.Scope) → l.forgets s s1 → h.forgets (m s) (m s1)
  pub returns : l.returns → h.returns

module _ (l h : Links) (rights : Rights) (local : ℕ → ℕ) (gone : ℕ → Bool) (m : l.Scope → h.Scope) (y : Carries l h local m) where
  abbrev ways : Ways l.Scope → Ways h.Scope
  ways W = record { breaks = option_map m W.breaks; continues = option_map m W.continues; falls = option_map m W.falls }

  mutual
    expression : (s : l.Scope) {b : Bool} {t : Typed TypeTree} → SoundExpression l rights local gone s b t → SoundExpression h rights local gone (m s) b t
    expression s (sound.gives d) = sound.gives d
    expression s (sound.reads {n = i} d a) = sound.reads d (y.reads s i a)
    expression s (sound.changes {n = i} d a w) = sound.changes d (y.reads s i a) (y.writes s i w)
    expression s (sound.plain p d is) = sound.plain p d is
    expression s (sound.inner p d is es) = sound.inner p d is (expressions s es)

    expressions : (s : l.Scope) {k : ℕ → Bool} {ts : Typeds TypeTree} → SoundExpressions l rights local gone s k ts → SoundExpressions h rights local gone (m s) k ts
    expressions s sound.none = sound.none
    expressions s (sound.more e es) = sound.more (expression s e) (expressions s es)
    expressions s (sound.skip es) = sound.skip (expressions s es)

  names : (q s s' : l.Scope) {n : ℕ} {ts : Typeds TypeTree} → SoundNames l rights local gone q s s' n ts → SoundNames h rights local gone (m q) (m s) (m s') n ts
  names q s s' (sound.values es) = sound.values (expressions q es)
  names q s s' (sound.declared {s1 = s1} {i = i} d a ns) = sound.declared d (y.declares s s1 i a) (names q s1 s' ns)
  names q s s' (sound.other e e1 ns) = sound.other (expression q e) (expression s e1) (names q s s' ns)

  part : (s : l.Scope) {ts rs : Typeds TypeTree} → SoundPart l rights local gone s ts rs → SoundPart h rights local gone (m s) ts rs
  part s (sound.there e) = sound.there (expression s e)
  part s sound.absent = sound.absent

  values : (s : l.Scope) {n : ℕ} {ts rs : Typeds TypeTree} → SoundValues l rights local gone s n ts rs → SoundValues h rights local gone (m s) n ts rs
  values s sound.rest = sound.rest
  values s (sound.value e es) = sound.value (expression s e) (values s es)

  simple : (s s' : l.Scope) {t : Typed TypeTree} → SoundSimple l rights local gone s s' t → SoundSimple h rights local gone (m s) (m s') t
  simple s s' (sound.does f e) = sound.does (y.forgets s s' f) (expression s e)
  simple s s' (sound.defines d ns) = sound.defines d (names s s s' ns)

  first : (s s' : l.Scope) {ts rs : Typeds TypeTree} → SoundFirst l rights local gone s s' ts rs → SoundFirst h rights local gone (m s) (m s') ts rs
  first s s' (sound.first e) = sound.first (simple s s' e)
  first s s' sound.no_first = sound.no_first

  mutual
    pub statement : (W : Ways l.Scope) (s s' : l.Scope) {t : Typed TypeTree} → SoundStatement l rights local gone W s s' t → SoundStatement h rights local gone (ways W) (m s) (m s') t
    statement W s s' (sound.simple e) = sound.simple (simple s s' e)
    statement W s s' (sound.zeros d ns) = sound.zeros d (names s s s' ns)
    statement W s s' (sound.returns may d es) = sound.returns (y.returns may) d (expressions s es)
    statement W s s' (sound.breaks {s1 = s1} w f d) = sound.breaks (ap (option_map m) w) (y.forgets s s1 f) d
    statement W s s' (sound.continues {s1 = s1} w f d) = sound.continues (ap (option_map m) w) (y.forgets s s1 f) d
    statement W s s' (sound.falls {s1 = s1} w f d) = sound.falls (ap (option_map m) w) (y.forgets s s1 f) d
    statement W s s' (sound.sequence {s1 = s1} d c f) = sound.sequence d (chain W s s1 c) (y.forgets s1 s' f)
    statement W s s' (sound.branch {s1 = s1} d fi c b o) = sound.branch d (first s s1 fi) (expression s1 c) (statement W s1 s' b) (other W s1 s' o)
    statement W s s' (sound.selects {s1 = s1} d fi p cs f) = sound.selects d (first s s1 fi) (part s1 p) (clauses (clause_ways W s' s1) s1 s' cs) (y.forgets s1 s' f)
    statement W s s' (sound.iterates {s1 = s1} d r f f1) = sound.iterates d (ranged W s s s1 r) (y.forgets s1 s f) (y.forgets s s' f1)
    statement W s s' (sound.loops {s1 = s1} is fi p po b f) = sound.loops is (first s s1 fi) (part s1 p) (first s1 s1 po) (statement (loop_ways W s1) s1 s1 b) (y.forgets s1 s' f)

    other : (W : Ways l.Scope) (s s' : l.Scope) {ts : Typeds TypeTree} → SoundOther l rights local gone W s s' ts → SoundOther h rights local gone (ways W) (m s) (m s') ts
    other W s s' (sound.other t) = sound.other (statement W s s' t)
    other W s s' (sound.no_other f) = sound.no_other (y.forgets s s' f)
    other W s s' (sound.nothing_behind f) = sound.nothing_behind (y.forgets s s' f)

    pub chain : (W : Ways l.Scope) (s s' : l.Scope) {ts : Typeds TypeTree} → SoundChain l rights local gone W s s' ts → SoundChain h rights local gone (ways W) (m s) (m s') ts
    chain W s s' sound.ends = sound.ends
    chain W s s' (sound.next {s1 = s1} t ts) = sound.next (λ out. statement W s s1 (t out)) (chain W s1 s' ts)
    chain W s s' (sound.left_out ts) = sound.left_out (chain W s s' ts)

    clause : (W : Ways l.Scope) (s s' : l.Scope) {t : Typed TypeTree} → SoundClause l rights local gone W s s' t → SoundClause h rights local gone (ways W) (m s) (m s') t
    clause W s s' (sound.clause {s1 = s1} d vs c f) = sound.clause d (values s vs) (chain W s s1 c) (y.forgets s1 s' f)
    clause W s s' (sound.default {s1 = s1} d c f) = sound.default d (chain W s s1 c) (y.forgets s1 s' f)

    clauses : (W : Ways l.Scope) (s s' : l.Scope) {ts : Typeds TypeTree} → SoundClauses l rights local gone W s s' ts → SoundClauses h rights local gone (ways W) (m s) (m s') ts
    clauses W s s' sound.no_clauses = sound.no_clauses
    clauses W s s' (sound.one_more c cs) = sound.one_more (clause W s s' c) (clauses W s s' cs)

    ranged : (W : Ways l.Scope) (q s s' : l.Scope) {n : ℕ} {ts : Typeds TypeTree} → SoundRanged l rights local gone W q s s' n ts → SoundRanged h rights local gone (ways W) (m q) (m s) (m s') n ts
    ranged W q s s' (sound.operand e t) = sound.operand (expression q e) (statement (loop_ways W s) s s t)
    ranged W q s s' (sound.ranged_name {s1 = s1} {i = i} d a r) = sound.ranged_name d (y.declares s s1 i a) (ranged W q s1 s' r)
    ranged W q s s' (sound.ranged_place e e1 r) = sound.ranged_place (expression q e) (expression s e1) (ranged W q s s' r)
