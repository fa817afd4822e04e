-- Statements of the shape that evaluation asks for are lexically scoped where the locals that are named in them are in scope.
use Rattle.std.proofs.Common.{◌≡◌, ◌∙◌, inl, inr, ℕ, zero, suc, Bool, true, false, List, ◌∷◌, refl, sym, ap, subst}
use Rattle.std.specs.Prelude.{if◌then◌else◌}
use Rattle.go_types.specs.Trees.{TypeTree}
use Rattle.go_types.specs.Relations.{Rights}
use Rattle.go_typed.specs.declared.form.Form.{Form}
use Rattle.go_typed.specs.declared.form.Form.TheVariants as form
use Rattle.go_typed.specs.Forms.{is_default}
use Rattle.go_typed.specs.Trees.{Nothing, Label, Typed, typed, Typeds, form_of}
use Rattle.go_typed.specs.Trees as trees
use Rattle.go_meaning.specs.Plans.{Plan, AssignTo, ZeroTo, Declare, Select, Once}
use Rattle.go_meaning.specs.Planning.{sort_type, type_there, zero_in, is_there, part_at, default_at, form_plan, sort_plan}
use Rattle.go_meaning_simulation.specs.Links.{Ways, nowhere, loop_ways, clause_ways}
use Rattle.go_meaning_simulation.specs.Locals.{In}
use Rattle.extract_runs.specs.Lexical.{Locals, lexical_links}
use Rattle.extract_runs.specs.Sound.{SoundNames, SoundPart, SoundValues, SoundSimple, SoundFirst, SoundStatement, SoundOther, SoundChain, SoundClause, SoundClauses, SoundRanged}
use Rattle.extract_runs.specs.Sound as sound
use Rattle.go_stmts_scopes.specs.Locals.{put, behind_names, behind, behind_all, NamesHave, PostHas, FirstHas, StatementHas, ListHas, ChoiceHas, ElseHas, TagHas, ClausesHave, ClauseHas, CaseHas, ConditionHas, NextHas}
use Rattle.go_stmts_scopes.specs.Locals.{RangeHas, FunctionHas}
use Rattle.go_stmts_scopes.specs.Runs.{IsExpression, EachPlaced}
use Rattle.go_stmts_scopes.specs.Scoped.{Reads}
use Rattle.go_stmts_scopes.specs.Shapes.{AreNames, IsPost, IsFirst, is_tail, IsStatement, AreStatements, IsChoice, IsElse, HasTag, AreClauses, IsClause, IsCase, HasCondition, HasPost, IsRange, IsFunction}
use Rattle.go_stmts_scopes.specs.Statements.{AreScoped}
use Rattle.go_stmts_scopes.proofs.Expressions.{open_plan, value_scoped, values_scoped, place_scoped}
use Rattle.go_stmts_scopes.proofs.Statements.{course, runs_inner, places, placed, all_scoped}

-- ---- scopes

-- all of these are among those
abbrev pub IsWithin : List ℕ → List ℕ → Type 0
IsWithin s1 s = (k : ℕ) → In k s1 → In k s

pub put_more : (f : Form) (s : List ℕ) → IsWithin s (put f s)
put_more (form.New i) s k h = inr h
put_more (form.Declared i) s k h = inr h
put_more f s k h = h

pub names_more : (n : ℕ) (s : List ℕ) (ps : Typeds TypeTree) → IsWithin s (behind_names n s ps)
names_more zero s ps k h = h
names_more (suc n) s trees.none k h = h
names_more (suc n) s (trees.more p ps) k h = names_more n (put (form_of p) s) ps k (put_more (form_of p) s k h)
names_more (suc n) s (trees.skip ps) k h = names_more n s ps k h

mutual
  pub behind_more : (s : List ℕ) (x : Typed TypeTree) → IsWithin s (behind s x)
  behind_more s (typed (form.Define n) i j l ps) k h = names_more n s ps k h
  behind_more s (typed (form.Specified n) i j l ps) k h = names_more n s ps k h
  behind_more s (typed form.Variables i j l ps) k h = all_more s ps k h
  behind_more s (typed f i j l ps) k h = h

  pub all_more : (s : List ℕ) (ps : Typeds TypeTree) → IsWithin s (behind_all s ps)
  all_more s trees.none k h = h
  all_more s (trees.more p ps) k h = all_more (behind s p) ps k (behind_more s p k h)
  all_more s (trees.skip ps) k h = all_more s ps k h

-- a block and an `if` may be followed by fewer locals
abbrev LeavesBy : Bool → (s s' : List ℕ) → Typed TypeTree → Type 0
LeavesBy true s s' x = IsWithin s' s
LeavesBy false s s' x = s' ≡ behind s x

abbrev Leaves : (s s' : List ℕ) → Typed TypeTree → Type 0
Leaves s s' x = LeavesBy (is_tail (form_of x)) s s' x

leaves_here : (s : List ℕ) (x : Typed TypeTree) → Leaves s (behind s x) x
leaves_here s (typed form.Block i j l ps) = λ k h. h
leaves_here s (typed form.If i j l ps) = λ k h. h
leaves_here s (typed f i j l ps) = refl

leaves_tail : (s s' : List ℕ) (x : Typed TypeTree) → is_tail (form_of x) ≡ true → IsWithin s' s → Leaves s s' x
leaves_tail s s' x e h = subst (λ b. LeavesBy b s s' x) (sym e) h

-- ---- clauses of a switch

plain_first : (x : Typed TypeTree) → IsFirst x → is_default (form_of x) ≡ false
plain_first (typed form.Default i j l ps) h = cc
plain_first (typed f i j l ps) h = refl

plain_tag : (x : Typed TypeTree) → IsExpression x → is_default (form_of x) ≡ false
plain_tag (typed form.Default i j l ps) (inl e) = cc
plain_tag (typed form.Default i j l ps) (inr e) = let z : false ≡ true = e.0 in cc
plain_tag (typed f i j l ps) h = refl

default_next : (b : Bool) (n : ℕ) → b ≡ false → (if b then 0 else suc n) ≡ suc n
default_next true n e = cc
default_next false n e = refl

-- ---- statements

module _ (n : Locals) (rights : Rights) (local : ℕ → ℕ) (gone : ℕ → Bool) where
  abbrev Stated : Ways (List ℕ) → (s s' : List ℕ) → Typed TypeTree → Type 0
  Stated = SoundStatement (lexical_links n) rights local gone

  abbrev Chained : Ways (List ℕ) → (s s' : List ℕ) → Typeds TypeTree → Type 0
  Chained = SoundChain (lexical_links n) rights local gone

  bare : (p : Plan) (l : Label TypeTree) → l.sort ≡ Nothing → Once (sort_plan l.sort p) ≡ Once p
  bare p l d = ap (λ x. Once (sort_plan x p)) d

  -- names that are declared
  other_name : (r s s' : List ℕ) (k : ℕ) (x : Typed TypeTree) (ps : Typeds TypeTree) → IsExpression x → EachPlaced rights (Reads n r) n.written x × EachPlaced rights (Reads n s) n.written x
      → SoundNames (lexical_links n) rights local gone r s s' k ps
      → SoundNames (lexical_links n) rights local gone r s s' (suc k) (trees.more x ps)
  other_name r s s' k x ps e h rest = sound.other (place_scoped n rights local gone r x e h.0) (place_scoped n rights local gone s x e h.1) rest

  names : (k : ℕ) (r s : List ℕ) (ps : Typeds TypeTree) → AreNames k ps → NamesHave n rights k r s ps → SoundNames (lexical_links n) rights local gone r s (behind_names k s ps) k ps
  names zero r s ps e h = sound.values (values_scoped n rights local gone r (λ k. false) (λ k. refl) ps e h)
  names (suc k) r s trees.none e h = absurd e
  names (suc k) r s (trees.more (typed (form.New i) a b l qs) ps) e h = sound.declared {s1 = i ∷ s} (ap Once (open_plan l.sort (Declare i) e.0)) (h.0, refl) (names k r (i ∷ s) ps e.1 h.1)
  names (suc k) r s (trees.more (typed (form.Declared i) a b l qs) ps) e h = sound.declared {s1 = i ∷ s} (ap Once (open_plan l.sort (Declare i) e.0)) (h.0, refl) (names k r (i ∷ s) ps e.1 h.1)
  names (suc k) r s (trees.more (typed f a b l qs) ps) e h = other_name r s (behind_names k s ps) k (typed f a b l qs) ps e.0 h.0 (names k r s ps e.1 h.1)
  names (suc k) r s (trees.skip ps) e h = absurd e

  other_range : (W : Ways (List ℕ)) (r s s' : List ℕ) (k : ℕ) (x : Typed TypeTree) (ps : Typeds TypeTree) → IsExpression x → EachPlaced rights (Reads n r) n.written x × EachPlaced rights (Reads n s) n.written x
      → SoundRanged (lexical_links n) rights local gone W r s s' k ps → SoundRanged (lexical_links n) rights local gone W r s s' (suc k) (trees.more x ps)
  other_range W r s s' k x ps e h rest = sound.ranged_place (place_scoped n rights local gone r x e h.0) (place_scoped n rights local gone s x e h.1) rest

  -- a statement in a header
  post : (s : List ℕ) (x : Typed TypeTree) → IsPost x → PostHas n rights s x → SoundSimple (lexical_links n) rights local gone s s x
  post s (typed f i j l ps) e h =
      let p : Plan = form_plan rights f (sort_type l.sort) ps in
      sound.does (λ k g. g) (sound.inner p (course rights f l ps e.1 e.0) (runs_inner rights f (sort_type l.sort) ps e.1) (placed n rights local gone nowhere s _ ps e.2 h _ (places rights f (sort_type l.sort) ps e.1)))

  first : (s : List ℕ) (x : Typed TypeTree) → IsFirst x → FirstHas n rights s x → SoundSimple (lexical_links n) rights local gone s (behind s x) x
  first s (typed (form.Define k) i j l ps) e h = sound.defines (bare (AssignTo k) l e.0) (names k s s ps e.1 h)
  first s (typed form.Variables i j l ps) e h = absurd (let z : false ≡ true = e.1 in cc)
  first s (typed (form.Specified k) i j l ps) e h = absurd (let z : false ≡ true = e.1 in cc)
  first s (typed f i j l ps) e h = post s (typed f i j l ps) e h

  specified : (W : Ways (List ℕ)) (s : List ℕ) (k i j : ℕ) (l : Label TypeTree) (ps : Typeds TypeTree) → l.sort ≡ Nothing → SoundNames (lexical_links n) rights local gone s s (behind_names k s ps) k ps
      → Stated W s (behind_names k s ps) (typed (form.Specified k) i j l ps)
  specified W s k i j l ps d g = by (is_there (part_at ps (suc k))) refl
    where
      by : (b : Bool) → is_there (part_at ps (suc k)) ≡ b → Stated W s (behind_names k s ps) (typed (form.Specified k) i j l ps)
      by true e = sound.simple (sound.defines (bare _ l d ∙ ap (λ b. Once (if b then AssignTo k else ZeroTo k (zero_in rights (type_there (part_at ps k))))) e) g)
      by false e = sound.zeros (bare _ l d ∙ ap (λ b. Once (if b then AssignTo k else ZeroTo k (zero_in rights (type_there (part_at ps k))))) e) g

  abbrev simple_case : (W : Ways (List ℕ)) (s : List ℕ) → AreScoped n rights local gone W s
  simple_case W s = all_scoped n rights local gone W s

  -- where the scope behind is that in front
  same : (W : Ways (List ℕ)) (s s' : List ℕ) (x : Typed TypeTree) → s' ≡ s → Stated W s s x → Stated W s s' x
  same W s s' x e h = subst (λ z. Stated W s z x) (sym e) h

  mutual
    statement : (W : Ways (List ℕ)) (s s' : List ℕ) (x : Typed TypeTree) → IsStatement x → StatementHas n rights gone W s x → Leaves s s' x → Stated W s s' x
    statement W s s' (typed form.Expression i j l ps) e h g = same W s s' (typed form.Expression i j l ps) g ((simple_case W s).simple form.Expression i j l ps refl e.0 e.1 h)
    statement W s s' (typed (form.Step o) i j l ps) e h g = same W s s' (typed (form.Step o) i j l ps) g ((simple_case W s).simple (form.Step o) i j l ps refl e.0 e.1 h)
    statement W s s' (typed (form.Assign k) i j l ps) e h g = same W s s' (typed (form.Assign k) i j l ps) g ((simple_case W s).simple (form.Assign k) i j l ps refl e.0 e.1 h)
    statement W s s' (typed (form.Operate o) i j l ps) e h g = same W s s' (typed (form.Operate o) i j l ps) g ((simple_case W s).simple (form.Operate o) i j l ps refl e.0 e.1 h)
    statement W s s' (typed form.Return i j l ps) e h g = same W s s' (typed form.Return i j l ps) g ((simple_case W s).return i j l ps e.0 h.0 e.1 h.1)
    statement W s s' (typed form.Constants i j l ps) e h g = same W s s' (typed form.Constants i j l ps) g ((simple_case W s).declaration form.Constants i j l ps refl e)
    statement W s s' (typed form.TypeNames i j l ps) e h g = same W s s' (typed form.TypeNames i j l ps) g ((simple_case W s).declaration form.TypeNames i j l ps refl e)
    statement W s s' (typed form.Break i j l ps) e h g = same W s s' (typed form.Break i j l ps) g ((simple_case W s).break i j l ps h.0 e h.1 h.2.known)
    statement W s s' (typed form.Continue i j l ps) e h g = same W s s' (typed form.Continue i j l ps) g ((simple_case W s).continue i j l ps h.0 e h.1 h.2.known)
    statement W s s' (typed form.Fallthrough i j l ps) e h g = same W s s' (typed form.Fallthrough i j l ps) g ((simple_case W s).fallthrough i j l ps h.0 e h.1 h.2.known)
    statement W s s' (typed (form.Define k) i j l ps) e h g =
        subst (λ z. Stated W s z (typed (form.Define k) i j l ps)) (sym g) (sound.simple (sound.defines (bare (AssignTo k) l e.0) (names k s s ps e.1 h)))
    statement W s s' (typed (form.Specified k) i j l ps) e h g = subst (λ z. Stated W s z (typed (form.Specified k) i j l ps)) (sym g) (specified W s k i j l ps e.0 (names k s s ps e.1 h))
    statement W s s' (typed form.Variables i j l ps) e h g =
        subst (λ z. Stated W s z (typed form.Variables i j l ps)) (sym g) (sound.sequence {s1 = behind_all s ps} (bare _ l e.0) (chain W s ps e.1 h) (λ k x. x))
    statement W s s' (typed form.Block i j l ps) e h g = sound.sequence {s1 = behind_all s ps} (bare _ l e.0) (chain W s ps e.1 h) (λ k x. all_more s ps k (g k x))
    statement W s s' (typed form.If i j l (trees.more x ps)) e h g =
        choice W s (behind s x) s' i j l (trees.more x ps) ps e.0 (sound.first (first s x e.1.0 h.0)) e.1.1 h.1 (λ k y. behind_more s x k (g k y))
    statement W s s' (typed form.If i j l (trees.skip ps)) e h g = choice W s s s' i j l (trees.skip ps) ps e.0 sound.no_first e.1 h g
    statement W s s' (typed form.If i j l trees.none) e h g = absurd e.1
    statement W s s' (typed form.Switch i j l (trees.more x ps)) e h g =
        subst (λ z. Stated W s z (typed form.Switch i j l (trees.more x ps))) (sym g)
        (tagged W s (behind s x) i j l (trees.more x ps) ps e.0 (default_next (is_default (form_of x)) (default_at ps) (plain_first x e.1.0)) (sound.first (first s x e.1.0 h.0)) (behind_more s x) e.1.1 h.1)
    statement W s s' (typed form.Switch i j l (trees.skip ps)) e h g =
        subst (λ z. Stated W s z (typed form.Switch i j l (trees.skip ps))) (sym g) (tagged W s s i j l (trees.skip ps) ps e.0 refl sound.no_first (λ k y. y) e.1 h)
    statement W s s' (typed form.Switch i j l trees.none) e h g = absurd e.1
    statement W s s' (typed form.For i j l (trees.more x ps)) e h g =
        subst (λ z. Stated W s z (typed form.For i j l (trees.more x ps))) (sym g) (looped W s (behind s x) i j l (trees.more x ps) ps (sound.first (first s x e.1.0 h.0)) (behind_more s x) e.1.1 h.1)
    statement W s s' (typed form.For i j l (trees.skip ps)) e h g = subst (λ z. Stated W s z (typed form.For i j l (trees.skip ps))) (sym g) (looped W s s i j l (trees.skip ps) ps sound.no_first (λ k y. y) e.1 h)
    statement W s s' (typed form.For i j l trees.none) e h g = absurd e.1
    statement W s s' (typed (form.Range defines k) i j l ps) e h g =
        let r = ranged W s s k ps e.1 h in
        subst (λ z. Stated W s z (typed (form.Range defines k) i j l ps)) (sym g) (sound.iterates {s1 = r.0} (bare _ l e.0) r.1 r.2 (λ k y. y))
    statement W s s' (typed f i j l ps) e h g = absurd e

    pub chain : (W : Ways (List ℕ)) (s : List ℕ) (ps : Typeds TypeTree) → AreStatements ps → ListHas n rights gone W s ps → Chained W s (behind_all s ps) ps
    chain W s trees.none e h = sound.ends
    chain W s (trees.more p ps) e h = sound.next {s1 = behind s p} (λ out. statement W s (behind s p) p e.0 (h.0 out) (leaves_here s p)) (chain W (behind s p) ps e.1 h.1)
    chain W s (trees.skip ps) e h = sound.left_out (chain W s ps e h)

    choice : (W : Ways (List ℕ)) (s s1 s' : List ℕ) (i j : ℕ) (l : Label TypeTree) (ps qs : Typeds TypeTree) → l.sort ≡ Nothing → SoundFirst (lexical_links n) rights local gone s s1 ps qs → IsChoice qs
        → ChoiceHas n rights gone W s1 qs → IsWithin s' s1
        → Stated W s s' (typed form.If i j l ps)
    choice W s s1 s' i j l ps (trees.more c (trees.more b rs)) d f e h g =
        sound.branch {s1 = s1} (bare _ l d) f (value_scoped n rights local gone s1 c e.0 h.0) (statement W s1 s' b e.1.1 h.1 (leaves_tail s1 s' b e.1.0 g)) (otherwise W s1 s' rs e.2 h.2 g)
    choice W s s1 s' i j l ps trees.none d f e h g = absurd e
    choice W s s1 s' i j l ps (trees.skip qs) d f e h g = absurd e
    choice W s s1 s' i j l ps (trees.more c trees.none) d f e h g = absurd e
    choice W s s1 s' i j l ps (trees.more c (trees.skip qs)) d f e h g = absurd e

    otherwise : (W : Ways (List ℕ)) (s s' : List ℕ) (ps : Typeds TypeTree) → IsElse ps → ElseHas n rights gone W s ps → IsWithin s' s → SoundOther (lexical_links n) rights local gone W s s' ps
    otherwise W s s' trees.none e h g = sound.nothing_behind g
    otherwise W s s' (trees.more x ps) e h g = sound.other (statement W s s' x e.1 h (leaves_tail s s' x e.0 g))
    otherwise W s s' (trees.skip ps) e h g = sound.no_other g

    tagged : (W : Ways (List ℕ)) (s s1 : List ℕ) (i j : ℕ) (l : Label TypeTree) (ps qs : Typeds TypeTree) → l.sort ≡ Nothing → default_at ps ≡ suc (default_at qs)
        → SoundFirst (lexical_links n) rights local gone s s1 ps qs → IsWithin s s1 → HasTag qs → TagHas n rights gone W s s1 qs → Stated W s s (typed form.Switch i j l ps)
    tagged W s s1 i j l ps (trees.more x cs) d at f more e h =
        sound.selects {s1 = s1} {other = default_at cs} (bare _ l d ∙ ap (λ k. Once (Select (is_there (part_at ps 1)) k)) (at ∙ ap suc (default_next (is_default (form_of x)) (default_at cs) (plain_tag x e.0)))) f
        (sound.there (value_scoped n rights local gone s1 x e.0 h.0)) (clauses (clause_ways W s s1) s1 s cs e.1 h.1 more) more
    tagged W s s1 i j l ps (trees.skip cs) d at f more e h =
        sound.selects {s1 = s1} {other = default_at cs} (bare _ l d ∙ ap (λ k. Once (Select (is_there (part_at ps 1)) k)) at) f sound.absent (clauses (clause_ways W s s1) s1 s cs e h more) more
    tagged W s s1 i j l ps trees.none d at f more e h = absurd e

    clauses : (W : Ways (List ℕ)) (s s' : List ℕ) (cs : Typeds TypeTree) → AreClauses cs → ClausesHave n rights gone W s cs → IsWithin s' s → SoundClauses (lexical_links n) rights local gone W s s' cs
    clauses W s s' trees.none e h g = sound.no_clauses
    clauses W s s' (trees.more c cs) e h g = sound.one_more (clause W s s' c e.0 h.0 g) (clauses W s s' cs e.1 h.1 g)
    clauses W s s' (trees.skip cs) e h g = absurd e

    clause : (W : Ways (List ℕ)) (s s' : List ℕ) (c : Typed TypeTree) → IsClause c → ClauseHas n rights gone W s c → IsWithin s' s → SoundClause (lexical_links n) rights local gone W s s' c
    clause W s s' (typed (form.Case k) i j l ps) e h g = let r = values W s k ps e.1 h in sound.clause {s1 = r.1} (bare _ l e.0) r.2 r.3 (λ i y. r.4 i (g i y))
    clause W s s' (typed form.Default i j l ps) e h g = sound.default {s1 = behind_all s ps} (bare _ l e.0) (chain W s ps e.1 h) (λ i y. all_more s ps i (g i y))
    clause W s s' (typed f i j l ps) e h g = absurd e

    -- the values of a clause, the statements behind them, and the scope at their end
    values : (W : Ways (List ℕ)) (s : List ℕ) (k : ℕ) (ps : Typeds TypeTree) → IsCase k ps → CaseHas n rights gone W s k ps
        → (qs : Typeds TypeTree) × (s1 : List ℕ) × SoundValues (lexical_links n) rights local gone s k ps qs × Chained W s s1 qs × IsWithin s s1
    values W s zero trees.none e h = (trees.none, s, sound.rest, sound.ends, λ k y. y)
    values W s zero (trees.more p ps) e h = (
      trees.more p ps,
      behind_all (behind s p) ps,
      sound.rest,
      sound.next {s1 = behind s p} (λ out. statement W s (behind s p) p e.0 (h.0 out) (leaves_here s p)) (chain W (behind s p) ps e.1 h.1),
      λ k y. all_more (behind s p) ps k (behind_more s p k y),
    )
    values W s zero (trees.skip ps) e h = (trees.skip ps, behind_all s ps, sound.rest, sound.left_out (chain W s ps e h), all_more s ps)
    values W s (suc k) trees.none e h = absurd e
    values W s (suc k) (trees.more x ps) e h = let r = values W s k ps e.1 h.1 in (r.0, r.1, sound.value (value_scoped n rights local gone s x e.0 h.0) r.2, r.3, r.4)
    values W s (suc k) (trees.skip ps) e h = absurd e

    looped : (W : Ways (List ℕ)) (s s1 : List ℕ) (i j : ℕ) (l : Label TypeTree) (ps qs : Typeds TypeTree) → SoundFirst (lexical_links n) rights local gone s s1 ps qs → IsWithin s s1 → HasCondition qs
        → ConditionHas n rights gone (loop_ways W s1) s1 qs → Stated W s s (typed form.For i j l ps)
    looped W s s1 i j l ps (trees.more c qs) f more e h = body W s s1 i j l ps (trees.more c qs) qs f (sound.there (value_scoped n rights local gone s1 c e.0 h.0)) more e.1 h.1
    looped W s s1 i j l ps (trees.skip qs) f more e h = body W s s1 i j l ps (trees.skip qs) qs f sound.absent more e h
    looped W s s1 i j l ps trees.none f more e h = absurd e

    body : (W : Ways (List ℕ)) (s s1 : List ℕ) (i j : ℕ) (l : Label TypeTree) (ps qs rs : Typeds TypeTree) → SoundFirst (lexical_links n) rights local gone s s1 ps qs → SoundPart (lexical_links n) rights local gone s1 qs rs
        → IsWithin s s1 → HasPost rs
        → NextHas n rights gone (loop_ways W s1) s1 rs → Stated W s s (typed form.For i j l ps)
    body W s s1 i j l ps qs (trees.more x (trees.more b trees.none)) f c more e h =
        sound.loops {s1 = s1} refl f c (sound.first (post s1 x e.0 h.0)) (statement (loop_ways W s1) s1 s1 b e.1.1 h.1 (leaves_tail s1 s1 b e.1.0 (λ k y. y))) more
    body W s s1 i j l ps qs (trees.skip (trees.more b trees.none)) f c more e h = sound.loops {s1 = s1} refl f c sound.no_first (statement (loop_ways W s1) s1 s1 b e.1 h (leaves_tail s1 s1 b e.0 (λ k y. y))) more
    body W s s1 i j l ps qs trees.none f c more e h = absurd e
    body W s s1 i j l ps qs (trees.more x trees.none) f c more e h = absurd e.1
    body W s s1 i j l ps qs (trees.more x (trees.skip rs)) f c more e h = absurd e.1
    body W s s1 i j l ps qs (trees.more x (trees.more b (trees.more y rs))) f c more e h = absurd e.1
    body W s s1 i j l ps qs (trees.more x (trees.more b (trees.skip rs))) f c more e h = absurd e.1
    body W s s1 i j l ps qs (trees.skip trees.none) f c more e h = absurd e
    body W s s1 i j l ps qs (trees.skip (trees.skip rs)) f c more e h = absurd e
    body W s s1 i j l ps qs (trees.skip (trees.more b (trees.more y rs))) f c more e h = absurd e
    body W s s1 i j l ps qs (trees.skip (trees.more b (trees.skip rs))) f c more e h = absurd e

    -- the scope behind the names of a range clause
    ranged : (W : Ways (List ℕ)) (r s : List ℕ) (k : ℕ) (ps : Typeds TypeTree) → IsRange k ps → RangeHas n rights gone W r s k ps → (s1 : List ℕ) × SoundRanged (lexical_links n) rights local gone W r s s1 k ps × IsWithin s s1
    ranged W r s zero (trees.more x (trees.more b trees.none)) e h = (s, sound.operand (value_scoped n rights local gone r x e.0 h.0) (statement (loop_ways W s) s s b e.1.1 h.1 (leaves_tail s s b e.1.0 (λ k y. y))), λ k y. y)
    ranged W r s zero trees.none e h = absurd e
    ranged W r s zero (trees.skip ps) e h = absurd e
    ranged W r s zero (trees.more x trees.none) e h = absurd e.1
    ranged W r s zero (trees.more x (trees.skip ps)) e h = absurd e.1
    ranged W r s zero (trees.more x (trees.more b (trees.more y ps))) e h = absurd e.1
    ranged W r s zero (trees.more x (trees.more b (trees.skip ps))) e h = absurd e.1
    ranged W r s (suc k) trees.none e h = absurd e
    ranged W r s (suc k) (trees.skip ps) e h = absurd e
    ranged W r s (suc k) (trees.more (typed (form.New i) a b l qs) ps) e h =
        let z = ranged W r (i ∷ s) k ps e.1 h.1 in (z.0, sound.ranged_name {s1 = i ∷ s} (ap Once (open_plan l.sort (Declare i) e.0)) (h.0, refl) z.1, λ c y. z.2 c (inr y))
    ranged W r s (suc k) (trees.more (typed (form.Declared i) a b l qs) ps) e h =
        let z = ranged W r (i ∷ s) k ps e.1 h.1 in (z.0, sound.ranged_name {s1 = i ∷ s} (ap Once (open_plan l.sort (Declare i) e.0)) (h.0, refl) z.1, λ c y. z.2 c (inr y))
    ranged W r s (suc k) (trees.more (typed f a b l qs) ps) e h =
        let z = ranged W r s k ps e.1 h.1 in (z.0, other_range W r s z.0 k (typed f a b l qs) ps e.0 h.0 z.1, z.2)

  pub function_scoped : (W : Ways (List ℕ)) (s : List ℕ) (x : Typed TypeTree) → IsFunction x → FunctionHas n rights gone W s x → Stated W s s x
  function_scoped W s (typed form.Function i j l ps) e h = sound.sequence {s1 = behind_all s ps} (bare _ l e.0) (chain W s ps e.1 h) (all_more s ps)
  function_scoped W s (typed f i j l ps) e h = absurd e

  pub statement_scoped : (W : Ways (List ℕ)) (s : List ℕ) (x : Typed TypeTree) → IsStatement x → StatementHas n rights gone W s x → Stated W s (behind s x) x
  statement_scoped W s x e h = statement W s (behind s x) x e h (leaves_here s x)
