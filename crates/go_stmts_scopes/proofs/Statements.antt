-- Statements that hold no others are lexically scoped where the locals that are named in them are in scope.
use Rattle.std.proofs.Common.{◌≡◌, ◌∙◌, ℕ, zero, suc, Bool, true, false, List, refl, sym, ap, subst, arith}
use Rattle.std.specs.Prelude.{nat_lt}
use Rattle.std.proofs.lemmas.Bool.Decides.{nat_tests}
use Rattle.go_types.specs.Trees.{TypeTree}
use Rattle.go_types.specs.Relations.{Rights}
use Rattle.go_typed.specs.declared.form.Form.{Form}
use Rattle.go_typed.specs.declared.form.Form.TheVariants as form
use Rattle.go_typed.specs.Trees.{Nothing, Label, Typed, typed, Typeds}
use Rattle.go_typed.specs.Trees as trees
use Rattle.go_meaning.specs.Plans.{Plan, Once}
use Rattle.go_meaning.specs.Planning.{sort_type, form_plan, sort_plan, plan}
use Rattle.go_meaning_simulation.specs.Kin.{is_inner, first_alone, modes}
use Rattle.go_meaning_simulation.specs.Links.{Ways}
use Rattle.extract_runs.specs.Lexical.{Locals, lexical_links}
use Rattle.extract_runs.specs.Sound.{SoundExpression, SoundExpressions, SoundStatement}
use Rattle.extract_runs.specs.Sound as sound
use Rattle.go_stmts_scopes.specs.Runs.{AreExpressions, AllRead}
use Rattle.go_stmts_scopes.specs.Scoped.{Reads}
use Rattle.go_stmts_scopes.specs.Statements.{runs_parts, places_in, declares_only, ArePlaced, AreScoped}
use Rattle.go_stmts_scopes.proofs.Expressions.{values_scoped, place_scoped}

none_less : (k : ℕ) → nat_lt k 0 ≡ false
none_less k = grind (arith, nat_tests)

next_less : (k n : ℕ) → nat_lt (suc k) (suc n) ≡ nat_lt k n
next_less k n = grind (arith, nat_tests)

first_less : (n : ℕ) → nat_lt 0 (suc n) ≡ true
first_less n = grind (arith, nat_tests)

one_less : (k : ℕ) → first_alone true k ≡ nat_lt k 1
one_less zero = refl
one_less (suc k) = let e : nat_lt (suc k) 1 ≡ false = grind (arith, nat_tests) in sym e

-- what a statement does by itself
pub course : (rights : Rights) (f : Form) (l : Label TypeTree) (ps : Typeds TypeTree) → runs_parts f ≡ true → l.sort ≡ Nothing → plan rights f l ps ≡ Once (form_plan rights f (sort_type l.sort) ps)
course rights form.For l ps e d = cc
course rights f l ps e d = ap (λ x. Once (sort_plan x (form_plan rights f (sort_type l.sort) ps))) d

pub runs_inner : (rights : Rights) (f : Form) (t : TypeTree) (ps : Typeds TypeTree) → runs_parts f ≡ true → is_inner (form_plan rights f t ps) ≡ true
runs_inner rights form.Expression t ps e = refl
runs_inner rights (form.Step o) t ps e = refl
runs_inner rights (form.Assign n) t ps e = refl
runs_inner rights (form.Operate o) t ps e = refl
runs_inner rights f t ps e = cc

pub places : (rights : Rights) (f : Form) (t : TypeTree) (ps : Typeds TypeTree) → runs_parts f ≡ true → (k : ℕ) → modes (form_plan rights f t ps) false k ≡ nat_lt k (places_in f)
places rights form.Expression t ps e k = sym (none_less k)
places rights (form.Step o) t ps e k = one_less k
places rights (form.Assign n) t ps e k = refl
places rights (form.Operate o) t ps e k = one_less k
places rights f t ps e k = cc

module _ (n : Locals) (rights : Rights) (local : ℕ → ℕ) (gone : ℕ → Bool) (W : Ways (List ℕ)) (s : List ℕ) where
  abbrev AreSound : (ℕ → Bool) → Typeds TypeTree → Type 0
  AreSound = SoundExpressions (lexical_links n) rights local gone s

  abbrev IsSound : Typed TypeTree → Type 0
  IsSound = SoundStatement (lexical_links n) rights local gone W s s

  all_read : (ps : Typeds TypeTree) → ArePlaced rights (Reads n s) n.written 0 ps → AllRead (Reads n s) ps
  all_read trees.none h = tt
  all_read (trees.more p ps) h = (h.0, all_read ps h.1)
  all_read (trees.skip ps) h = all_read ps h

  -- the first so many as places
  pub placed : (k : ℕ) (ps : Typeds TypeTree) → AreExpressions ps → ArePlaced rights (Reads n s) n.written k ps → (m : ℕ → Bool) → ((i : ℕ) → m i ≡ nat_lt i k) → AreSound m ps
  placed zero ps e h m z = values_scoped n rights local gone s m (λ i. z i ∙ none_less i) ps e (all_read ps h)
  placed (suc k) trees.none e h m z = sound.none
  placed (suc k) (trees.more p ps) e h m z =
      sound.more (subst (λ b. SoundExpression (lexical_links n) rights local gone s b p) (sym (z 0 ∙ first_less k)) (place_scoped n rights local gone s p e.0 h.0))
      (placed k ps e.1 h.1 (λ i. m (suc i)) (λ i. z (suc i) ∙ next_less i k))
  placed (suc k) (trees.skip ps) e h m z = sound.skip (placed k ps e h (λ i. m (suc i)) (λ i. z (suc i) ∙ next_less i k))

  simple_scoped : (f : Form) (i j : ℕ) (l : Label TypeTree) (ps : Typeds TypeTree) → runs_parts f ≡ true → l.sort ≡ Nothing → AreExpressions ps → ArePlaced rights (Reads n s) n.written (places_in f) ps → IsSound (typed f i j l ps)
  simple_scoped f i j l ps e d x h =
      let p : Plan = form_plan rights f (sort_type l.sort) ps in
      sound.simple (sound.does (λ k g. g) (sound.inner p (course rights f l ps e d) (runs_inner rights f (sort_type l.sort) ps e) (placed (places_in f) ps x h (modes p false) (places rights f (sort_type l.sort) ps e))))

  -- the plan of a statement that stands for nothing
  bare : (p : Plan) (l : Label TypeTree) → l.sort ≡ Nothing → Once (sort_plan l.sort p) ≡ Once p
  bare p l d = ap (λ x. Once (sort_plan x p)) d

  declared_scoped : (f : Form) (i j : ℕ) (l : Label TypeTree) (ps : Typeds TypeTree) → declares_only f ≡ true → l.sort ≡ Nothing → IsSound (typed f i j l ps)
  declared_scoped form.Constants i j l ps e d = sound.simple (sound.does (λ k g. g) (sound.plain _ (bare _ l d) refl))
  declared_scoped form.TypeNames i j l ps e d = sound.simple (sound.does (λ k g. g) (sound.plain _ (bare _ l d) refl))
  declared_scoped f i j l ps e d = cc

  pub all_scoped : AreScoped n rights local gone W s
  all_scoped = record {
    simple = simple_scoped;
    declaration = declared_scoped;
    return = λ i j l ps d may e h. sound.returns may (bare _ l d) (values_scoped n rights local gone s (λ k. false) (λ k. refl) ps e h);
    break = λ i j l ps s1 d w f. sound.breaks w f (bare _ l d);
    continue = λ i j l ps s1 d w f. sound.continues w f (bare _ l d);
    fallthrough = λ i j l ps s1 d w f. sound.falls w f (bare _ l d);
  }
