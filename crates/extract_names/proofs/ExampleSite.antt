-- The worked example of a call in place of two statements is a site.
use Rattle.std.proofs.Common.{◌≡◌, ◌∙◌, ℕ, zero, suc, ◌+◌, ◌-◌, ◌<◌, ◌≤◌, ◌⊎◌, inl, inr, true, false, List, [], ◌∷◌, length, Some, None, refl, sym, ap, subst, codes, rules, arith}
use Rattle.std.specs.Prelude.{if◌then◌else◌, slice_get}
use Rattle.go_tokens.specs.Spellings.{same_text}
use Rattle.go_tree.specs.declared.context.Block.TheVariants as block
use Rattle.go_tree.specs.declared.context.Entity.TheVariants as entity
use Rattle.go_tree.specs.declared.context.Manner.TheVariants as manner
use Rattle.go_tree.specs.declared.context.Role.TheVariants as role
use Rattle.go_tree.specs.declared.context.Site.TheVariants as site
use Rattle.go_tree.specs.declared.event.Declaration.{Declaration}
use Rattle.go_tree.specs.declared.event.Event.{Event}
use Rattle.go_tree.specs.declared.event.Event.TheVariants as event
use Rattle.go_tree.specs.declared.event.Use.{Use}
use Rattle.go_tree.specs.declared.object.Object.TheVariants as object
use Rattle.go_tree.specs.declared.object.Predeclared.TheVariants as predeclared
use Rattle.go_tree.specs.Contexts.{file_context}
use Rattle.go_tree.specs.Declarations.{Found}
use Rattle.go_heads.specs.Bodies.{function_events}
use Rattle.go_heads.specs.Names.{text_there, own_text, own_declarations}
use Rattle.go_scopes_bodies.specs.Meant.{Meant, own, outside, own_meant}
use Rattle.extract_names.specs.Gaps.{Redeclared, Gap, moved_by, Among, IsInRun, Stays}
use Rattle.extract_names.specs.Pieces.{ReplacesRuns, pieces}
use Rattle.extract_names.specs.Sites.{declared_at, DeclaresItself, AllStand, Says, UsedThere, IsSite}
use Rattle.extract_names.specs.Sentences.{around}
use Rattle.extract_names.specs.Examples.{gap_texts, gap_means, gap, gaps, old, new, patch}
use Rattle.go_heads.proofs.Public.{Every}
use Rattle.extract_names.proofs.Edges.{behind_moved, not_eq}
use Rattle.extract_names.proofs.Founds.{find, object_none}

pub true_false : true ≡ false → ⊥
true_false e = cc

abbrev result : Redeclared
result = record { old = 8; token = 1; begins = 3 }

abbrev pub head : List Found → Found
head [] = record { file = 0; name = []; place = record { file = 0; start = 0; end = 0 }; it = record { name = 0; entity = entity.Function; manner = manner.Declared; block = block.Package; scope = record { from = 0; to = 0 }; statement = 0; source = None; column = 0 } }
head (d ∷ ds) = d

abbrev pub tail : List Found → List Found
tail [] = []
tail (d ∷ ds) = ds

pub old_itself : DeclaresItself old
old_itself = record { function = head (own_declarations old); others = tail (own_declarations old); whole = refl; in_package = refl; locals = (refl, (refl, tt)) }

new_itself : DeclaresItself new
new_itself = record { function = head (own_declarations new); others = tail (own_declarations new); whole = refl; in_package = refl; locals = (refl, (refl, tt)) }

-- `b := a + 1`
abbrev pub was : Declaration
was = record { name = 8; entity = entity.Variable; manner = manner.Defined; block = block.Local 7; scope = record { from = 13; to = 24 }; statement = 8; source = None; column = 0 }

replaces : ReplacesRuns (moved_by gaps) old.tree patch
replaces = search rules

declared : (z : Redeclared) → Among z gap.declared → z ≡ result
declared z (inl e) = e
declared z (inr k) = absurd k

in_gaps : (g : Gap) → Among g gaps → g ≡ gap
in_gaps g (inl e) = e
in_gaps g (inr k) = absurd k

stand : AllStand old new gaps gaps (pieces (moved_by gaps) (file_context 0) old.tree patch)
stand = (
  (record { name = (inl (omega arith), tt); block = tt; from = (inl (omega arith), tt); to = (inr (omega arith), tt); statement = (inl (omega arith), tt); source = (inl (omega arith), tt); follows = (tt, omega arith); apart = λ e. absurd (true_false e) }, tt),
  (
    (
      ((inl (omega arith), tt), (inl (omega arith), tt)),
      (
        record { name = (inl (omega arith), tt); block = (inl (omega arith), tt); from = (inl (omega arith), tt); to = (inr (omega arith), tt); statement = (inl (omega arith), tt); source = tt; follows = (omega arith, omega arith); apart = λ e. (inl (omega arith), tt) },
        (((inl (omega arith), tt), tt, refl, (inl (omega arith), tt)), (((inl (omega arith), tt), tt, refl, (inl (omega arith), tt)), tt)),
      ),
    ),
    (
      tt,
      (
        record {
          block = block.Local 7;
          end = 24;
          begins = (inl (omega arith), tt);
          ends = (inr (omega arith), tt);
          behind = omega arith;
          each = (tt, (record { name = (omega arith, omega arith); statement = (omega arith, omega arith); local = refl; variety = refl; behind = omega arith; ends = inr (refl, refl, omega arith) }, ((omega arith, omega arith), (tt, ((omega arith, omega arith), ((omega arith, omega arith), tt))))));
        },
        record {
          each = (
            tt,
            (
              record { again = result; listed = inl refl; was = was; told = inr (inl refl); named = refl; new = refl; variable = refl; beyond = omega arith; behind = omega arith; before = omega arith; text = refl; name = refl; entity = refl; manner = refl; block = refl; from = refl; to = refl; source = (let a : 8 ≤ 9 = omega arith in a, let b : 9 < 20 = omega arith in b) },
              (
                record { token = 2; within = omega arith; name = refl; calm = inr (outside (object.Predeclared predeclared.Int), refl, tt); initial = refl; constant = refl; declaring = inr (object.Predeclared predeclared.Int, refl) },
                (
                  tt,
                  (
                    record { token = 4; within = omega arith; name = refl; calm = inr (own (object.Local 0 1), refl, tt); initial = refl; constant = refl; declaring = inl refl },
                    (
                      record { token = 6; within = omega arith; name = refl; calm = inr (outside (object.Package 1), refl, tt); initial = refl; constant = refl; declaring = inl refl },
                      (record { token = 8; within = omega arith; name = refl; calm = inr (own (object.Local 0 0), refl, tt); initial = refl; constant = refl; declaring = inl refl }, tt),
                    ),
                  ),
                ),
              ),
            ),
          );
          all = λ z k. inl (sym (ap (λ (r : Redeclared). 8 + r.token) (declared z k)));
          members_once = refl;
        },
        ((tt, (((inr (omega arith), tt), tt, refl, tt), tt)), (tt, refl)),
      ),
    ),
  ),
)

-- ---- texts

front_texts : (t : ℕ) → t < 8 → own_text new (moved_by gaps t) ≡ own_text old t
front_texts zero lt = refl
front_texts (suc zero) lt = refl
front_texts (suc (suc zero)) lt = refl
front_texts (suc (suc (suc zero))) lt = refl
front_texts (suc (suc (suc (suc zero)))) lt = refl
front_texts (suc (suc (suc (suc (suc zero))))) lt = refl
front_texts (suc (suc (suc (suc (suc (suc zero)))))) lt = refl
front_texts (suc (suc (suc (suc (suc (suc (suc zero))))))) lt = refl
front_texts (suc (suc (suc (suc (suc (suc (suc (suc t)))))))) lt = absurd (omega (arith, lt))

behind_texts : (k : ℕ) → own_text new (suc (suc (suc (suc (suc (suc (suc (suc (suc (suc (suc (suc (suc (suc (suc (suc (suc (suc (suc (suc k)))))))))))))))))))) ≡ own_text old (suc (suc (suc (suc (suc (suc (suc (suc (suc (suc (suc (suc (suc (suc (suc (suc (suc (suc (suc k)))))))))))))))))))
behind_texts k = refl

texts : (t : ℕ) → Stays gaps t → own_text new (moved_by gaps t) ≡ own_text old t
texts t s = by s.0
  where
    by : (t < 8) ⊎ (19 ≤ t) → own_text new (moved_by gaps t) ≡ own_text old t
    by (inl lt) = front_texts t lt
    by (inr le) =
        let k : ℕ = t - 19 in
        let a : moved_by gaps t ≡ (t - 19) + (8 + length gap_texts) = behind_moved gap [] t (omega (arith, le)) in
        let n : length gap_texts ≡ 12 = refl in
        let b : moved_by gaps t ≡ suc (suc (suc (suc (suc (suc (suc (suc (suc (suc (suc (suc (suc (suc (suc (suc (suc (suc (suc (suc (t - 19)))))))))))))))))))) = omega (arith, a, n) in
        let c : suc (suc (suc (suc (suc (suc (suc (suc (suc (suc (suc (suc (suc (suc (suc (suc (suc (suc (suc (t - 19))))))))))))))))))) ≡ t = omega (arith, le) in
        ap (own_text new) b ∙ behind_texts (t - 19) ∙ ap (own_text old) c

gap_text : (i : ℕ) → i < 12 → own_text new (8 + i) ≡ text_there (slice_get gap_texts i)
gap_text zero lt = refl
gap_text (suc zero) lt = refl
gap_text (suc (suc zero)) lt = refl
gap_text (suc (suc (suc zero))) lt = refl
gap_text (suc (suc (suc (suc zero)))) lt = refl
gap_text (suc (suc (suc (suc (suc zero))))) lt = refl
gap_text (suc (suc (suc (suc (suc (suc zero)))))) lt = refl
gap_text (suc (suc (suc (suc (suc (suc (suc zero))))))) lt = refl
gap_text (suc (suc (suc (suc (suc (suc (suc (suc zero)))))))) lt = refl
gap_text (suc (suc (suc (suc (suc (suc (suc (suc (suc zero))))))))) lt = refl
gap_text (suc (suc (suc (suc (suc (suc (suc (suc (suc (suc zero)))))))))) lt = refl
gap_text (suc (suc (suc (suc (suc (suc (suc (suc (suc (suc (suc zero))))))))))) lt = refl
gap_text (suc (suc (suc (suc (suc (suc (suc (suc (suc (suc (suc (suc i)))))))))))) lt = absurd (omega (arith, lt))

-- ---- what the names of the gap say

not_in_scope : (i : ℕ) (w : List ℕ) → i < 3 → (z : Redeclared) → Among z gap.declared → z.begins ≤ i → text_there (slice_get gap_texts z.token) ≡ w → ⊥
not_in_scope i w lt z k le e = let n : z.begins ≡ 3 = ap (λ (r : Redeclared). r.begins) (declared z k) in omega (arith, n, le, lt)

other_name : (w : List ℕ) → same_text w (codes "b") ≡ false → (z : Redeclared) → Among z gap.declared → text_there (slice_get gap_texts z.token) ≡ w → ⊥
other_name w f z k e =
    let a : text_there (slice_get gap_texts 1) ≡ w = ap (λ (r : Redeclared). text_there (slice_get gap_texts r.token)) (sym (declared z k)) ∙ e in
    let b : same_text w (codes "b") ≡ true = ap (λ x. same_text x (codes "b")) (sym a) in
    true_false (sym b ∙ f)

not_there : (i : ℕ) → (1 ≡ i → ⊥) → (z : Redeclared) → Among z gap.declared → z.token ≡ i → ⊥
not_there i f z k e = f (sym (ap (λ (r : Redeclared). r.token) (declared z k)) ∙ e)

says : (i : ℕ) (w : List ℕ) → slice_get gap_texts i ≡ Some w → (o : Meant) → gap_means i ≡ Some o → Says old around gap i w
says zero w e o m = cc
says (suc zero) w e o m = inr (record { again = result; listed = inl refl; within = inr refl; text = ap text_there e; meant = refl })
says (suc (suc zero)) w e o m =
    inl (record { meant = subst (λ x. own_meant old around 8 x ≡ gap_means 2) (ap text_there e) refl; hidden = not_in_scope 2 w (omega arith); apart = not_there 2 (λ q. omega (arith, q)) })
says (suc (suc (suc zero))) w e o m = cc
says (suc (suc (suc (suc zero)))) w e o m = inr (record { again = result; listed = inl refl; within = inl (omega arith, not_there 4 (λ q. omega (arith, q))); text = ap text_there e; meant = refl })
says (suc (suc (suc (suc (suc zero))))) w e o m = cc
says (suc (suc (suc (suc (suc (suc zero)))))) w e o m =
    inl (record {
      meant = subst (λ x. own_meant old around 8 x ≡ gap_means 6) (ap text_there e) refl;
      hidden = λ z k le. other_name w (ap (λ x. same_text (text_there x) (codes "b")) (sym e)) z k;
      apart = not_there 6 (λ q. omega (arith, q));
    })
says (suc (suc (suc (suc (suc (suc (suc zero))))))) w e o m = cc
says (suc (suc (suc (suc (suc (suc (suc (suc zero)))))))) w e o m =
    inl (record {
      meant = subst (λ x. own_meant old around 8 x ≡ gap_means 8) (ap text_there e) refl;
      hidden = λ z k le. other_name w (ap (λ x. same_text (text_there x) (codes "b")) (sym e)) z k;
      apart = not_there 8 (λ q. omega (arith, q));
    })
says (suc (suc (suc (suc (suc (suc (suc (suc (suc zero))))))))) w e o m = cc
says (suc (suc (suc (suc (suc (suc (suc (suc (suc (suc zero)))))))))) w e o m = cc
says (suc (suc (suc (suc (suc (suc (suc (suc (suc (suc (suc zero))))))))))) w e o m = cc
says (suc (suc (suc (suc (suc (suc (suc (suc (suc (suc (suc (suc i)))))))))))) w e o m = cc

-- ---- locals of the run

find_none : (x : ℕ) (ds : List Found) → Every (λ d. d.it.name ≡ x → ⊥) ds → find x ds ≡ None
find_none x [] h = refl
find_none x (d ∷ ds) h = ap (λ b. if b then Some d else find x ds) (not_eq d.it.name x h.0) ∙ find_none x ds h.1

-- no name is declared behind b
nothing : (x : ℕ) → 8 < x → declared_at old x ≡ None
nothing x lt = object_none old (refl, (refl, (refl, tt))) x (find_none x (own_declarations old) (λ e. omega (arith, e, lt), (λ e. omega (arith, e, lt), (λ e. omega (arith, e, lt), tt))))

-- the token of what an event declares
abbrev pub name_of : Event → ℕ
name_of (event.Declaration d) = d.name
name_of e = 0

needed : (d : ℕ) → IsInRun gap d → (o : Meant) → declared_at old d ≡ Some o → (z : Redeclared) × Among z gap.declared × (z.old ≡ d)
needed zero r o e = absurd (let a : 8 ≤ 0 = r.0 in omega (arith, a))
needed (suc zero) r o e = absurd (let a : 8 ≤ 1 = r.0 in omega (arith, a))
needed (suc (suc zero)) r o e = absurd (let a : 8 ≤ 2 = r.0 in omega (arith, a))
needed (suc (suc (suc zero))) r o e = absurd (let a : 8 ≤ 3 = r.0 in omega (arith, a))
needed (suc (suc (suc (suc zero)))) r o e = absurd (let a : 8 ≤ 4 = r.0 in omega (arith, a))
needed (suc (suc (suc (suc (suc zero))))) r o e = absurd (let a : 8 ≤ 5 = r.0 in omega (arith, a))
needed (suc (suc (suc (suc (suc (suc zero)))))) r o e = absurd (let a : 8 ≤ 6 = r.0 in omega (arith, a))
needed (suc (suc (suc (suc (suc (suc (suc zero))))))) r o e = absurd (let a : 8 ≤ 7 = r.0 in omega (arith, a))
needed (suc (suc (suc (suc (suc (suc (suc (suc zero)))))))) r o e = (result, inl refl, refl)
needed (suc (suc (suc (suc (suc (suc (suc (suc (suc d))))))))) r o e = let n : None ≡ Some o = sym (nothing (suc (suc (suc (suc (suc (suc (suc (suc (suc d))))))))) (omega arith)) ∙ e in cc

reuses : (d x : Declaration) → Among (event.Declaration d) (function_events old) → Stays gaps d.name → d.manner ≡ manner.Defined → ⊥
reuses d x (inl e) s m = let p : d.manner ≡ manner.Declared = cc in cc
reuses d x (inr (inl e)) s m = cc
reuses d x (inr (inr (inl e))) s m = let p : d.manner ≡ manner.Declared = cc in cc
reuses d x (inr (inr (inr (inl e)))) s m = cc
reuses d x (inr (inr (inr (inr (inl e))))) s m = cc
reuses d x (inr (inr (inr (inr (inr (inl e)))))) s m = cc
reuses d x (inr (inr (inr (inr (inr (inr (inl e))))))) s m = let p : d.name ≡ 8 = ap name_of e in by p s.0
  where
    by : d.name ≡ 8 → (d.name < 8) ⊎ (19 ≤ d.name) → ⊥
    by p (inl lt) = omega (arith, p, lt)
    by p (inr le) = omega (arith, p, le)
reuses d x (inr (inr (inr (inr (inr (inr (inr (inl e)))))))) s m = cc
reuses d x (inr (inr (inr (inr (inr (inr (inr (inr (inl e))))))))) s m = cc
reuses d x (inr (inr (inr (inr (inr (inr (inr (inr (inr (inl e)))))))))) s m = cc
reuses d x (inr (inr (inr (inr (inr (inr (inr (inr (inr (inr (inl e))))))))))) s m = cc
reuses d x (inr (inr (inr (inr (inr (inr (inr (inr (inr (inr (inr (inl e)))))))))))) s m = cc
reuses d x (inr (inr (inr (inr (inr (inr (inr (inr (inr (inr (inr (inr (inl e))))))))))))) s m = cc
reuses d x (inr (inr (inr (inr (inr (inr (inr (inr (inr (inr (inr (inr (inr k))))))))))))) s m = absurd k

-- `return b`
abbrev last_use : Use
last_use = record { name = 21; role = role.Operand; site = site.Elsewhere; constant = false; initial = false }

used : (d : Declaration) → Among (event.Declaration d) (function_events old) → d.entity ≡ entity.Variable → UsedThere old around gaps new d.name
used d (inl e) n = let p : d.entity ≡ entity.Function = cc in cc
used d (inr (inl e)) n = cc
used d (inr (inr (inl e))) n = let p : d.entity ≡ entity.Parameter = cc in cc
used d (inr (inr (inr (inl e)))) n = cc
used d (inr (inr (inr (inr (inl e))))) n = cc
used d (inr (inr (inr (inr (inr (inl e)))))) n = cc
used d (inr (inr (inr (inr (inr (inr (inl e))))))) n =
    let p : d.name ≡ 8 = ap name_of e in
    inl (last_use, inr (inr (inr (inr (inr (inr (inr (inr (inr (inr (inr (inr (inl refl)))))))))))), (inr (omega arith), tt), refl, ap (declared_at old) (sym p))
used d (inr (inr (inr (inr (inr (inr (inr (inl e)))))))) n = cc
used d (inr (inr (inr (inr (inr (inr (inr (inr (inl e))))))))) n = cc
used d (inr (inr (inr (inr (inr (inr (inr (inr (inr (inl e)))))))))) n = cc
used d (inr (inr (inr (inr (inr (inr (inr (inr (inr (inr (inl e))))))))))) n = cc
used d (inr (inr (inr (inr (inr (inr (inr (inr (inr (inr (inr (inl e)))))))))))) n = cc
used d (inr (inr (inr (inr (inr (inr (inr (inr (inr (inr (inr (inr (inl e))))))))))))) n = cc
used d (inr (inr (inr (inr (inr (inr (inr (inr (inr (inr (inr (inr (inr k))))))))))))) n = absurd k

pub example_site : IsSite old around gaps new
example_site = record {
  patch = patch;
  replaces = replaces;
  places = refl;
  tree = refl;
  apart = (omega arith, omega arith, omega arith, tt);
  itself = old_itself;
  new_itself = new_itself;
  stand = stand;
  order = (omega arith, (omega arith, (omega arith, (omega arith, (omega arith, (omega arith, (omega arith, (omega arith, (omega arith, omega arith)))))))));
  new_order = (omega arith, (omega arith, (omega arith, (omega arith, (omega arith, (omega arith, (omega arith, (omega arith, (omega arith, (omega arith, omega arith))))))))));
  texts = texts;
  new_texts =
      λ g k i lt.
      let e : g ≡ gap = in_gaps g k in
      let n : i < 12 = subst (λ (x : Gap). i < length x.texts) e lt in
      subst (λ (x : Gap). own_text new (moved_by gaps x.from + i) ≡ text_there (slice_get x.texts i)) (sym e) (gap_text i n);
  says = λ g k i w e o m. let q : g ≡ gap = in_gaps g k in subst (λ x. slice_get x.texts i ≡ Some w → x.means i ≡ Some o → Says old around x i w) (sym q) (λ a b. says i w a o b) e m;
  needed = λ g k d r o e n. let q : g ≡ gap = in_gaps g k in subst (λ (x : Gap). IsInRun x d → (z : Redeclared) × Among z x.declared × (z.old ≡ d)) (sym q) (λ a. needed d a o e) r;
  once = λ g k y z a b e. let q : g ≡ gap = in_gaps g k in declared y (subst (λ (x : Gap). Among y x.declared) q a) ∙ sym (declared z (subst (λ (x : Gap). Among z x.declared) q b));
  reuses = λ g k d x a b s r m n e. absurd (reuses d x a s m);
  used = λ d k n e st. used d k e;
}
