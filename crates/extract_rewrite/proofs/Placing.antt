-- Edits put in by their places.
use Rattle.std.proofs.Common.{◌≡◌, ℕ, Bool, true, false, ◌&&◌, ◌||◌, cond, List, [], ◌∷◌, ◌++◌, refl, ap, sym, subst, ◌∙◌, arith, eqb-true}
use Rattle.std.specs.Prelude.{nat_eq, nat_lt}
use Rattle.std.specs.declared.cmp.Ordering.{Ordering}
use Rattle.std.specs.declared.cmp.Ordering.TheVariants.{Less, Equal, Greater}
use Rattle.std.specs.Ordering.{nat_cmp, ordering_then, match_ordering}
use Rattle.std.specs.BTreeMap.{insert_entry}
use Rattle.std.specs.Map.{values_of}
use Rattle.edit_apply.specs.declared.edits.Edit.{Edit}
use Rattle.std.proofs.lemmas.Bool.{and_parts}
use Rattle.std.proofs.lemmas.Bool.Decides.{nat_tests}
use Rattle.extract_rewrite.specs.Order.{begins_before, begin_together, put_in, put_all, by_place, place_of, AreKeyed}

abbrev pub place_cmp : ℕ × ℕ → ℕ × ℕ → Ordering
place_cmp x y = ordering_then (nat_cmp x.0 y.0) (nat_cmp x.1 y.1)

pub put_one_more : (ds es : List Edit) (e : Edit) → put_all ds (es ++ e ∷ []) ≡ put_in (put_all ds es) e
put_one_more ds [] e = refl
put_one_more ds (d ∷ es) e = put_one_more (put_in ds d) es e

-- what two tests of the places come to
compared : {X : Type 0} (lf ef ls es : Bool) (a b c : X)
    → (lf ≡ true → ef ≡ false) → (ls ≡ true → es ≡ false)
    → match_ordering (ordering_then (cond lf Less (cond ef Equal Greater)) (cond ls Less (cond es Equal Greater))) a b c ≡ cond (ef && es) b (cond (lf || (ef && ls)) a c)
compared true true ls es a b c h k = absurd (cc (h refl))
compared true false ls es a b c h k = refl
compared false true true true a b c h k = absurd (cc (k refl))
compared false true true false a b c h k = refl
compared false true false true a b c h k = refl
compared false true false false a b c h k = refl
compared false false ls es a b c h k = refl

apart : (a b : ℕ) → nat_lt a b ≡ true → nat_eq a b ≡ false
apart a b h = grind (arith, nat_tests)

values_chosen : (p q : Bool) (a b c : List ((ℕ × ℕ) × Edit)) → values_of (cond p b (cond q a c)) ≡ cond p (values_of b) (cond q (values_of a) (values_of c))
values_chosen true q a b c = refl
values_chosen false true a b c = refl
values_chosen false false a b c = refl

-- an edit put in under its place, by the tests of the definition
inserted : (x : (ℕ × ℕ) × Edit) (es : List ((ℕ × ℕ) × Edit)) (e : Edit) → x.0 ≡ place_of x.1
    → insert_entry place_cmp (x ∷ es) (place_of e) e ≡ cond (begin_together e x.1) ((x.0, e) ∷ es) (cond (begins_before e x.1) ((place_of e, e) ∷ x ∷ es) (x ∷ insert_entry place_cmp es (place_of e) e))
inserted x es e h =
    ap (λ q. match_ordering (place_cmp (place_of e) q) ((place_of e, e) ∷ x ∷ es) ((x.0, e) ∷ es) (x ∷ insert_entry place_cmp es (place_of e) e)) h
    ∙ compared (nat_lt e.file x.1.file) (nat_eq e.file x.1.file) (nat_lt e.start x.1.start) (nat_eq e.start x.1.start)
    ((place_of e, e) ∷ x ∷ es) ((x.0, e) ∷ es) (x ∷ insert_entry place_cmp es (place_of e) e)
    (apart e.file x.1.file) (apart e.start x.1.start)

pub put_is : (es : List ((ℕ × ℕ) × Edit)) (e : Edit) → AreKeyed es → values_of (insert_entry place_cmp es (place_of e) e) ≡ put_in (values_of es) e
put_is [] e h = refl
put_is (x ∷ es) e h =
    ap values_of (inserted x es e h.0)
    ∙ values_chosen (begin_together e x.1) (begins_before e x.1) ((place_of e, e) ∷ x ∷ es) ((x.0, e) ∷ es) (x ∷ insert_entry place_cmp es (place_of e) e)
    ∙ ap (λ l. cond (begin_together e x.1) (e ∷ values_of es) (cond (begins_before e x.1) (e ∷ x.1 ∷ values_of es) (x.1 ∷ l))) (put_is es e h.1)

same_place : (e d : Edit) → begin_together e d ≡ true → place_of d ≡ place_of e
same_place e d h =
    let hs = and_parts (nat_eq e.file d.file) (nat_eq e.start d.start) h in
    let file : e.file ≡ d.file = eqb-true e.file d.file hs.0 in
    let start : e.start ≡ d.start = eqb-true e.start d.start hs.1 in
    λ j. (sym file j, sym start j)

keyed_chosen : (p q : Bool) (a b c : List ((ℕ × ℕ) × Edit)) → AreKeyed a → (p ≡ true → AreKeyed b) → AreKeyed c → AreKeyed (cond p b (cond q a c))
keyed_chosen true q a b c h k m = k refl
keyed_chosen false true a b c h k m = h
keyed_chosen false false a b c h k m = m

pub keys_stay : (es : List ((ℕ × ℕ) × Edit)) (e : Edit) → AreKeyed es → AreKeyed (insert_entry place_cmp es (place_of e) e)
keys_stay [] e h = (refl, tt)
keys_stay (x ∷ es) e h =
    subst AreKeyed (sym (inserted x es e h.0))
    (keyed_chosen (begin_together e x.1) (begins_before e x.1) ((place_of e, e) ∷ x ∷ es) ((x.0, e) ∷ es) (x ∷ insert_entry place_cmp es (place_of e) e)
    (refl, h) (λ t. (h.0 ∙ same_place e x.1 t, h.1)) (h.0, keys_stay es e h.1))

-- ---- a step of the loop

pub still_keyed : (es fs : List ((ℕ × ℕ) × Edit)) (e : Edit) → fs ≡ insert_entry place_cmp es (place_of e) e → AreKeyed es → AreKeyed fs
still_keyed es fs e is h = subst AreKeyed (sym is) (keys_stay es e h)

pub one_more : (es fs : List ((ℕ × ℕ) × Edit)) (e : Edit) (ds : List Edit) → fs ≡ insert_entry place_cmp es (place_of e) e → AreKeyed es → values_of es ≡ by_place ds → values_of fs ≡ by_place (ds ++ e ∷ [])
one_more es fs e ds is h p = ap values_of is ∙ put_is es e h ∙ ap (λ l. put_in l e) p ∙ sym (put_one_more [] ds e)
