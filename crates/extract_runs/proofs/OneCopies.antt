-- Trees that are one copy have the same plans.
use Rattle.std.proofs.Common.{◌≡◌, ◌∙◌, ℕ, Bool, true, false, List, [], ◌∷◌, Option, Some, None, refl, sym, ap}
use Rattle.std.specs.Prelude.{nat_eq}
use Rattle.std.proofs.lemmas.Bool.{eqb-true, and_parts}
use Rattle.std.proofs.lemmas.Bool.Decides.{Decides-int_eq}
use Rattle.go_constants.specs.declared.values.Const.{Const}
use Rattle.go_constants.specs.declared.values.Const.TheVariants as const
use Rattle.go_types.specs.Trees.{TypeTree}
use Rattle.go_types.specs.Relations.{Rights}
use Rattle.go_types_relations.specs.Identity.{same_name}
use Rattle.go_typed.specs.declared.form.Form.{Form}
use Rattle.go_typed.specs.declared.form.Form.TheVariants as form
use Rattle.go_typed.specs.Forms.{is_default}
use Rattle.go_typed.specs.Trees.{Constant, Label, Typed, typed, Typeds}
use Rattle.go_exprs_rules.specs.Sorts.{Stands}
use Rattle.clone_window.specs.Masses.{is_expression}
use Rattle.clone_window.specs.Sameness.{same_value}
use Rattle.go_meaning.specs.Values.{Whole, Text, const_value}
use Rattle.go_meaning.specs.Plans.{Plan, Give, Once}
use Rattle.go_meaning.specs.Planning.{sort_type, form_plan, sort_plan, plan}
use Rattle.go_meaning_simulation.specs.Seen.{Callee, callee_of, key_of, Seen, seen}
use Rattle.go_meaning_simulation.proofs.Public.{sight}
use Rattle.extract_trees.specs.OneCopy.{AreOneSort, IsOneCopy, AreOneCopy}
use Rattle.extract_trees.specs.OneCopy as copy
use Rattle.extract_runs.specs.Same.{IsSame, AreSame}
use Rattle.extract_runs.specs.Same as same
use Rattle.extract_runs.proofs.Seeing.{no_default, no_key}

-- ---- constants

one_name : (xs ys : List ℕ) → same_name xs ys ≡ true → xs ≡ ys
one_name [] [] h = refl
one_name [] (y ∷ ys) h = absurd cc
one_name (x ∷ xs) [] h = absurd cc
one_name (x ∷ xs) (y ∷ ys) h =
    let p = and_parts (nat_eq x y) (same_name xs ys) h in
    ap (λ z. z ∷ xs) (eqb-true x y p.0) ∙ ap (λ zs. y ∷ zs) (one_name xs ys p.1)

one_value : (v w : Const) → same_value v w ≡ true → const_value v ≡ const_value w
one_value (const.Bool true) (const.Bool true) h = refl
one_value (const.Bool true) (const.Bool false) h = absurd cc
one_value (const.Bool false) (const.Bool true) h = absurd cc
one_value (const.Bool false) (const.Bool false) h = refl
one_value (const.Int z r) (const.Int y s) h = ap Whole ((Decides-int_eq z y).0 h)
one_value (const.Text xs) (const.Text ys) h = ap Text (one_name xs ys h)
one_value v w h = absurd cc

-- ---- sorts

one_type : {s t : Stands} → AreOneSort s t → sort_type s ≡ sort_type t
one_type copy.same = refl
one_type (copy.constant h) = refl
one_type (copy.untyped h) = refl
one_type copy.target = refl
one_type copy.no_target = refl

one_callee : {s t : Stands} → AreOneSort s t → callee_of s ≡ callee_of t
one_callee copy.same = refl
one_callee (copy.constant h) = refl
one_callee (copy.untyped h) = refl
one_callee copy.target = refl
one_callee copy.no_target = refl

one_sorted : {s t : Stands} (p q : Plan) → AreOneSort s t → q ≡ p → sort_plan t q ≡ sort_plan s p
one_sorted {s} {t} p q copy.same e = ap (sort_plan s) e
one_sorted p q (copy.constant {v = v} {w = w} h) e = ap Give (sym (one_value v w h))
one_sorted p q (copy.untyped {v = v} {w = w} h) e = ap Give (sym (one_value v w h))
one_sorted p q copy.target e = e
one_sorted p q copy.no_target e = e

-- ---- what is seen of parts

abbrev told : TypeTree → Callee → Bool → Bool → Option ℕ → Seen
told t k b d o = record { type = t; callee = k; calls = b; default = d; key = o }

node_seen : (f : Form) (l n : Label TypeTree) → AreOneSort l.sort n.sort → l.calls ≡ n.calls →
    told (sort_type l.sort) (callee_of l.sort) l.calls (is_default f) (key_of f) ≡ told (sort_type n.sort) (callee_of n.sort) n.calls (is_default f) (key_of f)
node_seen f l n o e =
    ap (λ t. told t (callee_of l.sort) l.calls (is_default f) (key_of f)) (one_type o)
    ∙ ap (λ k. told (sort_type n.sort) k l.calls (is_default f) (key_of f)) (one_callee o)
    ∙ ap (λ b. told (sort_type n.sort) (callee_of n.sort) b (is_default f) (key_of f)) e

constant_seen : (f g : Form) (l n : Label TypeTree) (t : TypeTree) (v w : Const) → is_expression f ≡ true → is_expression g ≡ true → l.sort ≡ Constant t v → n.sort ≡ Constant t w → l.calls ≡ n.calls →
    told (sort_type l.sort) (callee_of l.sort) l.calls (is_default f) (key_of f) ≡ told (sort_type n.sort) (callee_of n.sort) n.calls (is_default g) (key_of g)
constant_seen f g l n t v w h h' e e' c =
    ap (λ s. told (sort_type s) (callee_of s) l.calls (is_default f) (key_of f)) e
    ∙ sym (ap (λ s. told (sort_type s) (callee_of s) l.calls (is_default f) (key_of f)) e')
    ∙ ap (λ b. told (sort_type n.sort) (callee_of n.sort) b (is_default f) (key_of f)) c
    ∙ ap (λ b. told (sort_type n.sort) (callee_of n.sort) n.calls b (key_of f)) (no_default f h ∙ sym (no_default g h'))
    ∙ ap (told (sort_type n.sort) (callee_of n.sort) n.calls (is_default g)) (no_key f h ∙ sym (no_key g h'))

copies_seen : {ps qs : Typeds TypeTree} → AreOneCopy ps qs → seen ps ≡ seen qs
copies_seen copy.none = refl
copies_seen (copy.more {ps = ps} {ps' = qs} (copy.node {f = f} {l = l} {l' = n} o e parts) xs) =
    ap (λ x. Some x ∷ seen ps) (node_seen f l n o e) ∙ ap (λ r. Some (told (sort_type n.sort) (callee_of n.sort) n.calls (is_default f) (key_of f)) ∷ r) (copies_seen xs)
copies_seen (copy.more {ps = ps} {ps' = qs} (copy.constant {f = f} {f' = g} {l = l} {l' = n} {t = t} {v = v} {w = w} h h' e e' s c) xs) =
    ap (λ x. Some x ∷ seen ps) (constant_seen f g l n t v w h h' e e' c) ∙ ap (λ r. Some (told (sort_type n.sort) (callee_of n.sort) n.calls (is_default g) (key_of g)) ∷ r) (copies_seen xs)
copies_seen (copy.skip xs) = ap (λ r. None ∷ r) (copies_seen xs)

-- ---- plans

module _ (rights : Rights) where
  node_same : (f : Form) (i j i' j' : ℕ) (l n : Label TypeTree) (ps qs : Typeds TypeTree) → AreOneSort l.sort n.sort → seen qs ≡ seen ps → AreSame rights ps qs → IsSame rights (typed f i j l ps) (typed f i' j' n qs)
  node_same form.For i j i' j' l n ps qs o e parts = same.loop parts
  node_same f i j i' j' l n ps qs o e parts =
      same.alike (sort_plan l.sort (form_plan rights f (sort_type l.sort) ps)) refl
      (ap Once (one_sorted (form_plan rights f (sort_type l.sort) ps) (form_plan rights f (sort_type n.sort) qs) o (ap (λ t. form_plan rights f t qs) (sym (one_type o)) ∙ sight rights qs ps e f (sort_type l.sort)))) parts

  constant_plan : (f : Form) (l : Label TypeTree) (ps : Typeds TypeTree) (t : TypeTree) (v : Const) → is_expression f ≡ true → l.sort ≡ Constant t v → plan rights f l ps ≡ Once (Give (const_value v))
  constant_plan form.For l ps t v h e = absurd cc
  constant_plan f l ps t v h e = ap (λ s. Once (sort_plan s (form_plan rights f (sort_type l.sort) ps))) e

  mutual
    one_same : {t u : Typed TypeTree} → IsOneCopy t u → IsSame rights t u
    one_same (copy.node {f = f} {i = i} {j = j} {i' = i'} {j' = j'} {l = l} {l' = n} {ps = ps} {ps' = qs} o e parts) = node_same f i j i' j' l n ps qs o (sym (copies_seen parts)) (all_same parts)
    one_same (copy.constant {f = f} {f' = g} {l = l} {l' = n} {ps = ps} {ps' = qs} {t = t} {v = v} {w = w} h h' e e' s c) =
        same.constant {v = const_value v} (constant_plan f l ps t v h e) (constant_plan g n qs t w h' e' ∙ ap (λ x. Once (Give x)) (sym (one_value v w s)))

    pub all_same : {ps qs : Typeds TypeTree} → AreOneCopy ps qs → AreSame rights ps qs
    all_same copy.none = same.none
    all_same (copy.more x xs) = same.more (one_same x) (all_same xs)
    all_same (copy.skip xs) = same.skip (all_same xs)

pub one_copies : (rights : Rights) (ps us : Typeds TypeTree) → AreOneCopy ps us → AreSame rights ps us
one_copies rights ps us h = all_same rights h
