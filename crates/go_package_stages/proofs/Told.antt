-- The names of a type, loosely or at once, are those by what its parts are told.
use Rattle.std.proofs.Common.{◌≡◌, Bool, true, false, refl, ap, sym, subst, ◌∙◌}
use Rattle.std.specs.Prelude.{◌&&◌, ◌||◌, not, if◌then◌else◌}
use Rattle.go_grammar.specs.declared.kind.Kind.{Kind}
use Rattle.go_grammar.specs.declared.kind.Kind.TheVariants as kind
use Rattle.go_grammar.specs.Grammar.{ends_named, is_name}
use Rattle.go_grammar.specs.Trees.{Tree, node, Trees, none, more, skip, kind_of}
use Rattle.go_exprs_rules.specs.Names.{need_of}
use Rattle.go_exprs_rules.specs.Scopes.{Hint, at_once, loose, loose_inside, declares}
use Rattle.go_exprs_rules.specs.Tables.{skips_first, in_parentheses, as_type_place}
use Rattle.go_package_laws.specs.Names.{NameHas, Ways, EachNeed, NeedsIn, is_of_types, is_sequence, told_in}
use Rattle.go_package_stages.specs.Marks.{type_need}
use Rattle.go_package_stages.specs.Ways.{is_loose, told_loose, EachWay, WaysIn}

-- ---- what parts are told

need_is : (h : Hint) → need_of at_once h ≡ type_need (is_loose h)
need_is loose = refl
need_is loose_inside = refl
need_is h = refl

inside_is : (h : Hint) → is_loose (in_parentheses h) ≡ is_loose h
inside_is loose = refl
inside_is loose_inside = refl
inside_is h = refl

place_is : (h : Hint) → is_loose (as_type_place h) ≡ is_loose h
place_is loose = refl
place_is loose_inside = refl
place_is h = refl

element_is : (h : Hint) (b : Bool) → is_loose (if b then loose else as_type_place h) ≡ (b || is_loose h)
element_is h true = refl
element_is h false = place_is h

shared_is : (h : Hint) (b c : Bool) → is_loose (if b then (if c then declares else h) else as_type_place h) ≡ (is_loose h && not (b && c))
shared_is h true true = and_false (is_loose h)
  where
    and_false : (b : Bool) → false ≡ (b && false)
    and_false true = refl
    and_false false = refl
shared_is h true false = and_true (is_loose h)
  where
    and_true : (b : Bool) → b ≡ (b && true)
    and_true true = refl
    and_true false = refl
shared_is h false c = place_is h ∙ and_true (is_loose h)
  where
    and_true : (b : Bool) → b ≡ (b && true)
    and_true true = refl
    and_true false = refl

told_is : (k : Kind) (h : Hint) (all : Trees) (b : Bool) (n : Kind) → is_loose (told_in k h all b n) ≡ told_loose k (is_loose h) all b n
told_is kind.ParenthesizedType h all b n = inside_is h
told_is kind.SequenceType h all true n = refl
told_is kind.SequenceType h all false n = element_is h (skips_first all)
told_is kind.FunctionType h all b n = refl
told_is kind.StructType h all b n = place_is h
told_is kind.Signature h all b n = place_is h
told_is kind.Results h all b n = place_is h
told_is kind.NameList h all b n = refl
told_is kind.Parameters h all b n = shared_is h (ends_named all) (is_name n)
told_is kind.Parameter h all true n = refl
told_is kind.Parameter h all false n = place_is h
told_is kind.Fields h all true n = refl
told_is kind.Fields h all false n = place_is h
told_is k h all b n = refl

-- ---- trees

module _ (w : Ways) where
  mutual
    need_ways : (h : Hint) (l : Bool) (t : Tree) → is_loose h ≡ l → EachWay w l t → EachNeed w h t
    need_ways h l (node k i j ps) e m =
        (subst (λ n. NameHas (w.named n) k i) (ap type_need (sym e) ∙ sym (need_is h)) m.0, needs_in k h l ps true ps (is_of_types k) (is_sequence k) e m.1)

    needs_in : (k : Kind) (h : Hint) (l : Bool) (all : Trees) (b : Bool) (ts : Trees) (d c : Bool) → is_loose h ≡ l → WaysIn w k l all b ts d c → NeedsIn w k h all b ts d c
    needs_in k h l all b ts false c e m = m
    needs_in k h l all b none true c e m = tt
    needs_in k h l all b (skip ts) true c e m = needs_in k h l all false ts true false e m
    needs_in k h l all b (more t ts) true true e m = (m.0, needs_in k h l all false ts true false e m.1)
    needs_in k h l all b (more t ts) true false e m =
        (need_ways (told_in k h all b (kind_of t)) (told_loose k l all b (kind_of t)) t (told_is k h all b (kind_of t) ∙ ap (λ x. told_loose k x all b (kind_of t)) e) m.0, needs_in k h l all false ts true false e m.1)

  pub each_need : (h : Hint) (t : Tree) → EachWay w (is_loose h) t → EachNeed w h t
  each_need h t m = need_ways h (is_loose h) t refl m
