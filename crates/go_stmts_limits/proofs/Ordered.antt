-- Objects that are found one behind the other.
use Rattle.std.proofs.Common.{◌≡◌, ℕ, zero, suc, ◌<◌, Bool, true, false, cond, List, [], ◌∷◌, length, map, Option, Some, None, Ok, refl, sym, ap, subst, ◌∙◌, arith}
use Rattle.std.specs.Prelude.{slice_get, nat_lt, if◌then◌else◌}
use Rattle.std.proofs.lemmas.Bool.{ltb-true, lt-ltb}
use Rattle.go_grammar.specs.Trees.{Tree}
use Rattle.go_tree.specs.declared.context.Entity.{Entity}
use Rattle.go_tree.specs.declared.context.Entity.TheVariants as entity
use Rattle.go_tree.specs.declared.object.Object.{Object}
use Rattle.go_tree.specs.declared.object.Object.TheVariants as object
use Rattle.go_tree.specs.Failures.{Failure, least}
use Rattle.go_tree.specs.Uses.{object_of}
use Rattle.go_types.specs.Trees.{TypeTree, TypeRow, boolean, text, integer, array, slice, structure, function, declared, none, more}
use Rattle.go_types.specs.Relations.{Rights}
use Rattle.go_types_relations.specs.Questions.{entry}
use Rattle.go_typed.specs.Trees as sort
use Rattle.go_exprs_rules.specs.Scopes.{Needed, in_full, Scope, Hint, value, several}
use Rattle.go_exprs_rules.specs.Sorts.{Stands}
use Rattle.go_package_defs.specs.Answer.{Environment, package_failures, unless, environment_of, answer_on}
use Rattle.go_package_defs.specs.Declarations.{Specification, is_alone}
use Rattle.go_package_defs.specs.Knowledge.{Outline, outlines, State, state_there, state_of, is_type, is_sound, passes, stands_if, stands_where, rights_of, need_in, free_scope}
use Rattle.go_package_defs.specs.Sources.{Package}
use Rattle.go_package_defs.specs.Verdicts.{type_hint, value_hint, part_in, typed_type, own_value, own_faults}
use Rattle.go_package_laws.specs.Names.{ObjectAgrees, ExpressionAgrees}
use Rattle.go_package_laws.specs.Ranks.{Ranks, ReachedBefore, NamesBefore, IsFound, IsFoundType, IsFoundAs, AreFound}
use Rattle.go_package_laws.specs.Reach.{Within, RowWithin, AgreeOn, StandsWithin, Standing, moved, IsTypedSo}
use Rattle.go_package_laws.specs.Reach as reach
use Rattle.go_package_laws.proofs.Public.{each_more}
use Rattle.go_stmts_limits.specs.Limits.{StandsIsWithin, AllStandWithin, PartIsWithin, RightsAreWithin, ScopeIsWithin}
use Rattle.go_stmts_limits.specs.Packages.{EnvironmentIsWithin}
use Rattle.go_stmts_limits.proofs.Within.{MaybePart, HintWithin}
use Rattle.go_stmts_limits.proofs.Arrays.{AreTold}
use Rattle.go_stmts_limits.proofs.Typing.{typing_within}
use Rattle.go_stmts_limits.proofs.Functions.{judges}
use Rattle.go_stmts_limits.proofs.Declared.{hint_within, value_told, assigned_within}

-- expressions are typed the same where the names that stand in them stand for the same
abbrev pub ExpressionsAgree : Type 0
ExpressionsAgree = (within : ℕ → Bool) (s : Scope) (new : Rights) (r : Standing) (h : Hint) (t : Tree) → s.needed ≡ in_full → AgreeOn within s.rights new → ExpressionAgrees within s r t → reach.HintWithin within h
    → IsTypedSo within s new r h t

-- ---- all declared types

abbrev all : ℕ → Bool
all n = true

mutual
  any_type : (t : TypeTree) → Within all t
  any_type boolean = tt
  any_type text = tt
  any_type (integer k) = tt
  any_type (array n t) = any_type t
  any_type (slice t) = any_type t
  any_type (structure ns ts) = any_row ts
  any_type (function ps rs) = (any_row ps, any_row rs)
  any_type (declared n) = refl

  any_row : (ts : TypeRow) → RowWithin all ts
  any_row none = tt
  any_row (more t ts) = (any_type t, any_row ts)

any_maybe : (o : Option TypeTree) → reach.MaybeWithin all o
any_maybe None = tt
any_maybe (Some t) = any_type t

any_stands : (x : Stands) → StandsWithin all x
any_stands (sort.IsType t) = any_type t
any_stands (sort.Value t) = any_type t
any_stands (sort.Constant t c) = any_type t
any_stands (sort.Results t) = any_type t
any_stands x = tt

any_agree : (rights : Rights) → AgreeOn all rights rights
any_agree rights = record { same = λ n e. refl; closed = λ n e. any_maybe (entry rights n); as_many = refl }

type_told : (e : Entity) → reach.HintWithin all (type_hint e)
type_told entity.Function = tt
type_told e = tt

values_told : (b : Bool) → reach.HintWithin all (if b then several else value)
values_told true = tt
values_told false = tt

-- ---- lists

outside : {A B : Type 0} (xs : List A) (ys : List B) (n : ℕ) → length ys ≡ length xs → slice_get xs n ≡ None → slice_get ys n ≡ None
outside [] [] n l e = refl
outside [] (y ∷ ys) n l e = cc
outside (x ∷ xs) [] n l e = cc
outside (x ∷ xs) (y ∷ ys) zero l e = cc
outside (x ∷ xs) (y ∷ ys) (suc n) l e = outside xs ys n (omega (arith, l)) e

full_is : (e : Entity) → is_type e ≡ false → need_in e ≡ in_full
full_is entity.Type e = absurd cc
full_is x e = refl

module _ (limit : Scope) where
  if_passes : (b : Bool) (s : State) → StandsIsWithin limit s.stands → StandsIsWithin limit (stands_if b s)
  if_passes true s w = w
  if_passes false s w = tt

  each_state : (ss : List State) → ((n : ℕ) → StandsIsWithin limit (state_of ss n).stands) → AllStandWithin limit (map (λ s. s.stands) ss)
  each_state [] f = tt
  each_state (s ∷ ss) f = (f 0, each_state ss (λ n. f (suc n)))

  module _ (tells : AreTold) (agree : ExpressionsAgree) (p : Package) (os : List Outline) (found : List State) (ranks : Ranks) (a : AreFound p os found ranks) (judged : limit.rights ≡ rights_of p found) (rights : RightsAreWithin limit (rights_of p found)) where
    abbrev there : ℕ → Needed → Stands
    there m need = stands_where is_sound os found need (object.Package m)

    -- what objects stand for that are found before the round k; the others stand for nothing known
    abbrev earlier : ℕ → Standing
    earlier k need (object.Package m) = cond (nat_lt (ranks.own m) k) (there m need) sort.Unknown
    earlier k need o = sort.Unknown

    abbrev Holds : ℕ → Type 0
    Holds k = (m : ℕ) → ranks.own m < k → StandsIsWithin limit (state_of found m).stands

    one_earlier : (k m : ℕ) (need : Needed) (b : Bool) → nat_lt (ranks.own m) k ≡ b → Holds k → StandsIsWithin limit (cond b (there m need) sort.Unknown)
    one_earlier k m need true e w = if_passes (passes is_sound os found need m) (state_of found m) (w m (ltb-true (ranks.own m) k e))
    one_earlier k m need false e w = tt

    earlier_within : (k : ℕ) → Holds k → (need : Needed) (o : Object) → StandsIsWithin limit (earlier k need o)
    earlier_within k w need (object.Package m) = one_earlier k m need (nat_lt (ranks.own m) k) refl w
    earlier_within k w need o = tt

    abbrev scope_before : ℕ → Specification → Scope
    scope_before k d = moved (free_scope p os found d) (rights_of p found) (earlier k)

    before_within : (k : ℕ) (d : Specification) → Holds k → ScopeIsWithin limit (scope_before k d)
    before_within k d w = record { judged = refl; front = λ n l. ap (λ r. slice_get r n) (sym judged); rights = rights; objects = earlier_within k w }

    same_earlier : (k m : ℕ) (need : Needed) → ranks.own m < k → earlier k need (object.Package m) ≡ there m need
    same_earlier k m need l = ap (λ b. cond b (there m need) sort.Unknown) (lt-ltb (ranks.own m) k l)

    object_agrees : (k : ℕ) (o : Option Object) → ReachedBefore os ranks ranks.own k (stands_where is_sound os found) in_full o → ObjectAgrees all (stands_where is_sound os found) (earlier k) in_full o
    object_agrees k None h = (tt, tt)
    object_agrees k (Some object.Import) h = (tt, tt)
    object_agrees k (Some (object.Predeclared b)) h = (tt, tt)
    object_agrees k (Some (object.Package m)) h = (same_earlier k m in_full h.0.0, any_stands (there m in_full))
    object_agrees k (Some (object.Local f m)) h = (refl, any_stands (stands_where is_sound os found in_full (object.Local f m)))

    part_within : (k : ℕ) (d : Specification) (h : Hint) (o : Option Tree) → need_in d.entity ≡ in_full → Holds k → NamesBefore p os found ranks k d o → reach.HintWithin all h → HintWithin limit h
        → MaybePart limit (part_in (free_scope p os found d) h o)
    part_within k d h None n w names g v = tt
    part_within k d h (Some t) n w names g v =
        let s = free_scope p os found d in
        let same : ExpressionAgrees all s (earlier k) t =
        each_more (λ i. ReachedBefore os ranks ranks.own k (stands_where is_sound os found) in_full (object_of p.uses d.file i)) (λ i. ObjectAgrees all (stands_where is_sound os found) (earlier k) in_full (object_of p.uses d.file i))
        (λ i q. object_agrees k (object_of p.uses d.file i) q) t names in
        let so = agree all s (rights_of p found) (earlier k) h t n (any_agree (rights_of p found)) same g in
        subst (PartIsWithin limit) so.typed (typing_within limit (scope_before k d) h t (judges limit tells (scope_before k d) (before_within k d w)) v)

    value_within : (n : ℕ) (d : Specification) (c : ℕ) → is_type d.entity ≡ false → IsFound p os found ranks n d c → Holds (ranks.own n) → StandsIsWithin limit (state_of found n).stands
    value_within n d c e f w =
        let s = free_scope p os found d in
        let full = full_is d.entity e in
        let t = part_within (ranks.own n) d (type_hint d.entity) d.type_tree full w f.of (type_told d.entity) (hint_within limit d.entity) in
        let x = part_within (ranks.own n) d (value_hint d) (own_value d c) full w f.value (values_told (is_alone d)) (value_told limit d) in
        subst (λ (z : State). StandsIsWithin limit z.stands) (sym f.is)
        (assigned_within limit (rights_of p found) rights d c (own_faults s d c) (typed_type s d) (part_in s (value_hint d) (own_value d c)) t x)

    type_within : (n : ℕ) (d : Specification) → IsFoundType p os found ranks n d → StandsIsWithin limit (state_of found n).stands
    type_within n d f = subst (λ (z : State). StandsIsWithin limit z.stands) (sym f.is) tt

    found_within : (n : ℕ) (o : Outline) (b : Bool) → is_type o.specification.entity ≡ b → IsFoundAs p os found ranks n o b → Holds (ranks.own n) → StandsIsWithin limit (state_of found n).stands
    found_within n o true e f w = type_within n o.specification f
    found_within n o false e f w = value_within n o.specification o.column e f w

    object_within : (n : ℕ) (o : Option Outline) → slice_get os n ≡ o → Holds (ranks.own n) → StandsIsWithin limit (state_of found n).stands
    object_within n None e w = subst (λ (s : Option State). StandsIsWithin limit (state_there s).stands) (sym (outside os found n a.as_many e)) tt
    object_within n (Some o) e w = found_within n o (is_type o.specification.entity) refl (a.each n o e) w

    holds : (k : ℕ) → Holds k
    holds zero m l = absurd (omega (arith, l))
    holds (suc k) m l = object_within m (slice_get os m) refl (λ j q. holds k j (omega (arith, l, q)))

    pub environment_within : EnvironmentIsWithin limit (environment_of p found)
    environment_within = record { judged = judged; rights = rights; objects = each_state found (λ n. holds (suc (ranks.own n)) n (omega arith)) }

-- ---- answers

answer_is : {A : Type 0} (f : Option Failure) (x y : A) → unless f x ≡ Ok y → x ≡ y
answer_is None x y e = cc
answer_is (Some f) x y e = absurd cc

-- what is answered for a package whose objects are found so
pub answer_within : (limit : Scope) → AreTold → ExpressionsAgree → (p : Package) (ds : List Specification) (found : List State) (ranks : Ranks) (e : Environment) → AreFound p (outlines p ds) found ranks → answer_on p ds (outlines p ds) found ≡ Ok e
    → limit.rights ≡ e.rights → RightsAreWithin limit e.rights → EnvironmentIsWithin limit e
answer_within limit tells agree p ds found ranks e a h judged rights =
    let same = answer_is (least (package_failures p (outlines p ds) found ds)) (environment_of p found) e h in
    let sides : e.rights ≡ rights_of p found = sym (ap (λ (x : Environment). x.rights) same) in
    subst (EnvironmentIsWithin limit) same (environment_within limit tells agree p (outlines p ds) found ranks a (judged ∙ sides) (subst (RightsAreWithin limit) sides rights))
