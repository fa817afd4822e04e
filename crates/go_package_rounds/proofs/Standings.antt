-- What objects stand for in the scopes of a round.
use Rattle.std.proofs.Common.{◌≡◌, ℕ, zero, suc, ◌<◌, Bool, true, false, List, [], ◌∷◌, length, map, Option, Some, None, refl, ap, sym, ◌∙◌, subst, arith}
use Rattle.std.specs.Prelude.{◌&&◌, slice_get, is_some}
use Rattle.std.specs.List.{AllByRecursion}
use Rattle.std.specs.Option.{option_map}
use Rattle.std.proofs.lemmas.List.{length-map}
use Rattle.go_tree.specs.declared.object.Object.{Object}
use Rattle.go_tree.specs.declared.object.Object.TheVariants as object
use Rattle.go_types.specs.Trees.{TypeTree}
use Rattle.go_types.specs.Tables.{Table, type_of}
use Rattle.go_typed.specs.Trees as trees
use Rattle.go_typed.specs.declared.sort.Sort.{Sort}
use Rattle.go_typed.specs.declared.sort.Sort.TheVariants as sort
use Rattle.go_typed.specs.Views.{sort_seen, KnownSort}
use Rattle.go_exprs_rules.specs.declared.fault.TypeFault.{TypeFault}
use Rattle.go_exprs_rules.specs.Faults.{least, earlier}
use Rattle.go_exprs_rules.specs.Scopes.{Needed, in_full, at_once, loosely}
use Rattle.go_exprs_rules.specs.Sorts.{Stands, known}
use Rattle.go_exprs_rules.specs.Tables.{no_faults}
use Rattle.go_exprs_types.specs.declared.standing.Standing.{Standing}
use Rattle.go_exprs_types.specs.Naming.{told_or, told_seen, told_in_full, told_at_once, told_loosely, sort_of_object, KnownStanding}
use Rattle.go_needs.specs.declared.needs.Passing.{Passing}
use Rattle.go_needs.specs.Passing.{ArePassing}
use Rattle.go_package_defs.specs.Knowledge.{Outline, State, no_state, state_of, stands_if, stands_where, passes, is_told_by}
use Rattle.go_package_defs.specs.Knowledge as knowledge
use Rattle.go_package_rounds.specs.declared.held.Held.{Held}
use Rattle.go_package_rounds.specs.declared.world.World.{World}
use Rattle.go_package_rounds.specs.Held.{Summary, summary, held_seen, all_seen, KnownHeld, AllHeld, is_clear, is_sound, is_told, is_told_as, sort_if, standing_of, standings_of}
use Rattle.go_package_rounds.specs.World.{package_in, outlines_in, Fits, Shows, StandsFor, KnownStandings}

-- ---- tests

clear_some : (f : TypeFault) (o : Option TypeFault) → is_clear (earlier (Some f) o) ≡ false
clear_some f None = refl
clear_some f (Some g) = refl

clear_is : (fs : List TypeFault) → is_clear (least fs) ≡ no_faults fs
clear_is [] = refl
clear_is (f ∷ fs) = clear_some f (least fs)

abbrev sound_summary : Summary → Bool
sound_summary s = is_clear s.fault && is_clear s.assigning

sound_is : (s : State) → sound_summary (summary s) ≡ knowledge.is_sound s
sound_is s = ap (λ b. b && is_clear (least s.assigning)) (clear_is s.faults) ∙ ap (λ b. no_faults s.faults && b) (clear_is s.assigning)

some_is : {A B : Type 0} (f : A → B) (o : Option A) → is_some (option_map f o) ≡ is_some o
some_is f None = refl
some_is f (Some x) = refl

told_is : (t : Table) (x : Sort) (r : Option ℕ) → is_told_as x r ≡ is_told_by (sort_seen t x) (option_map (type_of t.shapes) r)
told_is t (sort.Type i) r = sym (some_is (type_of t.shapes) r)
told_is t sort.Nothing r = refl
told_is t sort.Unknown r = refl
told_is t sort.Blank r = refl
told_is t sort.Nil r = refl
told_is t (sort.Builtin b) r = refl
told_is t sort.Println r = refl
told_is t sort.Package r = refl
told_is t (sort.Value i) r = refl
told_is t (sort.Constant i c) r = refl
told_is t (sort.Open u) r = refl
told_is t (sort.OpenConstant c) r = refl
told_is t (sort.Results i) r = refl

pub sound_held : (t : Table) (h : Held) (s : State) → held_seen t h ≡ summary s → is_sound h ≡ knowledge.is_sound s
sound_held t h s e = ap sound_summary e ∙ sound_is s

told_held : (t : Table) (h : Held) (s : State) → held_seen t h ≡ summary s → is_told h ≡ knowledge.is_told s
told_held t h s e = told_is t h.stands h.right ∙ ap (λ (z : Summary). is_told_by z.stands z.right) e

-- of the heads and of the tails of equal lists
pub head_same : {A : Type 0} (x y : A) (xs ys : List A) → x ∷ xs ≡ y ∷ ys → x ≡ y
head_same x y xs ys e = cc

pub tail_same : {A : Type 0} (x y : A) (xs ys : List A) → x ∷ xs ≡ y ∷ ys → xs ≡ ys
tail_same x y xs ys e = cc

no_head : {A : Type 0} (x : A) (xs : List A) → [] ≡ x ∷ xs → ⊥
no_head x xs e = cc

module _ (t : Table) (test : Held → Bool) (state_test : State → Bool) (same : (h : Held) (s : State) → held_seen t h ≡ summary s → test h ≡ state_test s) where
  pub tests_are : (hs : List Held) (ss : List State) → all_seen t hs ≡ map summary ss → map test hs ≡ map state_test ss
  tests_are [] [] e = refl
  tests_are [] (s ∷ ss) e = absurd (no_head (summary s) (map summary ss) e)
  tests_are (h ∷ hs) [] e = absurd (no_head (held_seen t h) (all_seen t hs) (sym e))
  tests_are (h ∷ hs) (s ∷ ss) e =
      ap (λ b. b ∷ map test hs) (same h s (head_same (held_seen t h) (summary s) (all_seen t hs) (map summary ss) e))
      ∙ ap (λ bs. state_test s ∷ bs) (tests_are hs ss (tail_same (held_seen t h) (summary s) (all_seen t hs) (map summary ss) e))

pub sound_tests : (t : Table) (hs : List Held) (ss : List State) → all_seen t hs ≡ map summary ss → map is_sound hs ≡ map knowledge.is_sound ss
sound_tests t = tests_are t is_sound knowledge.is_sound (sound_held t)

pub told_tests : (t : Table) (hs : List Held) (ss : List State) → all_seen t hs ≡ map summary ss → map is_told hs ≡ map knowledge.is_told ss
told_tests t = tests_are t is_told knowledge.is_told (told_held t)

-- ---- what objects stand for

nothing_if : (b : Bool) → trees.Unknown ≡ stands_if b no_state
nothing_if true = refl
nothing_if false = refl

told_known : (o : Option Stands) → told_or o None ≡ known o
told_known None = refl
told_known (Some x) = refl

if_is : (t : Table) (b c : Bool) (x : Sort) (s : State) → b ≡ c → sort_seen t x ≡ s.stands → sort_seen t (sort_if b x) ≡ stands_if c s
if_is t true true x s e h = h
if_is t false false x s e h = refl
if_is t true false x s e h = absurd cc
if_is t false true x s e h = absurd cc

module _ (t : Table) (pick : Passing → Bool) (get : Standing → Sort) (is : (h : Held) (p : Passing) → get (standing_of h p) ≡ sort_if (pick p) h.stands) (b : Bool) where
  abbrev got : List Standing → List Stands
  got xs = map (λ x. sort_seen t (get x)) xs

  pub stand_at : (hs : List Held) (ss : List State) (ps : List Passing) (n : ℕ) → all_seen t hs ≡ map summary ss → length ps ≡ length hs → ((q : Passing) → slice_get ps n ≡ Some q → pick q ≡ b)
      → known (slice_get (got (standings_of hs ps)) n) ≡ stands_if b (state_of ss n)
  stand_at [] [] ps n e l f = nothing_if b
  stand_at [] (s ∷ ss) ps n e l f = absurd (no_head (summary s) (map summary ss) e)
  stand_at (h ∷ hs) [] ps n e l f = absurd (no_head (held_seen t h) (all_seen t hs) (sym e))
  stand_at (h ∷ hs) (s ∷ ss) [] n e l f = absurd (omega (arith, l))
  stand_at (h ∷ hs) (s ∷ ss) (p ∷ ps) zero e l f =
      ap (sort_seen t) (is h p) ∙ if_is t (pick p) b h.stands s (f p refl) (ap (λ (z : Summary). z.stands) (head_same (held_seen t h) (summary s) (all_seen t hs) (map summary ss) e))
  stand_at (h ∷ hs) (s ∷ ss) (p ∷ ps) (suc n) e l f =
      stand_at hs ss ps n (tail_same (held_seen t h) (summary s) (all_seen t hs) (map summary ss) e) (let m : length ps ≡ length hs = omega (arith, l) in m) f

module _ (t : Table) (w : World) (hs : List Held) (ss : List State) (ps : List Passing) (test : State → Bool)
    (e : all_seen t hs ≡ map summary ss) (l : length ps ≡ length hs) (pass : ArePassing test (outlines_in w) ss ps) where
  abbrev xs : List Standing
  xs = standings_of hs ps

  package_stands : (need : Needed) (n : ℕ) → known (slice_get (told_seen t xs need) n) ≡ stands_if (passes test (outlines_in w) ss need n) (state_of ss n)
  package_stands in_full n = stand_at t (λ p. p.in_full) (λ x. x.in_full) (λ h p. refl) (passes test (outlines_in w) ss in_full n) hs ss ps n e l (λ q h. pass.in_full n q h)
  package_stands at_once n = stand_at t (λ p. p.at_once) (λ x. x.at_once) (λ h p. refl) (passes test (outlines_in w) ss at_once n) hs ss ps n e l (λ q h. pass.at_once n q h)
  package_stands loosely n = stand_at t (λ p. true) (λ x. x.loosely) (λ h p. refl) true hs ss ps n e l (λ q h. refl)

  pub stand_for : StandsFor t w test xs ss
  stand_for need (object.Package n) = told_known (slice_get (told_seen t xs need) n) ∙ package_stands need n
  stand_for need (object.Local f n) = refl
  stand_for need object.Import = refl
  stand_for need (object.Predeclared x) = refl

-- ---- known types

if_known : (n : ℕ) (b : Bool) (x : Sort) → KnownSort n x → KnownSort n (sort_if b x)
if_known n true x h = h
if_known n false x h = tt

pub standings_known : (n : ℕ) (hs : List Held) (ps : List Passing) → AllHeld n hs → KnownStandings n (standings_of hs ps)
standings_known n [] ps a k x e = cc
standings_known n (h ∷ hs) [] a k x e = cc
standings_known n (h ∷ hs) (p ∷ ps) a zero x e =
    let is : standing_of h p ≡ x = cc in
    subst (KnownStanding n) is (record { in_full = if_known n p.in_full h.stands a.0.stands; at_once = if_known n p.at_once h.stands a.0.stands; loosely = a.0.stands })
standings_known n (h ∷ hs) (p ∷ ps) a (suc k) x e = standings_known n hs ps a.1 k x e

-- ---- as many

pub seen_length : (t : Table) (hs : List Held) (ss : List State) → all_seen t hs ≡ map summary ss → length hs ≡ length ss
seen_length t hs ss e = sym (length-map hs (held_seen t)) ∙ ap length e ∙ length-map ss summary
