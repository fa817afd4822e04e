-- A call that stands in place of a window, and the function that it calls.
use Rattle.std.specs.Prelude.{◌≡◌, ℕ, Bool, true, false, List, [], ◌∷◌, length, drop, slice_set, Option, Some, None}
use Rattle.go_types.specs.Trees.{TypeTree}
use Rattle.go_types.specs.Relations.{Rights}
use Rattle.go_types_relations.specs.Zeros.{Zero}
use Rattle.go_typed.specs.declared.form.Form.{Form}
use Rattle.go_typed.specs.Trees.{Label, Typed, typed, Typeds, none, more}
use Rattle.go_meaning.specs.Values.{Value, Function, nth, zero_value}
use Rattle.go_meaning.specs.Operations.{Drop}
use Rattle.go_meaning.specs.Plans.{Give, Local, Declare, Ignore, Perform, Apply, AssignTo, ZeroTo, Returns, Sequence, Once}
use Rattle.go_meaning.specs.Planning.{plan}
use Rattle.go_meaning_simulation.specs.Links.{joined}

-- ---- what a call does to the frame of its caller

-- an argument: a local, or a constant
pub data Argument : Type 0 where
  Passed : ℕ → Argument
  Given : Value → Argument

abbrev pub argument_of : List Value → Argument → Value
argument_of f (Passed i) = nth f i
argument_of f (Given v) = v

abbrev pub arguments : List Value → List Argument → List Value
arguments f [] = []
arguments f (x ∷ xs) = argument_of f x ∷ arguments f xs

-- the values of locals
abbrev pub results : List Value → List ℕ → List Value
results f [] = []
results f (i ∷ is) = nth f i ∷ results f is

-- values into locals, one after the other; where there is no local the value is dropped
abbrev pub stored : List (Option ℕ) → List Value → List Value → List Value
stored [] vs f = f
stored (Some i ∷ os) vs f = stored os (drop 1 vs) (slice_set f i (nth vs 0))
stored (None ∷ os) vs f = stored os (drop 1 vs) f

-- a local that is declared, with its zero value
pub record Fresh : Type 0 where
  pub local : ℕ
  pub zero : Zero

abbrev pub ready : List Fresh → List Value → List Value
ready [] f = f
ready (y ∷ ys) f = ready ys (slice_set f y.local (zero_value y.zero))

abbrev pub all_passed : List ℕ → List Argument
all_passed [] = []
all_passed (i ∷ is) = Passed i ∷ all_passed is

-- ---- trees, by their plans

module _ (rights : Rights) where
  pub data AreArguments : List Argument → Typeds TypeTree → Type 0 where
    no_arguments : AreArguments [] none
    passed : {xs : List Argument} {n i j : ℕ} {f : Form} {e : Label TypeTree} {ps ts : Typeds TypeTree} → plan rights f e ps ≡ Once (Local n) → AreArguments xs ts →
        AreArguments (Passed n ∷ xs) (more (typed f i j e ps) ts)
    given : {xs : List Argument} {v : Value} {i j : ℕ} {f : Form} {e : Label TypeTree} {ps ts : Typeds TypeTree} → plan rights f e ps ≡ Once (Give v) → AreArguments xs ts →
        AreArguments (Given v ∷ xs) (more (typed f i j e ps) ts)

  -- a call of the function h
  pub data IsCall (h : ℕ) (xs : List Argument) : Typed TypeTree → Type 0 where
    calls : {f g : Form} {i j a b : ℕ} {e c : Label TypeTree} {ps ts : Typeds TypeTree} → plan rights f e (more (typed g a b c ps) ts) ≡ Once Apply →
        plan rights g c ps ≡ Once (Give (Function h)) → AreArguments xs ts → IsCall h xs (typed f i j e (more (typed g a b c ps) ts))

  -- targets, and the call behind them
  pub data AreTargets (h : ℕ) (xs : List Argument) : List (Option ℕ) → Typeds TypeTree → Type 0 where
    source : {t : Typed TypeTree} → IsCall h xs t → AreTargets h xs [] (more t none)
    into : {os : List (Option ℕ)} {n i j : ℕ} {f : Form} {e : Label TypeTree} {ps ts : Typeds TypeTree} → plan rights f e ps ≡ Once (Local n) → AreTargets h xs os ts →
        AreTargets h xs (Some n ∷ os) (more (typed f i j e ps) ts)
    dropped : {os : List (Option ℕ)} {i j : ℕ} {f : Form} {e : Label TypeTree} {ps ts : Typeds TypeTree} → plan rights f e ps ≡ Once Ignore → AreTargets h xs os ts →
        AreTargets h xs (None ∷ os) (more (typed f i j e ps) ts)

  -- what stands in place of a window: locals that are declared, then the call
  pub data IsGap (h : ℕ) (xs : List Argument) (os : List (Option ℕ)) : List Fresh → Typeds TypeTree → Type 0 where
    alone : {f : Form} {i j : ℕ} {e : Label TypeTree} {t : Typed TypeTree} → os ≡ [] → plan rights f e (more t none) ≡ Once (Perform Drop) → IsCall h xs t →
        IsGap h xs os [] (more (typed f i j e (more t none)) none)
    assigns : {f : Form} {i j : ℕ} {e : Label TypeTree} {ps : Typeds TypeTree} → plan rights f e ps ≡ Once (AssignTo (length os)) → AreTargets h xs os ps →
        IsGap h xs os [] (more (typed f i j e ps) none)
    declares : {ys : List Fresh} {n : ℕ} {z : Zero} {f g k : Form} {i j i1 j1 i2 j2 : ℕ} {e c l : Label TypeTree} {ps qs ts : Typeds TypeTree} →
        plan rights f e (more (typed g i1 j1 c (more (typed k i2 j2 l ps) qs)) none) ≡ Once Sequence → plan rights g c (more (typed k i2 j2 l ps) qs) ≡ Once (ZeroTo 1 z) →
        plan rights k l ps ≡ Once (Declare n) → IsGap h xs os ys ts →
        IsGap h xs os (record { local = n; zero = z } ∷ ys) (more (typed f i j e (more (typed g i1 j1 c (more (typed k i2 j2 l ps) qs)) none)) ts)

  -- A return of what a call of the function h gives, or a call and then a return of nothing; whether what is given is returned.
  pub data IsTail (h : ℕ) (xs : List Argument) : Bool → Typeds TypeTree → Type 0 where
    returns_call : {f : Form} {i j : ℕ} {e : Label TypeTree} {t : Typed TypeTree} →
        plan rights f e (more t none) ≡ Once Returns → IsCall h xs t → IsTail h xs true (more (typed f i j e (more t none)) none)
    call_then_return : {f g : Form} {i j a b : ℕ} {e c : Label TypeTree} {t : Typed TypeTree} →
        plan rights f e (more t none) ≡ Once (Perform Drop) → IsCall h xs t → plan rights g c none ≡ Once Returns →
        IsTail h xs false (more (typed f i j e (more t none)) (more (typed g a b c none) none))

  -- the return of these locals, which is missing where there are none
  pub data IsReturn : List ℕ → Typeds TypeTree → Type 0 where
    no_return : IsReturn [] none
    gives_back : {rs : List ℕ} {f : Form} {i j : ℕ} {e : Label TypeTree} {ps : Typeds TypeTree} → plan rights f e ps ≡ Once Returns → AreArguments (all_passed rs) ps →
        IsReturn rs (more (typed f i j e ps) none)

  -- a function of these statements, and a return
  pub data IsBody (ws : Typeds TypeTree) (rs : List ℕ) : Typed TypeTree → Type 0 where
    body : {f g : Form} {i j a b : ℕ} {e c : Label TypeTree} {back : Typeds TypeTree} → plan rights f e (more (typed g a b c (joined ws back)) none) ≡ Once Sequence →
        plan rights g c (joined ws back) ≡ Once Sequence → IsReturn rs back → IsBody ws rs (typed f i j e (more (typed g a b c (joined ws back)) none))
