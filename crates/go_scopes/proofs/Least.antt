-- The least of the faults of several rules is that of one rule after another.
use Rattle.std.proofs.Common.{◌≡◌, ◌∙◌, refl, sym, ap, ℕ, suc, Bool, true, false, Option, List, [], ◌∷◌, ◌++◌, ◌+◌, add-one}
use Rattle.go_base.specs.declared.fault.FaultCode.{FaultCode}
use Rattle.go_tokens.specs.Tokens.{TokenList}
use Rattle.go_tree.specs.declared.event.Event.{Event}
use Rattle.go_tree.specs.Units.{Unit, Place}
use Rattle.go_tree.specs.Failures.{Failure, fault, place_if, of_files, earlier, least_from}
use Rattle.go_scopes.specs.Noted.{noted}

pub least_from_append : (f : Option Failure) (a b : List Failure) → least_from f (a ++ b) ≡ least_from (least_from f a) b
least_from_append f [] b = refl
least_from_append f (g ∷ a) b = least_from_append (earlier f g) a b

-- more rules behind others
pub one_more : (f g h : Option Failure) (before behind : List Failure) → g ≡ least_from f before → h ≡ least_from g behind → h ≡ least_from f (before ++ behind)
one_more f g h before behind d e = e ∙ ap (λ x. least_from x behind) d ∙ sym (least_from_append f before behind)

pub noted_append : (f : Option Failure) (c : FaultCode) (a b : List Place) → noted f c (a ++ b) ≡ noted (noted f c a) c b
noted_append f c [] b = refl
noted_append f c (s ∷ a) b = noted_append (earlier f (fault c s)) c a b

pub noted_place_if : (f : Option Failure) (c : FaultCode) (t : Bool) (s : Place) (ss : List Place) → noted f c (place_if t s ss) ≡ noted (noted f c (place_if t s [])) c ss
noted_place_if f c true s ss = refl
noted_place_if f c false s ss = refl

-- a rule at one file, and at those behind it
pub noted_file : (f g : Option Failure) (c : FaultCode) (rule : ℕ → TokenList → List Event → List Place) (n : ℕ) (u : Unit) (all rest : List Unit) → all ≡ u ∷ rest → g ≡ noted f c (rule n u.tokens u.events) → noted g c (of_files rule (n + 1) rest) ≡ noted f c (of_files rule n all)
noted_file f g c rule n u all rest here e =
    ap (λ k. noted g c (of_files rule k rest)) (add-one n)
    ∙ ap (λ x. noted x c (of_files rule (suc n) rest)) e
    ∙ sym (noted_append f c (rule n u.tokens u.events) (of_files rule (suc n) rest))
    ∙ ap (λ l. noted f c (of_files rule n l)) (sym here)

-- more places of one rule
pub noted_more : (f g h : Option Failure) (c : FaultCode) (a b : List Place) → g ≡ noted f c a → h ≡ noted g c b → h ≡ noted f c (a ++ b)
noted_more f g h c a b d e = e ∙ ap (λ x. noted x c b) d ∙ sym (noted_append f c a b)

-- the places of a rule that is told by another value
pub noted_by : {A : Type 0} (f g : Option Failure) (c : FaultCode) (rule : A → List Place) (x y : A) → g ≡ noted f c (rule x) → x ≡ y → g ≡ noted f c (rule y)
noted_by f g c rule x y e h = e ∙ ap (λ z. noted f c (rule z)) h
