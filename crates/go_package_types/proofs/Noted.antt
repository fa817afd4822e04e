-- The least fault of a specification, by bytes, taken together with one that may be there.
use Rattle.std.proofs.Common.{◌≡◌, ℕ, Bool, true, false, List, [], ◌∷◌, length, map, Option, Some, None, refl, ap, sym, subst, ◌∙◌}
use Rattle.std.specs.Option.{option_map}
use Rattle.go_tokens.specs.Tokens.{TokenList, IsTokenList, AreOrdered, span_of}
use Rattle.go_tree.specs.Failures.{Failure, least_from}
use Rattle.go_tree.specs.Units.{bytes_of}
use Rattle.go_exprs_rules.specs.declared.fault.TypeFault.{TypeFault}
use Rattle.go_exprs_rules.specs.Faults.{least, earlier}
use Rattle.go_package_defs.specs.Answer.{failure_at, failures_at}
use Rattle.go_package_defs.specs.Sources.{Package, tokens_in}
use Rattle.go_package_types.specs.Whole.{unless_failing}
use Rattle.go_package_laws.specs.Places.{EachFault}
use Rattle.go_package_types.specs.Merged.{merged, failure_in}
use Rattle.go_package_types.specs.Places.{stands}
use Rattle.go_package_types.proofs.Kept.{keeps_least}
use Rattle.go_package_types.proofs.Merged.{least_merged}

pointwise : {A B : Type 0} {f g : A → B} → ((x : A) → f x ≡ g x) → f ≡ g
pointwise h = λ i x. h x i

abbrev failure_by : ℕ → TokenList → TypeFault → Failure
failure_by n ts f = record { code = f.code; place = bytes_of n ts f.first f.last }

module _ (p : Package) (n : ℕ) (ts : TokenList) (is : ts ≡ tokens_in p n) (number : ts.file ≡ n) (list : IsTokenList ts) where
  in_is : failure_in ts ≡ failure_at p n
  in_is = pointwise (λ f. ap (λ m. failure_by m ts f) number ∙ ap (λ l. failure_by n l f) is)

  pub noted : (fs : List TypeFault) (found o : Option Failure) (fault : Option TypeFault) → EachFault (stands ts) fs → fault ≡ least fs → o ≡ merged found (option_map (failure_in ts) fault) → o ≡ least_from found (failures_at p n fs)
  noted fs found o fault each least_is e =
      let ordered : AreOrdered 0 (map span_of (tokens_in p n).tokens) (length ts.text) = subst (λ (l : TokenList). AreOrdered 0 (map span_of l.tokens) (length ts.text)) is list.tokens in
      let there : EachFault (stands (tokens_in p n)) fs = subst (λ (l : TokenList). EachFault (stands l) fs) is each in
      e ∙ ap (λ f. merged found (option_map (failure_in ts) f)) least_is ∙ ap (λ (g : TypeFault → Failure). merged found (option_map g (least fs))) in_is
      ∙ ap (merged found) (sym (keeps_least p n (length ts.text) ordered fs there)) ∙ sym (least_merged found (failures_at p n fs))

-- ---- where the own rule of a specification is judged

some_earlier : (f : TypeFault) (o : Option TypeFault) → earlier (Some f) o ≡ None → ⊥
some_earlier f None e = cc
some_earlier f (Some g) e = cc

least_none : (fs : List TypeFault) → None ≡ least fs → fs ≡ []
least_none [] e = refl
least_none (f ∷ fs) e = absurd (some_earlier f (least fs) (sym e))

unless_nothing : (b : Bool) (gs fs : List TypeFault) → unless_failing false gs fs ≡ [] → unless_failing b gs fs ≡ []
unless_nothing true gs [] e = refl
unless_nothing false gs [] e = e
unless_nothing b gs (f ∷ fs) e = e

-- nothing fails, blocked or not
pub nothing_fails : (b : Bool) (gs fs : List TypeFault) → None ≡ least (unless_failing false gs fs) → None ≡ least (unless_failing b gs fs)
nothing_fails b gs fs e = ap least (sym (unless_nothing b gs fs (least_none (unless_failing false gs fs) e)))

-- the type or a value fails
pub inner_fails : (b : Bool) (f : TypeFault) (gs fs : List TypeFault) → Some f ≡ least (unless_failing true gs fs) → Some f ≡ least (unless_failing b gs fs)
inner_fails b f gs [] e = absurd cc
inner_fails b f gs (x ∷ fs) e = e

-- the own rule alone fails
pub own_fails : (b : Bool) (o : Option TypeFault) (gs fs : List TypeFault) → None ≡ least (unless_failing true gs fs) → o ≡ least (unless_failing false gs fs) → b ≡ false → o ≡ least (unless_failing b gs fs)
own_fails true o gs fs e h n = absurd cc
own_fails false o gs fs e h n = h

pub blocked_fails : (b : Bool) (gs fs : List TypeFault) → None ≡ least (unless_failing true gs fs) → b ≡ true → None ≡ least (unless_failing b gs fs)
blocked_fails true gs fs e n = e
blocked_fails false gs fs e n = absurd cc
