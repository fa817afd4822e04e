-- The functions of a package without faults of names have names.
use Rattle.std.proofs.Common.{◌≡◌, ℕ, suc, Bool, true, false, ◌||◌, List, [], ◌∷◌, ◌++◌, Some, None, refl}
use Rattle.std.specs.Prelude.{if◌then◌else◌}
use Rattle.std.specs.List.{AllByRecursion}
use Rattle.go_base.specs.declared.fault.FaultCode.{FaultCode}
use Rattle.go_base.specs.declared.fault.FaultCode.TheVariants as code
use Rattle.go_tokens.specs.Tokens.{TokenList}
use Rattle.go_tree.specs.declared.context.Entity.{Entity}
use Rattle.go_tree.specs.declared.context.Entity.TheVariants as entity
use Rattle.go_tree.specs.declared.context.Block.{Block}
use Rattle.go_tree.specs.declared.event.Declaration.{Declaration}
use Rattle.go_tree.specs.declared.event.Event.{Event}
use Rattle.go_tree.specs.declared.event.Event.TheVariants as event
use Rattle.go_tree.specs.Clauses.{package_names, imports, is_outside, outside_declarations, missing_bodies}
use Rattle.go_tree.specs.Declarations.{Found, is_function, found, found_in, found_from}
use Rattle.go_tree.specs.Failures.{Failure, failing, place_if, is_earlier, least_from, least, or_else}
use Rattle.go_tree.specs.Faults.{clause_faults, name_faults, reported}
use Rattle.go_tree.specs.Units as names
use Rattle.go_tree.specs.Units.{Place, word, is_blank, bytes_at}
use Rattle.go_scopes_events.specs.Orders.{EachDeclared}
use Rattle.go_heads_added.specs.Appended.{HasNames}

some_left : (f : Failure) (fs : List Failure) → least_from (Some f) fs ≡ None → ⊥
some_left f [] e = cc
some_left f (g ∷ fs) e = by (is_earlier g f) (some_left g fs) (some_left f fs) e
  where
    by : (b : Bool) → (least_from (Some g) fs ≡ None → ⊥) → (least_from (Some f) fs ≡ None → ⊥) → least_from (if b then Some g else Some f) fs ≡ None → ⊥
    by true h k e = h e
    by false h k e = k e

least_none : (fs : List Failure) → least fs ≡ None → fs ≡ []
least_none [] e = refl
least_none (f ∷ fs) e = absurd (some_left f fs e)

clauses_none : (us : List names.Unit) → reported us ≡ None → clause_faults us ≡ []
clauses_none us e = least_none (clause_faults us) (first_none (least (clause_faults us)) e)
  where
    first_none : (o : _) → or_else o (least (name_faults us)) ≡ None → o ≡ None
    first_none None h = refl
    first_none (Some f) h = cc

third_none : (a b c d : List Failure) → a ++ b ++ c ++ d ≡ [] → c ≡ []
third_none [] [] [] d e = refl
third_none (x ∷ a) b c d e = cc
third_none [] (x ∷ b) c d e = cc
third_none [] [] (x ∷ c) d e = cc

failing_none : (c : FaultCode) (ss : List Place) → failing c ss ≡ [] → ss ≡ []
failing_none c [] e = refl
failing_none c (s ∷ ss) e = cc

test_false : (b : Bool) (s : Place) (ss : List Place) → place_if b s ss ≡ [] → b ≡ false
test_false true s ss e = cc
test_false false s ss e = refl

others_none : (b : Bool) (s : Place) (ss : List Place) → place_if b s ss ≡ [] → ss ≡ []
others_none true s ss e = cc
others_none false s ss e = e

not_blank : (e : Entity) (b : Block) (w : List ℕ) → is_outside e b w ≡ false → is_function e ≡ true → is_blank w ≡ false
not_blank entity.Function b w e h = front (is_blank w) _ e
  where
    front : (x y : Bool) → (x || y) ≡ false → x ≡ false
    front true y e = e
    front false y e = refl
not_blank entity.Constant b w e h = absurd (never h)
  where
    never : false ≡ true → ⊥
    never e = cc
not_blank entity.Type b w e h = absurd (never h)
  where
    never : false ≡ true → ⊥
    never e = cc
not_blank entity.Variable b w e h = absurd (never h)
  where
    never : false ≡ true → ⊥
    never e = cc
not_blank entity.Parameter b w e h = absurd (never h)
  where
    never : false ≡ true → ⊥
    never e = cc

abbrev Named : TokenList → Declaration → Type 0
Named ts d = is_function d.entity ≡ true → is_blank (word ts d.name) ≡ false

module _ (n : ℕ) (ts : TokenList) (ds : List Found) where
  named_in : (es : List Event) → outside_declarations (found_in n ts es ++ ds) ≡ [] → EachDeclared (Named ts) es × (outside_declarations ds ≡ [])
  named_in [] e = (tt, e)
  named_in (event.Declaration d ∷ es) e =
      let x = is_outside d.entity d.block (word ts d.name) in
      let r = named_in es (others_none x (bytes_at n ts d.name) (outside_declarations (found_in n ts es ++ ds)) e) in
      ((not_blank d.entity d.block (word ts d.name) (test_false x (bytes_at n ts d.name) (outside_declarations (found_in n ts es ++ ds)) e), r.0), r.1)
  named_in (event.Use u ∷ es) e = named_in es e
  named_in (event.Import p ∷ es) e = named_in es e
  named_in (event.Member m g i ∷ es) e = named_in es e
  named_in (event.Bodiless i j ∷ es) e = named_in es e
  named_in (event.Statement i j ∷ es) e = named_in es e
  named_in (event.Misplaced i j ∷ es) e = named_in es e
  named_in (event.SecondDefault w ∷ es) e = named_in es e

files_named : (n : ℕ) (us : List names.Unit) → outside_declarations (found_from n us) ≡ [] → AllByRecursion HasNames us
files_named n [] e = tt
files_named n (u ∷ us) e = let r = named_in n u.tokens (found_from (suc n) us) u.events e in (r.0, files_named (suc n) us r.1)

-- what is asked of names of functions, where the rule on these doesn't fail
pub clauses_named : (us : List names.Unit) → clause_faults us ≡ [] → AllByRecursion HasNames us
clauses_named us e =
    files_named 0 us
    (failing_none code.Outside (outside_declarations (found us))
    (third_none (failing code.PackageName (package_names us)) (failing code.Outside (imports us)) (failing code.Outside (outside_declarations (found us))) (failing code.Outside (missing_bodies (found us) us)) e))

pub have_names : (us : List names.Unit) → reported us ≡ None → AllByRecursion HasNames us
have_names us e = clauses_named us (clauses_none us e)
