-- Worked examples.
use Rattle.std.proofs.Common.{◌≡◌, ℕ, zero, suc, true, false, List, [], ◌∷◌, Some, refl, subst, arith}
use Rattle.std.specs.Prelude.{slice_get}
use Rattle.std.specs.Char.{encode_utf8}
use Rattle.std.proofs.lemmas.Option.{same_Some}
use Rattle.go_tokens.specs.Literals.{is_digit_of, letter_base}
use Rattle.go_tree.specs.declared.object.Object.{Object}
use Rattle.go_tree.specs.declared.object.Object.TheVariants as object
use Rattle.go_types.specs.Relations.{Rights}
use Rattle.go_types_relations.specs.Questions.{answers}
use Rattle.go_types_relations.specs.Tests.{is_assignable}
use Rattle.go_exprs_rules.specs.Faults.{sooner}
use Rattle.go_exprs_rules.specs.Scopes.{Needed, Scope}
use Rattle.go_exprs_rules.specs.Sentences.{Word, rights, locals, functions, sorts, scope_of}
use Rattle.go_exprs_rules.specs.Sorts.{Stands, known}
use Rattle.go_stmts_limits.specs.Limits.{StandsIsWithin, AllStandWithin, RightsAreWithin, ScopeIsWithin}
use Rattle.go_stmts_limits.specs.Examples.{Examples}
use Rattle.go_stmts_limits.proofs.Within.{MaybeWithin}
use Rattle.go_stmts_limits.proofs.Values.{EntriesWithin}

module _ (limit : Scope) where
  rights_hold : (rs : Rights) → EntriesWithin limit rs → RightsAreWithin limit rs
  rights_hold [] w n r h = cc
  rights_hold (o ∷ os) w zero r h = subst (MaybeWithin limit) (same_Some o (Some r) h) w.0
  rights_hold (o ∷ os) w (suc n) r h = rights_hold os w.1 n r h

  stands_hold : (xs : List Stands) (n : ℕ) → AllStandWithin limit xs → StandsIsWithin limit (known (slice_get xs n))
  stands_hold [] n w = tt
  stands_hold (x ∷ xs) zero w = w.0
  stands_hold (x ∷ xs) (suc n) w = stands_hold xs n w.1

module _ (ws : List Word) where
  all_rights : EntriesWithin (scope_of ws) rights
  all_rights = ((omega arith, (λ h. refl), tt), ((tt, (tt, tt)), (tt, (tt, (((tt, tt), (tt, tt)), tt)))))

  all_locals : AllStandWithin (scope_of ws) locals
  all_locals = (tt, (tt, (tt, (tt, (tt, (tt, ((omega arith, (λ h. refl), tt), (tt, (tt, (((tt, (tt, tt)), (tt, tt)), (tt, (tt, (tt, (tt, (tt, (tt, (tt, (tt, (tt, (tt, (tt, tt)))))))))))))))))))))

  all_functions : AllStandWithin (scope_of ws) functions
  all_functions = ((tt, (tt, (tt, tt))), ((tt, tt), tt))

  each_object : (need : Needed) (o : Object) → StandsIsWithin (scope_of ws) (sorts need o)
  each_object need (object.Local f n) = stands_hold (scope_of ws) locals n all_locals
  each_object need (object.Package n) = stands_hold (scope_of ws) functions n all_functions
  each_object need o = tt

  scope_within : ScopeIsWithin (scope_of ws) (scope_of ws)
  scope_within = record { judged = refl; front = λ n l. refl; rights = rights_hold (scope_of ws) rights all_rights; objects = each_object }

pub examples : Examples
unfolding sooner answers is_assignable is_digit_of letter_base encode_utf8
examples = record {
  scope = scope_within;
  behind = λ ws n. omega arith;
  largest = (omega arith, (λ h. refl), tt);
  larger = λ w. let wrong : true ≡ false = w.1 refl in cc;
  inner = λ w. let wrong : true ≡ false = w.1 refl in cc;
  judged = refl;
  unjudged = refl;
}
