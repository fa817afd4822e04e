-- What the law on ordered bodies asks is met by a body whose clause declares a type.
use Rattle.std.proofs.Common.{◌≡◌, ℕ, zero, suc, ◌≤◌, List, [], ◌∷◌, None, refl, arith}
use Rattle.go_tree.specs.declared.object.Object.{Object}
use Rattle.go_tree.specs.declared.object.Object.TheVariants as object
use Rattle.std.specs.Prelude.{slice_get}
use Rattle.go_types.specs.Relations.{Rights}
use Rattle.go_types_relations.specs.Questions.{entry}
use Rattle.go_exprs_rules.specs.Scopes.{Needed, value}
use Rattle.go_exprs_rules.specs.Sentences as expressions
use Rattle.go_exprs_rules.specs.Sorts.{Stands, known}
use Rattle.go_package_laws.specs.Reach.{MaybeWithin, StandsWithin}
use Rattle.go_stmts_defs.specs.Laying.{type_number}
use Rattle.go_stmts_variables.specs.Asked.{AskedIsMet, body, before, after, standing}
use Rattle.go_stmts_variables.specs.Law.{BodiesRead}
use Rattle.go_stmts_steady.specs.Asked.{OrderIsMet}
use Rattle.go_stmts_steady.specs.Ordered.{below, Ordered, KnowsBelow}
use Rattle.go_stmts_steady.proofs.Steadying.{StatementsRenamed, ordered_steady}

abbrev AllWithin : Rights → Type 0
AllWithin [] = Unit {0}
AllWithin (r ∷ rs) = MaybeWithin (below 5) r × AllWithin rs

abbrev AllStand : List Stands → Type 0
AllStand [] = Unit {0}
AllStand (x ∷ xs) = StandsWithin (below 5) x × AllStand xs

right_within : (rs : Rights) → AllWithin rs → (n : ℕ) → MaybeWithin (below 5) (entry rs n)
right_within [] w n = tt
right_within (r ∷ rs) w zero = w.0
right_within (r ∷ rs) w (suc n) = right_within rs w.1 n

stands_within : (xs : List Stands) → AllStand xs → (n : ℕ) → StandsWithin (below 5) (known (slice_get xs n))
stands_within [] w n = tt
stands_within (x ∷ xs) w zero = w.0
stands_within (x ∷ xs) w (suc n) = stands_within xs w.1 n

rights_are : AllWithin before.around.rights
rights_are = (tt, ((tt, (tt, tt)), (tt, (tt, (((tt, tt), (tt, tt)), (tt, tt))))))

locals_are : AllStand expressions.locals
locals_are = (tt, (tt, (tt, (tt, (tt, (tt, (tt, (refl, (refl, (((tt, (tt, tt)), (tt, tt)), (tt, (refl, (tt, (tt, (tt, (tt, (refl, (refl, (refl, (refl, (refl, tt)))))))))))))))))))))

functions_are : AllStand expressions.functions
functions_are = ((tt, (tt, (tt, tt))), ((tt, tt), tt))

none_from : (n : ℕ) → 5 ≤ n → entry before.around.rights n ≡ None
none_from zero l = absurd (omega (arith, l))
none_from (suc zero) l = absurd (omega (arith, l))
none_from (suc (suc zero)) l = absurd (omega (arith, l))
none_from (suc (suc (suc zero))) l = absurd (omega (arith, l))
none_from (suc (suc (suc (suc zero)))) l = absurd (omega (arith, l))
none_from (suc (suc (suc (suc (suc zero))))) l = refl
none_from (suc (suc (suc (suc (suc (suc n)))))) l = refl

sorts_within : (need : Needed) (o : Object) → StandsWithin (below 5) (before.around.sorts need o)
sorts_within need (object.Local f n) = stands_within expressions.locals locals_are n
sorts_within need (object.Package n) = stands_within expressions.functions functions_are n
sorts_within need o = tt

known_below : KnowsBelow 5 before
known_below = record { rights = λ n l. right_within before.around.rights rights_are n; none = none_from; sorts = sorts_within; locals = (refl, tt); tag = tt; results = tt }

five : 5 ≤ 5
five = omega arith

in_order : Ordered (type_number before) 5 body
in_order = (tt, ((tt, ((tt, tt), ((tt, ((tt, ((tt, tt), tt)), ((tt, ((five, ((tt, tt), tt)), tt)), tt))), tt))), tt))

pub order_is_met : StatementsRenamed → BodiesRead → AskedIsMet → OrderIsMet
order_is_met renames bodies m = record {
  asked = m;
  known = known_below;
  ordered = in_order;
  read = bodies standing before after value body m.shaped m.stand m.proper m.declares m.good m.fits m.tagged (ordered_steady renames 5 before value body known_below tt in_order);
}
