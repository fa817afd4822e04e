-- Objects that are equal but for the functions of locals mean the same where objects stand for the same.
use Rattle.std.proofs.Common.{◌≡◌, ℕ, Option, Some, None, ap, ◌∙◌, arith}
use Rattle.go_tree.specs.declared.object.Object.{Object}
use Rattle.go_tree.specs.declared.object.Object.TheVariants as object
use Rattle.go_tree.specs.declared.object.Predeclared.{Predeclared}
use Rattle.go_exprs_rules.specs.Scopes.{Scope}
use Rattle.go_package_defs.specs.Bodies.{own_object}
use Rattle.go_package_alike.specs.Scopes.{said, MeanSame, StandSame}

-- which of the five sorts of objects it is
abbrev shape : Option Object → ℕ
shape None = 0
shape (Some object.Import) = 1
shape (Some (object.Predeclared p)) = 2
shape (Some (object.Package n)) = 3
shape (Some (object.Local f n)) = 4

abbrev number_of : Option Object → ℕ
number_of (Some (object.Package n)) = n
number_of (Some (object.Local f n)) = n
number_of o = 0

abbrev name_of : Predeclared → Option Object → Predeclared
name_of d (Some (object.Predeclared p)) = p
name_of d o = d

pub mean_same : (s t : Scope) → StandSame s t → (o q : Option Object) → own_object q ≡ own_object o → MeanSame (said s) (said t) o q
mean_same s t a None None e = tt
mean_same s t a (Some object.Import) (Some object.Import) e = tt
mean_same s t a (Some (object.Predeclared m)) (Some (object.Predeclared n)) e = ap (name_of m) e
mean_same s t a (Some (object.Package m)) (Some (object.Package n)) e = (λ need. a.sorts need (object.Package m) (object.Package n) e, a.referents n ∙ ap s.referents (ap number_of e))
mean_same s t a (Some (object.Local f m)) (Some (object.Local g n)) e = (λ need. a.sorts need (object.Local f m) (object.Local g n) e, ap number_of e)
mean_same s t a None (Some object.Import) e = absurd (omega (arith, ap shape e))
mean_same s t a None (Some (object.Predeclared n)) e = absurd (omega (arith, ap shape e))
mean_same s t a None (Some (object.Package n)) e = absurd (omega (arith, ap shape e))
mean_same s t a None (Some (object.Local g n)) e = absurd (omega (arith, ap shape e))
mean_same s t a (Some object.Import) None e = absurd (omega (arith, ap shape e))
mean_same s t a (Some object.Import) (Some (object.Predeclared n)) e = absurd (omega (arith, ap shape e))
mean_same s t a (Some object.Import) (Some (object.Package n)) e = absurd (omega (arith, ap shape e))
mean_same s t a (Some object.Import) (Some (object.Local g n)) e = absurd (omega (arith, ap shape e))
mean_same s t a (Some (object.Predeclared m)) None e = absurd (omega (arith, ap shape e))
mean_same s t a (Some (object.Predeclared m)) (Some object.Import) e = absurd (omega (arith, ap shape e))
mean_same s t a (Some (object.Predeclared m)) (Some (object.Package n)) e = absurd (omega (arith, ap shape e))
mean_same s t a (Some (object.Predeclared m)) (Some (object.Local g n)) e = absurd (omega (arith, ap shape e))
mean_same s t a (Some (object.Package m)) None e = absurd (omega (arith, ap shape e))
mean_same s t a (Some (object.Package m)) (Some object.Import) e = absurd (omega (arith, ap shape e))
mean_same s t a (Some (object.Package m)) (Some (object.Predeclared n)) e = absurd (omega (arith, ap shape e))
mean_same s t a (Some (object.Package m)) (Some (object.Local g n)) e = absurd (omega (arith, ap shape e))
mean_same s t a (Some (object.Local f m)) None e = absurd (omega (arith, ap shape e))
mean_same s t a (Some (object.Local f m)) (Some object.Import) e = absurd (omega (arith, ap shape e))
mean_same s t a (Some (object.Local f m)) (Some (object.Predeclared n)) e = absurd (omega (arith, ap shape e))
mean_same s t a (Some (object.Local f m)) (Some (object.Package n)) e = absurd (omega (arith, ap shape e))
