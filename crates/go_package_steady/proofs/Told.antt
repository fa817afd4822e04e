-- At each token at which a type is declared a declaration of it is told.
use Rattle.std.proofs.Common.{ℕ, suc, inl, inr, List, [], ◌∷◌, ◌++◌, refl}
use Rattle.std.specs.List.{AllByRecursion}
use Rattle.go_grammar.specs.declared.kind.Kind.{Kind}
use Rattle.go_grammar.specs.declared.kind.Kind.TheVariants as kind
use Rattle.go_grammar.specs.declared.kind.Sort.TheVariants as declaring
use Rattle.go_grammar.specs.Grammar.{ends_named}
use Rattle.go_grammar.specs.Trees.{Tree, node, Trees, none, more, skip}
use Rattle.go_tree.specs.declared.context.Context.{Context}
use Rattle.go_tree.specs.declared.event.Event.{Event}
use Rattle.go_tree.specs.Contexts.{enter}
use Rattle.go_tree.specs.Events.{events, events_of, own_events, statement_events, is_more, begin, pass}
use Rattle.go_package_steady.specs.Rising.{place_in, type_places, all_type_places}
use Rattle.go_package_steady.specs.Told.{IsTold, TellsType, TypesAreTold}

told_in_front : (e : Event) (xs ys : List Event) → IsTold e xs → IsTold e (xs ++ ys)
told_in_front e [] ys h = absurd h
told_in_front e (x ∷ xs) ys (inl h) = inl h
told_in_front e (x ∷ xs) ys (inr h) = inr (told_in_front e xs ys h)

told_behind : (e : Event) (xs ys : List Event) → IsTold e ys → IsTold e (xs ++ ys)
told_behind e [] ys h = h
told_behind e (x ∷ xs) ys h = inr (told_behind e xs ys h)

in_front : (xs ys : List Event) (i : ℕ) → TellsType xs i → TellsType (xs ++ ys) i
in_front xs ys i h = record { declaration = h.declaration; told = told_in_front _ xs ys h.told; name = h.name; type = h.type; manner = h.manner }

behind : (xs ys : List Event) (i : ℕ) → TellsType ys i → TellsType (xs ++ ys) i
behind xs ys i h = record { declaration = h.declaration; told = told_behind _ xs ys h.told; name = h.name; type = h.type; manner = h.manner }

all_in_front : (xs ys : List Event) (is : List ℕ) → AllByRecursion (TellsType xs) is → AllByRecursion (TellsType (xs ++ ys)) is
all_in_front xs ys [] h = tt
all_in_front xs ys (i ∷ is) h = (in_front xs ys i h.0, all_in_front xs ys is h.1)

all_behind : (xs ys : List Event) (is : List ℕ) → AllByRecursion (TellsType ys) is → AllByRecursion (TellsType (xs ++ ys)) is
all_behind xs ys [] h = tt
all_behind xs ys (i ∷ is) h = (behind xs ys i h.0, all_behind xs ys is h.1)

all_both : (es : List Event) (is js : List ℕ) → AllByRecursion (TellsType es) is → AllByRecursion (TellsType es) js → AllByRecursion (TellsType es) (is ++ js)
all_both es [] js h g = g
all_both es (i ∷ is) js h g = (h.0, all_both es is js h.1 g)

own_told : (c : Context) (d : Kind) (i j : ℕ) (ps : Trees) → AllByRecursion (TellsType (own_events c d i j ps)) (place_in d i)
own_told c (kind.Specification declaring.Type) i j ps = (record { declaration = _; told = inl refl; name = refl; type = refl; manner = refl }, tt)
own_told c d i j ps = tt

node_told : (c : Context) (d : Kind) (i j : ℕ) (ps : Trees) → AllByRecursion (TellsType (events_of (begin c d) d i j ps 0 ps)) (all_type_places ps)
    → AllByRecursion (TellsType (statement_events c.listed i j ++ own_events c d i j ps ++ events_of (begin c d) d i j ps 0 ps)) (place_in d i ++ all_type_places ps)
node_told c d i j ps h =
    let rest = events_of (begin c d) d i j ps 0 ps in
    let front = statement_events c.listed i j ++ own_events c d i j ps in
    all_both (front ++ rest) (place_in d i) (all_type_places ps)
    (all_in_front front rest (place_in d i) (all_behind (statement_events c.listed i j) (own_events c d i j ps) (place_in d i) (own_told c d i j ps)))
    (all_behind front rest (all_type_places ps) h)

mutual
  told : (c : Context) (t : Tree) → AllByRecursion (TellsType (events c t)) (type_places t)
  told c (node d i j ps) =
      node_told c d i j ps (all_told (begin c d) d i j ps 0 ps)

  all_told : (c : Context) (d : Kind) (i j : ℕ) (ps : Trees) (n : ℕ) (qs : Trees) → AllByRecursion (TellsType (events_of c d i j ps n qs)) (all_type_places qs)
  all_told c d i j ps n none = tt
  all_told c d i j ps n (skip qs) = all_told c d i j ps (suc n) qs
  all_told c d i j ps n (more p qs) =
      let here = events (enter c d i j ps (ends_named ps) n p (is_more qs)) p in
      let rest = events_of (pass c p) d i j ps (suc n) qs in
      all_both (here ++ rest) (type_places p) (all_type_places qs) (all_in_front here rest (type_places p) (told (enter c d i j ps (ends_named ps) n p (is_more qs)) p))
      (all_behind here rest (all_type_places qs) (all_told (pass c p) d i j ps (suc n) qs))

pub types_told : TypesAreTold
types_told c t = told c t
