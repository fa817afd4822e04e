-- What is found of one object, as it is held.
use Rattle.std.proofs.Common.{◌≡◌, ℕ, ◌<◌, List, [], ◌∷◌, length, map, Option, Some, None, refl, ap, sym, subst, ◌∙◌}
use Rattle.std.specs.Prelude.{slice_get, if◌then◌else◌, IfSome}
use Rattle.std.specs.Option.{option_map}
use Rattle.std.proofs.lemmas.Option.{slice_get-map, same_Some}
use Rattle.go_grammar.specs.Trees.{Tree}
use Rattle.go_tree.specs.declared.context.Entity.{Entity}
use Rattle.go_tree.specs.declared.context.Entity.TheVariants as entity
use Rattle.go_types.specs.Trees.{TypeTree}
use Rattle.go_types.specs.Tables.{Table, type_of}
use Rattle.go_typed.specs.declared.sort.Sort.TheVariants as sort
use Rattle.go_typed.specs.Trees as trees
use Rattle.go_exprs_rules.specs.declared.fault.TypeFault.{TypeFault}
use Rattle.go_exprs_rules.specs.Faults.{least}
use Rattle.go_exprs_rules.specs.Scopes.{Scope}
use Rattle.go_exprs_rules.specs.Sorts.{Stands}
use Rattle.go_exprs_engine.specs.Literals.{AllRead}
use Rattle.go_package_defs.specs.Declarations.{Specification, is_alone}
use Rattle.go_package_defs.specs.Knowledge.{Outline, State, no_state, free_scope, told_scope}
use Rattle.go_package_defs.specs.Sources.{Package}
use Rattle.go_package_defs.specs.Verdicts.{own_type, state_by, first_state, own_value, own_faults, value_state, type_state, type_faults, typed_type, right_found}
use Rattle.go_declarations.specs.declared.judging.Verdict.{Verdict}
use Rattle.go_declarations.specs.Judged.{PartRead}
use Rattle.go_declarations.specs.Reads.{SpecificationRead}
use Rattle.go_declarations.specs.States.{ShowsState}
use Rattle.go_package_rounds.specs.declared.held.Held.{Held}
use Rattle.go_package_rounds.specs.Held.{Summary, summary, held_seen, KnownRight}

pub same_summary : (a b : Summary) → a.right ≡ b.right → a.stands ≡ b.stands → a.fault ≡ b.fault → a.assigning ≡ b.assigning → a ≡ b
same_summary a b r s f g = λ i. record { right = r i; stands = s i; fault = f i; assigning = g i }

pub value_shown : (t : Table) (v : Verdict) (s : Scope) (d : Specification) (c : ℕ) → ShowsState t v (value_state s d c (own_faults s d c))
    → held_seen t (record { right = None; stands = v.stands; fault = v.fault; assigning = v.assigning }) ≡ summary (value_state s d c (own_faults s d c))
value_shown t v s d c h = same_summary (held_seen t (record { right = None; stands = v.stands; fault = v.fault; assigning = v.assigning })) (summary (value_state s d c (own_faults s d c))) refl h.stands h.fault h.assigning

pub type_shown : (t : Table) (r : Option ℕ) (named : ℕ) (f : Option TypeFault) (own : TypeTree) (told free : Scope) (d : Specification)
    → option_map (type_of t.shapes) r ≡ right_found (type_faults told d) (typed_type told d) → type_of t.shapes named ≡ own → f ≡ least (type_faults free d)
    → held_seen t (record { right = r; stands = sort.Type named; fault = f; assigning = None }) ≡ summary (type_state own told free d)
type_shown t r named f own told free d a b e =
    same_summary (held_seen t (record { right = r; stands = sort.Type named; fault = f; assigning = None })) (summary (type_state own told free d)) a (ap (λ x. let y : Stands = trees.IsType x in y) b) e refl

-- the literals of one value
value_read : (texts : ℕ → List ℕ) (o : Option Tree) → ((t : Tree) → o ≡ Some t → AllRead texts t) → PartRead texts o
value_read texts None h = tt
value_read texts (Some t) h = h t refl

pub own_read : (texts : ℕ → List ℕ) (d : Specification) (c : ℕ) → SpecificationRead texts d → PartRead texts (own_value d c)
own_read texts d c h = value_read texts (own_value d c) (λ t e. h.values (if is_alone d then 0 else c) t e)

pub seen_at : {A B : Type 0} (f : A → B) (xs : List A) (n : ℕ) (x : A) (y : B) → slice_get xs n ≡ Some x → slice_get (map f xs) n ≡ Some y → f x ≡ y
seen_at f xs n x y e g = same_Some (f x) y (sym (ap (option_map f) e) ∙ sym (slice_get-map f xs n) ∙ g)

-- ---- by what a specification declares

module _ (p : Package) (os : List Outline) (ss : List State) (n : ℕ) where
  pub by_type : (e : Entity) (d : Specification) (c : ℕ) → e ≡ entity.Type → state_by e p os ss n d c ≡ type_state (own_type p n) (told_scope p os ss d) (free_scope p os ss d) d
  by_type e d c h = ap (λ x. state_by x p os ss n d c) h

  pub by_value : (e : Entity) (d : Specification) (c : ℕ) → (e ≡ entity.Type → ⊥) → state_by e p os ss n d c ≡ value_state (free_scope p os ss d) d c (own_faults (free_scope p os ss d) d c)
  by_value entity.Type d c h = absurd (h refl)
  by_value entity.Constant d c h = refl
  by_value entity.Variable d c h = refl
  by_value entity.Parameter d c h = refl
  by_value entity.Function d c h = refl

  pub first_type : (e : Entity) → e ≡ entity.Type → first_state p n e ≡ record no_state { stands = trees.IsType (own_type p n) }
  first_type e h = ap (first_state p n) h

  pub first_value : (e : Entity) → (e ≡ entity.Type → ⊥) → first_state p n e ≡ no_state
  first_value entity.Type h = absurd (h refl)
  first_value entity.Constant h = refl
  first_value entity.Variable h = refl
  first_value entity.Parameter h = refl
  first_value entity.Function h = refl

pub some_known : (n : ℕ) (o : Option ℕ) → IfSome o (λ i. i < n) → KnownRight n o
some_known n None h = tt
some_known n (Some i) h = h

pub right_known : (n : ℕ) (o : Option ℕ) → KnownRight n o → IfSome o (λ i. i < n)
right_known n None h = tt
right_known n (Some i) h = h

pub first_type_shown : (t : Table) (h : Held) (named : ℕ) (own : TypeTree) → h ≡ record { right = None; stands = sort.Type named; fault = None; assigning = None } → type_of t.shapes named ≡ own → held_seen t h ≡ summary (record no_state { stands = trees.IsType own })
first_type_shown t h named own e is =
    ap (held_seen t) e
    ∙ same_summary (held_seen t (record { right = None; stands = sort.Type named; fault = None; assigning = None })) (summary (record no_state { stands = trees.IsType own })) refl (ap (λ x. let y : Stands = trees.IsType x in y) is) refl refl

pub first_value_shown : (t : Table) (h : Held) → h ≡ record { right = None; stands = sort.Unknown; fault = None; assigning = None } → held_seen t h ≡ summary no_state
first_value_shown t h e = ap (held_seen t) e
