-- Where a body begins.
use Rattle.std.proofs.Common.{◌≡◌, ℕ, zero, suc, [], ◌∷◌, replicate, Option, Some, None, refl, ap, sym, subst, ◌∙◌}
use Rattle.std.specs.Prelude.{slice_get}
use Rattle.std.specs.Option.{option_map}
use Rattle.go_tree.specs.declared.object.Object.{Object}
use Rattle.go_tree.specs.declared.object.Object.TheVariants as object
use Rattle.go_types.specs.Tables.{Table}
use Rattle.go_typed.specs.declared.sort.Sort.TheVariants as program
use Rattle.go_typed.specs.Scopes.{LocalsView}
use Rattle.go_typed.specs.Trees.{Sort, Unknown}
use Rattle.go_exprs_rules.specs.Scopes.{Scope, Needed}
use Rattle.go_exprs_rules.specs.Sorts.{Stands}
use Rattle.go_exprs_types.specs.Naming.{known_local, locals_seen}
use Rattle.go_stmts_defs.specs.Bodies.{start, no_locals}
use Rattle.go_stmts_defs.specs.Frames.{scope_of, looked_up, known}
use Rattle.go_stmts_rules.specs.Seen.{locals_in}
use Rattle.go_stmts.specs.declared.state.Surroundings.{Surroundings}
use Rattle.go_stmts.specs.declared.state.State.{State}
use Rattle.go_stmts.specs.State.{stands_in, names_in, Shows, KnownSurroundings, KnownState}
use Rattle.go_stmts.proofs.Names.{pointwise}
use Rattle.go_stmts.specs.Bodies.{scope_around, no_sorts, AreNumbered}

abbrev pub nothing : ℕ → LocalsView
nothing n = record { sorts = replicate n None; iota = 0 }

seen_none : (t : Table) (n : ℕ) → locals_seen t (replicate n None) ≡ no_locals n
seen_none t zero = refl
seen_none t (suc n) = ap (λ xs. None ∷ xs) (seen_none t n)

same_known : (z : Option (Option Stands)) → known z ≡ known_local z
same_known None = refl
same_known (Some None) = refl
same_known (Some (Some z)) = refl

none_there : (n k : ℕ) (x : Sort ℕ) → slice_get (replicate n None) k ≡ Some (Some x) → ⊥
none_there zero zero x e = cc
none_there zero (suc k) x e = cc
none_there (suc n) zero x e = cc
none_there (suc n) (suc k) x e = none_there n k x e

module _ (t : Table) (o : Surroundings) (n : ℕ) where
  sorts_start : (need : Needed) (x : Object) → looked_up (no_locals n) (stands_in t o no_sorts) need x ≡ stands_in t o (nothing n) need x
  sorts_start need (object.Local f k) = same_known (slice_get (no_locals n) k) ∙ ap (λ xs. known_local (slice_get xs k)) (sym (seen_none t n))
  sorts_start need (object.Package k) = refl
  sorts_start need object.Import = refl
  sorts_start need (object.Predeclared b) = refl

  names_start : (own : ℕ → ℕ) → scope_of (start (scope_around t o) n own) ≡ names_in t o (nothing n)
  names_start own = ap (λ f. let z : Scope = record (scope_around t o) { sorts = f } in z) (pointwise (λ need. pointwise (λ x. sorts_start need x)))

  module _ (k : State) (is : k.locals ≡ nothing n) (free_source : k.source ≡ None) where
    pub start_shown : (own : ℕ → ℕ) → AreNumbered t o own → Shows t o k program.Unknown [] (start (scope_around t o) n own)
    start_shown own h = record {
      names = names_start own ∙ ap (names_in t o) (sym is);
      locals = sym (seen_none t n) ∙ ap (λ (l : LocalsView). locals_in t l) (sym is);
      source = ap (option_map _) (sym free_source);
      tag = refl;
      results = refl;
      types = h;
    }

    pub start_known : KnownSurroundings t o → KnownState t o k program.Unknown []
    start_known h = record {
      around = h;
      locals = λ j y e. absurd (none_there n j y (subst (λ (l : LocalsView). slice_get l.sorts j ≡ Some (Some y)) is e));
      source = cc;
      tag = tt;
      results = tt;
    }
