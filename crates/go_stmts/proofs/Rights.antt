-- Frames that show what the program knows, where a local type takes its right side.
use Rattle.std.proofs.Common.{◌≡◌, ℕ, List, [], map, Option, Some, None, refl, ap, sym, ◌∙◌}
use Rattle.std.specs.Option.{option_map}
use Rattle.go_types.specs.Trees.{TypeTree, declared}
use Rattle.go_types.specs.Relations.{Rights}
use Rattle.go_types.specs.Tables.{Table, type_of, rights_of}
use Rattle.go_types.specs.declared.shape.Shape.{Shape}
use Rattle.go_typed.specs.declared.sort.Sort as program
use Rattle.go_typed.specs.Scopes.{LocalsView}
use Rattle.go_typed.specs.Trees.{sort_mapped}
use Rattle.go_typed.specs.Views.{sort_view}
use Rattle.go_exprs_rules.specs.Scopes.{Scope}
use Rattle.go_exprs_types.specs.Naming.{sort_of_object}
use Rattle.go_stmts_defs.specs.Frames as frames
use Rattle.go_stmts_defs.specs.Frames.{Frame, scope_of, placed, with_own_right}
use Rattle.go_stmts.specs.declared.state.Surroundings.{Surroundings}
use Rattle.go_stmts.specs.declared.state.State.{State}
use Rattle.go_stmts.specs.State.{names_in, Shows}
use Rattle.go_stmts.specs.Types.{placed_or}

-- the scope of an expression by the right sides and the shapes of a table
abbrev names_by : Surroundings → LocalsView → Rights → List Shape → Scope
names_by o ls rights shapes = record (names_in (record { shapes = []; rights = [] }) o ls) {
  rights = rights;
  sorts = λ need y. sort_of_object [] (map (sort_mapped (type_of shapes)) o.env.now.objects) (map (option_map (sort_mapped (type_of shapes))) ls.sorts) y;
}

pub own_rights : (m : Option ℕ) (r : Option TypeTree) (s : Frame) → frames.rights_of (with_own_right m r s) ≡ placed_or m r (frames.rights_of s)
own_rights None r s = refl
own_rights (Some m) r s = refl

module _ (old new : Table) (o : Surroundings) (k : State) (x : program.Sort) (rs : List ℕ) (s : Frame) (shapes : new.shapes ≡ old.shapes) (has : Shows old o k x rs s) where
  names_with : (q : Rights) → rights_of new ≡ q → scope_of s ≡ names_in old o k.locals → names_by o k.locals q old.shapes ≡ names_in new o k.locals
  names_with q e n = ap (λ r. names_by o k.locals r old.shapes) (sym e) ∙ ap (names_by o k.locals (rights_of new)) (sym shapes)

  by_shapes : {A : Type 0} (f : List Shape → A) (y : A) → y ≡ f old.shapes → y ≡ f new.shapes
  by_shapes f y e = e ∙ sym (ap f shapes)

  shown : (q : Rights) → rights_of new ≡ q → (s2 : Frame) → scope_of s2 ≡ names_by o k.locals q old.shapes → s2.locals ≡ s.locals → s2.source ≡ s.source → s2.tag ≡ s.tag → s2.results ≡ s.results → s2.types ≡ s.types → Shows new o k x rs s2
  shown q e s2 n l so ta re ty = record {
    names = n ∙ names_with q e has.names;
    locals = l ∙ by_shapes (λ xs. map (option_map (sort_mapped (type_of xs))) k.locals.sorts) s.locals has.locals;
    source = so ∙ has.source;
    tag = ta ∙ by_shapes (λ xs. sort_mapped (type_of xs) (sort_view x)) s.tag has.tag;
    results = re ∙ by_shapes (λ xs. map (type_of xs) rs) s.results has.results;
    types = λ n i is. ap (λ xs. type_of xs i) shapes ∙ has.types n i is ∙ ap (λ (f : ℕ → ℕ). declared (f n)) (sym ty);
  }

  pub shows_right : (m : Option ℕ) (r : Option TypeTree) → rights_of new ≡ placed_or m r (rights_of old) → Shows new o k x rs (with_own_right m r s)
  shows_right None r e = shown (rights_of old) e s has.names refl refl refl refl refl
  shows_right (Some m) r e =
      shown (placed m r (rights_of old)) e (with_own_right (Some m) r s) (ap (λ (c : Scope). let z : Scope = record c { rights = placed m r c.rights } in z) has.names) refl refl refl refl refl
