-- The scope around a body in a table with more types.
use Rattle.std.proofs.Common.{◌≡◌, ℕ, zero, suc, ◌<◌, List, [], ◌∷◌, ◌++◌, length, replicate, Bool, Option, Some, None, refl, ap, sym, subst, ◌∙◌, arith}
use Rattle.std.specs.Prelude.{slice_get}
use Rattle.std.specs.Option.{option_map}
use Rattle.std.proofs.lemmas.List.{append-nil, length-map}
use Rattle.go_types.specs.Relations.{Rights}
use Rattle.go_types.specs.Tables.{Table, IsTable, type_of, rights_of}
use Rattle.go_types_relations.specs.Extends.{Extends}
use Rattle.go_types_relations.proofs.Public.{tree_stays}
use Rattle.go_typed.specs.declared.node.TypedNode.{TypedNode}
use Rattle.go_typed.specs.Views.{seen, AllKnown}
use Rattle.go_exprs_rules.specs.Scopes.{Scope}
use Rattle.go_exprs_rules.specs.Seen.{AreBasics}
use Rattle.go_exprs_rules.specs.Sorts.{Stands}
use Rattle.go_exprs_types.specs.Naming.{sort_of_object, objects_seen}
use Rattle.go_exprs_engine.proofs.Public.{longer, sort_more, sorts_stay, node_stays}
use Rattle.go_package_defs.specs.Bodies.{count_types}
use Rattle.go_stmts.specs.declared.state.Surroundings.{Surroundings}
use Rattle.go_stmts.specs.State.{KnownSurroundings}
use Rattle.go_stmts.specs.Bodies.{scope_around, function_scope, KnownObjects, AreOwn, AreNumbered}

nothing_there : (n i : ℕ) → (let xs : List (Option ℕ) = [] in slice_get xs n ≡ Some (Some i)) → ⊥
nothing_there zero i e = cc
nothing_there (suc n) i e = cc

pub alone_numbered : (t : Table) (o : Surroundings) (own : ℕ → ℕ) → o.types.now ≡ [] → AreNumbered t o own
alone_numbered t o own none n i is = absurd (nothing_there n i (subst (λ xs. slice_get xs n ≡ Some (Some i)) none is))

module _ (old new : Table) (ok : IsTable old) (e : Extends old new) (o : Surroundings) where
  abbrev with_objects : Rights → List Stands → Scope
  with_objects rights objects = record (scope_around old o) { rights = rights; sorts = λ need y. sort_of_object [] objects [] y }

  below : (i : ℕ) → i < length old.shapes → i < length new.shapes
  below i h = let more = longer old new ok e in omega (arith, more, h)

  module _ (objects : KnownObjects (length old.shapes) o.env.now) where
    pub around_is : (bs : List Bool) (rights : Rights) → rights_of new ≡ rights ++ replicate (count_types bs) None → rights ≡ rights_of old → scope_around new o ≡ function_scope old o.tokens.now o.uses.now o.env.now o.base bs
    around_is bs rights r same =
        ap (λ z. with_objects z (objects_seen new o.env.now.objects)) (r ∙ ap (λ z. z ++ replicate (count_types bs) None) same)
        ∙ ap (with_objects (rights_of old ++ replicate (count_types bs) None)) (sorts_stay old new ok e o.env.now.objects objects)

    pub around_stays : rights_of new ≡ rights_of old → scope_around new o ≡ scope_around old o
    around_stays r =
        ap (λ z. with_objects z (objects_seen new o.env.now.objects)) r
        ∙ ap (with_objects (rights_of old)) (sorts_stay old new ok e o.env.now.objects objects)

    -- where the types of its own are known too
    pub all_known : AreBasics new o.basics → (m : ℕ) (bs : List Bool) → AreOwn new m bs o.types.now → KnownSurroundings new o
    all_known basics m bs own = record {
      basics = basics;
      objects = λ j y is. sort_more below y (objects j y is);
      types = λ n i is. (own n i is).0;
    }

    -- where there are none
    pub alone_known : o.types.now ≡ [] → AreBasics new o.basics → KnownSurroundings new o
    alone_known none basics = record {
      basics = basics;
      objects = λ j y is. sort_more below y (objects j y is);
      types = λ n i is. absurd (nothing_there n i (subst (λ xs. slice_get xs n ≡ Some (Some i)) none is));
    }

    pub alone_is : rights_of new ≡ rights_of old → scope_around new o ≡ function_scope old o.tokens.now o.uses.now o.env.now o.base []
    alone_is same = around_is [] (rights_of new) (sym (append-nil (rights_of new))) same

  pub numbered_stays : KnownSurroundings old o → (own : ℕ → ℕ) → AreNumbered old o own → AreNumbered new o own
  numbered_stays h own has n i is = tree_stays old new ok e i (h.types n i is) ∙ has n i is

  pub signature_stays : (x : Option TypedNode) → AllKnown (length old.shapes) (x ∷ []) → option_map (seen new) x ≡ option_map (seen old) x
  signature_stays None h = refl
  signature_stays (Some n) h = ap Some (node_stays old new ok e n h.0)

pub count_stays : (old new : Table) → rights_of new ≡ rights_of old → length new.rights ≡ length old.rights
unfolding rights_of
count_stays old new r = sym (length-map new.rights (option_map (type_of new.shapes))) ∙ ap length r ∙ length-map old.rights (option_map (type_of old.shapes))
