-- What is known where the body of a function begins.
use Rattle.std.proofs.Common.{◌≡◌, ◌∙◌, ℕ, zero, suc, ◌≤◌, Bool, true, false, List, [], ◌∷◌, ◌++◌, length, replicate, Option, Some, None, refl, sym, ap, subst, arith}
use Rattle.std.specs.Option.{option_map}
use Rattle.go_grammar.specs.declared.kind.Category.TheVariants as category
use Rattle.go_grammar.specs.declared.kind.Kind.TheVariants as kind
use Rattle.go_grammar.specs.Trees.{node}
use Rattle.go_tree.specs.declared.object.Object.{Object}
use Rattle.go_tree.specs.declared.object.Object.TheVariants as object
use Rattle.go_types.specs.Trees.{TypeTree}
use Rattle.go_types.specs.Relations.{Rights}
use Rattle.go_types_relations.specs.Questions.{entry}
use Rattle.go_typed.specs.Trees as sort
use Rattle.go_exprs_rules.specs.Scopes.{Needed, value}
use Rattle.go_exprs_rules.specs.Settling.{Part}
use Rattle.go_exprs_rules.specs.TypeNodes.{part_type, entry_types}
use Rattle.go_exprs_rules.specs.Typing.{typing}
use Rattle.go_stmts_defs.specs.Bodies.{no_locals}
use Rattle.go_stmts_defs.specs.Frames.{Frame, Locals, placed, local_stands, scope_of}
use Rattle.go_stmts_defs.specs.Laying.{local_named, type_number}
use Rattle.go_stmts_defs.specs.Reading.{with_parameter, with_parameters, behind_signature, signature_results, entry_names, first_parts}
use Rattle.go_package_defs.specs.Bodies.{Portion, Surroundings, count_types, local_type}
use Rattle.go_package_laws.specs.Reach.{MaybeWithin, StandsWithin, PartWithin}
use Rattle.go_package_laws.proofs.Public.{part_type_within}
use Rattle.go_renumbering.specs.Functions.{AreBelow}
use Rattle.go_stmts_steady.specs.Ordered.{next, Follows, below, LocalsWithin, ResultsWithin, KnowsBelow}
use Rattle.go_package_steady.specs.Begun.{function_begins, locals_at, BodiesAreOrdered}
use Rattle.go_package_steady.specs.Rising.{type_places, Rise}
use Rattle.go_package_steady.proofs.Rising.{statements_ordered, locals_rise}
use Rattle.go_package_steady.proofs.Within.{RightsWithin, typed_within, first_within, EntriesWithin, entries_within, type_results}

impossible : {A : Type 0} → false ≡ true → A
impossible e = absurd cc

-- ---- right sides

abbrev no_rights : ℕ → Rights
no_rights m = replicate m None

none_there : (n m : ℕ) → entry (no_rights m) n ≡ None
none_there n zero = refl
none_there zero (suc m) = refl
none_there (suc n) (suc m) = none_there n m

in_front : (p : ℕ → Bool) (rights : Rights) (m n : ℕ) → MaybeWithin p (entry rights n) → MaybeWithin p (entry (rights ++ no_rights m) n)
in_front p [] m n w = subst (MaybeWithin p) (sym (none_there n m)) tt
in_front p (r ∷ rights) m zero w = w
in_front p (r ∷ rights) m (suc n) w = in_front p rights m n w

none_behind : (rights : Rights) (m n : ℕ) → length rights ≤ n → entry (rights ++ no_rights m) n ≡ None
none_behind [] m n l = none_there n m
none_behind (r ∷ rights) m zero l = absurd (omega (arith, l))
none_behind (r ∷ rights) m (suc n) l = none_behind rights m n (omega (arith, l))

-- ---- locals

none_known : (p : ℕ → Bool) (n : ℕ) → LocalsWithin p (no_locals n)
none_known p zero = tt
none_known p (suc n) = none_known p n

nothing_there : (n i : ℕ) → local_stands (no_locals n) i ≡ sort.Unknown
nothing_there zero i = refl
nothing_there (suc n) zero = refl
nothing_there (suc n) (suc i) = nothing_there n i

placed_within : (p : ℕ → Bool) (n : ℕ) (x : sort.Sort TypeTree) (ls : Locals) → StandsWithin p x → LocalsWithin p ls → LocalsWithin p (placed n (Some x) ls)
placed_within p n x [] w h = tt
placed_within p zero x (None ∷ ls) w h = (w, h)
placed_within p zero x (Some y ∷ ls) w h = (w, h.1)
placed_within p (suc n) x (None ∷ ls) w h = placed_within p n x ls w h
placed_within p (suc n) x (Some y ∷ ls) w h = (h.0, placed_within p n x ls w h.1)

-- what parameters keep
record Declared (p : ℕ → Bool) (f g : Frame) : Type 0 where
  around : g.around ≡ f.around
  types : g.types ≡ f.types
  tag : g.tag ≡ f.tag
  results : g.results ≡ f.results
  locals : LocalsWithin p g.locals

module _ (p : ℕ → Bool) where
  one_declared : (n : Option ℕ) (t : Option TypeTree) (f : Frame) → MaybeWithin p t → LocalsWithin p f.locals → Declared p f (with_parameter n t f)
  one_declared (Some n) (Some t) f w h = record { around = refl; types = refl; tag = refl; results = refl; locals = placed_within p n (sort.Value t) f.locals w h }
  one_declared (Some n) None f w h = record { around = refl; types = refl; tag = refl; results = refl; locals = h }
  one_declared None t f w h = record { around = refl; types = refl; tag = refl; results = refl; locals = h }

  all_declared : (ns : List (Option ℕ)) (ts : List (Option TypeTree)) (f : Frame) → EntriesWithin p ts → LocalsWithin p f.locals → Declared p f (with_parameters ns ts f)
  all_declared [] ts f w h = record { around = refl; types = refl; tag = refl; results = refl; locals = h }
  all_declared (n ∷ ns) [] f w h = record { around = refl; types = refl; tag = refl; results = refl; locals = h }
  all_declared (n ∷ ns) (t ∷ ts) f w h =
      let one = one_declared n t f w.0 h in
      let rest = all_declared ns ts (with_parameter n t f) w.1 one.locals in
      record { around = rest.around ∙ one.around; types = rest.types ∙ one.types; tag = rest.tag ∙ one.tag; results = rest.results ∙ one.results; locals = rest.locals }

  results_known : (f : Frame) (o : Option TypeTree) → RightsWithin p f.around.rights → MaybeWithin p o → ResultsWithin p (signature_results f o)
  results_known f None r w = tt
  results_known f (Some t) r w = type_results p f.around.rights r t w

-- ---- a function

module _ (a : Surroundings) (rights : Rights) (bs : List Bool) (o : Portion) (h : AreBelow (length rights) a rights) where
  abbrev k : ℕ
  k = length rights

  abbrev f : Frame
  f = function_begins a rights bs o

  all_rights : RightsWithin (below k) f.around.rights
  all_rights n = in_front (below k) rights (count_types bs) n (h.rights n)

  names_known : (n : Needed) (b : Object) → StandsWithin (below k) ((scope_of f).sorts n b)
  names_known n (object.Local g i) = subst (StandsWithin (below k)) (sym (nothing_there (length bs) i)) tt
  names_known n (object.Package m) = h.objects n (object.Package m)
  names_known n b = tt

  module _ (x : Part) (w : PartWithin (below k) x) where
    abbrev told : Frame
    told = record f { results = signature_results f (part_type (Some x)) }

    abbrev g : Frame
    g = behind_signature (Some x) f

    declared_so : Declared (below k) told g
    declared_so = all_declared (below k) (entry_names (first_parts (Some x))) (entry_types (first_parts (Some x))) told
        (entries_within (below k) (first_parts (Some x)) (first_within (below k) x w)) (none_known (below k) (length bs))

    known_there : KnowsBelow k g
    known_there = record {
      rights = λ n l. subst (λ s. MaybeWithin (below k) (entry s.rights n)) (sym declared_so.around) (all_rights n);
      none = λ n l. subst (λ s. entry s.rights n ≡ None) (sym declared_so.around) (none_behind rights (count_types bs) n l);
      sorts = λ n b. subst (λ s. StandsWithin (below k) (s.sorts n b)) (sym declared_so.around) (h.objects n b);
      locals = declared_so.locals;
      tag = subst (StandsWithin (below k)) (sym declared_so.tag) tt;
      results = subst (ResultsWithin (below k)) (sym declared_so.results) (results_known (below k) f (part_type (Some x)) all_rights (part_type_within (below k) (Some x) w));
    }

    numbers_there : (i : ℕ) → type_number g i ≡ option_map (local_type k bs) (locals_at o i)
    numbers_there i = ap (λ s. option_map g.types (local_named (s.objects i))) declared_so.around ∙ ap (λ u. option_map u (local_named (f.around.objects i))) declared_so.types

rise_alike : (t u : ℕ → Option ℕ) (k : ℕ) (is : List ℕ) → ((i : ℕ) → t i ≡ u i) → Rise u k is → Rise t k is
rise_alike t u k [] e r = tt
rise_alike t u k (i ∷ is) e r =
    (subst (λ n. Follows n k) (sym (e i)) r.0, rise_alike t u (next (t i) k) is e (subst (λ n. Rise u (next n k) is) (sym (e i)) r.1))

pub bodies_ordered : BodiesAreOrdered
bodies_ordered a rights bs o (node kind.Signature i j ps) b s c h l =
    let f = function_begins a rights bs o in
    let x = typing (scope_of f) value (node kind.Signature i j ps) in
    let w = typed_within (below (length rights)) (scope_of f) (all_rights a rights bs o h) (names_known a rights bs o h) value (node kind.Signature i j ps) tt in
    record {
      known = known_there a rights bs o h x w;
      hint = tt;
      ordered = statements_ordered category.Block (type_number (behind_signature (Some x) f)) (length rights) b refl c
          (rise_alike (type_number (behind_signature (Some x) f)) (λ n. option_map (local_type (length rights) bs) (locals_at o n)) (length rights) (type_places b)
          (numbers_there a rights bs o h x w) (locals_rise (length rights) bs (locals_at o) (type_places b) l));
    }
bodies_ordered a rights bs o (node d i j ps) b s c h l = impossible s.0
