-- A call is read where the facts about it hold.
use Rattle.std.proofs.Common.{◌≡◌, ◌∙◌, ◌⊎◌, inl, inr, ℕ, suc, Bool, true, false, List, [], ◌∷◌, map, pos, negsuc, Option, Some, sym, ap, subst, nat_eq}
use Rattle.go_constants.specs.declared.values.Const.{Const}
use Rattle.go_constants.specs.declared.values.Const.TheVariants as const
use Rattle.go_grammar.specs.Trees.{last}
use Rattle.go_tree.specs.declared.object.Object.{Object}
use Rattle.go_tree.specs.declared.object.Object.TheVariants as object
use Rattle.go_types.specs.Trees.{TypeTree, boolean, text, integer, array, slice, structure, function, declared, TypeRow, none, more}
use Rattle.go_types_relations.specs.Sizes.{scalars_of}
use Rattle.go_typed.specs.Trees as sort
use Rattle.go_exprs_rules.specs.Names.{object_sort, need_of, name_sort}
use Rattle.go_exprs_rules.specs.Scopes.{Needed, Hint, Scope, type_place, loose}
use Rattle.go_exprs_rules.specs.Sorts.{Stands, kind_of_const, suits, represents}
use Rattle.go_exprs_rules.specs.TypeNodes.{exceeds}
use Rattle.go_print_laws.specs.Calls.{Argument, variable, constant, argument_tree, names_end}
use Rattle.go_print_laws.specs.Reading.{ReadsType, ReadsRow, ReadsResults, ReadsFields, IsWithin, RowIsWithin, ReadsLiteral, unmarked, IsTypePlace, at_place, in_loose}
use Rattle.go_print_laws.specs.Trees.{type_tree, list_end}
use Rattle.go_exprs_elsewhere.specs.Elsewhere.{Moves}
use Rattle.go_stmts_defs.specs.Frames.{Frame, known, local_stands, placed, rights_of, scope_of, with_local}
use Rattle.go_stmts_elsewhere.specs.Declaring.{SharedAlong}
use Rattle.go_stmts_elsewhere.specs.Frames.{has_room}
use Rattle.go_stmts_elsewhere.specs.Marked.{AlongAt}
use Rattle.go_stmts_elsewhere.specs.Replaced.{SaysAs, unsourced}
use Rattle.go_stmts_elsewhere.proofs.Public.{placed_here, placed_other, placed_room}
use Rattle.go_stmts_calls.specs.Calls.{MeansVariable, TakesType, ArgumentFits, FurtherFit, ArgumentsFit, IsTarget, blank, given, FurtherTargets, MeansFunction, StatementReads, DeclarationReads, CallReads}
use Rattle.go_stmts_calls.specs.Facts.{IsResult, NamesLocal, NamesTarget, nothing, assigned, result, NamesType, of_package, of_function, Spells, SpellsRow, SpellsResults, SpellsFields, SpellsConstant, IsGiven, FurtherGiven, AreGiven, FurtherNamed, NamesFunction, IsCalled, Declares, IsWritten, CallsAreReadInPlace}
use Rattle.go_stmts_calls.specs.Places.{is_among}
use Rattle.go_stmts_calls.proofs.Quiet.{first_quiet, rest_quiet}
use Rattle.go_stmts_calls.proofs.Taking.{different}

-- ---- limits, which are judged over right sides

module _ (a b : Scope) (rights : b.rights ≡ a.rights) (limits : b.limits ≡ a.limits) where
  mutual
    within_moved : (u : TypeTree) → IsWithin a u → IsWithin b u
    within_moved boolean w = tt
    within_moved text w = tt
    within_moved (integer k) w = tt
    within_moved (declared n) w = tt
    within_moved (array n u) w = (w.0, (λ e. ap (λ r. exceeds (scalars_of r (array n u))) rights ∙ w.1 (sym limits ∙ e)), within_moved u w.2)
    within_moved (slice u) w = within_moved u w
    within_moved (structure ns us) w = row_moved us w
    within_moved (function ps rs) w = (row_moved ps w.0, row_moved rs w.1)

    row_moved : (us : TypeRow) → RowIsWithin a us → RowIsWithin b us
    row_moved none w = tt
    row_moved (more u us) w = (within_moved u w.0, row_moved us w.1)

module _ (m : Moves) (l : ℕ → Bool) (t : Scope) (f : Frame) (results : List ℕ) (types : TypeRow)
    (apart : (n k : ℕ) → l n ≡ true → l k ≡ true → m.local n ≡ m.local k → n ≡ k) where
  abbrev Done : List ℕ → TypeRow → Frame → ℕ → TypeTree → Type 0
  Done ks us g k u = IsResult ks us k u ⊎ ((is_among ks k ≡ false) × (local_stands g.locals (m.local k) ≡ sort.Value u))

  -- what holds of the frame g, where these are still to be declared
  record Holds (ks : List ℕ) (us : TypeRow) (g : Frame) : Type 0 where
    says_too : SaysAs t g
    rights : rights_of g ≡ rights_of f
    limits : g.around.limits ≡ f.around.limits
    room : (k : ℕ) → l k ≡ true → has_room g.locals (m.local k) ≡ has_room f.locals k
    outside : (k : ℕ) → is_among results k ≡ false → is_among ks k ≡ false
    stays : (k : ℕ) → l k ≡ true → is_among results k ≡ false → local_stands g.locals (m.local k) ≡ local_stands f.locals k
    done : (k : ℕ) (u : TypeTree) → l k ≡ true → has_room f.locals k ≡ true → IsResult results types k u → Done ks us g k u

  -- ---- one more is declared

  abbrev on : ℕ → TypeTree → Frame → Frame
  on a u g = with_local (m.local a) (sort.Value u) g

  other_still : (a : ℕ) (u : TypeTree) (g : Frame) (k : ℕ) → l a ≡ true → l k ≡ true → nat_eq a k ≡ false → local_stands (on a u g).locals (m.local k) ≡ local_stands g.locals (m.local k)
  other_still a u g k c d n = ap known (placed_other (m.local a) (m.local k) (Some (sort.Value u)) g.locals (λ z. different a k n (apart a k c d z)))

  next_done : (a : ℕ) (u : TypeTree) (ks : List ℕ) (us : TypeRow) (g : Frame) → l a ≡ true → (k : ℕ) (v : TypeTree) → l k ≡ true → has_room g.locals (m.local k) ≡ true → Done (a ∷ ks) (more u us) g k v → Done ks us (on a u g) k v
  next_done a u ks us g c k v d r (inl (inl z)) =
      inr (z.2, subst (λ (n : ℕ). local_stands (placed (m.local n) (Some (sort.Value u)) g.locals) (m.local k) ≡ sort.Value v) (sym z.0) (ap known (placed_here (m.local k) (Some (sort.Value u)) g.locals r) ∙ ap sort.Value z.1))
  next_done a u ks us g c k v d r (inl (inr z)) = inl z
  next_done a u ks us g c k v d r (inr z) =
      let n = first_quiet (nat_eq a k) (is_among ks k) z.0 in
      inr (rest_quiet (nat_eq a k) (is_among ks k) z.0, other_still a u g k c d n ∙ z.1)

  next_holds : (a : ℕ) (u : TypeTree) (ks : List ℕ) (us : TypeRow) (g : Frame) → l a ≡ true → Holds (a ∷ ks) (more u us) g → Holds ks us (on a u g)
  next_holds a u ks us g c h = record {
    says_too = record { texts = h.says_too.texts; characters = h.says_too.characters; objects = h.says_too.objects; sorts = h.says_too.sorts; referents = h.says_too.referents; needed = h.says_too.needed; limits = h.says_too.limits };
    rights = h.rights;
    limits = h.limits;
    room = λ k d. placed_room (m.local a) (Some (sort.Value u)) g.locals (m.local k) ∙ h.room k d;
    outside = λ k n. rest_quiet (nat_eq a k) (is_among ks k) (h.outside k n);
    stays = λ k d n. other_still a u g k c d (first_quiet (nat_eq a k) (is_among ks k) (h.outside k n)) ∙ h.stays k d n;
    done = λ k v d r z. next_done a u ks us g c k v d (h.room k d ∙ r) (h.done k v d r z);
  }

  -- ---- names

  module _ (ks : List ℕ) (us : TypeRow) (g : Frame) (h : Holds ks us g) where
    local_named : (i : ℕ) (u : TypeTree) → NamesLocal m l t f results types i (sort.Value u) → MeansVariable g i u
    local_named i u w = record {
      number = m.local w.local;
      means = (w.means.0, h.says_too.objects i ∙ w.means.1);
      stands = h.stays w.local w.counts w.stays ∙ w.stands;
    }

    object_at : (i : ℕ) (o : Option Object) (x : Stands) (k : Hint) → IsTypePlace k → t.objects i ≡ o → ((n : Needed) → object_sort (scope_of g) n o ≡ x) → name_sort (scope_of g) k i ≡ x
    object_at i o x k at_place d b = ap (object_sort (scope_of g) (need_of g.around.needed type_place)) (h.says_too.objects i ∙ d) ∙ b (need_of g.around.needed type_place)
    object_at i o x k in_loose d b = ap (object_sort (scope_of g) (need_of g.around.needed loose)) (h.says_too.objects i ∙ d) ∙ b (need_of g.around.needed loose)

    type_named : (i n : ℕ) (k : Hint) → IsTypePlace k → NamesType m l t f results types i n → name_sort (scope_of g) k i ≡ sort.IsType (declared n)
    type_named i n k p (of_package a d b) = object_at i (Some (object.Package a)) (sort.IsType (declared n)) k p d (λ z. h.says_too.sorts z (object.Package a) ∙ b z)
    type_named i n k p (of_function w) =
        object_at i (Some (object.Local w.means.0 (m.local w.local))) (sort.IsType (declared n)) k p w.means.1 (λ z. h.stays w.local w.counts w.stays ∙ w.stands)

    -- ---- types

    mutual
      type_spelled : (u : TypeTree) (k : Hint) (i : ℕ) → IsTypePlace k → Spells m l t f results types i u → ReadsType (scope_of g) k i u
      type_spelled boolean k i p w = h.says_too.objects i ∙ w
      type_spelled text k i p w = h.says_too.objects i ∙ w
      type_spelled (integer j) k i p w = h.says_too.objects i ∙ w
      type_spelled (declared n) k i p w = type_named i n k p w
      type_spelled (array n u) k i p w = (h.says_too.texts (suc i) ∙ w.0, type_spelled u k (suc (suc (suc i))) p w.1)
      type_spelled (slice u) k i p w = type_spelled u loose (suc (suc i)) in_loose w
      type_spelled (structure ns us) k i p w = fields_spelled us ns k (suc (suc i)) p w
      type_spelled (function ps rs) k i p w = (row_spelled ps (suc (suc i)) w.0, results_spelled rs (suc (list_end (suc (suc i)) ps)) w.1)

      row_spelled : (us : TypeRow) (i : ℕ) → SpellsRow m l t f results types i us → ReadsRow (scope_of g) i us
      row_spelled none i w = tt
      row_spelled (more u us) i w = (type_spelled u loose i in_loose w.0, row_spelled us (suc (last (type_tree i u))) w.1)

      results_spelled : (us : TypeRow) (i : ℕ) → SpellsResults m l t f results types i us → ReadsResults (scope_of g) i us
      results_spelled none i w = tt
      results_spelled (more u none) i w = type_spelled u loose i in_loose w
      results_spelled (more u (more v vs)) i w = (type_spelled u loose (suc i) in_loose w.0, row_spelled (more v vs) (suc (last (type_tree (suc i) u))) w.1)

      fields_spelled : (us : TypeRow) (ns : List (List ℕ)) (k : Hint) (i : ℕ) → IsTypePlace k → SpellsFields m l t f results types i ns us → ReadsFields (scope_of g) k i ns us
      fields_spelled none [] k i p w = tt
      fields_spelled (more u us) [] k i p w = absurd w
      fields_spelled none (n ∷ ns) k i p w = absurd w
      fields_spelled (more u us) (n ∷ ns) k i p w = (h.says_too.texts i ∙ w.0, type_spelled u k (suc i) p w.1, fields_spelled us ns k (suc (last (type_tree (suc i) u))) p w.2)

    declared_reads : (i k : ℕ) (u : TypeTree) → Declares m l t f results types i k u → DeclarationReads g i (m.local k) u
    declared_reads i k u w = record {
      means = (w.means.0, h.says_too.objects (suc i) ∙ w.means.1);
      reads = type_spelled u type_place (suc (suc i)) at_place w.spells;
      within = within_moved (scope_of f) (scope_of g) h.rights h.limits u (w.within);
    }

    -- ---- constants

    literal_spelled : (i : ℕ) (v : Const) → ReadsLiteral t i v → ReadsLiteral (scope_of g) i v
    literal_spelled i (const.Bool b) w = h.says_too.objects i ∙ w
    literal_spelled i (const.Int (pos n) r) w = h.says_too.texts i ∙ w
    literal_spelled i (const.Int (negsuc n) r) w = h.says_too.texts (suc i) ∙ w
    literal_spelled i (const.Text bs) w = h.says_too.characters i ∙ w

    constant_takes : (i : ℕ) (v : Const) (u : TypeTree) → SpellsConstant m l t f results types i v u → TakesType g i v u
    constant_takes i v u w = record {
      read = w.read;
      reads = literal_spelled i v w.reads;
      kind = ap (λ r. suits r (kind_of_const (unmarked v)) u) h.rights ∙ w.kind;
      range = ap (λ r. represents r u (unmarked v)) h.rights ∙ w.range;
    }

    -- ---- the call

    argument_fits : (i : ℕ) (a : Argument) (u : TypeTree) → IsGiven m l t f results types i a u → ArgumentFits g i a u
    argument_fits i (variable n) u w = local_named i u w
    argument_fits i (constant v) u w = constant_takes i v u w

    further_fit : (i : ℕ) (gs : List Argument) (ps : TypeRow) → FurtherGiven m l t f results types i gs ps → FurtherFit g i gs ps
    further_fit i [] none w = tt
    further_fit i (a ∷ gs) (more u ps) w = (argument_fits (suc i) a u w.0, further_fit (last (argument_tree (suc i) a)) gs ps w.1)
    further_fit i [] (more u ps) w = absurd w
    further_fit i (a ∷ gs) none w = absurd w

    arguments_fit : (i : ℕ) (gs : List Argument) (ps : TypeRow) → AreGiven m l t f results types i gs ps → ArgumentsFit g i gs ps
    arguments_fit i [] none w = tt
    arguments_fit i (a ∷ gs) (more u ps) w = (argument_fits i a u w.0, further_fit (last (argument_tree i a)) gs ps w.1)
    arguments_fit i [] (more u ps) w = absurd w
    arguments_fit i (a ∷ gs) none w = absurd w

    function_means : (i number : ℕ) (ps rs : TypeRow) → NamesFunction m l t f results types i number ps rs → MeansFunction g i number ps rs
    function_means i number ps rs w = record { means = h.says_too.objects i ∙ w.means; stands = λ n. h.says_too.sorts n (object.Package number) ∙ w.stands n }

  -- ---- behind all that is declared

  module _ (us : TypeRow) (g : Frame) (h : Holds [] us g) where
    result_stands : (k : ℕ) (u : TypeTree) → Done [] us g k u → local_stands g.locals (m.local k) ≡ sort.Value u
    result_stands k u (inl z) = absurd z
    result_stands k u (inr z) = z.1

    target_means : (i : ℕ) (u : TypeTree) → NamesTarget m l t f results types i u → IsTarget g i u
    target_means i u (nothing d) = blank (h.says_too.objects i ∙ d)
    target_means i u (assigned w) = given (local_named [] us g h i u w)
    target_means i u (result w) = given (record {
      number = m.local w.local;
      means = (w.means.0, h.says_too.objects i ∙ w.means.1);
      stands = result_stands w.local u (h.done w.local u w.counts (w.room) w.is);
    })

    targets_mean : (i : ℕ) (xs : List (List ℕ)) (rs : TypeRow) → FurtherNamed m l t f results types i xs rs → FurtherTargets g i xs rs
    targets_mean i [] none w = tt
    targets_mean i (x ∷ xs) (more r rs) w = (target_means (suc i) r w.0, targets_mean (suc (suc i)) xs rs w.1)
    targets_mean i [] (more r rs) w = absurd w
    targets_mean i (x ∷ xs) none w = absurd w

    statement_reads : (i : ℕ) (xs : List (List ℕ)) (number : ℕ) (gs : List Argument) (ps rs : TypeRow) → IsCalled m l t f results types i xs number gs ps rs → StatementReads g i xs number gs ps rs
    statement_reads i [] number gs ps rs w = (function_means [] us g h i number ps rs w.0, arguments_fit [] us g h (suc (suc i)) gs ps w.1)
    statement_reads i (x ∷ xs) number gs ps none w = absurd w
    statement_reads i (x ∷ xs) number gs ps (more r rs) w =
        let j = suc (names_end (suc i) xs) in
        (target_means i r w.0, targets_mean (suc i) xs rs w.1, function_means [] us g h j number ps (more r rs) w.2, arguments_fit [] us g h (suc (suc j)) gs ps w.3)

  call_reads : (i : ℕ) (ys : List (List ℕ)) (us : TypeRow) (ks : List ℕ) (xs : List (List ℕ)) (number : ℕ) (gs : List Argument) (ps rs : TypeRow) (g : Frame) → Holds ks us g
      → IsWritten m l t f results types i ys us ks xs number gs ps rs → CallReads g i ys us (map m.local ks) xs number gs ps rs
  call_reads i [] none [] xs number gs ps rs g h w = statement_reads none g h i xs number gs ps rs w
  call_reads i (y ∷ ys) (more u us) (k ∷ ks) xs number gs ps rs g h w =
      (declared_reads (k ∷ ks) (more u us) g h i k u w.0, call_reads (suc (last (type_tree (suc (suc i)) u))) ys us ks xs number gs ps rs (on k u g) (next_holds k u ks us g w.0.counts h) w.1)
  call_reads i [] none (k ∷ ks) xs number gs ps rs g h w = absurd w
  call_reads i [] (more u us) ks xs number gs ps rs g h w = absurd w
  call_reads i (y ∷ ys) none ks xs number gs ps rs g h w = absurd w
  call_reads i (y ∷ ys) (more u us) [] xs number gs ps rs g h w = absurd w

  holds_first : (g : Frame) → SaysAs t g → SharedAlong m l f g → Holds results types g
  holds_first g c d = record { says_too = c; rights = d.rights; limits = d.limits; room = d.room; outside = λ k n. n; stays = λ k b n. d.locals k b; done = λ k u b r z. inl z }

pub read_in_place : ((p q : ℕ → Bool) (m : Moves) (l : ℕ → Bool) (f g : Frame) → AlongAt p q m l (unsourced f) (unsourced g) → SharedAlong m l f g) → CallsAreReadInPlace
read_in_place shared p q m l s t f g c results w r =
    let d = shared p q m l f g r.0 in
    call_reads m l t f results c.types d.apart c.first c.declared c.types results c.targets c.function c.arguments c.parameters c.results g (holds_first m l t f results c.types d.apart g r.2 d) w
