-- Specifications of constants, in which no variable stands.
use Rattle.std.proofs.Common.{◌≡◌, ◌∙◌, ℕ, List, [], ◌∷◌, ◌++◌, length, map, Option, Some, None, refl, sym, ap, subst}
use Rattle.std.specs.Prelude.{if◌then◌else◌, replicate}
use Rattle.go_grammar.specs.declared.kind.Kind.{Kind}
use Rattle.go_grammar.specs.declared.kind.Kind.TheVariants as kind
use Rattle.go_grammar.specs.declared.kind.Sort.TheVariants as declaring
use Rattle.go_grammar.specs.Trees.{Tree, Trees, node, none, more, skip}
use Rattle.go_types.specs.Trees.{TypeTree}
use Rattle.go_typed.specs.declared.form.Form.{Form}
use Rattle.go_typed.specs.declared.form.Form.TheVariants as form
use Rattle.go_typed.specs.Trees.{typed, sort_of, form_of, label_of, parts_of, list_of}
use Rattle.go_typed.specs.Trees as sort
use Rattle.go_exprs_rules.specs.declared.fault.TypeFault.{TypeFault}
use Rattle.go_exprs_rules.specs.Names.{declared_form}
use Rattle.go_exprs_rules.specs.Scopes.{value, declares}
use Rattle.go_exprs_rules.specs.Settling.{Part}
use Rattle.go_exprs_rules.specs.Sorts.{Stands}
use Rattle.go_exprs_rules.specs.Tables.{Parts, held, first_cut, is_judged}
use Rattle.go_stmts_defs.specs.Assigning.{Taking, takes, stands, rests, constant_in, constants_take}
use Rattle.go_stmts_defs.specs.Frames.{Frame}
use Rattle.go_stmts_defs.specs.Laying.{layout, form_by, typed_or_not}
use Rattle.go_stmts_defs.specs.Reading.{Found, Readings, all_read, after, name_node, list_node, holding, holdings, held_faults, all_held_faults}
use Rattle.go_stmts_defs.specs.Reading.{readings, is_new, declares_sort, declares_name, declares_all, part_source, repeated, repeated_faults, back, closed}
use Rattle.go_stmts_defs.specs.Rules.{type_there, values_there, constants_counted, type_or_rest, taking, own_faults, given_part, all_given, built_by}
use Rattle.go_exprs_variables.specs.Variables.{Standins, all_with_variables}
use Rattle.go_exprs_variables.proofs.Public.{All, each}
use Rattle.go_stmts_variables.specs.Frames.{FramesStand}
use Rattle.go_stmts_variables.specs.Statements.{frame_in}
use Rattle.go_stmts_variables.proofs.ConstantRests.{Rested}
use Rattle.go_stmts_variables.proofs.Declared.{AreDeclared, declared_of, names_held, names_faults, new_declared, same_names, IsDeclared, all_declared, declared_new}
use Rattle.go_stmts_variables.proofs.Defines.{taken_form}
use Rattle.go_stmts_variables.proofs.FixedTypes.{declared_key}
use Rattle.go_stmts_variables.proofs.Frames.{named_fresh, with_source_stands, back_stands}
use Rattle.go_stmts_variables.proofs.Lists.{list_row}
use Rattle.go_stmts_variables.proofs.Names.{AllFresh, sort_stands}
use Rattle.go_stmts_variables.proofs.Nodes.{Old}
use Rattle.go_stmts_variables.proofs.Puts.{AllTake}
use Rattle.go_stmts_variables.proofs.Splits.{length_each}
use Rattle.go_stmts_variables.proofs.Unchanged.{IsStill, AllStill, still_given, still_bare, still_both, IsFixedForm, still_built, Unchanged, node_on, unchanged_node, frame_last}

module _ (w : Standins) where
  -- ---- names of constants, with what they stand for

  name_still : (f : Frame) (x : Part) (z : Stands) → IsDeclared w f x → IsStill w (given_part (stands z) x)
  name_still f x z h =
      let fm : Form = declared_form f.around (f.around.objects h.first) in
      subst (λ y. IsStill w (given_part (stands z) y)) (sym h.is)
      (still_bare w fm h.first h.last (record (label_of (name_node f h.first h.last)) { sort = z }) (declared_key f.around (f.around.objects h.first)) h.free)

  bare_still : (f : Frame) (x : Part) → IsDeclared w f x → IsStill w x
  bare_still f x h =
      let fm : Form = declared_form f.around (f.around.objects h.first) in
      subst (IsStill w) (sym h.is) (still_bare w fm h.first h.last (label_of (name_node f h.first h.last)) (declared_key f.around (f.around.objects h.first)) h.free)

  names_still : (f : Frame) (ns : List Part) → All (IsDeclared w f) ns → AllStill w (each ns)
  names_still f [] h = tt
  names_still f (n ∷ ns) h = (bare_still f n h.0, names_still f ns h.1)

  given_names : (f : Frame) (t : Option TypeTree) (ns xs : List Part) (ks : List Taking) (zs : Parts) → All (IsDeclared w f) ns → AllStill w (all_given ks zs)
      → AllStill w (all_given (constants_take t (replicate (length ns) t) xs ++ ks) (each ns ++ zs))
  given_names f t [] xs ks zs h s = s
  given_names f t (n ∷ ns) [] ks zs h s = (name_still f n sort.Unknown h.0, given_names f t ns [] ks zs h.1 s)
  given_names f t (n ∷ ns) (x ∷ xs) ks zs h s = (name_still f n (constant_in t (sort_of x)) h.0, given_names f t ns xs ks zs h.1 s)

  takes_still : (ks : List Taking) (zs : Parts) → AllTake w ks → AllStill w zs → AllStill w (all_given ks zs)
  takes_still [] zs t s = s
  takes_still (takes k ∷ ks) [] t s = tt
  takes_still (takes k ∷ ks) (None ∷ zs) t s = takes_still ks zs t s
  takes_still (takes k ∷ ks) (Some z ∷ zs) t s = (still_given w k z s.0, takes_still ks zs t s.1)
  takes_still (stands x ∷ ks) zs t s = elim t [ ]

  values_rest : (t : Option TypeTree) (xs : List Part) → AllTake w (map (λ x. type_or_rest t) xs)
  values_rest t [] = tt
  values_rest None (x ∷ xs) = values_rest None xs
  values_rest (Some t) (x ∷ xs) = values_rest (Some t) xs

  -- ---- what is declared

  form_given : (k : Taking) (x : Part) → form_of (given_part k x) ≡ form_of x
  form_given (takes k) x = taken_form w k x
  form_given (stands z) (typed f i j l ps) = refl

  fresh_given : (ks : List Taking) (ys : Parts) → AllFresh w ys → AllFresh w (all_given ks ys)
  fresh_given [] ys h = h
  fresh_given (k ∷ ks) [] h = tt
  fresh_given (k ∷ ks) (None ∷ ys) h = fresh_given ks ys h
  fresh_given (k ∷ ks) (Some y ∷ ys) h = ((λ n e. h.0 n (sym (ap is_new (form_given k y)) ∙ e)), fresh_given ks ys h.1)

  names_fresh : (f g : Frame) (ns : List Part) (zs : Parts) → FramesStand w f g → All (IsDeclared w f) ns → AllFresh w zs → AllFresh w (each ns ++ zs)
  names_fresh f g [] zs st h s = s
  names_fresh f g (n ∷ ns) zs st h s =
      let m = h.0 in
      ((λ k e. named_fresh w f g m.first k st m.free (declared_new f.around (f.around.objects m.first) k (sym (ap (λ y. is_new (form_of y)) m.is) ∙ e))), names_fresh f g ns zs st h.1 s)

  built_fresh : (s : Frame) (k : Kind) (f : Form) (i j : ℕ) (ys : Parts) (own : List TypeFault) → AllFresh w ys → AllFresh w (list_of (parts_of (built_by s k f i j ys own)))
  built_fresh s k f i j ys [] h = subst (AllFresh w) (sym (list_row (all_given (taking s k f ys) ys))) (fresh_given (taking s k f ys) ys h)
  built_fresh s k f i j ys (x ∷ xs) h = subst (AllFresh w) (sym (list_row ys)) h

  declared_same : (f g : Frame) (xs : Parts) → AllFresh w xs → FramesStand w f g → FramesStand w (declares_all xs f) (declares_all xs g)
  declared_same f g [] h st = st
  declared_same f g (None ∷ xs) h st = declared_same f g xs h st
  declared_same f g (Some x ∷ xs) h st = declared_same (declares_name (Some x) f) (declares_name (Some x) g) xs h.1 (sort_stands w f g (is_new (form_of x)) (sort_of x) h.0 st)

  sort_source : (o : Option ℕ) (z : Stands) (s : Frame) → (declares_sort o z s).source ≡ s.source
  sort_source None z s = refl
  sort_source (Some n) sort.Nothing s = refl
  sort_source (Some n) z s = refl

  name_source : (x : Option Part) (s : Frame) → (declares_name x s).source ≡ s.source
  name_source None s = refl
  name_source (Some x) s = sort_source (is_new (form_of x)) (sort_of x) s

  names_source : (xs : Parts) (s : Frame) → (declares_all xs s).source ≡ s.source
  names_source [] s = refl
  names_source (x ∷ xs) s = names_source xs (declares_name x s) ∙ name_source x s

  -- what a later specification repeats
  pub closed_source : (f : Frame) (i j : ℕ) (ps : Trees) (r : Readings) → (frame_in (closed f (kind.Specification declaring.Constant) i j ps r)).source ≡ part_source ps (frame_last w r).source
  closed_source f i j ps (all_read xs fs s) =
      let x = node_on w s (kind.Specification declaring.Constant) (form_by (kind.Specification declaring.Constant) xs) i j (layout s (kind.Specification declaring.Constant) i xs) in
      names_source (list_of (parts_of x)) (record (back f s) { source = part_source ps s.source })

  -- ---- what stands behind the names

  -- what a specification without values repeats is read the same
  abbrev pub Sourced : Frame → Type 0
  Sourced f = (r : Tree) → f.source ≡ Some r → Rested w r

  abbrev K : Kind
  K = kind.Specification declaring.Constant

  pub record Tail (f g : Frame) (ps : Trees) : Type 0 where
    pub part : Option Part
    pub found : Found
    pub old : (all : Trees) (m : Part) (fs : Found) → readings f (kind.Specification declaring.Constant) value all (Some m ∷ []) fs ps ≡ all_read (Some m ∷ part ∷ []) (fs ++ found) f
    pub new : (all : Trees) (m : Part) (fs : Found) → readings g (kind.Specification declaring.Constant) value all (Some m ∷ []) fs (all_with_variables w ps) ≡ all_read (Some m ∷ part ∷ []) (fs ++ found) g
    pub still : AllStill w (first_cut (typed_or_not part))
    pub fresh : AllFresh w (first_cut (typed_or_not part))
    pub source : (n m : Tree) → part_source (more m (all_with_variables w ps)) g.source ≡ part_source (more n ps) f.source

  repeated_same : (f g : Frame) (o : Option Tree) → FramesStand w f g → ((r : Tree) → o ≡ Some r → Rested w r) → repeated g o ≡ repeated f o
  repeated_same f g None st p = refl
  repeated_same f g (Some r) st p = ap Some ((p r refl).holds f g st)

  repeated_found : (f g : Frame) (o : Option Tree) → FramesStand w f g → ((r : Tree) → o ≡ Some r → Rested w r) → repeated_faults g o ≡ repeated_faults f o
  repeated_found f g None st p = refl
  repeated_found f g (Some r) st p = (p r refl).found f g st

  repeated_still : (f : Frame) (o : Option Tree) → ((r : Tree) → o ≡ Some r → Rested w r) → AllStill w (first_cut (typed_or_not (repeated f o)))
  repeated_still f None p = tt
  repeated_still f (Some r) p = (p r refl).still f

  repeated_fresh : (f : Frame) (o : Option Tree) → ((r : Tree) → o ≡ Some r → Rested w r) → AllFresh w (first_cut (typed_or_not (repeated f o)))
  repeated_fresh f None p = tt
  repeated_fresh f (Some r) p = (p r refl).fresh f

  -- nothing, so that the last values are repeated
  pub bare_tail : (f g : Frame) → FramesStand w f g → Sourced f → Tail f g (skip none)
  bare_tail f g st p =
      let same : repeated g g.source ≡ repeated f f.source = ap (repeated g) st.source ∙ repeated_same f g f.source st p in
      let faults : repeated_faults g g.source ≡ repeated_faults f f.source = ap (repeated_faults g) st.source ∙ repeated_found f g f.source st p in
      record {
        part = repeated f f.source;
        found = repeated_faults f f.source;
        old = λ all m fs. refl;
        new = λ all m fs. ap (λ x. all_read (Some m ∷ x ∷ []) (fs ++ repeated_faults g g.source) g) same ∙ ap (λ z. all_read (Some m ∷ repeated f f.source ∷ []) (fs ++ z) g) faults;
        still = repeated_still f f.source p;
        fresh = repeated_fresh f f.source p;
        source = λ n m. st.source;
      }

  pub rest_tail : (f g : Frame) (r : Tree) → FramesStand w f g → Rested w r → Tail f g (more r none)
  rest_tail f g r st p =
      record {
        part = Some (holding f value r);
        found = held_faults f value r;
        old = λ all m fs. ap (λ q. after q (λ x gs t. all_read (Some m ∷ Some x ∷ []) (fs ++ gs) t)) (p.reads f);
        new = λ all m fs. ap (λ q. readings g (kind.Specification declaring.Constant) value all (Some m ∷ []) fs (more q none)) (p.same f) ∙ ap (λ q. after q (λ x gs t. all_read (Some m ∷ Some x ∷ []) (fs ++ gs) t)) (p.reads g)
            ∙ ap (λ x. all_read (Some m ∷ Some x ∷ []) (fs ++ held_faults g value r) g) (p.holds f g st) ∙ ap (λ z. all_read (Some m ∷ Some (holding f value r) ∷ []) (fs ++ z) g) (p.found f g st);
        still = p.still f;
        fresh = p.fresh f;
        source = λ n m. ap Some (p.same f);
      }

  -- ---- a specification

  constant_form : (n : ℕ) → IsFixedForm w (form.Specified n)
  constant_form n = record { key = refl; name = refl }

  module _ (i j a b : ℕ) (ds rest : Trees) (named : AreDeclared w ds) where
    abbrev names_node : Frame → Trees → Part
    names_node f ds = list_node f kind.NameList a b (holdings f kind.NameList declares ds [] ds)

    abbrev names_found : Frame → Trees → Found
    names_found f ds = all_held_faults f kind.NameList declares ds [] ds

    names_are : (f : Frame) (ds : Trees) → AreDeclared w ds → held (Some (names_node f ds)) ≡ each (declared_of w f ds)
    names_are f ds named = list_row (holdings f kind.NameList declares ds [] ds) ∙ names_held w f declares ds [] ds named

    abbrev whole : Trees
    whole = more (node kind.NameList a b ds) rest

    module _ (f g : Frame) (st : FramesStand w f g) (tail : Tail f g rest) where
      abbrev ns : List Part
      ns = declared_of w f ds

      abbrev ds' : Trees
      ds' = all_with_variables w ds

      abbrev zs : Parts
      zs = first_cut (typed_or_not tail.part)

      abbrev ys : Parts
      ys = each (declared_of w f ds) ++ first_cut (typed_or_not tail.part)

      are_names : All (IsDeclared w f) ns
      are_names = all_declared w f ds named

      constant_old : Old w f value (kind.Specification declaring.Constant) i j (more (node kind.NameList a b ds) rest)
      constant_old = record {
        parts = Some (names_node f ds) ∷ tail.part ∷ [];
        found = names_found f ds ++ tail.found;
        behind = f;
        form = form.Specified (length ns);
        laid = ys;
        is = tail.old whole (names_node f ds) (names_found f ds);
        laid_is = ap (λ z. z ++ zs) (names_are f ds named);
        form_is = ap (λ z. form.Specified (length z)) (names_are f ds named) ∙ ap form.Specified (length_each ns);
      }

      named_new : AreDeclared w ds'
      named_new = new_declared w ds named

      constant_new : Old w g value (kind.Specification declaring.Constant) i j (all_with_variables w (more (node kind.NameList a b ds) rest))
      constant_new = record {
        parts = Some (names_node g ds') ∷ tail.part ∷ [];
        found = names_found g ds' ++ tail.found;
        behind = g;
        form = form.Specified (length (declared_of w g ds'));
        laid = each (declared_of w g ds') ++ zs;
        is = tail.new (all_with_variables w whole) (names_node g ds') (names_found g ds');
        laid_is = ap (λ z. z ++ zs) (names_are g ds' named_new);
        form_is = ap (λ z. form.Specified (length z)) (names_are g ds' named_new) ∙ ap form.Specified (length_each (declared_of w g ds'));
      }

      abbrev x : Part
      x = node_on w f (kind.Specification declaring.Constant) (form.Specified (length (declared_of w f ds))) i j (each (declared_of w f ds) ++ first_cut (typed_or_not tail.part))

      laid_fresh : AllFresh w ys
      laid_fresh = names_fresh f g ns zs st are_names tail.fresh

      frame_behind : FramesStand w (declares_all (list_of (parts_of x)) (record (back f f) { source = part_source whole f.source }))
          (declares_all (list_of (parts_of x)) (record (back g g) { source = part_source (all_with_variables w whole) g.source }))
      frame_behind =
          declared_same (record (back f f) { source = part_source whole f.source }) (record (back g g) { source = part_source (all_with_variables w whole) g.source }) (list_of (parts_of x))
          (built_fresh f K (form.Specified (length ns)) i j ys (own_faults f K (form.Specified (length ns)) i j ys) laid_fresh)
          (with_source_stands w (back f f) (back g g) (part_source whole f.source) (part_source (all_with_variables w whole) g.source) (tail.source (node kind.NameList a b ds) (node kind.NameList a b ds')) (back_stands w f g f g st st))

      laid_still : AllStill w ys
      laid_still = still_both w (each ns) zs (names_still f ns are_names) tail.still

      given_still : AllStill w (all_given (taking f K (form.Specified (length ns)) ys) ys)
      given_still =
          let t = type_there (length ns) ys in
          let vs = values_there (length ns) ys in
          given_names f t ns vs (rests ∷ map (λ x. type_or_rest t) vs) zs are_names (takes_still (rests ∷ map (λ x. type_or_rest t) vs) zs (values_rest t vs) tail.still)

      pub constant_unchanged : Unchanged w f g value (node (kind.Specification declaring.Constant) i j (more (node kind.NameList a b ds) rest))
      unfolding constant_old constant_new
      constant_unchanged =
          let names : declared_of w g ds' ≡ ns = same_names w f g ds st named in
          unchanged_node w f g value K i j whole constant_old constant_new refl refl (ap (λ z. form.Specified (length z)) names) (ap (λ z. each z ++ zs) names)
          (ap (λ z. z ++ tail.found) (names_faults w g declares ds' [] ds' named_new ∙ sym (names_faults w f declares ds [] ds named)))
          (ap (λ q. if is_judged ys then constants_counted q i j (length ns) (type_there (length ns) ys) (values_there (length ns) ys) else []) st.rights) refl frame_behind
          (still_built w f K (form.Specified (length ns)) i j ys (own_faults f K (form.Specified (length ns)) i j ys) (constant_form (length ns)) laid_still given_still)
