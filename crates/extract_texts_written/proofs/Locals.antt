-- The locals and the types of a window.
use Rattle.std.proofs.Common.{◌≡◌, ℕ, zero, suc, ◌<◌, Bool, true, false, List, [], ◌∷◌, ◌++◌, map, length, take, drop, Option, Some, None, refl, sym, ap, subst, ◌∙◌, arith}
use Rattle.std.specs.Prelude.{if◌then◌else◌, nat_eq, slice_get, unwrap_or}
use Rattle.std.specs.List.{AllByRecursion}
use Rattle.std.specs.Option.{option_map, option_to_list}
use Rattle.std.proofs.lemmas.Bool.{and_parts}
use Rattle.std.proofs.lemmas.Bool.Decides.{nat_tests}
use Rattle.std.proofs.lemmas.List.{length-map}
use Rattle.go_tree.specs.declared.object.Declared.{Declared}
use Rattle.go_types.specs.Tables.{type_of}
use Rattle.go_types.specs.Trees.{TypeTree}
use Rattle.go_typed.specs.declared.window.Window.{Window}
use Rattle.go_typed.specs.Contents.{FuncContent, Content, content, func_content}
use Rattle.go_typed.specs.Forms.{is_statement_list, values_count}
use Rattle.go_typed.specs.Funcs.{FuncView}
use Rattle.go_typed.specs.Lists.{own_list, statement_lists, lists_among, present, statements_of}
use Rattle.go_typed.specs.Packages.{PackageView, have_locals}
use Rattle.go_typed.specs.Trees.{Sort, Typed, typed, Typeds, form_of, parts_of, SortHas, Every, EveryPart}
use Rattle.go_typed.specs.Trees as trees
use Rattle.clone_window.specs.Windows.{row_of, statements_in, window_statements}
use Rattle.go_print_laws.specs.Lexemes.{IsName}
use Rattle.go_print_laws.specs.Types.{CanBeWritten}
use Rattle.param_choose.specs.Locals.{Variable, variable_of, variable_at, variables_where}
use Rattle.param_choose.specs.Members.{Member, member_over, member_of, members_of, template_of}
use Rattle.escape_check.specs.Places.{Sources, sources_of, name_text, local_text}
use Rattle.escape_check.specs.Types.{declared_text}
use Rattle.extract_texts_written.proofs.Declared.{HasName}
use Rattle.extract_texts_written.proofs.Origins.{there_below, below_there, each_there}
use Rattle.extract_texts_written.proofs.Packages.{IsWritten, name_there}
use Rattle.extract_texts_written.proofs.Types.{FunctionWritten}

-- Each local of a window's function has a name, and its type can be written; so can the types of the window's nodes.
pub record MemberWritten (s : Sources) (m : Member TypeTree) : Type 0 where
  pub named : (n : ℕ) → n < length m.locals → IsName (local_text s m n)
  pub types : AllByRecursion (λ x. SortHas (CanBeWritten (declared_text s)) x) m.locals
  pub statements : EveryPart (CanBeWritten (declared_text s)) m.statements

-- ---- the statements of a window

module _ (P : TypeTree → Type 0) where
  abbrev Holds : List (Typed TypeTree) → Type 0
  Holds xs = AllByRecursion (λ x. Every P x) xs

  both : (xs ys : List (Typed TypeTree)) → Holds xs → Holds ys → Holds (xs ++ ys)
  both [] ys h k = k
  both (x ∷ xs) ys h k = (h.0, both xs ys h.1 k)

  own_holds : (x : Typed TypeTree) → Every P x → Holds (own_list x)
  own_holds x h = by (is_statement_list (form_of x))
    where
      by : (b : Bool) → Holds (if b then x ∷ [] else [])
      by true = (h, tt)
      by false = tt

  mutual
    lists_hold : (x : Typed TypeTree) → Every P x → Holds (statement_lists x)
    lists_hold (typed f i j l ps) h = both (own_list (typed f i j l ps)) (lists_among ps) (own_holds (typed f i j l ps) h) (among_hold ps h.1)

    among_hold : (ps : Typeds TypeTree) → EveryPart P ps → Holds (lists_among ps)
    among_hold trees.none h = tt
    among_hold (trees.more p ps) h = both (statement_lists p) (lists_among ps) (lists_hold p h.0) (among_hold ps h.1)
    among_hold (trees.skip ps) h = among_hold ps h

  present_hold : (ps : Typeds TypeTree) → EveryPart P ps → Holds (present ps)
  present_hold trees.none h = tt
  present_hold (trees.more p ps) h = (h.0, present_hold ps h.1)
  present_hold (trees.skip ps) h = present_hold ps h

  dropped : (n : ℕ) (xs : List (Typed TypeTree)) → Holds xs → Holds (drop n xs)
  dropped zero xs h = h
  dropped (suc n) [] h = tt
  dropped (suc n) (x ∷ xs) h = dropped n xs h.1

  taken : (n : ℕ) (xs : List (Typed TypeTree)) → Holds xs → Holds (take n xs)
  taken zero xs h = tt
  taken (suc n) [] h = tt
  taken (suc n) (x ∷ xs) h = (h.0, taken n xs h.1)

  statements_hold : (x : Typed TypeTree) → Every P x → Holds (statements_of x)
  statements_hold (typed f i j l ps) h = dropped (values_count f) (present ps) (present_hold ps h.1)

  in_hold : (xs : List (Typed TypeTree)) (n : ℕ) (o : Option (Typed TypeTree)) → slice_get xs n ≡ o → Holds xs → Holds (statements_in o)
  in_hold xs n None e h = tt
  in_hold xs n (Some x) e h = statements_hold x (each_there (λ x. Every P x) xs n x h e)

  row_holds : (xs : List (Typed TypeTree)) → Holds xs → EveryPart P (row_of xs)
  row_holds [] h = tt
  row_holds (x ∷ xs) h = (h.0, row_holds xs h.1)

  window_holds : (root : Typed TypeTree) (w : Window) → Every P root → EveryPart P (window_statements root w)
  window_holds root w h =
      let ls = statement_lists root in
      let xs = statements_in (slice_get ls w.list) in
      row_holds (take w.count (drop w.first xs)) (taken w.count (drop w.first xs) (dropped w.first xs (in_hold ls w.list (slice_get ls w.list) refl (lists_hold root h))))

-- ---- its locals

same_test : (a b : ℕ) → nat_eq a b ≡ true → a ≡ b
same_test a b e = grind (arith, nat_tests)

as_many : (fs : List FuncView) (dss : List (List Declared)) (k : ℕ) (f : FuncView) → have_locals fs dss ≡ true → slice_get fs k ≡ Some f → (ds : List Declared) × (slice_get dss k ≡ Some ds) × (length f.locals ≡ length ds)
as_many [] [] k f h e = absurd cc
as_many [] (ds ∷ dss) k f h e = absurd cc
as_many (g ∷ fs) [] k f h e = absurd cc
as_many (g ∷ fs) (ds ∷ dss) zero f h e =
    let same : g ≡ f = cc in
    (ds, refl, sym (ap (λ (z : FuncView). length z.locals) same) ∙ same_test (length g.locals) (length ds) (and_parts (nat_eq (length g.locals) (length ds)) (have_locals fs dss) h).0)
as_many (g ∷ fs) (ds ∷ dss) (suc k) f h e = as_many fs dss k f (and_parts (nat_eq (length g.locals) (length ds)) (have_locals fs dss) h).1 e

unmapped : {A B : Type 0} (g : A → B) (xs : List A) (k : ℕ) (y : B) → slice_get (map g xs) k ≡ Some y → (x : A) × (slice_get xs k ≡ Some x) × (g x ≡ y)
unmapped g [] k y e = absurd cc
unmapped g (x ∷ xs) zero y e = (x, refl, cc)
unmapped g (x ∷ xs) (suc k) y e = unmapped g xs k y e

mapped_some : {A B : Type 0} (g : A → B) (o : Option A) (y : B) → option_map g o ≡ Some y → (x : A) × (o ≡ Some x) × (g x ≡ y)
mapped_some g None y e = absurd cc
mapped_some g (Some x) y e = (x, refl, cc)

module _ (p : PackageView) (many : have_locals p.functions p.uses.locals ≡ true) (h : IsWritten (content p)) where
  abbrev c : Content
  c = content p

  abbrev s : Sources
  s = sources_of c

  over_written : (w : Window) (f : FuncContent) → slice_get c.functions w.func ≡ Some f → MemberWritten s (member_over c.uses w f.locals f.tokens f.tree)
  over_written w f e =
      let own = each_there (FunctionWritten (declared_text s)) c.functions w.func f h.functions e in
      let v = unmapped (func_content (type_of p.types.shapes)) p.functions w.func f e in
      let ds = as_many p.functions p.uses.locals w.func v.0 many v.1 in
      let long : length f.locals ≡ length ds.0 = sym (ap (λ (z : FuncContent). length z.locals) v.2) ∙ length-map v.0.locals _ ∙ ds.2 in
      let names = each_there (λ xs. AllByRecursion (λ (d : Declared). HasName c.files d.file d.name) xs) c.uses.locals w.func ds.0 h.locals ds.1 in
      record {
        named = λ n l.
            let d = there_below ds.0 n (omega (arith, l, long)) in
            let at : slice_get (unwrap_or (slice_get c.uses.locals w.func) []) n ≡ Some d.0 = ap (λ o. slice_get (unwrap_or o []) n) ds.1 ∙ d.1 in
            subst (λ o. IsName (name_text s o)) (sym at) (name_there s d.0 (each_there (λ (d : Declared). HasName c.files d.file d.name) ds.0 n d.0 names d.1));
        types = own.locals;
        statements = window_holds (CanBeWritten (declared_text s)) f.tree w own.tree;
      }

  pub member_written : (w : Window) (m : Member TypeTree) → member_of c w ≡ Some m → MemberWritten s m
  member_written w m e =
      let f = mapped_some (λ (f : FuncContent). member_over c.uses w f.locals f.tokens f.tree) (slice_get c.functions w.func) m e in
      subst (MemberWritten s) f.2 (over_written w f.0 f.1)

  optional_written : (w : Window) (o : Option (Member TypeTree)) → member_of c w ≡ o → AllByRecursion (MemberWritten s) (option_to_list o)
  optional_written w None e = tt
  optional_written w (Some m) e = (member_written w m e, tt)

  joined : (xs ys : List (Member TypeTree)) → AllByRecursion (MemberWritten s) xs → AllByRecursion (MemberWritten s) ys → AllByRecursion (MemberWritten s) (xs ++ ys)
  joined [] ys a b = b
  joined (x ∷ xs) ys a b = (a.0, joined xs ys a.1 b)

  pub members_written : (ws : List Window) → AllByRecursion (MemberWritten s) (members_of c ws)
  members_written [] = tt
  members_written (w ∷ ws) = joined (option_to_list (member_of c w)) (members_of c ws) (optional_written w (member_of c w) refl) (members_written ws)

  pub template_written : (ws : List Window) (t : Member TypeTree) → template_of c ws ≡ Some t → MemberWritten s t
  template_written [] t e = absurd cc
  template_written (w ∷ ws) t e = member_written w t e

-- ---- variables

-- a variable has a name, and its type can be written
pub record VariableWritten (s : Sources) (m : Member TypeTree) (v : Variable TypeTree) : Type 0 where
  pub name : IsName (local_text s m v.local)
  pub type : CanBeWritten (declared_text s) v.type

module _ (s : Sources) (m : Member TypeTree) (h : MemberWritten s m) where
  abbrev AllWritten : List (Variable TypeTree) → Type 0
  AllWritten vs = AllByRecursion (VariableWritten s m) vs

  sort_there : (n : ℕ) (o : Option (Sort TypeTree)) → slice_get m.locals n ≡ o → AllWritten (variable_of n (unwrap_or o trees.Unknown))
  sort_there n None e = tt
  sort_there n (Some (trees.Value t)) e =
      (record { name = h.named n (below_there m.locals n (trees.Value t) e); type = each_there (λ x. SortHas (CanBeWritten (declared_text s)) x) m.locals n (trees.Value t) h.types e }, tt)
  sort_there n (Some x) e = tt

  pub at_written : (n : ℕ) → AllWritten (variable_at m.locals n)
  at_written n = sort_there n (slice_get m.locals n) refl

  both_written : (xs ys : List (Variable TypeTree)) → AllWritten xs → AllWritten ys → AllWritten (xs ++ ys)
  both_written [] ys a b = b
  both_written (x ∷ xs) ys a b = (a.0, both_written xs ys a.1 b)

  pub where_written : (test : ℕ → Bool) (ns : List ℕ) → AllWritten (variables_where m.locals test ns)
  where_written test [] = tt
  where_written test (n ∷ ns) = both_written (if test n then variable_at m.locals n else []) (variables_where m.locals test ns) (by (test n)) (where_written test ns)
    where
      by : (b : Bool) → AllWritten (if b then variable_at m.locals n else [])
      by true = at_written n
      by false = tt
