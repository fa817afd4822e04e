-- The same fault of bodies is reported of the functions that stay as they are.
use Rattle.std.proofs.Common.{◌≡◌, ◌∙◌, ℕ, suc, ◌+◌, ◌-◌, ◌<◌, ◌≤◌, inl, inr, ◌⊎◌, Bool, true, false, List, [], ◌∷◌, ◌++◌, length, map, Option, Some, None, refl, sym, ap, subst, arith}
use Rattle.std.specs.Prelude.{if◌then◌else◌, nat_eq, Result, Ok, Err}
use Rattle.std.specs.List.{AllByRecursion}
use Rattle.std.proofs.lemmas.Bool.Decides.{nat_tests}
use Rattle.go_base.specs.Gives.{◌>>=◌}
use Rattle.go_tokens.specs.declared.token.TokenKind.{TokenKind}
use Rattle.go_tokens.specs.declared.token.TokenKind.TheVariants as token
use Rattle.go_tokens.specs.Tokens.{kinds}
use Rattle.go_grammar.specs.declared.kind.Kind.{Kind}
use Rattle.go_grammar.specs.declared.kind.Kind.TheVariants as kind
use Rattle.go_grammar.specs.declared.kind.Category.TheVariants as category
use Rattle.go_grammar.specs.declared.kind.Sort.{Sort}
use Rattle.go_grammar.specs.declared.kind.Sort.TheVariants as declaring
use Rattle.go_grammar.specs.Grammar.{Derives, Spells, Goes}
use Rattle.go_grammar.specs.Rules.{Each, Many}
use Rattle.go_grammar.specs.Trees.{Tree, node, Trees, none, more, skip, first, last}
use Rattle.go_tree.specs.declared.context.Entity.{Entity}
use Rattle.go_tree.specs.declared.context.Entity.TheVariants as entity
use Rattle.go_tree.specs.Failures.{Failure}
use Rattle.go_tree.specs.Units.{bytes_of}
use Rattle.go_types.specs.Relations.{Rights}
use Rattle.go_exprs_rules.specs.declared.fault.TypeFault.{TypeFault}
use Rattle.go_stmts_defs.specs.Bodies.{based, all_based}
use Rattle.go_stmts_elsewhere.specs.Functions.{AlongFunctions, FunctionAlong, KeepsOrder}
use Rattle.go_scopes_events.proofs.Public.{IsLaidOut, LieIn, behind_name, derives_laid, laid_grows, lie_order}
use Rattle.go_package_defs.specs.Answer.{failure_at, specifications}
use Rattle.go_package_defs.specs.Bodies.{Behind, Functions, Surroundings, based_tree, functions_from, is_this, moved_fault, placed, portion_of, those_of, typed_function, with_function}
use Rattle.go_package_defs.specs.Declarations.{Specification, declaration, declarations, declared, function, grouped, in_file, source_behind, specification_of}
use Rattle.go_package_defs.specs.Sources.{Source, Package, tokens_in, unit_of}
use Rattle.go_heads_added.specs.Added.{Gap, beyond}
use Rattle.go_heads_added.specs.Kept.{KeepsPackage}
use Rattle.go_package_settled.specs.Read.{IsFaultless}
use Rattle.go_package_added.specs.Appended.{IsAppended, function_specification, package_in}
use Rattle.go_package_added.specs.OneMore.{function_moves}
use Rattle.go_package_added.specs.Reported.{FunctionsStay, KeepsBodies}
use Rattle.go_package_added.specs.Unchanged.{StaysTyped, last_in}
use Rattle.go_package_added.proofs.Appending.{are, derived, front, rest, were}
use Rattle.go_package_added.proofs.Inserted.{front_of, rest_of}
use Rattle.go_package_added.proofs.Lows.{AreLow, IsLow, MaybeLow, fault_low}
use Rattle.go_package_added.proofs.Rounds.{behind_it, in_front}
use Rattle.go_package_added.proofs.Scopes.{KeepsWords}
use Rattle.go_package_added.proofs.Specified.{both_of, in_file_file}
use Rattle.go_package_added.proofs.Unchanged.{FunctionsElsewhere}

-- ---- functions of a file end in front of its last token

-- the function's tree stands over its tokens, which end in front of the token n
pub record EndsInFront (n : ℕ) (d : Specification) : Type 0 where
  pub tree : Tree
  pub is : d.tree ≡ Some tree
  pub laid : IsLaidOut tree
  pub begins : first tree ≡ d.first
  pub last_one : last tree ≡ d.last
  pub ends : d.last < n

abbrev OnlyFunctions : (Specification → Type 0) → Specification → Type 0
OnlyFunctions P d = is_this entity.Function d.entity ≡ true → P d

false_true : {A : Type 0} → false ≡ true → A
false_true e = cc

module _ (k n : ℕ) where
  abbrev Ends : Specification → Type 0
  Ends d = OnlyFunctions (EndsInFront n) d

  no_function : (s : Sort) (c : ℕ) (r : Option Tree) (t : Tree) → Ends (specification_of k s c r t)
  no_function declaring.Constant c r (node l i j ps) = λ e. false_true e
  no_function declaring.Type c r (node l i j ps) = λ e. false_true e
  no_function declaring.Variable c r (node l i j ps) = λ e. false_true e

  grouped_ends : (s : Sort) (c : ℕ) (r : Option Tree) (ps : Trees) → AllByRecursion Ends (grouped k s c r ps)
  grouped_ends s c r none = tt
  grouped_ends s c r (more p ps) = (no_function s c r p, grouped_ends s (suc c) (source_behind r p) ps)
  grouped_ends s c r (skip ps) = grouped_ends s c r ps

  declared_ends : (s : Sort) (ps : Trees) → AllByRecursion Ends (declared k s ps)
  declared_ends s none = tt
  declared_ends s (skip ps) = grouped_ends s 0 None (skip ps)
  declared_ends s (more (node (kind.Group g) i j ps) none) = grouped_ends s 0 None ps
  declared_ends s (more (node (kind.Group g) i j ps) (more u us)) = grouped_ends s 0 None (more (node (kind.Group g) i j ps) (more u us))
  declared_ends s (more (node (kind.Group g) i j ps) (skip us)) = grouped_ends s 0 None (more (node (kind.Group g) i j ps) (skip us))
  declared_ends s (more (node l i j ps) us) = grouped_ends s 0 None (more (node l i j ps) us)

  declaration_ends : (t : Tree) → IsLaidOut t → last t < n → AllByRecursion Ends (declaration k t)
  declaration_ends (node (kind.Declaration s) i j ps) h l = declared_ends s ps
  declaration_ends (node kind.FunctionDeclaration i j ps) h l = (λ e. record { tree = node kind.FunctionDeclaration i j ps; is = refl; laid = h; begins = refl; last_one = refl; ends = l }, tt)
  declaration_ends (node k i j ps) h l = tt

  -- each declaration is followed by a semicolon
  module _ (ts : List TokenKind) where
    behind_each : (ps : Trees) (i j : ℕ) → Goes ts (Each category.Declaration (token.Semicolon ∷ []) []) i ps j → LieIn i j ps → j ≤ n → (i < j) × AllByRecursion Ends (declarations k ps)
    behind_each none i j (inl h) g u = absurd h
    behind_each none i j (inr h) g u = (let a = h.1.1 in let b = h.2 in omega (arith, a, b), tt)
    behind_each (more p ps) i j h g u =
        let next = behind_each ps (last p) j h.4 g.2 u in
        let a = next.0 in
        let b = laid_grows p g.1 in
        let c = g.0 in
        (omega (arith, a, b, c), both_of k Ends (declaration k p) (declarations k ps) (declaration_ends p g.1 (omega (arith, a, u))) next.1)
    behind_each (skip ps) i j h g u = absurd h

    all_each : (ps : Trees) (i j : ℕ) → Spells ts (Many [] (Each category.Declaration (token.Semicolon ∷ []) [])) i ps j → LieIn i j ps → j ≤ n → AllByRecursion Ends (declarations k ps)
    all_each none i j h g u = tt
    all_each (more p ps) i j h g u =
        let next = behind_each ps (last p) j h.4 g.2 u in
        let a = next.0 in
        both_of k Ends (declaration k p) (declarations k ps) (declaration_ends p g.1 (omega (arith, a, u))) next.1
    all_each (skip ps) i j h g u = absurd h

    imports_end : (p : Tree) → Derives ts category.Imports p → AllByRecursion Ends (declaration k p)
    imports_end (node kind.Imports i j ps) h = tt
    imports_end (node k i j ps) h = false_true h.0

    pub file_ends : (i j : ℕ) (ps : Trees) → Derives ts category.File (node kind.File i j ps) → j ≤ n → AllByRecursion Ends (declarations k ps)
    file_ends i j none h u = absurd h.1
    file_ends i j (skip ps) h u = all_each ps h.1.0 j h.1.2 (spelled_lie ps h.1.0 j h.1.2) u
      where
        spelled_lie : (qs : Trees) (a b : ℕ) → Spells ts (Many [] (Each category.Declaration (token.Semicolon ∷ []) [])) a qs b → LieIn a b qs
        spelled_lie none a b z = let x = z.1 in let y = z.2 in omega (arith, x, y)
        spelled_lie (more q qs) a b z = (let x = z.1 in let y = z.2 in omega (arith, x, y), derives_laid ts q category.Declaration z.3, goes_lie qs (last q) b z.4)
          where
            goes_lie : (rs : Trees) (a b : ℕ) → Goes ts (Each category.Declaration (token.Semicolon ∷ []) []) a rs b → LieIn a b rs
            goes_lie none a b (inl y) = absurd y
            goes_lie none a b (inr y) = let c = y.1.1 in let e = y.2 in omega (arith, c, e)
            goes_lie (more r rs) a b y = (let c = y.1.1 in let e = y.2 in omega (arith, c, e), derives_laid ts r category.Declaration y.3, goes_lie rs (last r) b y.4)
            goes_lie (skip rs) a b y = absurd y
        spelled_lie (skip qs) a b z = absurd z
    file_ends i j (more p ps) h u =
        let laid = (derives_laid ts (node kind.File i j (more p ps)) category.File h).1 in
        both_of k Ends (declaration k p) (declarations k ps) (imports_end p h.1.1) (all_each ps (last p) j h.1.2 laid.2 u)

-- ---- where a function's fault stands

mutual
  based_low : (b w : ℕ) (t : Tree) → IsLaidOut t → b ≤ first t → last t ≤ b + w → IsLow w (based b t)
  based_low b w (node k i j ps) h l u =
      let grows = h.0 in
      (omega (arith, grows, l, u), omega (arith, l, u), parts_low b w (behind_name k i) j ps h.1 (let o = at_least k i in omega (arith, l, o)) u)
    where
      at_least : (k : Kind) (i : ℕ) → i ≤ behind_name k i
      at_least kind.FunctionDeclaration i = omega arith
      at_least (kind.Specification declaring.Type) i = omega arith
      at_least kind.DeclaredName i = omega arith
      at_least kind.Name i = omega arith
      at_least k i = omega arith

  parts_low : (b w i j : ℕ) (ps : Trees) → LieIn i j ps → b ≤ i → j ≤ b + w → AreLow w (all_based b ps)
  parts_low b w i j none h l u = tt
  parts_low b w i j (more p ps) h l u =
      let a = h.0 in
      let o = lie_order (last p) j ps h.2 in
      let g = laid_grows p h.1 in
      (based_low b w p h.1 (omega (arith, a, l)) (omega (arith, o, u)), parts_low b w (last p) j ps h.2 (omega (arith, a, l, g)) u)
  parts_low b w i j (skip ps) h l u = parts_low b w i j ps h l u

maybe_low : (n : ℕ) (d : Specification) → EndsInFront n d → MaybeLow (d.last - d.first) (based_tree d.first d.tree)
maybe_low n d e =
    subst (λ o. MaybeLow (d.last - d.first) (based_tree d.first o)) (sym e.is)
    (based_low d.first (d.last - d.first) e.tree e.laid (let a = e.begins in omega (arith, a)) (let a = e.last_one in let b = e.begins in let g = laid_grows e.tree e.laid in omega (arith, a, b, g)))

abbrev FileStays : ℕ → ℕ → Package → Package → Type 0
FileStays k n p q = (m x y : ℕ) → (m ≡ k → (x < n) × (y ≤ n)) → bytes_of m (tokens_in q m) x y ≡ bytes_of m (tokens_in p m) x y

-- it stands in another file, or ends in front of the token n
abbrev StandsAside : ℕ → ℕ → Specification → Type 0
StandsAside k n d = (nat_eq d.file k ≡ false) ⊎ EndsInFront n d

same_test : (x y : ℕ) → x ≡ y → nat_eq x y ≡ true
same_test x y e = grind (arith, e)

module _ (law : FunctionsElsewhere) (words : KeepsWords) (k n : ℕ) (p q : Package) (g : Gap) (a b : Surroundings) (files : FileStays k n p q) where
  failure_same : (d : Specification) → StandsAside k n d → (rights : Rights) (number : ℕ) (f : TypeFault) → typed_function p a rights number d ≡ Err f
      → failure_at q d.file (moved_fault d.first f) ≡ failure_at p d.file (moved_fault d.first f)
  failure_same d w rights number f e = ap (λ s. let z : Failure = record { code = f.code; place = s } in z) (files d.file (d.first + f.first) (d.first + f.last) (by w))
    where
      by : StandsAside k n d → d.file ≡ k → (d.first + f.first < n) × (d.first + f.last ≤ n)
      by (inl o) z = false_true (sym o ∙ same_test d.file k z)
      by (inr o) z =
          let low = fault_low law words p a rights number d f (maybe_low n d o) e in
          let x = low.0 in
          let y = low.1 in
          let ends = o.ends in
          let begins = o.begins in
          let last_one = o.last_one in
          let grows = laid_grows o.tree o.laid in
          (omega (arith, x, ends, begins, last_one, grows), omega (arith, y, ends, begins, last_one, grows))

  -- a function in both packages
  abbrev OneStays : ℕ → Specification → Result Behind Failure → Result Behind Failure → Type 0
  OneStays number d (Ok x) (Ok y) = FunctionAlong (function_moves g) (λ n. true) (last_in (portion_of p d).tree) (beyond g.functions number) x.function y.function × (y.rights ≡ x.rights)
  OneStays number d (Err f) (Err h) = h ≡ f
  OneStays number d r s = ⊥

  keeps_order : KeepsOrder (function_moves g)
  keeps_order = record { less = λ x y. refl; same = λ x y. refl }

  one_stays : (d : Specification) → StandsAside k n d → (rights : Rights) (number : ℕ) → StaysTyped p q g a b rights number d
      → OneStays number d (placed p d (typed_function p a rights number d)) (placed q d (typed_function q b rights (beyond g.functions number) d))
  one_stays d w rights number h = by (typed_function p a rights number d) (typed_function q b rights (beyond g.functions number) d) refl h
    where
      by : (r s : Result Behind TypeFault) → typed_function p a rights number d ≡ r → AlongFunctions (function_moves g) (λ n. true) (last_in (portion_of p d).tree) (beyond g.functions number) r s
          → OneStays number d (placed p d r) (placed q d s)
      by (Ok x) (Ok y) e z = z
      by (Err f) (Err o) e z = ap (λ (t : TypeFault). failure_at q d.file (moved_fault d.first t)) (z keeps_order) ∙ failure_same d w rights number f e
      by (Ok x) (Err o) e z = absurd z
      by (Err f) (Ok y) e z = absurd z

  -- functions one behind the other
  later : (number : ℕ) (d : Specification) (ds : List Specification) (x y : Behind) (u v : Result Functions Failure)
      → FunctionAlong (function_moves g) (λ n. true) (last_in (portion_of p d).tree) (beyond g.functions number) x.function y.function → FunctionsStay p g (suc number) ds u v
      → FunctionsStay p g number (d ∷ ds) (u >>= λ fs. Ok (with_function x.function fs)) (v >>= λ fs. Ok (with_function y.function fs))
  later number d ds x y (Ok u) (Ok v) h z = ((h, z.0), z.1)
  later number d ds x y (Err u) (Err v) h z = z
  later number d ds x y (Ok u) (Err v) h z = absurd z
  later number d ds x y (Err u) (Ok v) h z = absurd z

  one_more_stays : (number other : ℕ) (d : Specification) (ds : List Specification) (r s : Result Behind Failure) → OneStays number d r s
      → ((rights : Rights) → FunctionsStay p g (suc number) ds (functions_from p a rights (suc number) ds) (functions_from q b rights other ds))
      → FunctionsStay p g number (d ∷ ds) (r >>= λ x. functions_from p a x.rights (suc number) ds >>= λ fs. Ok (with_function x.function fs)) (s >>= λ x. functions_from q b x.rights other ds >>= λ fs. Ok (with_function x.function fs))
  one_more_stays number other d ds (Ok x) (Ok y) h z =
      later number d ds x y (functions_from p a x.rights (suc number) ds) (functions_from q b y.rights other ds) h.0
      (subst (λ rights. FunctionsStay p g (suc number) ds (functions_from p a x.rights (suc number) ds) (functions_from q b rights other ds)) (sym h.1) (z x.rights))
  one_more_stays number other d ds (Err x) (Err y) h z = h
  one_more_stays number other d ds (Ok x) (Err y) h z = absurd h
  one_more_stays number other d ds (Err x) (Ok y) h z = absurd h

  abbrev Typed : Specification → Type 0
  Typed d = (rights : Rights) (number : ℕ) → StaysTyped p q g a b rights number d

  functions_stay : (ds : List Specification) → AllByRecursion (StandsAside k n) ds → AllByRecursion Typed ds → (rights : Rights) (number other : ℕ) → ((i : ℕ) → i < length ds → beyond g.functions (number + i) ≡ other + i)
      → FunctionsStay p g number ds (functions_from p a rights number ds) (functions_from q b rights other ds)
  functions_stay [] w h rights number other e = (tt, refl)
  functions_stay (d ∷ ds) w h rights number other e =
      let own : beyond g.functions number ≡ other = ap (beyond g.functions) (let z : number ≡ number + 0 = omega arith in z) ∙ e 0 (omega arith) ∙ (let z : other + 0 ≡ other = omega arith in z) in
      one_more_stays number (suc other) d ds (placed p d (typed_function p a rights number d)) (placed q d (typed_function q b rights other d))
      (subst (λ i. OneStays number d (placed p d (typed_function p a rights number d)) (placed q d (typed_function q b rights i d))) own (one_stays d w.0 rights number (h.0 rights number)))
      (λ r. functions_stay ds w.1 h.1 r (suc number) (suc other)
      (λ i l. ap (beyond g.functions) (let z : suc number + i ≡ number + suc i = omega arith in z) ∙ e (suc i) (omega (arith, l)) ∙ (let z : other + suc i ≡ suc other + i = omega arith in z)))

  pub front_functions : (ds : List Specification) → AllByRecursion (StandsAside k n) ds → AllByRecursion Typed ds → (rights : Rights) (number : ℕ) → number + length ds ≤ g.functions
      → FunctionsStay p g number ds (functions_from p a rights number ds) (functions_from q b rights number ds)
  front_functions ds w h rights number l = functions_stay ds w h rights number number (λ i u. in_front g.functions (number + i) (omega (arith, l, u)))

  pub rest_functions : (ds : List Specification) → AllByRecursion (StandsAside k n) ds → AllByRecursion Typed ds → (rights : Rights) (number : ℕ) → g.functions ≤ number
      → FunctionsStay p g number ds (functions_from p a rights number ds) (functions_from q b rights (suc number) ds)
  rest_functions ds w h rights number l = functions_stay ds w h rights number (suc number) (λ i u. behind_it g.functions (number + i) (omega (arith, l)) ∙ (let z : suc (number + i) ≡ suc number + i = omega arith in z))

-- ---- the functions of a package

those_append : (e : Entity) (xs ys : List Specification) → those_of e (xs ++ ys) ≡ those_of e xs ++ those_of e ys
those_append e [] ys = refl
those_append e (x ∷ xs) ys = by (is_this e x.entity) (those_append e xs ys)
  where
    by : (b : Bool) → those_of e (xs ++ ys) ≡ those_of e xs ++ those_of e ys → (if b then x ∷ those_of e (xs ++ ys) else those_of e (xs ++ ys)) ≡ (if b then x ∷ those_of e xs else those_of e xs) ++ those_of e ys
    by true z = ap (λ l. x ∷ l) z
    by false z = z

those_have : (P : Specification → Type 0) (xs : List Specification) → AllByRecursion (OnlyFunctions P) xs → AllByRecursion P (those_of entity.Function xs)
those_have P [] h = tt
those_have P (x ∷ xs) h = by (is_this entity.Function x.entity) refl (those_have P xs h.1)
  where
    by : (b : Bool) → is_this entity.Function x.entity ≡ b → AllByRecursion P (those_of entity.Function xs) → AllByRecursion P (if b then x ∷ those_of entity.Function xs else those_of entity.Function xs)
    by true e z = (h.0 e, z)
    by false e z = z

weaker : (P Q : Specification → Type 0) → ((d : Specification) → P d → Q d) → (xs : List Specification) → AllByRecursion P xs → AllByRecursion Q xs
weaker P Q f [] h = tt
weaker P Q f (x ∷ xs) h = (f x h.0, weaker P Q f xs h.1)

aside_files : (k n m : ℕ) (ss : List Source) → ((i : ℕ) → m ≤ i → i < m + length ss → nat_eq i k ≡ false) → AllByRecursion (StandsAside k n) (specifications m ss)
aside_files k n m [] f = tt
aside_files k n m (s ∷ ss) f =
    both_of m (StandsAside k n) (in_file m s.tree) (specifications (suc m) ss)
    (weaker (λ d. d.file ≡ m) (StandsAside k n) (λ d e. inl (ap (λ i. nat_eq i k) e ∙ f m (omega arith) (omega arith))) (in_file m s.tree) (in_file_file m s.tree))
    (aside_files k n (suc m) ss (λ i l u. f i (omega (arith, l)) (omega (arith, u))))

module _ (law : FunctionsElsewhere) (words : KeepsWords) (k : ℕ) (ss us : List Source) (h : IsAppended k ss us) (keeps : KeepsPackage k h.count (suc h.first) (map unit_of ss) (map unit_of us)) (faultless : IsFaultless ss)
    (files : FileStays k h.count (package_in ss) (package_in us)) (a b : Surroundings)
    (typed : AllByRecursion (λ d. (rights : Rights) (number : ℕ) → StaysTyped (package_in ss) (package_in us) keeps.gap a b rights number d) (specifications 0 ss)) where
  abbrev p : Package
  p = package_in ss

  abbrev q : Package
  q = package_in us

  abbrev n : ℕ
  n = h.count

  abbrev first_part : List Specification
  first_part = front k ss us h keeps faultless

  abbrev last_part : List Specification
  last_part = rest k ss us h keeps faultless

  abbrev Both : Specification → Type 0
  Both d = StandsAside k n d × ((rights : Rights) (number : ℕ) → StaysTyped p q keeps.gap a b rights number d)

  own_aside : AllByRecursion (OnlyFunctions (StandsAside k n)) (declarations k h.declarations)
  own_aside =
      weaker (OnlyFunctions (EndsInFront n)) (OnlyFunctions (StandsAside k n)) (λ d z e. inr (z e)) (declarations k h.declarations)
      (file_ends k n (kinds h.old_tokens.tokens) 0 h.count h.declarations (derived k ss us h keeps faultless).derives (omega arith))

  front_aside : AllByRecursion (StandsAside k n) (those_of entity.Function first_part)
  front_aside =
      those_have (StandsAside k n) first_part
      (both_of k (OnlyFunctions (StandsAside k n)) (specifications 0 h.before) (declarations k h.declarations)
      (weaker (StandsAside k n) (OnlyFunctions (StandsAside k n)) (λ d z e. z) (specifications 0 h.before) (aside_files k n 0 h.before (λ i l u. let e = h.place in grind (arith, nat_tests)))) own_aside)

  rest_aside : AllByRecursion (StandsAside k n) (those_of entity.Function last_part)
  rest_aside =
      those_have (StandsAside k n) last_part
      (weaker (StandsAside k n) (OnlyFunctions (StandsAside k n)) (λ d z e. z) last_part (aside_files k n (suc k) h.behind (λ i l u. grind (arith, nat_tests))))

  abbrev IsTyped : Specification → Type 0
  IsTyped d = (rights : Rights) (number : ℕ) → StaysTyped p q keeps.gap a b rights number d

  both_typed : AllByRecursion IsTyped (first_part ++ last_part)
  both_typed = subst (AllByRecursion IsTyped) (were k ss us h keeps faultless) typed

  front_typed : AllByRecursion IsTyped (those_of entity.Function first_part)
  front_typed = those_have IsTyped first_part (weaker IsTyped (OnlyFunctions IsTyped) (λ d z e. z) first_part (front_of IsTyped first_part last_part both_typed))

  rest_typed : AllByRecursion IsTyped (those_of entity.Function last_part)
  rest_typed = those_have IsTyped last_part (weaker IsTyped (OnlyFunctions IsTyped) (λ d z e. z) last_part (rest_of IsTyped first_part last_part both_typed))

  pub keeps_bodies : KeepsBodies p q keeps.gap a b (function_specification k ss us h) (those_of entity.Function (specifications 0 ss)) (those_of entity.Function (specifications 0 us))
  keeps_bodies = record {
    front = those_of entity.Function first_part;
    rest = those_of entity.Function last_part;
    was = ap (those_of entity.Function) (were k ss us h keeps faultless) ∙ those_append entity.Function first_part last_part;
    is = ap (those_of entity.Function) (are k ss us h keeps faultless) ∙ those_append entity.Function first_part (function_specification k ss us h ∷ last_part);
    front_stay = λ rights number l. front_functions law words k n p q keeps.gap a b files (those_of entity.Function first_part) front_aside front_typed rights number l;
    rest_stay = λ rights number l. rest_functions law words k n p q keeps.gap a b files (those_of entity.Function last_part) rest_aside rest_typed rights number l;
  }
