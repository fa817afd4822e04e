-- The rules on declarations fail at the same places where a function with a name that no token says is put in.
use Rattle.std.proofs.Common.{◌≡◌, ◌∙◌, ℕ, Bool, true, false, ◌&&◌, ◌||◌, not, List, [], ◌∷◌, ◌++◌, map, refl, sym, ap, append_assoc, append-nil}
use Rattle.std.specs.Prelude.{nat_eq, codes}
use Rattle.std.specs.List.{AllByRecursion}
use Rattle.go_tokens.specs.Spellings.{same_text}
use Rattle.go_tree.specs.Clauses.{is_outside, outside_declarations, declares}
use Rattle.go_tree.specs.Contexts.{is_package}
use Rattle.go_tree.specs.Declarations.{Found}
use Rattle.go_tree.specs.Failures.{place_if}
use Rattle.go_tree.specs.Redeclared.{has_clash, second_declarations, hidden_imports, is_by_define, same_statement, has_new, none_new}
use Rattle.go_tree.specs.Units.{Place, is_blank, is_fmt}
use Rattle.go_heads_added.specs.Added.{longer, IsEarlier, IsParameter, IsNewFunction}
use Rattle.go_heads_added.proofs.SameInFiles.{placed_same}
use Rattle.go_heads_added.proofs.Redeclared as twice
use Rattle.go_heads_added.proofs.Redeclared.{and_none}
use Rattle.go_heads_added.proofs.Texts.{IsApart, all_both, all_more}

-- ---- rules by a test of each declaration

-- The rule fails at the declarations that pass the test.
pub record IsTested (r : List Found → List Place) (t : Found → Bool) : Type 0 where
  pub none : r [] ≡ []
  pub more : (d : Found) (ds : List Found) → r (d ∷ ds) ≡ place_if (t d) d.place (r ds)

module _ (k end : ℕ) (r s : List Found → List Place) (t u : Found → Bool) (were : IsTested r t) (are : IsTested s u) where
  abbrev Same : Found → Type 0
  Same d = u (longer k end d) ≡ t d

  one_more : (d : Found) (ds : List Found) (xs : List Found) → Same d → s xs ≡ r ds → s (longer k end d ∷ xs) ≡ r (d ∷ ds)
  one_more d ds xs h e = are.more (longer k end d) xs ∙ placed_same (u (longer k end d)) (t d) d.place d.place (s xs) (r ds) h refl e ∙ sym (were.more d ds)

  all_longer : (ds : List Found) → AllByRecursion Same ds → s (map (longer k end) ds) ≡ r ds
  all_longer [] h = are.none ∙ sym were.none
  all_longer (d ∷ ds) h = one_more d ds (map (longer k end) ds) h.0 (all_longer ds h.1)

  passed_over : (mid xs : List Found) → AllByRecursion (λ d. u d ≡ false) mid → s (mid ++ xs) ≡ s xs
  passed_over [] xs h = refl
  passed_over (m ∷ ms) xs h = are.more m (ms ++ xs) ∙ ap (λ b. place_if b m.place (s (ms ++ xs))) h.0 ∙ passed_over ms xs h.1

  pub between_same : (ds mid es : List Found) → AllByRecursion Same ds → AllByRecursion (λ d. u d ≡ false) mid → AllByRecursion Same es
      → s (map (longer k end) ds ++ (mid ++ map (longer k end) es)) ≡ r (ds ++ es)
  between_same [] mid es h m g = passed_over mid (map (longer k end) es) m ∙ all_longer es g
  between_same (d ∷ ds) mid es h m g = one_more d (ds ++ es) (map (longer k end) ds ++ (mid ++ map (longer k end) es)) h.0 (between_same ds mid es h.1 m g)

each : {A : Type 0} (P : A → Type 0) → ((x : A) → P x) → (xs : List A) → AllByRecursion P xs
each P f [] = tt
each P f (x ∷ xs) = (f x, each P f xs)

-- ---- the function and its parameters

module _ (k n end : ℕ) (name : List ℕ) (f : Found) (ps : List Found) (own : IsNewFunction k n name f) (params : AllByRecursion (IsParameter k n) ps) where
  abbrev to : List Found → List Found
  to ds = map (longer k end) ds

  outside_tested : IsTested outside_declarations (λ d. is_outside d.it.entity d.it.block d.name)
  outside_tested = record { none = refl; more = λ d ds. refl }

  pub outside_same : (ds es : List Found) → is_blank name ≡ false → same_text name (codes "init") ≡ false → outside_declarations (to ds ++ ((f ∷ ps) ++ to es)) ≡ outside_declarations (ds ++ es)
  outside_same ds es b i =
      let t : Found → Bool = λ d. is_outside d.it.entity d.it.block d.name in
      between_same k end outside_declarations outside_declarations t t outside_tested outside_tested ds (f ∷ ps) es
      (each (λ d. t (longer k end d) ≡ t d) (λ d. refl) ds)
      (twice.function_inside k n end name f ps own params b i, all_more (IsParameter k n) (λ d. t d ≡ false) (twice.parameter_inside k n end name f ps own params) ps params)
      (each (λ d. t (longer k end d) ≡ t d) (λ d. refl) es)

  -- ---- a name that is declared in the package block

  or_false : (a b : Bool) → a ≡ false → (a || b) ≡ b
  or_false true b e = cc
  or_false false b e = refl

  both_false : (a b : Bool) → a ≡ false → b ≡ false → (a || b) ≡ false
  both_false a b e g = or_false a b e ∙ g

  pub declares_same : (v : List ℕ) (ds es : List Found) → same_text name v ≡ false → declares v (to ds ++ ((f ∷ ps) ++ to es)) ≡ declares v (ds ++ es)
  declares_same v ds es o =
      twice.declares_append k n end name f ps own params v (to ds) ((f ∷ ps) ++ to es)
      ∙ ap (λ b. declares v (to ds) || b)
      (twice.declares_append k n end name f ps own params v (f ∷ ps) (to es)
      ∙ or_false (declares v (f ∷ ps)) (declares v (to es))
      (both_false (is_package f.it.block && same_text f.name v) (declares v ps) (and_none (is_package f.it.block) (same_text f.name v) (ap (λ x. same_text x v) own.name ∙ o))
      (twice.parameters_declare k n end name f ps own params v ps params)))
      ∙ ap (λ b. b || declares v (to es)) (twice.declares_longer k n end name f ps own params v ds)
      ∙ ap (λ b. declares v ds || b) (twice.declares_longer k n end name f ps own params v es)
      ∙ sym (twice.declares_append k n end name f ps own params v ds es)

  -- ---- names that are declared twice

  abbrev IsOld : Found → Type 0
  IsOld d = IsApart name d × IsEarlier k n d

  to_append : (xs ys : List Found) → to (xs ++ ys) ≡ to xs ++ to ys
  to_append [] ys = refl
  to_append (x ∷ xs) ys = ap (λ l. longer k end x ∷ l) (to_append xs ys)

  skipped : (b : Bool) (s : Place) (ss : List Place) → b ≡ false → place_if b s ss ≡ ss
  skipped b s ss e = ap (λ x. place_if x s ss) e

  parameters_skipped : (pre qs rs xs : List Found) → AllByRecursion IsOld pre → AllByRecursion (IsParameter k n) qs → AllByRecursion (IsParameter k n) rs
      → second_declarations (to pre ++ (f ∷ qs)) (rs ++ xs) ≡ second_declarations (to pre ++ (f ∷ (qs ++ rs))) xs
  parameters_skipped pre qs [] xs o h g = ap (λ l. second_declarations (to pre ++ (f ∷ l)) xs) (sym (append-nil qs))
  parameters_skipped pre qs (r ∷ rs) xs o h g =
      skipped (has_clash r (to pre ++ (f ∷ qs))) r.place (second_declarations ((to pre ++ (f ∷ qs)) ++ r ∷ []) (rs ++ xs))
      (twice.clash_append k n end name f ps own params r (to pre) (f ∷ qs)
      ∙ both_false (has_clash r (to pre)) (has_clash r (f ∷ qs)) (twice.parameter_apart k n end name f ps own params r g.0 pre o)
      (both_false _ (has_clash r qs) (twice.parameter_function k n end name f ps own params r g.0) (twice.parameter_parameters k n end name f ps own params r g.0 qs h)))
      ∙ ap (λ l. second_declarations l (rs ++ xs)) (append_assoc (to pre) (f ∷ qs) (r ∷ []))
      ∙ parameters_skipped pre (qs ++ r ∷ []) rs xs o (all_both (IsParameter k n) qs (r ∷ []) h (g.0, tt)) g.1
      ∙ ap (λ l. second_declarations (to pre ++ (f ∷ l)) xs) (append_assoc qs (r ∷ []) rs)

  rest_same : (pre post es : List Found) → AllByRecursion (λ d. has_clash (longer k end d) (f ∷ ps) ≡ false) es
      → second_declarations (to pre ++ ((f ∷ ps) ++ to post)) (to es) ≡ second_declarations (pre ++ post) es
  rest_same pre post [] h = refl
  rest_same pre post (d ∷ es) h =
      placed_same (has_clash (longer k end d) (to pre ++ ((f ∷ ps) ++ to post))) (has_clash d (pre ++ post)) d.place d.place
      (second_declarations ((to pre ++ ((f ∷ ps) ++ to post)) ++ longer k end d ∷ []) (to es)) (second_declarations ((pre ++ post) ++ d ∷ []) es)
      (twice.clash_append k n end name f ps own params (longer k end d) (to pre) ((f ∷ ps) ++ to post)
      ∙ ap (λ b. has_clash (longer k end d) (to pre) || b) (twice.clash_append k n end name f ps own params (longer k end d) (f ∷ ps) (to post) ∙ or_false (has_clash (longer k end d) (f ∷ ps)) (has_clash (longer k end d) (to post)) h.0)
      ∙ ap (λ b. b || has_clash (longer k end d) (to post)) (twice.clash_longer k n end name f ps own params d pre)
      ∙ ap (λ b. has_clash d pre || b) (twice.clash_longer k n end name f ps own params d post)
      ∙ sym (twice.clash_append k n end name f ps own params d pre post))
      refl
      (ap (λ l. second_declarations l (to es))
      (append_assoc (to pre) ((f ∷ ps) ++ to post) (longer k end d ∷ []) ∙ ap (λ l. to pre ++ l) (append_assoc (f ∷ ps) (to post) (longer k end d ∷ []) ∙ ap (λ l. (f ∷ ps) ++ l) (sym (to_append post (d ∷ [])))))
      ∙ rest_same pre (post ++ d ∷ []) es h.1 ∙ ap (λ l. second_declarations l es) (sym (append_assoc pre post (d ∷ []))))

  front_same : (pre ds es : List Found) → AllByRecursion IsOld pre → AllByRecursion IsOld ds → AllByRecursion IsOld es
      → second_declarations (to pre) (to ds ++ ((f ∷ ps) ++ to es)) ≡ second_declarations pre (ds ++ es)
  front_same pre [] es o h g =
      skipped (has_clash f (to pre)) f.place (second_declarations (to pre ++ f ∷ []) (ps ++ to es)) (twice.function_apart k n end name f ps own params pre o)
      ∙ parameters_skipped pre [] ps (to es) o tt params
      ∙ ap (λ l. second_declarations (to pre ++ l) (to es)) (sym (append-nil (f ∷ ps)))
      ∙ rest_same pre [] es (all_more IsOld (λ d. has_clash (longer k end d) (f ∷ ps) ≡ false) (twice.old_apart k n end name f ps own params ps params) es g)
      ∙ ap (λ l. second_declarations l es) (append-nil pre)
  front_same pre (d ∷ ds) es o h g =
      placed_same (has_clash (longer k end d) (to pre)) (has_clash d pre) d.place d.place (second_declarations (to pre ++ longer k end d ∷ []) (to ds ++ ((f ∷ ps) ++ to es))) (second_declarations (pre ++ d ∷ []) (ds ++ es))
      (twice.clash_longer k n end name f ps own params d pre) refl
      (ap (λ l. second_declarations l (to ds ++ ((f ∷ ps) ++ to es))) (sym (to_append pre (d ∷ []))) ∙ front_same (pre ++ d ∷ []) ds es (all_both IsOld pre (d ∷ []) o (h.0, tt)) h.1 g)

  pub second_same : (ds es : List Found) → AllByRecursion IsOld ds → AllByRecursion IsOld es → second_declarations [] (to ds ++ ((f ∷ ps) ++ to es)) ≡ second_declarations [] (ds ++ es)
  second_same ds es h g = front_same [] ds es tt h g

  -- ---- names that an import has

  hidden_tested : (b : Bool) → IsTested (hidden_imports b) (λ d. b && is_package d.it.block && is_fmt d.name)
  hidden_tested b = record { none = refl; more = λ d ds. refl }

  pub hidden_same : (b : Bool) (ds es : List Found) → is_fmt name ≡ false → hidden_imports b (to ds ++ ((f ∷ ps) ++ to es)) ≡ hidden_imports b (ds ++ es)
  hidden_same b ds es m =
      let t : Found → Bool = λ d. b && is_package d.it.block && is_fmt d.name in
      between_same k end (hidden_imports b) (hidden_imports b) t t (hidden_tested b) (hidden_tested b) ds (f ∷ ps) es
      (each (λ d. t (longer k end d) ≡ t d) (λ d. refl) ds) (
        twice.three_third k n end name f ps own params b (is_package f.it.block) (is_fmt f.name) (ap is_fmt own.name ∙ m),
        all_more (IsParameter k n) (λ d. t d ≡ false) (λ d h. twice.three_second k n end name f ps own params b (is_package d.it.block) (is_fmt d.name) (ap is_package h.block)) ps params,
      )
      (each (λ d. t (longer k end d) ≡ t d) (λ d. refl) es)

  -- ---- what is new at `:=`

  statement_apart : (d x : Found) → is_by_define x.it.manner ≡ false → same_statement d x ≡ false
  statement_apart d x e = and_none (nat_eq d.file x.file && nat_eq d.it.statement x.it.statement) (is_by_define x.it.manner) e

  none_apart : (d : Found) (xs : List Found) → AllByRecursion (λ x. is_by_define x.it.manner ≡ false) xs → has_new d xs ≡ false
  none_apart d [] h = refl
  none_apart d (x ∷ xs) h = both_false (same_statement d x) (has_new d xs) (statement_apart d x h.0) (none_apart d xs h.1)

  new_tested : (all : List Found) → IsTested (none_new all) (λ x. is_by_define x.it.manner && nat_eq x.it.column 0 && not (has_new x all))
  new_tested all = record { none = refl; more = λ d ds. refl }

  parameters_declared : (qs : List Found) → AllByRecursion (IsParameter k n) qs → AllByRecursion (λ x. is_by_define x.it.manner ≡ false) qs
  parameters_declared qs h = all_more (IsParameter k n) (λ x. is_by_define x.it.manner ≡ false) (λ d q. ap is_by_define q.manner) qs h

  -- the declarations are ds and es, with f and the parameters qs between; xs and ys are all that is found, with the function and its parameters between
  pub new_same : (qs ds es xs ys : List Found) → AllByRecursion (IsParameter k n) qs → none_new (to ds ++ ((f ∷ qs) ++ to es)) (to xs ++ ((f ∷ ps) ++ to ys)) ≡ none_new (ds ++ es) (xs ++ ys)
  new_same qs ds es xs ys q =
      let old = ds ++ es in
      let new = to ds ++ ((f ∷ qs) ++ to es) in
      let t : Found → Bool = λ x. is_by_define x.it.manner && nat_eq x.it.column 0 && not (has_new x old) in
      let u : Found → Bool = λ x. is_by_define x.it.manner && nat_eq x.it.column 0 && not (has_new x new) in
      let same : (d : Found) → u (longer k end d) ≡ t d = λ d.
      ap (λ b. is_by_define d.it.manner && nat_eq d.it.column 0 && not b)
      (twice.new_append k n end name f ps own params (longer k end d) (to ds) ((f ∷ qs) ++ to es)
      ∙ ap (λ b. has_new (longer k end d) (to ds) || b)
      (twice.new_append k n end name f ps own params (longer k end d) (f ∷ qs) (to es)
      ∙ or_false (has_new (longer k end d) (f ∷ qs)) (has_new (longer k end d) (to es)) (none_apart (longer k end d) (f ∷ qs) (ap is_by_define own.manner, parameters_declared qs q)))
      ∙ ap (λ b. b || has_new (longer k end d) (to es)) (twice.new_longer k n end name f ps own params d ds) ∙ ap (λ b. has_new d ds || b) (twice.new_longer k n end name f ps own params d es)
      ∙ sym (twice.new_append k n end name f ps own params d ds es)) in
      let out : (x : Found) → is_by_define x.it.manner ≡ false → u x ≡ false = λ x e. twice.three_first k n end name f ps own params (is_by_define x.it.manner) (nat_eq x.it.column 0) (not (has_new x new)) e in
      between_same k end (none_new old) (none_new new) t u (new_tested old) (new_tested new) xs (f ∷ ps) ys (each (λ d. u (longer k end d) ≡ t d) same xs)
      (out f (ap is_by_define own.manner), all_more (λ x. is_by_define x.it.manner ≡ false) (λ x. u x ≡ false) out ps (parameters_declared ps params)) (each (λ d. u (longer k end d) ≡ t d) same ys)
