-- The rules on declarations, where a function with a name that no token says is put in.
use Rattle.std.proofs.Common.{◌≡◌, ℕ, ◌<◌, ◌≤◌, Bool, true, false, ◌&&◌, ◌||◌, not, List, [], ◌∷◌, ◌++◌, map, refl, sym, ap, subst, ◌∙◌, append_assoc, append-nil, arith}
use Rattle.std.specs.Prelude.{nat_eq, codes}
use Rattle.std.specs.List.{AllByRecursion}
use Rattle.std.proofs.lemmas.Bool.Decides.{nat_tests}
use Rattle.go_tokens.specs.Spellings.{same_text}
use Rattle.go_tree.specs.Clauses.{is_outside, outside_declarations, declares}
use Rattle.go_tree.specs.Contexts.{is_package}
use Rattle.go_tree.specs.declared.context.Block.{Block}
use Rattle.go_tree.specs.declared.context.Block.TheVariants as block
use Rattle.go_tree.specs.declared.context.Entity.TheVariants as entity
use Rattle.go_tree.specs.declared.context.Manner.{Manner}
use Rattle.go_tree.specs.Declarations.{Found, are_one_block, same_block}
use Rattle.go_tree.specs.Redeclared.{are_parameters, clashes, has_clash, second_declarations, hidden_imports, is_by_define, same_statement, has_new, none_new}
use Rattle.go_tree.specs.Units.{is_blank, is_fmt}
use Rattle.go_heads_added.specs.Added.{longer, BlockWithin, IsEarlier, IsParameter, IsNewFunction}
use Rattle.go_heads_added.proofs.Files.{test_false, rest_none, none_there}
use Rattle.go_heads_added.proofs.Texts.{IsApart, turned, all_both, all_front, all_behind, all_more, all_mapped}

pub and_none : (a b : Bool) → b ≡ false → (a && b) ≡ false
and_none true b e = e
and_none false b e = refl

or_none : (a b : Bool) → a ≡ false → b ≡ false → (a || b) ≡ false
or_none true b e f = cc
or_none false b e f = f

or_front : (a b : Bool) → (a || b) ≡ false → a ≡ false
or_front true b e = e
or_front false b e = refl

or_behind : (a b : Bool) → (a || b) ≡ false → b ≡ false
or_behind true b e = cc
or_behind false b e = e

grouped : (a b c : Bool) → (a || (b || c)) ≡ ((a || b) || c)
grouped true b c = refl
grouped false b c = refl

-- ---- names that may not be declared

abbrev IsInside : Found → Type 0
IsInside d = is_outside d.it.entity d.it.block d.name ≡ false

all_inside : (ds : List Found) → outside_declarations ds ≡ [] → AllByRecursion IsInside ds
all_inside [] e = tt
all_inside (d ∷ ds) e =
    (test_false (is_outside d.it.entity d.it.block d.name) d.place (outside_declarations ds) e, all_inside ds (rest_none (is_outside d.it.entity d.it.block d.name) d.place (outside_declarations ds) e))

inside_none : (ds : List Found) → AllByRecursion IsInside ds → outside_declarations ds ≡ []
inside_none [] h = refl
inside_none (d ∷ ds) h = none_there (is_outside d.it.entity d.it.block d.name) d.place (outside_declarations ds) h.0 (inside_none ds h.1)

-- ---- the function and its parameters

module _ (k n end : ℕ) (name : List ℕ) (f : Found) (ps : List Found) (own : IsNewFunction k n name f) (params : AllByRecursion (IsParameter k n) ps) where
  abbrev to : List Found → List Found
  to ds = map (longer k end) ds

  pub function_inside : is_blank name ≡ false → same_text name (codes "init") ≡ false → IsInside f
  function_inside b i =
      ap (λ e. is_outside e f.it.block f.name) own.entity ∙ ap (λ x. is_outside entity.Function f.it.block x) own.name
      ∙ or_none (is_blank name) (is_package f.it.block && same_text name (codes "init")) b (and_none (is_package f.it.block) (same_text name (codes "init")) i)

  pub parameter_inside : (d : Found) → IsParameter k n d → IsInside d
  parameter_inside d h = ap (λ e. is_outside e d.it.block d.name) h.entity ∙ ap (λ x. is_package x && same_text d.name (codes "init")) h.block

  pub outside_none : (ds es : List Found) → is_blank name ≡ false → same_text name (codes "init") ≡ false → outside_declarations (ds ++ es) ≡ [] → outside_declarations (to ds ++ ((f ∷ ps) ++ to es)) ≡ []
  outside_none ds es b i e =
      let h = all_inside (ds ++ es) e in
      inside_none (to ds ++ ((f ∷ ps) ++ to es))
      (all_both IsInside (to ds) ((f ∷ ps) ++ to es) (all_mapped IsInside IsInside (longer k end) (λ x q. q) ds (all_front IsInside ds es h))
      (all_both IsInside (f ∷ ps) (to es) (function_inside b i, all_more (IsParameter k n) IsInside parameter_inside ps params) (all_mapped IsInside IsInside (longer k end) (λ x q. q) es (all_behind IsInside ds es h))))

  -- ---- a name that is declared in the package block

  pub declares_append : (w : List ℕ) (xs ys : List Found) → declares w (xs ++ ys) ≡ (declares w xs || declares w ys)
  declares_append w [] ys = refl
  declares_append w (x ∷ xs) ys =
      ap (λ b. (is_package x.it.block && same_text x.name w) || b) (declares_append w xs ys) ∙ grouped (is_package x.it.block && same_text x.name w) (declares w xs) (declares w ys)

  pub declares_longer : (w : List ℕ) (ds : List Found) → declares w (to ds) ≡ declares w ds
  declares_longer w [] = refl
  declares_longer w (d ∷ ds) = ap (λ b. (is_package d.it.block && same_text d.name w) || b) (declares_longer w ds)

  pub parameters_declare : (w : List ℕ) (ds : List Found) → AllByRecursion (IsParameter k n) ds → declares w ds ≡ false
  parameters_declare w [] h = refl
  parameters_declare w (d ∷ ds) h = or_none (is_package d.it.block && same_text d.name w) (declares w ds) (ap (λ x. is_package x && same_text d.name w) h.0.block) (parameters_declare w ds h.1)

  pub still_undeclared : (w : List ℕ) (ds es : List Found) → same_text name w ≡ false → declares w (ds ++ es) ≡ false → declares w (to ds ++ ((f ∷ ps) ++ to es)) ≡ false
  still_undeclared w ds es o e =
      let both = sym (declares_append w ds es) ∙ e in
      declares_append w (to ds) ((f ∷ ps) ++ to es)
      ∙ or_none (declares w (to ds)) (declares w ((f ∷ ps) ++ to es)) (declares_longer w ds ∙ or_front (declares w ds) (declares w es) both)
      (declares_append w (f ∷ ps) (to es)
      ∙ or_none (declares w (f ∷ ps)) (declares w (to es))
      (or_none (is_package f.it.block && same_text f.name w) (declares w ps) (and_none (is_package f.it.block) (same_text f.name w) (ap (λ x. same_text x w) own.name ∙ o)) (parameters_declare w ps params))
      (declares_longer w es ∙ or_behind (declares w ds) (declares w es) both))

  -- ---- names that are declared twice

  pub clash_append : (d : Found) (xs ys : List Found) → has_clash d (xs ++ ys) ≡ (has_clash d xs || has_clash d ys)
  clash_append d [] ys = refl
  clash_append d (x ∷ xs) ys = ap (λ b. clashes d x || b) (clash_append d xs ys) ∙ grouped (clashes d x) (has_clash d xs) (has_clash d ys)

  pub clash_longer : (d : Found) (xs : List Found) → has_clash (longer k end d) (to xs) ≡ has_clash d xs
  clash_longer d [] = refl
  clash_longer d (x ∷ xs) = ap (λ b. clashes d x || b) (clash_longer d xs)

  pub three_first : (a b c : Bool) → a ≡ false → (a && b && c) ≡ false
  three_first true b c e = cc
  three_first false b c e = refl

  pub three_second : (a b c : Bool) → b ≡ false → (a && b && c) ≡ false
  three_second true true c e = cc
  three_second true false c e = refl
  three_second false b c e = refl

  pub three_third : (a b c : Bool) → c ≡ false → (a && b && c) ≡ false
  three_third a b c e = and_none (a && b) c e

  -- blocks of the new function's parameters are none of the old
  apart_block : (m first : ℕ) (x : Block) → (nat_eq m k ≡ true → BlockWithin n x) → n ≤ first → are_one_block m x k (block.Local first) ≡ false
  apart_block m first block.Package w l = refl
  apart_block m first (block.Local j) w l = by (nat_eq m k) refl
    where
      by : (b : Bool) → b ≡ nat_eq m k → (b && nat_eq j first) ≡ false
      by true e = let s : j < n = w (sym e) in grind (arith, nat_tests)
      by false e = refl

  block_apart : (m first : ℕ) (x : Block) → (nat_eq m k ≡ true → BlockWithin n x) → n ≤ first → are_one_block k (block.Local first) m x ≡ false
  block_apart m first block.Package w l = refl
  block_apart m first (block.Local j) w l = by (nat_eq k m) refl
    where
      by : (b : Bool) → b ≡ nat_eq k m → (b && nat_eq first j) ≡ false
      by true e = let s : j < n = w (let z : nat_eq m k ≡ true = grind (arith, nat_tests) in z) in grind (arith, nat_tests)
      by false e = refl

  abbrev IsOld : Found → Type 0
  IsOld d = IsApart name d × IsEarlier k n d

  -- an old declaration against the new ones
  old_parameter : (d p : Found) → IsEarlier k n d → IsParameter k n p → clashes d p ≡ false
  old_parameter d p e h =
      three_second (same_text d.name p.name) (same_block d p) (not (are_parameters d.it.entity p.it.entity))
      (ap (λ b. are_one_block d.file d.it.block p.file b) h.block ∙ ap (λ m. are_one_block d.file d.it.block m (block.Local h.first)) h.file ∙ apart_block d.file h.first d.it.block e.block h.later)

  old_parameters : (d : Found) (qs : List Found) → IsEarlier k n d → AllByRecursion (IsParameter k n) qs → has_clash d qs ≡ false
  old_parameters d [] e h = refl
  old_parameters d (q ∷ qs) e h = or_none (clashes d q) (has_clash d qs) (old_parameter d q e h.0) (old_parameters d qs e h.1)

  old_function : (d : Found) → IsApart name d → clashes d f ≡ false
  old_function d a = three_first (same_text d.name f.name) (same_block d f) (not (are_parameters d.it.entity f.it.entity)) (ap (same_text d.name) own.name ∙ turned name d.name a)

  pub old_apart : (qs : List Found) → AllByRecursion (IsParameter k n) qs → (d : Found) → IsOld d → has_clash (longer k end d) (f ∷ qs) ≡ false
  old_apart qs h d o = or_none (clashes d f) (has_clash (longer k end d) qs) (old_function d o.0) (same_clash qs ∙ old_parameters d qs o.1 h)
    where
      same_clash : (xs : List Found) → has_clash (longer k end d) xs ≡ has_clash d xs
      same_clash [] = refl
      same_clash (x ∷ xs) = ap (λ b. clashes d x || b) (same_clash xs)

  -- the new ones against the old, and against one another
  pub function_apart : (ds : List Found) → AllByRecursion IsOld ds → has_clash f (to ds) ≡ false
  function_apart [] h = refl
  function_apart (d ∷ ds) h =
      or_none (clashes f (longer k end d)) (has_clash f (to ds))
      (three_first (same_text f.name d.name) (same_block f (longer k end d)) (not (are_parameters f.it.entity d.it.entity)) (ap (λ x. same_text x d.name) own.name ∙ h.0.0)) (function_apart ds h.1)

  pub parameter_apart : (p : Found) → IsParameter k n p → (ds : List Found) → AllByRecursion IsOld ds → has_clash p (to ds) ≡ false
  parameter_apart p h [] o = refl
  parameter_apart p h (d ∷ ds) o =
      or_none (clashes p (longer k end d)) (has_clash p (to ds))
      (three_second (same_text p.name d.name) (same_block p (longer k end d)) (not (are_parameters p.it.entity d.it.entity))
      (ap (λ b. are_one_block p.file b d.file d.it.block) h.block ∙ ap (λ m. are_one_block m (block.Local h.first) d.file d.it.block) h.file ∙ block_apart d.file h.first d.it.block o.0.1.block h.later))
      (parameter_apart p h ds o.1)

  pub parameter_function : (p : Found) → IsParameter k n p → clashes p f ≡ false
  parameter_function p h =
      three_second (same_text p.name f.name) (same_block p f) (not (are_parameters p.it.entity f.it.entity))
      (ap (λ b. are_one_block p.file b f.file f.it.block) h.block ∙ ap (λ b. are_one_block p.file (block.Local h.first) f.file b) own.block)

  pub parameter_parameters : (p : Found) → IsParameter k n p → (qs : List Found) → AllByRecursion (IsParameter k n) qs → has_clash p qs ≡ false
  parameter_parameters p h [] o = refl
  parameter_parameters p h (q ∷ qs) o =
      or_none (clashes p q) (has_clash p qs)
      (three_third (same_text p.name q.name) (same_block p q) (not (are_parameters p.it.entity q.it.entity)) (ap (λ e. not (are_parameters e q.it.entity)) h.entity ∙ ap (λ e. not (are_parameters entity.Parameter e)) o.0.entity))
      (parameter_parameters p h qs o.1)

  -- ---- the list of declarations

  second_split : (before xs ys : List Found) → second_declarations before (xs ++ ys) ≡ [] → (second_declarations before xs ≡ []) × (second_declarations (before ++ xs) ys ≡ [])
  second_split before [] ys e = (refl, subst (λ zs. second_declarations zs ys ≡ []) (sym (append-nil before)) e)
  second_split before (x ∷ xs) ys e =
      let t = test_false (has_clash x before) x.place (second_declarations (before ++ x ∷ []) (xs ++ ys)) e in
      let r = second_split (before ++ x ∷ []) xs ys (rest_none (has_clash x before) x.place (second_declarations (before ++ x ∷ []) (xs ++ ys)) e) in
      (none_there (has_clash x before) x.place (second_declarations (before ++ x ∷ []) xs) t r.0, subst (λ zs. second_declarations zs ys ≡ []) (append_assoc before (x ∷ []) xs) r.1)

  second_both : (before xs ys : List Found) → second_declarations before xs ≡ [] → second_declarations (before ++ xs) ys ≡ [] → second_declarations before (xs ++ ys) ≡ []
  second_both before [] ys e g = subst (λ zs. second_declarations zs ys ≡ []) (append-nil before) g
  second_both before (x ∷ xs) ys e g =
      none_there (has_clash x before) x.place (second_declarations (before ++ x ∷ []) (xs ++ ys)) (test_false (has_clash x before) x.place (second_declarations (before ++ x ∷ []) xs) e)
      (second_both (before ++ x ∷ []) xs ys (rest_none (has_clash x before) x.place (second_declarations (before ++ x ∷ []) xs) e)
      (subst (λ zs. second_declarations zs ys ≡ []) (sym (append_assoc before (x ∷ []) xs)) g))

  -- old declarations, with others between those in front
  second_old : (mid pre post ds : List Found) → AllByRecursion (λ d. has_clash (longer k end d) mid ≡ false) ds → second_declarations (pre ++ post) ds ≡ [] → second_declarations (to pre ++ (mid ++ to post)) (to ds) ≡ []
  second_old mid pre post [] h e = refl
  second_old mid pre post (d ∷ ds) h e =
      let t = test_false (has_clash d (pre ++ post)) d.place (second_declarations ((pre ++ post) ++ d ∷ []) ds) e in
      let split = sym (clash_append d pre post) ∙ t in
      none_there (has_clash (longer k end d) (to pre ++ (mid ++ to post))) d.place (second_declarations ((to pre ++ (mid ++ to post)) ++ longer k end d ∷ []) (to ds))
      (clash_append (longer k end d) (to pre) (mid ++ to post)
      ∙ or_none (has_clash (longer k end d) (to pre)) (has_clash (longer k end d) (mid ++ to post)) (clash_longer d pre ∙ or_front (has_clash d pre) (has_clash d post) split)
      (clash_append (longer k end d) mid (to post) ∙ or_none (has_clash (longer k end d) mid) (has_clash (longer k end d) (to post)) h.0 (clash_longer d post ∙ or_behind (has_clash d pre) (has_clash d post) split)))
      (subst (λ zs. second_declarations zs (to ds) ≡ []) (one_on d)
      (second_old mid pre (post ++ d ∷ []) ds h.1 (subst (λ zs. second_declarations zs ds ≡ []) (append_assoc pre post (d ∷ [])) (rest_none (has_clash d (pre ++ post)) d.place (second_declarations ((pre ++ post) ++ d ∷ []) ds) e))))
    where
      to_append : (xs ys : List Found) → to (xs ++ ys) ≡ to xs ++ to ys
      to_append [] ys = refl
      to_append (x ∷ xs) ys = ap (λ l. longer k end x ∷ l) (to_append xs ys)

      one_on : (x : Found) → to pre ++ (mid ++ to (post ++ x ∷ [])) ≡ (to pre ++ (mid ++ to post)) ++ longer k end x ∷ []
      one_on x =
          ap (λ l. to pre ++ (mid ++ l)) (to_append post (x ∷ [])) ∙ ap (λ l. to pre ++ l) (sym (append_assoc mid (to post) (longer k end x ∷ [])))
          ∙ sym (append_assoc (to pre) (mid ++ to post) (longer k end x ∷ []))

  parameters_second : (ds qs rs : List Found) → AllByRecursion IsOld ds → AllByRecursion (IsParameter k n) qs → AllByRecursion (IsParameter k n) rs → second_declarations (to ds ++ (f ∷ qs)) rs ≡ []
  parameters_second ds qs [] o h g = refl
  parameters_second ds qs (r ∷ rs) o h g =
      none_there (has_clash r (to ds ++ (f ∷ qs))) r.place (second_declarations ((to ds ++ (f ∷ qs)) ++ r ∷ []) rs)
      (clash_append r (to ds) (f ∷ qs)
      ∙ or_none (has_clash r (to ds)) (has_clash r (f ∷ qs)) (parameter_apart r g.0 ds o)
      (or_none (clashes r f) (has_clash r qs) (parameter_function r g.0) (parameter_parameters r g.0 qs h)))
      (subst (λ zs. second_declarations zs rs ≡ []) (sym (append_assoc (to ds) (f ∷ qs) (r ∷ [])))
      (parameters_second ds (qs ++ r ∷ []) rs o (all_both (IsParameter k n) qs (r ∷ []) h (g.0, tt)) g.1))

  pub second_none : (ds es : List Found) → AllByRecursion IsOld ds → AllByRecursion IsOld es → second_declarations [] (ds ++ es) ≡ [] → second_declarations [] (to ds ++ ((f ∷ ps) ++ to es)) ≡ []
  second_none ds es o g e =
      let s = second_split [] ds es e in
      second_both [] (to ds) ((f ∷ ps) ++ to es) (second_old [] [] [] ds (nothing ds) s.0)
      (second_both (to ds) (f ∷ ps) (to es)
      (none_there (has_clash f (to ds)) f.place (second_declarations (to ds ++ f ∷ []) ps) (function_apart ds o) (parameters_second ds [] ps o tt params))
      (subst (λ zs. second_declarations zs (to es) ≡ []) (ap (λ l. to ds ++ l) (append-nil (f ∷ ps)))
      (second_old (f ∷ ps) ds [] es (all_more IsOld (λ d. has_clash (longer k end d) (f ∷ ps) ≡ false) (old_apart ps params) es g) (subst (λ zs. second_declarations zs es ≡ []) (sym (append-nil ds)) s.1))))
    where
      nothing : (xs : List Found) → AllByRecursion (λ d. has_clash (longer k end d) [] ≡ false) xs
      nothing [] = tt
      nothing (x ∷ xs) = (refl, nothing xs)

  -- ---- names that an import has

  abbrev Unhidden : Bool → Found → Type 0
  Unhidden b d = (b && is_package d.it.block && is_fmt d.name) ≡ false

  all_unhidden : (b : Bool) (ds : List Found) → hidden_imports b ds ≡ [] → AllByRecursion (Unhidden b) ds
  all_unhidden b [] e = tt
  all_unhidden b (d ∷ ds) e =
      let x = b && is_package d.it.block && is_fmt d.name in
      (test_false x d.place (hidden_imports b ds) e, all_unhidden b ds (rest_none x d.place (hidden_imports b ds) e))

  unhidden_none : (b : Bool) (ds : List Found) → AllByRecursion (Unhidden b) ds → hidden_imports b ds ≡ []
  unhidden_none b [] h = refl
  unhidden_none b (d ∷ ds) h = none_there (b && is_package d.it.block && is_fmt d.name) d.place (hidden_imports b ds) h.0 (unhidden_none b ds h.1)

  parameter_unhidden : (b : Bool) (d : Found) → IsParameter k n d → Unhidden b d
  parameter_unhidden b d h = three_second b (is_package d.it.block) (is_fmt d.name) (ap is_package h.block)

  pub hidden_none : (b : Bool) (ds es : List Found) → is_fmt name ≡ false → hidden_imports b (ds ++ es) ≡ [] → hidden_imports b (to ds ++ ((f ∷ ps) ++ to es)) ≡ []
  hidden_none b ds es m e =
      let h = all_unhidden b (ds ++ es) e in
      unhidden_none b (to ds ++ ((f ∷ ps) ++ to es))
      (all_both (Unhidden b) (to ds) ((f ∷ ps) ++ to es) (all_mapped (Unhidden b) (Unhidden b) (longer k end) (λ x q. q) ds (all_front (Unhidden b) ds es h))
      (all_both (Unhidden b) (f ∷ ps) (to es) (three_third b (is_package f.it.block) (is_fmt f.name) (ap is_fmt own.name ∙ m), all_more (IsParameter k n) (Unhidden b) (parameter_unhidden b) ps params)
      (all_mapped (Unhidden b) (Unhidden b) (longer k end) (λ x q. q) es (all_behind (Unhidden b) ds es h))))

  -- ---- what is new at `:=`

  pub new_append : (d : Found) (xs ys : List Found) → has_new d (xs ++ ys) ≡ (has_new d xs || has_new d ys)
  new_append d [] ys = refl
  new_append d (x ∷ xs) ys = ap (λ b. same_statement d x || b) (new_append d xs ys) ∙ grouped (same_statement d x) (has_new d xs) (has_new d ys)

  pub new_longer : (d : Found) (xs : List Found) → has_new (longer k end d) (to xs) ≡ has_new d xs
  new_longer d [] = refl
  new_longer d (x ∷ xs) = ap (λ b. same_statement d x || b) (new_longer d xs)

  new_stays : (d : Found) (mid ds es : List Found) → has_new d (ds ++ es) ≡ true → has_new (longer k end d) (to ds ++ (mid ++ to es)) ≡ true
  new_stays d mid ds es e =
      new_append (longer k end d) (to ds) (mid ++ to es) ∙ ap (λ b. has_new (longer k end d) (to ds) || b) (new_append (longer k end d) mid (to es))
      ∙ by (has_new (longer k end d) (to ds)) (has_new (longer k end d) mid) (has_new (longer k end d) (to es)) (ap (λ b. b || has_new (longer k end d) (to es)) (new_longer d ds) ∙ ap (λ b. has_new d ds || b) (new_longer d es) ∙ sym (new_append d ds es) ∙ e)
    where
      by : (a b c : Bool) → (a || c) ≡ true → (a || (b || c)) ≡ true
      by true b c e = refl
      by false true c e = refl
      by false false c e = e

  abbrev IsNewThere : List Found → Found → Type 0
  IsNewThere ds x = (is_by_define x.it.manner && nat_eq x.it.column 0 && not (has_new x ds)) ≡ false

  all_new : (ds xs : List Found) → none_new ds xs ≡ [] → AllByRecursion (IsNewThere ds) xs
  all_new ds [] e = tt
  all_new ds (x ∷ xs) e =
      let t = is_by_define x.it.manner && nat_eq x.it.column 0 && not (has_new x ds) in
      (test_false t x.place (none_new ds xs) e, all_new ds xs (rest_none t x.place (none_new ds xs) e))

  new_there : (ds xs : List Found) → AllByRecursion (IsNewThere ds) xs → none_new ds xs ≡ []
  new_there ds [] h = refl
  new_there ds (x ∷ xs) h = none_there (is_by_define x.it.manner && nat_eq x.it.column 0 && not (has_new x ds)) x.place (none_new ds xs) h.0 (new_there ds xs h.1)

  one_stays : (mid ds es : List Found) (x : Found) → IsNewThere (ds ++ es) x → IsNewThere (to ds ++ (mid ++ to es)) (longer k end x)
  one_stays mid ds es x e = by (is_by_define x.it.manner && nat_eq x.it.column 0) (has_new x (ds ++ es)) refl e
    where
      by : (a b : Bool) → has_new x (ds ++ es) ≡ b → (a && not b) ≡ false → (a && not (has_new (longer k end x) (to ds ++ (mid ++ to es)))) ≡ false
      by a true q z = ap (λ c. a && not c) (new_stays x mid ds es q) ∙ and_none a false refl
      by true false q z = cc
      by false false q z = refl

  manner_new : (ds : List Found) (x : Found) (m : Manner) → x.it.manner ≡ m → is_by_define m ≡ false → IsNewThere ds x
  manner_new ds x m e q = three_first (is_by_define x.it.manner) (nat_eq x.it.column 0) (not (has_new x ds)) (ap is_by_define e ∙ q)

  -- the declarations are ds and es, with these between; xs and ys are all that is found, with the function and its parameters between
  pub new_none : (mid ds es xs ys : List Found) → none_new (ds ++ es) (xs ++ ys) ≡ [] → none_new (to ds ++ (mid ++ to es)) (to xs ++ ((f ∷ ps) ++ to ys)) ≡ []
  new_none mid ds es xs ys e =
      let old = ds ++ es in
      let new = to ds ++ (mid ++ to es) in
      let h = all_new old (xs ++ ys) e in
      new_there new (to xs ++ ((f ∷ ps) ++ to ys))
      (all_both (IsNewThere new) (to xs) ((f ∷ ps) ++ to ys) (all_mapped (IsNewThere old) (IsNewThere new) (longer k end) (one_stays mid ds es) xs (all_front (IsNewThere old) xs ys h))
      (all_both (IsNewThere new) (f ∷ ps) (to ys) (manner_new new f _ own.manner refl, all_more (IsParameter k n) (IsNewThere new) (λ x q. manner_new new x _ q.manner refl) ps params)
      (all_mapped (IsNewThere old) (IsNewThere new) (longer k end) (one_stays mid ds es) ys (all_behind (IsNewThere old) xs ys h))))
