-- The locals of the functions of a package where a function is appended to a file.
use Rattle.std.proofs.Common.{◌≡◌, ◌∙◌, ℕ, suc, Bool, true, false, ◌&&◌, ◌||◌, List, [], ◌∷◌, ◌++◌, length, map, refl, ap, subst}
use Rattle.std.specs.Prelude.{if◌then◌else◌}
use Rattle.std.specs.List.{AllByRecursion}
use Rattle.go_tree.specs.declared.context.Block.{Block}
use Rattle.go_tree.specs.declared.context.Block.TheVariants as block
use Rattle.go_tree.specs.declared.object.Declared.{Declared}
use Rattle.go_tree.specs.Contexts.{is_package}
use Rattle.go_tree.specs.Declarations.{Found, is_function, new_among}
use Rattle.go_tree.specs.Units.{Unit}
use Rattle.go_tree.specs.Uses.{declared_by, declared_in_package, begins_function, own_locals, function_locals, count_functions}
use Rattle.go_heads_added.specs.Added.{IsAdded, IsParameter, LiesIn, MayStand, AreHoused, housed, gap_in, longer, longer_declared}
use Rattle.go_heads_added.specs.Kept.{KeepsLocals}
use Rattle.go_heads_added.proofs.Found.{found_before}
use Rattle.go_heads_added.proofs.Names.{all, rest, kept, others, added, declarations_were, declarations_are, parameters_new}
use Rattle.go_heads_added.proofs.Needing.{functions_in_front}

false_true : {A : Type 0} → false ≡ true → A
false_true e = cc

-- in front of the first function there are no locals
none_housed : (ds : List Found) → AreHoused false ds → own_locals ds ≡ []
none_housed [] h = refl
none_housed (d ∷ ds) h = by d.it.block (is_function d.it.entity) refl h.0 h.1 (λ w. none_housed ds w)
  where
    by : (b : Block) (f : Bool) → is_function d.it.entity ≡ f → MayStand false b → AreHoused (housed false b d.it.entity) ds → (AreHoused false ds → own_locals ds ≡ [])
        → (if is_package b && is_function d.it.entity then [] else if is_package b then own_locals ds else declared_by d ∷ own_locals ds) ≡ []
    by block.Package true e m a w = ap (λ c. if c then [] else own_locals ds) e
    by block.Package false e m a w = ap (λ c. if c then [] else own_locals ds) e ∙ w (subst (λ c. AreHoused (c || false) ds) e a)
    by (block.Local j) f e m a w = false_true m

own_append : (xs ys : List Found) → own_locals ys ≡ [] → own_locals (xs ++ ys) ≡ own_locals xs
own_append [] ys e = e
own_append (x ∷ xs) ys e = by (begins_function x) (is_package x.it.block) (own_append xs ys e)
  where
    by : (b c : Bool) → own_locals (xs ++ ys) ≡ own_locals xs → (if b then [] else if c then own_locals (xs ++ ys) else declared_by x ∷ own_locals (xs ++ ys)) ≡ (if b then [] else if c then own_locals xs else declared_by x ∷ own_locals xs)
    by true c h = refl
    by false true h = h
    by false false h = ap (λ l. declared_by x ∷ l) h

functions_append : (xs ys : List Found) → own_locals ys ≡ [] → function_locals (xs ++ ys) ≡ function_locals xs ++ function_locals ys
functions_append [] ys e = refl
functions_append (x ∷ xs) ys e = by (begins_function x) (functions_append xs ys e)
  where
    by : (b : Bool) → function_locals (xs ++ ys) ≡ function_locals xs ++ function_locals ys
        → (if b then own_locals (xs ++ ys) ∷ function_locals (xs ++ ys) else function_locals (xs ++ ys)) ≡ (if b then own_locals xs ∷ function_locals xs else function_locals xs) ++ function_locals ys
    by true h = ap (λ l. l ∷ function_locals (xs ++ ys)) (own_append xs ys e) ∙ ap (λ l. own_locals xs ∷ l) h
    by false h = h

module _ (k end : ℕ) where
  abbrev to : List Declared → List Declared
  to ds = map (longer_declared k end) ds

  own_longer : (xs : List Found) → own_locals (map (longer k end) xs) ≡ to (own_locals xs)
  own_longer [] = refl
  own_longer (x ∷ xs) = by (begins_function x) (is_package x.it.block) (own_longer xs)
    where
      by : (b c : Bool) → own_locals (map (longer k end) xs) ≡ to (own_locals xs)
          → (if b then [] else if c then own_locals (map (longer k end) xs) else declared_by (longer k end x) ∷ own_locals (map (longer k end) xs)) ≡ to (if b then [] else if c then own_locals xs else declared_by x ∷ own_locals xs)
      by true c h = refl
      by false true h = h
      by false false h = ap (λ l. declared_by (longer k end x) ∷ l) h

  functions_longer : (xs : List Found) → function_locals (map (longer k end) xs) ≡ map to (function_locals xs)
  functions_longer [] = refl
  functions_longer (x ∷ xs) = by (begins_function x) (functions_longer xs)
    where
      by : (b : Bool) → function_locals (map (longer k end) xs) ≡ map to (function_locals xs)
          → (if b then own_locals (map (longer k end) xs) ∷ function_locals (map (longer k end) xs) else function_locals (map (longer k end) xs)) ≡ map to (if b then own_locals xs ∷ function_locals xs else function_locals xs)
      by true h = ap (λ l. l ∷ function_locals (map (longer k end) xs)) (own_longer xs) ∙ ap (λ l. to (own_locals xs) ∷ l) h
      by false h = h

parameters_none : (k n : ℕ) (ps ys : List Found) → AllByRecursion (IsParameter k n) ps → function_locals (ps ++ ys) ≡ function_locals ys
parameters_none k n [] ys h = refl
parameters_none k n (p ∷ ps) ys h =
    ap (λ b. if is_package b && is_function p.it.entity then own_locals (ps ++ ys) ∷ function_locals (ps ++ ys) else function_locals (ps ++ ys)) h.0.block ∙ parameters_none k n ps ys h.1

locals_count : (ds : List Found) → length (function_locals ds) ≡ count_functions (declared_in_package ds)
locals_count [] = refl
locals_count (d ∷ ds) = by (is_package d.it.block) (locals_count ds)
  where
    one : (f : Bool) (l : List Declared) (ls : List (List Declared)) (n : ℕ) → length ls ≡ n → length (if f then l ∷ ls else ls) ≡ (if f then suc n else n)
    one true l ls n h = ap suc h
    one false l ls n h = h

    by : (b : Bool) → length (function_locals ds) ≡ count_functions (declared_in_package ds)
        → length (if b && is_function d.it.entity then own_locals ds ∷ function_locals ds else function_locals ds) ≡ count_functions (if b then declared_by d ∷ declared_in_package ds else declared_in_package ds)
    by true h = one (is_function d.it.entity) (own_locals ds) (function_locals ds) (count_functions (declared_in_package ds)) h
    by false h = h

module _ (k n : ℕ) (name : List ℕ) (old new : List Unit) (h : IsAdded k n name old new) (i : LiesIn k n name old new h) where
  abbrev end : ℕ
  end = h.longer.end

  abbrev parameters : List Found
  parameters = new_among (all k n name old new h i) h.longer.parameters

  abbrev first_ones : List Found
  first_ones = kept k n name old new h i

  abbrev other_ones : List Found
  other_ones = others k n name old new h i

  rest_none : own_locals other_ones ≡ []
  rest_none = none_housed other_ones (subst (λ ds. AreHoused false (new_among ds (rest k n name old new h i))) (found_before k n name old new h i) i.rest_housed)

  function_begins : begins_function h.longer.function ≡ true
  function_begins = ap (λ b. is_package b && is_function h.longer.function.it.entity) h.longer.is_function.block ∙ ap is_function h.longer.is_function.entity

  abbrev own : List Declared
  own = own_locals (parameters ++ map (longer k end) other_ones)

  behind_function : function_locals (added k n name old new h i ++ map (longer k end) other_ones) ≡ own ∷ map (to k end) (function_locals other_ones)
  behind_function =
      ap (λ b. if b then own ∷ function_locals (parameters ++ map (longer k end) other_ones) else function_locals (parameters ++ map (longer k end) other_ones)) function_begins
      ∙ ap (λ l. own ∷ l) (parameters_none k n parameters (map (longer k end) other_ones) (parameters_new k n (all k n name old new h i) h.longer.parameters h.longer.are_parameters) ∙ functions_longer k end other_ones)

  none_of_function : own_locals (added k n name old new h i ++ map (longer k end) other_ones) ≡ []
  none_of_function =
      ap (λ b. if b then [] else if is_package h.longer.function.it.block then own_locals (parameters ++ map (longer k end) other_ones) else declared_by h.longer.function ∷ own_locals (parameters ++ map (longer k end) other_ones)) function_begins

  pub locals_kept : KeepsLocals k end (gap_in k n name old new h) old new
  locals_kept = record {
    first = function_locals first_ones;
    second = function_locals other_ones;
    own = own;
    were = ap function_locals (declarations_were k n name old new h i) ∙ functions_append first_ones other_ones rest_none;
    are =
        ap function_locals (declarations_are k n name old new h i)
        ∙ functions_append (map (longer k end) first_ones) (added k n name old new h i ++ map (longer k end) other_ones) none_of_function
        ∙ ap (λ l. l ++ function_locals (added k n name old new h i ++ map (longer k end) other_ones)) (functions_longer k end first_ones)
        ∙ ap (λ l. map (to k end) (function_locals first_ones) ++ l) behind_function;
    place = locals_count first_ones ∙ functions_in_front k n name old new h i;
  }
