-- Rows of texts: what the program writes one behind the other is what the definitions say.
use Rattle.std.proofs.Common.{◌≡◌, ◌∙◌, ℕ, ◌<◌, List, [], ◌∷◌, ◌++◌, length, map, codes, refl, sym, ap, append_assoc}
use Rattle.std.proofs.lemmas.List.{map-append}
use Rattle.std.specs.List.{AllByRecursion}
use Rattle.go_types.specs.Tables.{type_of}
use Rattle.go_types.specs.Trees.{row}
use Rattle.go_typed.specs.Packages.{PackageView}
use Rattle.go_print.specs.Texts.{listed, named, results_text, row_texts}
use Rattle.go_print_laws.specs.Calls.{Argument, variable, argument_text, assigning_text, declaring_text}
use Rattle.go_print_laws.specs.Headers.{header_text}
use Rattle.param_choose.specs.declared.choice.Choice.{Choice as Found}
use Rattle.param_choose.specs.Choosing.{Choice, HoleParameter}
use Rattle.param_choose.specs.Handed.{Handed, HandedHole, choice_shown, handed, handed_hole, hole_shown}
use Rattle.param_choose.specs.Locals.{Variable}
use Rattle.param_choose.specs.Members.{Member}
use Rattle.param_choose.specs.Shown.{variable_view}
use Rattle.escape_check.specs.Lookups.{locals_at}
use Rattle.escape_check.specs.Places.{Sources, local_text, sources_in}
use Rattle.escape_check.specs.Types.{declared_text, hole_numbers, hole_types, parameter_types, result_types, variable_types}
use Rattle.escape_check.specs.Written.{AreKnownTypes}
use Rattle.extract_texts.specs.Shown.{declarations, named_variables, numbers_shown, types_shown, written}
use Rattle.extract_texts.specs.Texts.{call_text, constants_at, header_of, later_variables, result_names, variable_names}

-- ---- what is handed over, as the program holds it

numbers-handed : (hs : List (HoleParameter ℕ)) → map (λ (x : HandedHole ℕ). x.number) (map handed_hole hs) ≡ hole_numbers hs
numbers-handed [] = refl
numbers-handed (h ∷ hs) = ap (λ ns. h.number ∷ ns) (numbers-handed hs)

types-handed : (hs : List (HoleParameter ℕ)) → map (λ (x : HandedHole ℕ). x.type) (map handed_hole hs) ≡ hole_types hs
types-handed [] = refl
types-handed (h ∷ hs) = ap (λ ts. h.type ∷ ts) (types-handed hs)

pub free_told : (c : Found) (h : Choice ℕ) → choice_shown c ≡ handed h → map variable_view c.free.items ≡ h.free
free_told c h e = ap (λ (x : Handed ℕ). x.free) e

pub assigned_told : (c : Found) (h : Choice ℕ) → choice_shown c ≡ handed h → map variable_view c.assigned.items ≡ h.assigned
assigned_told c h e = ap (λ (x : Handed ℕ). x.assigned) e

pub declared_told : (c : Found) (h : Choice ℕ) → choice_shown c ≡ handed h → map variable_view c.declared.items ≡ h.declared
declared_told c h e = ap (λ (x : Handed ℕ). x.declared) e

pub numbers_told : (c : Found) (h : Choice ℕ) → choice_shown c ≡ handed h → numbers_shown c.holes.items ≡ hole_numbers h.holes
numbers_told c h e = ap (λ (x : Handed ℕ). map (λ (y : HandedHole ℕ). y.number) x.holes) e ∙ numbers-handed h.holes

pub types_told : (c : Found) (h : Choice ℕ) → choice_shown c ≡ handed h → types_shown c.holes.items ≡ hole_types h.holes
types_told c h e = ap (λ (x : Handed ℕ). map (λ (y : HandedHole ℕ). y.type) x.holes) e ∙ types-handed h.holes

-- ---- known types

first-part : (n : ℕ) (ts us : List ℕ) → AllByRecursion (λ t. t < n) (ts ++ us) → AllByRecursion (λ t. t < n) ts
first-part n [] us h = tt
first-part n (t ∷ ts) us h = (h.0, first-part n ts us h.1)

second-part : (n : ℕ) (ts us : List ℕ) → AllByRecursion (λ t. t < n) (ts ++ us) → AllByRecursion (λ t. t < n) us
second-part n [] us h = h
second-part n (t ∷ ts) us h = second-part n ts us h.1

pub known_free : (p : PackageView) (c : Found) → AreKnownTypes p (choice_shown c) → AllByRecursion (λ t. t < length p.types.shapes) (variable_types (map variable_view c.free.items))
known_free p c h =
    let n = length p.types.shapes in
    let free = variable_types (map variable_view c.free.items) in
    let given = variable_types (map variable_view c.assigned.items) ++ variable_types (map variable_view c.declared.items) in
    first-part n free (types_shown c.holes.items) (first-part n (free ++ types_shown c.holes.items) given h)

pub known_holes : (p : PackageView) (c : Found) → AreKnownTypes p (choice_shown c) → AllByRecursion (λ t. t < length p.types.shapes) (types_shown c.holes.items)
known_holes p c h =
    let n = length p.types.shapes in
    let free = variable_types (map variable_view c.free.items) in
    let given = variable_types (map variable_view c.assigned.items) ++ variable_types (map variable_view c.declared.items) in
    second-part n free (types_shown c.holes.items) (first-part n (free ++ types_shown c.holes.items) given h)

pub known_assigned : (p : PackageView) (c : Found) → AreKnownTypes p (choice_shown c) → AllByRecursion (λ t. t < length p.types.shapes) (variable_types (map variable_view c.assigned.items))
known_assigned p c h =
    let n = length p.types.shapes in
    let taken = variable_types (map variable_view c.free.items) ++ types_shown c.holes.items in
    let assigned = variable_types (map variable_view c.assigned.items) in
    let declared = variable_types (map variable_view c.declared.items) in
    first-part n assigned declared (second-part n taken (assigned ++ declared) h)

pub known_declared : (p : PackageView) (c : Found) → AreKnownTypes p (choice_shown c) → AllByRecursion (λ t. t < length p.types.shapes) (variable_types (map variable_view c.declared.items))
known_declared p c h =
    let n = length p.types.shapes in
    let taken = variable_types (map variable_view c.free.items) ++ types_shown c.holes.items in
    let assigned = variable_types (map variable_view c.assigned.items) in
    let declared = variable_types (map variable_view c.declared.items) in
    second-part n assigned declared (second-part n taken (assigned ++ declared) h)

-- the names of variables and of others behind them
pub both_names : {T : Type 0} (s : Sources) (m : Member T) (vs us : List (Variable T)) → variable_names s m vs ++ variable_names s m us ≡ variable_names s m (vs ++ us)
both_names s m [] us = refl
both_names s m (v ∷ vs) us = ap (λ ns. local_text s m v.local ∷ ns) (both_names s m vs us)

-- ---- types

module _ (p : PackageView) where
  row-written : (ts : List ℕ) → row_texts (declared_text (sources_in p)) (row (map (type_of p.types.shapes) ts)) ≡ map (written p) ts
  row-written [] = refl
  row-written (t ∷ ts) = ap (λ xs. written p t ∷ xs) (row-written ts)

  named-both : (m : Member ℕ) (vs : List (Variable ℕ)) (ns ts : List (List ℕ)) →
      named (variable_names (sources_in p) m vs ++ ns) (map (written p) (variable_types vs) ++ ts) ≡ named_variables p m vs ++ named ns ts
  named-both m [] ns ts = refl
  named-both m (v ∷ vs) ns ts = ap (λ xs. (local_text (sources_in p) m v.local ++ codes " " ++ written p v.type) ∷ xs) (named-both m vs ns ts)

  parameters-written : (fresh : List (List ℕ)) (m : Member ℕ) (h : Choice ℕ) →
      named (variable_names (sources_in p) m h.free ++ fresh) (row_texts (declared_text (sources_in p)) (row (map (type_of p.types.shapes) (parameter_types h))))
      ≡ named_variables p m h.free ++ named fresh (map (written p) (hole_types h.holes))
  parameters-written fresh m h =
      ap (named (variable_names (sources_in p) m h.free ++ fresh)) (row-written (variable_types h.free ++ hole_types h.holes) ∙ map-append (written p) (variable_types h.free) (hole_types h.holes))
      ∙ named-both m h.free fresh (map (written p) (hole_types h.holes))

  results-written : (h : Choice ℕ) →
      row_texts (declared_text (sources_in p)) (row (map (type_of p.types.shapes) (result_types h))) ≡ map (written p) (variable_types h.assigned) ++ map (written p) (variable_types h.declared)
  results-written h = row-written (variable_types h.assigned ++ variable_types h.declared) ∙ map-append (written p) (variable_types h.assigned) (variable_types h.declared)

  -- a header by its parameters and its results
  abbrev headed : List ℕ → List (List ℕ) → List (List ℕ) → List ℕ
  headed w ps rs = codes "func " ++ w ++ codes "(" ++ listed ps ++ codes ")" ++ results_text rs

  pub header_told : (w : List ℕ) (fresh : List (List ℕ)) (m : Member ℕ) (c : Found) (h : Choice ℕ) → choice_shown c ≡ handed h →
      codes "func " ++ w ++ codes "(" ++ listed (named_variables p m (map variable_view c.free.items) ++ named fresh (map (written p) (types_shown c.holes.items))) ++ codes ")"
      ++ results_text (map (written p) (variable_types (map variable_view c.assigned.items)) ++ map (written p) (variable_types (map variable_view c.declared.items)))
      ≡ header_text (declared_text (sources_in p)) (header_of (type_of p.types.shapes) (sources_in p) w fresh m h)
  header_told w fresh m c h e =
      let given = map (written p) (variable_types (map variable_view c.assigned.items)) ++ map (written p) (variable_types (map variable_view c.declared.items)) in
      let taken = named (variable_names (sources_in p) m h.free ++ fresh) (row_texts (declared_text (sources_in p)) (row (map (type_of p.types.shapes) (parameter_types h)))) in
      ap (λ vs. headed w (named_variables p m vs ++ named fresh (map (written p) (types_shown c.holes.items))) given) (free_told c h e)
      ∙ ap (λ ts. headed w (named_variables p m h.free ++ named fresh (map (written p) ts)) given) (types_told c h e)
      ∙ ap (λ ps. headed w ps given) (sym (parameters-written fresh m h))
      ∙ ap (λ vs. headed w taken (map (written p) (variable_types vs) ++ map (written p) (variable_types (map variable_view c.declared.items)))) (assigned_told c h e)
      ∙ ap (λ vs. headed w taken (map (written p) (variable_types h.assigned) ++ map (written p) (variable_types vs))) (declared_told c h e)
      ∙ ap (headed w taken) (sym (results-written h))

  -- ---- calls

  declaring-written : (m : Member ℕ) (vs : List (Variable ℕ)) →
      declarations p m vs ≡ declaring_text (declared_text (sources_in p)) (variable_names (sources_in p) m vs) (row (map (type_of p.types.shapes) (variable_types vs)))
  declaring-written m [] = refl
  declaring-written m (v ∷ vs) =
      let y = local_text (sources_in p) m v.local in
      let t = written p v.type in
      let rest = declaring_text (declared_text (sources_in p)) (variable_names (sources_in p) m vs) (row (map (type_of p.types.shapes) (variable_types vs))) in
      ap (λ xs. codes "var " ++ (y ++ codes " " ++ t) ++ codes "; " ++ xs) (declaring-written m vs)
      ∙ ap (λ xs. xs ++ codes "; " ++ rest) (sym (append_assoc (codes "var ") (y ++ codes " ") t) ∙ ap (λ xs. xs ++ t) (sym (append_assoc (codes "var ") y (codes " "))))

  texts-appended : (xs : List (List ℕ)) (gs : List Argument) → map argument_text (map variable xs ++ gs) ≡ xs ++ map argument_text gs
  texts-appended [] gs = refl
  texts-appended (x ∷ xs) gs = ap (λ ys. x ∷ ys) (texts-appended xs gs)

  abbrev called : List ℕ → List ℕ → List (List ℕ) → List (List ℕ) → List ℕ
  called w ds rs gs = ds ++ assigning_text rs ++ w ++ codes "(" ++ listed gs ++ codes ")"

  -- a call by its declarations, its results and its arguments
  pub call_told : (w : List ℕ) (t : Member ℕ) (h : Choice ℕ) (m : Member ℕ) (ds : List ℕ) (rs gs : List (List ℕ)) →
      ds ≡ declarations p m (later_variables t h m) → rs ≡ result_names (sources_in p) t h m →
      gs ≡ map (local_text (sources_in p) m) (locals_at t m h.free) ++ map argument_text (constants_at (hole_numbers h.holes) m) →
      ds ++ assigning_text rs ++ w ++ codes "(" ++ listed gs ++ codes ")" ≡ call_text (type_of p.types.shapes) (sources_in p) w t h m
  call_told w t h m ds rs gs d r g =
      let names = map (local_text (sources_in p) m) (locals_at t m h.free) in
      ap (λ xs. called w xs rs gs) (d ∙ declaring-written m (later_variables t h m))
      ∙ ap (λ xs. called w (declaring_text (declared_text (sources_in p)) (variable_names (sources_in p) m (later_variables t h m)) (row (map (type_of p.types.shapes) (variable_types (later_variables t h m))))) xs gs) r
      ∙ ap (λ xs. called w (declaring_text (declared_text (sources_in p)) (variable_names (sources_in p) m (later_variables t h m)) (row (map (type_of p.types.shapes) (variable_types (later_variables t h m))))) (result_names (sources_in p) t h m) xs)
      (g ∙ sym (texts-appended names (constants_at (hole_numbers h.holes) m)))
