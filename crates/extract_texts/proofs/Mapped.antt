-- Texts are the same over other words for types.
use Rattle.std.proofs.Common.{◌≡◌, ◌∙◌, ℕ, Bool, true, false, List, [], ◌∷◌, ◌++◌, length, map, Option, Some, None, slice_get, codes, refl, sym, ap}
use Rattle.std.proofs.lemmas.List.{map-append, length-map}
use Rattle.std.proofs.lemmas.Option.{slice_get-map}
use Rattle.std.specs.Prelude.{if◌then◌else◌}
use Rattle.std.specs.Option.{option_map}
use Rattle.go_tree.specs.Units.{Place}
use Rattle.go_types.specs.Trees.{TypeTree, TypeRow, row}
use Rattle.go_typed.specs.Trees.{Sort, sort_mapped}
use Rattle.go_print_laws.specs.Calls.{Argument, variable}
use Rattle.go_print_laws.specs.Calls as calls
use Rattle.go_print_laws.specs.Headers as headers
use Rattle.param_choose.specs.Choosing.{Choice, HoleParameter}
use Rattle.param_choose.specs.Holes.{Hole, holes}
use Rattle.param_choose.specs.Locals.{Variable, variable_at, variables_where}
use Rattle.param_choose.specs.Members.{Member, local_at, occurs_later}
use Rattle.param_choose.proofs.Public.{choice_mapped, held-mapped, hole_mapped, holes-mapped, local-at-mapped, member_mapped, parameter_renamed, variable-at-mapped, variable_mapped}
use Rattle.escape_check.specs.Lookups.{locals_at}
use Rattle.escape_check.specs.Places.{Sources, local_text}
use Rattle.escape_check.specs.Types.{declared_text, hole_numbers, hole_types, parameter_types, result_types, variable_types}
use Rattle.extract_texts.specs.Fresh.{fresh_names}
use Rattle.extract_texts.specs.Texts.{arguments, call_of, call_text, constant_at, constant_in, constants_at, file_text, function_text, function_with, header_of, hole_bytes, later_variables, result_name, result_names, returning_text, variable_names, window_bytes, with_names}

module _ {T : Type 0} (g : T → TypeTree) (s : Sources) where
  abbrev whole : TypeTree → TypeTree
  whole x = x

  -- ---- variables and holes

  if-mapped : (b : Bool) (vs : List (Variable T)) → (if b then map (variable_mapped g) vs else []) ≡ map (variable_mapped g) (if b then vs else [])
  if-mapped true vs = refl
  if-mapped false vs = refl

  where-mapped : (sorts : List (Sort T)) (test : ℕ → Bool) (ns : List ℕ) → variables_where (map (sort_mapped g) sorts) test ns ≡ map (variable_mapped g) (variables_where sorts test ns)
  where-mapped sorts test [] = refl
  where-mapped sorts test (n ∷ ns) =
      ap (λ vs. (if test n then vs else []) ++ variables_where (map (sort_mapped g) sorts) test ns) (variable-at-mapped g sorts n)
      ∙ ap (λ vs. vs ++ variables_where (map (sort_mapped g) sorts) test ns) (if-mapped (test n) (variable_at sorts n))
      ∙ ap (λ vs. map (variable_mapped g) (if test n then variable_at sorts n else []) ++ vs) (where-mapped sorts test ns)
      ∙ sym (map-append (variable_mapped g) (if test n then variable_at sorts n else []) (variables_where sorts test ns))

  locals-mapped : (t m : Member T) (vs : List (Variable T)) → locals_at (member_mapped g t) (member_mapped g m) (map (variable_mapped g) vs) ≡ locals_at t m vs
  locals-mapped t m [] = refl
  locals-mapped t m (v ∷ vs) =
      ap (λ n. n ∷ locals_at (member_mapped g t) (member_mapped g m) (map (variable_mapped g) vs)) (local-at-mapped g t m v.local)
      ∙ ap (λ ns. local_at t m v.local ∷ ns) (locals-mapped t m vs)

  names-mapped : (m : Member T) (vs : List (Variable T)) → variable_names s (member_mapped g m) (map (variable_mapped g) vs) ≡ variable_names s m vs
  names-mapped m [] = refl
  names-mapped m (v ∷ vs) = ap (λ ns. local_text s m v.local ∷ ns) (names-mapped m vs)

  both-named : (m : Member T) (vs us : List (Variable T)) → variable_names s (member_mapped g m) (map (variable_mapped g) vs ++ map (variable_mapped g) us) ≡ variable_names s m (vs ++ us)
  both-named m [] us = names-mapped m us
  both-named m (v ∷ vs) us = ap (λ ns. local_text s m v.local ∷ ns) (both-named m vs us)

  types-mapped : (vs : List (Variable T)) → map whole (variable_types (map (variable_mapped g) vs)) ≡ map g (variable_types vs)
  types-mapped [] = refl
  types-mapped (v ∷ vs) = ap (λ ts. g v.type ∷ ts) (types-mapped vs)

  hole-types-mapped : (hs : List (HoleParameter T)) → map whole (hole_types (map (parameter_renamed g) hs)) ≡ map g (hole_types hs)
  hole-types-mapped [] = refl
  hole-types-mapped (h ∷ hs) = ap (λ ts. g h.type ∷ ts) (hole-types-mapped hs)

  numbers-mapped : (hs : List (HoleParameter T)) → hole_numbers (map (parameter_renamed g) hs) ≡ hole_numbers hs
  numbers-mapped [] = refl
  numbers-mapped (h ∷ hs) = ap (λ ns. h.number ∷ ns) (numbers-mapped hs)

  both-mapped : (xs ys : List TypeTree) (ts us : List T) → map whole xs ≡ map g ts → map whole ys ≡ map g us → map whole (xs ++ ys) ≡ map g (ts ++ us)
  both-mapped xs ys ts us e f = map-append whole xs ys ∙ ap (λ l. l ++ map whole ys) e ∙ ap (λ l. map g ts ++ l) f ∙ sym (map-append g ts us)

  constant-mapped : (o : Option (Hole T)) → constant_at (option_map (hole_mapped g) o) ≡ constant_at o
  constant-mapped None = refl
  constant-mapped (Some h) = ap constant_in (held-mapped g h.sort)

  constants-mapped : (m : Member T) (ns : List ℕ) → constants_at ns (member_mapped g m) ≡ constants_at ns m
  constants-mapped m [] = refl
  constants-mapped m (n ∷ ns) =
      ap (λ hs. constant_at (slice_get hs n) ++ constants_at ns (member_mapped g m)) (holes-mapped g 0 false m.statements)
      ∙ ap (λ o. constant_at o ++ constants_at ns (member_mapped g m)) (slice_get-map (hole_mapped g) (holes m) n)
      ∙ ap (λ xs. xs ++ constants_at ns (member_mapped g m)) (constant-mapped (slice_get (holes m) n))
      ∙ ap (λ xs. constant_at (slice_get (holes m) n) ++ xs) (constants-mapped m ns)

  places-mapped : (m : Member T) (hs : List (HoleParameter T)) → map (λ p. hole_bytes s (member_mapped g m) p.hole) (map (parameter_renamed g) hs) ≡ map (λ p. hole_bytes s m p.hole) hs
  places-mapped m [] = refl
  places-mapped m (h ∷ hs) = ap (λ ps. hole_bytes s m h.hole ∷ ps) (places-mapped m hs)

  -- ---- calls

  abbrev called : List ℕ → List (List ℕ) → TypeRow → List (List ℕ) → List Argument → List ℕ
  called name ds ts rs gs = calls.call_text (declared_text s) (record { declared = ds; types = ts; results = rs; function = name; arguments = gs })

  results-mapped : (t : Member T) (h : Choice T) (m : Member T) → result_names s (member_mapped g t) (choice_mapped g h) (member_mapped g m) ≡ result_names s t h m
  results-mapped t h m =
      ap (λ ns. map (local_text s m) ns ++ map (result_name s m) (locals_at (member_mapped g t) (member_mapped g m) (map (variable_mapped g) h.declared))) (locals-mapped t m h.assigned)
      ∙ ap (λ ns. map (local_text s m) (locals_at t m h.assigned) ++ map (result_name s m) ns) (locals-mapped t m h.declared)

  arguments-mapped : (t : Member T) (h : Choice T) (m : Member T) → arguments s (member_mapped g t) (choice_mapped g h) (member_mapped g m) ≡ arguments s t h m
  arguments-mapped t h m =
      ap (λ ns. map variable (map (local_text s m) ns) ++ constants_at (hole_numbers (map (parameter_renamed g) h.holes)) (member_mapped g m)) (locals-mapped t m h.free)
      ∙ ap (λ ns. map variable (map (local_text s m) (locals_at t m h.free)) ++ constants_at ns (member_mapped g m)) (numbers-mapped h.holes)
      ∙ ap (λ xs. map variable (map (local_text s m) (locals_at t m h.free)) ++ xs) (constants-mapped m (hole_numbers h.holes))

  later-mapped : (t : Member T) (h : Choice T) (m : Member T) → later_variables (member_mapped g t) (choice_mapped g h) (member_mapped g m) ≡ map (variable_mapped g) (later_variables t h m)
  later-mapped t h m =
      ap (variables_where (map (sort_mapped g) m.locals) (occurs_later m)) (locals-mapped t m h.declared) ∙ where-mapped m.locals (occurs_later m) (locals_at t m h.declared)

  pub call-mapped : (name : List ℕ) (t : Member T) (h : Choice T) (m : Member T) → call_text whole s name (member_mapped g t) (choice_mapped g h) (member_mapped g m) ≡ call_text g s name t h m
  call-mapped name t h m =
      let c = call_of whole s name (member_mapped g t) (choice_mapped g h) (member_mapped g m) in
      let later = later_variables t h m in
      ap (λ vs. called name (variable_names s (member_mapped g m) vs) (row (map whole (variable_types vs))) c.results c.arguments) (later-mapped t h m)
      ∙ ap (λ ds. called name ds (row (map whole (variable_types (map (variable_mapped g) later)))) c.results c.arguments) (names-mapped m later)
      ∙ ap (λ ts. called name (variable_names s m later) (row ts) c.results c.arguments) (types-mapped later)
      ∙ ap (λ rs. called name (variable_names s m later) (row (map g (variable_types later))) rs c.arguments) (results-mapped t h m)
      ∙ ap (called name (variable_names s m later) (row (map g (variable_types later))) (result_names s t h m)) (arguments-mapped t h m)

  -- ---- functions

  abbrev headed : List ℕ → List (List ℕ) → TypeRow → TypeRow → List ℕ
  headed name ps ts rs = headers.header_text (declared_text s) (record { function = name; parameters = ps; types = ts; results = rs })

  abbrev written : Member T → List (List ℕ) → List ℕ → List Place → List (List ℕ) → List ℕ
  written t fresh header ps rs =
      codes "\n" ++ header ++ codes " {\n" ++ with_names (file_text s t) (window_bytes s t).start (window_bytes s t).end ps fresh ++ codes "\n" ++ returning_text rs ++ codes "}\n"

  parameters-mapped : (h : Choice T) → map whole (parameter_types (choice_mapped g h)) ≡ map g (parameter_types h)
  parameters-mapped h =
      both-mapped (variable_types (map (variable_mapped g) h.free)) (hole_types (map (parameter_renamed g) h.holes)) (variable_types h.free) (hole_types h.holes)
      (types-mapped h.free) (hole-types-mapped h.holes)

  given-mapped : (h : Choice T) → map whole (result_types (choice_mapped g h)) ≡ map g (result_types h)
  given-mapped h =
      both-mapped (variable_types (map (variable_mapped g) h.assigned)) (variable_types (map (variable_mapped g) h.declared)) (variable_types h.assigned) (variable_types h.declared)
      (types-mapped h.assigned) (types-mapped h.declared)

  with-mapped : (name : List ℕ) (fresh : List (List ℕ)) (t : Member T) (h : Choice T) →
      function_with whole s name fresh (member_mapped g t) (choice_mapped g h) ≡ function_with g s name fresh t h
  with-mapped name fresh t h =
      let c = choice_mapped g h in
      let u = member_mapped g t in
      let names = variable_names s t h.free ++ fresh in
      let header = headers.header_text (declared_text s) (header_of g s name fresh t h) in
      let places = map (λ p. hole_bytes s u p.hole) c.holes in
      let given = variable_names s u (c.assigned ++ c.declared) in
      ap (λ ns. written t fresh (headed name (ns ++ fresh) (row (map whole (parameter_types c))) (row (map whole (result_types c)))) places given) (names-mapped t h.free)
      ∙ ap (λ ts. written t fresh (headed name names (row ts) (row (map whole (result_types c)))) places given) (parameters-mapped h)
      ∙ ap (λ ts. written t fresh (headed name names (row (map g (parameter_types h))) (row ts)) places given) (given-mapped h)
      ∙ ap (λ ps. written t fresh header ps given) (places-mapped t h.holes)
      ∙ ap (written t fresh header (map (λ p. hole_bytes s t p.hole) h.holes)) (both-named t h.assigned h.declared)

  pub function-mapped : (name : List ℕ) (t : Member T) (h : Choice T) → function_text whole s name (member_mapped g t) (choice_mapped g h) ≡ function_text g s name t h
  function-mapped name t h =
      ap (λ n. function_with whole s name (fresh_names s name n) (member_mapped g t) (choice_mapped g h)) (length-map h.holes (parameter_renamed g))
      ∙ with-mapped name (fresh_names s name (length h.holes)) t h
