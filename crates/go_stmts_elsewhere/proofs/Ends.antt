-- Nodes that are terminating alike.
use Rattle.std.proofs.Common.{◌≡◌, ◌∙◌, ℕ, Bool, true, false, List, [], ◌∷◌, ◌++◌, map, Option, Some, None, refl, sym, ap, is_some}
use Rattle.std.specs.Prelude.{◌-◌, ◌||◌, ◌&&◌, not, if◌then◌else◌}
use Rattle.std.specs.List.{list_any, list_all}
use Rattle.std.specs.Option.{option_map}
use Rattle.go_base.specs.declared.fault.FaultCode.TheVariants as code
use Rattle.go_grammar.specs.declared.kind.Kind.TheVariants as kind
use Rattle.go_types.specs.Trees.{TypeTree}
use Rattle.go_typed.specs.declared.form.Form.{Form}
use Rattle.go_typed.specs.declared.form.Form.TheVariants as form
use Rattle.go_typed.specs.Trees.{typed, row, list_of, form_of}
use Rattle.go_exprs_rules.specs.declared.fault.TypeFault.{TypeFault}
use Rattle.go_exprs_rules.specs.Faults.{fault_at}
use Rattle.go_exprs_rules.specs.Settling.{Part}
use Rattle.go_exprs_rules.specs.Tables.{Parts, on_one}
use Rattle.go_stmts_defs.specs.Targets.{is_panic_call}
use Rattle.go_stmts_defs.specs.Ending.{is_break, lets_break, breaks, any_breaks, last_flag, is_fallthrough, is_fallthrough_part, last_falls, is_default_clause, part_breaks, loop_ends, clauses_end, ends, terminates, which_terminate}
use Rattle.go_stmts_defs.specs.Rules.{has_results, function_failing, judges}
use Rattle.go_stmts_elsewhere.specs.Ends.{FunctionsEnd, ReturnsEnd, EndAlike, AllEndAlike, HasList, NodesEnd, ListsEnd}

list_row : (xs : Parts) → list_of (row xs) ≡ xs
list_row [] = refl
list_row (None ∷ xs) = ap (λ ys. None ∷ ys) (list_row xs)
list_row (Some x ∷ xs) = ap (λ ys. Some x ∷ ys) (list_row xs)

-- which of these parts are terminating
abbrev flags : Parts → List Bool
flags xs = which_terminate (row xs)

-- ---- parts that end alike, one by one

flags_alike : (xs ys : Parts) → AllEndAlike xs ys → flags ys ≡ flags xs
flags_alike [] [] e = refl
flags_alike (None ∷ xs) (None ∷ ys) e = ap (λ bs. false ∷ bs) (flags_alike xs ys e)
flags_alike (Some x ∷ xs) (Some y ∷ ys) e = ap (λ b. b ∷ flags ys) e.0.ending ∙ ap (λ bs. terminates x ∷ bs) (flags_alike xs ys e.1)
flags_alike xs ys e = absurd e

breaks_alike : (xs ys : Parts) → AllEndAlike xs ys → any_breaks (row ys) ≡ any_breaks (row xs)
breaks_alike [] [] e = refl
breaks_alike (None ∷ xs) (None ∷ ys) e = breaks_alike xs ys e
breaks_alike (Some x ∷ xs) (Some y ∷ ys) e = ap (λ b. b || any_breaks (row ys)) e.0.leaving ∙ ap (λ b. breaks x || b) (breaks_alike xs ys e.1)
breaks_alike xs ys e = absurd e

-- what a test says of each part, where it says the same of parts that end alike
told_alike : {A : Type 0} (f : Option Part → A) → ((x y : Part) → EndAlike x y → f (Some y) ≡ f (Some x)) → (xs ys : Parts) → AllEndAlike xs ys → map f ys ≡ map f xs
told_alike f e [] [] w = refl
told_alike f e (None ∷ xs) (None ∷ ys) w = ap (λ zs. f None ∷ zs) (told_alike f e xs ys w)
told_alike f e (Some x ∷ xs) (Some y ∷ ys) w = ap (λ z. z ∷ map f ys) (e x y w.0) ∙ ap (λ zs. f (Some x) ∷ zs) (told_alike f e xs ys w.1)
told_alike f e xs ys w = absurd w

-- ---- what nodes look at, over lists of flags

falls_by : (xs : Parts) → last_falls xs ≡ last_flag (map is_fallthrough_part xs)
falls_by [] = refl
falls_by (x ∷ []) = refl
falls_by (x ∷ y ∷ ys) = falls_by (y ∷ ys)

abbrev loop_by : List Bool → List Bool → Bool
loop_by (a ∷ false ∷ c ∷ d ∷ []) (p ∷ q ∷ r ∷ b ∷ []) = not b
loop_by xs ys = false

loop_flags : (xs : Parts) → loop_ends xs ≡ loop_by (map (λ (o : Option Part). is_some o) xs) (map part_breaks xs)
loop_flags [] = refl
loop_flags (a ∷ []) = refl
loop_flags (a ∷ None ∷ []) = refl
loop_flags (a ∷ Some b ∷ xs) = refl
loop_flags (a ∷ None ∷ c ∷ []) = refl
loop_flags (a ∷ None ∷ c ∷ b ∷ []) = refl
loop_flags (a ∷ None ∷ c ∷ b ∷ d ∷ xs) = refl

any_flags : (f : Option Part → Bool) (xs : Parts) → list_any f xs ≡ list_any (λ (b : Bool). b) (map f xs)
any_flags f [] = refl
any_flags f (x ∷ xs) = ap (λ b. f x || b) (any_flags f xs)

abbrev clauses_by : List Bool → List Bool → List Bool → Bool
clauses_by (a ∷ t ∷ ds) (p ∷ q ∷ ks) (b ∷ c ∷ bs) = list_any (λ (x : Bool). x) ds && not (list_any (λ (x : Bool). x) ks) && list_all (λ (x : Bool). x) bs
clauses_by ds ks bs = false

clauses_flags : (xs : Parts) (bs : List Bool) → clauses_end xs bs ≡ clauses_by (map is_default_clause xs) (map part_breaks xs) bs
clauses_flags [] bs = refl
clauses_flags (a ∷ []) bs = refl
clauses_flags (a ∷ t ∷ xs) [] = refl
clauses_flags (a ∷ t ∷ xs) (b ∷ []) = refl
clauses_flags (a ∷ t ∷ xs) (b ∷ c ∷ bs) = let e = any_flags is_default_clause xs in let f = any_flags part_breaks xs in cc

abbrev panic_part : Option Part → Option Bool
panic_part o = option_map is_panic_call o

abbrev one_by : List (Option Bool) → Bool
one_by (Some b ∷ []) = b
one_by bs = false

one_flag : (xs : Parts) → on_one false is_panic_call xs ≡ one_by (map panic_part xs)
one_flag [] = refl
one_flag (None ∷ xs) = refl
one_flag (Some x ∷ []) = refl
one_flag (Some x ∷ y ∷ ys) = refl

-- ---- nodes

module _ (xs ys : Parts) (e : AllEndAlike xs ys) where
  breaks_told : map part_breaks ys ≡ map part_breaks xs
  breaks_told = told_alike part_breaks (λ x y w. w.leaving) xs ys e

  falls_same : last_falls ys ≡ last_falls xs
  falls_same = falls_by ys ∙ ap last_flag (told_alike is_fallthrough_part (λ x y w. w.falls) xs ys e) ∙ sym (falls_by xs)

  loop_same : loop_ends ys ≡ loop_ends xs
  loop_same =
      loop_flags ys ∙ ap (λ bs. loop_by bs (map part_breaks ys)) (told_alike (λ (o : Option Part). is_some o) (λ x y w. refl) xs ys e)
      ∙ ap (loop_by (map (λ (o : Option Part). is_some o) xs)) breaks_told ∙ sym (loop_flags xs)

  clauses_same : (bs : List Bool) → clauses_end ys bs ≡ clauses_end xs bs
  clauses_same bs =
      clauses_flags ys bs ∙ ap (λ ds. clauses_by ds (map part_breaks ys) bs) (told_alike is_default_clause (λ x y w. w.default_clause) xs ys e)
      ∙ ap (λ ks. clauses_by (map is_default_clause xs) ks bs) breaks_told ∙ sym (clauses_flags xs bs)

  one_same : on_one false is_panic_call ys ≡ on_one false is_panic_call xs
  one_same = one_flag ys ∙ ap one_by (told_alike panic_part (λ x y w. ap Some w.panics) xs ys e) ∙ sym (one_flag xs)

  ends_same : (f : Form) (bs : List Bool) → ends f ys bs ≡ ends f xs bs
  ends_same form.Expression bs = one_same
  ends_same form.For bs = loop_same
  ends_same form.Switch bs = clauses_same bs
  ends_same (form.Case n) bs = ap (λ b. last_flag bs || b) falls_same
  ends_same form.Default bs = ap (λ b. last_flag bs || b) falls_same
  ends_same f bs = refl

pub nodes_end : NodesEnd
nodes_end f i j a b u v xs ys e = record {
  ending =
      ap (λ zs. ends f zs (flags ys)) (list_row ys) ∙ ap (ends f ys) (flags_alike xs ys e) ∙ ends_same xs ys e f (flags xs) ∙ ap (λ zs. ends f zs (flags xs)) (sym (list_row xs));
  leaving = ap (λ c. is_break f || (lets_break f && c)) (breaks_alike xs ys e);
}

-- ---- lists whose last statements end alike

last_added : (xs : Parts) (s : Part) → last_flag (flags (xs ++ Some s ∷ [])) ≡ terminates s
last_added [] s = refl
last_added (x ∷ []) s = one x s
  where
    one : (x : Option Part) (s : Part) → last_flag (flags (x ∷ Some s ∷ [])) ≡ terminates s
    one None s = refl
    one (Some x) s = refl
last_added (x ∷ y ∷ ys) s = two x y ys s (last_added (y ∷ ys) s)
  where
    two : (x y : Option Part) (ys : Parts) (s : Part) → last_flag (flags ((y ∷ ys) ++ Some s ∷ [])) ≡ terminates s → last_flag (flags ((x ∷ y ∷ ys) ++ Some s ∷ [])) ≡ terminates s
    two None None ys s e = e
    two None (Some y) ys s e = e
    two (Some x) None ys s e = e
    two (Some x) (Some y) ys s e = e

falls_added : (xs : Parts) (s : Part) → last_falls (xs ++ Some s ∷ []) ≡ is_fallthrough (form_of s)
falls_added [] s = refl
falls_added (x ∷ []) s = refl
falls_added (x ∷ y ∷ ys) s = falls_added (y ∷ ys) s

breaks_added : (xs : Parts) (s : Part) → any_breaks (row (xs ++ Some s ∷ [])) ≡ (any_breaks (row xs) || breaks s)
breaks_added [] s = single (breaks s)
  where
    single : (b : Bool) → (b || false) ≡ b
    single true = refl
    single false = refl
breaks_added (None ∷ xs) s = breaks_added xs s
breaks_added (Some x ∷ xs) s = ap (λ b. breaks x || b) (breaks_added xs s) ∙ grouped (breaks x) (any_breaks (row xs)) (breaks s)
  where
    grouped : (a b c : Bool) → (a || (b || c)) ≡ ((a || b) || c)
    grouped true b c = refl
    grouped false b c = refl

module _ (xs ys : Parts) (s t : Part) (e : EndAlike s t) (d : any_breaks (row ys) ≡ any_breaks (row xs)) where
  abbrev before : Parts
  before = xs ++ Some s ∷ []

  abbrev after : Parts
  after = ys ++ Some t ∷ []

  flags_end : last_flag (flags after) ≡ last_flag (flags before)
  flags_end = last_added ys t ∙ e.ending ∙ sym (last_added xs s)

  falls_end : last_falls after ≡ last_falls before
  falls_end = falls_added ys t ∙ e.falls ∙ sym (falls_added xs s)

  breaks_end : any_breaks (row after) ≡ any_breaks (row before)
  breaks_end = breaks_added ys t ∙ ap (λ b. b || breaks t) d ∙ ap (λ b. any_breaks (row xs) || b) e.leaving ∙ sym (breaks_added xs s)

  list_ends : (f : Form) → HasList f → ends f after (flags after) ≡ ends f before (flags before)
  list_ends form.Block w = flags_end
  list_ends (form.Case n) w = let a = flags_end in let b = falls_end in cc
  list_ends form.Default w = let a = flags_end in let b = falls_end in cc
  list_ends f w = absurd w

pub lists_end : ListsEnd
lists_end f w i j a b u v xs ys s t e d = record {
  ending =
      ap (λ zs. ends f zs (flags (ys ++ Some t ∷ []))) (list_row (ys ++ Some t ∷ [])) ∙ list_ends xs ys s t e d f w
      ∙ ap (λ zs. ends f zs (flags (xs ++ Some s ∷ []))) (sym (list_row (xs ++ Some s ∷ [])));
  leaving = ap (λ c. is_break f || (lets_break f && c)) (breaks_end xs ys s t e d);
}

-- ---- functions

unfailing : (ts : List TypeTree) (j : ℕ) (b : Part) → terminates b ≡ true → function_failing ts j b ≡ []
unfailing ts j b e = ap (λ z. if not (has_results ts) || z then [] else fault_at code.MissingReturn (j - 1) j) e ∙ by (not (has_results ts))
  where
    by : (z : Bool) → (if z || true then [] else fault_at code.MissingReturn (j - 1) j) ≡ []
    by true = refl
    by false = refl

abbrev nothing_failing : List TypeFault
nothing_failing = []

either_way : (z : Bool) → (if z then nothing_failing else nothing_failing) ≡ nothing_failing
either_way true = refl
either_way false = refl

pub functions_end : FunctionsEnd
functions_end s i j g b e = ap (λ fs. if judges kind.FunctionDeclaration (Some b ∷ []) then fs else []) (unfailing s.results j b e) ∙ either_way (judges kind.FunctionDeclaration (Some b ∷ []))

pub returns_end : ReturnsEnd
returns_end i j a b u v xs ps = last_added xs (typed form.Return a b v ps)
