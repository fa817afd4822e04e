-- A function behind more right sides has its own types under higher numbers.
use Rattle.std.proofs.Common.{◌≡◌, ◌∙◌, ℕ, zero, suc, ◌+◌, ◌-◌, ◌<◌, ◌≤◌, nat_lt, Bool, true, false, List, [], ◌∷◌, ◌++◌, length, Option, Some, None, refl, sym, ap, arith}
use Rattle.std.proofs.lemmas.Bool.Decides.{nat_tests}
use Rattle.std.proofs.lemmas.List.{length-append}
use Rattle.std.specs.Prelude.{if◌then◌else◌, is_some, replicate, slice_get}
use Rattle.std.specs.Option.{option_map}
use Rattle.go_grammar.specs.Trees.{Tree}
use Rattle.go_types.specs.Relations.{Rights}
use Rattle.go_types.specs.Trees.{TypeTree, boolean, text, integer, array, slice, structure, function, declared, TypeRow}
use Rattle.go_types.specs.Trees as types
use Rattle.go_typed.specs.Trees as sort
use Rattle.go_types_relations.specs.Questions.{entry, flat}
use Rattle.go_types_relations.specs.Renaming.{renamed, renamed_row, IsOneToOne, AreRenamed}
use Rattle.go_package_laws.specs.Reach.{Within, RowWithin, MaybeWithin, StandsWithin}
use Rattle.go_exprs_rules.specs.Sorts.{Stands}
use Rattle.go_stmts_defs.specs.Bodies.{no_locals, start}
use Rattle.go_package_defs.specs.Bodies.{Surroundings, Portion, count_types, function_of, function_over, function_with, local_type, scope_of, stands_among}
use Rattle.go_renumbering.specs.Renumbered.{stands_renamed}
use Rattle.go_renumbering.specs.Frames.{has_place, locals_renamed, RenamedFrames}
use Rattle.go_renumbering.specs.Functions.{RenamedFunctions, shifted, AreBelow}
use Rattle.go_renumbering.proofs.Functions.{functions_renamed}

-- ---- lists of right sides

get_front : (xs ys : Rights) (i : ℕ) → i < length xs → slice_get (xs ++ ys) i ≡ slice_get xs i
get_front [] ys i h = absurd (omega (arith, h))
get_front (x ∷ xs) ys zero h = refl
get_front (x ∷ xs) ys (suc i) h = get_front xs ys i (omega (arith, h))

get_behind : (xs ys : Rights) (i j : ℕ) → i ≡ length xs + j → slice_get (xs ++ ys) i ≡ slice_get ys j
get_behind [] ys i j e = ap (slice_get ys) (omega (arith, e))
get_behind (x ∷ xs) ys zero j e = absurd (omega (arith, e))
get_behind (x ∷ xs) ys (suc i) j e = get_behind xs ys i j (omega (arith, e))

abbrev nothing : ℕ → Rights
nothing n = replicate n None

no_entry : (n i : ℕ) → entry (nothing n) i ≡ None
no_entry zero i = refl
no_entry (suc n) zero = refl
no_entry (suc n) (suc i) = no_entry n i

-- where the types of a function begin
local_from : (m : ℕ) (bs : List Bool) (n : ℕ) → local_type m bs n ≡ m + local_type 0 bs n
local_from m [] n = omega arith
local_from m (b ∷ bs) zero = omega arith
local_from m (true ∷ bs) (suc n) = omega (arith, local_from (suc m) bs n, local_from 1 bs n)
local_from m (false ∷ bs) (suc n) = local_from m bs n

module _ (k m : ℕ) where
  abbrev name : ℕ → ℕ
  name = shifted k m

  abbrev below : ℕ → Bool
  below i = nat_lt i k

  low : (n : ℕ) → n < k → name n ≡ n
  low n h = grind (arith, nat_tests, h)

  high : (n : ℕ) → k ≤ n → name n ≡ n + m
  high n h = grind (arith, nat_tests, h)

  one_to_one : IsOneToOne name
  one_to_one i j e = grind (arith, nat_tests, e)

  -- ---- types below

  mutual
    type_same : (t : TypeTree) → Within below t → renamed name t ≡ t
    type_same boolean h = refl
    type_same text h = refl
    type_same (integer i) h = refl
    type_same (array n t) h = ap (array n) (type_same t h)
    type_same (slice t) h = ap slice (type_same t h)
    type_same (structure ns ts) h = ap (structure ns) (row_same ts h)
    type_same (function ps rs) h = ap (λ xs. function xs (renamed_row name rs)) (row_same ps h.0) ∙ ap (function ps) (row_same rs h.1)
    type_same (declared n) h = ap (λ b. declared (if b then n else n + m)) h

    row_same : (ts : TypeRow) → RowWithin below ts → renamed_row name ts ≡ ts
    row_same types.none h = refl
    row_same (types.more t ts) h = ap (λ x. types.more x (renamed_row name ts)) (type_same t h.0) ∙ ap (types.more t) (row_same ts h.1)

  maybe_same : (o : Option TypeTree) → MaybeWithin below o → option_map (renamed name) o ≡ o
  maybe_same None h = refl
  maybe_same (Some t) h = ap (λ x. Some x) (type_same t h)

  stands_same : (x : Stands) → StandsWithin below x → stands_renamed name x ≡ x
  stands_same (sort.IsType t) h = ap sort.IsType (type_same t h)
  stands_same (sort.Value t) h = ap sort.Value (type_same t h)
  stands_same (sort.Constant t c) h = ap (λ x. sort.Constant x c) (type_same t h)
  stands_same (sort.Results t) h = ap sort.Results (type_same t h)
  stands_same x h = refl

locals_same : (name : ℕ → ℕ) (n : ℕ) → no_locals n ≡ locals_renamed name (no_locals n)
locals_same name zero = refl
locals_same name (suc n) = ap (λ ls. None ∷ ls) (locals_same name n)

-- ---- functions

module _ (a : Surroundings) (rights more : Rights) (bs : List Bool) (o : Portion) (h : AreBelow (length rights) a rights) where
  abbrev k : ℕ
  k = length rights

  abbrev m : ℕ
  m = length more

  abbrev own : Rights
  own = replicate (count_types bs) None

  abbrev old : Rights
  old = rights ++ own

  abbrev new : Rights
  new = (rights ++ more) ++ own

  many : length (rights ++ more) ≡ k + m
  many = length-append rights more

  -- old and new right sides of one number
  entry_low : (n : ℕ) → n < k → entry new n ≡ option_map (renamed (shifted k m)) (entry old n)
  entry_low n lt =
      ap flat (get_front (rights ++ more) own n (omega (arith, lt, many)) ∙ get_front rights more n lt)
      ∙ sym (maybe_same k m (entry rights n) (h.rights n))
      ∙ ap (λ x. option_map (renamed (shifted k m)) (flat x)) (sym (get_front rights own n lt))

  entry_high : (n : ℕ) → k ≤ n → entry new (n + m) ≡ option_map (renamed (shifted k m)) (entry old n)
  entry_high n le =
      ap flat (get_behind (rights ++ more) own (n + m) (n - k) (omega (arith, le, many)))
      ∙ no_entry (count_types bs) (n - k)
      ∙ ap (option_map (renamed (shifted k m))) (sym (no_entry (count_types bs) (n - k)) ∙ sym (ap flat (get_behind rights own n (n - k) (omega (arith, le)))))

  rights_renamed : AreRenamed (shifted k m) old new
  rights_renamed n = by (nat_lt n k) refl
    where
      by : (b : Bool) → nat_lt n k ≡ b → entry new (shifted k m n) ≡ option_map (renamed (shifted k m)) (entry old n)
      by true e = ap (entry new) (low k m n (grind (arith, nat_tests, e))) ∙ entry_low n (grind (arith, nat_tests, e))
      by false e = ap (entry new) (high k m n (grind (arith, nat_tests, e))) ∙ entry_high n (grind (arith, nat_tests, e))

  -- the types of a function
  type_moved : (n : ℕ) → local_type (length (rights ++ more)) bs n ≡ shifted k m (local_type k bs n)
  type_moved n =
      local_from (length (rights ++ more)) bs n
      ∙ omega (arith, many, local_from k bs n)
      ∙ sym (high k m (local_type k bs n) (omega (arith, local_from k bs n)))

  place_same : (n : ℕ) → has_place new (shifted k m (local_type k bs n)) ≡ has_place old (local_type k bs n)
  place_same n =
      let j = local_type 0 bs n in
      ap (has_place new) (high k m (local_type k bs n) (omega (arith, local_from k bs n)))
      ∙ ap is_some (get_behind (rights ++ more) own (local_type k bs n + m) j (omega (arith, many, local_from k bs n)))
      ∙ sym (ap is_some (get_behind rights own (local_type k bs n) j (local_from k bs n)))

  starts : RenamedFrames (shifted k m) (start (scope_of a old o) (length bs) (local_type k bs)) (start (scope_of a new o) (length bs) (local_type (length (rights ++ more)) bs))
  starts = record {
    one_to_one = one_to_one k m;
    rights = rights_renamed;
    room = place_same;
    iota = refl;
    texts = λ i. refl;
    characters = λ i. refl;
    objects = λ i. refl;
    sorts = λ n x. sym (stands_same k m (stands_among a.objects n x) (h.objects n x));
    referents = λ n. refl;
    needed = refl;
    limits = refl;
    locals = locals_same (shifted k m) (length bs);
    types = type_moved;
    source = refl;
    tag = refl;
    results = refl;
  }

  over_more : (number : ℕ) (t : Tree) → RenamedFunctions (shifted k m) (function_over a rights number bs o t) (function_over a (rights ++ more) number bs o t)
  over_more number t = functions_renamed (shifted k m) (scope_of a old o) (scope_of a new o) (length bs) (local_type k bs) (local_type (length (rights ++ more)) bs) starts number t

  with_tree : (number : ℕ) (t : Option Tree) → RenamedFunctions (shifted k m) (function_with a rights number bs o t) (function_with a (rights ++ more) number bs o t)
  with_tree number None = refl
  with_tree number (Some t) = over_more number t

pub behind_more : (a : Surroundings) (rights more : Rights) (number : ℕ) (bs : List Bool) (o : Portion) → AreBelow (length rights) a rights
    → RenamedFunctions (shifted (length rights) (length more)) (function_of a rights number bs o) (function_of a (rights ++ more) number bs o)
behind_more a rights more number bs o h = with_tree a rights more bs o h number o.tree
