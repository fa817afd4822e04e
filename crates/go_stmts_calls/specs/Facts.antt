-- Where a call is read: facts about its names, its constants and its types, and about what stands in front of the statements whose place it takes.
use Rattle.std.specs.Prelude.{◌≡◌, ℕ, suc, ◌⊎◌, Bool, true, false, List, [], ◌∷◌, map, Some, None}
use Rattle.std.specs.Fmt.{decimal}
use Rattle.std.specs.Prelude.{codes}
use Rattle.go_constants.specs.declared.values.Const.{Const}
use Rattle.go_grammar.specs.Trees.{last}
use Rattle.go_tree.specs.declared.object.Object.TheVariants as object
use Rattle.go_types.specs.Trees.{TypeTree, boolean, text, integer, array, slice, structure, function, declared, TypeRow, none, more}
use Rattle.go_typed.specs.Trees as sort
use Rattle.go_exprs_rules.specs.Scopes.{Needed, Scope}
use Rattle.go_exprs_rules.specs.Sorts.{Stands, kind_of_const, suits, represents}
use Rattle.go_print.specs.Texts.{kind_text}
use Rattle.go_print_laws.specs.Calls.{Argument, variable, constant, argument_tree, names_end}
use Rattle.go_print_laws.specs.Reading.{in_universe, IsWithin, ReadsLiteral, CanBeRead, unmarked}
use Rattle.go_print_laws.specs.Trees.{type_tree, list_end}
use Rattle.go_stmts_defs.specs.Frames.{Frame, local_stands, rights_of, scope_of}
use Rattle.go_exprs_elsewhere.specs.Elsewhere.{Moves}
use Rattle.go_stmts_elsewhere.specs.Frames.{has_room}
use Rattle.go_stmts_elsewhere.specs.Replaced.{Related}
use Rattle.go_stmts_calls.specs.Places.{PlacedCall, ReadsCall, is_among}

-- the local is the one of these that is declared last as this type
abbrev pub IsResult : List ℕ → TypeRow → ℕ → TypeTree → Type 0
IsResult [] us k u = ⊥
IsResult (a ∷ ks) none k u = ⊥
IsResult (a ∷ ks) (more t us) k u = ((a ≡ k) × (t ≡ u) × (is_among ks k ≡ false)) ⊎ IsResult ks us k u

-- In front of the statements whose place a call takes this is known; in the function of the scope t, where locals that count have new numbers,
-- the call declares these of them, as variables of these types.
module _ (m : Moves) (l : ℕ → Bool) (t : Scope) (front : Frame) (results : List ℕ) (types : TypeRow) where
  -- ---- names

  -- The token means a local that counts and isn't declared with the call, and that stands for this in front of the statements.
  pub record NamesLocal (i : ℕ) (x : Stands) : Type 0 where
    pub local : ℕ
    pub counts : l local ≡ true
    pub stays : is_among results local ≡ false
    pub means : (e : ℕ) × (t.objects i ≡ Some (object.Local e (m.local local)))
    pub stands : local_stands front.locals local ≡ x

  -- It means a result that is declared with the call.
  pub record NamesResult (i : ℕ) (u : TypeTree) : Type 0 where
    pub local : ℕ
    pub counts : l local ≡ true
    pub means : (e : ℕ) × (t.objects i ≡ Some (object.Local e (m.local local)))
    pub is : IsResult results types local u
    pub room : has_room front.locals local ≡ true

  pub data NamesTarget (i : ℕ) (u : TypeTree) : Type 0 where
    nothing : t.objects i ≡ None → NamesTarget i u
    assigned : NamesLocal i (sort.Value u) → NamesTarget i u
    result : NamesResult i u → NamesTarget i u

  -- a declared type, of the package or of the function
  pub data NamesType (i n : ℕ) : Type 0 where
    of_package : (a : ℕ) → t.objects i ≡ Some (object.Package a) → ((need : Needed) → t.sorts need (object.Package a) ≡ sort.IsType (declared n)) → NamesType i n
    of_function : NamesLocal i (sort.IsType (declared n)) → NamesType i n

  -- ---- types

  abbrev mutual
    -- The type is spelled from this token on.
    pub Spells : ℕ → TypeTree → Type 0
    Spells i boolean = t.objects i ≡ in_universe (codes "bool")
    Spells i text = t.objects i ≡ in_universe (codes "string")
    Spells i (integer k) = t.objects i ≡ in_universe (kind_text k)
    Spells i (array n u) = (t.texts (suc i) ≡ decimal n) × Spells (suc (suc (suc i))) u
    Spells i (slice u) = Spells (suc (suc i)) u
    Spells i (structure ns us) = SpellsFields (suc (suc i)) ns us
    Spells i (function ps rs) = SpellsRow (suc (suc i)) ps × SpellsResults (suc (list_end (suc (suc i)) ps)) rs
    Spells i (declared n) = NamesType i n

    pub SpellsRow : ℕ → TypeRow → Type 0
    SpellsRow i none = Unit {0}
    SpellsRow i (more u us) = Spells i u × SpellsRow (suc (last (type_tree i u))) us

    pub SpellsResults : ℕ → TypeRow → Type 0
    SpellsResults i none = Unit {0}
    SpellsResults i (more u none) = Spells i u
    SpellsResults i (more u (more v vs)) = Spells (suc i) u × SpellsRow (suc (last (type_tree (suc i) u))) (more v vs)

    pub SpellsFields : ℕ → List (List ℕ) → TypeRow → Type 0
    SpellsFields i [] none = Unit {0}
    SpellsFields i [] (more u us) = ⊥
    SpellsFields i (n ∷ ns) none = ⊥
    SpellsFields i (n ∷ ns) (more u us) = (t.texts i ≡ n) × Spells (suc i) u × SpellsFields (suc (last (type_tree (suc i) u))) ns us

  -- ---- the call

  -- A constant is spelled from this token on, and may be given to a variable of the type.
  pub record SpellsConstant (i : ℕ) (v : Const) (u : TypeTree) : Type 0 where
    pub read : CanBeRead v
    pub reads : ReadsLiteral t i v
    pub kind : suits (rights_of front) (kind_of_const (unmarked v)) u ≡ true
    pub range : represents (rights_of front) u (unmarked v) ≡ true

  abbrev pub IsGiven : ℕ → Argument → TypeTree → Type 0
  IsGiven i (variable w) u = NamesLocal i (sort.Value u)
  IsGiven i (constant v) u = SpellsConstant i v u

  abbrev pub FurtherGiven : ℕ → List Argument → TypeRow → Type 0
  FurtherGiven i [] none = Unit {0}
  FurtherGiven i (a ∷ gs) (more u us) = IsGiven (suc i) a u × FurtherGiven (last (argument_tree (suc i) a)) gs us
  FurtherGiven i gs us = ⊥

  abbrev pub AreGiven : ℕ → List Argument → TypeRow → Type 0
  AreGiven i [] none = Unit {0}
  AreGiven i (a ∷ gs) (more u us) = IsGiven i a u × FurtherGiven (last (argument_tree i a)) gs us
  AreGiven i gs us = ⊥

  abbrev pub FurtherNamed : ℕ → List (List ℕ) → TypeRow → Type 0
  FurtherNamed i [] none = Unit {0}
  FurtherNamed i (x ∷ xs) (more u us) = NamesTarget (suc i) u × FurtherNamed (suc (suc i)) xs us
  FurtherNamed i xs us = ⊥

  pub record NamesFunction (i number : ℕ) (ps rs : TypeRow) : Type 0 where
    pub means : t.objects i ≡ Some (object.Package number)
    pub stands : (n : Needed) → t.sorts n (object.Package number) ≡ sort.Value (function ps rs)

  abbrev pub IsCalled : ℕ → List (List ℕ) → ℕ → List Argument → TypeRow → TypeRow → Type 0
  IsCalled i [] number gs ps rs = NamesFunction i number ps rs × AreGiven (suc (suc i)) gs ps
  IsCalled i (x ∷ xs) number gs ps none = ⊥
  IsCalled i (x ∷ xs) number gs ps (more r rs) =
      NamesTarget i r × FurtherNamed (suc i) xs rs × NamesFunction (suc (names_end (suc i) xs)) number ps (more r rs) × AreGiven (suc (suc (suc (names_end (suc i) xs)))) gs ps

  -- `var y T`, where y is this local under its new number
  pub record Declares (i k : ℕ) (u : TypeTree) : Type 0 where
    pub counts : l k ≡ true
    pub means : (e : ℕ) × (t.objects (suc i) ≡ Some (object.Local e (m.local k)))
    pub spells : Spells (suc (suc i)) u
    pub within : IsWithin (scope_of front) u

  abbrev pub IsWritten : ℕ → List (List ℕ) → TypeRow → List ℕ → List (List ℕ) → ℕ → List Argument → TypeRow → TypeRow → Type 0
  IsWritten i [] none [] xs number gs ps rs = IsCalled i xs number gs ps rs
  IsWritten i (y ∷ ys) (more u us) (k ∷ ks) xs number gs ps rs = Declares i k u × IsWritten (suc (last (type_tree (suc (suc i)) u))) ys us ks xs number gs ps rs
  IsWritten i ys us ks xs number gs ps rs = ⊥

-- Where these are the facts the call is read, in all frames that are related to the one in front of the statements.
abbrev pub CallsAreReadInPlace : Type 0
CallsAreReadInPlace = (p q : ℕ → Bool) (m : Moves) (l : ℕ → Bool) (s t : Scope) (front g : Frame) (c : PlacedCall) (results : List ℕ)
    → IsWritten m l t front results c.types c.first c.declared c.types results c.targets c.function c.arguments c.parameters c.results
    → Related p q m l s t front g → ReadsCall g c (map m.local results)
